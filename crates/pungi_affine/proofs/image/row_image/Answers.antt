use Rattle.std.proofs.Common.{◌≡◌, ◌∙◌, ◌^◌, arith, rules, ap}
use Rattle.std.proofs.lemmas.Int.{to_z-of_z}
use mir.Syntax.{w128}
use mir.Val.{SFits}
use Rattle.pungi_domain.specs.Vectors.{at, image, IsWithin}
use Rattle.pungi_affine.proofs.Exact.{each_pushed}
use Rattle.pungi_affine.proofs.image.row_image.Goals as goal

pub loop-i-preserved : goal.loop-i-preserved
loop-i-preserved c =
    let f : SFits w128 c.image_at.result = search rules in
    record {
      lengths = search rules;
      each = rw (c.in_ok-push.ensures.items, to_z-of_z w128 c.image_at.result f)
          (each_pushed (λ j x. (x ≡ image c.args.matrix.now (at c.as_slice-kept.result.now) j) × IsWithin (2 ^ 126) x)
          c.loop-i.entries.items c.loop-i.i c.image_at.result c.loop-i.invariant.lengths c.loop-i.invariant.each
          (c.image_at.ensures.value, c.image_at.ensures.within));
    }

pub returns : goal.returns
returns c =
    let n = c.loop-i.invariant.lengths in
    record {
      lengths = omega arith;
      each = λ i lt. let h = c.loop-i.invariant.each i (omega (arith, lt)) in
          (h.0 ∙ ap (λ xs. image c.args.matrix.now (at xs) i) (c.as_slice-kept.ensures.value ∙ c.in_ok-kept.ensures), h.1);
    }
