use Rattle.std.proofs.Common.{◌≡◌, ◌^◌, arith, rules}
use Rattle.std.proofs.lemmas.Int.{to_z-of_z}
use mir.Syntax.{w64, w128}
use mir.Val.{SFits}
use Rattle.pungi_domain.specs.Vectors.{at, IsWithin}
use Rattle.pungi_affine.specs.Forms.{lines}
use Rattle.pungi_affine.specs.Steps.{residual}
use Rattle.pungi_affine.proofs.Exact.{each_pushed}
use Rattle.pungi_affine.proofs.residual.residual_entries.Goals as goal

pub loop-i-preserved : goal.loop-i-preserved
loop-i-preserved c =
    let f : SFits w128 c.residual_entry.result = search rules in
    let inv = rw (to_z-of_z w64 c.args.d c.ranges.d) at c.loop-i.invariant.each in
    let v = rw (to_z-of_z w64 c.args.d c.ranges.d) at c.residual_entry.ensures.value in
    record {
      lengths = search rules;
      each = rw (
        to_z-of_z w64 c.args.d c.ranges.d,
        c.in_ok-push.ensures.items,
        to_z-of_z w128
            c.residual_entry.result f,
      ) (each_pushed (λ j x. (x
          ≡ residual c.args.d (lines c.args.rows.now) (at c.args.v.now) j) × IsWithin (2 ^ 71) x) c.loop-i.left.items
          c.loop-i.i c.residual_entry.result c.loop-i.invariant.lengths inv (v, c.residual_entry.ensures.within));
    }

pub returns : goal.returns
returns c =
    let inv = rw (to_z-of_z w64 c.args.d c.ranges.d) at c.loop-i.invariant.each in
    let n = c.loop-i.invariant.lengths in
    record {
      lengths = omega arith;
      each = λ i lt. (inv i (omega (arith, lt))).0;
      within = λ i lt. (inv i (omega (arith, lt))).1;
    }
