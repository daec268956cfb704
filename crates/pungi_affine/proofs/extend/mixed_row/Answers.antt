use Rattle.std.proofs.Common.{◌≡◌, ◌+◌, ◌^◌, lit<, arith, rules, refl}
use Rattle.std.proofs.lemmas.Int.{to_z-of_z}
use mir.Syntax.{w128}
use mir.Val.{SFits}
use Rattle.pungi_domain.specs.Vectors.{IsWithin}
use Rattle.pungi_affine.specs.Mixes.{mixed_entry}
use Rattle.pungi_affine.specs.Rows.{row_entries}
use Rattle.pungi_affine.proofs.Exact.{each_pushed}
use Rattle.pungi_affine.proofs.AddLemmas.{long_of}
use Rattle.pungi_affine.proofs.extend.mixed_row.Goals as goal

pub loop-i-preserved : goal.loop-i-preserved
loop-i-preserved c =
    let f : SFits w128 c.mixed_entry.result = search rules in
    record {
      lengths = search rules;
      each = rw (c.in_ok-push.ensures.items, to_z-of_z w128 c.mixed_entry.result f)
          (each_pushed (λ j x. (x ≡ mixed_entry c.args.u.now c.args.q (row_entries c.args.row.now) j)
          × IsWithin (2 ^ 126 + 2 ^ 91) x) c.loop-i.entries.items c.loop-i.i c.mixed_entry.result
          c.loop-i.invariant.lengths c.loop-i.invariant.each (
            c.mixed_entry.ensures.value,
            c.mixed_entry.ensures.within,
          ));
    }

pub returns : goal.returns
returns c =
    let n = c.loop-i.invariant.lengths in
    record {
      pivot = refl;
      lengths = omega arith;
      each = λ i lt. (c.loop-i.invariant.each i (omega (arith, lt))).0;
      long = λ i lt. long_of (2 ^ 126 + 2 ^ 91) _ (lit< tt) (c.loop-i.invariant.each i (omega (arith, n, lt))).1;
    }
