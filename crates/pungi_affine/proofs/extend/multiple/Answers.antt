use Rattle.std.proofs.Common.{◌≡◌, ◌+◌, ◌^◌, ◌*ℤ◌, rules}
use Rattle.std.proofs.lemmas.Int.{to_z-of_z}
use mir.Syntax.{w64, w128}
use mir.Val.{SFits}
use Rattle.pungi_domain.specs.Vectors.{at, IsWithin}
use Rattle.pungi_affine.proofs.Exact.{each_pushed}
use Rattle.pungi_affine.proofs.extend.multiple.Goals as goal

pub loop-i-preserved : goal.loop-i-preserved
loop-i-preserved c =
    let f : SFits w128 c.multiple_entry.result = search rules in
    let inv = rw (to_z-of_z w64 c.args.d c.ranges.d) at c.loop-i.invariant.each in
    let v = rw (to_z-of_z w64 c.args.d c.ranges.d) at c.multiple_entry.ensures.value in
    record {
      lengths = search rules;
      each = rw (
        to_z-of_z w64 c.args.d c.ranges.d,
        c.in_ok-push.ensures.items,
        to_z-of_z w128
            c.multiple_entry.result f,
      ) (each_pushed (λ j x. (x ≡ c.args.d *ℤ at c.as_slice-u.result.now j)
          × IsWithin (2 ^ 125 + 2 ^ 90) x) c.loop-i.entries.items c.loop-i.i c.multiple_entry.result
          c.loop-i.invariant.lengths inv (v, c.multiple_entry.ensures.within));
    }
