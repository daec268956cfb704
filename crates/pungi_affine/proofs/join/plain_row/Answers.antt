use Rattle.std.proofs.Common.{refl, rules}
use Rattle.std.proofs.lemmas.Int.{to_z-of_z}
use mir.Syntax.{w64, w128}
use mir.Val.{SFits}
use Rattle.pungi_affine.proofs.Products.{box_fits}
use Rattle.pungi_affine.proofs.join.plain_row.Goals as goal

pub returns : goal.returns
returns c =
    let g : SFits w128 c.pivot_entry.result = search rules in
    let h = rw (
      c.in-Some.is,
      to_z-of_z w128 c.pivot_entry.result g,
      to_z-of_z w64 c.args.d c.ranges.d,
      c.pivot_entry.ensures,
    ) at c.factor_to.ensures in
    let f = box_fits c.in-Some.factor h.1 in
    record {
      factor = c.in-Some.factor;
      multiple = rw (to_z-of_z w64 c.in-Some.factor f) at c.in_ok-row.ensures;
      own = h.0;
      zeros = c.if-not-are_zero_at.ensures refl;
      small = rw c.as_slice.ensures.value at (c.has_large.ensures.no c.if-has_large.false);
    }
