use Rattle.std.proofs.lemmas.Int.{to_z-of_z}
use mir.Syntax.{w64}
use Rattle.pungi_affine.specs.Forms.{lines}
use Rattle.pungi_affine.specs.Parts.{IsPartOf}
use Rattle.pungi_affine.specs.Mixes.{IsLeftPart}
use Rattle.pungi_affine.proofs.Fills.{if_ok_so}
use Rattle.pungi_affine.proofs.LargeRows.{box_long}
use Rattle.pungi_affine.proofs.LeftParts.{zero_left_part}
use Rattle.pungi_domain.specs.Vectors.{at}
use Rattle.pungi_affine.proofs.residual.left_part.Goals as goal

pub part_of-requires-clause-long : goal.part_of-requires-clause-long
part_of-requires-clause-long c = λ i lt. box_long (at c.args.v.now i) (c.requires.v i lt)

pub returns-then-is_zero_at_pivots : goal.returns-then-is_zero_at_pivots
returns-then-is_zero_at_pivots c =
    if_ok_so c.part_of.result (IsPartOf c.args.v.now) (IsLeftPart c.args.d (lines c.args.rows.now) c.args.v.now)
    (zero_left_part c.args.d (lines c.args.rows.now) c.args.v.now c.requires.d c.requires.positive c.requires.v
    (c.is_zero_at_pivots.ensures c.if-is_zero_at_pivots.true)) c.part_of.ensures

pub returns : goal.returns
returns c =
    let left = rw (to_z-of_z w64 c.args.d c.ranges.d) at c.in_ok-left.ensures in
    if_ok_so c.part_of-2.result (IsPartOf c.as_slice.result.now)
    (IsLeftPart c.args.d (lines c.args.rows.now) c.args.v.now)
    (λ o h. (c.in_ok-left.left.items, left, rw c.as_slice.ensures.value at h)) c.part_of-2.ensures
