use Rattle.std.proofs.Common.{arith}
use Rattle.std.proofs.lemmas.Int.{ints, to_z-of_z}
use mir.Syntax.{w64}
use Rattle.pungi_domain.specs.Vectors.{at}
use Rattle.pungi_affine.specs.Forms.{lines}
use Rattle.pungi_affine.proofs.Fills.{fill_nothing}
use Rattle.pungi_affine.proofs.residual.leaves_nothing.Goals as goal

pub returns-then-is_zero_at_pivots : goal.returns-then-is_zero_at_pivots
returns-then-is_zero_at_pivots c =
    let n = rw (to_z-of_z w64 c.args.d c.ranges.d) at c.are_nothing.ensures in
    λ yes i lt. let h = n yes i lt in let f = fill_nothing (at c.args.v.now) (lines c.args.rows.now) i
    (c.is_zero_at_pivots.ensures c.if-is_zero_at_pivots.true) in omega (arith, ints, h, f)
