use Rattle.std.proofs.Common.{below_more, arith}
use Rattle.std.proofs.lemmas.Int.{ints}
use Rattle.pungi_domain.specs.Flat.{value_at}
use Rattle.pungi_domain.proofs.Dots.{row_sum_more}
use Rattle.pungi_domain.proofs.constants.row_constant.Goals as goal

pub loop-k-preserved : goal.loop-k-preserved
loop-k-preserved c =
    let t = c.in_ok-row_term.ensures in
    let e = t.is in
    let s = c.in_ok-sum.ensures in
    let m = row_sum_more c.args.row.now (value_at c.args.constants.now) c.loop-k.k c.loop-k-test.true in
    record { known = below_more _ _ c.loop-k.invariant.known t.known; is = omega (arith, ints, m, e, s) }
