use Rattle.std.proofs.Common.{arith}
use Rattle.std.proofs.lemmas.Int.{ints}
use Rattle.pungi_diff.proofs.BoundsLemmas.{applied}
use Rattle.pungi_diff.proofs.search.apply.Goals as goal

pub loop-i-preserved : goal.loop-i-preserved
loop-i-preserved c =
    let small = c.requires.small c.loop-i.i (omega arith) in
    let here = c.loop-i.invariant.left c.loop-i.i (omega arith) in
    let r = applied c.args.value.now c.loop-i.value c.args.gap.now c.loop-i.i _ (omega arith)
    (omega (arith, ints, small, here)) c.loop-i.invariant.done c.loop-i.invariant.left in
    record { done = r.0; left = r.1 }
