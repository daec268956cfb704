use Rattle.std.proofs.Common.{arith}
use Rattle.pungi_emit.proofs.expr.OutputSteps.{size_done}
use Rattle.pungi_emit.proofs.expr.output_size.after_missing.Goals as goal

pub returns : goal.returns
returns c =
    let n = size_done c.loop-arg.left.now c.args.args.now c.loop-arg._arg-index (omega arith) in
    omega (arith, n, c.loop-arg.invariant)
