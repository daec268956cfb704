use Rattle.std.proofs.Common.{◌<◌, ◌^◌, arith}
use Rattle.pungi_verdict.proofs.Callees.{calls-it}
use Rattle.pungi_verdict.proofs.across.push_callee.Goals as goal

pub overflow_cast-callee : goal.overflow_cast-callee
overflow_cast-callee c =
    let lt : c.in-Call.g < 2 ^ 32 = c.requires c.in-Call.g
    (calls-it c.args.line.now c.in-Call.field-0 c.in-Call.g c.in-Call.field-2 c.in-Call.is) in
    omega (arith, lt)
