use Rattle.std.proofs.Common.{take}
use Rattle.pungi_check.specs.Worklist.{Added}
use Rattle.pungi_check.proofs.callers.add_calls.Given as goal

abbrev pub invariant-loop-callee : goal.invariant-loop-callee
invariant-loop-callee l = Added l.fn.callers.items l.callers.items l.caller (take l.callee-index l.callees.items)
