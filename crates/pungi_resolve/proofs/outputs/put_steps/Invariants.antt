use Rattle.std.proofs.Common.{◌≡◌, ◌++◌, drop}
use Rattle.pungi_resolve.proofs.outputs.put_steps.Given as goal

abbrev pub invariant-loop-out : goal.invariant-loop-out
invariant-loop-out l = l.steps ++ drop l.out-index l.outs ≡ l.fn.steps ++ l.outs
