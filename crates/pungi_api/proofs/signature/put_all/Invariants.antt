use Rattle.std.proofs.Common.{◌≡◌, ◌++◌, drop}
use Rattle.pungi_api.proofs.signature.put_all.Given as goal

abbrev pub invariant-loop-param : goal.invariant-loop-param
invariant-loop-param l = l.params ++ drop l.param-index l.given ≡ l.fn.params ++ l.given
