use Rattle.pungi_check.proofs.CountLemmas.{CallersBelow}
use Rattle.pungi_check.proofs.callers.callers_of.Given as goal

abbrev pub invariant-loop-caller : goal.invariant-loop-caller
invariant-loop-caller l = CallersBelow l.functions l.callers.items l.caller
