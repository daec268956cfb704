use Rattle.pungi_check.specs.Worklist.{NoCallers}
use Rattle.pungi_check.proofs.callers.no_callers.Given as goal

abbrev pub invariant-loop : goal.invariant-loop
invariant-loop l = NoCallers l.counter l.callers.items
