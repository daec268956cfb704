use Rattle.pungi_summary.proofs.Callables.{AreFitBelow}
use Rattle.pungi_summary.proofs.callable.are_callable.Given as goal

abbrev pub invariant-loop-f : goal.invariant-loop-f
invariant-loop-f l = AreFitBelow l.programs l.callees l.f
