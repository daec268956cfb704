use Rattle.std.proofs.Common.{map}
use Rattle.pungi_explore.specs.Visits.{Puts}
use Rattle.pungi_explore.proofs.visit.put_all_possible.Given as goal

abbrev pub invariant-loop-decision : goal.invariant-loop-decision
invariant-loop-decision l = Puts (map (λ p. p.1) l.yielded) l.initial.pending l.pending
