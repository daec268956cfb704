use Rattle.std.proofs.Common.{◌≡◌, ◌++◌, map}
use Rattle.pungi_explore.proofs.visit.put_states.Given as goal

abbrev pub invariant-loop-state : goal.invariant-loop-state
invariant-loop-state l = l.pending ≡ l.initial.pending ++ map (λ p. p.1) l.yielded
