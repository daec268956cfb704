use Rattle.std.proofs.Common.{◌≡◌, ℕ, ◌<◌, ◌≤◌}
use Rattle.pungi_diff.specs.Constraint.{at}
use Rattle.pungi_diff.specs.Search.{lowered}
use Rattle.pungi_diff.proofs.search.apply.Given as goal

abbrev pub invariant-loop-i : goal.invariant-loop-i
invariant-loop-i l = record {
  done : (u : ℕ) → u < l.i → at l.value u ≡ lowered l.initial.value l.gap u;
  left : (u : ℕ) → l.i ≤ u → at l.value u ≡ at l.initial.value u;
}
