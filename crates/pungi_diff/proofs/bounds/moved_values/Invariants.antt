use Rattle.std.proofs.Common.{◌≡◌, ◌<◌, ℕ, length, ◌-ℤ◌}
use Rattle.pungi_diff.specs.Constraint.{at}
use Rattle.pungi_diff.proofs.bounds.moved_values.Given as goal

abbrev pub invariant-loop-v : goal.invariant-loop-v
invariant-loop-v l = record {
  lengths : length l.moved.items ≡ l.v-index;
  each : (u : ℕ) → u < l.v-index → at l.moved.items u ≡ at l.value u -ℤ at l.value 0;
}
