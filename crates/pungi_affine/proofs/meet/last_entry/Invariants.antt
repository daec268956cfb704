use Rattle.std.proofs.Common.{◌≡◌, ◌<◌, ◌≤◌, ◌-◌, ℕ, pos, length}
use Rattle.pungi_domain.specs.Vectors.{at}
use Rattle.pungi_affine.proofs.meet.last_entry.Given as goal

abbrev pub invariant-loop-k : goal.invariant-loop-k
invariant-loop-k l = (j : ℕ) → l.n - l.k ≤ j → j < length l.sums → at l.sums j ≡ pos 0
