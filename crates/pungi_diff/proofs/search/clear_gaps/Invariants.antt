use Rattle.std.proofs.Common.{◌≡◌, ℕ, ◌<◌, pos}
use Rattle.pungi_diff.specs.Constraint.{at}
use Rattle.pungi_diff.proofs.search.clear_gaps.Given as goal

abbrev pub invariant-loop-g : goal.invariant-loop-g
invariant-loop-g l = (u : ℕ) → u < l.g-index → at l.gap u ≡ pos 0
