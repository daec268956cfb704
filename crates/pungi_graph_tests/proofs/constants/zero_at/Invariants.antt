use Rattle.std.proofs.Common.{◌≡◌, ℕ, ◌<◌, ◌^◌, length}
use Rattle.pungi_domain.specs.Vectors.{IsWithin, at}
use Rattle.pungi_graph_tests.proofs.constants.zero_at.Given as goal

abbrev pub invariant-loop-k : goal.invariant-loop-k
invariant-loop-k l =
    (length l.coefficients ≡ l.k) × ((i : ℕ) → i < l.k → IsWithin (2 ^ 20) (at l.coefficients i))
