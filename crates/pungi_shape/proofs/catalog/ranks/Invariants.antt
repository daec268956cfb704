use Rattle.std.proofs.Common.{◌≡◌, ◌<◌, ℕ, length, slice_get, Some}
use Rattle.pungi_shape.proofs.catalog.ranks.Given as goal

abbrev pub invariant-loop : goal.invariant-loop
invariant-loop l = length l.ranks.items ≡ l.index

abbrev pub invariant-loop-rank : goal.invariant-loop-rank
invariant-loop-rank l =
    (length l.ranks.items ≡ length l.order)
    × ((i k : ℕ) → i < l.rank → slice_get l.order i ≡ Some k → slice_get l.ranks.items k ≡ Some i)
