use Rattle.std.proofs.Common.{◌≡◌, ℕ, ◌<◌, slice_index}
use Rattle.pungi_diff.proofs.search.clear_ranks.Given as goal

abbrev pub invariant-loop-r : goal.invariant-loop-r
invariant-loop-r l = (u : ℕ) → u < l.r-index → slice_index l.rank u ≡ 4294967295
