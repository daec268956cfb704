use Rattle.std.proofs.Common.{◌≡◌, ◌<◌, ℕ, pos, slice_index, ◌≤ℤ◌, ◌<ℤ◌, MatchOption}
use Rattle.pungi_diff.specs.Constraint.{at}
use Rattle.pungi_diff.specs.Search.{IsOpen}
use Rattle.pungi_diff.proofs.search.least.Given as goal

abbrev pub invariant-loop-place : goal.invariant-loop-place
invariant-loop-place l = record {
  bounds : (p : ℕ) → p < l.place → IsOpen l.rank (slice_index l.fringe p)
      → l.bound ≤ℤ at l.gap (slice_index l.fringe p);
  best : MatchOption l.best (l.bound ≡ pos 0) (λ b. (b < l.place) × IsOpen l.rank (slice_index l.fringe b)
      × (at l.gap (slice_index l.fringe b) ≡ l.bound) × (l.bound <ℤ pos 0));
}
