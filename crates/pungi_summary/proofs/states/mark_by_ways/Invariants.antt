use Rattle.std.proofs.Common.{◌≡◌, ◌<◌, ℕ, Some, length}
use Rattle.std.specs.Prelude.{slice_get}
use Rattle.pungi_fixpoint.specs.Summaries.{flatten}
use Rattle.pungi_summary.specs.States.{state_of}
use Rattle.pungi_summary.proofs.states.mark_by_ways.Given as goal

abbrev pub invariant-loop-f : goal.invariant-loop-f
invariant-loop-f g l = record {
  states : (j : ℕ) → j < l.f → slice_get l.summaries.states j
      ≡ Some (state_of l.outcomes j (flatten (slice_get l.large j)) (flatten (slice_get l.failing j)));
  count : length l.summaries.states ≡ length l.fn.summaries.states;
  exits : l.summaries.exits ≡ l.fn.summaries.exits;
}
