-- The states at the end, by the outcomes of the search and the ways to functions with large steps and with duties that
-- fail.
--   by_duties outcome way      the state where nothing that the function reaches was large
--   by_failing places exits way    so by the places from which edges with such duties lead
--   inherited o f way          the state of f by the large step of the outcome that its way leads to
--   unless_large outcomes o f large failing, unless_shapes outcomes o f large failing,
--   state_of outcomes f large failing
--                              the state of f
--   AreStates ps callees outcomes states    the states are so, by ways from all functions that have one
use Rattle.std.specs.Prelude.{◌≡◌, ℕ, ◌<◌, ◌==◌, List, length, map, Option, None, Some, cond, slice_get}
use Rattle.pungi_domain.specs.declared.affine_program.AffineProgram.{AffineProgram}
use Rattle.pungi_fixpoint.specs.Summaries.{flatten}
use Rattle.pungi_fixpoint.specs.declared.state.State.{State}
use Rattle.pungi_fixpoint.specs.declared.state.State.TheVariants.{NotSafe, Range, Safe, Shapes as Too_large}
use Rattle.pungi_summary.specs.Outcomes.{is_large, is_unsafe}
use Rattle.pungi_summary.specs.Ways.{AreWays}
use Rattle.pungi_summary.specs.declared.outcome.Outcome.{Outcome}
use Rattle.pungi_summary.specs.declared.outcome.Outcome.TheVariants.{Annotated, Large, Shapes, Waiting}
use Rattle.pungi_summary.specs.declared.way.Way.{Way}

abbrev pub by_failing : Option ℕ → Option ℕ → Option Way → State
by_failing (Some k) exits way = NotSafe k
by_failing None (Some k) way = NotSafe k
by_failing None None (Some w) = NotSafe w.place
by_failing None None None = Safe

abbrev pub by_duties : Outcome → Option Way → State
by_duties (Annotated failing) way = by_failing failing.places failing.exits way
by_duties Shapes way = Too_large
by_duties Waiting way = Too_large
by_duties (Large k row) way = Too_large

abbrev pub inherited : Option Outcome → ℕ → Way → State
inherited (Some (Large k row)) f w = Range (cond (w.origin == f) k w.place) row
inherited (Some Shapes) f w = Too_large
inherited (Some Waiting) f w = Too_large
inherited (Some (Annotated failing)) f w = Too_large
inherited None f w = Too_large

abbrev pub unless_large : List Outcome → Outcome → ℕ → Option Way → Option Way → State
unless_large outcomes o f (Some w) failing = inherited (slice_get outcomes w.origin) f w
unless_large outcomes o f None failing = by_duties o failing

abbrev pub unless_shapes : List Outcome → Option Outcome → ℕ → Option Way → Option Way → State
unless_shapes outcomes None f large failing = Too_large
unless_shapes outcomes (Some Shapes) f large failing = Too_large
unless_shapes outcomes (Some Waiting) f large failing = unless_large outcomes Waiting f large failing
unless_shapes outcomes (Some (Annotated x)) f large failing = unless_large outcomes (Annotated x) f large failing
unless_shapes outcomes (Some (Large k row)) f large failing = unless_large outcomes (Large k row) f large failing

abbrev pub state_of : List Outcome → ℕ → Option Way → Option Way → State
state_of outcomes f large failing = unless_shapes outcomes (slice_get outcomes f) f large failing

pub record AreStates (ps : List (Option AffineProgram)) (callees : List (List ℕ)) (outcomes : List Outcome)
    (states : List State) : Type 0 where
  pub count : length states ≡ length ps
  pub large : List (Option Way)
  pub large_ways : AreWays ps callees (map is_large outcomes) large
  pub failing : List (Option Way)
  pub failing_ways : AreWays ps callees (map is_unsafe outcomes) failing
  pub each : (f : ℕ) → f < length ps → slice_get states f
      ≡ Some (state_of outcomes f (flatten (slice_get large f)) (flatten (slice_get failing f)))
