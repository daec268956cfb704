-- What became of a function so far.
--   is_open o       it may still change
--   is_shapes o     it reaches a function without a program
--   is_large o      a step was large
--   is_unsafe o     a duty of an edge to a place fails
use Rattle.std.specs.Prelude.{Bool, true, false, is_some}
use Rattle.pungi_summary.specs.declared.outcome.Outcome.{Outcome}
use Rattle.pungi_summary.specs.declared.outcome.Outcome.TheVariants.{Annotated, Large, Shapes, Waiting}

abbrev pub is_open : Outcome → Bool
is_open Shapes = false
is_open Waiting = true
is_open (Annotated failing) = true
is_open (Large k row) = false

abbrev pub is_shapes : Outcome → Bool
is_shapes Shapes = true
is_shapes Waiting = false
is_shapes (Annotated failing) = false
is_shapes (Large k row) = false

abbrev pub is_large : Outcome → Bool
is_large Shapes = false
is_large Waiting = false
is_large (Annotated failing) = false
is_large (Large k row) = true

abbrev pub is_unsafe : Outcome → Bool
is_unsafe Shapes = false
is_unsafe Waiting = false
is_unsafe (Annotated failing) = is_some failing.places
is_unsafe (Large k row) = false
