-- The edges of places, with the numbers that their goals got in the order in which they were found.
--   number_from o           a number that is there
--   found_goal s g          the number of a goal that is found
--   found_change others c   what an edge does, with the number of the exit class by which a function left
--   found_edge others s e, found_edges others s es    an edge with these and the number of its goal; so it is with
--                           several
--   IsClassNumber others c n    where a function left, this is the number of the exit class
--   AreEdgesOf code others s ls k    these are the edges of the first k places that were found
use Rattle.std.specs.Prelude.{◌≡◌, ℕ, ◌<◌, List, length, map, Option, Some, slice_get, unwrap_or}
use Rattle.pungi_code.specs.declared.code.Code.{Code}
use Rattle.pungi_shape.specs.declared.found_edge.FoundChange.{FoundChange}
use Rattle.pungi_shape.specs.declared.found_edge.FoundChange.TheVariants as changes
use Rattle.pungi_shape.specs.declared.found_edge.FoundEdge.{FoundEdge}
use Rattle.pungi_shape.specs.declared.found_edge.FoundGoal.{FoundGoal}
use Rattle.pungi_shape.specs.declared.found_edge.FoundGoal.TheVariants as found
use Rattle.pungi_shape.specs.declared.search.Found.{Found}
use Rattle.pungi_shape.specs.declared.shape.Shape.{Shape}
use Rattle.pungi_shape.specs.Edges.{Change, by_map, by_any, by_exit, Edge, Goal, to_place, to_exit}
use Rattle.pungi_shape.specs.Keys.{key_of, place_of}
use Rattle.pungi_shape.specs.Places.{Place}
use Rattle.pungi_shape.specs.Programs.{all_edges, exit_number}
use Rattle.pungi_shape.specs.Shapes.{numbers_of_shape}

abbrev pub number_from : Option ℕ → ℕ
number_from o = unwrap_or o 0

abbrev pub found_goal : Found → Goal → FoundGoal
found_goal s (to_place q) = found.Place (number_from (place_of (key_of q) s.places))
found_goal s (to_exit x) = found.Exit (number_from (place_of (numbers_of_shape x) s.exits))

abbrev pub found_change : (ℕ → List Shape) → Change → FoundChange
found_change others (by_map rows) = changes.ByMap rows
found_change others (by_any c) = changes.ByAny c
found_change others (by_exit f x onto) = changes.ByExit f (exit_number (others f) x) onto

abbrev pub found_edge : (ℕ → List Shape) → Found → Edge → FoundEdge
found_edge others s e = record {
  to = found_goal s e.goal;
  guard = e.guard;
  change = found_change others e.change;
  duties = e.duties;
}

abbrev pub found_edges : (ℕ → List Shape) → Found → List Edge → List FoundEdge
found_edges others s es = map (found_edge others s) es

abbrev pub IsClassNumber : (ℕ → List Shape) → Change → ℕ → Type 0
IsClassNumber others (by_map rows) n = Unit {0}
IsClassNumber others (by_any c) n = Unit {0}
IsClassNumber others (by_exit f x onto) n = n ≡ exit_number (others f) x

pub record AreEdgesOf (code : Code) (others : ℕ → List Shape) (s : Found) (ls : List (List FoundEdge)) (k : ℕ)
    : Type 0 where
  pub count : length ls ≡ k
  pub edges : (i : ℕ) (q : Place) → i < k → slice_get s.places.items i ≡ Some q
      → slice_get ls i ≡ Some (found_edges others s (all_edges code others q))
