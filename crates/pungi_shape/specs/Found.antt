-- What a search has found of the program of a function: its places and its exit classes.
--   with_key k x n          a catalog where this was found too, which has these numbers
--   with_place q n, with_exit x n    so it is with a place, with an exit class, unless it was found before
--   with_goal g s, with_goals gs s   so it is with a goal; with several, one after the other
--   is_place_over q n       a place is too wide; or it is new, and as many places as a program has were found
--   is_over g s, are_over gs s    a goal is such a place; one of several is, when those before it were noted
--   IsPlain q               a place with a shape; where a function has left, with an exit class
--   CanBeNoted g            the tokens of a goal's shape are small numbers, unless it is too wide
--   HasFewExits gs s        exit classes stay few while these goals are noted, one after the other
--   own_goals code q        where the edges of a place lead that depend on no other function
--   calls_of code q g xs, goals_of_calls code q g xs    the edges of a place by which a function is called and leaves
--                           by these exit classes; where they lead
--   CallsAt code q g        a place at a point calls a function
--   CanCall code g xs q s   a place may be where one is called, whose exit classes are these: the goals can be noted
--   CanBeLeftAlone code q s a place is reached, which is not too wide: the goals of its edges that depend on no other
--                           function can be noted, and exit classes stay few
--   IsOwnOver code q s      these lead to one that is too wide, or to too many
--   goals_from code others q    where the edges of a place lead
--   CanBeVisited code others q s    so it is with a place that is reached, which is not too wide: its goals can be
--                           noted, and exit classes stay few
--   IsVisitOver code others q s    the edges of a place lead to one that is too wide, or to too many
--   entry_goal statics code hs, entry_goals statics code hs t    the entry with these values; the entries where the
--                           first parameters hold these values, and the others' objects have the tokens from t on
--   IsNoted s g             a goal is among them
--   IsFoundSoFar codes f code others s    they are found where calls leave by these exit classes, and fit the code;
--                           tokens are small numbers; no place is too wide, and there are not too many
--   AreNoted s gs           all these goals are among them
--   IsVisited code others s k    each goal of an edge of the first k places is among them
--   IsWhole codes f code others s    so it is with all places, and with all entries; and exit classes are few
--   Grows s u               what was found before is found still, in the same order
use Rattle.std.specs.Prelude.{◌≡◌, ◌⊎◌, ℕ, ◌<◌, ◌≤◌, ◌^◌, Bool, true, false, ◌&&◌, ◌||◌, nat_lt, nat_le, List, [], ◌∷◌}
use Rattle.std.specs.Prelude.{◌++◌}
use Rattle.std.specs.Prelude.{drop, length, map, take, slice_get, Some, IsSome, is_none, is_some, if◌then◌else◌}
use Rattle.std.specs.BTreeMap.{insert_entry}
use Rattle.std.specs.Cmp.Lexicographic.{slice_cmp}
use Rattle.std.specs.List.{All, flat_map}
use Rattle.std.specs.Ordering.{nat_cmp}
use Rattle.pungi_code.specs.declared.code.Code.{Code}
use Rattle.pungi_code.specs.declared.code.Codes.{Codes}
use Rattle.pungi_shape.specs.declared.holding.Holding.{Holding}
use Rattle.pungi_shape.specs.declared.search.Found.{Found}
use Rattle.pungi_shape.specs.declared.shape.Shape.{Shape}
use Rattle.pungi_shape.specs.Bounds.{AreTokens, IsShape}
use Rattle.pungi_shape.specs.Shapes.{numbers_of_shape, width_of}
use Rattle.pungi_shape.specs.Liveness.{instr_at}
use Rattle.pungi_shape.specs.Named.{callee_of, statics_of}
use Rattle.pungi_shape.specs.Places.{Place, at_entry, at_point, after_call, instr_in, width_at, entry_shape}
use Rattle.pungi_shape.specs.Places.{entry_shapes, values_at_entry}
use Rattle.pungi_shape.specs.Edges.{Edge, Goal, to_place, to_exit, call_edges, edges_from}
use Rattle.pungi_shape.specs.Classes.{IsOfCall}
use Rattle.pungi_shape.specs.FoundBy.{IsFoundBy}
use Rattle.pungi_shape.specs.Keys.{key_of, CatalogState, place_of, IsCatalog}
use Rattle.pungi_shape.specs.Leaving.{IsExitClass}
use Rattle.pungi_shape.specs.Limits.{most_places, most_coordinates}
use Rattle.pungi_shape.specs.Programs.{all_edges}
use Rattle.pungi_shape.specs.Reached.{IsReached, IsExit, names_in, names_at, shape_at, HasWideGoal}

-- ---- what is noted

abbrev pub with_key : {T : Type 0} → List ℕ → T → CatalogState T → CatalogState T
with_key k x n = record {
  items = n.items ++ x ∷ [];
  entries = insert_entry (slice_cmp nat_cmp) n.entries k (length n.items);
}

abbrev pub with_place : Place → CatalogState Place → CatalogState Place
with_place q n = if is_some (place_of (key_of q) n) then n else with_key (key_of q) q n

abbrev pub with_exit : Shape → CatalogState Shape → CatalogState Shape
with_exit x n = if is_some (place_of (numbers_of_shape x) n) then n else with_key (numbers_of_shape x) x n

abbrev pub with_goal : Goal → Found → Found
with_goal (to_place q) s = record { places = with_place q s.places; exits = s.exits }
with_goal (to_exit x) s = record { places = s.places; exits = with_exit x s.exits }

abbrev pub with_goals : List Goal → Found → Found
with_goals [] s = s
with_goals (g ∷ gs) s = with_goals gs (with_goal g s)

abbrev pub is_place_over : Place → CatalogState Place → Bool
is_place_over q n =
    nat_lt most_coordinates (width_at q) || (is_none (place_of (key_of q) n) && nat_le most_places (length n.items))

abbrev pub is_over : Goal → Found → Bool
is_over (to_place q) s = is_place_over q s.places
is_over (to_exit x) s = false

abbrev pub are_over : List Goal → Found → Bool
are_over [] s = false
are_over (g ∷ gs) s = is_over g s || are_over gs (with_goal g s)

abbrev pub IsPlain : Place → Type 0
IsPlain (at_entry s) = IsShape s
IsPlain (at_point p s) = IsShape s
IsPlain (after_call p s e) = IsShape s × IsExitClass e

abbrev pub CanBeNoted : Goal → Type 0
CanBeNoted (to_place q) = IsPlain q × (width_at q ≤ most_coordinates → AreTokens (2 ^ 31) (shape_at q))
CanBeNoted (to_exit x) = AreTokens (2 ^ 31) x

abbrev pub HasFewExits : List Goal → Found → Type 0
HasFewExits gs s = (i : ℕ) → length (with_goals (take i gs) s).exits.items < 65536

abbrev pub own_goals : Code → Place → List Goal
own_goals code q = map (λ e. e.goal) (edges_from code q)

abbrev pub calls_of : Code → Place → ℕ → List Shape → List Edge
calls_of code q g xs = flat_map (call_edges code q g) xs

abbrev pub goals_of_calls : Code → Place → ℕ → List Shape → List Goal
goals_of_calls code q g xs = map (λ e. e.goal) (calls_of code q g xs)

abbrev pub goals_from : Code → (ℕ → List Shape) → Place → List Goal
goals_from code others q = map (λ e. e.goal) (all_edges code others q)

pub record CallsAt (code : Code) (q : Place) (g : ℕ) : Type 0 where
  pub calls : callee_of (instr_at code (instr_in q)) ≡ g ∷ []
  pub width : width_at q ≡ width_of (shape_at q)

pub record CanCall (code : Code) (g : ℕ) (xs : List Shape) (q : Place) (s : Found) : Type 0 where
  pub shape : IsShape (shape_at q)
  pub narrow : width_of (shape_at q) ≤ most_coordinates
  pub exits : All IsExitClass xs
  pub noted : All CanBeNoted (goals_of_calls code q g xs)
  pub few : length s.exits.items < 65536

pub record CanBeLeftAlone (code : Code) (q : Place) (s : Found) : Type 0 where
  pub reached : IsReached code q
  pub narrow : width_at q ≤ most_coordinates
  pub tokens : AreTokens (2 ^ 31) (shape_at q)
  pub noted : All CanBeNoted (own_goals code q)
  pub few : HasFewExits (own_goals code q) s

pub record CanBeVisited (code : Code) (others : ℕ → List Shape) (q : Place) (s : Found) : Type 0 where
  pub reached : IsReached code q
  pub narrow : width_at q ≤ most_coordinates
  pub tokens : AreTokens (2 ^ 31) (shape_at q)
  pub noted : All CanBeNoted (goals_from code others q)
  pub few : HasFewExits (goals_from code others q) s

abbrev pub IsOwnOver : Code → Place → Found → Type 0
IsOwnOver code q s = HasWideGoal (edges_from code q) ⊎ (are_over (own_goals code q) s ≡ true)

abbrev pub IsVisitOver : Code → (ℕ → List Shape) → Place → Found → Type 0
IsVisitOver code others q s = HasWideGoal (edges_from code q) ⊎ (are_over (goals_from code others q) s ≡ true)

-- ---- entries

abbrev pub entry_goal : List ℕ → Code → List Holding → Goal
entry_goal statics code hs = to_place (at_entry (entry_shape statics code hs))

abbrev pub entry_goals : List ℕ → Code → List Holding → ℕ → List Goal
entry_goals statics code hs t =
    map (λ rest. entry_goal statics code (hs ++ rest))
    (values_at_entry t (drop (length hs) (take code.params code.vars)))

-- ---- what holds of what is found

abbrev pub IsNoted : Found → Goal → Type 0
IsNoted s (to_place q) = IsSome (place_of (key_of q) s.places)
IsNoted s (to_exit x) = IsSome (place_of (numbers_of_shape x) s.exits)

pub record IsFoundSoFar (codes : Codes) (f : ℕ) (code : Code) (others : ℕ → List Shape) (s : Found) : Type 0 where
  pub places : IsCatalog key_of s.places
  pub exits : IsCatalog numbers_of_shape s.exits
  pub reached : All (IsReached code) s.places.items
  pub called : All (IsOfCall code others) s.places.items
  pub names : All (λ q. names_at q ≡ statics_of codes f) s.places.items
  pub narrow : All (λ q. width_at q ≤ most_coordinates) s.places.items
  pub tokens : All (λ q. AreTokens (2 ^ 31) (shape_at q)) s.places.items
  pub few : length s.places.items ≤ most_places
  pub found : All (λ q. IsFoundBy codes others f (to_place q)) s.places.items
  pub classes : All (IsExit code) s.exits.items
  pub class_names : All (λ x. names_in x ≡ statics_of codes f) s.exits.items
  pub left : All (λ x. IsFoundBy codes others f (to_exit x)) s.exits.items

abbrev pub AreNoted : Found → List Goal → Type 0
AreNoted s gs = All (IsNoted s) gs

abbrev pub IsVisited : Code → (ℕ → List Shape) → Found → ℕ → Type 0
IsVisited code others s k =
    (i : ℕ) (q : Place) → i < k → slice_get s.places.items i ≡ Some q
    → All (λ e. IsNoted s e.goal) (all_edges code others q)

pub record IsWhole (codes : Codes) (f : ℕ) (code : Code) (others : ℕ → List Shape) (s : Found) : Type 0 where
  pub found : IsFoundSoFar codes f code others s
  pub entries : All (λ e. IsNoted s (to_place (at_entry e))) (entry_shapes (statics_of codes f) code)
  pub visited : IsVisited code others s (length s.places.items)
  pub few_exits : length s.exits.items ≤ most_places

pub record Grows (s u : Found) : Type 0 where
  pub rest : List Place
  pub places : u.places.items ≡ s.places.items ++ rest
  pub noted : (g : Goal) → IsNoted s g → IsNoted u g
