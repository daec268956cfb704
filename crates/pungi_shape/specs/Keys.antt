-- The numbers by which places and exit classes are told apart and put in order, as one list each, and maps from them.
--   marked ns               numbers, each after a 1
--   key_of q                the numbers of a place: 0 at an entry; 1 and those of the point elsewhere, and those of the
--                           exit class by which a function left, if one did, so marked, and then a 0; and then those of
--                           the shape. Places are in the order of these
--   is_key k j              two such lists are one
--   CatalogState            things in the order in which they were found, and a map from the numbers of each to its
--                           place in that order
--   place_of k n            the place of what has these numbers
--   order_of n, listed o, in_order n    the places of all things, in the order of their numbers; a thing, if there is
--                           one; the things, in this order
--   IsCatalog key n         the map has just the things that were found, each once, in the order of their numbers
use Rattle.std.specs.Prelude.{◌≡◌, ℕ, Bool, List, [], ◌∷◌, ◌++◌, length, map, slice_get, Option, Some, None}
use Rattle.std.specs.List.{All, flat_map}
use Rattle.std.specs.List.Sorted.{IsStrictlySortedBy}
use Rattle.std.specs.Map.{lookup}
use Rattle.std.specs.Ordering.{nat_cmp, is_eq}
use Rattle.std.specs.Cmp.Lexicographic.{slice_cmp}
use Rattle.pungi_shape.specs.Shapes.{numbers_of_shape}
use Rattle.pungi_shape.specs.Places.{Place, at_entry, at_point, after_call}

abbrev pub marked : List ℕ → List ℕ
marked ns = flat_map (λ n. 1 ∷ n ∷ []) ns

abbrev pub key_of : Place → List ℕ
key_of (at_entry s) = 0 ∷ numbers_of_shape s
key_of (at_point p s) = 1 ∷ p.instr ∷ p.done ∷ p.class ∷ 0 ∷ numbers_of_shape s
key_of (after_call p s e) =
    1 ∷ p.instr ∷ p.done ∷ p.class ∷ (marked (numbers_of_shape e) ++ 0 ∷ numbers_of_shape s)

abbrev pub is_key : List ℕ → List ℕ → Bool
is_key k j = is_eq (slice_cmp nat_cmp k j)

pub record CatalogState (T : Type 0) : Type 0 where
  pub items : List T
  pub entries : List (List ℕ × ℕ)

abbrev pub place_of : {T : Type 0} → List ℕ → CatalogState T → Option ℕ
place_of k n = lookup (is_key k) n.entries

abbrev pub order_of : {T : Type 0} → CatalogState T → List ℕ
order_of n = map (λ e. e.1) n.entries

abbrev pub listed : {T : Type 0} → Option T → List T
listed None = []
listed (Some x) = x ∷ []

abbrev pub in_order : {T : Type 0} → CatalogState T → List T
in_order n = flat_map (λ e. listed (slice_get n.items e.1)) n.entries

pub record IsCatalog {T : Type 0} (key : T → List ℕ) (n : CatalogState T) : Type 0 where
  pub ordered : IsStrictlySortedBy (slice_cmp nat_cmp) (map (λ e. e.0) n.entries)
  pub count : length n.entries ≡ length n.items
  pub named : (i : ℕ) (x : T) → slice_get n.items i ≡ Some x → place_of (key x) n ≡ Some i
  pub known : All (λ e. (x : T) × ((slice_get n.items e.1 ≡ Some x) × (key x ≡ e.0))) n.entries
