-- The numbers that places and exit classes get, by their order.
--   IsOrder ks              an order names each of so many things once
--   IsRanking ks rs         each thing's rank in an order
--   IsRankedBy n r          the order of a catalog's things, and the rank of each
--   IsThere s g             a goal is among what is found
--   AreNumbers s place_ranks exit_ranks    places that are found are reached in a code, and have the numbers of their
--                           order; so it is with exit classes
--   places_in s, exits_in s the places, the exit classes, in order
--   number_edge others s k e, edges_at others s k es    an edge from place k with numbers for its places; such edges in
--                           order, each once
--   CanBeLeft code others s q    each edge of a place leads to what is found
--   AreListed code others s ls    each edge of each place does, and these are the edges, by the places' numbers
use Rattle.std.specs.Prelude.{◌≡◌, ℕ, ◌<◌, ◌≤◌, List, length, map, slice_get, Some}
use Rattle.std.specs.List.{All, IsAmong}
use Rattle.pungi_domain.specs.declared.affine_edge.AffineEdge.{AffineEdge}
use Rattle.pungi_code.specs.declared.code.Code.{Code}
use Rattle.pungi_shape.specs.declared.found_edge.FoundEdge.{FoundEdge}
use Rattle.pungi_shape.specs.declared.programs.Ranked.{Ranked}
use Rattle.pungi_shape.specs.declared.search.Found.{Found}
use Rattle.pungi_shape.specs.declared.shape.Shape.{Shape}
use Rattle.pungi_shape.specs.Shapes.{numbers_of_shape}
use Rattle.pungi_shape.specs.Places.{Place, width_at}
use Rattle.pungi_shape.specs.Edges.{Goal, to_place, to_exit, Edge}
use Rattle.pungi_shape.specs.FoundEdges.{AreEdgesOf}
use Rattle.pungi_shape.specs.Keys.{key_of, CatalogState, IsCatalog, in_order, order_of}
use Rattle.pungi_shape.specs.Limits.{most_places, most_coordinates}
use Rattle.pungi_shape.specs.Programs.{all_edges, edges_in_order, with_numbers}
use Rattle.pungi_shape.specs.Reached.{IsExit, IsReached}

-- ---- orders

pub record IsOrder (ks : List ℕ) : Type 0 where
  pub places : (i k : ℕ) → slice_get ks i ≡ Some k → k < length ks
  pub once : (i j k : ℕ) → slice_get ks i ≡ Some k → slice_get ks j ≡ Some k → i ≡ j
  pub few : length ks < 65536

abbrev pub IsRanking : List ℕ → List ℕ → Type 0
IsRanking ks rs = (i k : ℕ) → slice_get ks i ≡ Some k → slice_get rs k ≡ Some i

pub record IsRankedBy {T : Type 0} (n : CatalogState T) (r : Ranked) : Type 0 where
  pub order : r.order.items ≡ order_of n
  pub ranks : IsRanking (order_of n) r.ranks.items

-- ---- what is found

abbrev pub IsThere : Found → Goal → Type 0
IsThere s (to_place q) = IsAmong s.places.items q
IsThere s (to_exit x) = IsAmong s.exits.items x

pub record AreNumbers (s : Found) (place_ranks exit_ranks : Ranked) : Type 0 where
  pub code : Code
  pub place_catalog : IsCatalog key_of s.places
  pub exit_catalog : IsCatalog numbers_of_shape s.exits
  pub reached : All (IsReached code) s.places.items
  pub narrow : All (λ q. width_at q ≤ most_coordinates) s.places.items
  pub few : length s.places.items ≤ most_places
  pub classes : All (IsExit code) s.exits.items
  pub places : IsRankedBy s.places place_ranks
  pub exits : IsRankedBy s.exits exit_ranks

abbrev pub places_in : Found → List Place
places_in s = in_order s.places

abbrev pub exits_in : Found → List Shape
exits_in s = in_order s.exits

-- ---- edges

abbrev pub number_edge : (ℕ → List Shape) → Found → ℕ → Edge → AffineEdge
number_edge others s k e = with_numbers (places_in s) (exits_in s) others k e

abbrev pub edges_at : (ℕ → List Shape) → Found → ℕ → List Edge → List AffineEdge
edges_at others s k es = edges_in_order (map (number_edge others s k) es)

abbrev pub CanBeLeft : Code → (ℕ → List Shape) → Found → Place → Type 0
CanBeLeft code others s q = All (λ e. IsThere s e.goal) (all_edges code others q)

pub record AreListed (code : Code) (others : ℕ → List Shape) (s : Found) (ls : List (List FoundEdge)) : Type 0 where
  pub leaves : All (CanBeLeft code others s) (places_in s)
  pub edges : AreEdgesOf code others s ls (length s.places.items)
