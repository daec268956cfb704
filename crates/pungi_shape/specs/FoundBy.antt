-- What is found of a function where the functions that it calls leave by given exit classes alone.
--   LeadsBy code others q g    an edge leads from a place to a goal
--   IsFoundBy codes others f g    a place or exit class is found: an entry; and where an edge leads from a place that
--                          is
--   HasManyPlacesBy, HasWidePlaceBy codes others f    more than 8,192 places are found; one with more than 256
--                           coordinates is
--   IsLargeBy codes others f    one of both
use Rattle.std.specs.Prelude.{◌≡◌, ◌⊎◌, ℕ, ◌<◌, List, length, Some}
use Rattle.std.specs.List.{All, IsAmong}
use Rattle.pungi_code.specs.declared.code.Code.{Code}
use Rattle.pungi_code.specs.declared.code.Codes.{Codes}
use Rattle.pungi_code.specs.Run.{code_at}
use Rattle.pungi_shape.specs.declared.shape.Shape.{Shape}
use Rattle.pungi_shape.specs.Edges.{Edge, Goal, to_place}
use Rattle.pungi_shape.specs.Limits.{most_coordinates, most_places}
use Rattle.pungi_shape.specs.Named.{statics_of}
use Rattle.pungi_shape.specs.Places.{Place, at_entry, entry_shapes, place_cmp, width_at}
use Rattle.pungi_shape.specs.Programs.{Rises, all_edges}

pub record LeadsBy (code : Code) (others : ℕ → List Shape) (q : Place) (g : Goal) : Type 0 where
  pub edge : Edge
  pub is_there : IsAmong (all_edges code others q) edge
  pub goal : edge.goal ≡ g

pub data IsFoundBy (codes : Codes) (others : ℕ → List Shape) (f : ℕ) : Goal → Type 0 where
  enters : (code : Code) (s : Shape) → code_at codes f ≡ Some code
      → IsAmong (entry_shapes (statics_of codes f) code) s → IsFoundBy codes others f (to_place (at_entry s))
  goes : (code : Code) (q : Place) (g : Goal) → code_at codes f ≡ Some code
      → IsFoundBy codes others f (to_place q) → LeadsBy code others q g → IsFoundBy codes others f g

pub record HasManyPlacesBy (codes : Codes) (others : ℕ → List Shape) (f : ℕ) : Type 0 where
  pub places : List Place
  pub rise : Rises place_cmp places
  pub found : All (λ q. IsFoundBy codes others f (to_place q)) places
  pub many : most_places < length places

pub record HasWidePlaceBy (codes : Codes) (others : ℕ → List Shape) (f : ℕ) : Type 0 where
  pub place : Place
  pub found : IsFoundBy codes others f (to_place place)
  pub wide : most_coordinates < width_at place

abbrev pub IsLargeBy : Codes → (ℕ → List Shape) → ℕ → Type 0
IsLargeBy codes others f = HasManyPlacesBy codes others f ⊎ HasWidePlaceBy codes others f
