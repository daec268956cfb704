-- What solving an affine program promises, over the values of a domain with their members.
--   sets member ss k           the members of the value at a place of a list; where none is, no vector
--   members member o           the members of a value, where there is one
--   calls member exits f c     the vectors that a called function leaves at an exit class
--   FitsExits width exits p    each exit that a call of the program names has one coordinate for each target's that
--                              takes them
--   FitsWidths width p at exits    the values have as many coordinates as their places and exit classes
--   IsBelow member p a at exits    all members meet the rows of an annotation
--   HasDuty p k                an edge from this place has a duty
use Rattle.std.specs.Prelude.{◌≡◌, ℕ, ◌<◌, List, Option, None, Some, length, slice_get}
use Rattle.std.specs.List.{All, slice_index_or}
use Rattle.pungi_domain.specs.Annotations.{Rows, met}
use Rattle.pungi_domain.specs.Vectors.{Vector, Vectors}
use Rattle.pungi_domain.specs.declared.action.Action.{Action}
use Rattle.pungi_domain.specs.declared.action.Action.TheVariants.{Map, Free, Call}
use Rattle.pungi_domain.specs.declared.affine_edge.AffineEdge.{AffineEdge}
use Rattle.pungi_domain.specs.declared.affine_program.AffineProgram.{AffineProgram}
use Rattle.pungi_fixpoint.specs.Summaries.{exit_of}

abbrev pub members : {D : Type 0} → (D → Vectors) → Option D → Vectors
members member None v = ⊥
members member (Some d) v = member d v

abbrev pub sets : {D : Type 0} → (D → Vectors) → List D → ℕ → Vectors
sets member ds k v = members member (slice_get ds k) v

abbrev pub calls : {D : Type 0} → (D → Vectors) → List (List (Option D)) → ℕ → ℕ → Vectors
calls member exits f class v = members member (exit_of exits f class) v

abbrev pub FitsExit : {D : Type 0} → (D → ℕ) → ℕ → Option D → Type 0
FitsExit width n None = Unit {0}
FitsExit width n (Some d) = width d ≡ n

abbrev pub FitsCall : {D : Type 0} → (D → ℕ) → List (List (Option D)) → Action → Type 0
FitsCall width exits (Map m) = Unit {0}
FitsCall width exits (Free c) = Unit {0}
FitsCall width exits (Call f class onto) = FitsExit width (length onto) (exit_of exits f class)

abbrev pub FitsExits : {D : Type 0} → (D → ℕ) → List (List (Option D)) → AffineProgram → Type 0
FitsExits width exits p = All (λ e. FitsCall width exits e.action) p.edges

pub record FitsWidths {D : Type 0} (width : D → ℕ) (p : AffineProgram) (at exits : List D) : Type 0 where
  pub places : length at ≡ length p.widths
  pub classes : length exits ≡ length p.exits
  pub at_widths : (k : ℕ) (d : D) → slice_get at k ≡ Some d → width d ≡ slice_index_or p.widths k 0
  pub exit_widths : (k : ℕ) (d : D) → slice_get exits k ≡ Some d → width d ≡ slice_index_or p.exits k 0

pub record IsBelow {D : Type 0} (member : D → Vectors) (p : AffineProgram) (a : Rows) (at exits : List D) : Type 0 where
  pub places : (k : ℕ) (v : Vector) → k < length p.widths → sets member at k v → met a.at k v
  pub classes : (k : ℕ) (v : Vector) → k < length p.exits → sets member exits k v → met a.exits k v

pub record HasDuty (p : AffineProgram) (k : ℕ) : Type 0 where
  pub number : ℕ
  pub edge : AffineEdge
  pub edge_is : slice_get p.edges number ≡ Some edge
  pub from : edge.from ≡ k
  pub some : 0 < length edge.duties
