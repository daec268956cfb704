-- What the search for a fixpoint keeps true: a queue of the places whose edges are to be taken (Kildall 1973).
--   IsSearching least member width p exit st pending
--                          the values are those of some build, and the queue is of places
--   AreTaken p calls member st list
--                          each edge leaves a place of the queue, or each vector that takes it is at its target
--   AreLeft p calls member st list numbers
--                          so it is with each edge but those of these numbers
--   work width rank st pending
--                          how often the values can grow, and how many places are in the queue
use Rattle.std.specs.Prelude.{◌≡◌, ◌⊎◌, ℕ, ◌+◌, Bool, List, length, Option, Some, slice_get}
use Rattle.pungi_domain.specs.Builds.{IsBuilt, Stage}
use Rattle.pungi_domain.specs.Vectors.{Vectors}
use Rattle.pungi_domain.specs.declared.affine_edge.AffineEdge.{AffineEdge}
use Rattle.pungi_domain.specs.declared.affine_program.AffineProgram.{AffineProgram}
use Rattle.pungi_fixpoint.specs.Solver.{FitsWidths}
use Rattle.pungi_fixpoint.specs.Turns.{Takes, room}
use Rattle.pungi_links.specs.Pending.{IsPending, PendingState}
use Rattle.pungi_links.specs.Ring.{Stands}

pub record IsSearching {D : Type 0} (least : Bool) (member : D → Vectors) (width : D → ℕ) (p : AffineProgram)
    (exit : ℕ → ℕ → Option D) (st : Stage D) (pending : PendingState) : Type 0 where
  pub widths : FitsWidths width p st.at st.exits
  pub built : IsBuilt least member p exit st
  pub places : IsPending pending
  pub limit : pending.limit ≡ length p.widths

abbrev pub AreTaken : {D : Type 0} → AffineProgram → (ℕ → ℕ → Vectors) → (D → Vectors) → Stage D → List ℕ → Type 0
AreTaken p calls member st list =
    (i : ℕ) (e : AffineEdge) → slice_get p.edges i ≡ Some e → Stands e.from list ⊎ Takes p calls member st st e

abbrev pub AreLeft : {D : Type 0} → AffineProgram → (ℕ → ℕ → Vectors) → (D → Vectors) → Stage D → List ℕ → List ℕ
    → Type 0
AreLeft p calls member st list numbers =
    (i : ℕ) (e : AffineEdge) → slice_get p.edges i ≡ Some e
    → Stands i numbers ⊎ (Stands e.from list ⊎ Takes p calls member st st e)

abbrev pub work : {D : Type 0} → (D → ℕ) → (D → ℕ) → Stage D → PendingState → ℕ
work width rank st pending = room width rank st + length pending.list
