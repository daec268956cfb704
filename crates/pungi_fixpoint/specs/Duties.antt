-- The duties of a program's edges, of which those to places and those to exit classes are looked at apart.
--   stage_of at exits      these values, as those of a moment of a build
--   IsOfKind kind to       an edge to this target has duties of the kind
--   MeetsDutiesOf kind at e    if this edge has duties of the kind, each vector at its source that meets its guard
--                          meets them
--   MeetsDuties kind p at  so it is with all edges
--   IsBroken kind least member p st    some vector stands at an edge's source, as it is after the guard, and breaks a
--                          duty of the kind
--   IsLargeCheck least member p st k r    meeting the guard of an edge from place k is large
use Rattle.std.specs.Prelude.{◌≡◌, ℕ, ℤ, Bool, List, Some, slice_get}
use Rattle.std.specs.List.{All}
use Rattle.pungi_domain.specs.Annotations.{MeetsAll}
use Rattle.pungi_domain.specs.Builds.{IsMet, LargeMet, Stage}
use Rattle.pungi_domain.specs.Programs.{width_at}
use Rattle.pungi_domain.specs.Vectors.{Vector, Vectors}
use Rattle.pungi_domain.specs.declared.affine_edge.AffineEdge.{AffineEdge}
use Rattle.pungi_domain.specs.declared.affine_program.AffineProgram.{AffineProgram}
use Rattle.pungi_domain.specs.declared.target.Target.{Target}
use Rattle.pungi_domain.specs.declared.target.Target.TheVariants.{Place, Exit}
use Rattle.pungi_fixpoint.specs.declared.duty_kind.DutyKind.{DutyKind}
use Rattle.pungi_fixpoint.specs.declared.duty_kind.DutyKind.TheVariants.{OfPlaces, OfExits}

abbrev pub stage_of : {D : Type 0} → List D → List D → Stage D
stage_of at exits = record { at = at; exits = exits }

abbrev pub IsOfKind : DutyKind → Target → Type 0
IsOfKind OfPlaces (Place k) = Unit {0}
IsOfKind OfPlaces (Exit k) = ⊥
IsOfKind OfExits (Place k) = ⊥
IsOfKind OfExits (Exit k) = Unit {0}

abbrev pub MeetsDutiesOf : DutyKind → (ℕ → Vectors) → AffineEdge → Type 0
MeetsDutiesOf kind at e =
    IsOfKind kind e.to → (v : Vector) → at e.from v → MeetsAll e.guard v → MeetsAll e.duties v

abbrev pub MeetsDuties : DutyKind → AffineProgram → (ℕ → Vectors) → Type 0
MeetsDuties kind p at = All (MeetsDutiesOf kind at) p.edges

pub record IsBroken {D : Type 0} (kind : DutyKind) (least : Bool) (member : D → Vectors) (p : AffineProgram)
    (st : Stage D) : Type 0 where
  pub number : ℕ
  pub edge : AffineEdge
  pub edge_is : slice_get p.edges number ≡ Some edge
  pub of_kind : IsOfKind kind edge.to
  pub source : D
  pub source_is : slice_get st.at edge.from ≡ Some source
  pub met : D
  pub guard : IsMet least member (width_at p edge.from) edge.guard source met
  pub vector : Vector
  pub stands : member met vector
  pub breaks : MeetsAll edge.duties vector → ⊥

pub record IsLargeCheck {D : Type 0} (least : Bool) (member : D → Vectors) (p : AffineProgram) (st : Stage D) (k : ℕ)
    (r : List ℤ) : Type 0 where
  pub number : ℕ
  pub edge : AffineEdge
  pub edge_is : slice_get p.edges number ≡ Some edge
  pub from : edge.from ≡ k
  pub source : D
  pub source_is : slice_get st.at k ≡ Some source
  pub large : LargeMet least member (width_at p k) edge.guard source r
