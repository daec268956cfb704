-- One step of the search: a function is annotated under the exits as they are.
--   IsFailing kind least member p at added o    no duty of this kind fails for these values; or one does at an edge
--                          from this place, and then for all rows that the members meet
--   IsStep least member width p exits f failing new    such an annotation of the program p of f, the duties that fail
--                          for it, and the values of f's exit classes after those of the annotation were taken in
--   IsLargeStep least member width p exits f r    a turn on the way to such an annotation is large, or taking its exits
--                          in
--   HasRangePlace p k      k is the source of an edge, or an entry, or 0
use Rattle.std.specs.Prelude.{◌≡◌, ◌⊎◌, ℕ, ℤ, Bool, true, List, [], Option, None, Some}
use Rattle.std.specs.List.{Contains, slice_index_or}
use Rattle.pungi_domain.specs.Annotations.{HaveWidths, IsInductive, Rows, met}
use Rattle.pungi_domain.specs.Builds.{IsBuilt, IsLargeBuild}
use Rattle.pungi_domain.specs.Vectors.{Vectors}
use Rattle.pungi_domain.specs.declared.affine_edge.AffineEdge.{AffineEdge}
use Rattle.pungi_domain.specs.declared.affine_program.AffineProgram.{AffineProgram}
use Rattle.pungi_fixpoint.specs.Duties.{MeetsDuties, stage_of}
use Rattle.pungi_fixpoint.specs.Solver.{FitsWidths, HasDuty, IsBelow, calls, sets}
use Rattle.pungi_fixpoint.specs.Summaries.{exit_of}
use Rattle.pungi_fixpoint.specs.declared.duty_kind.DutyKind.{DutyKind}
use Rattle.pungi_fixpoint.specs.declared.duty_kind.DutyKind.TheVariants.{OfPlaces, OfExits}
use Rattle.pungi_summary.specs.Values.{AreGrown, LargeGrowth}
use Rattle.pungi_summary.specs.declared.failing.Failing.{Failing}

abbrev pub IsFailing : {D : Type 0} → DutyKind → Bool → (D → Vectors) → AffineProgram → List D → List D → Option ℕ
    → Type 0
IsFailing kind least member p at added None = MeetsDuties kind p (sets member at)
IsFailing kind least member p at added (Some k) =
    HasDuty p k
    × (least ≡ true → (rows : Rows) → HaveWidths p rows → IsBelow member p rows at added
    → MeetsDuties kind p (met rows.at) → ⊥)

pub record IsStep {D : Type 0} (least : Bool) (member : D → Vectors) (width : D → ℕ) (p : AffineProgram)
    (exits : List (List (Option D))) (f : ℕ) (failing : Failing) (new : List (Option D)) : Type 0 where
  pub at : List D
  pub added : List D
  pub widths : FitsWidths width p at added
  pub built : IsBuilt least member p (exit_of exits) (stage_of at added)
  pub inductive : IsInductive p (calls member exits) (sets member at) (sets member added)
  pub below : least ≡ true → (rows : Rows) → HaveWidths p rows
      → IsInductive p (calls member exits) (met rows.at) (met rows.exits) → IsBelow member p rows at added
  pub places : IsFailing OfPlaces least member p at added failing.places
  pub exits_fail : IsFailing OfExits least member p at added failing.exits
  pub grown : AreGrown least member width (slice_index_or exits f []) added new

abbrev pub HasRangePlace : AffineProgram → ℕ → Type 0
HasRangePlace p k =
    ((e : AffineEdge) × Contains p.edges e × (e.from ≡ k)) ⊎ Contains p.entries k ⊎ (k ≡ 0)

abbrev pub IsLargeStep : {D : Type 0} → Bool → (D → Vectors) → (D → ℕ) → AffineProgram → List (List (Option D)) → ℕ
    → List ℤ → Type 0
IsLargeStep {D} least member width p exits f r =
    ((k : ℕ) × IsLargeBuild least member p (exit_of exits) k r)
    ⊎ ((at : List D) × (added : List D) × FitsWidths width p at added
    × IsBuilt least member p (exit_of exits) (stage_of at added)
    × LargeGrowth width member (slice_index_or exits f []) added r)
