-- What the search for summaries keeps true: a queue of the functions that are to be annotated (again).
--   IsReason kind least ps callees f p o    an edge from this place has a duty of the kind that no family of inductive
--                          rows meets
--   IsOutcome least ps callees f p o    what an outcome says for good
--   IsAnnotated member p exits f failing    with some values at its places the program of f is inductive under these
--                          exits, and duties of a kind without one that fails are met
--   Meets kind member p at o    where no duty of the kind fails, all are met
--   AreOutcomes least ps callees outcomes    what all outcomes say for good; that of a function is Shapes where it
--                          reaches one without a program
--   IsSettled member exits list f p o    the function waits, or is annotated so, or its outcome is final
--   IsSettling least member width ps callees exits outcomes list    so it is with all functions, and the exits are
--                          below all inductive families of rows, and second spans of a build
--   IsKept failing values grew f sites exits exits' outcomes outcomes' list list'
--                          a step's outcome and values were noted, and where these grew the callers wait
--   first_outcome way, AreFirst ps callees outcomes    the outcomes at first: Shapes where a function without a program
--                          is reached
--   work width rank sites exits list    how much there is to do at most
use Rattle.std.specs.Prelude.{◌≡◌, ◌⊎◌, ℕ, ℤ, ◌+◌, ◌*◌, ◌<◌, ◌≤◌, Bool, true, false, List, length, Option, None, Some}
use Rattle.std.specs.Prelude.{slice_get, slice_set}
use Rattle.std.specs.List.{Contains, sum_by}
use Rattle.pungi_domain.specs.Annotations.{IsInductive, Rows}
use Rattle.pungi_domain.specs.Vectors.{Vectors}
use Rattle.pungi_domain.specs.declared.affine_program.AffineProgram.{AffineProgram}
use Rattle.pungi_fixpoint.specs.Duties.{MeetsDuties}
use Rattle.pungi_fixpoint.specs.Solver.{HasDuty, calls, sets}
use Rattle.pungi_fixpoint.specs.Summaries.{exit_of}
use Rattle.pungi_fixpoint.specs.declared.duty_kind.DutyKind.{DutyKind}
use Rattle.pungi_fixpoint.specs.declared.duty_kind.DutyKind.TheVariants.{OfPlaces, OfExits}
use Rattle.pungi_links.specs.Ring.{Stands}
use Rattle.pungi_summary.specs.Builds.{AreSecondSpans, IsLargeRound}
use Rattle.pungi_summary.specs.Calls.{LacksProgram, program_of}
use Rattle.pungi_summary.specs.Families.{AreInductiveRows, places_of}
use Rattle.pungi_summary.specs.Results.{FitExits, IsBelowAll}
use Rattle.pungi_summary.specs.Steps.{HasRangePlace}
use Rattle.pungi_summary.specs.Values.{file_room}
use Rattle.pungi_summary.specs.declared.call_site.CallSite.{CallSite}
use Rattle.pungi_summary.specs.declared.failing.Failing.{Failing}
use Rattle.pungi_summary.specs.declared.outcome.Outcome.{Outcome}
use Rattle.pungi_summary.specs.declared.outcome.Outcome.TheVariants.{Annotated, Large, Shapes, Waiting}
use Rattle.pungi_summary.specs.declared.way.Way.{Way}

abbrev pub IsReason : DutyKind → Bool → List (Option AffineProgram) → List (List ℕ) → ℕ → AffineProgram → Option ℕ
    → Type 0
IsReason kind least ps callees f p None = Unit {0}
IsReason kind least ps callees f p (Some k) =
    HasDuty p k
    × (least ≡ true → (rows : ℕ → Rows) → AreInductiveRows ps callees rows f
    → MeetsDuties kind p (places_of rows f) → ⊥)

abbrev pub IsOutcome : Bool → List (Option AffineProgram) → List (List ℕ) → ℕ → AffineProgram → Outcome → Type 0
IsOutcome least ps callees f p Shapes = Unit {0}
IsOutcome least ps callees f p Waiting = Unit {0}
IsOutcome least ps callees f p (Annotated failing) =
    IsReason OfPlaces least ps callees f p failing.places × IsReason OfExits least ps callees f p failing.exits
IsOutcome least ps callees f p (Large k row) = HasRangePlace p k

abbrev pub Meets : {D : Type 0} → DutyKind → (D → Vectors) → AffineProgram → List D → Option ℕ → Type 0
Meets kind member p at None = MeetsDuties kind p (sets member at)
Meets kind member p at (Some k) = Unit {0}

pub record IsAnnotated {D : Type 0} (member : D → Vectors) (p : AffineProgram) (exits : List (List (Option D))) (f : ℕ)
    (failing : Failing) : Type 0 where
  pub at : List D
  pub inductive : IsInductive p (calls member exits) (sets member at) (calls member exits f)
  pub places : Meets OfPlaces member p at failing.places
  pub exits_met : Meets OfExits member p at failing.exits

abbrev pub IsSettled : {D : Type 0} → (D → Vectors) → List (List (Option D)) → List ℕ → ℕ → AffineProgram → Outcome
    → Type 0
IsSettled member exits list f p Shapes = Unit {0}
IsSettled member exits list f p Waiting = Stands f list
IsSettled member exits list f p (Annotated failing) = Stands f list ⊎ IsAnnotated member p exits f failing
IsSettled member exits list f p (Large k row) = Unit {0}

pub record AreOutcomes (least : Bool) (ps : List (Option AffineProgram)) (callees : List (List ℕ))
    (outcomes : List Outcome) : Type 0 where
  pub count : length outcomes ≡ length ps
  pub shapes : (f : ℕ) → slice_get outcomes f ≡ Some Shapes → LacksProgram ps callees f
  pub lacking : (f : ℕ) → f < length ps → LacksProgram ps callees f → slice_get outcomes f ≡ Some Shapes
  pub each : (f : ℕ) (p : AffineProgram) (o : Outcome) → program_of ps f ≡ Some p → slice_get outcomes f ≡ Some o
      → IsOutcome least ps callees f p o

pub record IsSettling {D : Type 0} (least : Bool) (member : D → Vectors) (width : D → ℕ)
    (ps : List (Option AffineProgram)) (callees : List (List ℕ)) (exits : List (List (Option D)))
    (outcomes : List Outcome) (list : List ℕ) : Type 0 where
  pub fit : FitExits width ps exits
  pub said : AreOutcomes least ps callees outcomes
  pub settled : (f : ℕ) (p : AffineProgram) (o : Outcome) → program_of ps f ≡ Some p
      → slice_get outcomes f ≡ Some o → IsSettled member exits list f p o
  pub below : least ≡ true → IsBelowAll member ps callees exits
  pub spans : AreSecondSpans least member ps (exit_of exits)
  pub large : (f k : ℕ) (row : List ℤ) → slice_get outcomes f ≡ Some (Large k row)
      → IsLargeRound least member ps f row

pub record IsKept {D : Type 0} (failing : Failing) (values : List (Option D)) (grew : Bool) (f : ℕ)
    (sites : List CallSite) (exits exits' : List (List (Option D))) (outcomes outcomes' : List Outcome)
    (list list' : List ℕ) : Type 0 where
  pub noted : outcomes' ≡ slice_set outcomes f (Annotated failing)
  pub waits : (g : ℕ) → Stands g list → Stands g list'
  pub values_put : ((grew ≡ true) × (exits' ≡ slice_set exits f values)
      × ((s : CallSite) → Contains sites s → Stands s.caller list')
      × (length list' ≤ length list + length sites))
      ⊎ ((grew ≡ false) × (exits' ≡ exits) × (length list' ≤ length list))

abbrev pub work : {D : Type 0} → (D → ℕ) → (D → ℕ) → List (List CallSite) → List (List (Option D)) → List ℕ → ℕ
work width rank sites exits list = file_room width rank exits * (1 + sum_by length sites) + length list

abbrev pub first_outcome : Option Way → Outcome
first_outcome None = Waiting
first_outcome (Some w) = Shapes

pub record AreFirst (ps : List (Option AffineProgram)) (callees : List (List ℕ)) (outcomes : List Outcome) : Type 0
  where
    pub count : length outcomes ≡ length ps
    pub each : (f : ℕ) → f < length ps → ((slice_get outcomes f ≡ Some Shapes) × LacksProgram ps callees f)
        ⊎ ((slice_get outcomes f ≡ Some Waiting) × (LacksProgram ps callees f → ⊥))
