-- What the summaries of a file promise, over the values of a domain with their members.
--   AreValues width ws ds  there is a value for each of these widths, which has that many coordinates
--   AreNone least member width ws ds    and these are of no vectors
--   FitExits width ps exits    a function with a program has a value for each exit class, of its width; another has
--                          none
--   AreAnnotated member ps callees at s    with values `at f` at the places of each function f and those of the
--                          summaries at its exit classes: these are inductive for each function whose state is Safe or
--                          NotSafe, and safe for each whose state is Safe
--   IsBelowAll member ps callees exits    all members of exits meet each family of rows that is inductive
--   AreFirstExits least member width ps exits    the exits at first are of no vectors
--   HasRange least member ps callees f k row    some build has a large round of a function that f reaches, with this
--                          row; k is a place of f's program, or that of a call which reaches that function
--   IsNotSafe ps callees s    for no function whose state is NotSafe a family of rows is safe
use Rattle.std.specs.Prelude.{◌≡◌, ◌⊎◌, ℕ, ℤ, ◌<◌, Bool, List, length, [], Option, None, Some, slice_get}
use Rattle.std.specs.List.{slice_index_or}
use Rattle.pungi_domain.specs.Annotations.{Rows}
use Rattle.pungi_domain.specs.Builds.{Covers}
use Rattle.pungi_domain.specs.Spans.{Zero}
use Rattle.pungi_domain.specs.Vectors.{Vector, Vectors}
use Rattle.pungi_domain.specs.declared.affine_program.AffineProgram.{AffineProgram}
use Rattle.pungi_fixpoint.specs.Solver.{calls, sets}
use Rattle.pungi_fixpoint.specs.Summaries.{SummariesState}
use Rattle.pungi_fixpoint.specs.declared.state.State.TheVariants.{NotSafe, Safe}
use Rattle.pungi_summary.specs.Builds.{IsLargeRound}
use Rattle.pungi_summary.specs.Calls.{program_of, IsCallAt, Reaches}
use Rattle.pungi_summary.specs.Steps.{HasRangePlace}
use Rattle.pungi_summary.specs.Families.{AreInductive, AreInductiveRows, AreSafe, AreSafeRows, exits_of}

pub record AreValues {D : Type 0} (width : D → ℕ) (ws : List ℕ) (ds : List (Option D)) : Type 0 where
  pub count : length ds ≡ length ws
  pub each : (c : ℕ) → c < length ws
      → (d : D) × (slice_get ds c ≡ Some (Some d)) × (width d ≡ slice_index_or ws c 0)

pub record FitExits {D : Type 0} (width : D → ℕ) (ps : List (Option AffineProgram)) (exits : List (List (Option D)))
    : Type 0 where
  pub count : length exits ≡ length ps
  pub values : (f : ℕ) (p : AffineProgram) → program_of ps f ≡ Some p
      → AreValues width p.exits (slice_index_or exits f [])
  pub none : (f : ℕ) → program_of ps f ≡ None → slice_index_or exits f [] ≡ []

pub record AreNone {D : Type 0} (least : Bool) (member : D → Vectors) (width : D → ℕ) (ws : List ℕ)
    (ds : List (Option D)) : Type 0 where
  pub values : AreValues width ws ds
  pub none : (c : ℕ) (d : D) → slice_get ds c ≡ Some (Some d)
      → Covers least (slice_index_or ws c 0) (Zero (slice_index_or ws c 0)) (member d)

pub record AreFirstExits {D : Type 0} (least : Bool) (member : D → Vectors) (width : D → ℕ)
    (ps : List (Option AffineProgram)) (exits : List (List (Option D))) : Type 0 where
  pub fit : FitExits width ps exits
  pub none : (f : ℕ) (p : AffineProgram) → program_of ps f ≡ Some p
      → AreNone least member width p.exits (slice_index_or exits f [])

pub record AreAnnotated {D : Type 0} (member : D → Vectors) (ps : List (Option AffineProgram))
    (callees : List (List ℕ)) (at : ℕ → List D) (s : SummariesState D) : Type 0 where
  pub not_safe : (f k : ℕ) → slice_get s.states f ≡ Some (NotSafe k)
      → AreInductive ps callees (λ g. sets member (at g)) (calls member s.exits) f
  pub safe : (f : ℕ) → slice_get s.states f ≡ Some Safe
      → AreSafe ps callees (λ g. sets member (at g)) (calls member s.exits) f

abbrev pub IsBelowAll : {D : Type 0} → (D → Vectors) → List (Option AffineProgram) → List (List ℕ)
    → List (List (Option D)) → Type 0
IsBelowAll member ps callees exits =
    (f c : ℕ) (v : Vector) (rows : ℕ → Rows) → AreInductiveRows ps callees rows f → calls member exits f c v
    → exits_of rows f c v

abbrev pub IsNotSafe : {D : Type 0} → List (Option AffineProgram) → List (List ℕ) → SummariesState D → Type 0
IsNotSafe ps callees s =
    (f k : ℕ) (rows : ℕ → Rows) → slice_get s.states f ≡ Some (NotSafe k) → AreSafeRows ps callees rows f → ⊥

pub record HasRange {D : Type 0} (least : Bool) (member : D → Vectors) (ps : List (Option AffineProgram))
    (callees : List (List ℕ)) (f k : ℕ) (row : List ℤ) : Type 0 where
  pub origin : ℕ
  pub reaches : Reaches callees f origin
  pub large : IsLargeRound least member ps origin row
  pub place : ((p : AffineProgram) × (program_of ps f ≡ Some p) × HasRangePlace p k)
      ⊎ ((g : ℕ) × IsCallAt ps callees f k g × Reaches callees g origin)
