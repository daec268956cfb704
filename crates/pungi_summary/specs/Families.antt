-- Annotations of functions that call each other: a family of sets of vectors, `at f k` at place k of function f and
-- `exits f c` at its exit class c, which calls of f read. Only functions that a function f reaches count.
--   AreInductive ps callees at exits f    the sets of each such function are inductive (Karr 1976)
--   AreSafe ps callees at exits f    they are, meet the duties of all edges to places, and those of f the duties of its
--                                 edges to exit classes too
--   places_of rows f, exits_of rows f    the vectors that meet the rows of a family
--   HaveWidthsOver ps callees rows f    a row has as many coefficients as its place or exit class has coordinates
--   AreInductiveRows ps callees rows f    the vectors that meet the rows are such inductive sets
--   AreSafeRows ps callees rows f    and safe ones
use Rattle.std.specs.Prelude.{◌≡◌, ℕ, List, Option, Some}
use Rattle.pungi_domain.specs.Annotations.{IsInductive, HaveWidths, Rows, met}
use Rattle.pungi_domain.specs.Vectors.{Vectors}
use Rattle.pungi_domain.specs.declared.affine_program.AffineProgram.{AffineProgram}
use Rattle.pungi_fixpoint.specs.Duties.{MeetsDuties}
use Rattle.pungi_fixpoint.specs.declared.duty_kind.DutyKind.TheVariants.{OfPlaces, OfExits}
use Rattle.pungi_summary.specs.Calls.{program_of, Reaches}

abbrev pub AreInductive : List (Option AffineProgram) → List (List ℕ) → (ℕ → ℕ → Vectors) → (ℕ → ℕ → Vectors) → ℕ
    → Type 0
AreInductive ps callees at exits f =
    (g : ℕ) (p : AffineProgram) → Reaches callees f g → program_of ps g ≡ Some p → IsInductive p exits (at g) (exits g)

pub record AreSafe (ps : List (Option AffineProgram)) (callees : List (List ℕ)) (at exits : ℕ → ℕ → Vectors) (f : ℕ)
    : Type 0 where
  pub inductive : AreInductive ps callees at exits f
  pub place_duties : (g : ℕ) (p : AffineProgram) → Reaches callees f g → program_of ps g ≡ Some p
      → MeetsDuties OfPlaces p (at g)
  pub exit_duties : (p : AffineProgram) → program_of ps f ≡ Some p → MeetsDuties OfExits p (at f)

-- ---- rows

abbrev pub places_of : (ℕ → Rows) → ℕ → ℕ → Vectors
places_of rows f k v = met (rows f).at k v

abbrev pub exits_of : (ℕ → Rows) → ℕ → ℕ → Vectors
exits_of rows f c v = met (rows f).exits c v

abbrev pub HaveWidthsOver : List (Option AffineProgram) → List (List ℕ) → (ℕ → Rows) → ℕ → Type 0
HaveWidthsOver ps callees rows f =
    (g : ℕ) (p : AffineProgram) → Reaches callees f g → program_of ps g ≡ Some p → HaveWidths p (rows g)

pub record AreInductiveRows (ps : List (Option AffineProgram)) (callees : List (List ℕ)) (rows : ℕ → Rows) (f : ℕ)
    : Type 0 where
  pub widths : HaveWidthsOver ps callees rows f
  pub inductive : AreInductive ps callees (places_of rows) (exits_of rows) f

pub record AreSafeRows (ps : List (Option AffineProgram)) (callees : List (List ℕ)) (rows : ℕ → Rows) (f : ℕ)
    : Type 0 where
  pub widths : HaveWidthsOver ps callees rows f
  pub safe : AreSafe ps callees (places_of rows) (exits_of rows) f
