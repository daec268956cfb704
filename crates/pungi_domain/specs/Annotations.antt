-- Annotations of an affine program: sets of vectors at its places and exit classes that each step keeps. `calls f c` is
-- the set of vectors that the called function f leaves at its exit class c; `at k` and `exits k` are the sets of place k
-- and of exit class k of the program.
--   MeetsAll es v          the vector meets each of these equations
--   MeetsRows rows v       so it does with equations that are given by their coefficients alone, of any size
--   Sends calls w z a v u  the action makes u of v, which has w coordinates; u has z, and those past them don't count.
--                          A call puts a vector of the called function's exit beside v
--   set_to at exits t      the set of an edge's target
--   IsKept p calls at exits e
--                          each vector at the edge's source that meets its guard is sent to vectors of the target alone
--   IsInductive p calls at exits
--                          every vector is at the entries, and each edge is kept
--   IsSafe p at            each vector at an edge's source that meets its guard meets its duties
--   Rows                   rows for each place and for each exit class, by their numbers
--   HaveWidths p a         a row has as many coefficients as its place or exit class has coordinates
--   met rows k             the vectors that meet the rows of a number
--   IsSafeAnnotation p calls a
--                          such rows are inductive and safe (Karr 1976)
use Rattle.std.specs.Prelude.{◌≡◌, ℕ, ◌<◌, ℤ, pos, List, length}
use Rattle.std.specs.List.{All, slice_index_or}
use Rattle.pungi_domain.specs.Programs.{width_at, width_to}
use Rattle.pungi_domain.specs.Vectors.{Vector, Vectors, dot, image}
use Rattle.pungi_domain.specs.declared.action.Action.{Action}
use Rattle.pungi_domain.specs.declared.action.Action.TheVariants.{Map, Free, Call}
use Rattle.pungi_domain.specs.declared.affine_edge.AffineEdge.{AffineEdge}
use Rattle.pungi_domain.specs.declared.affine_program.AffineProgram.{AffineProgram}
use Rattle.pungi_domain.specs.declared.equation.Equation.{Equation}
use Rattle.pungi_domain.specs.declared.target.Target.{Target}
use Rattle.pungi_domain.specs.declared.target.Target.TheVariants.{Place, Exit}

abbrev pub MeetsAll : List Equation → Vectors
MeetsAll es v = All (λ e. dot e.coefficients v ≡ pos 0) es

abbrev pub MeetsRows : List (List ℤ) → Vectors
MeetsRows rows v = All (λ r. dot r v ≡ pos 0) rows

abbrev pub Sends : (ℕ → ℕ → Vectors) → ℕ → ℕ → Action → Vector → Vector → Type 0
Sends calls w z (Map m) v u = (i : ℕ) → i < z → u i ≡ image m.rows v i
Sends calls w z (Free c) v u = (i : ℕ) → i < z → (i ≡ c → ⊥) → u i ≡ v i
Sends calls w z (Call f class onto) v u =
    ((i : ℕ) → i < w → u i ≡ v i)
    × ((x : Vector) × calls f class x × ((i : ℕ) → i < length onto → u (slice_index_or onto i 0) ≡ x i))

abbrev pub set_to : (ℕ → Vectors) → (ℕ → Vectors) → Target → Vectors
set_to at exits (Place k) = at k
set_to at exits (Exit k) = exits k

abbrev pub IsKept : AffineProgram → (ℕ → ℕ → Vectors) → (ℕ → Vectors) → (ℕ → Vectors) → AffineEdge → Type 0
IsKept p calls at exits e =
    (v u : Vector) → at e.from v → MeetsAll e.guard v
    → Sends calls (width_at p e.from) (width_to p e.to) e.action v u → set_to at exits e.to u

pub record IsInductive (p : AffineProgram) (calls : ℕ → ℕ → Vectors) (at exits : ℕ → Vectors) : Type 0 where
  pub entries : All (λ k. (v : Vector) → at k v) p.entries
  pub edges : All (IsKept p calls at exits) p.edges

abbrev pub IsSafe : AffineProgram → (ℕ → Vectors) → Type 0
IsSafe p at = All (λ e. (v : Vector) → at e.from v → MeetsAll e.guard v → MeetsAll e.duties v) p.edges

-- ---- rows

pub record Rows : Type 0 where
  pub at : ℕ → List (List ℤ)
  pub exits : ℕ → List (List ℤ)

pub record HaveWidths (p : AffineProgram) (a : Rows) : Type 0 where
  pub at : (k : ℕ) → k < length p.widths → All (λ r. length r ≡ slice_index_or p.widths k 0) (a.at k)
  pub exits : (k : ℕ) → k < length p.exits → All (λ r. length r ≡ slice_index_or p.exits k 0) (a.exits k)

abbrev pub met : (ℕ → List (List ℤ)) → ℕ → Vectors
met rows k v = MeetsRows (rows k) v

pub record IsSafeAnnotation (p : AffineProgram) (calls : ℕ → ℕ → Vectors) (a : Rows) : Type 0 where
  pub widths : HaveWidths p a
  pub inductive : IsInductive p calls (met a.at) (met a.exits)
  pub safe : IsSafe p (met a.at)
