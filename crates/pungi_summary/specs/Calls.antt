-- The functions of a file by their numbers: each with its affine program, and with the functions that it calls. An edge
-- stands in a program only where its call is reached and the called function can leave, so a function may call others
-- that no edge of its program calls.
--   program_of ps f        the program of a function, if it has one
--   callees_of callees f   the functions that it calls
--   IsCalled callees f g   g is one of them
--   Reaches callees f g    g is f, or a function that f calls reaches it
--   LacksProgram ps callees f    f reaches a function without a program
--   CallsFrom p k g        an edge of the program from place k calls g
--   first_entry p          the first entry of the program, or 0 where it has none
--   IsCallPlace o k g      an edge of the program from place k calls g; or none does, and k is the first entry. Where
--                          there is no program, k is 0
--   IsCallAt ps callees f k g    f calls g, and k is so a place of f's program for that call
--   HasClass o class n     the program, if there is one, has an exit class of n coordinates by this number
--   IsCallable ps fs a     where the action is a call, it is one of one of these functions; where that has a program,
--                          the exit class is one of it, and has one coordinate for each target's that takes them
--   AreCallable ps callees    each function has its callees, which are functions of the file; the programs are
--                          well-formed, and the actions of their edges are so with the callees of their functions
--   HasPlace ps callees f k    f has a program, of which an edge from place k has a duty; or k is the place of a call
use Rattle.std.specs.Prelude.{◌≡◌, ◌⊎◌, ℕ, ◌<◌, List, [], length, Option, None, Some, slice_get}
use Rattle.std.specs.List.{All, Contains, slice_index_or}
use Rattle.pungi_domain.specs.Programs.{IsWellFormed}
use Rattle.pungi_domain.specs.declared.action.Action.{Action}
use Rattle.pungi_domain.specs.declared.action.Action.TheVariants.{Map, Free, Call}
use Rattle.pungi_domain.specs.declared.affine_edge.AffineEdge.{AffineEdge}
use Rattle.pungi_domain.specs.declared.affine_program.AffineProgram.{AffineProgram}
use Rattle.pungi_fixpoint.specs.Solver.{HasDuty}
use Rattle.pungi_fixpoint.specs.Summaries.{flatten}

abbrev pub program_of : List (Option AffineProgram) → ℕ → Option AffineProgram
program_of ps f = flatten (slice_get ps f)

abbrev pub callees_of : List (List ℕ) → ℕ → List ℕ
callees_of callees f = slice_index_or callees f []

abbrev pub IsCalled : List (List ℕ) → ℕ → ℕ → Type 0
IsCalled callees f g = Contains (callees_of callees f) g

pub data Reaches (callees : List (List ℕ)) : ℕ → ℕ → Type 0 where
  reaches_self : (f : ℕ) → Reaches callees f f
  reaches_by : (f g h : ℕ) → IsCalled callees f g → Reaches callees g h → Reaches callees f h

abbrev pub LacksProgram : List (Option AffineProgram) → List (List ℕ) → ℕ → Type 0
LacksProgram ps callees f = (g : ℕ) × Reaches callees f g × (program_of ps g ≡ None)

-- ---- the places of calls

pub record CallsFrom (p : AffineProgram) (k g : ℕ) : Type 0 where
  pub number : ℕ
  pub edge : AffineEdge
  pub edge_is : slice_get p.edges number ≡ Some edge
  pub from : edge.from ≡ k
  pub class : ℕ
  pub onto : List ℕ
  pub action : edge.action ≡ Call g class onto

abbrev pub first_entry : AffineProgram → ℕ
first_entry p = slice_index_or p.entries 0 0

abbrev pub IsCallPlace : Option AffineProgram → ℕ → ℕ → Type 0
IsCallPlace None k g = k ≡ 0
IsCallPlace (Some p) k g = CallsFrom p k g ⊎ (((j : ℕ) → CallsFrom p j g → ⊥) × (k ≡ first_entry p))

pub record IsCallAt (ps : List (Option AffineProgram)) (callees : List (List ℕ)) (f k g : ℕ) : Type 0 where
  pub called : IsCalled callees f g
  pub place : IsCallPlace (program_of ps f) k g

-- ---- what calls have to fit

abbrev pub HasClass : Option AffineProgram → ℕ → ℕ → Type 0
HasClass None class n = Unit {0}
HasClass (Some p) class n = (class < length p.exits) × (slice_index_or p.exits class 0 ≡ n)

abbrev pub IsCallable : List (Option AffineProgram) → List ℕ → Action → Type 0
IsCallable ps fs (Map m) = Unit {0}
IsCallable ps fs (Free c) = Unit {0}
IsCallable ps fs (Call g class onto) = Contains fs g × HasClass (program_of ps g) class (length onto)

pub record AreCallable (ps : List (Option AffineProgram)) (callees : List (List ℕ)) : Type 0 where
  pub count : length callees ≡ length ps
  pub below : (f g : ℕ) → IsCalled callees f g → g < length ps
  pub well_formed : (f : ℕ) (p : AffineProgram) → program_of ps f ≡ Some p → IsWellFormed p
  pub calls : (f : ℕ) (p : AffineProgram) → program_of ps f ≡ Some p
      → All (λ e. IsCallable ps (callees_of callees f) e.action) p.edges

-- ---- the places of failing duties

pub record HasPlace (ps : List (Option AffineProgram)) (callees : List (List ℕ)) (f k : ℕ) : Type 0 where
  pub program : AffineProgram
  pub program_is : program_of ps f ≡ Some program
  pub place : HasDuty program k ⊎ ((g : ℕ) × IsCallAt ps callees f k g)
