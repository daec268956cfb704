-- What affine programs of functions that call each other are for (Karr 1976; Sharir and Pnueli 1981, the functional
-- approach): where sets of vectors stand at the places and exit classes of all functions that a function reaches by
-- calls, each program's edges keep its own, a call finds those at the exit classes of the function that it calls,
-- nothing is owed where a token is dropped, and each exit duty of the function itself is met, then each run of it that
-- returns is balanced, through all calls, however deep.
--   IsAlwaysBalancedAmong codes code    each run of a code among the codes of its file that returns is balanced under
--                           its terms, from each entry that fits it
--   IsPlace t               an edge leads to a place
--   MeetsDrops p at         the duties of the edges to places are met
--   IsKeptBy codes g at exits    so it is with the program of a function, which keeps its sets, where `exits h c` is
--                           the set of the exit class c of the function h
--   AreSafeSets codes f at exits    so it is with each function that f reaches, and with f, whose program meets its
--                          duties
--   ValuesAreBalancedAmong member    the promise, for the vectors of any values, as a search for a fixed point finds
--                           them, and no vectors where there is none
--   SafeRowsAreBalanced     the promise, for the vectors that meet rows, given for each function
use Rattle.std.specs.Prelude.{◌≡◌, ℕ, true, List, Option, Some}
use Rattle.std.specs.List.{All}
use Rattle.pungi_base.specs.declared.choice.Choice.{Choice}
use Rattle.pungi_base.specs.declared.entry.Entry.{Entry}
use Rattle.pungi_base.specs.declared.pos.Pos.{Pos}
use Rattle.pungi_base.specs.declared.value.Value.{Value}
use Rattle.pungi_domain.specs.Annotations.{MeetsAll, IsInductive, IsSafe, Rows, met}
use Rattle.pungi_domain.specs.Vectors.{Vector, Vectors}
use Rattle.pungi_domain.specs.declared.affine_program.AffineProgram.{AffineProgram}
use Rattle.pungi_domain.specs.declared.target.Target.{Target}
use Rattle.pungi_domain.specs.declared.target.Target.TheVariants.{Place, Exit}
use Rattle.pungi_world.specs.Escapes.{IsBalanced}
use Rattle.pungi_world.specs.declared.world.World.{World}
use Rattle.pungi_meaning.specs.Run.{Returned}
use Rattle.pungi_code.specs.declared.code.Code.{Code}
use Rattle.pungi_code.specs.declared.code.Codes.{Codes}
use Rattle.pungi_code.specs.Entries.{code_fits}
use Rattle.pungi_code.specs.Run.{code_at, run_of_code}
use Rattle.pungi_code.specs.WellFormed.{AreWellFormed}
use Rattle.pungi_shape.specs.Named.{functions_from}
use Rattle.pungi_shape.specs.Programs.{IsProgram}
use Rattle.pungi_shape.specs.Promises.{vectors_of}

abbrev pub IsAlwaysBalancedAmong : Codes → Code → Type 0
IsAlwaysBalancedAmong codes code =
    (entry : Entry) (choices : List Choice) (fuel : ℕ) (w : World) (v : Option Value) (p : Pos) (used : List Pos)
    → code_fits codes.statics code entry ≡ true
    → (run_of_code codes.codes (Some code) entry choices fuel).end ≡ Returned w v p used
    → IsBalanced code.terms entry w v

abbrev pub IsPlace : Target → Type 0
IsPlace (Place k) = Unit {0}
IsPlace (Exit k) = ⊥

abbrev pub MeetsDrops : AffineProgram → (ℕ → Vectors) → Type 0
MeetsDrops p at =
    All (λ e. IsPlace e.to → (v : Vector) → at e.from v → MeetsAll e.guard v → MeetsAll e.duties v) p.edges

pub record IsKeptBy (codes : Codes) (g : ℕ) (at exits : ℕ → ℕ → Vectors) : Type 0 where
  pub program : AffineProgram
  pub is : IsProgram codes g program
  pub inductive : IsInductive program exits (at g) (exits g)
  pub drops : MeetsDrops program (at g)

pub record AreSafeSets (codes : Codes) (f : ℕ) (at exits : ℕ → ℕ → Vectors) : Type 0 where
  pub each : All (λ g. IsKeptBy codes g at exits) (functions_from codes f)
  pub own : IsKeptBy codes f at exits
  pub safe : IsSafe own.program (at f)

abbrev pub ValuesAreBalancedAmong : {D : Type 0} → (D → Vectors) → Type 0
ValuesAreBalancedAmong {D} member =
    (codes : Codes) (f : ℕ) (code : Code) (at exits : ℕ → ℕ → Option D) → AreWellFormed codes
    → code_at codes f ≡ Some code
    → AreSafeSets codes f (λ g k. vectors_of member (at g k)) (λ g c. vectors_of member (exits g c))
    → IsAlwaysBalancedAmong codes code

abbrev pub SafeRowsAreBalanced : Type 0
SafeRowsAreBalanced =
    (codes : Codes) (f : ℕ) (code : Code) (rows : ℕ → Rows) → AreWellFormed codes → code_at codes f ≡ Some code
    → AreSafeSets codes f (λ g. met (rows g).at) (λ g. met (rows g).exits) → IsAlwaysBalancedAmong codes code
