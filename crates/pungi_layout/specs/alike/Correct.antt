-- What the lowering promises of the functions of a file.
--   source fs f entry choices n     the function's run, of at most so many steps
--   target codes code entry choices n   the code's run, of at most so many instructions
--   IsSoundFunction f           what the layout requires of a function: its statements are sound, its locals are its
--                               parameters and what it declares, and it is within the limits
--   HasCode codes n             a function has code, by its number
--   CallsThere codes lines      so has each function that the instructions of a code call
--   IsCodeOf fs codes n code    a code is that of the function of this number, which is sound, and calls such functions
--   AreLaidOut fs codes         so is each code of a file
--   Behaves fs codes f code most    from any entry and with any choices both runs are alike
--   IsAlikeIfLaidOut f          so is the code of a sound function, in any file whose codes are laid out
use Rattle.std.specs.Prelude.{◌≡◌, ℕ, ◌*◌, ◌≤◌, List, [], length, Option, Some, slice_get}
use Rattle.pungi_base.specs.declared.choice.Choice.{Choice}
use Rattle.pungi_base.specs.declared.entry.Entry.{Entry}
use Rattle.pungi_base.specs.declared.pos.Pos.{Pos}
use Rattle.pungi_resolved.specs.Functions.{ResolvedFunction}
use Rattle.pungi_meaning.specs.Frames.{numbered}
use Rattle.pungi_meaning.specs.Run.{Run, run_of}
use Rattle.pungi_code.specs.declared.atom.Atom.{Atom}
use Rattle.pungi_code.specs.declared.atom.Var.{Var}
use Rattle.pungi_code.specs.declared.code.Code.{Code}
use Rattle.pungi_code.specs.declared.code.Line.{Line}
use Rattle.pungi_code.specs.declared.instr.Instr.TheVariants.{Call}
use Rattle.pungi_code.specs.Frames.{code_numbered}
use Rattle.pungi_code.specs.Limits.{steps_an_instruction}
use Rattle.pungi_code.specs.Run.{execute, start}
use Rattle.pungi_code.specs.Alike.{Alike}
use Rattle.pungi_layout.specs.code.FunctionCode.{code_of, HasLocals}
use Rattle.pungi_layout.specs.code.Sound.{IsStmtSound, stmt_nodes}

abbrev pub source : List (Option ResolvedFunction) → ResolvedFunction → Entry → List Choice → ℕ → Run
source fs f entry choices n = run_of fs f entry choices n

abbrev pub target : List (Option Code) → Code → Entry → List Choice → ℕ → Run
target codes code entry choices n = execute codes choices n [] code.instrs 0 (start code entry)

pub record IsSoundFunction (f : ResolvedFunction) (most : ℕ) : Type 0 where
  pub sound : IsStmtSound f.locals f.body
  pub locals : HasLocals f
  pub nodes : 5 * stmt_nodes f.body ≤ most

abbrev pub HasCode : List (Option Code) → ℕ → Type 0
HasCode codes n = (c : Code) × (code_numbered codes n ≡ Some c)

abbrev pub CallsThere : List (Option Code) → List Line → Type 0
CallsThere codes lines =
    (place : ℕ) (p : Pos) (x : Option Var) (n : ℕ) (as' : List Atom)
    → slice_get lines place ≡ Some (record { pos = p; instr = Call x n as' }) → HasCode codes n

pub record IsCodeOf (fs : List (Option ResolvedFunction)) (codes : List (Option Code)) (most n : ℕ) (code : Code)
    : Type 0 where
  pub function : ResolvedFunction
  pub there : numbered fs n ≡ Some function
  pub is : code ≡ code_of function
  pub sound : IsSoundFunction function most
  pub calls : CallsThere codes code.instrs

abbrev pub AreLaidOut : List (Option ResolvedFunction) → List (Option Code) → ℕ → Type 0
AreLaidOut fs codes most = (n : ℕ) (code : Code) → code_numbered codes n ≡ Some code → IsCodeOf fs codes most n code

pub record Behaves (fs : List (Option ResolvedFunction)) (codes : List (Option Code)) (f : ResolvedFunction)
    (code : Code) (most : ℕ) : Type 0 where
  pub alike : (entry : Entry) (choices : List Choice) → length entry.args ≤ f.locals
      → Alike (source fs f entry choices) (target codes code entry choices) most

abbrev pub IsAlikeIfLaidOut : ResolvedFunction → Type 0
IsAlikeIfLaidOut f =
    (fs : List (Option ResolvedFunction)) (codes : List (Option Code)) → AreLaidOut fs codes steps_an_instruction
    → IsSoundFunction f steps_an_instruction → CallsThere codes (code_of f).instrs
    → Behaves fs codes f (code_of f) steps_an_instruction
