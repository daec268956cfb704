-- Where a run of a code stands, and that everything is of its kind there. A run stands before an instruction, and each
-- instruction leads to one place more or ends the run.
--   Point                       where a run stands: the codes that wait, instructions, a place among them, and what is
--                               held
--   objects_at s                how many objects are there
--   go_on go s                  the run goes on from there so
--   does codes choices s go     what the next instruction does, however the run goes on
--   IsOfCode codes n lines vars     instructions are those of a code of the file, and variables hold their kinds
--   IsWaiting codes n k b       so do those of a code that waits for the result of this kind of the code that it called
--   AreWaiting codes n k bs     so do those of all codes that wait, the newest first
--   outermost                   the kind of the result of the code that was there first
--   HasKinds codes result choices first s   so is all that is held at a point, in a run of a code with this result that
--                               began with so many objects and has one more at most for each choice that it used
--   Ends told result            what an instruction does ends the run; what is returned is of the kind of the result
--   GoesOn codes told Then      it leads to a point where this is so, with operations that have values of their kinds
--   IsTaken codes s code line   the instruction there takes what is unset or of the kinds that it needs
--   Steps                       at a point all is of its kind, and the next instruction ends the run or leads to a
--                               point where this is so
--   KeepsKinds codes result choices first fuel s    so it is at each of so many instructions from there on
use Rattle.std.specs.Prelude.{◌≡◌, ℕ, zero, suc, ◌+◌, ◌≤◌, ◌⊎◌, Bool, true, List, [], ◌∷◌, length, Option, Some, None}
use Rattle.std.specs.Prelude.{option_map, slice_get}
use Rattle.pungi_base.specs.declared.choice.Choice.{Choice}
use Rattle.pungi_api.specs.declared.param.Param.{Param}
use Rattle.pungi_world.specs.declared.content.Content.{Content}
use Rattle.pungi_world.specs.declared.content.Content.TheVariants.{Holds}
use Rattle.pungi_meaning.specs.Run.{Run, End, Returned, Stopped, NeedsChoice, OutOfFuel, end_at_once, with_operations}
use Rattle.pungi_meaning.specs.Todo.{Operation}
use Rattle.pungi_code.specs.declared.code.Code.{Code}
use Rattle.pungi_code.specs.declared.code.Codes.{Codes}
use Rattle.pungi_code.specs.declared.code.Line.{Line}
use Rattle.pungi_code.specs.Frames.{CodeFrame, Rest}
use Rattle.pungi_code.specs.Registers.{Regs}
use Rattle.pungi_code.specs.Run.{among, code_at, fetch_in}
use Rattle.pungi_code.specs.WellFormed.{fits_result, kinds_of}
use Rattle.pungi_kinds.specs.Contents.{contents_hold, gives_result, SlotsHold}
use Rattle.pungi_kinds.specs.Operations.{OperationsHold}
use Rattle.pungi_kinds.specs.Taken.{takes_kinds}

pub record Point : Type 0 where
  pub frames : List CodeFrame
  pub instrs : List Line
  pub place : ℕ
  pub regs : Regs

abbrev pub objects_at : Point → ℕ
objects_at s = length s.regs.world.accounts

abbrev pub go_on : Rest → Point → Run
go_on go s = go s.frames s.instrs s.place s.regs

abbrev pub does : Codes → List Choice → Point → Rest → Run
does codes choices s go =
    fetch_in (among codes.codes choices s.frames) go s.instrs (slice_get s.instrs s.place) s.place s.regs

-- ---- what is held

pub record IsOfCode (codes : Codes) (n : ℕ) (lines : List Line) (contents : List Content) : Type 0 where
  pub number : ℕ
  pub code : Code
  pub there : code_at codes number ≡ Some code
  pub instrs : lines ≡ code.instrs
  pub vars : contents_hold n code.vars contents ≡ true

pub record IsWaiting (codes : Codes) (n : ℕ) (result : Option Param) (b : CodeFrame) : Type 0 where
  pub runs : IsOfCode codes n b.instrs b.vars
  pub into : fits_result runs.code.vars result b.into ≡ true

abbrev pub AreWaiting : Codes → ℕ → Option Param → List CodeFrame → Type 0
AreWaiting codes n result [] = Unit {0}
AreWaiting codes n result (b ∷ frames) =
    (w : IsWaiting codes n result b) × AreWaiting codes n w.runs.code.result frames

abbrev pub outermost : (codes : Codes) (n : ℕ) (result : Option Param) (frames : List CodeFrame)
    → AreWaiting codes n result frames → Option Param
outermost codes n result [] w = result
outermost codes n result (b ∷ frames) w = outermost codes n w.0.runs.code.result frames w.1

pub record HasKinds (codes : Codes) (result : Option Param) (choices : List Choice) (first : ℕ) (s : Point)
    : Type 0 where
  pub runs : IsOfCode codes (objects_at s) s.instrs s.regs.vars
  pub waiting : AreWaiting codes (objects_at s) runs.code.result s.frames
  pub outer : outermost codes (objects_at s) runs.code.result s.frames waiting ≡ result
  pub slots : SlotsHold codes (objects_at s) s.regs.world.slots
  pub statics : codes.statics ≤ objects_at s
  pub objects : objects_at s ≤ first + length s.regs.used
  pub used : length s.regs.used ≤ length choices

-- ---- runs

abbrev pub end_holds : Option Param → End → Bool
end_holds result (Returned w v p used) = gives_result (length w.accounts) result (option_map Holds v)
end_holds result (Stopped p) = true
end_holds result NeedsChoice = true
end_holds result OutOfFuel = true

pub record Ends (told : Rest → Run) (result : Option Param) : Type 0 where
  pub end : End
  pub by : (go : Rest) → told go ≡ end_at_once end
  pub holds : end_holds result end ≡ true

pub record GoesOn (codes : Codes) (told : Rest → Run) (Then : Point → Type 0) : Type 0 where
  pub ops : List Operation
  pub next : Point
  pub by : (go : Rest) → told go ≡ with_operations ops (go_on go next)
  pub holds : OperationsHold codes (objects_at next) ops
  pub then : Then next

abbrev pub IsTaken : (codes : Codes) (s : Point) → Code → Option Line → Type 0
IsTaken codes s code None = Unit {0}
IsTaken codes s code (Some line) =
    takes_kinds (kinds_of codes) code (objects_at s) s.regs.vars line.instr ≡ true

pub record Steps (codes : Codes) (result : Option Param) (choices : List Choice) (first : ℕ)
    (Then : Point → Type 0) (s : Point) : Type 0 where
  pub has : HasKinds codes result choices first s
  pub takes : IsTaken codes s has.runs.code (slice_get s.instrs s.place)
  pub step : Ends (does codes choices s) result ⊎ GoesOn codes (does codes choices s) Then

abbrev pub KeepsKinds : Codes → Option Param → List Choice → ℕ → ℕ → Point → Type 0
KeepsKinds codes result choices first zero s = HasKinds codes result choices first s
KeepsKinds codes result choices first (suc fuel) s =
    Steps codes result choices first (KeepsKinds codes result choices first fuel) s
