-- Codes that call no function of their file: each runs and is well-formed alone.
--   calls_none i            an instruction is no call of a function of the file
--   CallsNone code          so are all instructions of a code
--   RunsAlone code codes    its run among any codes is its run alone
--   StandsAlone codes       each well-formed code of a file that calls none is well-formed alone
use Rattle.std.specs.Prelude.{◌≡◌, ℕ, Bool, true, false, List, [], slice_get, Option, Some}
use Rattle.pungi_base.specs.declared.choice.Choice.{Choice}
use Rattle.pungi_code.specs.declared.code.Code.{Code}
use Rattle.pungi_code.specs.declared.code.Codes.{Codes}
use Rattle.pungi_code.specs.declared.code.Line.{Line}
use Rattle.pungi_code.specs.declared.instr.Instr.{Instr}
use Rattle.pungi_code.specs.declared.instr.Instr.TheVariants.{Call}
use Rattle.pungi_code.specs.Registers.{Regs}
use Rattle.pungi_code.specs.Run.{code_at, exec, execute}
use Rattle.pungi_code.specs.WellFormed.{AreWellFormed, IsAlone}

abbrev pub calls_none : Instr → Bool
calls_none (Call x f as') = false
calls_none i = true

abbrev pub CallsNone : List Line → Type 0
CallsNone code = (place : ℕ) (line : Line) → slice_get code place ≡ Some line → calls_none line.instr ≡ true

abbrev pub RunsAlone : List (Option Code) → List Line → Type 0
RunsAlone codes code =
    CallsNone code → (choices : List Choice) (fuel pc : ℕ) (m : Regs)
    → execute codes choices fuel [] code pc m ≡ exec choices code fuel pc m

abbrev pub StandsAlone : Codes → ℕ → Type 0
StandsAlone codes f =
    AreWellFormed codes
    → ((code : Code) → code_at codes f ≡ Some code → CallsNone code.instrs)
    → IsAlone codes f
