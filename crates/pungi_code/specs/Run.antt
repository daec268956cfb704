-- A run of a code: its instructions, one after another, as long as there is fuel. A call of a function of the file goes
-- into its code, and a return goes back to the code that waits.
--   fetch                            the instruction at a place; where none is the run stops
--   exec choices code fuel pc m      a run of at most so many instructions from a place of the code on, alone: a call
--                                    of a function of the file stops
--   Around                           what a code runs among: the codes of the file, the choices, and the codes that
--                                    wait
--   calling p code pc x m            the frame of a code that calls another
--   perform_in around go code        an instruction that calls, returns, or does what it does alone
--   fetch_in, execute, exec_in around code fuel pc m    a run of at most so many instructions among these
--   start code entry                 what is held where the run of a code begins
--   label_of h                       the label of a loop's head
--   code_at codes f                  the code of a function, by the function's number; none where it has none
--   run_of_code                      the run of a code of a file from an entry; without a code no run
use Rattle.std.specs.Prelude.{ℕ, zero, suc, ◌+◌, List, [], slice_get, Option, Some, None}
use Rattle.pungi_base.specs.declared.choice.Choice.{Choice}
use Rattle.pungi_base.specs.declared.entry.Entry.{Entry}
use Rattle.pungi_base.specs.declared.pos.Pos.{Pos}
use Rattle.pungi_world.specs.World.{world_at}
use Rattle.pungi_meaning.specs.Run.{Run, end_at_once, Stopped, OutOfFuel, nowhere}
use Rattle.pungi_code.specs.declared.atom.Var.{Var}
use Rattle.pungi_code.specs.declared.code.Code.{Code}
use Rattle.pungi_code.specs.declared.code.Codes.{Codes}
use Rattle.pungi_code.specs.declared.code.Head.{Head}
use Rattle.pungi_code.specs.declared.code.Line.{Line}
use Rattle.pungi_code.specs.declared.instr.Instr.{Instr}
use Rattle.pungi_code.specs.declared.instr.Instr.TheVariants.{Call, Return}
use Rattle.pungi_code.specs.declared.instr.Label.{Label}
use Rattle.pungi_code.specs.Frames.{CodeFrame, code_numbered, param_vars, Rest, enter, leave}
use Rattle.pungi_code.specs.Registers.{Regs, Next, content_of, with_value, all_values, with_values}
use Rattle.pungi_code.specs.Perform.{perform}

-- ---- a code alone

abbrev pub fetch : List Choice → Option Line → Next → ℕ → Regs → Run
fetch choices None next pc m = end_at_once (Stopped nowhere)
fetch choices (Some line) next pc m = perform choices line.instr line.pos next pc m

abbrev pub exec : List Choice → List Line → ℕ → Next
exec choices code zero pc m = end_at_once OutOfFuel
exec choices code (suc fuel) pc m = fetch choices (slice_get code pc) (exec choices code fuel) pc m

-- ---- among the codes of a file

pub record Around : Type 0 where
  pub codes : List (Option Code)
  pub choices : List Choice
  pub frames : List CodeFrame

abbrev pub calling : Pos → List Line → ℕ → Option Var → Regs → CodeFrame
calling p code pc x m = record { call = p; instrs = code; place = pc + 1; vars = m.vars; into = x }

abbrev pub perform_in : Around → Rest → List Line → Instr → Pos → ℕ → Regs → Run
perform_in a go code (Call x f as') p pc m =
    with_values (all_values as' m.vars) p
    (λ vs. enter go a.frames (calling p code pc x m) f vs m (code_numbered a.codes f))
perform_in a go code (Return None) p pc m = leave go a.frames m.world None p m.used
perform_in a go code (Return (Some v)) p pc m =
    with_value (content_of v m.vars) p (λ x. leave go a.frames m.world (Some x) p m.used)
perform_in a go code i p pc m = perform a.choices i p (go a.frames code) pc m

abbrev pub fetch_in : Around → Rest → List Line → Option Line → ℕ → Regs → Run
fetch_in a go code None pc m = end_at_once (Stopped nowhere)
fetch_in a go code (Some line) pc m = perform_in a go code line.instr line.pos pc m

abbrev pub among : List (Option Code) → List Choice → List CodeFrame → Around
among codes choices frames = record { codes = codes; choices = choices; frames = frames }

abbrev pub execute : List (Option Code) → List Choice → ℕ → Rest
execute codes choices zero frames code pc m = end_at_once OutOfFuel
execute codes choices (suc fuel) frames code pc m =
    fetch_in (among codes choices frames) (execute codes choices fuel) code (slice_get code pc) pc m

abbrev pub exec_in : Around → List Line → ℕ → Next
exec_in a code fuel pc m = execute a.codes a.choices fuel a.frames code pc m

-- ---- functions

abbrev pub start : Code → Entry → Regs
start code entry = record { world = world_at entry; used = []; vars = param_vars code entry.args }

abbrev pub label_of : Head → Label
label_of h = h.label

abbrev pub code_at : Codes → ℕ → Option Code
code_at codes f = code_numbered codes.codes f

abbrev pub run_of_code : List (Option Code) → Option Code → Entry → List Choice → ℕ → Run
run_of_code codes None entry choices fuel = end_at_once (Stopped nowhere)
run_of_code codes (Some code) entry choices fuel = execute codes choices fuel [] code.instrs 0 (start code entry)
