-- The codes that wait while one that they called runs.
--   CodeFrame            a code that waits: the place of its call in the text, its instructions, the place among them
--                        where it goes on, its variables, and the one that gets the result of the call, if any
--   code_numbered cs n   the code of a function, by its number, where it has one
--   param_vars c vs      the parameters hold the arguments, and the other variables hold nothing
--   with_params c vs m   what is held where a called code begins
--   Rest                 what comes next: the codes that wait, the instructions, the place, and what is held
--   enter                a code is called; one that isn't there, and one that takes another number of arguments, stops
--                        at the call
--   resumed b w used     what a code that waits holds afterwards
--   resume               it goes on there; where the result is wanted and there is none it stops at its call
--   leave                a return: the newest code that waits goes on; where none waits the run ends
use Rattle.std.specs.Prelude.{ℕ, ◌-◌, ◌==◌, List, [], ◌∷◌, ◌++◌, length, map, replicate, slice_get, Option, Some, None}
use Rattle.std.specs.Prelude.{if◌then◌else◌}
use Rattle.pungi_base.specs.declared.pos.Pos.{Pos}
use Rattle.pungi_base.specs.declared.value.Value.{Value}
use Rattle.pungi_world.specs.declared.content.Content.{Content}
use Rattle.pungi_world.specs.declared.content.Content.TheVariants.{Unset, Holds}
use Rattle.pungi_world.specs.declared.world.World.{World}
use Rattle.pungi_meaning.specs.Todo.{Entered}
use Rattle.pungi_meaning.specs.Run.{Run, end_at_once, with_operations, Returned, Stopped}
use Rattle.pungi_code.specs.declared.atom.Var.{Var}
use Rattle.pungi_code.specs.declared.code.Code.{Code}
use Rattle.pungi_code.specs.declared.code.Line.{Line}
use Rattle.pungi_code.specs.Registers.{Regs, Next, put}

pub record CodeFrame : Type 0 where
  pub call : Pos
  pub instrs : List Line
  pub place : ℕ
  pub vars : List Content
  pub into : Option Var

abbrev pub flatten : Option (Option Code) → Option Code
flatten None = None
flatten (Some code) = code

abbrev pub code_numbered : List (Option Code) → ℕ → Option Code
code_numbered cs n = flatten (slice_get cs n)

abbrev pub param_vars : Code → List Value → List Content
param_vars c vs = map Holds vs ++ replicate (length c.vars - length vs) Unset

abbrev pub with_params : Code → List Value → Regs → Regs
with_params c vs m = record m { vars = param_vars c vs }

-- ---- calls

abbrev pub Rest : Type 0
Rest = List CodeFrame → List Line → Next

abbrev pub enter : Rest → List CodeFrame → CodeFrame → ℕ → List Value → Regs → Option Code → Run
enter go frames b n vs m None = end_at_once (Stopped b.call)
enter go frames b n vs m (Some c) =
    if length vs == c.params then with_operations (Entered b.call n vs ∷ [])
    (go (b ∷ frames) c.instrs 0 (with_params c vs m)) else end_at_once (Stopped b.call)

-- ---- returns

abbrev pub resumed : CodeFrame → World → List Pos → Regs
resumed b w used = record { world = w; used = used; vars = b.vars }

abbrev pub resume : Rest → List CodeFrame → CodeFrame → World → List Pos → Option Var → Option Value → Run
resume go frames b w used None v = go frames b.instrs b.place (resumed b w used)
resume go frames b w used (Some x) None = end_at_once (Stopped b.call)
resume go frames b w used (Some x) (Some v) = go frames b.instrs b.place (put x (Holds v) (resumed b w used))

abbrev pub leave : Rest → List CodeFrame → World → Option Value → Pos → List Pos → Run
leave go [] w v p used = end_at_once (Returned w v p used)
leave go (b ∷ frames) w v p used = resume go frames b w used b.into v
