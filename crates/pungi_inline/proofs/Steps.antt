-- Runs of codes, one instruction after another.
--   Config                 the codes that wait, the code that runs, the place of its next instruction, and what is held
--   run n s                a run of at most so many instructions from there
--   OneStep s t            one instruction leads from there to here
--   Steps k s t            so many lead there
--   EndsWith s e           the next instruction ends the run so
--   NeverReturns s         no run from there returns
use Rattle.std.proofs.Common.{◌≡◌, ℕ, suc, List, Option}
use Rattle.pungi_base.specs.declared.choice.Choice.{Choice}
use Rattle.pungi_base.specs.declared.pos.Pos.{Pos}
use Rattle.pungi_base.specs.declared.value.Value.{Value}
use Rattle.pungi_world.specs.declared.world.World.{World}
use Rattle.pungi_meaning.specs.Run.{Run, End}
use Rattle.pungi_code.specs.declared.code.Code.{Code}
use Rattle.pungi_code.specs.declared.code.Line.{Line}
use Rattle.pungi_code.specs.Frames.{CodeFrame}
use Rattle.pungi_code.specs.Registers.{Regs}
use Rattle.pungi_code.specs.Run.{execute}
use Rattle.pungi_inline.specs.Laws.{Returns}

pub record Config : Type 0 where
  pub frames : List CodeFrame
  pub instrs : List Line
  pub place : ℕ
  pub regs : Regs

abbrev pub config : List CodeFrame → List Line → ℕ → Regs → Config
config fs ls pc m = record { frames = fs; instrs = ls; place = pc; regs = m }

module _ (cs : List (Option Code)) (choices : List Choice) where
  abbrev pub run : ℕ → Config → Run
  run n s = execute cs choices n s.frames s.instrs s.place s.regs

  abbrev pub OneStep : Config → Config → Type 0
  OneStep s t = (n : ℕ) → (run (suc n) s).end ≡ (run n t).end

  pub data Steps : ℕ → Config → Config → Type 0 where
    here : (s : Config) → Steps 0 s s
    more : (k : ℕ) (s t u : Config) → OneStep s t → Steps k t u → Steps (suc k) s u

  abbrev pub EndsWith : Config → End → Type 0
  EndsWith s e = (n : ℕ) → (run (suc n) s).end ≡ e

  abbrev pub NeverReturns : Config → Type 0
  NeverReturns s = (n : ℕ) (w : World) (v : Option Value) (p : Pos) (used : List Pos)
      → Returns (run n s) w v p used → ⊥
