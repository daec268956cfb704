-- The executor's machine as what the meaning holds.
--   regs_of m             what a machine holds
--   next_place after      the place of the next instruction, where the run goes on
--   end_at after m        how a run ends that goes no further
--   Reaches next after m  the run goes on from here so
--   Does told after m     what an instruction did is as defined, however the run goes on
--   frame_of, frames_of   the codes that wait, the newest first
--   DoesIn told after stack m   so is what an instruction did among the codes of a file
use Rattle.std.specs.Prelude.{◌≡◌, ℕ, List, map, reverse, Option, Some, None}
use Rattle.pungi_meaning.specs.Run.{Run, End, end_at_once, Returned, Stopped, NeedsChoice, OutOfFuel}
use Rattle.pungi_code.specs.declared.registers.Registers.{Registers}
use Rattle.pungi_code.specs.declared.registers.After.{After}
use Rattle.pungi_code.specs.declared.registers.After.TheVariants as after
use Rattle.pungi_code.specs.declared.frames.Waiting.{Waiting}
use Rattle.pungi_code.specs.declared.frames.CallStack.{CallStack}
use Rattle.pungi_code.specs.Frames.{CodeFrame, Rest}
use Rattle.pungi_code.specs.Registers.{Regs, Next}

abbrev pub regs_of : Registers → Regs
regs_of m = record { world = m.world; used = m.used.items; vars = m.vars.items }

abbrev pub Reaches : Next → After → Regs → Run
Reaches next (after.Goes pc) m = next pc m
Reaches next (after.Leaves p v) m = end_at_once (Returned m.world v p m.used)
Reaches next (after.Stops p) m = end_at_once (Stopped p)
Reaches next after.Wants m = end_at_once NeedsChoice

abbrev pub next_place : After → Option ℕ
next_place (after.Goes pc) = Some pc
next_place a = None

abbrev pub end_at : After → Registers → End
end_at (after.Goes pc) m = OutOfFuel
end_at (after.Leaves p v) m = Returned m.world v p m.used.items
end_at (after.Stops p) m = Stopped p
end_at after.Wants m = NeedsChoice

abbrev pub Does : (Next → Run) → After → Registers → Type 0
Does told after m = (next : Next) → (told next).end ≡ (Reaches next after (regs_of m)).end

-- ---- among the codes of a file

abbrev pub frame_of : Waiting → CodeFrame
frame_of w = record { call = w.call; instrs = w.instrs.now; place = w.place; vars = w.vars.items; into = w.into }

abbrev pub frames_of : List Waiting → List CodeFrame
frames_of ws = map frame_of (reverse ws)

abbrev pub DoesIn : (Rest → Run) → After → CallStack → Registers → Type 0
DoesIn told after stack m =
    (rest : Rest)
    → (told rest).end ≡ (Reaches (rest (frames_of stack.waiting.items) stack.instrs.now) after (regs_of m)).end
