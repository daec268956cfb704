use Rattle.std.proofs.Common.{◌≡◌, ◌-◌}
use Rattle.pungi_code.specs.Machine.{regs_of, frames_of}
use Rattle.pungi_code.specs.Run.{execute}
use Rattle.pungi_code.proofs.execution.go.Given as goal

abbrev pub invariant-loop-i : goal.invariant-loop-i
invariant-loop-i l =
    (execute l.codes l.choices (l.fuel - l.i) (frames_of l.stack.waiting.items) l.stack.instrs.now l.pc
    (regs_of l.m)).end
    ≡ (execute l.codes l.choices l.fuel (frames_of l.initial.stack.waiting.items) l.initial.stack.instrs.now 0
    (regs_of l.initial.m)).end
