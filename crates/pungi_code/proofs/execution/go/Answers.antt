use Rattle.std.proofs.Common.{◌≡◌, ◌-◌, ◌+◌, suc, sym, ◌∙◌, arith, Some, None}
use Rattle.std.specs.Prelude.{slice_get}
use Rattle.pungi_code.specs.Machine.{regs_of, frames_of, next_place}
use Rattle.pungi_code.proofs.RunLemmas.{run_on, run_ends, run_past}
use Rattle.pungi_code.proofs.execution.go.Goals as goal

pub returns-in_default : goal.returns-in_default
returns-in_default c =
    let s = c.loop-i.stack in
    let n = c.args.fuel - (c.loop-i.i + 1) in
    let e : c.args.fuel - c.loop-i.i ≡ suc n = omega arith in
    let at : slice_get s.instrs.now c.loop-i.pc ≡ None = c.in_default.ensures in
    run_past c.args.codes.now c.args.choices.now (c.args.fuel - c.loop-i.i) n c.loop-i.pc
    (frames_of s.waiting.items) s.instrs.now (regs_of c.loop-i.m) e at
    ∙ c.loop-i.invariant

pub returns-in-None : goal.returns-in-None
returns-in-None c =
    let s = c.loop-i.stack in
    let n = c.args.fuel - (c.loop-i.i + 1) in
    let e : c.args.fuel - c.loop-i.i ≡ suc n = omega arith in
    let at : slice_get s.instrs.now c.loop-i.pc ≡ Some c.in-Some.line.now = c.in-Some.ensures.0 in
    let is : next_place c.in_ok-after.after ≡ None = sym c.next_place.ensures ∙ c.in-None.is in
    run_ends c.args.codes.now c.args.choices.now (c.args.fuel - c.loop-i.i) n c.loop-i.pc
    (frames_of s.waiting.items) s.instrs.now (regs_of c.loop-i.m) c.perform_in.new.stack c.perform_in.new.m
    c.in-Some.line.now c.in_ok-after.after e at c.in_ok-after.ensures is
    ∙ c.loop-i.invariant

pub loop-i-preserved : goal.loop-i-preserved
loop-i-preserved c =
    let s = c.loop-i.stack in
    let n = c.args.fuel - (c.loop-i.i + 1) in
    let e : c.args.fuel - c.loop-i.i ≡ suc n = omega arith in
    let at : slice_get s.instrs.now c.loop-i.pc ≡ Some c.in-Some.line.now = c.in-Some.ensures.0 in
    let is : next_place c.in_ok-after.after ≡ Some c.in-Some-next_place.next = sym c.next_place.ensures
    ∙ c.in-Some-next_place.is in
    run_on c.args.codes.now c.args.choices.now (c.args.fuel - c.loop-i.i) n c.loop-i.pc c.in-Some-next_place.next
    (frames_of s.waiting.items) s.instrs.now (regs_of c.loop-i.m) c.perform_in.new.stack c.perform_in.new.m
    c.in-Some.line.now c.in_ok-after.after e at c.in_ok-after.ensures is
    ∙ c.loop-i.invariant
