use Rattle.std.proofs.Common.{◌≡◌, ◌-◌, ◌+◌, suc, Option, sym, ◌∙◌, subst, arith}
use Rattle.pungi_meaning.specs.declared.machine.Ending.{Ending}
use Rattle.pungi_meaning.specs.Machine.{frames_of, functions_of, state_of, todos}
use Rattle.pungi_meaning.specs.Outcomes.{GoesOn}
use Rattle.pungi_meaning.specs.Run.{act, run_after, run_from}
use Rattle.pungi_meaning.proofs.RunLemmas.{run_more}
use Rattle.pungi_meaning.proofs.execution.go.Goals as goal

pub returns-in-Some : goal.returns-in-Some
returns-in-Some c =
    let n = c.args.fuel - (c.loop-i.i + 1) in
    let e : c.args.fuel - c.loop-i.i ≡ suc n = omega arith in
    let fs = functions_of c.args.functions.now in
    let before = frames_of c.loop-i.frames.items in
    let st = act c.args.choices.now (todos c.loop-i.m.tasks.items) (state_of c.loop-i.m) in
    let g = subst (λ (h : Option Ending). GoesOn (λ rest. run_after fs rest before st) h c.go_on.new.frames.items
    c.go_on.new.m) c.in-Some.is (c.in_ok-ending.ensures st c.in_ok-halt.ensures) in
    g (run_from fs c.args.choices.now n) ∙ sym (run_more fs c.args.choices.now (c.args.fuel - c.loop-i.i) n before _ _
    e) ∙ c.loop-i.invariant

pub loop-i-preserved : goal.loop-i-preserved
loop-i-preserved c =
    let n = c.args.fuel - (c.loop-i.i + 1) in
    let e : c.args.fuel - c.loop-i.i ≡ suc n = omega arith in
    let fs = functions_of c.args.functions.now in
    let before = frames_of c.loop-i.frames.items in
    let st = act c.args.choices.now (todos c.loop-i.m.tasks.items) (state_of c.loop-i.m) in
    let g = subst (λ (h : Option Ending). GoesOn (λ rest. run_after fs rest before st) h c.go_on.new.frames.items
    c.go_on.new.m) c.in_default.is (c.in_ok-ending.ensures st c.in_ok-halt.ensures) in
    g (run_from fs c.args.choices.now n) ∙ sym (run_more fs c.args.choices.now (c.args.fuel - c.loop-i.i) n before _ _
    e) ∙ c.loop-i.invariant
