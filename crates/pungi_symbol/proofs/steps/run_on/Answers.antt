use Rattle.std.proofs.Common.{◌≡◌, sym, ap, ◌∙◌}
use Rattle.pungi_symbol.specs.declared.states.state.State.{State}
use Rattle.pungi_symbol.specs.answers.SymbolicState.{successors}
use Rattle.pungi_symbol.specs.Promises.{is_there, runs_on, lines_of}
use Rattle.pungi_symbol.proofs.answers.OnlyNext.{only_next}
use Rattle.pungi_symbol.proofs.steps.run_on.Goals as goal

pub instructions-init : goal.instructions-init
instructions-init c = is_there

pub instructions-preserved : goal.instructions-preserved
instructions-preserved c =
    let s = c.instructions.state in
    let t = c.advance.new.self in
    let one = only_next c.lines-code.result.now s t c.in_ok-advance.field-0 c.if-not-branch.false
    c.in_ok-advance.ensures in
    let is : c.lines-code.result.now ≡ lines_of c.args.codes.now s.known.function = c.lines-code.ensures
    ∙ ap (λ (x : State). lines_of c.args.codes.now x.known.function) c.state.ensures in
    runs_on s t one.0 c.instructions.invariant (ap (λ ls. successors ls s) (sym is) ∙ one.1)
