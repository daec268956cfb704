use Rattle.std.proofs.Common.{arith}
use Rattle.std.proofs.lemmas.Result.{on_ok_weaker}
use Rattle.pungi_emit.proofs.expr.OutputSteps.{steps_grown, outputs_emitted}
use Rattle.pungi_emit.proofs.expr.outputs.emit_outputs.Goals as goal

pub returns : goal.returns
returns c =
    let end = rw c.next_place-here.ensures at c.after_outputs-end.ensures in
    let e = rw (c.temp_in-value.ensures, c.temp_in-outcome.ensures) at c.in_ok-emit_steps.ensures in
    on_ok_weaker c.emit_results.result (outputs_emitted c.args.around.locals c.args.depth c.args.target
    c.after_outputs-end.result c.args.pos c.args.steps.now c.args.code.now c.emit_steps.new.code
    c.emit_results.new.code end e) c.emit_results.ensures

pub emit_results-requires : goal.emit_results-requires
emit_results-requires c =
    let n = steps_grown c.temp_in-value.result c.temp_in-outcome.result c.args.pos c.after_outputs-end.result
    c.args.steps.now c.args.code.now c.emit_steps.new.code c.in_ok-emit_steps.ensures in
    omega (arith, n, c.requires.long)
