use Rattle.std.proofs.Common.{◌+◌, ◌++◌, length, sym, ap, ◌∙◌, arith}
use Rattle.std.proofs.lemmas.List.{append-nil}
use Rattle.pungi_emit.proofs.expr.OutputSteps.{code_done}
use Rattle.pungi_emit.proofs.expr.outputs.emit_missing.Goals as goal

pub returns : goal.returns
returns c =
    let so_far = c.loop-i.code in
    let e = code_done c.args.locals (c.args.depth + c.loop-i.i) c.args.pos (length so_far) c.args.other
    c.loop-i.left.now c.args.args.now c.loop-i.i (omega arith) in
    sym (append-nil so_far) ∙ sym (ap (λ l. so_far ++ l) e) ∙ c.loop-i.invariant.code
