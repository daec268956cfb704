use Rattle.std.proofs.Common.{◌+◌, refl}
use Rattle.pungi_emit.proofs.stmt.Cases.{case_laid}
use Rattle.pungi_emit.proofs.expr.case.emit_case.Goals as goal

pub returns : goal.returns
returns c =
    let e = rw c.atom.ensures at c.in_ok-put.ensures in
    let f = rw c.atom-2.ensures at c.in_ok-put-2.ensures in
    case_laid c.args.pos c.args.value c.args.outcome (c.next_place-here.result + 2) c.args.place
    c.next_place-here.result
    c.args.number c.args.code.now c.put.new.code c.put-2.new.code c.next_place-here.ensures refl e f
