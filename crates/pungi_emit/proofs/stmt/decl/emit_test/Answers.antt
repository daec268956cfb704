use Rattle.std.proofs.Common.{◌+◌, refl, arith}
use Rattle.pungi_resolved.specs.ValueView.{value_view}
use Rattle.pungi_emit.proofs.stmt.Decls.{test_laid, alone_grown}
use Rattle.pungi_emit.proofs.stmt.decl.emit_test.Goals as goal

pub returns : goal.returns
returns c =
    let h = rw (c.atom.ensures, c.in_ok-value.ensures.var, c.first_token-token.ensures) at c.in_ok-put.ensures in
    test_laid c.args.around.locals (c.next_place-place.result + 1) c.next_place-place.result c.args.other
    (value_view c.args.test.now) c.args.code.now c.emit_alone.new.code c.put.new.code c.in_ok-value.ensures.code
    c.next_place-place.ensures refl h

pub next_place-place-requires : goal.next_place-place-requires
next_place-place-requires c =
    let n = alone_grown c.args.around.locals (value_view c.args.test.now) c.args.code.now c.emit_alone.new.code
    c.in_ok-value.ensures.code in
    omega (arith, n, c.requires.long)

pub overflow_add-go : goal.overflow_add-go
overflow_add-go c =
    let n = alone_grown c.args.around.locals (value_view c.args.test.now) c.args.code.now c.emit_alone.new.code
    c.in_ok-value.ensures.code in
    omega (arith, n, c.next_place-place.ensures, c.requires.long)
