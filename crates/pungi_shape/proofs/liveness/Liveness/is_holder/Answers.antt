use Rattle.std.proofs.Common.{◌∙◌}
use Rattle.pungi_shape.proofs.LiveLemmas.{holder_before, holder_past, holder_there}
use Rattle.pungi_shape.proofs.liveness.Liveness.is_holder.Goals as goal

pub returns-then-p-eq0 : goal.returns-then-p-eq0
returns-then-p-eq0 c =
    (rw c.as_slice.ensures at c.is_in_row.ensures) ∙ holder_before c.args.code.now c.args.self.now c.args.p c.args.x
    c.requires.live c.if-x-code.false c.requires.there c.if-p-eq0.true

pub returns-then-p-len : goal.returns-then-p-len
returns-then-p-len c =
    (rw c.as_slice-then-p-len.ensures at c.passes.ensures) ∙ holder_there c.args.code.now c.args.self.now c.args.p
    c.args.x c.requires.live c.if-x-code.false c.requires.there

pub returns-else-p-len : goal.returns-else-p-len
returns-else-p-len c =
    let ge = rw c.len.ensures at c.if-p-len.false in holder_past c.args.code.now c.args.p c.args.x c.if-x-code.false ge
