use Rattle.std.proofs.Common.{◌∙◌, sym, ap, length}
use Rattle.pungi_shape.proofs.FormBounds.{form_of-width}
use Rattle.pungi_shape.proofs.numbers.sum.Goals as goal

pub plus-requires-clause-width : goal.plus-requires-clause-width
plus-requires-clause-width c =
    ap length c.in_ok-left.ensures ∙ (form_of-width c.args.scene.now c.args.a c.requires.scene
    ∙ (sym (form_of-width c.args.scene.now c.args.b c.requires.scene) ∙ sym (ap length c.in_ok-right.ensures)))
