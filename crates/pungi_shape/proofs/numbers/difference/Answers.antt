use Rattle.std.proofs.Common.{◌∙◌, negsuc, sym, ap, subst, length}
use Rattle.pungi_shape.specs.Forms.{Form, times, IsStorable}
use Rattle.pungi_shape.proofs.FormBounds.{form_of-width}
use Rattle.pungi_shape.proofs.NumberLemmas.{constant-opposite, opposite-storable}
use Rattle.pungi_shape.proofs.numbers.difference.Goals as goal

pub minus-requires-clause-width : goal.minus-requires-clause-width
minus-requires-clause-width c =
    ap length c.in_ok-left.ensures ∙ (form_of-width c.args.scene.now c.args.a c.requires.scene
    ∙ (sym (form_of-width c.args.scene.now c.args.b c.requires.scene) ∙ sym (ap length c.in_ok-right.ensures)))

pub minus-requires-clause-opposite : goal.minus-requires-clause-opposite
minus-requires-clause-opposite c =
    subst (λ (f : Form). IsStorable (times (negsuc 0) f)) (sym c.in_ok-right.ensures)
    (opposite-storable c.args.scene.now c.args.b c.requires.fresh
    (constant-opposite c.args.b c.requires.right c.requires.factor))
