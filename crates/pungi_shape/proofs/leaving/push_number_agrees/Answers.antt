use Rattle.std.proofs.Common.{◌∙◌, length, negsuc, sym, ap, subst}
use Rattle.std.specs.Prelude.{IfSome}
use Rattle.pungi_shape.specs.Forms.{Form, IsFactor, IsStorable, minus, times, unit}
use Rattle.pungi_shape.specs.Numbers.{constant_of}
use Rattle.pungi_shape.proofs.AgreeLemmas.{argument-opposite, argument-storable}
use Rattle.pungi_shape.proofs.FormBounds.{form_of-width, length-unit}
use Rattle.pungi_shape.proofs.leaving.push_number_agrees.Goals as goal

pub minus-requires-clause-width : goal.minus-requires-clause-width
minus-requires-clause-width c =
    ap length c.in_ok-number.ensures
    ∙ (length-unit c.args.scene.now.width c.args.k
    ∙ (sym (form_of-width c.args.scene.now c.args.a c.requires.scene) ∙ sym (ap length c.in_ok-argument.ensures)))

pub minus-requires-clause-opposite : goal.minus-requires-clause-opposite
minus-requires-clause-opposite c =
    let factor : IfSome (constant_of c.args.a) (λ n. IsFactor n) =
    rw c.constant_of.ensures.value at c.constant_of.ensures.factor in
    subst (λ (f : Form). IsStorable (times (negsuc 0) f)) (sym c.in_ok-argument.ensures)
    (argument-opposite c.args.scene.now c.args.a c.requires.plain c.requires.opposite factor)

pub minus-requires-clause-storable : goal.minus-requires-clause-storable
minus-requires-clause-storable c =
    let factor : IfSome (constant_of c.args.a) (λ n. IsFactor n) =
    rw c.constant_of.ensures.value at c.constant_of.ensures.factor in
    subst (λ (f : Form). IsStorable (minus f c.in_ok-argument.argument)) (sym c.in_ok-number.ensures)
    (subst (λ (f : Form). IsStorable (minus (unit c.args.scene.now.width c.args.k) f)) (sym
    c.in_ok-argument.ensures)
    (argument-storable c.args.scene.now c.args.k c.args.a c.requires.scene c.requires.plain c.requires.after
    c.requires.opposite factor))
