use Rattle.std.proofs.Common.{sym, subst}
use Rattle.std.proofs.lemmas.Int.{to_z-of_z}
use mir.Syntax.{w64}
use Rattle.pungi_shape.specs.Forms.{Form, times, IsStorable}
use Rattle.pungi_shape.proofs.numbers.multiple.Goals as goal

pub times-requires : goal.times-requires
times-requires c =
    subst (λ z. IsStorable (times z c.in_ok-form.form)) (sym (to_z-of_z w64 c.args.n c.ranges.n))
    (subst (λ (f : Form). IsStorable (times c.args.n f)) (sym c.in_ok-form.ensures) c.requires.storable)
