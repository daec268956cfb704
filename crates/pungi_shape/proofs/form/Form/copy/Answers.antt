use Rattle.std.proofs.Common.{◌∙◌, ap, sym}
use Rattle.pungi_shape.specs.Forms.{dense}
use Rattle.pungi_shape.proofs.FormLemmas.{dense-zero, no_factors}
use Rattle.pungi_shape.proofs.form.Form.copy.Goals as goal

pub returns-then-is_empty : goal.returns-then-is_empty
returns-then-is_empty c =
    c.zero.ensures ∙ (sym (dense-zero c.self.inside.width) ∙ (ap (dense c.self.inside.width)
    (sym (no_factors _ _ c.is_empty.ensures c.if-is_empty.true)) ∙ c.self.view_is))
