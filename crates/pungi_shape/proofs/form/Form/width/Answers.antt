use Rattle.std.proofs.Common.{sym}
use Rattle.pungi_shape.proofs.FormLemmas.{length-dense}
use Rattle.pungi_shape.proofs.form.Form.width.Goals as goal

pub returns : goal.returns
returns c = rw (← c.self.view_is) (sym (length-dense c.self.inside.width c.self.inside.factors))
