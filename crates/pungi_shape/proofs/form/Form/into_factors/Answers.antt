use Rattle.std.proofs.Common.{sym}
use Rattle.pungi_shape.proofs.FormLemmas.{factors-sparse}
use Rattle.pungi_shape.proofs.form.Form.into_factors.Goals as goal

pub returns : goal.returns
returns c = rw (← c.self.view_is) (sym (factors-sparse c.self.inside.width c.self.inside.factors c.self.invariant))
