use Rattle.pungi_shape.proofs.FormLemmas.{times_one}
use Rattle.pungi_shape.proofs.form.Form.unit.Goals as goal

pub returns : goal.returns
returns c = rw times_one at c.multiple.ensures
