use Rattle.pungi_shape.proofs.FormLemmas.{dense-zero}
use Rattle.pungi_shape.proofs.form.Form.zero.Goals as goal

pub returns : goal.returns
returns c = rw (c.new-2.ensures, c.new.ensures.items) (dense-zero c.args.width)
