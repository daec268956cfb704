use Rattle.std.proofs.Common.{◌∙◌, sym}
use Rattle.pungi_shape.proofs.ReadLemmas.{are_set-vars_in_all}
use Rattle.pungi_shape.proofs.cases.are_all_set.Goals as goal

pub returns : goal.returns
returns c = c.is_each_set.ensures ∙ sym (are_set-vars_in_all c.args.scene.now c.args.atoms.now)
