use Rattle.pungi_shape.proofs.FormLemmas.{length-constant}
use Rattle.pungi_shape.proofs.scene.Scene.add_to_holding.Goals as goal

pub add_form-requires-clause-width : goal.add_form-requires-clause-width
add_form-requires-clause-width c = rw c.in_ok-f-in-Token.ensures (length-constant _ _)
