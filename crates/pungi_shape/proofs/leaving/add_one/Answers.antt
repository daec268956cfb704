use Rattle.pungi_shape.proofs.WeightLemmas.{add-storable}
use Rattle.pungi_shape.proofs.leaving.add_one.Goals as goal

pub add_form-requires-clause-storable : goal.add_form-requires-clause-storable
add_form-requires-clause-storable c =
    add-storable c.args.scene.now c.in-Token.t c.args.f.now c.requires.light c.requires.small
