use Rattle.pungi_shape.proofs.WeightLemmas.{merge-storable}
use Rattle.pungi_shape.proofs.joins.join_holdings.Goals as goal

pub merge-requires-clause-storable : goal.merge-requires-clause-storable
merge-requires-clause-storable c =
    merge-storable c.args.scene.now c.in-Token-Token.t c.in-Token-Token.u c.requires.light
