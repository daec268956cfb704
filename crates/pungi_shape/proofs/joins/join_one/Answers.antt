use Rattle.pungi_shape.proofs.TokenLemmas.{holding_of-held}
use Rattle.pungi_shape.proofs.joins.join_one.Goals as goal

pub join_holdings-requires-clause-first : goal.join_holdings-requires-clause-first
join_holdings-requires-clause-first c =
    rw c.holding_of.ensures (holding_of-held c.args.scene.now c.in-Some.b c.requires.scene)

pub join_holdings-requires-clause-second : goal.join_holdings-requires-clause-second
join_holdings-requires-clause-second c =
    rw c.holding_of-in-Some.ensures (holding_of-held c.args.scene.now c.args.a c.requires.scene)
