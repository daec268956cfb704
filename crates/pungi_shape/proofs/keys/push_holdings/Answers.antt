use Rattle.std.proofs.Common.{◌<◌, ◌^◌, arith}
use Rattle.pungi_shape.specs.declared.holding.Holding.TheVariants.{Dead}
use Rattle.pungi_shape.proofs.KeyLists.{tokens-at}
use Rattle.pungi_shape.proofs.keys.push_holdings.Goals as goal

pub push_holding-requires : goal.push_holding-requires
push_holding-requires c =
    tokens-at (λ t. t < 2 ^ 31) c.args.holdings.now c.loop-holding.holding-index Dead
    (omega (arith, c.loop-holding-test.true)) c.requires
