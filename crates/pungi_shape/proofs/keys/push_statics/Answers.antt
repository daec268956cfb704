use Rattle.std.proofs.Common.{◌<◌, ◌^◌, arith}
use Rattle.pungi_shape.specs.Shapes.{holding_of_static}
use Rattle.pungi_shape.proofs.KeyLists.{tokens-in}
use Rattle.pungi_shape.proofs.keys.push_statics.Goals as goal

pub push_holding-requires : goal.push_holding-requires
push_holding-requires c =
    tokens-in (λ t. t < 2 ^ 31) holding_of_static c.args.statics.now c.loop-holding.holding-index _
    (omega (arith, c.loop-holding-test.true)) c.requires
