use Rattle.std.proofs.Common.{◌<◌, ◌^◌, arith}
use Rattle.pungi_shape.specs.Shapes.{holding_of_slot}
use Rattle.pungi_shape.proofs.KeyLists.{tokens-in}
use Rattle.pungi_shape.proofs.keys.push_slots.Goals as goal

pub push_holding-requires : goal.push_holding-requires
push_holding-requires c =
    tokens-in (λ t. t < 2 ^ 31) holding_of_slot c.args.slots.now c.loop-slot.slot-index _
    (omega (arith, c.loop-slot-test.true)) c.requires
