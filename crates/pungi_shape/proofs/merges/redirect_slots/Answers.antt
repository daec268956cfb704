use Rattle.std.proofs.Common.{◌<◌, length, arith}
use Rattle.pungi_shape.specs.Scenes.{redirect}
use Rattle.pungi_shape.specs.Shapes.{rename_tracked}
use Rattle.pungi_shape.proofs.ListLemmas.{mapped_step}
use Rattle.pungi_shape.proofs.merges.redirect_slots.Goals as goal

pub loop-i-preserved : goal.loop-i-preserved
loop-i-preserved c =
    let lt : c.loop-i.i < length c.args.slots.now = omega (arith, c.loop-i-test.true, c.len-i-end.ensures) in
    rw (c.set.ensures, c.redirect_slot.ensures, c.as_slice.ensures) (mapped_step (rename_tracked (redirect c.args.t
    c.args.u)) c.loop-i.i
    c.args.slots.now c.loop-i.slots _ c.loop-i.invariant lt)
