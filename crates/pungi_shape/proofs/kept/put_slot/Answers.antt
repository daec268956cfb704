use Rattle.std.proofs.Common.{◌≡◌, ◌+◌, ◌-◌, ◌<◌, length, arith}
use Rattle.pungi_shape.proofs.ArrivalParts.{put_equal}
use Rattle.pungi_shape.proofs.kept.put_slot.Goals as goal

pub returns-in-Equal : goal.returns-in-Equal
returns-in-Equal c =
    let lt : c.loop-i.i - 1 < length c.loop-i.last_first.items =
    omega (arith, c.loop-i-test.true, c.loop-i.invariant.i_in) in
    let e : (c.loop-i.i - 1) + 1 ≡ c.loop-i.i = omega (arith, c.loop-i-test.true) in
    rw (← c.loop-i.invariant.same) (put_equal _ _ _ _ _ lt c.index.ensures c.in-Equal.ensures (rw e
    c.loop-i.invariant.spots))
