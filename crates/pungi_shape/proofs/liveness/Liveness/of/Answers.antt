use Rattle.std.proofs.Common.{◌≡◌, add-one, length, arith}
use Rattle.pungi_shape.proofs.LiveLemmas.{found_all, found_more, liveness_of}
use Rattle.pungi_shape.proofs.liveness.Liveness.of.Goals as goal
use Rattle.pungi_shape.proofs.liveness.Liveness.of.Goals.{else-loop-test, then-loop-test+then-not-sweep}

pub loop-preserved : goal.loop-preserved
loop-preserved c = record {
  has = c.sweep.ensures.rows;
  live = c.sweep.ensures.swept.live c.loop.invariant.live;
  found = rw add-one (found_more c.args.code.now c.loop.rows.items c.sweep.new.rows.items c.loop.counter
      c.loop.invariant.found c.sweep.ensures.swept.found);
}

pub returns : goal.returns
returns c =
    rw c.new.ensures (elim c.loop-test.branch [
      | else-loop-test w ↦
          let e : c.loop.counter ≡ length c.args.code.now.instrs =
          omega (arith, w.loop-test.false, c.loop.auto.counter-end, c.len-end.ensures) in
          rw w.rows-is (liveness_of c.args.code.now (record { rows = c.loop.rows.items }) c.loop.invariant.has
          c.loop.invariant.live (rw e at c.loop.invariant.found))
      | then-loop-test+then-not-sweep w ↦
          let same = w.sweep.ensures.swept.same w.if-not-sweep.true in
          let found = rw same at w.sweep.ensures.swept.found in
          rw (w.rows-is, same) (liveness_of c.args.code.now (record { rows = c.loop.rows.items }) c.loop.invariant.has
          c.loop.invariant.live (found_all c.args.code.now c.loop.rows.items found (length c.args.code.now.instrs)))
    ])
