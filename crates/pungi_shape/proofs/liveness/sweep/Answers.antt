use Rattle.std.proofs.Common.{◌≡◌, ◌+◌, ◌-◌, true, false, arith}
use Rattle.pungi_shape.proofs.SweepLemmas.{swept_more}
use Rattle.pungi_shape.proofs.liveness.sweep.Goals as goal

pub loop-pc-preserved-then-sweep_at : goal.loop-pc-preserved-then-sweep_at
loop-pc-preserved-then-sweep_at c =
    let e : (c.loop-pc.pc - 1) + 1 ≡ c.loop-pc.pc = omega (arith, c.loop-pc-test.true) in
    record {
      pc_in = omega (arith, c.loop-pc.invariant.pc_in);
      swept = swept_more c.args.code.now c.args.rows.now.items c.loop-pc.rows.items c.sweep_at.new.rows.items
          (c.loop-pc.pc - 1) c.loop-pc.grows c.sweep_at.result true (rw e c.loop-pc.invariant.swept)
          c.sweep_at.ensures.rows c.sweep_at.ensures.swept (λ n. absurd (let g : true ≡ false = n in cc));
    }

pub loop-pc-preserved : goal.loop-pc-preserved
loop-pc-preserved c =
    let e : (c.loop-pc.pc - 1) + 1 ≡ c.loop-pc.pc = omega (arith, c.loop-pc-test.true) in
    record {
      pc_in = omega (arith, c.loop-pc.invariant.pc_in);
      swept = swept_more c.args.code.now c.args.rows.now.items c.loop-pc.rows.items c.sweep_at.new.rows.items
          (c.loop-pc.pc - 1) c.loop-pc.grows c.sweep_at.result c.loop-pc.grows (rw e c.loop-pc.invariant.swept)
          c.sweep_at.ensures.rows c.sweep_at.ensures.swept (λ n. (n, c.if-sweep_at.false));
    }
