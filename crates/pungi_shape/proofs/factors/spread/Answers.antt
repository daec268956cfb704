use Rattle.std.proofs.Common.{◌≡◌, ◌<◌, ◌+◌, pos, drop, get_or, length, arith}
use Rattle.std.proofs.lemmas.Int.{to_z-of_z}
use Rattle.std.proofs.lemmas.List.{drop_more}
use Rattle.pungi_shape.proofs.FactorLemmas.{drop_all, factor_each, factor_fits, later_start, spread_here, spread_none}
use Rattle.pungi_shape.specs.Forms.{AreFactors}
use Rattle.pungi_shape.proofs.factors.spread.Goals as goal
use Rattle.pungi_shape.proofs.factors.spread.Goals.{then-i-fs+then-fs-i+in_ok-push, else-i-fs+in_ok-push-2}
use Rattle.pungi_shape.proofs.factors.spread.Goals.{else-i-fs-via-then-i-fs+else-fs-i, else-i-fs-via-else-i-fs}
use mir.Syntax.{w64}

pub loop-k-preserved : goal.loop-k-preserved
loop-k-preserved c =
    elim c.if-i-fs.branch [
      | then-i-fs+then-fs-i+in_ok-push w ↦
          let lt : c.loop-k.i < length c.args.fs.now = omega (arith, w.if-i-fs.true) in
          let p = get_or c.args.fs.now c.loop-k.i (0, pos 0) in
          let s = rw (drop_more c.args.fs.now c.loop-k.i (0, pos 0) lt) at c.loop-k.invariant.spread in
          let e : p.0 ≡ c.loop-k.k = omega (arith, w.if-fs-i.true) in
          let f = factor_fits _ (factor_each c.args.fs.now 0 c.loop-k.i (0, pos 0) c.requires.sorted lt) in
          record {
            i_in = rw w.i-is (omega (arith, lt));
            spread = rw (w.i-is, w.out-is, w.in_ok-push.ensures.ok, to_z-of_z w64 p.1 f)
                (spread_here _ _ p _ _ s e);
          }
      | else-i-fs+in_ok-push-2 w ↦
          let later : AreFactors (c.loop-k.k + 1) (drop c.loop-k.i c.args.fs.now) =
          elim w.else-i-fs.branch [
            | else-i-fs-via-then-i-fs+else-fs-i v ↦
                later_start c.args.fs.now c.loop-k.i c.loop-k.k c.loop-k.invariant.spread.sorted v.if-fs-i.false
            | else-i-fs-via-else-i-fs v ↦ rw (drop_all c.args.fs.now c.loop-k.i (omega (arith, v.if-i-fs.false))) tt
          ] in
          record {
            i_in = rw w.i-is c.loop-k.invariant.i_in;
            spread = rw (w.i-is, w.out-is, w.in_ok-push-2.ensures.ok)
                (spread_none _ _ _ _ c.loop-k.invariant.spread later);
          }
    ]
