use Rattle.std.proofs.Common.{◌≡◌, ◌<◌, false, length, arith}
use Rattle.pungi_shape.proofs.KeptLemmas.{trim_dead, trim_end, trim_kept, trimmed_length}
use Rattle.pungi_shape.specs.Liveness.{is_holder}
use Rattle.pungi_shape.proofs.kept.trim.Goals as goal
use Rattle.pungi_shape.proofs.kept.trim.Goals.{then-is_dropped, else-is_dropped}

pub is_dropped-requires-clause-there : goal.is_dropped-requires-clause-there
is_dropped-requires-clause-there c = omega (arith, c.loop-x-test.true, c.len-x-end.ensures, c.requires.vars)

pub bounds-as_slice-x : goal.bounds-as_slice-x
bounds-as_slice-x c =
    let e = trimmed_length c.args.code.now c.args.p c.loop-x.x c.args.shape.now c.loop-x.shape c.loop-x.invariant in
    rw c.as_slice.ensures (omega (arith, c.loop-x-test.true, c.len-x-end.ensures, e))

pub set-requires : goal.set-requires
set-requires c =
    let e = trimmed_length c.args.code.now c.args.p c.loop-x.x c.args.shape.now c.loop-x.shape c.loop-x.invariant in
    omega (arith, c.loop-x-test.true, c.len-x-end.ensures, e)

pub loop-x-preserved : goal.loop-x-preserved
loop-x-preserved c =
    let lt : c.loop-x.x < length c.args.shape.now.vars = omega (arith, c.loop-x-test.true, c.len-x-end.ensures) in
    elim c.if-is_dropped.branch [
      | then-is_dropped w ↦
          let h : is_holder c.args.code.now c.args.p c.loop-x.x ≡ false =
          c.is_dropped.ensures.yes w.if-is_dropped.true in
          rw (w.shape-is, w.set.ensures) (trim_dead c.args.code.now c.args.p c.loop-x.x c.args.shape.now
          c.loop-x.shape c.loop-x.invariant lt h)
      | else-is_dropped w ↦
          rw w.shape-is (trim_kept c.args.code.now c.args.p c.loop-x.x c.args.shape.now c.loop-x.shape
          c.loop-x.invariant lt (rw c.as_slice.ensures at (c.is_dropped.ensures.no w.if-is_dropped.false)))
    ]

pub returns : goal.returns
returns c =
    trim_end c.args.code.now c.args.p c.loop-x.x c.args.shape.now c.loop-x.shape c.loop-x.invariant
    (omega (arith, c.loop-x-test.false, c.len-x-end.ensures, c.loop-x.auto.x-end))
