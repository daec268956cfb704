use Rattle.std.proofs.Common.{arith}
use Rattle.pungi_domain.proofs.ConstantLemmas.{join_dropped, join_kept}
use Rattle.pungi_domain.proofs.constants.join.Goals as goal
use Rattle.pungi_domain.proofs.constants.join.Goals.{then-join_at, else-join_at}

pub loop-i-preserved : goal.loop-i-preserved
loop-i-preserved c = elim c.if-join_at.branch [
  | then-join_at w ↦ rw w.changed-is (join_dropped c.args.constants.now c.args.others.now c.loop-i.constants
      c.join_at.new.constants c.loop-i.i c.loop-i.changed (omega arith) c.loop-i.invariant w.if-join_at.ensures)
  | else-join_at w ↦ rw w.changed-is (join_kept c.args.constants.now c.args.others.now c.loop-i.constants
      c.join_at.new.constants c.loop-i.i c.loop-i.changed c.loop-i.invariant w.if-join_at.ensures)
]
