use Rattle.std.proofs.Common.{◌≤◌, length}
use Rattle.pungi_shape.proofs.SweepLemmas.{AreSwept}
use Rattle.pungi_shape.proofs.liveness.sweep.Given as goal

abbrev pub invariant-loop-pc : goal.invariant-loop-pc
invariant-loop-pc l = record {
  pc_in : l.pc ≤ length l.code.instrs;
  swept : AreSwept l.code l.initial.rows.items l.rows.items l.pc l.grows;
}

abbrev pub decreases-loop-pc : goal.decreases-loop-pc
decreases-loop-pc l = l.pc
