use Rattle.std.proofs.Common.{◌+◌, ◌-◌, ◌≤◌, drop, length}
use Rattle.pungi_shape.proofs.FactorLemmas.{IsMerged}
use Rattle.pungi_shape.proofs.factors.sum.Given as goal

abbrev pub invariant-loop-i : goal.invariant-loop-i
invariant-loop-i l = record {
  i_in : l.i ≤ length l.fs;
  j_in : l.j ≤ length l.gs;
  merged : IsMerged l.fs l.gs l.out (drop l.i l.fs) (drop l.j l.gs);
}

abbrev pub decreases-loop-i : goal.decreases-loop-i
decreases-loop-i l = (length l.fs + length l.gs) - (l.i + l.j)
