use Rattle.std.proofs.Common.{◌≤◌, drop}
use Rattle.pungi_fixpoint.specs.Solver.{calls}
use Rattle.pungi_fixpoint.specs.Summaries.{exit_of}
use Rattle.pungi_fixpoint.specs.Worklist.{AreLeft, IsSearching, work}
use Rattle.pungi_fixpoint.proofs.settle.take_edges.Given as goal

abbrev pub invariant-loop-number : goal.invariant-loop-number
invariant-loop-number g l = record {
  searching : IsSearching g.D.Domain.least g.D.Domain.member g.D.Domain.width_of l.program (exit_of l.summaries.exits)
      l.stage l.pending;
  work : work g.D.Domain.width_of g.D.Domain.rank l.stage l.pending
      ≤ work g.D.Domain.width_of g.D.Domain.rank l.initial.stage l.initial.pending;
  left : AreLeft l.program (calls g.D.Domain.member l.summaries.exits) g.D.Domain.member l.stage l.pending.list
      (drop l.number-index l.numbers);
}
