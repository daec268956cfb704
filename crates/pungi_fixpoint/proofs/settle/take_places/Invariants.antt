use Rattle.pungi_fixpoint.specs.Solver.{calls}
use Rattle.pungi_fixpoint.specs.Summaries.{exit_of}
use Rattle.pungi_fixpoint.specs.Worklist.{AreTaken, IsSearching, work}
use Rattle.pungi_fixpoint.proofs.settle.take_places.Given as goal

abbrev pub invariant-places : goal.invariant-places
invariant-places g l = record {
  searching : IsSearching g.D.Domain.least g.D.Domain.member g.D.Domain.width_of l.program (exit_of l.summaries.exits)
      l.stage l.pending;
  taken : AreTaken l.program (calls g.D.Domain.member l.summaries.exits) g.D.Domain.member l.stage l.pending.list;
}

abbrev pub decreases-places : goal.decreases-places
decreases-places g l = work g.D.Domain.width_of g.D.Domain.rank l.stage l.pending
