use Rattle.std.proofs.Common.{◌≡◌, length}
use Rattle.pungi_links.specs.Pending.{IsPending}
use Rattle.pungi_summary.specs.Worklist.{IsSettling, work}
use Rattle.pungi_summary.proofs.settle.settle.Given as goal

abbrev pub invariant-functions : goal.invariant-functions
invariant-functions g l = record {
  settling : IsSettling g.D.Domain.least g.D.Domain.member g.D.Domain.width_of l.programs l.callees l.summaries.exits
      l.outcomes.items l.pending.list;
  pending : IsPending l.pending;
  limit : l.pending.limit ≡ length l.programs;
  states : l.summaries.states ≡ l.fn.summaries.states;
}

abbrev pub decreases-functions : goal.decreases-functions
decreases-functions g l = work g.D.Domain.width_of g.D.Domain.rank l.sites l.summaries.exits l.pending.list
