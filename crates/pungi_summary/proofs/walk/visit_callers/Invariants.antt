use Rattle.std.proofs.Common.{◌≡◌}
use Rattle.pungi_links.specs.Pending.{IsPending}
use Rattle.pungi_summary.proofs.Visits.{AreVisitedBelow}
use Rattle.pungi_summary.proofs.walk.visit_callers.Given as goal

abbrev pub invariant-loop-site : goal.invariant-loop-site
invariant-loop-site l = record {
  visited : AreVisitedBelow l.sites l.site-index l.origin l.fn.ways.items l.ways.items l.fn.pending.list l.pending.list;
  pending : IsPending l.pending;
  limit : l.pending.limit ≡ l.fn.pending.limit;
}
