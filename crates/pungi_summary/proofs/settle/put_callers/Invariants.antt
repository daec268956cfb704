use Rattle.std.proofs.Common.{◌≡◌, ◌+◌, ◌<◌, ◌≤◌, ℕ, length}
use Rattle.std.specs.List.{slice_index_or}
use Rattle.pungi_links.specs.Pending.{IsPending}
use Rattle.pungi_links.specs.Ring.{Stands}
use Rattle.pungi_summary.specs.declared.call_site.CallSite.{CallSite}
use Rattle.pungi_summary.proofs.settle.put_callers.Given as goal

abbrev pub invariant-loop-site : goal.invariant-loop-site
invariant-loop-site l = record {
  pending : IsPending l.pending;
  limit : l.pending.limit ≡ l.fn.pending.limit;
  kept : (f : ℕ) → Stands f l.fn.pending.list → Stands f l.pending.list;
  put : (j : ℕ) (s : CallSite) → j < l.site-index → slice_index_or l.sites j s ≡ s → Stands s.caller l.pending.list;
  few : length l.pending.list ≤ length l.fn.pending.list + l.site-index;
}
