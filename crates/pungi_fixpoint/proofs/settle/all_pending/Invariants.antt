use Rattle.std.proofs.Common.{◌≡◌, ℕ, ◌<◌}
use Rattle.pungi_links.specs.Pending.{IsPending}
use Rattle.pungi_links.specs.Ring.{Stands}
use Rattle.pungi_fixpoint.proofs.settle.all_pending.Given as goal

abbrev pub invariant-loop-k : goal.invariant-loop-k
invariant-loop-k l = record {
  pending : IsPending l.pending;
  limit : l.pending.limit ≡ l.places;
  all : (j : ℕ) → j < l.k → Stands j l.pending.list;
}
