use Rattle.std.proofs.Common.{◌≡◌, ℕ, ◌<◌}
use Rattle.pungi_links.specs.Pending.{IsPending}
use Rattle.pungi_links.specs.Ring.{Stands}
use Rattle.pungi_shape.proofs.all_classes.all_pending.Given as goal

abbrev pub invariant-loop-f : goal.invariant-loop-f
invariant-loop-f l = record {
  pending : IsPending l.pending;
  limit : l.pending.limit ≡ l.count;
  all : (j : ℕ) → j < l.f → Stands j l.pending.list;
}
