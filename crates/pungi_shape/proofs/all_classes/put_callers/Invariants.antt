use Rattle.std.proofs.Common.{◌≡◌, ◌+◌, ◌<◌, ◌≤◌, ℕ, length, Some, slice_get}
use Rattle.pungi_links.specs.Pending.{IsPending}
use Rattle.pungi_links.specs.Ring.{Stands}
use Rattle.pungi_shape.proofs.all_classes.put_callers.Given as goal

abbrev pub invariant-loop-caller : goal.invariant-loop-caller
invariant-loop-caller l = record {
  pending : IsPending l.pending;
  limit : l.pending.limit ≡ l.fn.pending.limit;
  kept : (f : ℕ) → Stands f l.fn.pending.list → Stands f l.pending.list;
  put : (j g : ℕ) → j < l.caller-index → slice_get l.callers j ≡ Some g → Stands g l.pending.list;
  few : length l.pending.list ≤ length l.fn.pending.list + l.caller-index;
}
