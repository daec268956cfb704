use Rattle.std.proofs.Common.{◌≡◌, length}
use Rattle.pungi_links.specs.Pending.{IsPending}
use Rattle.pungi_shape.specs.AllClasses.{IsSettling, work}
use Rattle.pungi_shape.proofs.all_classes.settle.Given as goal

abbrev pub invariant-functions : goal.invariant-functions
invariant-functions l = record {
  settling : IsSettling l.codes l.classes l.pending.list;
  pending : IsPending l.pending;
  limit : l.pending.limit ≡ length l.codes.codes;
}

abbrev pub decreases-functions : goal.decreases-functions
decreases-functions l = work l.callers l.classes l.pending.list
