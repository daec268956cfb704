use Rattle.std.proofs.Common.{◌≡◌, ◌+◌, ◌≤◌, length}
use lib.Seq.{paste}
use Rattle.pungi_emit.proofs.planning.reserved_places.fill.Given as goal

abbrev pub invariant-loop-i : goal.invariant-loop-i
invariant-loop-i l = record {
  room : l.room + length l.known ≤ length l.initial.places;
  places : l.places ≡ paste l.initial.places l.room l.known l.i;
}
