use Rattle.std.proofs.Common.{◌≡◌, ◌+◌, ◌-◌, ◌<◌, ◌^◌, drop, length}
use Rattle.pungi_lex.specs.Stretch.{places_left}
use Rattle.pungi_lex.proofs.stretch.spot_behind.Given as goal

abbrev pub invariant-stretches : goal.invariant-stretches
invariant-stretches l = record {
  left : drop l.more (places_left l.stretches l.spot) ≡ drop l.fn.count (places_left l.stretches l.fn.from);
  col : l.spot.at.col + l.spot.left < 2 ^ 32;
}

abbrev pub decreases-stretches : goal.decreases-stretches
decreases-stretches l = length l.stretches - l.spot.next
