use Rattle.std.proofs.Common.{◌≡◌, length, ◌-◌, vec_capacity}
use Rattle.pungi_diff.specs.Search.{Searching, Fringe}
use Rattle.pungi_diff.proofs.search.search.Given as goal

abbrev pub invariant-loop-gap : goal.invariant-loop-gap
invariant-loop-gap l = record {
  searching : Searching l.held.list l.value l.rank l.gap l.via l.new l.turn;
  fringe : Fringe l.gap l.rank l.fringe.items;
  room : vec_capacity l.fringe ≡ vec_capacity l.initial.fringe;
}

abbrev pub decreases-loop-gap : goal.decreases-loop-gap
decreases-loop-gap l = length l.value - l.turn
