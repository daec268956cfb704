use Rattle.std.proofs.Common.{◌≡◌, vec_capacity}
use Rattle.pungi_diff.specs.Search.{Fringe}
use Rattle.pungi_diff.proofs.RelaxLemmas.{Relaxing, IsLink, behind}
use Rattle.pungi_diff.proofs.search.relax.Given as goal

abbrev pub invariant-loop-link : goal.invariant-loop-link
invariant-loop-link l = record {
  relaxing : Relaxing l.held.list l.value l.rank l.initial.gap l.initial.via l.gap l.via l.from (behind l.link);
  link : IsLink l.held.list l.from l.link;
  fringe : Fringe l.gap l.rank l.fringe.items;
  room : vec_capacity l.fringe ≡ vec_capacity l.initial.fringe;
}

abbrev pub decreases-loop-link : goal.decreases-loop-link
decreases-loop-link l = behind l.link
