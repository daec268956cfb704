use Rattle.std.proofs.Common.{◌≡◌, slice_index, vec_capacity}
use Rattle.pungi_diff.specs.Round.{Walked}
use Rattle.pungi_diff.proofs.round.trace.Given as goal

abbrev pub invariant-loop-node : goal.invariant-loop-node
invariant-loop-node l = record {
  walked : Walked l.held l.value l.rank l.gap l.new l.round.items l.node;
  room : vec_capacity l.round ≡ vec_capacity l.initial.round;
}

abbrev pub decreases-loop-node : goal.decreases-loop-node
decreases-loop-node l = slice_index l.rank l.node
