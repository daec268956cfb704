use Rattle.std.proofs.Common.{◌≡◌, ◌++◌, length}
use Rattle.std.specs.Vec.Iter.{into_iter_items, into_iter_len}
use Rattle.pungi_shape.proofs.programs.push_all.Given as goal

abbrev pub invariant-loop-edge : goal.invariant-loop-edge
invariant-loop-edge l = record {
  out : l.out ++ into_iter_items l.edge-iterator ≡ l.initial.out ++ into_iter_items l.initial.edge-iterator;
  left : into_iter_len l.edge-iterator ≡ length (into_iter_items l.edge-iterator);
}
