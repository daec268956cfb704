use Rattle.std.proofs.Common.{◌≡◌, ◌++◌, length, map}
use Rattle.std.specs.Vec.Iter.{into_iter_items, into_iter_len}
use Rattle.pungi_shape.specs.Forms.{factors}
use Rattle.pungi_shape.proofs.programs.matrix.Given as goal

abbrev pub invariant-loop-row : goal.invariant-loop-row
invariant-loop-row l = record {
  list : l.list ++ map factors (into_iter_items l.row-iterator)
      ≡ map factors (into_iter_items l.initial.row-iterator);
  left : into_iter_len l.row-iterator ≡ length (into_iter_items l.row-iterator);
}
