use Rattle.std.proofs.Common.{◌≡◌, drop}
use Rattle.std.specs.Cmp.Lexicographic.{slice_cmp}
use Rattle.pungi_shape.specs.Programs.{pair_cmp}
use Rattle.pungi_shape.proofs.edge_order.compare_rows.Given as goal

abbrev pub invariant-loop-i : goal.invariant-loop-i
invariant-loop-i l =
    slice_cmp (slice_cmp pair_cmp) (drop l.i l.a) (drop l.i l.b) ≡ slice_cmp (slice_cmp pair_cmp) l.a l.b
