use Rattle.std.proofs.Common.{◌≡◌, ◌++◌, drop, take}
use Rattle.pungi_shape.specs.EdgeOrder.{put_edge}
use Rattle.pungi_shape.proofs.edge_order.find_edge.Given as goal

abbrev pub invariant-loop-i : goal.invariant-loop-i
invariant-loop-i l = put_edge l.edge l.list ≡ take l.i l.list ++ put_edge l.edge (drop l.i l.list)
