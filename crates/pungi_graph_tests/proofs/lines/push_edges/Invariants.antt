use Rattle.std.proofs.Common.{◌≡◌, ◌+◌, length}
use Rattle.pungi_graph_tests.proofs.lines.push_edges.Given as goal

abbrev pub invariant-loop-edge : goal.invariant-loop-edge
invariant-loop-edge l = length l.lines.items ≡ length l.fn.lines.items + l.edge-index
