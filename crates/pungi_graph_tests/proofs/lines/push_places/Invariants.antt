use Rattle.std.proofs.Common.{◌≡◌, ◌+◌, length}
use Rattle.pungi_graph_tests.proofs.lines.push_places.Given as goal

abbrev pub invariant-loop-place : goal.invariant-loop-place
invariant-loop-place l = length l.lines.items ≡ length l.fn.lines.items + l.place
