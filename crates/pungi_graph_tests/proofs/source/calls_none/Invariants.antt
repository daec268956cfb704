use Rattle.std.proofs.Common.{◌≡◌, ℕ, ◌<◌, true, Some, slice_get}
use Rattle.pungi_code.specs.Alone.{calls_none}
use Rattle.pungi_code.specs.declared.code.Line.{Line}
use Rattle.pungi_graph_tests.proofs.source.calls_none.Given as goal

abbrev pub invariant-loop-line : goal.invariant-loop-line
invariant-loop-line l =
    (place : ℕ) (line : Line) → place < l.line-index → slice_get l.lines place ≡ Some line
    → calls_none line.instr ≡ true
