use Rattle.std.proofs.Common.{◌≡◌, ◌+◌}
use Rattle.std.specs.Prelude.{drop}
use Rattle.pungi_symbol.specs.runs.Paths.{object_number}
use Rattle.pungi_symbol.proofs.runs.witness.object_number.Given as goal

abbrev pub invariant-loop-i : goal.invariant-loop-i
invariant-loop-i l =
    object_number (l.others + l.i) (drop l.i l.made) l.«class» ≡ object_number l.others l.made l.«class»
