use Rattle.std.proofs.Common.{◌≡◌, ◌++◌}
use Rattle.std.specs.Prelude.{drop}
use Rattle.pungi_symbol.specs.runs.Paths.{choices_of}
use Rattle.pungi_symbol.proofs.runs.witness.choices_for.Given as goal

abbrev pub invariant-loop-i : goal.invariant-loop-i
invariant-loop-i l =
    l.choices.items ++ choices_of (drop l.i l.marks) (drop l.i l.values) ≡ choices_of l.marks l.values
