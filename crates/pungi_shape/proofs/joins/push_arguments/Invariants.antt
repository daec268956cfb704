use Rattle.std.proofs.Common.{◌≡◌, ◌++◌, drop}
use Rattle.std.specs.List.{zip}
use Rattle.pungi_shape.proofs.joins.push_arguments.Given as goal

abbrev pub invariant-loop-i : goal.invariant-loop-i
invariant-loop-i l =
    l.pairs ++ zip (drop l.i l.entry) (drop l.i l.atoms) ≡ l.initial.pairs ++ zip l.entry l.atoms
