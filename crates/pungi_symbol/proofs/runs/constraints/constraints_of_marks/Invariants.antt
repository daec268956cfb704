use Rattle.std.proofs.Common.{◌≡◌, ◌++◌, drop, All}
use Rattle.pungi_symbol.specs.runs.Numbers.{constraints_from, IsIn}
use Rattle.pungi_symbol.proofs.runs.constraints.constraints_of_marks.Given as goal

abbrev pub invariant-loop-t : goal.invariant-loop-t
invariant-loop-t l =
    (l.constraints.items ++ constraints_from l.t (drop l.t l.marks) ≡ constraints_from 0 l.marks)
    × All (IsIn l.nodes) l.constraints.items
