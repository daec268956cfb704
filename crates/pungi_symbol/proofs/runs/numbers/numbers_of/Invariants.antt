use Rattle.std.proofs.Common.{◌≡◌, ◌++◌, drop}
use Rattle.pungi_symbol.specs.runs.Numbers.{numbers_from}
use Rattle.pungi_symbol.proofs.runs.numbers.numbers_of.Given as goal

abbrev pub invariant-loop-t : goal.invariant-loop-t
invariant-loop-t l =
    l.numbers.items ++ numbers_from l.t (drop l.t l.marks) l.values ≡ numbers_from 0 l.marks l.values
