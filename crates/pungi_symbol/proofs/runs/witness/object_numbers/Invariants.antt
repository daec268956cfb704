use Rattle.std.proofs.Common.{◌≡◌, ◌-◌, length}
use Rattle.pungi_symbol.proofs.runs.ObjectNumbers.{numbers_from}
use Rattle.pungi_symbol.proofs.runs.witness.object_numbers.Given as goal

-- the objects that were made are looked at from the last on
abbrev pub invariant-loop-later : goal.invariant-loop-later
invariant-loop-later l = l.numbers.items ≡ numbers_from l.others l.made (length l.made - l.later)
