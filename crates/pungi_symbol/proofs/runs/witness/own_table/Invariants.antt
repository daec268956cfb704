use Rattle.std.proofs.Common.{◌≡◌, ◌++◌, length, map}
use Rattle.std.specs.Prelude.{drop}
use Rattle.pungi_symbol.specs.runs.Paths.{object_number, own_values}
use Rattle.pungi_symbol.proofs.runs.witness.own_table.Given as goal

abbrev pub invariant-loop-i : goal.invariant-loop-i
invariant-loop-i l =
    l.table.items
    ++ own_values (drop l.i l.marks) (map (object_number (length l.marks) l.made) (drop l.i l.classes))
    (drop l.i l.numbers)
    ≡ own_values l.marks (map (object_number (length l.marks) l.made) l.classes) l.numbers
