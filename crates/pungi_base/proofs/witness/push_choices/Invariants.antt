use Rattle.std.proofs.Common.{◌≡◌, ◌++◌, drop, string_bytes, zip}
use Rattle.std.specs.List.{flat_map}
use Rattle.pungi_base.specs.Witness.{choice_line}
use Rattle.pungi_base.proofs.witness.push_choices.Given as goal

-- the lines so far and those that are left are all lines
abbrev pub invariant-loop-i : goal.invariant-loop-i
invariant-loop-i l =
    string_bytes l.text ++ flat_map choice_line (zip (drop l.i l.used) (drop l.i l.choices))
    ≡ string_bytes l.initial.text ++ flat_map choice_line (zip l.used l.choices)
