use Rattle.std.proofs.Common.{◌≡◌, take}
use Rattle.std.specs.Prelude.{reverse}
use Rattle.pungi_symbol.proofs.runs.numbers.hold_all.Given as goal

abbrev pub invariant-loop-i : goal.invariant-loop-i
invariant-loop-i l =
    (l.bounds.held ≡ take l.i (reverse l.constraints)) × (l.bounds.nodes ≡ l.initial.bounds.nodes)
    × (l.bounds.room ≡ l.initial.bounds.room)
