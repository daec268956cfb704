use Rattle.std.proofs.Common.{◌≡◌, ◌++◌, replicate}
use Rattle.pungi_emit.proofs.planning.reserved_places.hold.Given as goal

abbrev pub invariant-loop-i : goal.invariant-loop-i
invariant-loop-i l = l.places ≡ l.initial.places ++ replicate l._i 0
