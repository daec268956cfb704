use Rattle.std.proofs.Common.{◌≡◌, ◌++◌, drop, map}
use Rattle.pungi_shape.specs.Places.{width_at}
use Rattle.pungi_shape.specs.Ranks.{places_in}
use Rattle.pungi_shape.proofs.programs.widths.Given as goal

abbrev pub invariant-loop-k : goal.invariant-loop-k
invariant-loop-k l =
    l.widths ++ map width_at (drop l.k (places_in l.numbers.found.now)) ≡ map width_at (places_in l.numbers.found.now)
