use Rattle.std.proofs.Common.{◌≡◌, ◌++◌, drop, map}
use Rattle.pungi_shape.specs.Programs.{pos_of}
use Rattle.pungi_shape.specs.Ranks.{places_in}
use Rattle.pungi_shape.proofs.programs.positions.Given as goal

abbrev pub invariant-loop-k : goal.invariant-loop-k
invariant-loop-k l =
    l.at ++ map (pos_of l.code) (drop l.k (places_in l.numbers.found.now))
    ≡ map (pos_of l.code) (places_in l.numbers.found.now)
