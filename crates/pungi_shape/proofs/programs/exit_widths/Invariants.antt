use Rattle.std.proofs.Common.{◌≡◌, ◌++◌, drop, map}
use Rattle.pungi_shape.specs.Ranks.{exits_in}
use Rattle.pungi_shape.specs.Shapes.{width_of}
use Rattle.pungi_shape.proofs.programs.exit_widths.Given as goal

abbrev pub invariant-loop-k : goal.invariant-loop-k
invariant-loop-k l =
    l.widths ++ map width_of (drop l.k (exits_in l.numbers.found.now)) ≡ map width_of (exits_in l.numbers.found.now)
