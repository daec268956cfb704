use Rattle.std.proofs.Common.{◌≡◌, map}
use Rattle.std.specs.List.{range_with_len}
use Rattle.pungi_shape.specs.Forms.{unit}
use Rattle.pungi_shape.proofs.exits.units.Given as goal

abbrev pub invariant-loop-k : goal.invariant-loop-k
invariant-loop-k l = l.rows ≡ map (unit l.width) (range_with_len 0 l.k)
