use Rattle.std.proofs.Common.{◌≡◌, ◌++◌, take}
use Rattle.std.specs.List.{flat_map}
use Rattle.pungi_shape.specs.Shapes.{numbers_of_holding}
use Rattle.pungi_shape.proofs.keys.push_holdings.Given as goal

abbrev pub invariant-loop-holding : goal.invariant-loop-holding
invariant-loop-holding l =
    l.key.items ≡ l.fn.key.items ++ flat_map numbers_of_holding (take l.holding-index l.holdings)
