use Rattle.std.proofs.Common.{◌≡◌, ◌++◌, map, take}
use Rattle.std.specs.List.{flat_map}
use Rattle.pungi_shape.specs.Shapes.{holding_of_static, numbers_of_holding}
use Rattle.pungi_shape.proofs.keys.push_statics.Given as goal

abbrev pub invariant-loop-holding : goal.invariant-loop-holding
invariant-loop-holding l =
    l.key.items ≡ l.fn.key.items ++ flat_map numbers_of_holding (map holding_of_static (take l.holding-index l.statics))
