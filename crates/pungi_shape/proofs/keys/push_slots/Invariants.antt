use Rattle.std.proofs.Common.{◌≡◌, ◌++◌, take}
use Rattle.std.specs.List.{flat_map}
use Rattle.pungi_shape.specs.Shapes.{numbers_of_tracked}
use Rattle.pungi_shape.proofs.keys.push_slots.Given as goal

abbrev pub invariant-loop-slot : goal.invariant-loop-slot
invariant-loop-slot l = l.key.items ≡ l.fn.key.items ++ flat_map numbers_of_tracked (take l.slot-index l.slots)
