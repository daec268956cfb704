use Rattle.std.proofs.Common.{◌≡◌, ◌++◌, map}
use Rattle.std.specs.List.{filter, range_with_len}
use Rattle.pungi_shape.specs.Cases.{passes_on}
use Rattle.pungi_shape.specs.Scenes.{merge}
use Rattle.pungi_shape.specs.Slots.{may_be}
use Rattle.pungi_shape.proofs.slots.add_same_objects.Given as goal

abbrev pub invariant-loop-c : goal.invariant-loop-c
invariant-loop-c l =
    l.out ≡ l.initial.out ++ map (λ c. passes_on 0 (merge l.b c l.scene))
    (filter (may_be l.scene.shape l.b l.tag l.field) (range_with_len 0 l.c))
