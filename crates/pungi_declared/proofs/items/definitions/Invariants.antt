use Rattle.std.proofs.Common.{◌≡◌, ◌++◌, drop, map}
use Rattle.pungi_declared.specs.DeclaredView.{function_view}
use Rattle.pungi_tree.specs.UnitView.{item_view, unit_view}
use Rattle.pungi_types.specs.Files as definition
use Rattle.pungi_declared.proofs.items.definitions.Given as goal

abbrev pub invariant-loop-i : goal.invariant-loop-i
invariant-loop-i l =
    map function_view l.out.items ++ definition.definitions (map item_view (drop l.i-index l.unit.items.items))
    ≡ definition.definitions (unit_view l.unit)
