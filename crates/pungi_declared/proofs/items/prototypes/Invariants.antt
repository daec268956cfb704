use Rattle.std.proofs.Common.{◌≡◌, ◌++◌, drop, map}
use Rattle.pungi_declared.specs.DeclaredView.{place_view}
use Rattle.pungi_tree.specs.UnitView.{item_view, unit_view}
use Rattle.pungi_types.specs.Files as definition
use Rattle.pungi_declared.proofs.items.prototypes.Given as goal

abbrev pub invariant-loop-i : goal.invariant-loop-i
invariant-loop-i l =
    map place_view l.out.items ++ definition.prototypes (map item_view (drop l.i-index l.unit.items.items))
    ≡ definition.prototypes (unit_view l.unit)
