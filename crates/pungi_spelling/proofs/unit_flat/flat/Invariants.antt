use Rattle.std.proofs.Common.{◌≡◌, ◌++◌, drop, map}
use Rattle.pungi_tree.specs.UnitView.{item_view, unit_view}
use Rattle.pungi_tree.specs.UnitFlat.{items_flat}
use Rattle.pungi_spelling.proofs.unit_flat.flat.Given as goal

abbrev pub invariant-loop-i : goal.invariant-loop-i
invariant-loop-i l =
    l.out.items ++ items_flat (map item_view (drop l.i-index l.unit.items.items)) ≡ items_flat (unit_view l.unit)
