use Rattle.std.proofs.Common.{◌≡◌, drop, map}
use Rattle.pungi_tree.specs.UnitLevels.{typedef_names, items_ok, is_levelled}
use Rattle.pungi_tree.specs.UnitView.{item_view, unit_view}
use Rattle.pungi_spelling.proofs.unit_levels.levels_ok.Given as goal

abbrev pub invariant-loop-i : goal.invariant-loop-i
invariant-loop-i l =
    items_ok (typedef_names (unit_view l.unit)) (map item_view (drop l.i-index l.unit.items.items))
    ≡ is_levelled (unit_view l.unit)
