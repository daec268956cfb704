use Rattle.std.proofs.Common.{◌≡◌, max, drop, map}
use Rattle.pungi_tree.specs.UnitView.{item_view, unit_view}
use Rattle.pungi_tree.specs.ExprDepth.{capped}
use Rattle.pungi_tree.specs.UnitDepth.{items_depth}
use Rattle.pungi_spelling.proofs.unit_depth.depth.Given as goal

abbrev pub invariant-loop-i : goal.invariant-loop-i
invariant-loop-i l =
    max l.deepest (capped (items_depth (map item_view (drop l.i-index l.unit.items.items))))
    ≡ capped (items_depth (unit_view l.unit))
