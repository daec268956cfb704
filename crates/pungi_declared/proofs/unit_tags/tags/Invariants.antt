use Rattle.std.proofs.Common.{◌≡◌, ◌++◌, drop, map}
use Rattle.pungi_declared.specs.DeclaredView.{tag_view}
use Rattle.pungi_tree.specs.UnitView.{item_view, unit_view}
use Rattle.pungi_types.specs.Tags as definition
use Rattle.pungi_declared.proofs.unit_tags.tags.Given as goal

abbrev pub invariant-loop-i : goal.invariant-loop-i
invariant-loop-i l =
    map tag_view l.out.items ++ definition.tags (map item_view (drop l.i-index l.unit.items.items))
    ≡ definition.tags (unit_view l.unit)
