use Rattle.std.proofs.Common.{◌≡◌, ◌++◌, drop, map}
use Rattle.pungi_check.specs.UsesView.{name_use_view}
use Rattle.pungi_names.specs.NamesView.{file_of}
use Rattle.pungi_tree.specs.UnitView.{item_view, unit_view}
use Rattle.pungi_check.specs.Duplicates as definition
use Rattle.pungi_check.proofs.unit_uses.uses.Given as goal

abbrev pub invariant-loop-i : goal.invariant-loop-i
invariant-loop-i l =
    map name_use_view l.out.items ++ definition.uses (file_of l.names).items
    (map item_view (drop l.i-index l.unit.items.items))
    ≡ definition.uses (file_of l.names).items (unit_view l.unit)
