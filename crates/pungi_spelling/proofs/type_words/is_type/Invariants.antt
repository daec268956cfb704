use Rattle.std.proofs.Common.{◌≡◌, drop, map}
use Rattle.pungi_tree.specs.TypeWords.{is_among}
use Rattle.pungi_tree.specs.UnitLevels.{typedef_names}
use Rattle.pungi_tree.specs.UnitView.{item_view}
use Rattle.pungi_spelling.proofs.type_words.is_type.Given as goal

abbrev pub invariant-loop-item : goal.invariant-loop-item
invariant-loop-item l =
    is_among (typedef_names (map item_view (drop l.item-index l.file))) l.name
    ≡ is_among (typedef_names (map item_view l.file)) l.name
