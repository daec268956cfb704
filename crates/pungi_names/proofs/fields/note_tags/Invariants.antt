use Rattle.std.proofs.Common.{◌≡◌, ℕ, drop, map, option_map, nat_eq}
use Rattle.indexmap.specs.IndexMap.{get}
use Rattle.pungi_declared.specs.DeclaredView.{tag_view}
use Rattle.pungi_tree.specs.UnitView.{unit_view}
use Rattle.pungi_types.specs.Kinds.{tagged_in}
use Rattle.pungi_names.specs.FieldsView.{kind_in}
use Rattle.pungi_names.specs.First.{or_first}
use Rattle.pungi_names.specs.StructsView.{fields_kept}
use Rattle.pungi_names.proofs.fields.note_tags.Given as goal

abbrev pub invariant-loop-tag : goal.invariant-loop-tag
invariant-loop-tag l =
    (s : ℕ) (w : ℕ) → or_first (option_map (kind_in w) (get nat_eq l.structs s))
    (fields_kept (unit_view l.kinds.cores.unit.now) (tagged_in (map tag_view (drop l.tag-index l.tags.items)) s)
    w)
    ≡ or_first (option_map (kind_in w) (get nat_eq l.fn.structs s)) (fields_kept (unit_view l.kinds.cores.unit.now)
    (tagged_in (map tag_view l.tags.items) s) w)
