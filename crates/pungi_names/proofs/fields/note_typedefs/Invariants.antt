use Rattle.std.proofs.Common.{◌≡◌, ℕ, drop, map, option_map, nat_eq}
use Rattle.indexmap.specs.IndexMap.{get}
use Rattle.pungi_tree.specs.UnitView.{unit_view}
use Rattle.pungi_types.specs.Kinds.{typedef_in}
use Rattle.pungi_types.specs.TypesView.{typedef_view}
use Rattle.pungi_names.specs.FieldsView.{kind_in}
use Rattle.pungi_names.specs.First.{or_first}
use Rattle.pungi_names.specs.StructsView.{typedef_kept}
use Rattle.pungi_names.proofs.fields.note_typedefs.Given as goal

abbrev pub invariant-loop-found : goal.invariant-loop-found
invariant-loop-found l =
    (s : ℕ) (w : ℕ) → or_first (option_map (kind_in w) (get nat_eq l.structs s))
    (typedef_kept (unit_view l.kinds.cores.unit.now) (typedef_in (map typedef_view
    (drop l.found-index l.typedefs.items)) s) w)
    ≡ or_first (option_map (kind_in w) (get nat_eq l.fn.structs s)) (typedef_kept (unit_view l.kinds.cores.unit.now)
    (typedef_in (map typedef_view l.typedefs.items) s) w)
