use Rattle.std.proofs.Common.{◌≡◌, ℕ, drop, map, nat_eq}
use Rattle.indexmap.specs.IndexMap.{get}
use Rattle.pungi_tree.specs.UnitView.{unit_view}
use Rattle.pungi_types.specs.Kinds.{typedef_in}
use Rattle.pungi_types.specs.TypesView.{typedef_view}
use Rattle.pungi_names.specs.First.{or_first}
use Rattle.pungi_names.specs.StructsView.{typedef_head}
use Rattle.pungi_names.proofs.heads.note_typedefs.Given as goal

abbrev pub invariant-loop-found : goal.invariant-loop-found
invariant-loop-found l =
    (w : ℕ) → or_first (get nat_eq l.objects w) (typedef_head (unit_view l.cores.unit.now)
    (typedef_in (map typedef_view (drop l.found-index l.typedefs.items)) w))
    ≡ or_first (get nat_eq l.fn.objects w) (typedef_head (unit_view l.cores.unit.now)
    (typedef_in (map typedef_view l.typedefs.items) w))
