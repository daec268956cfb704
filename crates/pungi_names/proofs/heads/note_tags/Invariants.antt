use Rattle.std.proofs.Common.{◌≡◌, ℕ, drop, map, nat_eq}
use Rattle.indexmap.specs.IndexMap.{get}
use Rattle.pungi_declared.specs.DeclaredView.{tag_view}
use Rattle.pungi_tree.specs.UnitView.{unit_view}
use Rattle.pungi_types.specs.Kinds.{tagged_in}
use Rattle.pungi_names.specs.First.{or_first}
use Rattle.pungi_names.specs.StructsView.{head_kept}
use Rattle.pungi_names.proofs.heads.note_tags.Given as goal

abbrev pub invariant-loop-tag : goal.invariant-loop-tag
invariant-loop-tag l =
    (w : ℕ) → or_first (get nat_eq l.objects w) (head_kept (unit_view l.cores.unit.now)
    (tagged_in (map tag_view (drop l.tag-index l.tags.items)) w))
    ≡ or_first (get nat_eq l.fn.objects w) (head_kept (unit_view l.cores.unit.now)
    (tagged_in (map tag_view l.tags.items) w))
