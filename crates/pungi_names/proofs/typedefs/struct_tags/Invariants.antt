use Rattle.std.proofs.Common.{◌≡◌, ℕ, ◌||◌, drop, map, is_some, nat_eq}
use Rattle.indexmap.specs.IndexSet.{contains}
use Rattle.pungi_declared.specs.DeclaredView.{tag_view}
use Rattle.pungi_types.specs.Kinds.{tagged_in}
use Rattle.pungi_names.proofs.typedefs.struct_tags.Given as goal

abbrev pub invariant-loop-tag : goal.invariant-loop-tag
invariant-loop-tag l =
    (w : ℕ) → (contains nat_eq l.words w || is_some (tagged_in (map tag_view (drop l.tag-index l.tags.items)) w))
    ≡ is_some (tagged_in (map tag_view l.tags.items) w)
