use Rattle.std.proofs.Common.{◌≡◌, ℕ, ◌||◌, drop, map, is_some, option_map, nat_eq}
use Rattle.indexmap.specs.IndexMap.{get}
use Rattle.pungi_tree.specs.UnitView.{unit_view}
use Rattle.pungi_types.specs.Kinds.{typedef_in}
use Rattle.pungi_types.specs.TypesView.{typedef_view}
use Rattle.pungi_names.specs.Depth.{known_at}
use Rattle.pungi_names.specs.Finds.{reached_view}
use Rattle.pungi_names.specs.Walk.{AllReach}
use Rattle.pungi_names.proofs.typedefs.reach_words.Given as goal

abbrev pub invariant-loop-found : goal.invariant-loop-found
invariant-loop-found l = record {
  done : AllReach (known_at (unit_view l.unit)) (λ w. option_map reached_view (get nat_eq l.done w));
  all : AllReach (known_at (unit_view l.unit)) (λ w. option_map reached_view (get nat_eq l.all w));
  words : (w : ℕ) → (is_some (get nat_eq l.all w)
      || is_some (typedef_in (map typedef_view (drop l.found-index l.typedefs.items)) w))
      ≡ (is_some (get nat_eq l.fn.all w) || is_some (typedef_in (map typedef_view l.typedefs.items) w));
}
