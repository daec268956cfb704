use Rattle.std.proofs.Common.{◌≡◌, ℕ, drop, map, option_map, nat_eq}
use Rattle.indexmap.specs.IndexMap.{get}
use Rattle.pungi_types.specs.Kinds.{typedef_in}
use Rattle.pungi_types.specs.TypesView.{typedef_view}
use Rattle.pungi_names.specs.First.{or_first}
use Rattle.pungi_names.proofs.typedefs.first_typedefs.Given as goal

abbrev pub invariant-loop-found : goal.invariant-loop-found
invariant-loop-found l =
    (w : ℕ) → or_first (option_map typedef_view (get nat_eq l.first w)) (typedef_in
    (map typedef_view (drop l.found-index l.typedefs.items)) w)
    ≡ typedef_in (map typedef_view l.typedefs.items) w
