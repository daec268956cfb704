use Rattle.std.proofs.Common.{◌≡◌, ℕ, ◌||◌, drop, map, nat_eq}
use Rattle.indexmap.specs.IndexSet.{contains}
use Rattle.pungi_declared.specs.DeclaredView.{place_view}
use Rattle.pungi_types.specs.Files.{is_place_in}
use Rattle.pungi_names.proofs.functions.note_places.Given as goal

abbrev pub invariant-loop-place : goal.invariant-loop-place
invariant-loop-place l =
    (w : ℕ) → (contains nat_eq l.words w || is_place_in (map place_view (drop l.place-index l.places.items)) w)
    ≡ (contains nat_eq l.fn.words w || is_place_in (map place_view l.places.items) w)
