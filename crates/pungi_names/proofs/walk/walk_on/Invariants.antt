use Rattle.std.proofs.Common.{◌≡◌, ℕ, ◌-◌, ◌^◌, vec_len, nat_eq, reverse}
use Rattle.indexmap.specs.IndexSet.{contains}
use Rattle.pungi_tree.specs.UnitView.{unit_view}
use Rattle.pungi_names.specs.Depth.{known_at}
use Rattle.pungi_names.specs.Walk.{IsPath, on_path}
use Rattle.pungi_names.proofs.walk.walk_on.Given as goal

abbrev pub invariant-words : goal.invariant-words
invariant-words l = record {
  path : IsPath (known_at (unit_view l.unit)) l.start (reverse l.path.items) l.at;
  seen : (w : ℕ) → contains nat_eq l.seen w ≡ on_path (reverse l.path.items) w;
}

abbrev pub decreases-words : goal.decreases-words
decreases-words l = 2 ^ 64 - vec_len l.path
