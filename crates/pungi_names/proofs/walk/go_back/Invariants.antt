use Rattle.std.proofs.Common.{vec_len, nat_eq, reverse, option_map}
use Rattle.indexmap.specs.IndexMap.{get}
use Rattle.pungi_tree.specs.UnitView.{unit_view}
use Rattle.pungi_names.specs.Depth.{known_at, Reaches}
use Rattle.pungi_names.specs.Finds.{reached_view}
use Rattle.pungi_names.specs.Walk.{IsPath, AllReach}
use Rattle.pungi_names.proofs.walk.go_back.Given as goal

abbrev pub invariant-loop-word : goal.invariant-loop-word
invariant-loop-word l = record {
  path : IsPath (known_at (unit_view l.fn.unit)) l.fn.start (reverse l.path.items) l.at;
  reached : Reaches (known_at (unit_view l.fn.unit)) l.at (reached_view l.reached);
  done : AllReach (known_at (unit_view l.fn.unit)) (λ w. option_map reached_view (get nat_eq l.done w));
}

abbrev pub decreases-loop-word : goal.decreases-loop-word
decreases-loop-word l = vec_len l.path
