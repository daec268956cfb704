-- Edges with the ranks of places and exit classes, in order.
--   IsRanked pr er t        there is a rank for a goal's number
--   rank_of r k, ranked_goal pr er t    the rank of a number; the target with that of a goal
--   ranked_edge pr er k d   the edge with the rank of its goal, from place k
--   ranked_at pr er k ds    such edges in order, each once
--   action_by c             what an edge does, as an action
--   list_at ls p            the edges of the place with this number
--   CanAllBeRanked pr er ls    there are edges for each place of an order, which names none twice, and all can be
--                          ranked
--   ranked_edges pr er ls   the edges of all places, in the order of these
use Rattle.std.specs.Prelude.{◌≡◌, ℕ, ◌<◌, List, [], length, map, get_or, slice_get, Some}
use Rattle.std.specs.List.{All, enumerate_from, flat_map}
use Rattle.pungi_domain.specs.declared.action.Action.{Action}
use Rattle.pungi_domain.specs.declared.action.Action.TheVariants.{Map, Free, Call}
use Rattle.pungi_domain.specs.declared.affine_edge.AffineEdge.{AffineEdge}
use Rattle.pungi_domain.specs.declared.target.Target.{Target}
use Rattle.pungi_domain.specs.declared.target.Target.TheVariants as target
use Rattle.pungi_shape.specs.declared.found_edge.FoundChange.{FoundChange}
use Rattle.pungi_shape.specs.declared.found_edge.FoundChange.TheVariants as changes
use Rattle.pungi_shape.specs.declared.found_edge.FoundEdge.{FoundEdge}
use Rattle.pungi_shape.specs.declared.found_edge.FoundGoal.{FoundGoal}
use Rattle.pungi_shape.specs.declared.found_edge.FoundGoal.TheVariants as found
use Rattle.pungi_shape.specs.declared.programs.Ranked.{Ranked}
use Rattle.pungi_shape.specs.Forms.{factors}
use Rattle.pungi_shape.specs.Programs.{edges_in_order, equations}
use Rattle.pungi_shape.specs.Ranks.{IsOrder}

abbrev pub IsRanked : Ranked → Ranked → FoundGoal → Type 0
IsRanked pr er (found.Place k) = k < length pr.ranks.items
IsRanked pr er (found.Exit k) = k < length er.ranks.items

abbrev pub rank_of : Ranked → ℕ → ℕ
rank_of r k = get_or r.ranks.items k 0

abbrev pub ranked_goal : Ranked → Ranked → FoundGoal → Target
ranked_goal pr er (found.Place k) = target.Place (rank_of pr k)
ranked_goal pr er (found.Exit k) = target.Exit (rank_of er k)

abbrev pub action_by : FoundChange → Action
action_by (changes.ByMap rows) = Map (record { rows = map factors rows })
action_by (changes.ByAny c) = Free c
action_by (changes.ByExit f n onto) = Call f n onto

abbrev pub ranked_edge : Ranked → Ranked → ℕ → FoundEdge → AffineEdge
ranked_edge pr er k d = record {
  from = k;
  to = ranked_goal pr er d.to;
  guard = equations d.guard;
  action = action_by d.change;
  duties = equations d.duties;
}

abbrev pub ranked_at : Ranked → Ranked → ℕ → List FoundEdge → List AffineEdge
ranked_at pr er k ds = edges_in_order (map (ranked_edge pr er k) ds)

abbrev pub list_at : List (List FoundEdge) → ℕ → List FoundEdge
list_at ls p = get_or ls p []

pub record CanAllBeRanked (pr er : Ranked) (ls : List (List FoundEdge)) : Type 0 where
  pub order : IsOrder pr.order.items
  pub there : (k p : ℕ) → slice_get pr.order.items k ≡ Some p → p < length ls
  pub edges : (k p : ℕ) → slice_get pr.order.items k ≡ Some p → All (λ d. IsRanked pr er d.to) (list_at ls p)

abbrev pub ranked_edges : Ranked → Ranked → List (List FoundEdge) → List AffineEdge
ranked_edges pr er ls = flat_map (λ p. ranked_at pr er p.0 (list_at ls p.1)) (enumerate_from 0 pr.order.items)
