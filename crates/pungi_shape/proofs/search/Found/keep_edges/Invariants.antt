use Rattle.std.proofs.Common.{◌≡◌, ◌++◌, List, ℕ, length, map}
use Rattle.std.specs.List.{All}
use Rattle.std.specs.Vec.Iter.{into_iter_items, into_iter_len}
use Rattle.pungi_shape.specs.declared.shape.Shape.{Shape}
use Rattle.pungi_shape.specs.Edges.{Edge}
use Rattle.pungi_shape.specs.Found.{CanBeNoted, HasFewExits, are_over, with_goals}
use Rattle.pungi_shape.specs.FoundEdges.{IsClassNumber, found_edges}
use Rattle.pungi_shape.proofs.search.Found.keep_edges.Given as goal

-- with the goals that are left it is as with all
abbrev pub invariant-loop-edge : goal.invariant-loop-edge
invariant-loop-edge l = record {
  noted : with_goals (map (λ (e : Edge). e.goal) (into_iter_items l.edge-iterator)) l.self
      ≡ with_goals (map (λ (e : Edge). e.goal) (into_iter_items l.initial.edge-iterator)) l.initial.self;
  over : are_over (map (λ (e : Edge). e.goal) (into_iter_items l.edge-iterator)) l.self
      ≡ are_over (map (λ (e : Edge). e.goal) (into_iter_items l.initial.edge-iterator)) l.initial.self;
  classes : (others : ℕ → List Shape)
      → All (λ (e : Edge). IsClassNumber others e.change l.class) (into_iter_items l.initial.edge-iterator)
      → All (λ (e : Edge). IsClassNumber others e.change l.class) (into_iter_items l.edge-iterator);
  list : (others : ℕ → List Shape)
      → All (λ (e : Edge). IsClassNumber others e.change l.class) (into_iter_items l.initial.edge-iterator)
      → l.list ++ found_edges others (with_goals (map (λ (e : Edge). e.goal)
      (into_iter_items l.initial.edge-iterator)) l.initial.self) (into_iter_items l.edge-iterator)
      ≡ l.initial.list ++ found_edges others (with_goals (map (λ (e : Edge). e.goal)
      (into_iter_items l.initial.edge-iterator)) l.initial.self) (into_iter_items l.initial.edge-iterator);
  can : All CanBeNoted (map (λ (e : Edge). e.goal) (into_iter_items l.edge-iterator));
  few : HasFewExits (map (λ (e : Edge). e.goal) (into_iter_items l.edge-iterator)) l.self;
  left : into_iter_len l.edge-iterator ≡ length (into_iter_items l.edge-iterator);
}
