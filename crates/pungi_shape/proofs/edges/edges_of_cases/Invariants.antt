use Rattle.std.proofs.Common.{◌≡◌, ℕ, ◌++◌, ◌<◌, length, map, Some}
use Rattle.std.specs.Prelude.{◌^◌}
use Rattle.std.specs.List.{All}
use Rattle.std.specs.Vec.Iter.{into_iter_items, into_iter_len}
use Rattle.pungi_shape.specs.Bounds.{IsScene}
use Rattle.pungi_shape.specs.Cases.{Case}
use Rattle.pungi_shape.specs.Edges.{edge_of}
use Rattle.pungi_shape.specs.Reached.{HasWideGoal}
use Rattle.pungi_shape.proofs.edges.edges_of_cases.Given as goal

abbrev pub invariant-loop-case : goal.invariant-loop-case
invariant-loop-case l = record {
  edges : l.out ++ map (edge_of l.code l.p l.shape) (into_iter_items l.case-iterator)
      ≡ l.initial.out ++ map (edge_of l.code l.p l.shape) (into_iter_items l.initial.case-iterator);
  left : into_iter_len l.case-iterator ≡ length (into_iter_items l.case-iterator);
  wide : HasWideGoal (map (edge_of l.code l.p l.shape) (into_iter_items l.case-iterator))
      → HasWideGoal (map (edge_of l.code l.p l.shape) (into_iter_items l.initial.case-iterator));
  scenes : All (λ (d : Case). IsScene d.scene) (into_iter_items l.case-iterator);
  vars : All (λ (d : Case). length d.scene.shape.vars ≡ length l.code.vars) (into_iter_items l.case-iterator);
  few : All (λ (d : Case). length d.scene.shape.made < 2 ^ 32) (into_iter_items l.case-iterator);
  freed : All (λ (d : Case). (x : ℕ) → d.freed ≡ Some x → x < length l.code.vars) (into_iter_items l.case-iterator);
}
