use Rattle.std.proofs.Common.{◌≡◌, ◌≤◌, ◌++◌, ℕ, drop, length, slice_get, Some}
use Rattle.std.specs.List.{enumerate_from, flat_map}
use Rattle.pungi_shape.specs.RankedEdges.{list_at, ranked_at}
use Rattle.pungi_shape.proofs.programs.edges.Given as goal

-- the edges of the places that are left stand in their lists
abbrev pub invariant-loop-k : goal.invariant-loop-k
invariant-loop-k l = record {
  edges : l.edges ++ flat_map
      (λ p. ranked_at l.numbers.places.now l.numbers.exits.now p.0 (list_at l.fn.lists.items p.1))
      (enumerate_from l.k (drop l.k l.numbers.places.now.order.items))
      ≡ flat_map (λ p. ranked_at l.numbers.places.now l.numbers.exits.now p.0 (list_at l.fn.lists.items p.1))
      (enumerate_from 0 l.numbers.places.now.order.items);
  left : (i p : ℕ) → l.k ≤ i → slice_get l.numbers.places.now.order.items i ≡ Some p
      → list_at l.lists.items p ≡ list_at l.fn.lists.items p;
  long : length l.lists.items ≡ length l.fn.lists.items;
}
