use Rattle.std.proofs.Common.{◌≡◌, ◌++◌, List, length}
use Rattle.std.specs.List.{All}
use Rattle.pungi_shape.specs.declared.found_edge.FoundEdge.{FoundEdge}
use Rattle.pungi_shape.specs.RankedEdges.{IsRanked, ranked_at}
use Rattle.pungi_shape.proofs.programs.in_order.Given as goal

-- the last ones are in order
abbrev pub invariant-loop-edge : goal.invariant-loop-edge
invariant-loop-edge l = record {
  rest : List FoundEdge;
  all : l.edges ++ rest ≡ l.initial.edges;
  can : All (λ (d : FoundEdge). IsRanked l.numbers.places.now l.numbers.exits.now d.to) l.edges;
  list : l.list.items ≡ ranked_at l.numbers.places.now l.numbers.exits.now l.from rest;
}

abbrev pub decreases-loop-edge : goal.decreases-loop-edge
decreases-loop-edge l = length l.edges
