use Rattle.std.proofs.Common.{ℤ, List, take}
use Rattle.pungi_domain.specs.Spans.{LargeSums}
use Rattle.pungi_affine.specs.States.{SpanMember}
use Rattle.pungi_affine.specs.Sums.{IsSum, given_vectors}
use Rattle.pungi_affine.proofs.sum.with_all.Given as goal

abbrev pub invariant-loop-vector : goal.invariant-loop-vector
invariant-loop-vector l = record {
  sum : IsSum l.fn.span (given_vectors (take l.vector-index l.vectors)) l.grown.span l.grown.changed;
  small : (r : List ℤ) → LargeSums l.fn.span.width (SpanMember l.fn.span)
      (given_vectors (take l.vector-index l.vectors)) r → ⊥;
}
