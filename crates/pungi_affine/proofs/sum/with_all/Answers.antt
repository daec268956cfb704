use Rattle.std.proofs.Common.{◌∙◌, ◌≡◌, ◌+◌, ◌<◌, ◌^◌, ℕ, ℤ, List, length, take, drop, arith, sym, subst}
use Rattle.std.proofs.lemmas.List.{take_all}
use Rattle.std.proofs.lemmas.Result.{err_from_is_err_and}
use Rattle.pungi_domain.specs.Vectors.{Vector, at, IsWithin}
use Rattle.pungi_domain.specs.Spans.{LargeSum, LargeSums}
use Rattle.pungi_affine.specs.States.{SpanMember}
use Rattle.pungi_affine.specs.declared.sum.Given.{Given}
use Rattle.pungi_affine.proofs.Ranges.{range_fault}
use Rattle.pungi_affine.specs.Sums.{given_vectors}
use Rattle.pungi_affine.proofs.SumLemmas.{sum_none, sum_step, small_step, large_step, given_more, given_split, given_is}
use Rattle.pungi_affine.proofs.sum.with_all.Goals as goal

pub loop-vector-init : goal.loop-vector-init
loop-vector-init c = record { sum = sum_none c.args.span; small = λ r h. h }

pub step-requires-clause-width : goal.step-requires-clause-width
step-requires-clause-width c =
    let g = given_is c.args.vectors.now c.loop-vector.vector-index c.vector-item.result c.loop-vector-test.true
    c.vector-item.is in
    let w = c.requires.widths c.loop-vector.vector-index c.loop-vector-test.true in
    subst (λ (xs : List ℤ). length xs ≡ c.loop-vector.grown.span.width) g (w ∙ sym c.loop-vector.invariant.sum.width)

pub step-requires-clause-within : goal.step-requires-clause-within
step-requires-clause-within c =
    let g = given_is c.args.vectors.now c.loop-vector.vector-index c.vector-item.result c.loop-vector-test.true
    c.vector-item.is in
    subst (λ (xs : List ℤ). (i : ℕ) → i < length xs → IsWithin (2 ^ 126) (at xs i)) g
    (c.requires.within c.loop-vector.vector-index c.loop-vector-test.true)

pub loop-vector-preserved : goal.loop-vector-preserved
loop-vector-preserved c =
    record {
      sum = rw (given_more c.args.vectors.now c.loop-vector.vector-index c.vector-item.result
          c.loop-vector-test.true c.vector-item.is) (sum_step c.args.span (given_vectors
          (take c.loop-vector.vector-index c.args.vectors.now)) c.loop-vector.grown.span c.loop-vector.grown.changed
          (at c.vector-item.result.entries.items) c.in_ok-grown.grown.span c.in_ok-grown.grown.changed
          c.loop-vector.invariant.sum c.in_ok-grown.ensures.step);
      small = rw (given_more c.args.vectors.now
          c.loop-vector.vector-index c.vector-item.result c.loop-vector-test.true c.vector-item.is)
          (small_step c.args.span (given_vectors (take c.loop-vector.vector-index c.args.vectors.now))
          c.loop-vector.grown.span c.loop-vector.grown.changed (at c.vector-item.result.entries.items)
          c.loop-vector.invariant.sum c.loop-vector.invariant.small c.in_ok-grown.ensures.range);
    }

pub returns-in_err-grown-clause-range : goal.returns-in_err-grown-clause-range
returns-in_err-grown-clause-range c =
    let p = err_from_is_err_and c.from_residual.result c.from_residual.ensures.1 in
    rw (p.1, p.2) (range_fault ℕ ℕ (LargeSum c.loop-vector.grown.span.width (SpanMember c.loop-vector.grown.span)
    (at c.vector-item.result.entries.items)) (LargeSums c.args.span.width (SpanMember c.args.span)
    (given_vectors c.args.vectors.now))
    (λ r h. subst (λ (vs : List Vector). LargeSums c.args.span.width (SpanMember c.args.span) vs r)
    (given_split c.args.vectors.now c.loop-vector.vector-index c.vector-item.result c.loop-vector-test.true
    c.vector-item.is)
    (large_step c.args.span (given_vectors (take c.loop-vector.vector-index c.args.vectors.now))
    c.loop-vector.grown.span c.loop-vector.grown.changed (at c.vector-item.result.entries.items)
    (given_vectors (drop (c.loop-vector.vector-index + 1) c.args.vectors.now)) c.loop-vector.invariant.sum r h))
    c.in_err-grown.field-0.0 c.in_err-grown.ensures.range)

pub returns-clause-range : goal.returns-clause-range
returns-clause-range c = λ r h. c.loop-vector.invariant.small r
    (subst (λ (gs : List Given). LargeSums c.args.span.width (SpanMember c.args.span) (given_vectors gs) r)
    (sym (take_all c.loop-vector.vector-index c.args.vectors.now (omega arith))) h)
