use Rattle.std.proofs.Common.{true, subst, sym}
use Rattle.pungi_affine.specs.States.{SpanState, IsKept}
use Rattle.pungi_affine.specs.Sums.{IsSum, row_vectors}
use Rattle.pungi_affine.proofs.Chosen.{copy_sum, copy_not_large}
use Rattle.pungi_affine.proofs.sum.with_copies.Goals as goal

pub returns-clause-sum : goal.returns-clause-sum
returns-clause-sum c =
    let k : IsKept c.args.from.now.width c.args.from.now.scale c.args.from.now.lines = subst
    (λ (s : SpanState). IsKept s.width s.scale s.lines) c.from.view_is c.from.invariant in
    subst (λ (s : SpanState). IsSum c.args.span.now (row_vectors c.args.from.now.lines) s true)
    (sym c.in_ok-span.ensures.same)
    (copy_sum c.args.span.now c.args.from.now k c.requires.width c.requires.none c.requires.some)

pub returns-clause-range : goal.returns-clause-range
returns-clause-range c =
    let k : IsKept c.args.from.now.width c.args.from.now.scale c.args.from.now.lines = subst
    (λ (s : SpanState). IsKept s.width s.scale s.lines) c.from.view_is c.from.invariant in
    copy_not_large c.args.span.now c.args.from.now k c.requires.width c.requires.none
