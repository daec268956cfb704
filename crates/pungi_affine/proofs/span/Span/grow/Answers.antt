use Rattle.std.proofs.Common.{◌≤◌, length, subst, sym}
use Rattle.pungi_domain.specs.Vectors.{Follows, Either}
use Rattle.pungi_affine.specs.States.{SpanState, SpanMember, IsKept}
use Rattle.pungi_affine.specs.Sums.{row_vectors}
use Rattle.pungi_affine.proofs.Sums.{sums_kept}
use Rattle.pungi_affine.proofs.SumLemmas.{grow_taken, grow_least}
use Rattle.pungi_affine.proofs.span.Span.grow.Goals as goal

pub returns-clause-kept : goal.returns-clause-kept
returns-clause-kept c =
    λ v m. subst (λ (s : SpanState). SpanMember s v) (sym c.drop.view_is) (c.in_ok-span.ensures.sum.members.to v
    (sums_kept c.args.self.now.width (SpanMember c.args.self.now) (row_vectors c.args.from.now.lines) v m))

pub returns-clause-taken : goal.returns-clause-taken
returns-clause-taken c =
    λ v m. subst (λ (s : SpanState). SpanMember s v) (sym c.drop.view_is) (grow_taken c.args.self.now
    c.args.from.now c.in_ok-span.field-0.span c.in_ok-span.field-0.changed c.requires c.in_ok-span.ensures.sum v m)

pub returns-clause-least : goal.returns-clause-least
returns-clause-least c =
    let k : IsKept c.args.from.now.width c.args.from.now.scale c.args.from.now.lines = subst
    (λ (s : SpanState). IsKept s.width s.scale s.lines) c.from.view_is c.from.invariant in
    subst (λ (s : SpanState). Follows c.args.self.now.width (Either (SpanMember c.args.self.now)
    (SpanMember c.args.from.now)) (SpanMember s)) (sym c.drop.view_is)
    (grow_least c.args.self.now c.args.from.now c.in_ok-span.field-0.span c.in_ok-span.field-0.changed k c.requires
    c.in_ok-span.ensures.sum)

pub returns-clause-bounded : goal.returns-clause-bounded
returns-clause-bounded c =
    let k : IsKept c.args.self.now.width c.args.self.now.scale c.args.self.now.lines = subst
    (λ (s : SpanState). IsKept s.width s.scale s.lines) c.self.view_is c.self.invariant in
    subst (λ (s : SpanState). length s.lines ≤ s.width) (sym c.drop.view_is) (c.in_ok-span.ensures.sum.few k.few)

pub returns-in_err-span-clause-bounded : goal.returns-in_err-span-clause-bounded
returns-in_err-span-clause-bounded c =
    let k : IsKept c.args.self.now.width c.args.self.now.scale c.args.self.now.lines = subst
    (λ (s : SpanState). IsKept s.width s.scale s.lines) c.self.view_is c.self.invariant in
    k.few
