use Rattle.std.proofs.Common.{◌≡◌, ◌∙◌, ◌<◌, ℕ, arith, ap, subst, sym}
use Rattle.std.proofs.lemmas.Result.{err_from_is_err_and}
use Rattle.pungi_domain.specs.Vectors.{at}
use Rattle.pungi_domain.specs.Spans.{Plus, LargeSum, LargeFree, Never, unit}
use Rattle.pungi_affine.specs.Spans.{SameMembers}
use Rattle.pungi_affine.specs.Forms.{vectors}
use Rattle.pungi_affine.specs.Rows.{row_entries}
use Rattle.pungi_affine.specs.States.{SpanState, SpanMember}
use Rattle.pungi_affine.proofs.Members.{same_self, same_chain, plus_same, large_sum_same}
use Rattle.pungi_affine.proofs.Ranges.{range_fault, range_same, if_ok_to}
use Rattle.pungi_affine.proofs.AddLemmas.{member_plus}
use Rattle.pungi_affine.proofs.unit.freed_span.Goals as goal

pub returns-in_err-more-clause-range : goal.returns-in_err-more-clause-range
returns-in_err-more-clause-range c =
    let e : c.as_slice.result.now ≡ row_entries c.in_ok-row.row = c.as_slice.ensures.value ∙ c.in_ok-vector.ensures in
    let w = ap (λ x. x.width) c.span.view_is in
    let p : (i : ℕ) → i < c.args.span.now.width
    → at c.as_slice.result.now i ≡ unit c.args.c i = λ i lt. ap (λ xs. at xs i) e
    ∙ c.in_ok-row.ensures.each i (omega (arith, lt, w)) in
    let f = err_from_is_err_and c.from_residual-in_err-more.result c.from_residual-in_err-more.ensures.1 in
    rw (f.1, f.2) (range_fault ℕ ℕ (LargeSum c.args.span.now.width (SpanMember c.args.span.now)
    (at c.as_slice.result.now)) (LargeFree c.args.span.now.width c.args.c (SpanMember c.args.span.now))
    (large_sum_same c.args.span.now.width (SpanMember c.args.span.now) (SpanMember c.args.span.now)
    (same_self (SpanMember c.args.span.now)) (at c.as_slice.result.now) (unit c.args.c) p)
    c.in_err-more.field-0.0 c.in_err-more.ensures.range)

pub returns-in_default-clause-members : goal.returns-in_default-clause-members
returns-in_default-clause-members c =
    let e : c.as_slice.result.now ≡ row_entries c.in_ok-row.row = c.as_slice.ensures.value ∙ c.in_ok-vector.ensures in
    let w = ap (λ x. x.width) c.span.view_is in
    let p : (i : ℕ) → i < c.args.span.now.width
    → at c.as_slice.result.now i ≡ unit c.args.c i = λ i lt. ap (λ xs. at xs i) e
    ∙ c.in_ok-row.ensures.each i (omega (arith, lt, w)) in
    let m = rw c.in_default.is at c.in_ok-more.ensures.adds in
    let base = same_chain (Plus c.args.span.now.width (SpanMember c.args.span.now) (unit c.args.c))
    (Plus c.args.span.now.width (SpanMember c.args.span.now) (at c.as_slice.result.now))
    (SpanMember c.args.span.now)
    (plus_same c.args.span.now.width (SpanMember c.args.span.now) (SpanMember c.args.span.now)
    (same_self (SpanMember c.args.span.now)) (unit c.args.c) (at c.as_slice.result.now) (λ i lt. sym (p i lt)))
    (member_plus c.args.span.now.width (vectors c.args.span.now.lines) (at c.as_slice.result.now) m) in
    if_ok_to c.copy.result (λ x. x ≡ c.args.span.now) (λ x. SameMembers (Plus c.args.span.now.width
    (SpanMember c.args.span.now) (unit c.args.c)) (SpanMember x))
    (λ x same. subst (λ (y : SpanState). SameMembers (Plus c.args.span.now.width (SpanMember c.args.span.now)
    (unit c.args.c)) (SpanMember y)) (sym same) base) c.copy.ensures.same

pub returns-in_default-clause-range : goal.returns-in_default-clause-range
returns-in_default-clause-range c =
    let e : c.as_slice.result.now ≡ row_entries c.in_ok-row.row = c.as_slice.ensures.value ∙ c.in_ok-vector.ensures in
    let w = ap (λ x. x.width) c.span.view_is in
    let p : (i : ℕ) → i < c.args.span.now.width
    → at c.as_slice.result.now i ≡ unit c.args.c i = λ i lt. ap (λ xs. at xs i) e
    ∙ c.in_ok-row.ensures.each i (omega (arith, lt, w)) in
    range_same SpanState Never (LargeFree c.args.span.now.width c.args.c (SpanMember c.args.span.now)) (λ r h. absurd h)
    (λ r h. absurd (c.in_ok-more.ensures.range r (large_sum_same c.args.span.now.width (SpanMember c.args.span.now)
    (SpanMember c.args.span.now) (same_self (SpanMember c.args.span.now)) (unit c.args.c)
    (at c.as_slice.result.now) (λ i lt. sym (p i lt)) r h)))
    c.copy.result c.copy.ensures.range

pub returns-clause-members : goal.returns-clause-members
returns-clause-members c =
    let e : c.as_slice.result.now ≡ row_entries c.in_ok-row.row = c.as_slice.ensures.value ∙ c.in_ok-vector.ensures in
    let w = ap (λ x. x.width) c.span.view_is in
    let p : (i : ℕ) → i < c.args.span.now.width
    → at c.as_slice.result.now i ≡ unit c.args.c i = λ i lt. ap (λ xs. at xs i) e
    ∙ c.in_ok-row.ensures.each i (omega (arith, lt, w)) in
    let a = rw c.in-Some.is at c.in_ok-more.ensures.adds in
    same_chain (Plus c.args.span.now.width (SpanMember c.args.span.now) (unit c.args.c))
    (Plus c.args.span.now.width (SpanMember c.args.span.now) (at c.as_slice.result.now))
    (SpanMember c.in-Some.grown)
    (plus_same c.args.span.now.width (SpanMember c.args.span.now) (SpanMember c.args.span.now)
    (same_self (SpanMember c.args.span.now)) (unit c.args.c) (at c.as_slice.result.now) (λ i lt. sym (p i lt)))
    a.members

pub returns-clause-range : goal.returns-clause-range
returns-clause-range c =
    let e : c.as_slice.result.now ≡ row_entries c.in_ok-row.row = c.as_slice.ensures.value ∙ c.in_ok-vector.ensures in
    let w = ap (λ x. x.width) c.span.view_is in
    let p : (i : ℕ) → i < c.args.span.now.width
    → at c.as_slice.result.now i ≡ unit c.args.c i = λ i lt. ap (λ xs. at xs i) e
    ∙ c.in_ok-row.ensures.each i (omega (arith, lt, w)) in
    λ r h. c.in_ok-more.ensures.range r (large_sum_same c.args.span.now.width (SpanMember c.args.span.now)
    (SpanMember c.args.span.now) (same_self (SpanMember c.args.span.now)) (unit c.args.c)
    (at c.as_slice.result.now) (λ i lt. sym (p i lt)) r h)
