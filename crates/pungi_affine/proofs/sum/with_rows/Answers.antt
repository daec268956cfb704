use Rattle.std.proofs.Common.{◌≡◌, ◌∙◌, ◌<◌, ◌^◌, ℕ, ℤ, List, length, map, ap, subst, sym}
use Rattle.pungi_domain.specs.Vectors.{Vector, at, IsWithin}
use Rattle.pungi_domain.specs.Spans.{LargeSums, LargeGrow}
use Rattle.pungi_affine.specs.Forms.{lines}
use Rattle.pungi_affine.specs.States.{SpanState, SpanMember, IsKept}
use Rattle.pungi_affine.specs.Sums.{IsSum, row_vectors, given_vectors}
use Rattle.pungi_affine.specs.declared.sum.Grown.{Grown}
use Rattle.pungi_affine.proofs.Ranges.{range_same, if_ok_to}
use Rattle.pungi_affine.proofs.SumLemmas.{given_rows, given_row, grow_to, grow_back, box_within}
use Rattle.pungi_affine.proofs.sum.with_rows.Goals as goal

pub with_all-requires-clause-widths : goal.with_all-requires-clause-widths
with_all-requires-clause-widths c =
    let e : map (λ g. g.entries.items) c.as_slice-2.result.now
    ≡ map (λ l. l.entries) (lines c.from.inside.rows.items) = ap (map (λ g. g.entries.items))
    c.as_slice-2.ensures.value ∙ c.in_ok-vectors.ensures
    ∙ ap (λ rs. map (λ l. l.entries) (lines rs)) c.as_slice.ensures.value in
    let w = rw (← c.from.view_is) at c.requires in
    let s = ap (λ x. x.width) c.in_ok-start.ensures.same in
    λ k lt. let r = given_row c.as_slice-2.result.now (lines c.from.inside.rows.items) e k lt in ap length r.1
    ∙ c.from.invariant.widths k r.0 ∙ w ∙ sym s

pub with_all-requires-clause-within : goal.with_all-requires-clause-within
with_all-requires-clause-within c =
    let e : map (λ g. g.entries.items) c.as_slice-2.result.now
    ≡ map (λ l. l.entries) (lines c.from.inside.rows.items) = ap (map (λ g. g.entries.items))
    c.as_slice-2.ensures.value ∙ c.in_ok-vectors.ensures
    ∙ ap (λ rs. map (λ l. l.entries) (lines rs)) c.as_slice.ensures.value in
    λ k lt. let r = given_row c.as_slice-2.result.now (lines c.from.inside.rows.items) e k lt in
    subst (λ (xs : List ℤ). (i : ℕ) → i < length xs → IsWithin (2 ^ 126) (at xs i)) (sym r.1)
    (box_within (lines c.from.inside.rows.items) k (c.from.invariant.small k r.0))

pub returns-clause-sum : goal.returns-clause-sum
returns-clause-sum c =
    let e : map (λ g. g.entries.items) c.as_slice-2.result.now
    ≡ map (λ l. l.entries) (lines c.from.inside.rows.items) = ap (map (λ g. g.entries.items))
    c.as_slice-2.ensures.value ∙ c.in_ok-vectors.ensures
    ∙ ap (λ rs. map (λ l. l.entries) (lines rs)) c.as_slice.ensures.value in
    let v : given_vectors c.as_slice-2.result.now ≡ row_vectors c.args.from.now.lines = given_rows
    c.as_slice-2.result.now (lines c.from.inside.rows.items) e ∙ ap (λ x. row_vectors x.lines) c.from.view_is in
    if_ok_to c.with_all.result (λ g. IsSum c.in_ok-start.start (given_vectors c.as_slice-2.result.now) g.span
    g.changed) (λ g. IsSum c.args.span.now (row_vectors c.args.from.now.lines) g.span g.changed)
    (λ g h. subst (λ (s : SpanState). IsSum s (row_vectors c.args.from.now.lines) g.span g.changed)
    c.in_ok-start.ensures.same (subst (λ (vs : List Vector). IsSum c.in_ok-start.start vs g.span g.changed) v h))
    c.with_all.ensures.sum

pub returns-clause-range : goal.returns-clause-range
returns-clause-range c =
    let e : map (λ g. g.entries.items) c.as_slice-2.result.now
    ≡ map (λ l. l.entries) (lines c.from.inside.rows.items) = ap (map (λ g. g.entries.items))
    c.as_slice-2.ensures.value ∙ c.in_ok-vectors.ensures
    ∙ ap (λ rs. map (λ l. l.entries) (lines rs)) c.as_slice.ensures.value in
    let v : given_vectors c.as_slice-2.result.now ≡ row_vectors c.args.from.now.lines = given_rows
    c.as_slice-2.result.now (lines c.from.inside.rows.items) e ∙ ap (λ x. row_vectors x.lines) c.from.view_is in
    let k : IsKept c.args.from.now.width c.args.from.now.scale c.args.from.now.lines = subst
    (λ (s : SpanState). IsKept s.width s.scale s.lines) c.from.view_is c.from.invariant in
    range_same Grown (LargeSums c.in_ok-start.start.width (SpanMember c.in_ok-start.start)
    (given_vectors c.as_slice-2.result.now)) (LargeGrow c.args.span.now.width (SpanMember c.args.span.now)
    (SpanMember c.args.from.now))
    (λ r h. grow_to c.args.span.now c.args.from.now k c.requires r (subst (λ (s : SpanState). LargeSums s.width
    (SpanMember s) (row_vectors c.args.from.now.lines) r) c.in_ok-start.ensures.same
    (subst (λ (vs : List Vector). LargeSums c.in_ok-start.start.width (SpanMember c.in_ok-start.start) vs r) v
    h)))
    (λ r h. subst (λ (vs : List Vector). LargeSums c.in_ok-start.start.width (SpanMember c.in_ok-start.start) vs r)
    (sym v) (subst (λ (s : SpanState). LargeSums s.width (SpanMember s) (row_vectors c.args.from.now.lines) r)
    (sym c.in_ok-start.ensures.same) (grow_back c.args.span.now c.args.from.now k c.requires r h)))
    c.with_all.result c.with_all.ensures.range
