use Rattle.std.proofs.Common.{◌≡◌, ◌∙◌, ℕ, pos, List, [], length, arith, ap, subst, sym}
use Rattle.std.proofs.lemmas.Result.{err_from_is_err_and}
use Rattle.pungi_domain.specs.Vectors.{IsMatrix}
use Rattle.pungi_domain.specs.Spans.{LargeSums, LargeMap}
use Rattle.pungi_affine.specs.Spans.{SameMembers}
use Rattle.pungi_affine.specs.States.{SpanState, SpanMember, IsKept}
use Rattle.pungi_affine.specs.Images.{AreImagesOf}
use Rattle.pungi_affine.specs.Sums.{Sums, given_vectors}
use Rattle.pungi_affine.specs.declared.sum.Given.{Given}
use Rattle.pungi_affine.proofs.Ranges.{range_fault}
use Rattle.pungi_affine.proofs.Images.{map_to, map_back, map_members, map_least}
use Rattle.pungi_affine.proofs.image.image_span.Goals as goal

pub row_images-requires-clause-matrix : goal.row_images-requires-clause-matrix
row_images-requires-clause-matrix c =
    let ok = rw (← c.span.view_is) at c.requires.fits in
    rw (c.as_slice.ensures.value, c.as_slice-2.ensures) (λ j lt. subst (λ (n : ℕ). IsMatrix n
    c.args.matrix.now.rows) (sym (c.span.invariant.widths j lt)) ok)

pub row_images-requires-clause-narrow : goal.row_images-requires-clause-narrow
row_images-requires-clause-narrow c =
    rw c.as_slice.ensures.value (λ j lt. let w = c.span.invariant.widths j lt in let n = c.span.invariant.narrow in
    omega (arith, w, n))

pub row_images-requires-clause-small : goal.row_images-requires-clause-small
row_images-requires-clause-small c = rw c.as_slice.ensures.value c.span.invariant.small

pub with_all-requires-clause-widths : goal.with_all-requires-clause-widths
with_all-requires-clause-widths c =
    let im = subst (λ (gs : List Given). AreImagesOf c.args.matrix.now.rows c.args.span.now.lines gs)
    (sym c.as_slice-3.ensures.value)
    (subst (λ (x : SpanState). AreImagesOf c.args.matrix.now.rows x.lines c.in_ok-images.images.items)
    c.span.view_is (rw (c.as_slice.ensures.value, c.as_slice-2.ensures) at c.in_ok-images.ensures)) in
    let es : c.in_ok-start.start ≡ record { width = length c.args.matrix.now.rows; scale = pos 1; lines = [] }
    = c.in_ok-start.ensures.value ∙ ap (λ (n : ℕ). let s : SpanState = record
    { width = n; scale = pos 1; lines = [] } in s) c.len.ensures in
    λ j lt. (im.each j (let m = im.count in omega (arith, m, lt))).lengths ∙ sym (ap (λ x. x.width) es)

pub with_all-requires-clause-within : goal.with_all-requires-clause-within
with_all-requires-clause-within c =
    let im = subst (λ (gs : List Given). AreImagesOf c.args.matrix.now.rows c.args.span.now.lines gs)
    (sym c.as_slice-3.ensures.value)
    (subst (λ (x : SpanState). AreImagesOf c.args.matrix.now.rows x.lines c.in_ok-images.images.items)
    c.span.view_is (rw (c.as_slice.ensures.value, c.as_slice-2.ensures) at c.in_ok-images.ensures)) in
    let es : c.in_ok-start.start ≡ record { width = length c.args.matrix.now.rows; scale = pos 1; lines = [] }
    = c.in_ok-start.ensures.value ∙ ap (λ (n : ℕ). let s : SpanState = record
    { width = n; scale = pos 1; lines = [] } in s) c.len.ensures in
    λ j lt i i_lt. let h = im.each j (let m = im.count in omega (arith, m, lt)) in
    (h.each i (let m = h.lengths in omega (arith, m, i_lt))).1

pub returns-in_err-grown-clause-range : goal.returns-in_err-grown-clause-range
returns-in_err-grown-clause-range c =
    let im = subst (λ (gs : List Given). AreImagesOf c.args.matrix.now.rows c.args.span.now.lines gs)
    (sym c.as_slice-3.ensures.value)
    (subst (λ (x : SpanState). AreImagesOf c.args.matrix.now.rows x.lines c.in_ok-images.images.items)
    c.span.view_is (rw (c.as_slice.ensures.value, c.as_slice-2.ensures) at c.in_ok-images.ensures)) in
    let es : c.in_ok-start.start ≡ record { width = length c.args.matrix.now.rows; scale = pos 1; lines = [] }
    = c.in_ok-start.ensures.value ∙ ap (λ (n : ℕ). let s : SpanState = record
    { width = n; scale = pos 1; lines = [] } in s) c.len.ensures in
    let k : IsKept c.args.span.now.width c.args.span.now.scale c.args.span.now.lines = subst
    (λ (x : SpanState). IsKept x.width x.scale x.lines) c.span.view_is c.span.invariant in
    let p = err_from_is_err_and c.from_residual-in_err-grown.result c.from_residual-in_err-grown.ensures.1 in
    rw (p.1, p.2) (range_fault ℕ ℕ (LargeSums c.in_ok-start.start.width (SpanMember c.in_ok-start.start)
    (given_vectors c.as_slice-3.result.now)) (LargeMap c.args.span.now.width c.args.matrix.now.rows
    (SpanMember c.args.span.now))
    (λ r h. map_to c.args.span.now k c.args.matrix.now.rows c.requires.fits c.as_slice-3.result.now im r
    (subst (λ (x : SpanState). LargeSums x.width (SpanMember x) (given_vectors c.as_slice-3.result.now) r) es h))
    c.in_err-grown.field-0.0 c.in_err-grown.ensures.range)

pub returns-clause-width : goal.returns-clause-width
returns-clause-width c =
    let im = subst (λ (gs : List Given). AreImagesOf c.args.matrix.now.rows c.args.span.now.lines gs)
    (sym c.as_slice-3.ensures.value)
    (subst (λ (x : SpanState). AreImagesOf c.args.matrix.now.rows x.lines c.in_ok-images.images.items)
    c.span.view_is (rw (c.as_slice.ensures.value, c.as_slice-2.ensures) at c.in_ok-images.ensures)) in
    let es : c.in_ok-start.start ≡ record { width = length c.args.matrix.now.rows; scale = pos 1; lines = [] }
    = c.in_ok-start.ensures.value ∙ ap (λ (n : ℕ). let s : SpanState = record
    { width = n; scale = pos 1; lines = [] } in s) c.len.ensures in
    c.in_ok-grown.ensures.sum.width ∙ ap (λ x. x.width) es

pub returns-clause-members : goal.returns-clause-members
returns-clause-members c =
    let im = subst (λ (gs : List Given). AreImagesOf c.args.matrix.now.rows c.args.span.now.lines gs)
    (sym c.as_slice-3.ensures.value)
    (subst (λ (x : SpanState). AreImagesOf c.args.matrix.now.rows x.lines c.in_ok-images.images.items)
    c.span.view_is (rw (c.as_slice.ensures.value, c.as_slice-2.ensures) at c.in_ok-images.ensures)) in
    let es : c.in_ok-start.start ≡ record { width = length c.args.matrix.now.rows; scale = pos 1; lines = [] }
    = c.in_ok-start.ensures.value ∙ ap (λ (n : ℕ). let s : SpanState = record
    { width = n; scale = pos 1; lines = [] } in s) c.len.ensures in
    let k : IsKept c.args.span.now.width c.args.span.now.scale c.args.span.now.lines = subst
    (λ (x : SpanState). IsKept x.width x.scale x.lines) c.span.view_is c.span.invariant in
    let sum = subst (λ (x : SpanState). SameMembers (Sums x.width (SpanMember x)
    (given_vectors c.as_slice-3.result.now)) (SpanMember c.in_ok-grown.grown.span)) es
    c.in_ok-grown.ensures.sum.members in
    let n = c.in_ok-grown.ensures.sum.width ∙ ap (λ x. x.width) es in
    map_members c.args.span.now k c.args.matrix.now.rows c.requires.fits c.as_slice-3.result.now im
    c.in_ok-grown.grown.span n sum

pub returns-clause-least : goal.returns-clause-least
returns-clause-least c =
    let im = subst (λ (gs : List Given). AreImagesOf c.args.matrix.now.rows c.args.span.now.lines gs)
    (sym c.as_slice-3.ensures.value)
    (subst (λ (x : SpanState). AreImagesOf c.args.matrix.now.rows x.lines c.in_ok-images.images.items)
    c.span.view_is (rw (c.as_slice.ensures.value, c.as_slice-2.ensures) at c.in_ok-images.ensures)) in
    let es : c.in_ok-start.start ≡ record { width = length c.args.matrix.now.rows; scale = pos 1; lines = [] }
    = c.in_ok-start.ensures.value ∙ ap (λ (n : ℕ). let s : SpanState = record
    { width = n; scale = pos 1; lines = [] } in s) c.len.ensures in
    let k : IsKept c.args.span.now.width c.args.span.now.scale c.args.span.now.lines = subst
    (λ (x : SpanState). IsKept x.width x.scale x.lines) c.span.view_is c.span.invariant in
    let sum = subst (λ (x : SpanState). SameMembers (Sums x.width (SpanMember x)
    (given_vectors c.as_slice-3.result.now)) (SpanMember c.in_ok-grown.grown.span)) es
    c.in_ok-grown.ensures.sum.members in
    let n = c.in_ok-grown.ensures.sum.width ∙ ap (λ x. x.width) es in
    map_least c.args.span.now k c.args.matrix.now.rows c.requires.fits c.as_slice-3.result.now im
    c.in_ok-grown.grown.span n sum

pub returns-clause-range : goal.returns-clause-range
returns-clause-range c =
    let im = subst (λ (gs : List Given). AreImagesOf c.args.matrix.now.rows c.args.span.now.lines gs)
    (sym c.as_slice-3.ensures.value)
    (subst (λ (x : SpanState). AreImagesOf c.args.matrix.now.rows x.lines c.in_ok-images.images.items)
    c.span.view_is (rw (c.as_slice.ensures.value, c.as_slice-2.ensures) at c.in_ok-images.ensures)) in
    let es : c.in_ok-start.start ≡ record { width = length c.args.matrix.now.rows; scale = pos 1; lines = [] }
    = c.in_ok-start.ensures.value ∙ ap (λ (n : ℕ). let s : SpanState = record
    { width = n; scale = pos 1; lines = [] } in s) c.len.ensures in
    let k : IsKept c.args.span.now.width c.args.span.now.scale c.args.span.now.lines = subst
    (λ (x : SpanState). IsKept x.width x.scale x.lines) c.span.view_is c.span.invariant in
    λ r h. c.in_ok-grown.ensures.range r (subst (λ (x : SpanState). LargeSums x.width (SpanMember x)
    (given_vectors c.as_slice-3.result.now) r) (sym es) (map_back c.args.span.now k c.args.matrix.now.rows
    c.requires.fits c.as_slice-3.result.now im r h))
