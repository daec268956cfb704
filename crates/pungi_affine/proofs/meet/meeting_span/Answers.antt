use Rattle.std.proofs.Common.{◌≡◌, ℕ, ℤ, List, subst, sym}
use Rattle.std.proofs.lemmas.Int.{to_z-of_z}
use mir.Syntax.{w64}
use Rattle.pungi_domain.specs.Vectors.{Meeting}
use Rattle.pungi_domain.specs.Spans.{LargeRow, LargeMeet, Never}
use Rattle.pungi_affine.specs.Spans.{InSpan, SameMembers}
use Rattle.pungi_affine.specs.Forms.{lines, vectors}
use Rattle.pungi_affine.specs.Parts.{wide_lines}
use Rattle.pungi_affine.specs.States.{SpanState, SpanMember, IsKept}
use Rattle.pungi_affine.proofs.Products.{box_fits}
use Rattle.pungi_affine.proofs.Members.{same_chain, same_swap, large_row_same}
use Rattle.pungi_affine.proofs.LargeRows.{kept_not_large}
use Rattle.pungi_affine.proofs.Ranges.{range_same, if_ok_to}
use Rattle.pungi_affine.proofs.Meets.{none_met, some_met}
use Rattle.pungi_affine.proofs.meet.meeting_span.Goals as goal

pub returns-in_default-clause-members : goal.returns-in_default-clause-members
returns-in_default-clause-members c =
    let s : SpanState = record {
      width = c.span.inside.width;
      scale = c.span.inside.scale;
      lines = lines
          c.span.inside.rows.items;
    } in
    let e : List ℤ = c.args.equation.now.coefficients in
    let sums = rw (c.as_slice-rows.ensures.value, c.as_slice.ensures) at c.in_ok-sums.ensures in
    let none = rw c.as_slice-2.ensures.value at c.in_default.ensures in
    let len = (rw (← c.span.view_is) at c.requires).width in
    let all = subst (λ (x : SpanState). SameMembers (Meeting e (SpanMember x)) (SpanMember x)) c.span.view_is
    (none_met s e len c.in_ok-sums.sums.items sums none) in
    if_ok_to c.copy.result (λ x. x ≡ c.args.span.now) (λ x. SameMembers (Meeting e (SpanMember c.args.span.now))
    (SpanMember x)) (λ x same. subst (λ (y : SpanState). SameMembers (Meeting e (SpanMember c.args.span.now))
    (SpanMember y)) (sym same) all) c.copy.ensures.same

pub returns-in_default-clause-range : goal.returns-in_default-clause-range
returns-in_default-clause-range c =
    let s : SpanState = record {
      width = c.span.inside.width;
      scale = c.span.inside.scale;
      lines = lines
          c.span.inside.rows.items;
    } in
    let e : List ℤ = c.args.equation.now.coefficients in
    let sums = rw (c.as_slice-rows.ensures.value, c.as_slice.ensures) at c.in_ok-sums.ensures in
    let none = rw c.as_slice-2.ensures.value at c.in_default.ensures in
    let len = (rw (← c.span.view_is) at c.requires).width in
    let all = subst (λ (x : SpanState). SameMembers (Meeting e (SpanMember x)) (SpanMember x)) c.span.view_is
    (none_met s e len c.in_ok-sums.sums.items sums none) in
    let k : IsKept c.args.span.now.width c.args.span.now.scale c.args.span.now.lines = subst
    (λ (x : SpanState). IsKept x.width x.scale x.lines) c.span.view_is c.span.invariant in
    range_same SpanState Never (LargeMeet c.args.span.now.width e (SpanMember c.args.span.now)) (λ r h. absurd h)
    (λ r h. kept_not_large c.args.span.now.width c.args.span.now.scale c.args.span.now.lines k r
    (large_row_same c.args.span.now.width (Meeting e (SpanMember c.args.span.now)) (SpanMember c.args.span.now)
    all r h)) c.copy.result c.copy.ensures.range

pub reduced_span-requires : goal.reduced_span-requires
reduced_span-requires c =
    let s : SpanState = record {
      width = c.span.inside.width;
      scale = c.span.inside.scale;
      lines = lines
          c.span.inside.rows.items;
    } in
    let e : List ℤ = c.args.equation.now.coefficients in
    let sums = rw (c.as_slice-rows.ensures.value, c.as_slice.ensures) at c.in_ok-sums.ensures in
    let last = rw c.as_slice-2.ensures.value at c.in-Some.ensures in
    let len = (rw (← c.span.view_is) at c.requires).width in
    let m = rw (
      to_z-of_z w64 c.span.inside.scale (box_fits c.span.inside.scale c.span.invariant.scale),
      c.as_slice-rows.ensures.value,
      c.as_slice-3.ensures.value,
    ) at c.in_ok-form.ensures in
    (some_met s c.span.invariant e len c.in_ok-sums.sums.items sums c.in-Some.p last c.turned_sums-sums.result.items
    c.turned_sums-sums.ensures c.in_ok-form.form.scale (wide_lines c.in_ok-form.form.rows.items) m).0

pub returns-clause-members : goal.returns-clause-members
returns-clause-members c =
    let s : SpanState = record {
      width = c.span.inside.width;
      scale = c.span.inside.scale;
      lines = lines
          c.span.inside.rows.items;
    } in
    let e : List ℤ = c.args.equation.now.coefficients in
    let sums = rw (c.as_slice-rows.ensures.value, c.as_slice.ensures) at c.in_ok-sums.ensures in
    let last = rw c.as_slice-2.ensures.value at c.in-Some.ensures in
    let len = (rw (← c.span.view_is) at c.requires).width in
    let m = rw (
      to_z-of_z w64 c.span.inside.scale (box_fits c.span.inside.scale c.span.invariant.scale),
      c.as_slice-rows.ensures.value,
      c.as_slice-3.ensures.value,
    ) at c.in_ok-form.ensures in
    let same = (some_met s c.span.invariant e len c.in_ok-sums.sums.items sums c.in-Some.p last
    c.turned_sums-sums.result.items c.turned_sums-sums.ensures c.in_ok-form.form.scale
    (wide_lines c.in_ok-form.form.rows.items) m).1 in
    let base = subst (λ (x : SpanState). SameMembers (Meeting e (SpanMember x))
    (InSpan c.span.inside.width (vectors (wide_lines c.in_ok-form.form.rows.items)))) c.span.view_is same in
    if_ok_to c.reduced_span.result (λ x. SameMembers (InSpan c.span.inside.width
    (vectors (wide_lines c.in_ok-form.form.rows.items))) (SpanMember x)) (λ x. SameMembers
    (Meeting e (SpanMember c.args.span.now)) (SpanMember x))
    (λ x h. same_chain (Meeting e (SpanMember c.args.span.now)) (InSpan c.span.inside.width
    (vectors (wide_lines c.in_ok-form.form.rows.items))) (SpanMember x) base h) c.reduced_span.ensures.members

pub returns-clause-range : goal.returns-clause-range
returns-clause-range c =
    let s : SpanState = record {
      width = c.span.inside.width;
      scale = c.span.inside.scale;
      lines = lines
          c.span.inside.rows.items;
    } in
    let e : List ℤ = c.args.equation.now.coefficients in
    let sums = rw (c.as_slice-rows.ensures.value, c.as_slice.ensures) at c.in_ok-sums.ensures in
    let last = rw c.as_slice-2.ensures.value at c.in-Some.ensures in
    let len = (rw (← c.span.view_is) at c.requires).width in
    let m = rw (
      to_z-of_z w64 c.span.inside.scale (box_fits c.span.inside.scale c.span.invariant.scale),
      c.as_slice-rows.ensures.value,
      c.as_slice-3.ensures.value,
    ) at c.in_ok-form.ensures in
    let same = (some_met s c.span.invariant e len c.in_ok-sums.sums.items sums c.in-Some.p last
    c.turned_sums-sums.result.items c.turned_sums-sums.ensures c.in_ok-form.form.scale
    (wide_lines c.in_ok-form.form.rows.items) m).1 in
    let w : ℕ = c.span.inside.width in
    rw (← c.span.view_is) (range_same SpanState (LargeRow w (InSpan w (vectors
    (wide_lines c.in_ok-form.form.rows.items)))) (LargeRow w (Meeting e (SpanMember s)))
    (large_row_same w (InSpan w (vectors (wide_lines c.in_ok-form.form.rows.items))) (Meeting e (SpanMember s))
    (same_swap (Meeting e (SpanMember s)) (InSpan w (vectors (wide_lines c.in_ok-form.form.rows.items))) same))
    (large_row_same w (Meeting e (SpanMember s)) (InSpan w (vectors (wide_lines c.in_ok-form.form.rows.items)))
    same) c.reduced_span.result c.reduced_span.ensures.range)
