use Rattle.std.proofs.Common.{◌∙◌, ℕ, ◌∷◌, arith}
use Rattle.std.proofs.lemmas.Int.{to_z-of_z}
use Rattle.std.proofs.lemmas.Result.{err_from_is_err_and}
use mir.Syntax.{w64}
use Rattle.pungi_domain.specs.Vectors.{at}
use Rattle.pungi_domain.specs.Spans.{Plus, LargeRow}
use Rattle.pungi_affine.specs.Spans.{InSpan}
use Rattle.pungi_affine.specs.Forms.{lines, vectors}
use Rattle.pungi_affine.specs.Parts.{wide_line, wide_lines}
use Rattle.pungi_affine.specs.States.{SpanMember}
use Rattle.pungi_affine.proofs.Products.{box_fits}
use Rattle.pungi_affine.proofs.Members.{same_swap, same_chain, plus_span, large_row_same}
use Rattle.pungi_affine.proofs.LargeRows.{kept_not_large}
use Rattle.pungi_affine.proofs.Extends.{extension}
use Rattle.pungi_affine.proofs.Joins.{joined_kept, joined_adds, joined_not_large, some_joined}
use Rattle.pungi_affine.proofs.Ranges.{range_fault}
use Rattle.pungi_affine.proofs.AddLemmas.{left_member, left_no_member, nothing_left, multiple_member, member_plus, part_wide}
use Rattle.pungi_affine.proofs.add.small_change.Goals as goal

pub returns-then-is_multiple_of_row-clause-change : goal.returns-then-is_multiple_of_row-clause-change
returns-then-is_multiple_of_row-clause-change c =
    let zeros = rw (
      to_z-of_z w64 c.span.inside.scale (box_fits c.span.inside.scale c.span.invariant.scale),
      c.as_slice-rows.ensures.value,
    ) at (c.is_multiple_of_row.ensures c.if-is_multiple_of_row.true) in
    let len = rw (← c.span.view_is) at c.requires.width in
    rw (← c.span.view_is) (multiple_member c.span.inside.width c.span.inside.scale (lines c.span.inside.rows.items)
    c.args.v.now c.span.invariant len zeros)

pub returns-then-is_multiple_of_row-clause-range : goal.returns-then-is_multiple_of_row-clause-range
returns-then-is_multiple_of_row-clause-range c =
    let zeros = rw (
      to_z-of_z w64 c.span.inside.scale (box_fits c.span.inside.scale c.span.invariant.scale),
      c.as_slice-rows.ensures.value,
    ) at (c.is_multiple_of_row.ensures c.if-is_multiple_of_row.true) in
    let len = rw (← c.span.view_is) at c.requires.width in
    let w : ℕ = c.span.inside.width in
    let m = multiple_member w c.span.inside.scale (lines c.span.inside.rows.items) c.args.v.now c.span.invariant len
    zeros in
    rw (← c.span.view_is) (λ r h. kept_not_large w c.span.inside.scale (lines c.span.inside.rows.items)
    c.span.invariant r
    (large_row_same w (Plus w (InSpan w (vectors (lines c.span.inside.rows.items))) (at c.args.v.now))
    (InSpan w (vectors (lines c.span.inside.rows.items))) (member_plus w (vectors
    (lines c.span.inside.rows.items)) (at c.args.v.now) m) r h))

pub returns-then-leaves_nothing-clause-change : goal.returns-then-leaves_nothing-clause-change
returns-then-leaves_nothing-clause-change c =
    let zeros = rw (
      to_z-of_z w64 c.span.inside.scale (box_fits c.span.inside.scale c.span.invariant.scale),
      c.as_slice-rows.ensures.value,
    ) at (c.leaves_nothing.ensures c.if-leaves_nothing.true) in
    let len = rw (← c.span.view_is) at c.requires.width in
    rw (← c.span.view_is) (nothing_left c.span.inside.width c.span.inside.scale (lines c.span.inside.rows.items)
    c.args.v.now c.span.invariant len zeros)

pub returns-then-leaves_nothing-clause-range : goal.returns-then-leaves_nothing-clause-range
returns-then-leaves_nothing-clause-range c =
    let zeros = rw (
      to_z-of_z w64 c.span.inside.scale (box_fits c.span.inside.scale c.span.invariant.scale),
      c.as_slice-rows.ensures.value,
    ) at (c.leaves_nothing.ensures c.if-leaves_nothing.true) in
    let len = rw (← c.span.view_is) at c.requires.width in
    let w : ℕ = c.span.inside.width in
    let m = nothing_left w c.span.inside.scale (lines c.span.inside.rows.items) c.args.v.now c.span.invariant len
    zeros in
    rw (← c.span.view_is) (λ r h. kept_not_large w c.span.inside.scale (lines c.span.inside.rows.items)
    c.span.invariant r
    (large_row_same w (Plus w (InSpan w (vectors (lines c.span.inside.rows.items))) (at c.args.v.now))
    (InSpan w (vectors (lines c.span.inside.rows.items))) (member_plus w (vectors
    (lines c.span.inside.rows.items)) (at c.args.v.now) m) r h))

pub returns-in_default-clause-change : goal.returns-in_default-clause-change
returns-in_default-clause-change c =
    let all = rw (
      c.in_default.is,
      to_z-of_z w64 c.span.inside.scale (box_fits c.span.inside.scale c.span.invariant.scale),
      c.as_slice-rows.ensures.value,
    ) at c.in_ok-new.ensures in
    let left = all.1 in
    let len = rw (← c.span.view_is) at c.requires.width in
    let none = all.2 in
    rw (← c.span.view_is) (left_member c.span.inside.width c.span.inside.scale (lines c.span.inside.rows.items)
    c.args.v.now all.0 c.span.invariant len left none)

pub returns-in_default-clause-range : goal.returns-in_default-clause-range
returns-in_default-clause-range c =
    let all = rw (
      c.in_default.is,
      to_z-of_z w64 c.span.inside.scale (box_fits c.span.inside.scale c.span.invariant.scale),
      c.as_slice-rows.ensures.value,
    ) at c.in_ok-new.ensures in
    let left = all.1 in
    let len = rw (← c.span.view_is) at c.requires.width in
    let none = all.2 in
    let w : ℕ = c.span.inside.width in
    let m = left_member w c.span.inside.scale (lines c.span.inside.rows.items) c.args.v.now all.0
    c.span.invariant len left none in
    rw (← c.span.view_is) (λ r h. kept_not_large w c.span.inside.scale (lines c.span.inside.rows.items)
    c.span.invariant r
    (large_row_same w (Plus w (InSpan w (vectors (lines c.span.inside.rows.items))) (at c.args.v.now))
    (InSpan w (vectors (lines c.span.inside.rows.items))) (member_plus w (vectors
    (lines c.span.inside.rows.items)) (at c.args.v.now) m) r h))

pub plain_row-requires-clause-wide : goal.plain_row-requires-clause-wide
plain_row-requires-clause-wide c =
    let all = rw (
      c.in-Some.is,
      to_z-of_z w64 c.span.inside.scale (box_fits c.span.inside.scale c.span.invariant.scale),
      c.as_slice-rows.ensures.value,
    ) at c.in_ok-new.ensures in
    let left = all.1 in
    let part = all.2 in
    part_wide c.span.inside.scale (lines c.span.inside.rows.items) c.args.v.now all.0
    c.in-Some.new.pivot c.in-Some.new.entries.items left part

pub returns-in-Some-2-clause-change : goal.returns-in-Some-2-clause-change
returns-in-Some-2-clause-change c =
    let all = rw (
      c.in-Some.is,
      to_z-of_z w64 c.span.inside.scale (box_fits c.span.inside.scale c.span.invariant.scale),
      c.as_slice-rows.ensures.value,
    ) at c.in_ok-new.ensures in
    let left = all.1 in
    let part = all.2 in
    let plain = rw (
      c.in-Some-2.is,
      to_z-of_z w64 c.span.inside.scale (box_fits c.span.inside.scale c.span.invariant.scale),
      c.as_slice-rows.ensures.value,
    ) at c.in_ok-row.ensures in
    let len = rw (← c.span.view_is) at c.requires.width in
    let w : ℕ = c.span.inside.width in
    let ls = lines c.span.inside.rows.items in
    rw (← c.span.view_is) (record {
      plain = record {
        small = plain.small;
        kept = joined_kept w c.span.inside.scale ls c.span.invariant c.args.v.now all.0 len left
            (wide_line c.in-Some.new) (wide_line c.in-Some-2.row) part plain;
      };
      adds = joined_adds w c.span.inside.scale ls c.span.invariant c.args.v.now all.0 len left
          (wide_line c.in-Some.new) (wide_line c.in-Some-2.row) part plain;
    })

pub returns-in-Some-2-clause-range : goal.returns-in-Some-2-clause-range
returns-in-Some-2-clause-range c =
    let all = rw (
      c.in-Some.is,
      to_z-of_z w64 c.span.inside.scale (box_fits c.span.inside.scale c.span.invariant.scale),
      c.as_slice-rows.ensures.value,
    ) at c.in_ok-new.ensures in
    let left = all.1 in
    let part = all.2 in
    let plain = rw (
      c.in-Some-2.is,
      to_z-of_z w64 c.span.inside.scale (box_fits c.span.inside.scale c.span.invariant.scale),
      c.as_slice-rows.ensures.value,
    ) at c.in_ok-row.ensures in
    let len = rw (← c.span.view_is) at c.requires.width in
    let w : ℕ = c.span.inside.width in
    let ls = lines c.span.inside.rows.items in
    let j = some_joined ls (wide_line c.in-Some-2.row) in
    rw (← c.span.view_is) (joined_not_large w c.span.inside.scale ls c.span.invariant c.args.v.now
    all.0 len left (wide_line c.in-Some.new) (wide_line c.in-Some-2.row) part plain j.0 j.1)

pub extended_form-requires-clause-new : goal.extended_form-requires-clause-new
extended_form-requires-clause-new c =
    let all = rw (
      c.in-Some.is,
      to_z-of_z w64 c.span.inside.scale (box_fits c.span.inside.scale c.span.invariant.scale),
      c.as_slice-rows.ensures.value,
    ) at c.in_ok-new.ensures in
    let left = all.1 in
    let part = all.2 in
    part_wide c.span.inside.scale (lines c.span.inside.rows.items) c.args.v.now all.0
    c.in-Some.new.pivot c.in-Some.new.entries.items left part

pub reduced_span-requires : goal.reduced_span-requires
reduced_span-requires c =
    let all = rw (
      c.in-Some.is,
      to_z-of_z w64 c.span.inside.scale (box_fits c.span.inside.scale c.span.invariant.scale),
      c.as_slice-rows.ensures.value,
    ) at c.in_ok-new.ensures in
    let left = all.1 in
    let part = all.2 in
    let x = rw (
      to_z-of_z w64 c.span.inside.scale (box_fits c.span.inside.scale c.span.invariant.scale),
      c.as_slice-rows.ensures.value,
    ) at c.in_ok-form.ensures in
    let len = rw (← c.span.view_is) at c.requires.width in
    (extension c.span.inside.width c.span.inside.scale (lines c.span.inside.rows.items) c.args.v.now
    all.0 (wide_line c.in-Some.new) c.in_ok-form.form.scale
    (wide_lines c.in_ok-form.form.rows.items) c.span.invariant len left part x).wide

pub returns-in_err-grown-clause-range : goal.returns-in_err-grown-clause-range
returns-in_err-grown-clause-range c =
    let all = rw (
      c.in-Some.is,
      to_z-of_z w64 c.span.inside.scale (box_fits c.span.inside.scale c.span.invariant.scale),
      c.as_slice-rows.ensures.value,
    ) at c.in_ok-new.ensures in
    let left = all.1 in
    let part = all.2 in
    let x = rw (
      to_z-of_z w64 c.span.inside.scale (box_fits c.span.inside.scale c.span.invariant.scale),
      c.as_slice-rows.ensures.value,
    ) at c.in_ok-form.ensures in
    let len = rw (← c.span.view_is) at c.requires.width in
    let w : ℕ = c.span.inside.width in
    let e = extension w c.span.inside.scale (lines c.span.inside.rows.items) c.args.v.now all.0
    (wide_line c.in-Some.new) c.in_ok-form.form.scale (wide_lines c.in_ok-form.form.rows.items) c.span.invariant
    len left part x in
    let p = err_from_is_err_and c.from_residual-in_err-grown.result c.from_residual-in_err-grown.ensures.1 in
    rw (← c.span.view_is) (rw (p.1, p.2) (range_fault ℕ ℕ (LargeRow w (InSpan w
    (vectors (wide_lines c.in_ok-form.form.rows.items)))) (LargeRow w (Plus w
    (InSpan w (vectors (lines c.span.inside.rows.items))) (at c.args.v.now)))
    (large_row_same w (InSpan w (vectors (wide_lines c.in_ok-form.form.rows.items)))
    (Plus w (InSpan w (vectors (lines c.span.inside.rows.items))) (at c.args.v.now))
    (same_swap (Plus w (InSpan w (vectors (lines c.span.inside.rows.items))) (at c.args.v.now))
    (InSpan w (vectors (wide_lines c.in_ok-form.form.rows.items)))
    (same_chain (Plus w (InSpan w (vectors (lines c.span.inside.rows.items))) (at c.args.v.now))
    (InSpan w (c.args.v.now ∷ vectors (lines c.span.inside.rows.items))) (InSpan w
    (vectors (wide_lines c.in_ok-form.form.rows.items))) (plus_span w (vectors (lines c.span.inside.rows.items))
    c.args.v.now) e.members)))
    c.in_err-grown.field-0.0 c.in_err-grown.ensures.range))

pub returns-clause-change : goal.returns-clause-change
returns-clause-change c =
    let all = rw (
      c.in-Some.is,
      to_z-of_z w64 c.span.inside.scale (box_fits c.span.inside.scale c.span.invariant.scale),
      c.as_slice-rows.ensures.value,
    ) at c.in_ok-new.ensures in
    let left = all.1 in
    let part = all.2 in
    let x = rw (
      to_z-of_z w64 c.span.inside.scale (box_fits c.span.inside.scale c.span.invariant.scale),
      c.as_slice-rows.ensures.value,
    ) at c.in_ok-form.ensures in
    let len = rw (← c.span.view_is) at c.requires.width in
    let w : ℕ = c.span.inside.width in
    let e = extension w c.span.inside.scale (lines c.span.inside.rows.items) c.args.v.now all.0
    (wide_line c.in-Some.new) c.in_ok-form.form.scale (wide_lines c.in_ok-form.form.rows.items) c.span.invariant
    len left part x in
    rw (← c.span.view_is) (record {
      width = c.in_ok-grown.ensures.width;
      more = c.in_ok-grown.ensures.count ∙ e.count;
      few = (let f = e.wide.few in let a = c.in_ok-grown.ensures.count in let b = c.in_ok-grown.ensures.width in
          omega (arith, f, a, b));
      members = same_chain (Plus w (InSpan w (vectors (lines c.span.inside.rows.items))) (at c.args.v.now))
          (InSpan w (vectors (wide_lines c.in_ok-form.form.rows.items))) (SpanMember c.in_ok-grown.grown)
          (same_chain (Plus w (InSpan w (vectors (lines c.span.inside.rows.items))) (at c.args.v.now))
          (InSpan w (c.args.v.now ∷ vectors (lines c.span.inside.rows.items))) (InSpan w
          (vectors (wide_lines c.in_ok-form.form.rows.items))) (plus_span w (vectors
          (lines c.span.inside.rows.items)) c.args.v.now) e.members)
          c.in_ok-grown.ensures.members;
      new = left_no_member w c.span.inside.scale (lines c.span.inside.rows.items) c.args.v.now
          all.0 c.in-Some.new.pivot c.in-Some.new.entries.items c.span.invariant len left part;
    })

pub returns-clause-range : goal.returns-clause-range
returns-clause-range c =
    let all = rw (
      c.in-Some.is,
      to_z-of_z w64 c.span.inside.scale (box_fits c.span.inside.scale c.span.invariant.scale),
      c.as_slice-rows.ensures.value,
    ) at c.in_ok-new.ensures in
    let left = all.1 in
    let part = all.2 in
    let x = rw (
      to_z-of_z w64 c.span.inside.scale (box_fits c.span.inside.scale c.span.invariant.scale),
      c.as_slice-rows.ensures.value,
    ) at c.in_ok-form.ensures in
    let len = rw (← c.span.view_is) at c.requires.width in
    let w : ℕ = c.span.inside.width in
    let e = extension w c.span.inside.scale (lines c.span.inside.rows.items) c.args.v.now all.0
    (wide_line c.in-Some.new) c.in_ok-form.form.scale (wide_lines c.in_ok-form.form.rows.items) c.span.invariant
    len left part x in
    rw (← c.span.view_is) (λ r h. c.in_ok-grown.ensures.range r
    (large_row_same w (Plus w (InSpan w (vectors (lines c.span.inside.rows.items))) (at c.args.v.now))
    (InSpan w (vectors (wide_lines c.in_ok-form.form.rows.items)))
    (same_chain (Plus w (InSpan w (vectors (lines c.span.inside.rows.items))) (at c.args.v.now))
    (InSpan w (c.args.v.now ∷ vectors (lines c.span.inside.rows.items))) (InSpan w
    (vectors (wide_lines c.in_ok-form.form.rows.items))) (plus_span w (vectors (lines c.span.inside.rows.items))
    c.args.v.now) e.members) r h))
