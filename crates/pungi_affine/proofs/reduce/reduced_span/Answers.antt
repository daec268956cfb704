use Rattle.std.proofs.Common.{◌<◌, ℕ, length, arith}
use Rattle.pungi_affine.specs.Spans.{InSpan}
use Rattle.pungi_affine.specs.Forms.{vectors}
use Rattle.pungi_affine.specs.Parts.{wide_line, wide_lines, IsPart}
use Rattle.pungi_affine.proofs.LineLemmas.{to_line, mapped_length}
use Rattle.pungi_affine.proofs.Members.{large_row_same, same_swap}
use Rattle.pungi_affine.proofs.LargeRows.{large_row_of, no_large_row, kept_of}
use Rattle.pungi_affine.proofs.reduce.reduced_span.Goals as goal

pub returns-in-Some-clause-range : goal.returns-in-Some-clause-range
returns-in-Some-clause-range c =
    let l = c.in_ok-least.ensures in
    let w : ℕ = c.args.width in
    let h = rw c.as_slice.ensures.value at c.in-Some.ensures in
    let lt : c.in-Some.k < length c.in_ok-least.least.rows.items = (let n = mapped_length wide_line
    c.in_ok-least.least.rows.items in let b = h.within in omega (arith, n, b)) in
    let p = to_line (λ x. IsPart x.entries x.pivot c.in_ok-part.part.items) c.in_ok-least.least.rows.items
    c.in-Some.k c.index.result.now lt c.index.ensures c.in_ok-part.ensures in
    rw c.new.ensures (large_row_same w (InSpan w (vectors (wide_lines c.in_ok-least.least.rows.items)))
    (InSpan w (vectors (wide_lines c.args.form.rows.items)))
    (same_swap (InSpan w (vectors (wide_lines c.args.form.rows.items)))
    (InSpan w (vectors (wide_lines c.in_ok-least.least.rows.items))) l.members) c.in_ok-part.part.items
    (large_row_of w c.in_ok-least.least.scale (wide_lines c.in_ok-least.least.rows.items) l.wide l.coprime
    c.in-Some.k h c.in_ok-part.part.items p))

pub kept_span-requires : goal.kept_span-requires
kept_span-requires c =
    let l = c.in_ok-least.ensures in
    let h = rw c.as_slice.ensures.value at c.in_default.ensures in
    kept_of c.args.width c.in_ok-least.least.scale (wide_lines c.in_ok-least.least.rows.items) l.wide l.coprime h

pub returns-clause-range : goal.returns-clause-range
returns-clause-range c =
    let l = c.in_ok-least.ensures in
    let w : ℕ = c.args.width in
    let h = rw c.as_slice.ensures.value at c.in_default.ensures in
    λ r x. no_large_row w c.in_ok-least.least.scale (wide_lines c.in_ok-least.least.rows.items) l.wide l.coprime h r
    (large_row_same w (InSpan w (vectors (wide_lines c.args.form.rows.items)))
    (InSpan w (vectors (wide_lines c.in_ok-least.least.rows.items))) l.members r x)
