use Rattle.std.proofs.Common.{◌≡◌, ◌^◌, ℕ, ℤ, List, inl, inr, lit<, arith, subst, sym}
use Rattle.pungi_domain.specs.Vectors.{at}
use Rattle.pungi_domain.specs.Spans.{Plus, LargeRow, LargeSum}
use Rattle.pungi_affine.specs.Forms.{vectors}
use Rattle.pungi_affine.specs.Parts.{AreLong}
use Rattle.pungi_affine.specs.States.{SpanState, SpanMember, IsKept}
use Rattle.pungi_affine.specs.Adds.{IsChange}
use Rattle.pungi_affine.specs.declared.add.Change.{Change}
use Rattle.pungi_affine.proofs.Closure.{in_zero}
use Rattle.pungi_affine.proofs.Members.{same_swap, large_row_same}
use Rattle.pungi_affine.proofs.Ranges.{range_same, if_ok_to}
use Rattle.pungi_affine.proofs.AddLemmas.{zero_not_large, alone_large, alone_small, part_within, long_of, change_part}
use Rattle.pungi_affine.proofs.AddLemmas.{plus_part}
use Rattle.pungi_affine.proofs.Small.{small_not_large}
use Rattle.pungi_affine.proofs.add.change_by.Goals as goal

pub part_of-requires-clause-narrow : goal.part_of-requires-clause-narrow
part_of-requires-clause-narrow c =
    let k : IsKept c.args.span.now.width c.args.span.now.scale c.args.span.now.lines = subst
    (λ (s : SpanState). IsKept s.width s.scale s.lines) c.span.view_is c.span.invariant in
    let n = k.narrow in
    let w = c.requires.width in
    omega (arith, n, w)

pub returns-in_default-clause-change : goal.returns-in_default-clause-change
returns-in_default-clause-change c =
    let none = rw c.in_default.is at c.in_ok-part.ensures in
    let w = c.requires.width in
    in_zero c.args.span.now.width (vectors c.args.span.now.lines) (at c.args.vector.now)
    (λ i lt. none i (omega (arith, w, lt)))

pub returns-in_default-clause-range : goal.returns-in_default-clause-range
returns-in_default-clause-range c =
    let k : IsKept c.args.span.now.width c.args.span.now.scale c.args.span.now.lines = subst
    (λ (s : SpanState). IsKept s.width s.scale s.lines) c.span.view_is c.span.invariant in
    let none = rw c.in_default.is at c.in_ok-part.ensures in
    let w = c.requires.width in
    zero_not_large c.args.span.now.width c.args.span.now.scale c.args.span.now.lines (at c.args.vector.now) k
    (λ i lt. none i (omega (arith, w, lt)))

pub returns-then-has_large-clause-range : goal.returns-then-has_large-clause-range
returns-then-has_large-clause-range c =
    let k : IsKept c.args.span.now.width c.args.span.now.scale c.args.span.now.lines = subst
    (λ (s : SpanState). IsKept s.width s.scale s.lines) c.span.view_is c.span.invariant in
    let part = rw c.in-Some.is at c.in_ok-part.ensures in
    let o = rw c.as_slice.ensures.value at (c.has_large-2.ensures.yes c.if-has_large.true) in
    let long : AreLong c.in-Some.part.entries.items = λ i lt. long_of (2 ^ 126) (at c.in-Some.part.entries.items i)
    (lit< tt) (part_within (2 ^ 126) c.args.vector.now c.in-Some.part.pivot c.in-Some.part.entries.items part
    c.requires.within i lt) in
    rw c.new.ensures (inl (alone_large c.args.span.now.width c.args.vector.now c.requires.width c.in-Some.part.pivot
    c.in-Some.part.entries.items part k.narrow long o))

pub returns-clause-change : goal.returns-clause-change
returns-clause-change c =
    let part = rw c.in-Some.is at c.in_ok-part.ensures in
    let e : c.as_slice-2.result.now ≡ c.in-Some.part.entries.items = c.as_slice-2.ensures.value in
    if_ok_to c.small_change-2.result (λ o. IsChange c.args.span.now (at c.as_slice-2.result.now) o)
    (λ o. IsChange c.args.span.now (at c.args.vector.now) o)
    (λ o h. change_part c.args.span.now c.args.vector.now c.in-Some.part.entries.items c.in-Some.part.pivot
    c.requires.width part o (subst (λ (p : List ℤ). IsChange c.args.span.now (at p) o) e h))
    c.small_change-2.ensures.change

pub returns-clause-range : goal.returns-clause-range
returns-clause-range c =
    let k : IsKept c.args.span.now.width c.args.span.now.scale c.args.span.now.lines = subst
    (λ (s : SpanState). IsKept s.width s.scale s.lines) c.span.view_is c.span.invariant in
    let part = rw c.in-Some.is at c.in_ok-part.ensures in
    let e : c.as_slice-2.result.now ≡ c.in-Some.part.entries.items = c.as_slice-2.ensures.value in
    let w : ℕ = c.args.span.now.width in
    let same = plus_part c.args.span.now c.args.vector.now c.in-Some.part.entries.items c.in-Some.part.pivot
    c.requires.width part in
    let small = rw c.as_slice.ensures.value at (c.has_large-2.ensures.no c.if-has_large.false) in
    let long : AreLong c.in-Some.part.entries.items = λ i lt. long_of (2 ^ 126) (at c.in-Some.part.entries.items i)
    (lit< tt) (part_within (2 ^ 126) c.args.vector.now c.in-Some.part.pivot c.in-Some.part.entries.items part
    c.requires.within i lt) in
    range_same (Change) (LargeRow w (Plus w (SpanMember c.args.span.now) (at c.as_slice-2.result.now)))
    (LargeSum w (SpanMember c.args.span.now) (at c.args.vector.now))
    (λ r h. inr (large_row_same w (Plus w (SpanMember c.args.span.now) (at c.in-Some.part.entries.items))
    (Plus w (SpanMember c.args.span.now) (at c.args.vector.now)) same r (subst
    (λ (p : List ℤ). LargeRow w (Plus w (SpanMember c.args.span.now) (at p)) r) e h)))
    (λ r h. elim h [
      | inl a ↦ absurd (alone_small w c.args.vector.now c.requires.width c.in-Some.part.pivot
          c.in-Some.part.entries.items part k.narrow long small r a)
      | inr b ↦ subst (λ (p : List ℤ). LargeRow w (Plus w (SpanMember c.args.span.now) (at p)) r) (sym e)
          (large_row_same w (Plus w (SpanMember c.args.span.now) (at c.args.vector.now))
          (Plus w (SpanMember c.args.span.now) (at c.in-Some.part.entries.items))
          (same_swap (Plus w (SpanMember c.args.span.now) (at c.in-Some.part.entries.items))
          (Plus w (SpanMember c.args.span.now) (at c.args.vector.now)) same) r b)
    ]) c.small_change-2.result c.small_change-2.ensures.range

pub returns-then-not-has_large-clause-range : goal.returns-then-not-has_large-clause-range
returns-then-not-has_large-clause-range c =
    let w : ℕ = c.args.span.now.width in
    let box = c.has_large.ensures.no c.if-not-has_large.true in
    range_same (Change) (LargeRow w (Plus w (SpanMember c.args.span.now) (at c.args.vector.now)))
    (LargeSum w (SpanMember c.args.span.now) (at c.args.vector.now)) (λ r h. inr h)
    (λ r h. elim h [
      | inl a ↦ absurd (small_not_large w c.args.vector.now c.requires.width box r a)
      | inr b ↦ b
    ]) c.small_change.result c.small_change.ensures.range
