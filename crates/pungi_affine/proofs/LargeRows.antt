-- Where a least form has an entry over 2^31 the span is large, and else its rows may be kept.
use Rattle.std.proofs.Common.{◌≡◌, ◌∙◌, ℕ, ◌<◌, inl, inr, ℤ, pos, ◌*ℤ◌, List, length, sym, subst, arith}
use Rattle.std.proofs.lemmas.Int.{ints}
use Rattle.std.proofs.lemmas.Bool.{cases_lt}
use Rattle.pungi_domain.specs.Vectors.{at}
use Rattle.pungi_domain.specs.Spans.{IsOutside, LargeRow}
use Rattle.pungi_domain.specs.Ring.{mul_comm}
use Rattle.pungi_affine.specs.Spans.{InSpan}
use Rattle.pungi_affine.specs.Forms.{Line, line, vectors, IsCoprime, IsBox, WithinBox}
use Rattle.pungi_affine.specs.Parts.{IsPart, IsLong}
use Rattle.pungi_affine.specs.WideForms.{IsWideForm, HasLargeAt}
use Rattle.pungi_affine.specs.States.{IsKept}
use Rattle.pungi_affine.proofs.Closure.{in_same}
use Rattle.pungi_affine.proofs.Reduced.{pivot_is, row_in, least_is, is_scaled_row, divides_le}
use Rattle.pungi_affine.proofs.Large.{has_large, large_has}
use Rattle.pungi_affine.proofs.Next.{factor_positive}

pub not_outside : (z : ℤ) → IsBox z → IsOutside z → ⊥
not_outside z b (inl h) = (let a = b.0 in absurd (omega (arith, ints, a, h)))
not_outside z b (inr h) = (let a = b.1 in absurd (omega (arith, ints, a, h)))

module _ (w : ℕ) (d : ℤ) (ls : List Line) (wide : IsWideForm w d ls) (co : IsCoprime w d ls) where
  pub large_row_of : (k : ℕ) → HasLargeAt ls k → (r : List ℤ) → IsPart (line ls k).entries (line ls k).pivot r
      → LargeRow w (InSpan w (vectors ls)) r
  large_row_of k h r p = record {
    large = has_large w d ls wide.form co (record {
      k = k;
      k_in = h.within;
      i = h.i;
      i_in
          = (let e = wide.widths k h.within in let l = h.i_in in omega (arith, e, l));
      outside = h.outside;
    });
    width = p.lengths ∙ wide.widths k h.within;
    primitive = λ m all. p.coprime m (pos 1) (λ i lt. let f = all i (let e = wide.widths k h.within in omega
        (arith, e, lt)) in record { by = f.by; is = (let x = f.is in omega (arith, ints, x)) });
    d = d;
    least = least_is w d ls wide.form co;
    q = q;
    pivot = pivot_is w d ls wide.form k h.within;
    divisor = p.times;
    positive = factor_positive (at r q) p.times p.positive (let e = exact q q_lt in let o = wide.form.own k h.within
        in let g = wide.form.positive in let c = mul_comm p.times (at r q) in omega (arith, ints, e, o, g, c));
    row = record {
      member = in_same w (vectors ls) (at (line ls k).entries) (λ i. p.times *ℤ at r i) (λ i lt. sym (exact i lt))
          (row_in w d ls wide.form k h.within);
      own = sym (exact q q_lt) ∙ wide.form.own k h.within;
      others = λ s piv ne. sym (exact s piv.within) ∙ (is_scaled_row w d ls wide.form k h.within).others s piv ne;
    };
  }
    where
      q : ℕ
      q = (line ls k).pivot

      q_lt : (line ls k).pivot < w
      q_lt = wide.form.within k h.within

      exact : (i : ℕ) → i < w → at (line ls k).entries i ≡ p.times *ℤ at r i
      exact i lt = p.exact i (let e = wide.widths k h.within in omega (arith, e, lt))

  pub no_large_row : ((k : ℕ) → k < length ls → WithinBox (line ls k).entries) → (r : List ℤ)
      → LargeRow w (InSpan w (vectors ls)) r → ⊥
  no_large_row small r h =
      let o = large_has w d ls wide.form co h.large in
      not_outside (at (line ls o.k).entries o.i) (small o.k o.k_in o.i (let e = wide.widths o.k o.k_in in let l
      = o.i_in in omega (arith, e, l))) o.outside

  pub kept_of : ((k : ℕ) → k < length ls → WithinBox (line ls k).entries) → IsKept w d ls
  kept_of small = record {
    narrow = wide.narrow;
    few = wide.few;
    form = wide.form;
    order = wide.order;
    coprime = co;
    scale = elim (cases_lt 0 (length ls)) [
      | inl lt ↦ subst (λ (z : ℤ). IsBox z) (wide.form.own 0 lt) (small 0 lt (line ls 0).pivot
          (let e = wide.widths 0 lt in let l = wide.form.within 0 lt in omega (arith, e, l)))
      | inr ge ↦ (
          let one = co d (pos 1) (record { by = pos 1; is = omega (arith, ints) })
          (λ k i lt. absurd (omega (arith, ge, lt))) in
          let le = divides_le d (pos 1) one.by wide.form.positive (omega (arith, ints)) one.is in
          let gt = wide.form.positive in
          (omega (arith, ints, le, gt), omega (arith, ints, le, gt)))
    ];
    widths = wide.widths;
    small = small;
  }

-- kept rows are such a form
pub kept_wide : (w : ℕ) (d : ℤ) (ls : List Line) → IsKept w d ls → IsWideForm w d ls
kept_wide w d ls k = record {
  narrow = k.narrow;
  few = k.few;
  form = k.form;
  order = k.order;
  scale = (let a = k.scale.0 in omega (arith, ints, a), let b = k.scale.1 in omega (arith, ints, b));
  widths = k.widths;
  long = λ j lt i i_lt. let h = k.small j lt i i_lt in (
    let a = h.0 in omega (arith, ints, a),
    let b = h.1 in omega
        (arith, ints, b),
  );
}

pub kept_not_large : (w : ℕ) (d : ℤ) (ls : List Line) → IsKept w d ls → (r : List ℤ)
    → LargeRow w (InSpan w (vectors ls)) r → ⊥
kept_not_large w d ls k r h = no_large_row w d ls (kept_wide w d ls k) k.coprime k.small r h

pub box_long : (z : ℤ) → IsBox z → IsLong z
box_long z h = ((let a = h.0 in omega (arith, ints, a)), (let b = h.1 in omega (arith, ints, b)))
