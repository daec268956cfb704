-- A vector without the common divisor of its entries.
use Rattle.std.proofs.Common.{◌≡◌, ◌∙◌, ℕ, ◌<◌, inl, inr, ℤ, pos, neg_ℤ, ◌*ℤ◌, ◌<ℤ◌, List, ◌++◌, length, take, sym}
use Rattle.std.proofs.Common.{subst, arith}
use Rattle.std.proofs.lemmas.Int.{ints}
use Rattle.std.proofs.Math.Seq.{take-append_seam}
use Rattle.pungi_domain.specs.Vectors.{at}
use Rattle.pungi_domain.specs.Ring.{product_zero}
use Rattle.pungi_affine.specs.Divisors.{IsDivisor}
use Rattle.pungi_affine.specs.Parts.{IsPart, IsPivotPart}
use Rattle.pungi_affine.proofs.Coprime.{quotients_coprime, divisor_out}
use Rattle.pungi_affine.proofs.Next.{factor_positive}
use Rattle.pungi_affine.proofs.Reduced.{neg_mul}

-- the quotients by the common divisor
pub quotients_part : (ys part : List ℤ) (g : ℤ) (q : ℕ) → pos 0 <ℤ g → IsDivisor ys g → length part ≡ length ys
    → q < length ys → pos 0 <ℤ at ys q
    → ((i : ℕ) → i < length part → g *ℤ at part i ≡ at ys i) → IsPart ys q part
quotients_part ys part g q gt div len q_lt entry is = record {
  lengths = len;
  times = g;
  not_zero = λ e. absurd (omega (arith, ints, gt, e));
  exact = λ i lt. sym (is i (omega (arith, len, lt)));
  positive = factor_positive g (at part q) gt (let e = is q (omega (arith, len, q_lt)) in omega
      (arith, ints, e, entry));
  coprime = λ m e all. divisor_out g m e gt (div.combines (m *ℤ g) e (λ i lt. quotients_coprime g gt m e (at ys i)
      (at part i) (sym (is i (omega (arith, len, lt)))) (all i lt)));
}

-- a part of the opposite is one
pub negated_part : (xs ys part : List ℤ) (q : ℕ) → length ys ≡ length xs
    → ((i : ℕ) → i < length ys → at ys i ≡ neg_ℤ (at xs i)) → IsPart ys q part → IsPart xs q part
negated_part xs ys part q len neg h = record {
  lengths = h.lengths ∙ len;
  times = neg_ℤ h.times;
  not_zero = λ e. h.not_zero (omega (arith, ints, e));
  exact = λ i lt.
      let l : i < length ys = omega (arith, len, lt) in
      let a = neg i l in
      let b = h.exact i l in
      let c = neg_mul h.times (at part i) in
      omega (arith, ints, a, b, c);
  positive = h.positive;
  coprime = λ m e all. h.coprime m e (λ i lt. all i (omega (arith, len, lt)));
}

pub pivot_part : (xs part : List ℤ) (q : ℕ) → q < length xs → ((i : ℕ) → i < q → at xs i ≡ pos 0) → IsPart xs q part
    → IsPivotPart xs q part
pivot_part xs part q lt zero h = record {
  within = lt;
  before = λ i i_lt.
      let l : i < length xs = omega (arith, lt, i_lt) in
      elim (product_zero h.times (at part i) (sym (h.exact i l) ∙ zero i i_lt))
      [ inl e ↦ absurd (h.not_zero e) | inr e ↦ e ];
  is = h;
}

-- entries of a list that was written through a slice
pub written : (ys zs : List ℤ) (n : ℕ) → length ys ≡ n → take n (ys ++ zs) ≡ ys
written ys zs n e = subst (λ (k : ℕ). take k (ys ++ zs) ≡ ys) e (take-append_seam ys zs)
