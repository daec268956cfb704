-- A span is closed under sums, multiples and parts, and a span of members is within it.
use Rattle.std.proofs.Common.{◌≡◌, ◌∙◌, ℕ, zero, suc, ◌<◌, ℤ, pos, ◌+ℤ◌, ◌*ℤ◌, List, [], ◌∷◌, length, refl, arith}
use Rattle.std.proofs.Common.{slice_index_or}
use Rattle.std.specs.List.{All}
use Rattle.std.proofs.lemmas.Int.{ints}
use Rattle.std.proofs.lemmas.List.Elements.{All-drop}
use Rattle.pungi_domain.specs.Vectors.{at}
use Rattle.pungi_affine.specs.Spans.{comb, InSpan}
use Rattle.pungi_domain.specs.Ring.{mul_comm, mul_assoc, mul_zero}
pub use Rattle.pungi_affine.specs.SpanLaws.{in_same, in_sum, in_zero, product_not_zero}

module _ (w : ℕ) (vs : List (List ℤ)) where
  -- v, where k v is in the span
  pub in_part : (k : ℤ) (v : ℕ → ℤ) → (k ≡ pos 0 → ⊥) → InSpan w vs (λ i. k *ℤ v i) → InSpan w vs v
  in_part k v ne h = record {
    times = h.times *ℤ k;
    not_zero = product_not_zero h.times k h.not_zero ne;
    factors = h.factors;
    exact = λ i lt. mul_assoc h.times k (v i) ∙ h.exact i lt;
  }

-- the first vector, and the vectors after it
pub in_first : (w : ℕ) (v : List ℤ) (vs : List (List ℤ)) → InSpan w (v ∷ vs) (at v)
in_first w v vs =
    record {
      times = pos 1;
      not_zero = λ e. absurd (omega (arith, ints, e));
      factors = pos 1
          ∷ [];
      exact = λ i lt. omega (arith, ints);
    }

pub in_later : (w : ℕ) (x : List ℤ) (vs : List (List ℤ)) (v : ℕ → ℤ) → InSpan w vs v → InSpan w (x ∷ vs) v
in_later w x vs v h =
    record {
      times = h.times;
      not_zero = h.not_zero;
      factors = pos 0
          ∷ h.factors;
      exact = λ i lt. let e = h.exact i lt in let z = mul_comm (pos 0) (at x i)
          ∙ mul_zero (at x i) in omega (arith, ints, e, z);
    }

pub in_at : (w : ℕ) (vs : List (List ℤ)) (k : ℕ) (d : List ℤ) → k < length vs → InSpan w vs (at (slice_index_or vs k d))
in_at w [] k d lt = absurd (omega arith)
in_at w (v ∷ vs) zero d lt = in_first w v vs
in_at w (v ∷ vs) (suc k) d lt = in_later w v vs (at (slice_index_or vs k d)) (in_at w vs k d (omega (arith, lt)))

-- a sum of multiples of members is a member
in_comb : (w : ℕ) (vs : List (List ℤ)) (cs : List ℤ) (us : List (List ℤ)) → All (λ u. InSpan w vs (at u)) us
    → InSpan w vs (comb cs us)
in_comb w vs [] us h = in_zero w vs (comb [] us) (λ i lt. refl)
in_comb w vs (c ∷ cs) [] h = in_zero w vs (comb (c ∷ cs) []) (λ i lt. refl)
in_comb w vs (c ∷ cs) (u ∷ us) h =
    in_same w vs (λ i. (c *ℤ at u i) +ℤ (pos 1 *ℤ comb cs us i)) (comb (c ∷ cs) (u ∷ us)) (λ i lt. omega (arith, ints))
    (in_sum w vs c (pos 1) (at u) (comb cs us) (h 0 [] (omega arith)) (in_comb w vs cs us
    (All-drop (λ x. InSpan w vs (at x)) 1 (u ∷ us) h)))

-- the span of members is within the span
pub in_trans : (w : ℕ) (vs us : List (List ℤ)) (v : ℕ → ℤ) → All (λ u. InSpan w vs (at u)) us → InSpan w us v
    → InSpan w vs v
in_trans w vs us v h p =
    in_part w vs p.times v p.not_zero (in_same w vs (comb p.factors us) (λ i. p.times *ℤ v i) p.exact
    (in_comb w vs p.factors us h))

-- sums of multiples of the vectors are in their span
pub in_multiples : (w : ℕ) (vs : List (List ℤ)) (cs : List ℤ) → InSpan w vs (comb cs vs)
in_multiples w vs cs =
    record {
      times = pos 1;
      not_zero = λ e. absurd (omega (arith, ints, e));
      factors = cs;
      exact = λ i lt. omega
          (arith, ints);
    }
