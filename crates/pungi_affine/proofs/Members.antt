-- What is said of a span depends on its members alone.
use Rattle.std.proofs.Common.{◌≡◌, ◌∙◌, ℕ, zero, suc, ◌<◌, inl, inr, ℤ, pos, ◌+ℤ◌, ◌*ℤ◌, List, [], ◌∷◌, length, refl}
use Rattle.std.proofs.Common.{sym, ap, arith, slice_index_or}
use Rattle.std.specs.List.{All}
use Rattle.std.proofs.lemmas.Int.{ints}
use Rattle.pungi_domain.specs.Vectors.{Vector, Vectors, at}
use Rattle.pungi_domain.specs.Spans.{Zero, Plus, IsPivot, IsScaledRow, IsScale, IsLeastScale, IsLarge, LargeRow}
use Rattle.pungi_domain.specs.Spans.{LargeSum, LargeSums}
use Rattle.pungi_domain.specs.Ring.{mul_comm, mul_zero, product_zero}
use Rattle.pungi_affine.specs.Spans.{SameMembers, InSpan, comb}
use Rattle.pungi_affine.proofs.Closure.{in_same, in_sum, in_part, in_first, in_later, in_at, in_trans, in_multiples}
use Rattle.pungi_affine.proofs.Closure.{in_zero}

pub same_self : (S : Vectors) → SameMembers S S
same_self S = record { to = λ x h. h; back = λ x h. h }

pub same_swap : (S T : Vectors) → SameMembers S T → SameMembers T S
same_swap S T s = record { to = s.back; back = s.to }

pub same_chain : (S T U : Vectors) → SameMembers S T → SameMembers T U → SameMembers S U
same_chain S T U s t = record { to = λ x h. t.to x (s.to x h); back = λ x h. s.back x (t.back x h) }

module _ (w : ℕ) (S T : Vectors) (s : SameMembers S T) where
  pub pivot_same : (q : ℕ) → IsPivot w S q → IsPivot w T q
  pivot_same q p = record {
    within = p.within;
    vector = p.vector;
    member = s.to p.vector p.member;
    entry = p.entry;
    before = p.before;
  }

  pub pivot_back : (q : ℕ) → IsPivot w T q → IsPivot w S q
  pivot_back q p = record {
    within = p.within;
    vector = p.vector;
    member = s.back p.vector p.member;
    entry
        = p.entry;
    before = p.before;
  }

  pub row_same : (d : ℤ) (q : ℕ) (r : Vector) → IsScaledRow w S d q r → IsScaledRow w T d q r
  row_same d q r h = record {
    member = s.to r h.member;
    own = h.own;
    others = λ p piv ne. h.others p
        (pivot_back p piv) ne;
  }

  pub scale_same : (d : ℤ) → IsScale w S d → IsScale w T d
  scale_same d h = record {
    positive = h.positive;
    rows = λ q piv. let f = h.rows q (pivot_back q piv) in
        (f.0, row_same d q f.0 f.1);
  }

  -- a sum of S and a vector, as that of T and a vector that is the same up to the width
  pub plus_to : (u v : Vector) → ((i : ℕ) → i < w → u i ≡ v i) → (x : Vector) → Plus w S u x → Plus w T v x
  plus_to u v e x h = record {
    times = h.times;
    not_zero = h.not_zero;
    part = h.part;
    part_in = s.to h.part h.part_in;
    factor = h.factor;
    exact = λ i lt. h.exact i lt ∙ ap (λ z. h.part i +ℤ (h.factor *ℤ z)) (e i lt);
  }

pub least_same : (w : ℕ) (S T : Vectors) → SameMembers S T → (d : ℤ) → IsLeastScale w S d → IsLeastScale w T d
least_same w S T s d h =
    record {
      scale = scale_same w S T s d h.scale;
      least = λ e k. h.least e (scale_same w T S (same_swap S T s) e k);
    }

pub large_same : (w : ℕ) (S T : Vectors) → SameMembers S T → IsLarge w S → IsLarge w T
large_same w S T s h = record {
  d = h.d;
  least = least_same w S T s h.d h.least;
  q = h.q;
  pivot = pivot_same w S T s h.q h.pivot;
  r = h.r;
  row = row_same w S T s h.d h.q h.r h.row;
  i = h.i;
  within = h.within;
  large = h.large;
}

pub large_row_same : (w : ℕ) (S T : Vectors) → SameMembers S T → (r : List ℤ) → LargeRow w S r → LargeRow w T r
large_row_same w S T s r h = record {
  large = large_same w S T s h.large;
  width = h.width;
  primitive = h.primitive;
  d = h.d;
  least = least_same w S T s h.d h.least;
  q = h.q;
  pivot = pivot_same w S T s h.q h.pivot;
  divisor = h.divisor;
  positive = h.positive;
  row = row_same w S T s h.d h.q (λ i. h.divisor *ℤ at r i) h.row;
}

pub plus_same : (w : ℕ) (S T : Vectors) → SameMembers S T → (u v : Vector) → ((i : ℕ) → i < w → u i ≡ v i)
    → SameMembers (Plus w S u) (Plus w T v)
plus_same w S T s u v e =
    record { to = plus_to w S T s u v e; back = plus_to w T S (same_swap S T s) v u (λ i lt. sym (e i lt)) }

pub large_sum_same : (w : ℕ) (S T : Vectors) → SameMembers S T → (u v : Vector) → ((i : ℕ) → i < w → u i ≡ v i)
    → (r : List ℤ) → LargeSum w S u r → LargeSum w T v r
large_sum_same w S T s u v e r (inl h) =
    inl (large_row_same w (Plus w (Zero w) u) (Plus w (Zero w) v) (plus_same w (Zero w) (Zero w)
    (same_self (Zero w)) u v e) r h)
large_sum_same w S T s u v e r (inr h) = inr (large_row_same w (Plus w S u) (Plus w T v) (plus_same w S T s u v e) r h)

-- the vectors of two lists are the same up to the width
abbrev pub SameVectors : ℕ → List Vector → List Vector → Type 0
SameVectors w [] [] = Unit {0}
SameVectors w [] (v ∷ vs) = ⊥
SameVectors w (u ∷ us) [] = ⊥
SameVectors w (u ∷ us) (v ∷ vs) = ((i : ℕ) → i < w → u i ≡ v i) × SameVectors w us vs

pub large_sums_same : (w : ℕ) (S T : Vectors) → SameMembers S T → (us vs : List Vector) → SameVectors w us vs
    → (r : List ℤ) → LargeSums w S us r → LargeSums w T vs r
large_sums_same w S T s [] vs e r h = absurd h
large_sums_same w S T s (u ∷ us) [] e r h = absurd e
large_sums_same w S T s (u ∷ us) (v ∷ vs) e r (inl h) = inl (large_sum_same w S T s u v e.0 r h)
large_sums_same w S T s (u ∷ us) (v ∷ vs) e r (inr h) =
    inr (large_sums_same w (Plus w S u) (Plus w T v) (plus_same w S T s u v e.0) us vs e.1 r h)

pub vectors_self : (w : ℕ) (us : List Vector) → SameVectors w us us
vectors_self w [] = tt
vectors_self w (u ∷ us) = ((λ i lt. refl), vectors_self w us)

-- the sums of a span and a vector are the span of its vectors and this one
pub plus_span : (w : ℕ) (vs : List (List ℤ)) (v : List ℤ)
    → SameMembers (Plus w (InSpan w vs) (at v)) (InSpan w (v ∷ vs))
plus_span w vs v = record {
  to = λ x h. in_part w (v ∷ vs) h.times x h.not_zero (in_same w (v ∷ vs)
      (λ i. (pos 1 *ℤ h.part i) +ℤ (h.factor *ℤ at v i)) (λ i. h.times *ℤ x i)
      (λ i lt. let e = h.exact i lt in omega (arith, ints, e))
      (in_sum w (v ∷ vs) (pos 1) h.factor h.part (at v) (in_later w v vs h.part h.part_in) (in_first w v vs)));
  back = λ x h. go x h.times h.not_zero h.factors h.exact;
}
  where
    go : (x : Vector) (t : ℤ) → (t ≡ pos 0 → ⊥) → (cs : List ℤ) → ((i : ℕ) → i < w → t *ℤ x i ≡ comb cs (v ∷ vs) i)
        → Plus w (InSpan w vs) (at v) x
    go x t ne [] e = record {
      times = t;
      not_zero = ne;
      part = λ i. pos 0;
      part_in = in_zero w vs (λ i. pos 0) (λ i lt. refl);
      factor = pos 0;
      exact = λ i lt. let z = mul_comm (pos 0) (at v i) ∙ mul_zero (at v i) in let f = e i lt in omega
          (arith, ints, z, f);
    }
    go x t ne (c ∷ cs) e = record {
      times = t;
      not_zero = ne;
      part = comb cs vs;
      part_in = in_multiples w vs cs;
      factor = c;
      exact = λ i lt. let f = e i lt in omega (arith, ints, f);
    }

-- the vectors that are 0 are the span of none
pub zero_span : (w : ℕ) → SameMembers (Zero w) (InSpan w [])
zero_span w = record {
  to = λ x h. in_zero w [] x h;
  back = λ x h i lt. let e : h.times *ℤ x i ≡ pos 0 = h.exact i lt ∙ none h.factors i in
      elim (product_zero h.times (x i) e) [ inl y ↦ absurd (h.not_zero y) | inr y ↦ y ];
}
  where
    none : (cs : List ℤ) (i : ℕ) → comb cs [] i ≡ pos 0
    none [] i = refl
    none (c ∷ cs) i = refl

-- a vector and its part span the same
pub part_same : (w : ℕ) (g : ℤ) (v p : List ℤ) (vs : List (List ℤ)) → (g ≡ pos 0 → ⊥)
    → ((i : ℕ) → i < w → at v i ≡ g *ℤ at p i) → SameMembers (InSpan w (v ∷ vs)) (InSpan w (p ∷ vs))
part_same w g v p vs ne h = record {
  to = λ x. in_trans w (p ∷ vs) (v ∷ vs) x all_v;
  back = λ x. in_trans w (v ∷ vs) (p ∷ vs) x all_p;
}
  where
    rest : (x : List ℤ) → All (λ y. InSpan w (x ∷ vs) (at y)) vs
    rest x k d lt = in_later w x vs (at (slice_index_or vs k d)) (in_at w vs k d lt)

    v_in : InSpan w (p ∷ vs) (at v)
    v_in = in_same w (p ∷ vs) (λ i. (g *ℤ at p i) +ℤ (pos 0 *ℤ at p i)) (at v)
        (λ i lt. let e = h i lt in let z = mul_comm (pos 0) (at p i) ∙ mul_zero (at p i) in omega (arith, ints, e, z))
        (in_sum w (p ∷ vs) g (pos 0) (at p) (at p) (in_first w p vs) (in_first w p vs))

    p_in : InSpan w (v ∷ vs) (at p)
    p_in = in_part w (v ∷ vs) g (at p) ne (in_same w (v ∷ vs) (at v) (λ i. g *ℤ at p i) (λ i lt. sym (h i lt))
        (in_first w v vs))

    all_v : (k : ℕ) (d : List ℤ) → k < length (v ∷ vs) → InSpan w (p ∷ vs) (at (slice_index_or (v ∷ vs) k d))
    all_v zero d lt = v_in
    all_v (suc k) d lt = rest p k d (omega (arith, lt))

    all_p : (k : ℕ) (d : List ℤ) → k < length (p ∷ vs) → InSpan w (v ∷ vs) (at (slice_index_or (p ∷ vs) k d))
    all_p zero d lt = p_in
    all_p (suc k) d lt = rest v k d (omega (arith, lt))
