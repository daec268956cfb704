-- The laws that the members of a span keep, as facts on spans and as those of the domain.
--   mix a cs b ds       a times the factors cs and b times the factors ds, place by place
--   comb_none, comb_mix sums of multiples of no vectors, and with mixed factors
--   product_not_zero    a product of numbers other than 0 is not 0
--   in_same, span_same  only the coordinates below the width count
--   in_zero, span_zero  the vector 0 is a member
--   in_sum, span_sum    members are closed under sums and whole multiples
use Rattle.std.proofs.Common.{◌≡◌, ◌∙◌, ℕ, ◌<◌, inl, inr, ℤ, pos, ◌+ℤ◌, ◌*ℤ◌, List, [], ◌∷◌, refl, sym, ap, arith}
use Rattle.std.proofs.lemmas.Int.{ints}
use Rattle.pungi_domain.specs.Vectors.{Vector, at}
use Rattle.pungi_domain.specs.Ring.{mul_comm, mul_assoc, add_mul, mul_add, mul_swap, mul_zero, product_zero}
use Rattle.pungi_affine.specs.Spans.{comb, InSpan}
use Rattle.pungi_affine.specs.Forms.{vectors}
use Rattle.pungi_affine.specs.States.{SpanState, SpanMember}

-- a cs + b ds, place by place
abbrev pub mix : ℤ → List ℤ → ℤ → List ℤ → List ℤ
mix a [] b [] = []
mix a [] b (d ∷ ds) = (b *ℤ d) ∷ mix a [] b ds
mix a (c ∷ cs) b [] = (a *ℤ c) ∷ mix a cs b []
mix a (c ∷ cs) b (d ∷ ds) = ((a *ℤ c) +ℤ (b *ℤ d)) ∷ mix a cs b ds

pub comb_none : (cs : List ℤ) (i : ℕ) → comb cs [] i ≡ pos 0
comb_none [] i = refl
comb_none (c ∷ cs) i = refl

pub comb_mix : (a : ℤ) (cs : List ℤ) (b : ℤ) (ds : List ℤ) (vs : List (List ℤ)) (i : ℕ)
    → comb (mix a cs b ds) vs i ≡ (a *ℤ comb cs vs i) +ℤ (b *ℤ comb ds vs i)
comb_mix a [] b [] vs i = (let e = mul_zero a in let f = mul_zero b in omega (arith, ints, e, f))
comb_mix a [] b (d ∷ ds) [] i = (let e = mul_zero a in let f = mul_zero b in omega (arith, ints, e, f))
comb_mix a [] b (d ∷ ds) (v ∷ vs) i =
    let h = comb_mix a [] b ds vs i in
    let e = mul_zero a in
    let f = mul_add b (d *ℤ at v i) (comb ds vs i) in
    let g = mul_assoc b d (at v i) in
    omega (arith, ints, h, e, f, g)
comb_mix a (c ∷ cs) b [] [] i = (let e = mul_zero a in let f = mul_zero b in omega (arith, ints, e, f))
comb_mix a (c ∷ cs) b [] (v ∷ vs) i =
    let h = comb_mix a cs b [] vs i in
    let e = mul_zero b in
    let f = mul_add a (c *ℤ at v i) (comb cs vs i) in
    let g = mul_assoc a c (at v i) in
    omega (arith, ints, h, e, f, g)
comb_mix a (c ∷ cs) b (d ∷ ds) [] i = (let e = mul_zero a in let f = mul_zero b in omega (arith, ints, e, f))
comb_mix a (c ∷ cs) b (d ∷ ds) (v ∷ vs) i =
    let h = comb_mix a cs b ds vs i in
    let e = mul_add b (d *ℤ at v i) (comb ds vs i) in
    let f = mul_add a (c *ℤ at v i) (comb cs vs i) in
    let g = mul_assoc a c (at v i) in
    let j = mul_assoc b d (at v i) in
    let k = add_mul (a *ℤ c) (b *ℤ d) (at v i) in
    omega (arith, ints, h, e, f, g, j, k)

pub product_not_zero : (a b : ℤ) → (a ≡ pos 0 → ⊥) → (b ≡ pos 0 → ⊥) → a *ℤ b ≡ pos 0 → ⊥
product_not_zero a b p q h = elim (product_zero a b h) [ inl z ↦ p z | inr z ↦ q z ]

module _ (w : ℕ) (vs : List (List ℤ)) where
  pub in_same : (u v : ℕ → ℤ) → ((i : ℕ) → i < w → v i ≡ u i) → InSpan w vs u → InSpan w vs v
  in_same u v e h = record {
    times = h.times;
    not_zero = h.not_zero;
    factors = h.factors;
    exact = λ i lt. ap
        (λ z. h.times *ℤ z) (e i lt) ∙ h.exact i lt;
  }

  -- a u + b v
  pub in_sum : (a b : ℤ) (u v : ℕ → ℤ) → InSpan w vs u → InSpan w vs v → InSpan w vs (λ i. (a *ℤ u i) +ℤ (b *ℤ v i))
  in_sum a b u v p q = record {
    times = p.times *ℤ q.times;
    not_zero = product_not_zero p.times q.times p.not_zero q.not_zero;
    factors = mix (a *ℤ q.times) p.factors (b *ℤ p.times) q.factors;
    exact = λ i lt.
        let e = p.exact i lt in
        let f = q.exact i lt in
        let m = comb_mix (a *ℤ q.times) p.factors (b *ℤ p.times) q.factors vs i in
        let l : (p.times *ℤ q.times) *ℤ (a *ℤ u i) ≡ (a *ℤ q.times) *ℤ comb p.factors vs i =
        mul_swap (p.times *ℤ q.times) a (u i) ∙ ap (λ z. a *ℤ z) (ap (λ z. z *ℤ u i) (mul_comm p.times q.times)
        ∙ mul_assoc q.times p.times (u i) ∙ ap (λ z. q.times *ℤ z) e)
        ∙ sym (mul_assoc a q.times (comb p.factors vs i)) in
        let r : (p.times *ℤ q.times) *ℤ (b *ℤ v i) ≡ (b *ℤ p.times) *ℤ comb q.factors vs i =
        mul_swap (p.times *ℤ q.times) b (v i) ∙ ap (λ z. b *ℤ z) (mul_assoc p.times q.times (v i)
        ∙ ap (λ z. p.times *ℤ z) f) ∙ sym (mul_assoc b p.times (comb q.factors vs i)) in
        mul_add (p.times *ℤ q.times) (a *ℤ u i) (b *ℤ v i)
        ∙ (let x : ((p.times *ℤ q.times) *ℤ (a *ℤ u i)) +ℤ ((p.times *ℤ q.times) *ℤ (b *ℤ v i))
        ≡ comb (mix (a *ℤ q.times) p.factors (b *ℤ p.times) q.factors) vs i = rw (l, r) (sym m) in x);
  }

  pub in_zero : (v : ℕ → ℤ) → ((i : ℕ) → i < w → v i ≡ pos 0) → InSpan w vs v
  in_zero v z = record {
    times = pos 1;
    not_zero = λ e. absurd (omega (arith, ints, e));
    factors = [];
    exact = λ i
        lt. let e = z i lt in omega (arith, ints, e);
  }

pub span_same : (s : SpanState) (u v : Vector) → ((i : ℕ) → i < s.width → v i ≡ u i) → SpanMember s u → SpanMember s v
span_same s u v e m = in_same s.width (vectors s.lines) u v e m

pub span_zero : (s : SpanState) → SpanMember s (λ _. pos 0)
span_zero s = in_zero s.width (vectors s.lines) (λ _. pos 0) (λ i lt. refl)

pub span_sum : (s : SpanState) (a b : ℤ) (u v : Vector) → SpanMember s u → SpanMember s v
    → SpanMember s (λ i. (a *ℤ u i) +ℤ (b *ℤ v i))
span_sum s a b u v p q = in_sum s.width (vectors s.lines) a b u v p q
