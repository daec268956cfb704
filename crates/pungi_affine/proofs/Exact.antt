-- Division without a remainder.
use Rattle.std.proofs.Common.{◌≡◌, ◌∙◌, ℕ, zero, suc, ◌+◌, ◌*◌, ◌<◌, ◌≤◌, inl, inr, ℤ, pos, negsuc, ◌-ℤ◌, ◌*ℤ◌, ◌<ℤ◌}
use Rattle.std.proofs.Common.{List, [], ◌∷◌, ◌++◌, length, slice_set, sym, ap, subst, arith, refl}
use Rattle.std.proofs.lemmas.Int.{ints, unsigned_abs-mul, quot-rem, rem_below}
use Rattle.std.proofs.lemmas.Bool.{cases_eq}
use Rattle.std.proofs.lemmas.List.{get_or-set_same, get_or-set_other, get_or_append_left}
use Rattle.std.proofs.Math.Seq.{get_or-append_seam}
use Rattle.std.specs.Int.RustNames.{unsigned_abs, int_div, int_rem}
use Rattle.pungi_domain.specs.Vectors.{at}
use Rattle.pungi_domain.specs.Spans.{Divides}
use Rattle.pungi_domain.specs.Ring.{mul_comm, mul_sub, mul_zero}

abs_zero : (a : ℤ) → unsigned_abs a ≡ 0 → a ≡ pos 0
abs_zero (pos n) h = ap pos h
abs_zero (negsuc n) h = absurd (omega (arith, h))

abs_positive : (g : ℤ) → pos 0 <ℤ g → 0 < unsigned_abs g
abs_positive (pos n) h = omega (arith, ints, h)
abs_positive (negsuc n) h = omega arith

small_factor : (m n : ℕ) → m * n < m → n ≡ 0
small_factor m zero h = refl
small_factor m (suc n) h = absurd (grind (arith, h))

pub quot_exact : (g x : ℤ) → pos 0 <ℤ g → Divides g x → g *ℤ int_div x g ≡ x
quot_exact g x gt h =
    let e = quot-rem x g in
    let r : int_rem x g ≡ g *ℤ (h.by -ℤ int_div x g) = (let a = mul_sub g h.by (int_div x g) in let b = mul_comm
    (int_div x g) g in let c = h.is in omega (arith, ints, a, b, c, e)) in
    let s : unsigned_abs g * unsigned_abs (h.by -ℤ int_div x g)
    < unsigned_abs g = rw (sym (unsigned_abs-mul g (h.by -ℤ int_div x g)), ← r)
    (rem_below x g (abs_positive g gt)) in
    let z : h.by -ℤ int_div x g ≡ pos 0 = abs_zero (h.by -ℤ int_div x g) (small_factor (unsigned_abs g)
    (unsigned_abs (h.by -ℤ int_div x g)) s) in
    let t : int_rem x g ≡ pos 0 = r ∙ ap (λ y. g *ℤ y) z ∙ mul_zero g in
    let b = mul_comm (int_div x g) g in
    omega (arith, ints, e, t, b)

pub taken_out : (xs ys : List ℤ) (g : ℤ) (k : ℕ) (z : ℤ) → k < length ys → g *ℤ z ≡ at ys k
    → ((i : ℕ) → i < k → g *ℤ at ys i ≡ at xs i) → ((i : ℕ) → k ≤ i → at ys i ≡ at xs i)
    → ((i : ℕ) → i < k + 1 → g *ℤ at (slice_set ys k z) i ≡ at xs i)
    × ((i : ℕ) → k + 1 ≤ i → at (slice_set ys k z) i ≡ at xs i)
taken_out xs ys g k z lt e done left = (
  (λ i i_lt. elim (cases_eq i k) [
    | inl same ↦ rw same (ap (λ y. g *ℤ y) (get_or-set_same ys k z (pos 0) lt) ∙ e ∙ left k (omega arith))
    | inr ne ↦ ap (λ y. g *ℤ y) (get_or-set_other ys k i z (pos 0) ne)
        ∙ done i (let n : i ≡ k → ⊥ = ne in omega (arith, n, i_lt))
  ]),
  (λ i i_le. get_or-set_other ys k i z (pos 0) (λ same. omega (arith, same, i_le)) ∙ left i (omega (arith, i_le))),
)

-- the same, for another spelling of the factor
pub with_factor : (g g' : ℤ) (n : ℕ) (zs xs : List ℤ) → g' ≡ g → ((i : ℕ) → i < n → g *ℤ at zs i ≡ at xs i)
    → (i : ℕ) → i < n → g' *ℤ at zs i ≡ at xs i
with_factor g g' n zs xs e h i lt = ap (λ y. y *ℤ at zs i) e ∙ h i lt

-- one more entry
pub pushed : (f : ℕ → ℤ) (xs : List ℤ) (i : ℕ) (z : ℤ) → length xs ≡ i → ((j : ℕ) → j < i → at xs j ≡ f j) → z ≡ f i
    → (j : ℕ) → j < i + 1 → at (xs ++ z ∷ []) j ≡ f j
pushed f xs i z e h is j lt = elim (cases_eq j i) [
  | inl same ↦ rw (same, ← e) (get_or-append_seam xs z [] (pos 0) ∙ rw (← e) at is)
  | inr ne ↦ (let n : j ≡ i → ⊥ = ne in let l : j < i = omega (arith, n, lt) in get_or_append_left xs (z ∷ [])
      (pos 0) j (omega (arith, l, e)) ∙ h j l)
]

-- what holds of each entry and of one more
pub each_pushed : (P : ℕ → ℤ → Type 0) (xs : List ℤ) (i : ℕ) (z : ℤ) → length xs ≡ i
    → ((j : ℕ) → j < i → P j (at xs j)) → P i z → (j : ℕ) → j < i + 1 → P j (at (xs ++ z ∷ []) j)
each_pushed P xs i z e h p j lt = elim (cases_eq j i) [
  | inl same ↦ subst (λ (k : ℕ). P k (at (xs ++ z ∷ []) k)) (sym same) (subst (λ (k : ℕ). P k (at (xs ++ z ∷ []) k))
      e (subst (λ (x : ℤ). P (length xs) x) (sym (get_or-append_seam xs z [] (pos 0)))
      (subst (λ (k : ℕ). P k z) (sym e) p)))
  | inr ne ↦ (let n : j ≡ i → ⊥ = ne in let l : j < i = omega (arith, n, lt) in subst (λ (x : ℤ). P j x)
      (sym (get_or_append_left xs (z ∷ []) (pos 0) j (omega (arith, l, e)))) (h j l))
]
