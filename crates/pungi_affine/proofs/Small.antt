-- A vector up to 2^31 is never large alone.
use Rattle.std.proofs.Common.{◌≡◌, ◌∙◌, ℕ, zero, suc, ◌+◌, ◌*◌, ◌<◌, ◌≤◌, ◌^◌, inl, inr, ℤ, pos, negsuc, neg_ℤ, ◌*ℤ◌, ◌<ℤ◌, ◌≤ℤ◌}
use Rattle.std.proofs.Common.{List, length, refl, sym, ap, subst, arith}
use Rattle.std.proofs.lemmas.Int.{ints, unsigned_abs-mul}
use Rattle.std.proofs.Math.Nat.{mul-le-mul_left, mul-le-mul_right}
use Rattle.std.proofs.lemmas.Bool.{cases_lt}
use Rattle.std.specs.Int.RustNames.{unsigned_abs}
use Rattle.pungi_domain.specs.Vectors.{Vector, at}
use Rattle.pungi_domain.specs.Spans.{Zero, Plus, IsPivot, IsScale, IsScaledRow, LargeRow}
use Rattle.pungi_domain.specs.Ring.{mul_comm, mul_assoc, product_zero, cancel}
use Rattle.pungi_affine.specs.Forms.{WithinBox}
use Rattle.pungi_affine.proofs.Reduced.{zero_mul, neg_mul}
use Rattle.pungi_affine.proofs.Products.{abs_bound, bound_abs}
use Rattle.pungi_affine.proofs.LargeRows.{not_outside}

module _ (w : ℕ) (v : Vector) where
  abbrev Alone : Vector → Type 0
  Alone = Plus w (Zero w) v

  -- each vector of the span is a fraction of v
  multiple : (x : Vector) → (h : Alone x) → (i : ℕ) → i < w → h.times *ℤ x i ≡ h.factor *ℤ v i
  multiple x h i lt = (let e = h.exact i lt in let z = h.part_in i lt in omega (arith, ints, e, z))

  no_factor : (x : Vector) (h : Alone x) → h.factor ≡ pos 0 → (i : ℕ) → i < w → x i ≡ pos 0
  no_factor x h e i lt =
      let m : h.times *ℤ x i ≡ pos 0 = multiple x h i lt ∙ ap (λ z. z *ℤ v i) e ∙ zero_mul (v i) in
      elim (product_zero h.times (x i) m) [ inl z ↦ absurd (h.not_zero z) | inr z ↦ z ]

  -- a pivot is the first entry of v other than 0
  pivot_entry : (q : ℕ) → IsPivot w Alone q → v q ≡ pos 0 → ⊥
  pivot_entry q p z =
      let h = p.member in
      let m : h.times *ℤ p.vector q ≡ pos 0 = multiple p.vector h q p.within
      ∙ ap (λ y. h.factor *ℤ y) z ∙ mul_comm h.factor (pos 0) ∙ zero_mul h.factor in
      elim (product_zero h.times (p.vector q) m) [ inl y ↦ h.not_zero y | inr y ↦ p.entry y ]

  pivot_before : (q : ℕ) → IsPivot w Alone q → (i : ℕ) → i < q → v i ≡ pos 0
  pivot_before q p i lt =
      let h = p.member in
      let i_w : i < w = (let l = p.within in omega (arith, lt, l)) in
      let m : h.factor *ℤ v i ≡ pos 0 = sym (multiple p.vector h i i_w) ∙ ap (λ y. h.times *ℤ y) (p.before i lt)
      ∙ mul_comm h.times (pos 0) ∙ zero_mul h.times in
      elim (product_zero h.factor (v i) m) [
        | inl y ↦ absurd (p.entry (no_factor p.vector h y q p.within))
        | inr y ↦ y
      ]

  one_pivot : (p q : ℕ) → IsPivot w Alone p → IsPivot w Alone q → p ≡ q
  one_pivot p q a b = elim (cases_lt p q) [
    | inl lt ↦ absurd (pivot_entry p a (pivot_before q b p lt))
    | inr ge ↦ elim (cases_lt q p) [
      | inl lt ↦ absurd (pivot_entry q b (pivot_before p a q lt))
      | inr le ↦ omega (arith, ge, le)
    ]
  ]

  -- v or its opposite
  signed : (q : ℕ) (z : ℤ) → v q ≡ z → IsPivot w Alone q → (r : Vector) × IsScaledRow w Alone (pos (unsigned_abs z)) q r
  signed q (pos n) e p = (
    v,
    record {
      member = record {
        times = pos 1;
        not_zero = λ e. absurd (omega (arith, ints, e));
        part = λ i. pos 0;
        part_in = λ i lt. refl;
        factor = pos 1;
        exact = λ i lt. omega (arith, ints);
      };
      own = e;
      others = λ s b ne. absurd (ne (one_pivot s q b p));
    },
  )
  signed q (negsuc n) e p = (
    (λ i. neg_ℤ (v i)),
    record {
      member = record {
        times = pos 1;
        not_zero = λ e. absurd (omega (arith, ints, e));
        part = λ i. pos 0;
        part_in = λ i lt. refl;
        factor = negsuc 0;
        exact = λ i lt. (let m = neg_mul (pos 1) (v i) in omega (arith, ints, m));
      };
      own = ap neg_ℤ e;
      others = λ s b ne. absurd (ne (one_pivot s q b p));
    },
  )

  abs_positive : (z : ℤ) → (z ≡ pos 0 → ⊥) → pos 0 <ℤ pos (unsigned_abs z)
  abs_positive (pos zero) ne = absurd (ne refl)
  abs_positive (pos (suc n)) ne = omega (arith, ints)
  abs_positive (negsuc n) ne = omega (arith, ints)

  alone_scale : (q : ℕ) → IsPivot w Alone q → IsScale w Alone (pos (unsigned_abs (v q)))
  alone_scale q p = record {
    positive = abs_positive (v q) (pivot_entry q p);
    rows = λ s b. (let x = signed q (v q) refl p in subst (λ (j : ℕ). (r : Vector)
        × IsScaledRow w Alone (pos (unsigned_abs (v q))) j r) (one_pivot q s p b) x);
  }

  -- no entry of a scaled row is above that of v
  row_within : (q : ℕ) → IsPivot w Alone q → (d : ℤ) → d ≤ℤ pos (unsigned_abs (v q)) → pos 0 <ℤ d → (r : Vector)
      → IsScaledRow w Alone d q r → (i : ℕ) → i < w → unsigned_abs (r i) ≤ unsigned_abs (v i)
  row_within q p d le gt r row i lt =
      let h = row.member in
      let a = multiple r h i lt in
      let b : h.times *ℤ d ≡ h.factor *ℤ v q = ap (λ y. h.times *ℤ y) (sym row.own) ∙ multiple r h q p.within in
      let c : h.times *ℤ (r i *ℤ v q) ≡ h.times *ℤ (v i *ℤ d) = sym (mul_assoc h.times (r i) (v q))
      ∙ ap (λ y. y *ℤ v q) a ∙ mul_assoc h.factor (v i) (v q) ∙ ap (λ y. h.factor *ℤ y) (mul_comm (v i) (v q))
      ∙ sym (mul_assoc h.factor (v q) (v i)) ∙ ap (λ y. y *ℤ v i) (sym b) ∙ mul_assoc h.times d (v i)
      ∙ ap (λ y. h.times *ℤ y) (mul_comm d (v i)) in
      let e : r i *ℤ v q ≡ v i *ℤ d = cancel h.times (r i *ℤ v q) (v i *ℤ d) h.not_zero c in
      let f : unsigned_abs (r i) * unsigned_abs (v q) ≡ unsigned_abs (v i) * unsigned_abs d = sym
      (unsigned_abs-mul (r i) (v q)) ∙ ap unsigned_abs e ∙ unsigned_abs-mul (v i) d in
      let n = abs_positive (v q) (pivot_entry q p) in
      smaller (unsigned_abs (r i)) (unsigned_abs (v i)) (unsigned_abs (v q)) (unsigned_abs d)
      (omega (arith, ints, n)) (abs_le d (unsigned_abs (v q)) gt le) f
    where
      abs_le : (d : ℤ) (n : ℕ) → pos 0 <ℤ d → d ≤ℤ pos n → unsigned_abs d ≤ n
      abs_le (pos m) n gt le = omega (arith, ints, le)
      abs_le (negsuc m) n gt le = absurd (omega (arith, ints, gt))

      smaller : (a b c d : ℕ) → 0 < c → d ≤ c → a * c ≡ b * d → a ≤ b
      smaller a b c d gt le e = elim (cases_lt b a) [
        | inl lt ↦
            (let x : b * d ≤ b * c = mul-le-mul_left b le in
            let y : (b + 1) * c ≤ a * c = mul-le-mul_right c (omega (arith, lt)) in
            absurd (omega (arith, e, x, y, gt)))
        | inr ge ↦ ge
      ]

-- the span of a vector up to 2^31 is not large
pub small_not_large : (w : ℕ) (v : List ℤ) → length v ≡ w → WithinBox v → (r : List ℤ)
    → LargeRow w (Plus w (Zero w) (at v)) r → ⊥
small_not_large w v len box r h =
    let g = h.large in
    let le = g.least.least (pos (unsigned_abs (at v g.q))) (alone_scale w (at v) g.q g.pivot) in
    let n = row_within w (at v) g.q g.pivot g.d le g.least.scale.positive g.r g.row g.i g.within in
    let b = abs_bound (2 ^ 31) (at v g.i) (box g.i (let l = g.within in omega (arith, len, l))) in
    not_outside (g.r g.i) (bound_abs (2 ^ 31) (g.r g.i) (omega (arith, n, b))) g.large
