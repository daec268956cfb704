-- The rows after a vector was added are a scaled reduced form of the span with it.
use Rattle.std.proofs.Common.{◌≡◌, ◌∙◌, ℕ, zero, suc, ◌<◌, inl, inr, ℤ, pos, negsuc, neg_ℤ, ◌+ℤ◌, ◌*ℤ◌, ◌<ℤ◌, List, ◌∷◌}
use Rattle.std.proofs.Common.{length, sym, ap, arith, slice_index_or}
use Rattle.std.specs.List.{All}
use Rattle.std.proofs.lemmas.Int.{ints}
use Rattle.std.proofs.lemmas.Bool.{cases_lt}
use Rattle.pungi_domain.specs.Vectors.{at}
use Rattle.pungi_domain.specs.Ring.{mul_comm, mul_zero, product_zero, cancel}
use Rattle.pungi_affine.specs.Spans.{InSpan}
use Rattle.pungi_affine.specs.Forms.{Line, line, vectors, fill, IsForm}
use Rattle.pungi_affine.specs.Steps.{Steps}
use Rattle.pungi_affine.proofs.Closure.{in_same, in_sum, in_part, in_first, in_later, in_trans}
use Rattle.pungi_affine.proofs.Reduced.{zero_mul, neg_mul, fill_one_by, fill_in, vectors_at, vectors_length, d_not_zero}
use Rattle.pungi_affine.proofs.Reduced.{row_in}

pub not_zero_if : (z : ℤ) → pos 0 <ℤ z → z ≡ pos 0 → ⊥
not_zero_if z p e = absurd (omega (arith, ints, p, e))

-- a product above 0 with a factor above 0
pub factor_positive : (g x : ℤ) → pos 0 <ℤ g → pos 0 <ℤ (g *ℤ x) → pos 0 <ℤ x
factor_positive (negsuc n) x p h = absurd (omega (arith, ints, p))
factor_positive (pos m) (pos zero) p h = absurd (omega (arith, ints, h))
factor_positive (pos m) (pos (suc k)) p h = omega (arith, ints)
factor_positive (pos m) (negsuc k) p h = absurd (omega (arith, ints, p, h))

pub product_positive : (a b : ℤ) → pos 0 <ℤ a → pos 0 <ℤ b → pos 0 <ℤ (a *ℤ b)
product_positive (negsuc n) b p h = absurd (omega (arith, ints, p))
product_positive (pos zero) b p h = absurd (omega (arith, ints, p))
product_positive (pos (suc m)) (pos zero) p h = absurd (omega (arith, ints, h))
product_positive (pos (suc m)) (pos (suc k)) p h = omega (arith, ints)
product_positive (pos (suc m)) (negsuc k) p h = absurd (omega (arith, ints, h))

module _ (w : ℕ) (d : ℤ) (ls : List Line) (form : IsForm w d ls) (v : List ℤ) (d' : ℤ) (ls' : List Line)
    (s : Steps w d ls (at v) d' ls') where
  abbrev u : ℕ → ℤ
  u = s.u

  abbrev q : ℕ
  q = s.q

  abbrev g : ℤ
  g = s.g

  g_not : g ≡ pos 0 → ⊥
  g_not = not_zero_if g s.g_positive

  -- the residual is 0 at the old pivots
  pub u_pivot : (k : ℕ) → k < length ls → u (line ls k).pivot ≡ pos 0
  u_pivot k lt =
      let e = fill_one_by ls (at v) k (line ls k).pivot lt (λ j j_lt ne. ap (λ z. at v (line ls j).pivot *ℤ z)
      (form.others k j lt j_lt (λ same. ne (sym same))) ∙ mul_zero (at v (line ls j).pivot)) in
      let f : at v (line ls k).pivot *ℤ at (line ls k).entries (line ls k).pivot
      ≡ at v (line ls k).pivot *ℤ d = ap (λ z. at v (line ls k).pivot *ℤ z) (form.own k lt) in
      let c = mul_comm d (at v (line ls k).pivot) in
      let r = s.u_is (line ls k).pivot (form.within k lt) in
      let z : s.h *ℤ u (line ls k).pivot ≡ pos 0 = omega (arith, ints, e, f, c, r) in
      elim (product_zero s.h (u (line ls k).pivot) z) [ inl y ↦ absurd (s.h_not y) | inr y ↦ y ]

  zero_by : (x : ℤ) → g *ℤ x ≡ pos 0 → x ≡ pos 0
  zero_by x e = elim (product_zero g x e) [ inl y ↦ absurd (g_not y) | inr y ↦ y ]

  old_own : (k : ℕ) → k < length ls → at (line ls' (s.place k)).entries (line ls k).pivot ≡ d'
  old_own k lt =
      let p : ℕ = (line ls k).pivot in
      let e = s.old_row k p lt (form.within k lt) in
      let a : u q *ℤ at (line ls k).entries p ≡ u q *ℤ d = ap (λ z. u q *ℤ z) (form.own k lt) in
      let b : at (line ls k).entries q *ℤ u p ≡ pos 0 = ap (λ z. at (line ls k).entries q *ℤ z) (u_pivot k lt)
      ∙ mul_zero (at (line ls k).entries q) in
      let c = mul_comm d (u q) in
      let f = s.d_is in
      cancel g (at (line ls' (s.place k)).entries p) d' g_not (omega (arith, ints, e, a, b, c, f))

  old_others : (j k : ℕ) → j < length ls → k < length ls → (j ≡ k → ⊥)
      → at (line ls' (s.place k)).entries (line ls j).pivot ≡ pos 0
  old_others j k j_lt k_lt ne =
      let p : ℕ = (line ls j).pivot in
      let e = s.old_row k p k_lt (form.within j j_lt) in
      let a : u q *ℤ at (line ls k).entries p ≡ pos 0 = ap (λ z. u q *ℤ z) (form.others j k j_lt k_lt ne)
      ∙ mul_zero (u q) in
      let b : at (line ls k).entries q *ℤ u p ≡ pos 0 = ap (λ z. at (line ls k).entries q *ℤ z) (u_pivot j j_lt)
      ∙ mul_zero (at (line ls k).entries q) in
      zero_by (at (line ls' (s.place k)).entries p) (omega (arith, ints, e, a, b))

  old_at_new : (k : ℕ) → k < length ls → at (line ls' (s.place k)).entries q ≡ pos 0
  old_at_new k lt =
      let e = s.old_row k q lt s.q_within in
      let c = mul_comm (u q) (at (line ls k).entries q) in
      zero_by (at (line ls' (s.place k)).entries q) (omega (arith, ints, e, c))

  new_at_old : (k : ℕ) → k < length ls → at (line ls' s.new).entries (line ls k).pivot ≡ pos 0
  new_at_old k lt =
      let e = s.new_row (line ls k).pivot (form.within k lt) in
      let a : d *ℤ u (line ls k).pivot ≡ pos 0 = ap (λ z. d *ℤ z) (u_pivot k lt) ∙ mul_zero d in
      zero_by (at (line ls' s.new).entries (line ls k).pivot) (e ∙ a)

  new_own : at (line ls' s.new).entries q ≡ d'
  new_own = cancel g (at (line ls' s.new).entries q) d' g_not (s.new_row q s.q_within ∙ sym s.d_is)

  old_before : (k i : ℕ) → k < length ls → i < (line ls k).pivot → at (line ls' (s.place k)).entries i ≡ pos 0
  old_before k i lt i_lt =
      let e = s.old_row k i lt (let m = form.within k lt in omega (arith, m, i_lt)) in
      let a : u q *ℤ at (line ls k).entries i ≡ pos 0 = ap (λ z. u q *ℤ z) (form.before k i lt i_lt) ∙ mul_zero (u q) in
      let b : at (line ls k).entries q *ℤ u i ≡ pos 0 = elim (cases_lt q (line ls k).pivot) [
        | inl q_lt ↦ ap (λ z. z *ℤ u i) (form.before k q lt q_lt) ∙ zero_mul (u i)
        | inr q_ge ↦ ap (λ z. at (line ls k).entries q *ℤ z) (s.q_first i (omega (arith, q_ge, i_lt)))
            ∙ mul_zero (at (line ls k).entries q)
      ] in
      zero_by (at (line ls' (s.place k)).entries i) (omega (arith, ints, e, a, b))

  new_before : (i : ℕ) → i < q → at (line ls' s.new).entries i ≡ pos 0
  new_before i lt =
      let e = s.new_row i (let m = s.q_within in omega (arith, m, lt)) in
      let a : d *ℤ u i ≡ pos 0 = ap (λ z. d *ℤ z) (s.q_first i lt) ∙ mul_zero d in
      zero_by (at (line ls' s.new).entries i) (e ∙ a)

  pub form_next : IsForm w d' ls'
  form_next = record {
    positive = factor_positive g d' s.g_positive (let a = product_positive d (u q) form.positive s.q_entry in let b
        = s.d_is in omega (arith, ints, a, b));
    within = λ j lt. elim (s.covers j lt) [
      | inl e ↦ rw (e, s.new_pivot) s.q_within
      | inr o ↦ rw (← o.2, s.old_pivot o.0 o.1) (form.within o.0 o.1)
    ];
    own = λ j lt. elim (s.covers j lt) [
      | inl e ↦ rw (e, s.new_pivot) new_own
      | inr o ↦ rw (← o.2, s.old_pivot o.0 o.1) (old_own o.0 o.1)
    ];
    others = λ j k j_lt k_lt ne. elim (s.covers k k_lt) [
      | inl e ↦ elim (s.covers j j_lt) [
        | inl f ↦ absurd (ne (f ∙ sym e))
        | inr o ↦ rw (e, ← o.2, s.old_pivot o.0 o.1) (new_at_old o.0 o.1)
      ]
      | inr o ↦ elim (s.covers j j_lt) [
        | inl f ↦ rw (f, ← o.2, s.new_pivot) (old_at_new o.0 o.1)
        | inr m ↦ rw (← o.2, ← m.2, s.old_pivot m.0 m.1) (old_others m.0 o.0 m.1 o.1
            (λ same. ne (sym m.2 ∙ ap s.place same ∙ o.2)))
      ]
    ];
    before = λ j i lt i_lt. elim (s.covers j lt) [
      | inl e ↦ (let f : (line ls' j).pivot ≡ q = ap (λ x. (line ls' x).pivot) e
          ∙ s.new_pivot in rw e (new_before i (omega (arith, f, i_lt))))
      | inr o ↦ (let f : (line ls' j).pivot ≡ (line ls o.0).pivot = ap (λ x. (line ls' x).pivot) (sym o.2)
          ∙ s.old_pivot o.0 o.1 in rw (← o.2) (old_before o.0 i o.1 (omega (arith, f, i_lt))))
    ];
  }

  d_not : d ≡ pos 0 → ⊥
  d_not = d_not_zero w d ls form

  -- each new row is in the span of v and the old rows
  u_in : InSpan w (v ∷ vectors ls) u
  u_in = in_part w (v ∷ vectors ls) s.h u s.h_not (in_same w (v ∷ vectors ls)
      (λ i. (d *ℤ at v i) +ℤ (neg_ℤ (pos 1) *ℤ fill (at v) ls i)) (λ i. s.h *ℤ u i)
      (λ i lt. let r = s.u_is i lt in omega (arith, ints, r))
      (in_sum w (v ∷ vectors ls) d (neg_ℤ (pos 1)) (at v) (fill (at v) ls) (in_first w v (vectors ls))
      (in_later w v (vectors ls) (fill (at v) ls) (fill_in w ls (at v)))))

  old_in : (k : ℕ) → k < length ls → InSpan w (v ∷ vectors ls) (at (line ls k).entries)
  old_in k lt = in_later w v (vectors ls) (at (line ls k).entries) (row_in w d ls form k lt)

  next_row_in : (j : ℕ) → j < length ls' → InSpan w (v ∷ vectors ls) (at (line ls' j).entries)
  next_row_in j lt = elim (s.covers j lt) [
    | inl e ↦ rw e (in_part w (v ∷ vectors ls) g (at (line ls' s.new).entries) g_not
        (in_same w (v ∷ vectors ls) (λ i. (d *ℤ u i) +ℤ (pos 0 *ℤ u i)) (λ i. g *ℤ at (line ls' s.new).entries i)
        (λ i i_lt. let a = s.new_row i i_lt in let z = zero_mul (u i) in omega (arith, ints, a, z))
        (in_sum w (v ∷ vectors ls) d (pos 0) u u u_in u_in)))
    | inr o ↦ rw (← o.2) (in_part w (v ∷ vectors ls) g (at (line ls' (s.place o.0)).entries) g_not
        (in_same w (v ∷ vectors ls) (λ i. (u q *ℤ at (line ls o.0).entries i) +ℤ
        (neg_ℤ (at (line ls o.0).entries q) *ℤ u i)) (λ i. g *ℤ at (line ls' (s.place o.0)).entries i)
        (λ i i_lt. let a = s.old_row o.0 i o.1 i_lt in let z = neg_mul (at (line ls o.0).entries q) (u i) in omega
        (arith, ints, a, z))
        (in_sum w (v ∷ vectors ls) (u q) (neg_ℤ (at (line ls o.0).entries q)) (at (line ls o.0).entries) u
        (old_in o.0 o.1) u_in)))
  ]

  pub next_within : (x : ℕ → ℤ) → InSpan w (vectors ls') x → InSpan w (v ∷ vectors ls) x
  next_within x h = in_trans w (v ∷ vectors ls) (vectors ls') x
      (λ j e lt. let j_lt : j < length ls' = (let n = vectors_length ls' in omega (arith, n, lt)) in rw
      (vectors_at ls' j e j_lt) (next_row_in j j_lt)) h

  -- v and each old row are in the span of the new rows
  row_next : (j : ℕ) → j < length ls' → InSpan w (vectors ls') (at (line ls' j).entries)
  row_next j lt = row_in w d' ls' form_next j lt

  u_next : InSpan w (vectors ls') u
  u_next = in_part w (vectors ls') d u d_not
      (in_same w (vectors ls') (λ i. (g *ℤ at (line ls' s.new).entries i) +ℤ (pos 0 *ℤ u i)) (λ i. d *ℤ u i)
      (λ i lt. let a = s.new_row i lt in let z = zero_mul (u i) in omega (arith, ints, a, z))
      (in_sum_zero g (at (line ls' s.new).entries) u (row_next s.new s.new_in)))
    where
      in_sum_zero : (a : ℤ) (x y : ℕ → ℤ) → InSpan w (vectors ls') x
          → InSpan w (vectors ls') (λ i. (a *ℤ x i) +ℤ (pos 0 *ℤ y i))
      in_sum_zero a x y h = in_same w (vectors ls') (λ i. (a *ℤ x i) +ℤ (pos 0 *ℤ x i))
          (λ i. (a *ℤ x i) +ℤ (pos 0 *ℤ y i)) (λ i lt. let z = zero_mul (x i) in let y' = zero_mul (y i) in omega
          (arith, ints, z, y')) (in_sum w (vectors ls') a (pos 0) x x h h)

  old_next : (k : ℕ) → k < length ls → InSpan w (vectors ls') (at (line ls k).entries)
  old_next k lt = in_part w (vectors ls') (u q) (at (line ls k).entries) (not_zero_if (u q) s.q_entry)
      (in_same w (vectors ls') (λ i. (g *ℤ at (line ls' (s.place k)).entries i) +ℤ
      (at (line ls k).entries q *ℤ u i)) (λ i. u q *ℤ at (line ls k).entries i)
      (λ i i_lt. let a = s.old_row k i lt i_lt in omega (arith, ints, a))
      (in_sum w (vectors ls') g (at (line ls k).entries q) (at (line ls' (s.place k)).entries) u
      (row_next (s.place k) (s.place_in k lt)) u_next))

  olds_next : All (λ x. InSpan w (vectors ls') (at x)) (vectors ls)
  olds_next = λ k e lt. let k_lt : k < length ls = (let n = vectors_length ls in omega (arith, n, lt)) in rw
      (vectors_at ls k e k_lt) (old_next k k_lt)

  v_next : InSpan w (vectors ls') (at v)
  v_next = in_part w (vectors ls') d (at v) d_not
      (in_same w (vectors ls') (λ i. (s.h *ℤ u i) +ℤ (pos 1 *ℤ fill (at v) ls i)) (λ i. d *ℤ at v i)
      (λ i lt. let r = s.u_is i lt in omega (arith, ints, r))
      (in_sum w (vectors ls') s.h (pos 1) u (fill (at v) ls) u_next (in_trans w (vectors ls') (vectors ls)
      (fill (at v) ls) olds_next (fill_in w ls (at v)))))

  all_next : (k : ℕ) (e : List ℤ) → k < length (v ∷ vectors ls)
      → InSpan w (vectors ls') (at (slice_index_or (v ∷ vectors ls) k e))
  all_next zero e lt = v_next
  all_next (suc k) e lt = olds_next k e (omega (arith, lt))

  pub within_next : (x : ℕ → ℤ) → InSpan w (v ∷ vectors ls) x → InSpan w (vectors ls') x
  within_next x h = in_trans w (vectors ls') (v ∷ vectors ls) x all_next h
