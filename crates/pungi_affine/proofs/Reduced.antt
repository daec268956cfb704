-- What the scaled reduced form of a span says of it.
use Rattle.std.proofs.Common.{◌≡◌, ◌∙◌, ℕ, zero, suc, ◌<◌, ◌≤◌, inl, inr, ℤ, pos, negsuc, neg_ℤ, ◌+ℤ◌, ◌-ℤ◌, ◌*ℤ◌, ◌≤ℤ◌}
use Rattle.std.proofs.Common.{◌<ℤ◌, List, [], ◌∷◌, length, refl, sym, ap, arith, slice_index_or, ◌*◌, subst}
use Rattle.std.proofs.Math.Nat.{mul-le-mul_left}
use Rattle.std.specs.List.{All}
use Rattle.std.proofs.lemmas.Int.{ints}
use Rattle.std.proofs.lemmas.Bool.{cases_eq, cases_lt}
use Rattle.std.proofs.lemmas.List.Elements.{All-drop}
use Rattle.pungi_domain.specs.Vectors.{at}
use Rattle.pungi_affine.specs.Spans.{comb, InSpan}
use Rattle.pungi_affine.specs.Forms.{Line, line, vectors, fill, IsForm, IsCoprime}
use Rattle.pungi_domain.specs.Spans.{IsPivot, IsScaledRow, IsScale, IsLeastScale, Divides}
use Rattle.pungi_domain.specs.Ring.{mul_comm, mul_assoc, add_mul, mul_add, sub_mul, mul_swap, mul_zero, product_zero}
use Rattle.pungi_domain.specs.Ring.{cancel}
use Rattle.pungi_affine.proofs.Closure.{in_same, in_sum, in_part, in_zero, in_first, in_later}

pub zero_mul : (a : ℤ) → pos 0 *ℤ a ≡ pos 0
zero_mul a = mul_comm (pos 0) a ∙ mul_zero a

pub neg_mul : (a b : ℤ) → neg_ℤ a *ℤ b ≡ neg_ℤ (a *ℤ b)
neg_mul a b =
    (let e = sub_mul (pos 0) a b in let z = zero_mul b in let f : (pos 0 -ℤ a) *ℤ b
    ≡ neg_ℤ a *ℤ b = ap (λ y. y *ℤ b) (omega (arith, ints)) in omega (arith, ints, e, z, f))

pub divides_le : (d e c : ℤ) → pos 0 <ℤ d → pos 0 <ℤ e → e ≡ d *ℤ c → d ≤ℤ e
divides_le (negsuc n) e c p q h = absurd (omega (arith, ints, p))
divides_le (pos m) e (negsuc k) p q h = absurd (omega (arith, ints, p, q, h))
divides_le (pos m) e (pos zero) p q h = absurd (omega (arith, ints, q, h))
divides_le (pos m) e (pos (suc k)) p q h =
    let f : m * 1 ≤ m * suc k = mul-le-mul_left m (omega arith) in omega (arith, ints, h, f)

-- fill reads the pivots alone, and is linear
fill_same : (w : ℕ) (ls : List Line) (u v : ℕ → ℤ) (i : ℕ) → ((k : ℕ) → k < length ls → (line ls k).pivot < w)
    → ((j : ℕ) → j < w → u j ≡ v j) → fill u ls i ≡ fill v ls i
fill_same w [] u v i lt e = refl
fill_same w (l ∷ ls) u v i lt e =
    let h = fill_same w ls u v i (λ k k_lt. lt (suc k) (omega (arith, k_lt))) e in
    let f : u l.pivot *ℤ at l.entries i ≡ v l.pivot *ℤ at l.entries i = ap (λ z. z *ℤ at l.entries i)
    (e l.pivot (lt 0 (omega arith))) in
    omega (arith, ints, h, f)

fill_sum : (ls : List Line) (a b : ℤ) (u v : ℕ → ℤ) (i : ℕ)
    → fill (λ j. (a *ℤ u j) +ℤ (b *ℤ v j)) ls i ≡ (a *ℤ fill u ls i) +ℤ (b *ℤ fill v ls i)
fill_sum [] a b u v i = (let e = mul_zero a in let f = mul_zero b in omega (arith, ints, e, f))
fill_sum (l ∷ ls) a b u v i =
    let h = fill_sum ls a b u v i in
    let x : ℤ = at l.entries i in
    let e = add_mul (a *ℤ u l.pivot) (b *ℤ v l.pivot) x in
    let f = mul_assoc a (u l.pivot) x in
    let g = mul_assoc b (v l.pivot) x in
    let j = mul_add a (u l.pivot *ℤ x) (fill u ls i) in
    let k = mul_add b (v l.pivot *ℤ x) (fill v ls i) in
    omega (arith, ints, h, e, f, g, j, k)

fill_none : (ls : List Line) (v : ℕ → ℤ) (i : ℕ) → ((k : ℕ) → k < length ls → v (line ls k).pivot ≡ pos 0)
    → fill v ls i ≡ pos 0
fill_none [] v i z = refl
fill_none (l ∷ ls) v i z =
    let h = fill_none ls v i (λ k lt. z (suc k) (omega (arith, lt))) in
    let e : v l.pivot *ℤ at l.entries i ≡ pos 0 = ap (λ y. y *ℤ at l.entries i) (z 0 (omega arith))
    ∙ zero_mul (at l.entries i) in
    omega (arith, ints, h, e)

fill_each_none : (ls : List Line) (v : ℕ → ℤ) (i : ℕ)
    → ((k : ℕ) → k < length ls → v (line ls k).pivot *ℤ at (line ls k).entries i ≡ pos 0) → fill v ls i ≡ pos 0
fill_each_none [] v i z = refl
fill_each_none (l ∷ ls) v i z =
    let h = fill_each_none ls v i (λ k lt. z (suc k) (omega (arith, lt))) in
    let e : v l.pivot *ℤ at l.entries i ≡ pos 0 = z 0 (omega arith) in
    omega (arith, ints, h, e)

-- only one row counts at a coordinate
pub fill_one_by : (ls : List Line) (v : ℕ → ℤ) (k i : ℕ) → k < length ls
    → ((j : ℕ) → j < length ls → (j ≡ k → ⊥) → v (line ls j).pivot *ℤ at (line ls j).entries i ≡ pos 0)
    → fill v ls i ≡ v (line ls k).pivot *ℤ at (line ls k).entries i
fill_one_by [] v k i lt z = absurd (omega arith)
fill_one_by (l ∷ ls) v zero i lt z =
    let h = fill_each_none ls v i (λ k k_lt. z (suc k) (omega (arith, k_lt)) (λ e. absurd (omega (arith, e)))) in
    omega (arith, ints, h)
fill_one_by (l ∷ ls) v (suc k) i lt z =
    let h = fill_one_by ls v k i (omega (arith, lt)) (λ j j_lt ne. z (suc j) (omega (arith, j_lt))
    (λ e. ne (omega (arith, e)))) in
    let e : v l.pivot *ℤ at l.entries i ≡ pos 0 = z 0 (omega arith) (λ e. absurd (omega (arith, e))) in
    omega (arith, ints, h, e)

-- only one pivot counts
fill_one : (ls : List Line) (v : ℕ → ℤ) (k i : ℕ) → k < length ls
    → ((j : ℕ) → j < length ls → (j ≡ k → ⊥) → v (line ls j).pivot ≡ pos 0)
    → fill v ls i ≡ v (line ls k).pivot *ℤ at (line ls k).entries i
fill_one [] v k i lt z = absurd (omega arith)
fill_one (l ∷ ls) v zero i lt z =
    let h = fill_none ls v i (λ k k_lt. z (suc k) (omega (arith, k_lt)) (λ e. absurd (omega (arith, e)))) in
    omega (arith, ints, h)
fill_one (l ∷ ls) v (suc k) i lt z =
    let h = fill_one ls v k i (omega (arith, lt)) (λ j j_lt ne. z (suc j) (omega (arith, j_lt))
    (λ e. ne (omega (arith, e)))) in
    let e : v l.pivot *ℤ at l.entries i ≡ pos 0 = ap (λ y. y *ℤ at l.entries i)
    (z 0 (omega arith) (λ e. absurd (omega (arith, e)))) ∙ zero_mul (at l.entries i) in
    omega (arith, ints, h, e)

-- the test of membership: d v is what the rows make of v's pivots
abbrev pub Passes : ℕ → ℤ → List Line → (ℕ → ℤ) → Type 0
Passes w d ls v = (i : ℕ) → i < w → d *ℤ v i ≡ fill v ls i

pub vectors_length : (ls : List Line) → length (vectors ls) ≡ length ls
vectors_length [] = refl
vectors_length (l ∷ ls) = ap suc (vectors_length ls)

pub vectors_at : (ls : List Line) (k : ℕ) (d : List ℤ) → k < length ls
    → slice_index_or (vectors ls) k d ≡ (line ls k).entries
vectors_at [] k d lt = absurd (omega arith)
vectors_at (l ∷ ls) zero d lt = refl
vectors_at (l ∷ ls) (suc k) d lt = vectors_at ls k d (omega (arith, lt))

-- what the rows make of v is in their span
pub fill_in : (w : ℕ) (ls : List Line) (v : ℕ → ℤ) → InSpan w (vectors ls) (fill v ls)
fill_in w [] v = in_zero w [] (fill v []) (λ i lt. refl)
fill_in w (l ∷ ls) v =
    in_same w (vectors (l ∷ ls)) (λ i. (v l.pivot *ℤ at l.entries i) +ℤ (pos 1 *ℤ fill v ls i)) (fill v (l ∷ ls))
    (λ i lt. omega (arith, ints))
    (in_sum w (vectors (l ∷ ls)) (v l.pivot) (pos 1) (at l.entries) (fill v ls) (in_first w l.entries (vectors ls))
    (in_later w l.entries (vectors ls) (fill v ls) (fill_in w ls v)))

module _ (w : ℕ) (d : ℤ) (ls : List Line) (form : IsForm w d ls) where
  pub d_not_zero : d ≡ pos 0 → ⊥
  d_not_zero e = let p = form.positive in absurd (omega (arith, ints, e, p))

  pub passes_in : (v : ℕ → ℤ) → Passes w d ls v → InSpan w (vectors ls) v
  passes_in v h = in_part w (vectors ls) d v d_not_zero (in_same w (vectors ls) (fill v ls) (λ i. d *ℤ v i) h
      (fill_in w ls v))

  row_passes : (k : ℕ) → k < length ls → Passes w d ls (at (line ls k).entries)
  row_passes k lt i i_lt =
      let e = fill_one ls (at (line ls k).entries) k i lt (λ j j_lt ne. form.others j k j_lt lt ne) in
      let f : at (line ls k).entries (line ls k).pivot *ℤ at (line ls k).entries i
      ≡ d *ℤ at (line ls k).entries i = ap (λ z. z *ℤ at (line ls k).entries i) (form.own k lt) in
      sym (e ∙ f)

  sum_passes : (a b : ℤ) (u v : ℕ → ℤ) → Passes w d ls u → Passes w d ls v
      → Passes w d ls (λ i. (a *ℤ u i) +ℤ (b *ℤ v i))
  sum_passes a b u v p q i lt =
      let e = fill_sum ls a b u v i in
      let f = mul_add d (a *ℤ u i) (b *ℤ v i) in
      let g : d *ℤ (a *ℤ u i) ≡ a *ℤ fill u ls i = mul_swap d a (u i) ∙ ap (λ z. a *ℤ z) (p i lt) in
      let h : d *ℤ (b *ℤ v i) ≡ b *ℤ fill v ls i = mul_swap d b (v i) ∙ ap (λ z. b *ℤ z) (q i lt) in
      omega (arith, ints, e, f, g, h)

  same_passes : (u v : ℕ → ℤ) → ((i : ℕ) → i < w → v i ≡ u i) → Passes w d ls u → Passes w d ls v
  same_passes u v e h i lt = ap (λ z. d *ℤ z) (e i lt) ∙ h i lt ∙ sym (fill_same w ls v u i form.within e)

  zero_passes : Passes w d ls (λ i. pos 0)
  zero_passes i lt = mul_zero d ∙ sym (fill_none ls (λ j. pos 0) i (λ k k_lt. refl))

  comb_passes : (cs : List ℤ) (us : List (List ℤ)) → All (λ u. Passes w d ls (at u)) us → Passes w d ls (comb cs us)
  comb_passes [] us h = zero_passes
  comb_passes (c ∷ cs) [] h = zero_passes
  comb_passes (c ∷ cs) (u ∷ us) h =
      same_passes (λ i. (c *ℤ at u i) +ℤ (pos 1 *ℤ comb cs us i)) (comb (c ∷ cs) (u ∷ us)) (λ i lt. omega (arith, ints))
      (sum_passes c (pos 1) (at u) (comb cs us) (h 0 [] (omega arith)) (comb_passes cs us
      (All-drop (λ x. Passes w d ls (at x)) 1 (u ∷ us) h)))

  part_passes : (k : ℤ) (v : ℕ → ℤ) → (k ≡ pos 0 → ⊥) → Passes w d ls (λ i. k *ℤ v i) → Passes w d ls v
  part_passes k v ne h i lt =
      let e : fill (λ j. k *ℤ v j) ls i ≡ k *ℤ fill v ls i = (
      let a = fill_sum ls k (pos 0) v v i in
      let b = fill_same w ls (λ j. k *ℤ v j) (λ j. (k *ℤ v j) +ℤ (pos 0 *ℤ v j)) i form.within
      (λ j j_lt. let z = zero_mul (v j) in omega (arith, ints, z)) in
      let z = zero_mul (fill v ls i) in
      omega (arith, ints, a, b, z)) in
      cancel k (d *ℤ v i) (fill v ls i) ne (mul_swap k d (v i) ∙ h i lt ∙ e)

  -- the members are exactly the vectors that pass
  pub in_passes : (v : ℕ → ℤ) → InSpan w (vectors ls) v → Passes w d ls v
  in_passes v h = part_passes h.times v h.not_zero (same_passes (comb h.factors (vectors ls)) (λ i. h.times *ℤ v i)
      h.exact
      (comb_passes h.factors (vectors ls) (λ k e lt. let k_lt : k
      < length ls = (let n = vectors_length ls in omega (arith, n, lt)) in rw (vectors_at ls k e k_lt)
      (row_passes k k_lt))))

  -- a member that is 0 at the pivots is 0
  pub zero_at_pivots : (v : ℕ → ℤ) → InSpan w (vectors ls) v
      → ((k : ℕ) → k < length ls → v (line ls k).pivot ≡ pos 0) → (i : ℕ) → i < w → v i ≡ pos 0
  zero_at_pivots v h z i lt =
      let e = in_passes v h i lt ∙ fill_none ls v i z in
      elim (product_zero d (v i) e) [ inl y ↦ absurd (d_not_zero y) | inr y ↦ y ]

  -- so members that agree at the pivots are equal
  pub agree_at_pivots : (u v : ℕ → ℤ) → InSpan w (vectors ls) u → InSpan w (vectors ls) v
      → ((k : ℕ) → k < length ls → u (line ls k).pivot ≡ v (line ls k).pivot) → (i : ℕ) → i < w → u i ≡ v i
  agree_at_pivots u v p q e i lt =
      let s = in_sum w (vectors ls) (pos 1) (neg_ℤ (pos 1)) u v p q in
      let z = zero_at_pivots (λ j. (pos 1 *ℤ u j) +ℤ (neg_ℤ (pos 1) *ℤ v j)) s
      (λ k k_lt. let f = e k k_lt in omega (arith, ints, f)) i lt in
      omega (arith, ints, z)

  pub row_in : (k : ℕ) → k < length ls → InSpan w (vectors ls) (at (line ls k).entries)
  row_in k lt = passes_in (at (line ls k).entries) (row_passes k lt)

  pub pivot_is : (k : ℕ) → k < length ls → IsPivot w (InSpan w (vectors ls)) (line ls k).pivot
  pivot_is k lt = record {
    within = form.within k lt;
    vector = at (line ls k).entries;
    member = row_in k lt;
    entry = λ e. let f = form.own k lt in d_not_zero (sym f ∙ e);
    before = λ i i_lt. form.before k i lt i_lt;
  }

  -- every pivot is one of a row
  pub pivot_of : (q : ℕ) → IsPivot w (InSpan w (vectors ls)) q → (k : ℕ) × (k < length ls) × ((line ls k).pivot ≡ q)
  pivot_of q p = go (length ls) (omega arith) (λ k lt l. absurd (omega (arith, lt, l)))
    where
      -- v is 0 at the pivots before q, and the rows of those after q are 0 at q
      none : ((k : ℕ) → k < length ls → (line ls k).pivot ≡ q → ⊥) → ⊥
      none ne =
          let z = fill_each_none ls p.vector q (λ k lt. elim (cases_lt (line ls k).pivot q) [
            | inl before ↦ ap (λ y. y *ℤ at (line ls k).entries q) (p.before (line ls k).pivot before)
                ∙ zero_mul (at (line ls k).entries q)
            | inr after ↦ ap (λ y. p.vector (line ls k).pivot *ℤ y) (form.before k q lt
                (let n : (line ls k).pivot ≡ q → ⊥ = ne k lt in omega (arith, n, after)))
                ∙ mul_zero (p.vector (line ls k).pivot)
          ]) in
          let e : d *ℤ p.vector q ≡ pos 0 = in_passes p.vector p.member q p.within ∙ z in
          elim (product_zero d (p.vector q) e) [ inl y ↦ d_not_zero y | inr y ↦ p.entry y ]

      go : (n : ℕ) → n ≤ length ls → ((k : ℕ) → k < length ls → n ≤ k → (line ls k).pivot ≡ q → ⊥)
          → (k : ℕ) × (k < length ls) × ((line ls k).pivot ≡ q)
      go zero le ne = absurd (none (λ k lt. ne k lt (omega arith)))
      go (suc n) le ne = elim (cases_eq (line ls n).pivot q) [
        | inl e ↦ (n, omega (arith, le), e)
        | inr e ↦ go n (omega (arith, le)) (λ k lt l. elim (cases_eq k n) [
          | inl f ↦
              (λ g. e (ap (λ j. (line ls j).pivot) (sym f) ∙ g))
          | inr f ↦ ne k lt (let x : k ≡ n
              → ⊥ = f in omega (arith, l, x))
        ])
      ]

  -- a scaled row of another scale is the kept one, scaled
  pub cross : (e : ℤ) (r : ℕ → ℤ) (k : ℕ) → k < length ls
      → ((j m : ℕ) → j < length ls → m < length ls → (line ls j).pivot ≡ (line ls m).pivot → j ≡ m)
      → IsScaledRow w (InSpan w (vectors ls)) e (line ls k).pivot r → (i : ℕ) → i < w
      → d *ℤ r i ≡ e *ℤ at (line ls k).entries i
  cross e r k lt distinct h i i_lt =
      let z = in_sum w (vectors ls) d (neg_ℤ e) r (at (line ls k).entries) h.member (row_in k lt) in
      let all : (j : ℕ) → j < length ls → (d *ℤ r (line ls j).pivot) +ℤ (neg_ℤ e *ℤ at (line ls k).entries
      (line ls j).pivot) ≡ pos 0 = λ j j_lt. elim (cases_eq j k) [
        | inl same ↦ rw same (
            let a : d *ℤ r (line ls k).pivot ≡ d *ℤ e = ap (λ y. d *ℤ y) h.own in
            let b : neg_ℤ e *ℤ at (line ls k).entries (line ls k).pivot
            ≡ neg_ℤ e *ℤ d = ap (λ y. neg_ℤ e *ℤ y) (form.own k lt) in
            let c = neg_mul e d in
            let f = mul_comm d e in
            omega (arith, ints, a, b, c, f))
        | inr ne ↦ (
            let a : d *ℤ r (line ls j).pivot ≡ pos 0 = ap (λ y. d *ℤ y) (h.others (line ls j).pivot
            (pivot_is j j_lt) (λ same. ne (distinct j k j_lt lt same))) ∙ mul_zero d in
            let b : neg_ℤ e *ℤ at (line ls k).entries (line ls j).pivot
            ≡ pos 0 = ap (λ y. neg_ℤ e *ℤ y) (form.others j k j_lt lt ne) ∙ mul_zero (neg_ℤ e) in
            omega (arith, ints, a, b))
      ] in
      let zero = zero_at_pivots (λ m. (d *ℤ r m) +ℤ (neg_ℤ e *ℤ at (line ls k).entries m)) z all i i_lt in
      let c = neg_mul e (at (line ls k).entries i) in
      omega (arith, ints, zero, c)

  -- different rows have different pivots
  pub distinct : (j m : ℕ) → j < length ls → m < length ls → (line ls j).pivot ≡ (line ls m).pivot → j ≡ m
  distinct j m j_lt m_lt e = elim (cases_eq j m) [
    | inl same ↦ same
    | inr ne ↦ (let a = form.others j m j_lt m_lt ne in let b = form.own m m_lt in let f : at (line ls m).entries
        (line ls j).pivot ≡ at (line ls m).entries (line ls m).pivot = ap (at (line ls m).entries) e in absurd
        (d_not_zero (sym b ∙ sym f ∙ a)))
  ]

  pub is_scaled_row : (k : ℕ) → k < length ls
      → IsScaledRow w (InSpan w (vectors ls)) d (line ls k).pivot (at (line ls k).entries)
  is_scaled_row k lt = record {
    member = row_in k lt;
    own = form.own k lt;
    others = λ p piv ne. let f = pivot_of p piv in rw (← f.2) (form.others f.0 k f.1 lt
        (λ same. ne (sym f.2 ∙ ap (λ j. (line ls j).pivot) same)));
  }

  -- a scaled row of the same scale is the kept one
  pub same_row : (r : ℕ → ℤ) (k : ℕ) → k < length ls → IsScaledRow w (InSpan w (vectors ls)) d (line ls k).pivot r
      → (i : ℕ) → i < w → r i ≡ at (line ls k).entries i
  same_row r k lt h i i_lt = cancel d (r i) (at (line ls k).entries i) d_not_zero (cross d r k lt distinct h i i_lt)

  pub scale_is : IsScale w (InSpan w (vectors ls)) d
  scale_is = record {
    positive = form.positive;
    rows = λ q piv. let f = pivot_of q piv in (
      at (line ls f.0).entries,
      subst
          (λ (p : ℕ). IsScaledRow w (InSpan w (vectors ls)) d p (at (line ls f.0).entries)) f.2
          (is_scaled_row f.0 f.1),
    );
  }

  -- where nothing divides d and all entries, no scale is less
  pub least_is : IsCoprime w d ls → IsLeastScale w (InSpan w (vectors ls)) d
  least_is co = record {
    scale = scale_is;
    least = λ e s.
        let all : (k i : ℕ) → k < length ls → i < w → Divides d (e *ℤ at (line ls k).entries i) = λ k i lt i_lt.
        (let r = s.rows (line ls k).pivot (pivot_is k lt) in record {
          by = r.0 i;
          is = sym
              (cross e r.0 k lt distinct r.1 i i_lt);
        }) in
        let h = co d e (record { by = e; is = mul_comm e d }) all in
        divides_le d e h.by form.positive s.positive h.is;
  }
