-- The rows of a span crossed with the last one that fails an equation are a form of its vectors that meet the equation.
use Rattle.std.proofs.Common.{◌≡◌, ◌∙◌, ℕ, zero, suc, ◌+◌, ◌<◌, inl, inr, ℤ, pos, neg_ℤ, ◌+ℤ◌, ◌-ℤ◌, ◌*ℤ◌, ◌<ℤ◌, List}
use Rattle.std.proofs.Common.{[], ◌∷◌, ◌++◌, length, take, slice_index_or, None, refl, sym, ap, subst, arith}
use Rattle.std.specs.List.{remove}
use Rattle.std.proofs.lemmas.Int.{ints}
use Rattle.std.proofs.lemmas.Bool.{cases_lt}
use Rattle.std.proofs.lemmas.List.{length-append}
use Rattle.std.proofs.lemmas.List.Edits.{get_or-remove_below, get_or-remove_above, length-remove}
use Rattle.pungi_domain.specs.Vectors.{Vector, at, dot, Meeting}
use Rattle.pungi_domain.specs.Ring.{mul_comm, mul_assoc, mul_zero, mul_add, mul_sub, mul_swap, add_mul, product_zero}
use Rattle.pungi_affine.specs.Spans.{InSpan, SameMembers}
use Rattle.pungi_affine.specs.Forms.{Line, line, lines, line_of, no_line, vectors, fill, IsForm}
use Rattle.pungi_affine.specs.Parts.{IsLong, AreLong}
use Rattle.pungi_affine.specs.WideForms.{IsWideForm}
use Rattle.pungi_affine.specs.Mixes.{IsWide}
use Rattle.pungi_affine.specs.Meets.{AreSums, IsLastOf, LastOf, IsCrossed, AreCrossed, IsTurned, IsMetForm}
use Rattle.pungi_affine.specs.States.{SpanState, SpanMember, IsKept}
use Rattle.pungi_affine.proofs.Closure.{in_same, in_sum, in_trans}
use Rattle.pungi_affine.proofs.Reduced.{zero_mul, neg_mul, passes_in, in_passes, row_in, vectors_at, vectors_length}
use Rattle.pungi_affine.proofs.Dots.{dot_same, dot_sum, dot_zero}
use Rattle.pungi_affine.proofs.SpanLemmas.{all_meet}
use Rattle.pungi_affine.proofs.Insert.{shifted, shifted_low, shifted_high}
use Rattle.pungi_affine.proofs.Next.{product_positive}
use Rattle.pungi_affine.proofs.LineLemmas.{lines_more}
use Rattle.pungi_affine.proofs.Shared.{each_more, more_lines, front_line, last_line}
use Rattle.pungi_affine.proofs.Exact.{each_pushed}
use Rattle.pungi_affine.specs.Rows.{row_entries}
use Rattle.pungi_affine.specs.declared.row.Row.{Row}

-- the rows' sums, times v's entries at their pivots
weigh : Vector → List Line → (ℕ → ℤ) → ℤ
weigh v [] s = pos 0
weigh v (l ∷ ls) s = (v l.pivot *ℤ s 0) +ℤ weigh v ls (λ k. s (suc k))

weigh_dot : (t : ℤ) (e : List ℤ) (v : Vector) (ls : List Line) (s : ℕ → ℤ)
    → ((k : ℕ) → k < length ls → s k ≡ t *ℤ dot e (at (line ls k).entries)) → weigh v ls s ≡ t *ℤ dot e (fill v ls)
unfolding weigh
weigh_dot t e v [] s h =
    (let z = dot_zero e in let y : t *ℤ dot e (λ i. pos 0)
    ≡ t *ℤ pos 0 = ap (λ x. t *ℤ x) z in let x = mul_zero t in omega (arith, ints, y, x))
weigh_dot t e v (l ∷ ls) s h =
    let r = weigh_dot t e v ls (λ k. s (suc k)) (λ k lt. h (suc k) (omega (arith, lt))) in
    let a = dot_sum e (v l.pivot) (pos 1) (at l.entries) (fill v ls) in
    let b = dot_same e (fill v (l ∷ ls)) (λ i. (v l.pivot *ℤ at l.entries i) +ℤ (pos 1 *ℤ fill v ls i))
    (λ i lt. omega (arith, ints)) in
    let c : t *ℤ dot e (fill v (l ∷ ls)) ≡ t *ℤ ((v l.pivot *ℤ dot e (at l.entries)) +ℤ dot e (fill v ls)) = ap
    (λ x. t *ℤ x) (omega (arith, ints, a, b)) in
    let d = mul_add t (v l.pivot *ℤ dot e (at l.entries)) (dot e (fill v ls)) in
    let f : v l.pivot *ℤ s 0 ≡ t *ℤ (v l.pivot *ℤ dot e (at l.entries)) = ap (λ x. v l.pivot *ℤ x)
    (h 0 (omega arith)) ∙ mul_swap (v l.pivot) t (dot e (at l.entries)) in
    omega (arith, ints, r, c, d, f)

-- what the crossed rows make of a vector
cross_fill : (a : ℤ) (x : ℤ) (v : Vector) (i : ℕ) (ls ms : List Line) (s : ℕ → ℤ) → length ms ≡ length ls
    → ((k : ℕ) → k < length ls → (line ms k).pivot ≡ (line ls k).pivot)
    → ((k : ℕ) → k < length ls → at (line ms k).entries i ≡ (a *ℤ at (line ls k).entries i) -ℤ (s k *ℤ x))
    → fill v ms i ≡ (a *ℤ fill v ls i) -ℤ (weigh v ls s *ℤ x)
unfolding weigh
cross_fill a x v i [] [] s n p h = (let y = mul_zero a in let z = zero_mul x in omega (arith, ints, y, z))
cross_fill a x v i [] (m ∷ ms) s n p h = absurd (omega (arith, n))
cross_fill a x v i (l ∷ ls) [] s n p h = absurd (omega (arith, n))
cross_fill a x v i (l ∷ ls) (m ∷ ms) s n p h =
    let r = cross_fill a x v i ls ms (λ k. s (suc k)) (omega (arith, n)) (λ k lt. p (suc k) (omega (arith, lt)))
    (λ k lt. h (suc k) (omega (arith, lt))) in
    let y : ℤ = at l.entries i in
    let e : v m.pivot *ℤ at m.entries i ≡ v l.pivot *ℤ ((a *ℤ y) -ℤ (s 0 *ℤ x)) = ap (λ q. v q *ℤ at m.entries i)
    (p 0 (omega arith)) ∙ ap (λ z. v l.pivot *ℤ z) (h 0 (omega arith)) in
    let f = mul_sub (v l.pivot) (a *ℤ y) (s 0 *ℤ x) in
    let g = mul_swap (v l.pivot) a y in
    let j = mul_assoc (v l.pivot) (s 0) x in
    let k = mul_add a (v l.pivot *ℤ y) (fill v ls i) in
    let q = add_mul (v l.pivot *ℤ s 0) (weigh v ls (λ k. s (suc k))) x in
    omega (arith, ints, r, e, f, g, j, k, q)

fill_append : (v : Vector) (ks ls : List Line) (i : ℕ) → fill v (ks ++ ls) i ≡ fill v ks i +ℤ fill v ls i
fill_append v [] ls i = omega (arith, ints)
fill_append v (k ∷ ks) ls i = (let h = fill_append v ks ls i in omega (arith, ints, h))

-- a row that is 0 at a coordinate may be left out there
fill_remove : (v : Vector) (ls : List Line) (p i : ℕ) → p < length ls → at (line ls p).entries i ≡ pos 0
    → fill v (remove ls p) i ≡ fill v ls i
fill_remove v [] p i lt z = absurd (omega arith)
fill_remove v (l ∷ ls) zero i lt z =
    (let e : v l.pivot *ℤ at l.entries i ≡ pos 0 = ap (λ x. v l.pivot *ℤ x) z
    ∙ mul_zero (v l.pivot) in omega (arith, ints, e))
fill_remove v (l ∷ ls) (suc p) i lt z = (let h = fill_remove v ls p i (omega (arith, lt)) z in omega (arith, ints, h))

module _ (w : ℕ) (d : ℤ) (ls : List Line) (kept : IsKept w d ls) (e : List ℤ) (e_len : length e ≡ w) (t : ℤ)
    (t_not : t ≡ pos 0 → ⊥) (s : List ℤ) (sums : AreSums t e ls s) (p : ℕ) (last : IsLastOf s p)
    (gt : pos 0 <ℤ at s p) (ms : List Line) (x : AreCrossed s p ls ms) where
  p_in : p < length ls
  p_in = (let h = last.within in let n = sums.count in omega (arith, h, n))

  p_ms : p < length ms
  p_ms = (let h = p_in in let n = x.count in omega (arith, h, n))

  a_not : at s p ≡ pos 0 → ⊥
  a_not = last.entry

  rest : List Line
  rest = remove ms p

  rest_length : length (remove ms p) + 1 ≡ length ls
  rest_length = length-remove ms p p_ms ∙ x.count

  -- the row that a row of the rest was
  old_in : (k : ℕ) → k < length (remove ms p) → shifted p k < length ls
  old_in k lt = elim (cases_lt k p) [
    | inl l ↦ (let h = shifted_low p k l in let n = rest_length in omega (arith, h, n, lt))
    | inr l ↦ (let h = shifted_high p k l in let n = rest_length in omega (arith, h, n, lt))
  ]

  old_not : (k : ℕ) → shifted p k ≡ p → ⊥
  old_not k same = elim (cases_lt k p) [
    | inl l ↦ (let h = shifted_low p k l in absurd (omega (arith, h, same, l)))
    | inr l ↦ (let h = shifted_high p k l in absurd (omega (arith, h, same, l)))
  ]

  old_once : (j k : ℕ) → shifted p j ≡ shifted p k → j ≡ k
  old_once j k same = elim (cases_lt j p) [
    | inl a ↦ (let f = shifted_low p j a in elim (cases_lt k p) [
      | inl b ↦ (let g = shifted_low p k b in omega
          (arith, f, g, same))
      | inr b ↦ (let g = shifted_high p k b in absurd (omega (arith, f, g, same, a, b)))
    ])
    | inr a ↦ (let f = shifted_high p j a in elim (cases_lt k p) [
      | inl b ↦
          (let g = shifted_low p k b in absurd (omega (arith, f, g, same, a, b)))
      | inr b ↦
          (let g = shifted_high p k b in omega (arith, f, g, same))
    ])
  ]

  rest_line : (k : ℕ) → k < length (remove ms p) → line (remove ms p) k ≡ line ms (shifted p k)
  rest_line k lt = elim (cases_lt k p) [
    | inl l ↦ rw (shifted_low p k l) (get_or-remove_below ms p no_line k l p_ms)
    | inr l ↦ rw (shifted_high p k l) (get_or-remove_above ms p no_line k l p_ms)
  ]

  entry : (k i : ℕ) → k < length ls → i < w
      → at (line ms k).entries i ≡ (at s p *ℤ at (line ls k).entries i) -ℤ (at s k *ℤ at (line ls p).entries i)
  entry k i lt i_lt = (x.each k lt).each i (let n = kept.widths k lt in omega (arith, n, i_lt))

  -- where the row at p counts for nothing
  apart : (k i : ℕ) → k < length ls → i < w → at (line ls p).entries i ≡ pos 0
      → at (line ms k).entries i ≡ at s p *ℤ at (line ls k).entries i
  apart k i lt i_lt z =
      let h = entry k i lt i_lt in
      let y : at s k *ℤ at (line ls p).entries i ≡ pos 0 = ap (λ u. at s k *ℤ u) z ∙ mul_zero (at s k) in
      omega (arith, ints, h, y)

  own : (k : ℕ) → k < length ls → (k ≡ p → ⊥) → at (line ms k).entries (line ls k).pivot ≡ at s p *ℤ d
  own k lt ne = apart k (line ls k).pivot lt (kept.form.within k lt) (kept.form.others k p lt p_in ne)
      ∙ ap (λ u. at s p *ℤ u) (kept.form.own k lt)

  others : (j k : ℕ) → j < length ls → k < length ls → (j ≡ p → ⊥) → (j ≡ k → ⊥)
      → at (line ms k).entries (line ls j).pivot ≡ pos 0
  others j k j_lt k_lt np ne = apart k (line ls j).pivot k_lt (kept.form.within j j_lt)
      (kept.form.others j p j_lt p_in np) ∙ ap (λ u. at s p *ℤ u) (kept.form.others j k j_lt k_lt ne)
      ∙ mul_zero (at s p)

  before : (k i : ℕ) → k < length ls → (k ≡ p → ⊥) → i < (line ls k).pivot → at (line ms k).entries i ≡ pos 0
  before k i lt ne i_lt =
      let i_w : i < w = (let q = kept.form.within k lt in omega (arith, q, i_lt)) in
      let h = entry k i lt i_w in
      let y : at s p *ℤ at (line ls k).entries i ≡ pos 0 = ap (λ u. at s p *ℤ u) (kept.form.before k i lt i_lt)
      ∙ mul_zero (at s p) in
      let z : at s k *ℤ at (line ls p).entries i ≡ pos 0 = elim (cases_lt k p) [
        | inl l ↦ (let o = kept.order k p l p_in in ap (λ u. at s k *ℤ u) (kept.form.before p i p_in
            (omega (arith, o, i_lt))) ∙ mul_zero (at s k))
        | inr g ↦ ap (λ u. u *ℤ at (line ls p).entries i) (last.after k (let m : k ≡ p
            → ⊥ = ne in omega (arith, g, m)) (let n = sums.count in omega (arith, n, lt)))
            ∙ zero_mul (at (line ls p).entries i)
      ] in
      omega (arith, ints, h, y, z)

  rest_pivot : (k : ℕ) → k < length (remove ms p) → (line (remove ms p) k).pivot ≡ (line ls (shifted p k)).pivot
  rest_pivot k lt = ap (λ l. l.pivot) (rest_line k lt) ∙ (x.each (shifted p k) (old_in k lt)).pivot

  rest_entry : (k i : ℕ) → k < length (remove ms p)
      → at (line (remove ms p) k).entries i ≡ at (line ms (shifted p k)).entries i
  rest_entry k i lt = ap (λ l. at l.entries i) (rest_line k lt)

  rest_form : IsForm w (at s p *ℤ d) (remove ms p)
  rest_form = record {
    positive = product_positive (at s p) d gt kept.form.positive;
    within = λ k lt. rw (rest_pivot k lt) (kept.form.within (shifted p k) (old_in k lt));
    own = λ k lt. rw (rest_pivot k lt) (rest_entry k (line ls (shifted p k)).pivot lt
        ∙ own (shifted p k) (old_in k lt) (old_not k));
    others = λ j k j_lt k_lt ne. rw (rest_pivot j j_lt) (rest_entry k (line ls (shifted p j)).pivot k_lt
        ∙ others (shifted p j) (shifted p k) (old_in j j_lt) (old_in k k_lt) (old_not j)
        (λ same. ne (old_once j k same)));
    before = λ k i lt i_lt. rest_entry k i lt ∙ before (shifted p k) i (old_in k lt) (old_not k)
        (let q = rest_pivot k lt in omega (arith, q, i_lt));
  }

  pub rest_wide : IsLong (at s p *ℤ d) → IsWideForm w (at s p *ℤ d) (remove ms p)
  rest_wide long = record {
    narrow = kept.narrow;
    few = (let n = rest_length in let f = kept.few in omega (arith, n, f));
    form = rest_form;
    order = λ j k lt k_lt.
        let j_lt : j < length (remove ms p) = omega (arith, lt, k_lt) in
        let a = rest_pivot j j_lt in
        let b = rest_pivot k k_lt in
        let o = kept.order (shifted p j) (shifted p k) (up j k lt) (old_in k k_lt) in
        omega (arith, a, b, o);
    scale = long;
    widths = λ k lt. ap (λ l. length l.entries) (rest_line k lt) ∙ (x.each (shifted p k) (old_in k lt)).lengths
        ∙ kept.widths (shifted p k) (old_in k lt);
    long = λ k lt. subst (λ (l : Line). AreLong l.entries) (sym (rest_line k lt))
        (x.each (shifted p k) (old_in k lt)).long;
  }
    where
      up : (j k : ℕ) → j < k → shifted p j < shifted p k
      up j k l = elim (cases_lt j p) [
        | inl a ↦ (let f = shifted_low p j a in elim (cases_lt k p) [
          | inl b ↦ (let g = shifted_low p k b in omega
              (arith, f, g, l))
          | inr b ↦ (let g = shifted_high p k b in omega (arith, f, g, l))
        ])
        | inr a ↦ (let f = shifted_high p j a in elim (cases_lt k p) [
          | inl b ↦ absurd (omega (arith, a, b, l))
          | inr
              b ↦ (let g = shifted_high p k b in omega (arith, f, g, l))
        ])
      ]

  -- a member that meets the equation is one of the rest
  meeting_in : (v : Vector) → InSpan w (vectors ls) v → dot e v ≡ pos 0 → InSpan w (vectors (remove ms p)) v
  meeting_in v m z = passes_in w (at s p *ℤ d) (remove ms p) rest_form v (λ i lt.
      let x_p : ℤ = at (line ls p).entries i in
      let c = cross_fill (at s p) x_p v i ls ms (at s) x.count (λ k k_lt. (x.each k k_lt).pivot)
      (λ k k_lt. entry k i k_lt lt) in
      let same = dot_same e (fill v ls) (λ j. (d *ℤ v j) +ℤ (pos 0 *ℤ v j)) (λ j j_lt. let f = in_passes w d ls
      kept.form v m j (omega (arith, e_len, j_lt)) in let y = zero_mul (v j) in omega (arith, ints, f, y)) in
      let q = dot_sum e d (pos 0) v v in
      let y = zero_mul (dot e v) in
      let dz : d *ℤ dot e v ≡ pos 0 = ap (λ u. d *ℤ u) z ∙ mul_zero d in
      let g : weigh v ls (at s) ≡ pos 0 = weigh_dot t e v ls (at s) sums.each
      ∙ ap (λ u. t *ℤ u) (omega (arith, ints, same, q, y, dz)) ∙ mul_zero t in
      let h : weigh v ls (at s) *ℤ x_p ≡ pos 0 = ap (λ u. u *ℤ x_p) g ∙ zero_mul x_p in
      let f : at s p *ℤ fill v ls i ≡ (at s p *ℤ d) *ℤ v i = ap (λ u. at s p *ℤ u)
      (sym (in_passes w d ls kept.form v m i lt)) ∙ sym (mul_assoc (at s p) d (v i)) in
      let own_zero : at (line ms p).entries i ≡ pos 0 = (let o = entry p i p_in lt in omega (arith, ints, o)) in
      let r = fill_remove v ms p i p_ms own_zero in
      omega (arith, ints, c, h, f, r))

  crossed_in : (k : ℕ) → k < length ls → InSpan w (vectors ls) (at (line ms k).entries)
  crossed_in k lt = in_same w (vectors ls) (λ i. (at s p *ℤ at (line ls k).entries i) +ℤ
      (neg_ℤ (at s k) *ℤ at (line ls p).entries i)) (at (line ms k).entries)
      (λ i i_lt. let h = entry k i lt i_lt in let n = neg_mul (at s k) (at (line ls p).entries i) in omega
      (arith, ints, h, n))
      (in_sum w (vectors ls) (at s p) (neg_ℤ (at s k)) (at (line ls k).entries) (at (line ls p).entries)
      (row_in w d ls kept.form k lt) (row_in w d ls kept.form p p_in))

  crossed_meets : (k : ℕ) → k < length ls → dot e (at (line ms k).entries) ≡ pos 0
  crossed_meets k lt =
      let a = dot_same e (at (line ms k).entries) (λ i. (at s p *ℤ at (line ls k).entries i) +ℤ
      (neg_ℤ (at s k) *ℤ at (line ls p).entries i))
      (λ i i_lt. let h = entry k i lt (omega (arith, e_len, i_lt)) in let n = neg_mul (at s k)
      (at (line ls p).entries i) in omega (arith, ints, h, n)) in
      let b = dot_sum e (at s p) (neg_ℤ (at s k)) (at (line ls k).entries) (at (line ls p).entries) in
      let n = neg_mul (at s k) (dot e (at (line ls p).entries)) in
      let f : t *ℤ (at s p *ℤ dot e (at (line ls k).entries))
      ≡ at s p *ℤ at s k = mul_swap t (at s p) (dot e (at (line ls k).entries))
      ∙ ap (λ u. at s p *ℤ u) (sym (sums.each k lt)) in
      let g : t *ℤ (at s k *ℤ dot e (at (line ls p).entries))
      ≡ at s k *ℤ at s p = mul_swap t (at s k) (dot e (at (line ls p).entries))
      ∙ ap (λ u. at s k *ℤ u) (sym (sums.each p p_in)) in
      let c = mul_comm (at s p) (at s k) in
      let h : t *ℤ ((at s p *ℤ dot e (at (line ls k).entries)) -ℤ (at s k *ℤ dot e (at (line ls p).entries)))
      ≡ pos 0 = (let y = mul_sub t (at s p *ℤ dot e (at (line ls k).entries))
      (at s k *ℤ dot e (at (line ls p).entries)) in omega (arith, ints, f, g, c, y)) in
      elim (product_zero t ((at s p *ℤ dot e (at (line ls k).entries)) -ℤ (at s k *ℤ dot e
      (at (line ls p).entries))) h) [ inl y ↦ absurd (t_not y) | inr y ↦ omega (arith, ints, a, b, n, y) ]

  rest_in : (k : ℕ) (f : List ℤ) → k < length (vectors (remove ms p))
      → InSpan w (vectors ls) (at (slice_index_or (vectors (remove ms p)) k f))
  rest_in k f lt =
      let k_lt : k < length (remove ms p) = (let n = vectors_length (remove ms p) in omega (arith, n, lt)) in
      rw (vectors_at (remove ms p) k f k_lt) (in_same w (vectors ls) (at (line ms (shifted p k)).entries)
      (at (line (remove ms p) k).entries) (λ i i_lt. rest_entry k i k_lt) (crossed_in (shifted p k)
      (old_in k k_lt)))

  pub rest_members : SameMembers (Meeting e (InSpan w (vectors ls))) (InSpan w (vectors (remove ms p)))
  rest_members = record {
    to = λ v h. meeting_in v h.0 h.1;
    back = λ v h. (
      in_trans w (vectors ls) (vectors (remove ms p)) v rest_in h,
      all_meet w (remove ms p) e e_len
          (λ k lt. rw (rest_line k lt) (crossed_meets (shifted p k) (old_in k lt))) v h,
    );
  }

-- where all rows meet the equation, all members do
pub all_members : (w : ℕ) (ls : List Line) (e : List ℤ) → length e ≡ w
    → ((k : ℕ) → k < length ls → dot e (at (line ls k).entries) ≡ pos 0)
    → SameMembers (Meeting e (InSpan w (vectors ls))) (InSpan w (vectors ls))
all_members w ls e len h = record { to = λ v m. m.0; back = λ v m. (m, all_meet w ls e len h v m) }

-- the sums with an entry above 0, or their opposites
pub turned_same : (s : List ℤ) (p : ℕ) → pos 0 <ℤ at s p → ((k : ℕ) → k < length s → IsWide (at s k)) → IsTurned s p s
turned_same s p gt wide =
    record {
      count = refl;
      times = pos 1;
      not_zero = λ e. absurd (omega (arith, ints, e));
      each = λ k lt. omega
          (arith, ints);
      positive = gt;
      wide = wide;
    }

pub turned_negated : (s r : List ℤ) (p : ℕ) → p < length s → at s p <ℤ pos 0 → length r ≡ length s
    → ((k : ℕ) → k < length r → at r k ≡ neg_ℤ (at s k)) → ((k : ℕ) → k < length s → IsWide (at s k))
    → IsTurned s p r
turned_negated s r p p_lt lt len neg wide = record {
  count = len;
  times = neg_ℤ (pos 1);
  not_zero = λ e. absurd (omega (arith, ints, e));
  each = λ k k_lt. (let n = neg k (omega (arith, len, k_lt)) in let m = neg_mul (pos 1) (at s k) in omega
      (arith, ints, n, m));
  positive = (let n = neg p (omega (arith, len, p_lt)) in omega (arith, ints, n, lt));
  wide = λ k k_lt. (let n = neg k k_lt in let h = wide k (omega (arith, len, k_lt)) in
      ((let a = h.1 in omega (arith, ints, n, a)), (let a = h.0 in omega (arith, ints, n, a))));
}

pub wide_long : (z : ℤ) → IsWide z → IsLong z
wide_long z h = ((let a = h.0 in omega (arith, ints, a)), (let a = h.1 in omega (arith, ints, a)))

-- multiples of the sums are multiples of the sums
pub turned_sums : (e : List ℤ) (ls : List Line) (s r : List ℤ) (p : ℕ) → AreSums (pos 1) e ls s
    → (t : IsTurned s p r) → AreSums t.times e ls r
turned_sums e ls s r p sums t = record {
  count = t.count ∙ sums.count;
  each = λ k lt. (let a = t.each k (let n = sums.count in omega (arith, n, lt)) in let b : at s k
      ≡ dot e (at (line ls k).entries) = (let x = sums.each k lt in omega (arith, ints, x)) in a
      ∙ ap (λ z. t.times *ℤ z) b);
  wide = λ k lt. t.wide k (let n = t.count in let m = sums.count in omega (arith, n, m, lt));
}

pub turned_last : (s r : List ℤ) (p : ℕ) → IsLastOf s p → IsTurned s p r → IsLastOf r p
turned_last s r p l t = record {
  within = (let n = t.count in let h = l.within in omega (arith, n, h));
  entry = λ e. (let h = t.positive in absurd (omega (arith, ints, h, e)));
  after = λ k lt k_lt. (let m : k < length s = (let n = t.count in omega (arith, n, k_lt)) in t.each k m
      ∙ ap (λ z. t.times *ℤ z) (l.after k lt m) ∙ mul_zero t.times);
}

pub sums_more : (e : List ℤ) (ls : List Line) (l : Line) (s : List ℤ) (z : ℤ) → AreSums (pos 1) e ls s
    → z ≡ dot e (at l.entries) → IsWide z → AreSums (pos 1) e (ls ++ l ∷ []) (s ++ z ∷ [])
sums_more e ls l s z a is wide = record {
  count = (let x = more_lines ls l in let y = length-append s (z ∷ []) in let n = a.count in omega (arith, x, y, n));
  each = λ k lt. each_pushed (λ j x. x ≡ pos 1 *ℤ dot e (at (line (ls ++ l ∷ []) j).entries)) s (length ls) z a.count
      (λ j j_lt. a.each j j_lt ∙ ap (λ y. pos 1 *ℤ dot e (at y.entries)) (sym (front_line ls l j j_lt)))
      (is ∙ (let m : dot e (at l.entries) ≡ pos 1 *ℤ dot e (at l.entries) = omega (arith, ints) in m)
      ∙ ap (λ y. pos 1 *ℤ dot e (at y.entries)) (sym (last_line ls l))) k (let x = more_lines ls l in omega
      (arith, x, lt));
  wide = λ k lt. each_pushed (λ j x. IsWide x) s (length ls) z a.count a.wide wide k
      (let x = more_lines ls l in omega (arith, x, lt));
}

pub sum_rows_more : (e : List ℤ) (rs : List Row) (k : ℕ) (r : Row) (s : List ℤ) (z : ℤ) → k < length rs
    → r ≡ slice_index_or rs k r → AreSums (pos 1) e (lines (take k rs)) s → z ≡ dot e (at (row_entries r))
    → IsWide z → AreSums (pos 1) e (lines (take (k + 1) rs)) (s ++ z ∷ [])
sum_rows_more e rs k r s z lt is a v wide =
    rw (lines_more rs k r lt, ← is) (sums_more e (lines (take k rs)) (line_of r) s z a v wide)

pub crossed_more : (s : List ℤ) (p : ℕ) (ls ms : List Line) (m : Line) (k : ℕ) → length ms ≡ k
    → ((j : ℕ) → j < k → IsCrossed (at s p) (line ls j) (at s j) (line ls p) (line ms j))
    → IsCrossed (at s p) (line ls k) (at s k) (line ls p) m → (j : ℕ) → j < k + 1
    → IsCrossed (at s p) (line ls j) (at s j) (line ls p) (line (ms ++ m ∷ []) j)
crossed_more s p ls ms m k e h last j lt =
    each_more (λ i x. IsCrossed (at s p) (line ls i) (at s i) (line ls p) x) ms m
    (λ i i_lt. h i (omega (arith, e, i_lt))) (subst (λ (n : ℕ). IsCrossed (at s p) (line ls n) (at s n) (line ls p)
    m) (sym e) last) j (let x = more_lines ms m in omega (arith, x, e, lt))

-- the whole of it: where no row fails the equation, and where one does
pub none_met : (s : SpanState) (e : List ℤ) → length e ≡ s.width → (ss : List ℤ) → AreSums (pos 1) e s.lines ss
    → LastOf ss None → SameMembers (Meeting e (SpanMember s)) (SpanMember s)
none_met s e len ss a none =
    all_members s.width s.lines e len (λ k lt. let h = a.each k lt in let z = none k
    (let n = a.count in omega (arith, n, lt)) in omega (arith, ints, h, z))

pub some_met : (s : SpanState) → IsKept s.width s.scale s.lines → (e : List ℤ) → length e ≡ s.width → (ss : List ℤ)
    → AreSums (pos 1) e s.lines ss → (p : ℕ) → IsLastOf ss p → (r : List ℤ) → IsTurned ss p r
    → (f : ℤ) (ms : List Line) → IsMetForm s.scale s.lines r p f ms
    → IsWideForm s.width f ms × SameMembers (Meeting e (SpanMember s)) (InSpan s.width (vectors ms))
some_met s kept e len ss a p last r turned f ms m =
    let sums = turned_sums e s.lines ss r p a turned in
    let l = turned_last ss r p last turned in
    let c = m.scale ∙ mul_comm s.scale (at r p) in
    let long : IsLong (at r p *ℤ s.scale) = subst (λ (z : ℤ). IsLong z) c m.long in
    let wide = rest_wide s.width s.scale s.lines kept e len turned.times turned.not_zero r sums p l turned.positive
    m.crosses m.crossed long in
    let same = rest_members s.width s.scale s.lines kept e len turned.times turned.not_zero r sums p l
    turned.positive m.crosses m.crossed in (
      subst (λ (ns : List Line). IsWideForm s.width f ns) (sym m.rows) (subst
          (λ (z : ℤ). IsWideForm s.width z (remove m.crosses p)) (sym c) wide),
      subst (λ (ns : List Line). SameMembers (Meeting e (SpanMember s)) (InSpan s.width (vectors ns))) (sym m.rows)
          same,
    )
