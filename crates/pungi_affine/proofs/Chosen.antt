-- Rows that are some of those of a kept form: their span is not large, and adding them one after the other makes it up.
use Rattle.std.proofs.Common.{◌≡◌, ◌∙◌, ℕ, zero, suc, ◌+◌, ◌-◌, ◌*◌, ◌<◌, ◌≤◌, ◌^◌, inl, inr, ℤ, pos, negsuc, ◌*ℤ◌, ◌≤ℤ◌}
use Rattle.std.proofs.Common.{◌<ℤ◌, true, List, [], ◌∷◌, length, slice_index_or, refl, sym, ap, subst, arith}
use Rattle.std.proofs.lemmas.Int.{ints, unsigned_abs-mul}
use Rattle.std.proofs.Math.Nat.{mul-le-mul_left, mul-le-mul_right}
use Rattle.std.proofs.lemmas.Bool.{false≢true}
use Rattle.std.specs.Int.RustNames.{unsigned_abs}
use Rattle.pungi_domain.specs.Vectors.{Vectors, at}
use Rattle.pungi_domain.specs.Spans.{Zero, Plus, IsScaledRow, IsLarge, IsOutside, LargeRow, LargeSums, LargeGrow}
use Rattle.pungi_affine.specs.Spans.{InSpan, SameMembers}
use Rattle.pungi_affine.specs.Forms.{Line, line, vectors, IsForm, IsBox}
use Rattle.pungi_affine.specs.States.{SpanState, SpanMember, IsKept}
use Rattle.pungi_affine.specs.Sums.{Sums, IsSum, row_vectors}
use Rattle.pungi_affine.proofs.Closure.{in_at, in_trans}
use Rattle.pungi_affine.proofs.Products.{abs_bound}
use Rattle.pungi_affine.proofs.Reduced.{cross, distinct, pivot_of, scale_is, vectors_at, vectors_length}
use Rattle.pungi_affine.proofs.Members.{same_self, same_chain, plus_same, plus_span, zero_span, large_row_same}
use Rattle.pungi_affine.proofs.SumLemmas.{grow_back}

outside_abs : (x : ℤ) → IsOutside x → 2 ^ 31 < unsigned_abs x
outside_abs (pos n) (inl h) = omega (arith, ints, h)
outside_abs (pos n) (inr h) = omega (arith, ints, h)
outside_abs (negsuc n) (inl h) = omega (arith, ints, h)
outside_abs (negsuc n) (inr h) = omega (arith, ints, h)

abs_le : (e d : ℤ) → pos 0 <ℤ e → e ≤ℤ d → unsigned_abs e ≤ unsigned_abs d
abs_le (pos m) (pos n) p h = omega (arith, ints, h)
abs_le (pos m) (negsuc n) p h = absurd (omega (arith, ints, p, h))
abs_le (negsuc m) d p h = absurd (omega (arith, ints, p))

abs_positive : (e : ℤ) → pos 0 <ℤ e → 0 < unsigned_abs e
abs_positive (pos m) p = omega (arith, ints, p)
abs_positive (negsuc m) p = absurd (omega (arith, ints, p))

too_small : (a b x y n : ℕ) → 0 < b → b ≤ a → a * x ≡ b * y → y ≤ n → n < x → ⊥
too_small a b x y n p le e s l =
    let f : b * x ≤ a * x = mul-le-mul_right x le in
    let g : b * y ≤ b * n = mul-le-mul_left b s in
    let h : b * (n + 1) ≤ b * x = mul-le-mul_left b (omega (arith, l)) in
    let i : b * (n + 1) ≡ b * n + b = grind arith in
    absurd (omega (arith, p, e, f, g, h, i))

-- an entry that is smaller by a factor
not_outside : (d e x y : ℤ) → pos 0 <ℤ e → e ≤ℤ d → d *ℤ x ≡ e *ℤ y → IsBox y → IsOutside x → ⊥
not_outside d e x y p le eq box out =
    too_small (unsigned_abs d) (unsigned_abs e) (unsigned_abs x) (unsigned_abs y) (2 ^ 31) (abs_positive e p)
    (abs_le e d p le) (sym (unsigned_abs-mul d x) ∙ ap unsigned_abs eq ∙ unsigned_abs-mul e y)
    (abs_bound (2 ^ 31) y box) (outside_abs x out)

-- rows of any scale, with no entry over 2^31
pub form_not_large : (w : ℕ) (d : ℤ) (ls : List Line) → IsForm w d ls
    → ((k i : ℕ) → k < length ls → i < w → IsBox (at (line ls k).entries i)) → IsLarge w (InSpan w (vectors ls)) → ⊥
form_not_large w d ls form small h =
    let f = pivot_of w d ls form h.q h.pivot in
    let row : IsScaledRow w (InSpan w (vectors ls)) h.d (line ls f.0).pivot h.r = subst
    (λ (x : ℕ). IsScaledRow w (InSpan w (vectors ls)) h.d x h.r) (sym f.2) h.row in
    not_outside d h.d (h.r h.i) (at (line ls f.0).entries h.i) h.least.scale.positive
    (h.least.least d (scale_is w d ls form))
    (cross w d ls form h.d h.r f.0 f.1 (distinct w d ls form) row h.i h.within) (small f.0 h.i f.1 h.within) h.large

-- the rows ms are those of ls at these places, each at most once
pub record AreChosen (ls ms : List Line) (place : ℕ → ℕ) : Type 0 where
  pub within : (k : ℕ) → k < length ms → place k < length ls
  pub is : (k : ℕ) → k < length ms → line ms k ≡ line ls (place k)
  pub once : (j k : ℕ) → j < length ms → k < length ms → (j ≡ k → ⊥) → place j ≡ place k → ⊥

-- ms are the rows of ls before these of rest, the last one first
pub record IsBefore (ls ms rest : List Line) : Type 0 where
  pub count : length ms + length rest ≡ length ls
  pub front : (j k : ℕ) → (j + k) + 1 ≡ length ms → line ms j ≡ line ls k
  pub back : (k : ℕ) → k < length rest → line rest k ≡ line ls (length ms + k)

pub none_before : (ls : List Line) → IsBefore ls [] ls
none_before ls = record {
  count = omega arith;
  front = λ j k e. absurd (omega (arith, e));
  back = λ k lt. ap (line ls) (omega arith);
}

pub before_more : (ls ms : List Line) (l : Line) (rest : List Line) → IsBefore ls ms (l ∷ rest) → IsBefore ls (l ∷ ms) rest
before_more ls ms l rest b = record {
  count = (let n = b.count in omega (arith, n));
  front = front;
  back = λ k lt. b.back (suc k) (omega (arith, lt)) ∙ ap (line ls) (omega arith);
}
  where
    front : (j k : ℕ) → (j + k) + 1 ≡ length (l ∷ ms) → line (l ∷ ms) j ≡ line ls k
    front zero k e = b.back 0 (omega arith) ∙ ap (line ls) (omega (arith, e))
    front (suc j) k e = b.front j k (omega (arith, e))

module _ (w : ℕ) (d : ℤ) (ls : List Line) (kept : IsKept w d ls) where
  pub chosen_form : (ms : List Line) (place : ℕ → ℕ) → AreChosen ls ms place → IsForm w d ms
  chosen_form ms place c = record {
    positive = kept.form.positive;
    within = λ k lt. rw (c.is k lt) (kept.form.within (place k) (c.within k lt));
    own = λ k lt. rw (c.is k lt) (kept.form.own (place k) (c.within k lt));
    others = λ j k j_lt k_lt ne. rw (c.is k k_lt, c.is j j_lt) (kept.form.others (place j) (place k) (c.within j j_lt)
        (c.within k k_lt) (c.once j k j_lt k_lt ne));
    before = λ k i lt i_lt. rw (c.is k lt) (kept.form.before (place k) i (c.within k lt) (rw (c.is k lt) at i_lt));
  }

  pub chosen_not_large : (ms : List Line) (place : ℕ → ℕ) → AreChosen ls ms place → (r : List ℤ)
      → LargeRow w (InSpan w (vectors ms)) r → ⊥
  chosen_not_large ms place c r h = form_not_large w d ms (chosen_form ms place c)
      (λ k i lt i_lt. rw (c.is k lt) (kept.small (place k) (c.within k lt) i (let e
      = kept.widths (place k) (c.within k lt) in omega (arith, e, i_lt)))) h.large

  one_chosen : (ms : List Line) (l : Line) (rest : List Line) → IsBefore ls ms (l ∷ rest)
      → AreChosen ls (l ∷ []) (λ k. length ms)
  one_chosen ms l rest b = record {
    within = λ k lt. (let n = b.count in omega (arith, n));
    is = λ k lt. (let z : k ≡ 0 = omega (arith, lt) in rw z (b.back 0 (omega arith) ∙ ap (line ls) (omega arith)));
    once = λ j k j_lt k_lt ne e. ne (omega (arith, j_lt, k_lt));
  }

  before_chosen : (ms rest : List Line) → IsBefore ls ms rest → AreChosen ls ms (λ k. (length ms - 1) - k)
  before_chosen ms rest b = record {
    within = λ k lt. (let n = b.count in omega (arith, n, lt));
    is = λ k lt. b.front k ((length ms - 1) - k) (omega (arith, lt));
    once = λ j k j_lt k_lt ne e. ne (omega (arith, j_lt, k_lt, e));
  }

  -- all rows, in the other order
  all_before : (ms : List Line) → IsBefore ls ms [] → SameMembers (InSpan w (vectors ms)) (InSpan w (vectors ls))
  all_before ms b = record {
    to = λ x h. in_trans w (vectors ls) (vectors ms) x to h;
    back = λ x h. in_trans w (vectors ms) (vectors ls) x back h;
  }
    where
      to : (k : ℕ) (e : List ℤ) → k < length (vectors ms)
          → InSpan w (vectors ls) (at (slice_index_or (vectors ms) k e))
      to k e lt =
          let n = b.count in
          let k_lt : k < length ms = (let m = vectors_length ms in omega (arith, m, lt)) in
          let j_lt : (length ms - 1) - k < length ls = omega (arith, n, k_lt) in
          let v_lt : (length ms - 1) - k < length (vectors ls) = (let m = vectors_length ls in omega (arith, m, j_lt)) in
          let same : slice_index_or (vectors ms) k e ≡ slice_index_or (vectors ls) ((length ms - 1) - k) e
          = vectors_at ms k e k_lt ∙ ap (λ l. l.entries) (b.front k ((length ms - 1) - k) (omega (arith, k_lt)))
          ∙ sym (vectors_at ls ((length ms - 1) - k) e j_lt) in
          subst (λ (v : List ℤ). InSpan w (vectors ls) (at v)) (sym same)
          (in_at w (vectors ls) ((length ms - 1) - k) e v_lt)

      back : (k : ℕ) (e : List ℤ) → k < length (vectors ls)
          → InSpan w (vectors ms) (at (slice_index_or (vectors ls) k e))
      back k e lt =
          let n = b.count in
          let k_lt : k < length ls = (let m = vectors_length ls in omega (arith, m, lt)) in
          let j_lt : (length ms - 1) - k < length ms = omega (arith, n, k_lt) in
          let v_lt : (length ms - 1) - k < length (vectors ms) = (let m = vectors_length ms in omega (arith, m, j_lt)) in
          let same : slice_index_or (vectors ls) k e ≡ slice_index_or (vectors ms) ((length ms - 1) - k) e
          = vectors_at ls k e k_lt ∙ ap (λ l. l.entries) (sym (b.front ((length ms - 1) - k) k
          (omega (arith, n, k_lt)))) ∙ sym (vectors_at ms ((length ms - 1) - k) e j_lt) in
          subst (λ (v : List ℤ). InSpan w (vectors ms) (at v)) (sym same)
          (in_at w (vectors ms) ((length ms - 1) - k) e v_lt)

  with_one : (S : Vectors) (ms : List Line) (l : Line) → SameMembers S (InSpan w (vectors ms))
      → SameMembers (Plus w S (at l.entries)) (InSpan w (vectors (l ∷ ms)))
  with_one S ms l same = same_chain (Plus w S (at l.entries)) (Plus w (InSpan w (vectors ms)) (at l.entries))
      (InSpan w (vectors (l ∷ ms)))
      (plus_same w S (InSpan w (vectors ms)) same (at l.entries) (at l.entries) (λ i lt. refl))
      (plus_span w (vectors ms) l.entries)

  pub sums_are : (S : Vectors) (ms rest : List Line) → IsBefore ls ms rest → SameMembers S (InSpan w (vectors ms))
      → SameMembers (Sums w S (row_vectors rest)) (InSpan w (vectors ls))
  sums_are S ms [] b same = same_chain S (InSpan w (vectors ms)) (InSpan w (vectors ls)) same (all_before ms b)
  sums_are S ms (l ∷ rest) b same =
      sums_are (Plus w S (at l.entries)) (l ∷ ms) rest (before_more ls ms l rest b) (with_one S ms l same)

  pub sums_not_large : (S : Vectors) (ms rest : List Line) → IsBefore ls ms rest
      → SameMembers S (InSpan w (vectors ms)) → (r : List ℤ) → LargeSums w S (row_vectors rest) r → ⊥
  sums_not_large S ms [] b same r h = h
  sums_not_large S ms (l ∷ rest) b same r (inl (inl h)) =
      chosen_not_large (l ∷ []) (λ k. length ms) (one_chosen ms l rest b) r (large_row_same w
      (Plus w (Zero w) (at l.entries)) (InSpan w (vectors (l ∷ []))) (with_one (Zero w) [] l (zero_span w)) r h)
  sums_not_large S ms (l ∷ rest) b same r (inl (inr h)) =
      chosen_not_large (l ∷ ms) (λ k. (length (l ∷ ms) - 1) - k) (before_chosen (l ∷ ms) rest
      (before_more ls ms l rest b)) r (large_row_same w (Plus w S (at l.entries)) (InSpan w (vectors (l ∷ ms)))
      (with_one S ms l same) r h)
  sums_not_large S ms (l ∷ rest) b same r (inr h) =
      sums_not_large (Plus w S (at l.entries)) (l ∷ ms) rest (before_more ls ms l rest b) (with_one S ms l same) r h

-- a span with no rows, to which those of another are added
no_lines : (ls : List Line) → length ls ≡ 0 → ls ≡ []
no_lines [] e = refl
no_lines (l ∷ ls) e = absurd (omega (arith, e))

module _ (s t : SpanState) (kept : IsKept t.width t.scale t.lines) (widths : t.width ≡ s.width)
    (none : length s.lines ≡ 0) where
  empty_same : SameMembers (SpanMember s) (InSpan t.width (vectors []))
  empty_same = subst (λ (ls : List Line). SameMembers (InSpan s.width (vectors ls)) (InSpan t.width (vectors [])))
      (sym (no_lines s.lines none)) (subst (λ (w : ℕ). SameMembers (InSpan w (vectors [])) (InSpan t.width
      (vectors []))) widths (same_self (InSpan t.width (vectors []))))

  pub copy_sum : 0 < length t.lines → IsSum s (row_vectors t.lines) t true
  copy_sum some = record {
    width = widths;
    members = subst (λ (w : ℕ). SameMembers (Sums w (SpanMember s) (row_vectors t.lines)) (SpanMember t)) widths
        (sums_are t.width t.scale t.lines kept (SpanMember s) [] t.lines (none_before t.lines) empty_same);
    unchanged = λ e. absurd (false≢true (sym e));
    rose = λ e. omega (arith, none, some);
    few = λ h. kept.few;
  }

  pub copy_not_large : (r : List ℤ) → LargeGrow s.width (SpanMember s) (SpanMember t) r → ⊥
  copy_not_large r h = sums_not_large t.width t.scale t.lines kept (SpanMember s) [] t.lines (none_before t.lines)
      empty_same r (subst (λ (w : ℕ). LargeSums w (SpanMember s) (row_vectors t.lines) r) (sym widths)
      (grow_back s t kept widths r h))
