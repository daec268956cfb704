-- The kept rows are the scaled rows of the span in the order of the pivots, and the only ones.
use Rattle.std.proofs.Common.{◌≡◌, ◌∙◌, ℕ, zero, suc, ◌<◌, ◌≤◌, ℤ, pos, List, [], ◌∷◌, length, map, slice_index_or}
use Rattle.std.proofs.Common.{refl, sym, ap, subst, arith}
use Rattle.std.proofs.lemmas.List.{length-map}
use Rattle.pungi_domain.specs.Vectors.{Vector, at}
use Rattle.pungi_domain.specs.Spans.{IsPivot, IsScaledRow, AreScaledRows}
use Rattle.pungi_affine.specs.Spans.{InSpan}
use Rattle.pungi_affine.specs.Forms.{Line, line, vectors}
use Rattle.pungi_affine.specs.Sums.{row_vectors}
use Rattle.pungi_affine.specs.States.{IsKept}
use Rattle.pungi_affine.proofs.Reduced.{pivot_is, pivot_of, is_scaled_row, least_is, same_row}
use Rattle.pungi_affine.proofs.Large.{same_scale}
use Rattle.pungi_affine.proofs.Members.{SameVectors}

abbrev ith : List ℕ → ℕ → ℕ
ith ps k = slice_index_or ps k 0

abbrev Ascends : List ℕ → Type 0
Ascends ps = (j k : ℕ) → j < k → k < length ps → ith ps j < ith ps k

abbrev Within : List ℕ → List ℕ → Type 0
Within ps qs = (k : ℕ) → k < length ps → (j : ℕ) × (j < length qs) × (ith qs j ≡ ith ps k)

tail_ascends : (p : ℕ) (ps : List ℕ) → Ascends (p ∷ ps) → Ascends ps
tail_ascends p ps a j k lt k_lt = a (suc j) (suc k) (omega (arith, lt)) (omega (arith, k_lt))

-- the first of two ascending lists with the same numbers
first_le : (p q : ℕ) (ps qs : List ℕ) → Ascends (q ∷ qs) → Within (p ∷ ps) (q ∷ qs) → q ≤ p
first_le p q ps qs a h = go (h 0 (omega arith))
  where
    go : (j : ℕ) × (j < length (q ∷ qs)) × (ith (q ∷ qs) j ≡ p) → q ≤ p
    go (zero, lt, e) = omega (arith, e)
    go (suc j, lt, e) = (let b = a 0 (suc j) (omega arith) lt in omega (arith, b, e))

tail_within : (p q : ℕ) (ps qs : List ℕ) → p ≡ q → Ascends (p ∷ ps) → Within (p ∷ ps) (q ∷ qs) → Within ps qs
tail_within p q ps qs same a h k lt = go (h (suc k) (omega (arith, lt)))
  where
    go : (j : ℕ) × (j < length (q ∷ qs)) × (ith (q ∷ qs) j ≡ ith ps k)
        → (j : ℕ) × (j < length qs) × (ith qs j ≡ ith ps k)
    go (zero, l, e) = absurd (let b = a 0 (suc k) (omega arith) (omega (arith, lt)) in omega (arith, b, e, same))
    go (suc j, l, e) = (j, omega (arith, l), e)

same_numbers : (ps qs : List ℕ) → Ascends ps → Ascends qs → Within ps qs → Within qs ps
    → (length ps ≡ length qs) × ((k : ℕ) → k < length ps → ith ps k ≡ ith qs k)
same_numbers [] [] a b h i = (refl, λ k lt. refl)
same_numbers [] (q ∷ qs) a b h i = absurd (let x = (i 0 (omega arith)).1 in omega (arith, x))
same_numbers (p ∷ ps) [] a b h i = absurd (let x = (h 0 (omega arith)).1 in omega (arith, x))
same_numbers (p ∷ ps) (q ∷ qs) a b h i =
    let e : p ≡ q = (let x = first_le p q ps qs b h in let y = first_le q p qs ps a i in omega (arith, x, y)) in
    let r = same_numbers ps qs (tail_ascends p ps a) (tail_ascends q qs b) (tail_within p q ps qs e a h)
    (tail_within q p qs ps (sym e) b i) in
    (ap suc r.0, each e r.1)
  where
    each : p ≡ q → ((k : ℕ) → k < length ps → ith ps k ≡ ith qs k) → (k : ℕ) → k < length (p ∷ ps)
        → ith (p ∷ ps) k ≡ ith (q ∷ qs) k
    each e r zero lt = e
    each e r (suc k) lt = r k (omega (arith, lt))

abbrev nothing : Vector
nothing = λ _. pos 0

pub pointwise : (w : ℕ) (us vs : List Vector) → length us ≡ length vs
    → ((k i : ℕ) → k < length us → i < w → slice_index_or us k nothing i ≡ slice_index_or vs k nothing i)
    → SameVectors w us vs
pointwise w [] [] e h = tt
pointwise w [] (v ∷ vs) e h = absurd (omega (arith, e))
pointwise w (u ∷ us) [] e h = absurd (omega (arith, e))
pointwise w (u ∷ us) (v ∷ vs) e h = (
  (λ i lt. h 0 i (omega arith) lt),
  pointwise w us vs (omega (arith, e))
      (λ k i lt i_lt. h (suc k) i (omega (arith, lt)) i_lt),
)

pub row_at : (ls : List Line) (k : ℕ) → k < length ls
    → slice_index_or (row_vectors ls) k nothing ≡ at (line ls k).entries
row_at [] k lt = absurd (omega arith)
row_at (l ∷ ls) zero lt = refl
row_at (l ∷ ls) (suc k) lt = row_at ls k (omega (arith, lt))

line_pivots : List Line → List ℕ
line_pivots ls = map (λ l. l.pivot) ls

line_pivot_at : (ls : List Line) (k : ℕ) → k < length ls → slice_index_or (line_pivots ls) k 0 ≡ (line ls k).pivot
unfolding line_pivots
line_pivot_at [] k lt = absurd (omega arith)
line_pivot_at (l ∷ ls) zero lt = refl
line_pivot_at (l ∷ ls) (suc k) lt = line_pivot_at ls k (omega (arith, lt))

line_pivot_length : (ls : List Line) → length (line_pivots ls) ≡ length ls
unfolding line_pivots
line_pivot_length ls = length-map ls (λ l. l.pivot)

pub row_length : (ls : List Line) → length (row_vectors ls) ≡ length ls
row_length ls = length-map ls (λ l. at l.entries)

module _ (w : ℕ) (d : ℤ) (ls : List Line) (kept : IsKept w d ls) where
  to_line_of : (k : ℕ) → k < length (line_pivots ls) → k < length ls
  to_line_of k lt = (let n = line_pivot_length ls in omega (arith, n, lt))

  ascends : Ascends (line_pivots ls)
  ascends j k lt k_lt =
      let k_l = to_line_of k k_lt in
      let a = line_pivot_at ls j (omega (arith, lt, k_l)) in
      let b = line_pivot_at ls k k_l in
      let o = kept.order j k lt k_l in
      omega (arith, a, b, o)

  pub scaled_rows : AreScaledRows w (InSpan w (vectors ls)) (row_vectors ls)
  scaled_rows = record {
    d = d;
    least = least_is w d ls kept.form kept.coprime;
    pivots = line_pivots ls;
    lengths = row_length ls ∙ sym (line_pivot_length ls);
    order = ascends;
    all = λ q p. let f = pivot_of w d ls kept.form q p in (
      f.0,
      (let n = line_pivot_length ls in let l = f.1 in
          omega (arith, n, l)),
      line_pivot_at ls f.0 f.1 ∙ f.2,
    );
    each = λ k lt.
        let l = to_line_of k lt in (
          subst (λ (q : ℕ). IsPivot w (InSpan w (vectors ls)) q) (sym (line_pivot_at ls k l))
              (pivot_is w d ls kept.form k l),
          subst (λ (q : ℕ). IsScaledRow w (InSpan w (vectors ls)) d q (slice_index_or (row_vectors ls) k nothing))
              (sym (line_pivot_at ls k l))
              (subst (λ (r : Vector). IsScaledRow w (InSpan w (vectors ls)) d (line ls k).pivot r)
              (sym (row_at ls k l)) (is_scaled_row w d ls kept.form k l)),
        );
  }

  -- other scaled rows are these
  pub only_rows : (rows : List Vector) → AreScaledRows w (InSpan w (vectors ls)) rows
      → SameVectors w rows (row_vectors ls)
  only_rows rows a =
      let n = same_numbers a.pivots (line_pivots ls) a.order ascends
      (λ k lt. let f = pivot_of w d ls kept.form (ith a.pivots k) (a.each k lt).0 in
      (f.0, (let m = line_pivot_length ls in let l = f.1 in omega (arith, m, l)), line_pivot_at ls f.0 f.1 ∙ f.2))
      (λ k lt. let l = to_line_of k lt in let f = a.all (line ls k).pivot (pivot_is w d ls kept.form k l) in
      (f.0, f.1, f.2 ∙ sym (line_pivot_at ls k l))) in
      let e : a.d ≡ d = same_scale w d ls kept.form kept.coprime a.d a.least in
      pointwise w rows (row_vectors ls) (a.lengths ∙ n.0 ∙ line_pivot_length ls ∙ sym (row_length ls)) (λ k i lt i_lt.
      let k_p : k < length a.pivots = (let m = a.lengths in omega (arith, m, lt)) in
      let l : k < length ls = (let x = n.0 in let m = line_pivot_length ls in omega (arith, x, m, k_p)) in
      let q : ith a.pivots k ≡ (line ls k).pivot = n.1 k k_p ∙ line_pivot_at ls k l in
      let r = subst (λ (p : ℕ). IsScaledRow w (InSpan w (vectors ls)) d p (slice_index_or rows k nothing)) q
      (subst (λ (x : ℤ). IsScaledRow w (InSpan w (vectors ls)) x (ith a.pivots k) (slice_index_or rows k nothing))
      e (a.each k k_p).1) in
      same_row w d ls kept.form (slice_index_or rows k nothing) k l r i i_lt ∙ ap (λ v. v i) (sym (row_at ls k l)))
