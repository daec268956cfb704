-- Images of vectors under a matrix, and of a span by the images of its rows.
use Rattle.std.proofs.Common.{◌≡◌, ◌∙◌, ℕ, zero, suc, ◌+◌, ◌<◌, ◌≤◌, inl, inr, ℤ, pos, ◌+ℤ◌, ◌*ℤ◌, true, List, [], ◌∷◌}
use Rattle.std.proofs.Common.{◌++◌, length, map, take, slice_index_or, refl, sym, ap, subst, arith}
use Rattle.std.specs.List.{All, list_any}
use Rattle.std.specs.Prelude.{eqb}
use Rattle.std.proofs.lemmas.Int.{ints}
use Rattle.std.proofs.lemmas.List.{length-map, length-append}
use Rattle.std.proofs.lemmas.Bool.{cases_eq, false≢true}
use Rattle.std.proofs.lemmas.Bool.Decides.{nat_tests}
use Rattle.std.proofs.lemmas.Map.Steps.{length-le_from_distinct_below}
use Rattle.std.proofs.lemmas.List.Elements.{All-drop}
use Rattle.pungi_domain.specs.Vectors.{Vector, at, row_sum, image, IsMatrixRow, IsMatrix, Image, Follows}
use Rattle.pungi_domain.specs.Spans.{Zero, LargeSums, LargeMap}
use Rattle.pungi_domain.specs.Ring.{mul_zero, mul_add, mul_swap}
use Rattle.pungi_affine.specs.Spans.{InSpan, SameMembers, comb}
use Rattle.pungi_affine.specs.Forms.{Line, line, lines, line_of, vectors}
use Rattle.pungi_affine.specs.Images.{IsImageOf, AreImagesOf}
use Rattle.pungi_affine.specs.States.{SpanState, SpanMember, IsKept}
use Rattle.pungi_affine.specs.Sums.{Sums, row_vectors, given_vectors, given_at}
use Rattle.pungi_affine.specs.declared.sum.Given.{Given}
use Rattle.pungi_affine.proofs.Closure.{in_same, in_sum, in_part, in_zero}
use Rattle.pungi_affine.proofs.Reduced.{zero_mul, vectors_at, vectors_length, row_in}
use Rattle.pungi_affine.proofs.Members.{SameVectors, vectors_self, same_swap, zero_span, large_sums_same}
use Rattle.pungi_affine.proofs.Dots.{dot_zero, dot_same}
use Rattle.pungi_affine.proofs.Sums.{sums_has, sums_meet}
use Rattle.pungi_affine.proofs.Scaled.{scaled_rows, only_rows, row_at, row_length, pointwise}
use Rattle.pungi_affine.proofs.SumLemmas.{given_vector}
use Rattle.pungi_affine.proofs.Shared.{each_more}
use Rattle.pungi_affine.proofs.LineLemmas.{lines_more}
use Rattle.pungi_affine.specs.declared.row.Row.{Row}

row_sum_same : (w : ℕ) (row : List (ℕ × ℤ)) (u v : Vector) → All (λ p. p.0 < w) row → ((i : ℕ) → i < w → u i ≡ v i)
    → row_sum row u ≡ row_sum row v
row_sum_same w [] u v h e = refl
row_sum_same w (p ∷ row) u v h e =
    let r = row_sum_same w row u v (All-drop (λ q. q.0 < w) 1 (p ∷ row) h) e in
    let s : p.1 *ℤ u p.0 ≡ p.1 *ℤ v p.0 = ap (λ z. p.1 *ℤ z) (e p.0 (h 0 p (omega arith))) in
    omega (arith, ints, r, s)

row_sum_zero : (row : List (ℕ × ℤ)) → row_sum row (λ i. pos 0) ≡ pos 0
row_sum_zero [] = refl
row_sum_zero (p ∷ row) = (let h = row_sum_zero row in let z = mul_zero p.1 in omega (arith, ints, h, z))

row_sum_linear : (row : List (ℕ × ℤ)) (a b : ℤ) (u v : Vector)
    → row_sum row (λ i. (a *ℤ u i) +ℤ (b *ℤ v i)) ≡ (a *ℤ row_sum row u) +ℤ (b *ℤ row_sum row v)
row_sum_linear [] a b u v = (let y = mul_zero a in let z = mul_zero b in omega (arith, ints, y, z))
row_sum_linear (p ∷ row) a b u v =
    let h = row_sum_linear row a b u v in
    let f = mul_add p.1 (a *ℤ u p.0) (b *ℤ v p.0) in
    let g = mul_swap p.1 a (u p.0) in
    let j = mul_swap p.1 b (v p.0) in
    let k = mul_add a (p.1 *ℤ u p.0) (row_sum row u) in
    let l = mul_add b (p.1 *ℤ v p.0) (row_sum row v) in
    omega (arith, ints, h, f, g, j, k, l)

pub image_same : (w : ℕ) (m : List (List (ℕ × ℤ))) (u v : Vector) (i : ℕ) → IsMatrix w m → i < length m
    → ((j : ℕ) → j < w → u j ≡ v j) → image m u i ≡ image m v i
image_same w m u v i ok lt e = row_sum_same w (slice_index_or m i []) u v (ok i [] lt).within e

module _ (w : ℕ) (m : List (List (ℕ × ℤ))) (ok : IsMatrix w m) (n : ℕ) (narrow : n ≡ length m) (vs : List (List ℤ))
  where
    image_comb : (cs : List ℤ) (us : List (List ℤ)) → All (λ x. InSpan n vs (image m (at x))) us
        → InSpan n vs (image m (comb cs us))
    image_comb [] us h = in_zero n vs (image m (comb [] us)) (λ i lt. row_sum_zero (slice_index_or m i []))
    image_comb (c ∷ cs) [] h = in_zero n vs (image m (comb (c ∷ cs) [])) (λ i lt. row_sum_zero (slice_index_or m i []))
    image_comb (c ∷ cs) (u ∷ us) h =
        in_same n vs (λ i. (c *ℤ image m (at u) i) +ℤ (pos 1 *ℤ image m (comb cs us) i))
        (image m (comb (c ∷ cs) (u ∷ us)))
        (λ i lt.
        let a = row_sum_linear (slice_index_or m i []) c (pos 1) (at u) (comb cs us) in
        let b = image_same w m (comb (c ∷ cs) (u ∷ us)) (λ j. (c *ℤ at u j) +ℤ (pos 1 *ℤ comb cs us j)) i ok
        (omega (arith, narrow, lt)) (λ j j_lt. omega (arith, ints)) in
        b ∙ a)
        (in_sum n vs c (pos 1) (image m (at u)) (image m (comb cs us)) (h 0 [] (omega arith))
        (image_comb cs us (All-drop (λ x. InSpan n vs (image m (at x))) 1 (u ∷ us) h)))

    -- where the images of the vectors are members, so are those of their span
    pub image_in : (us : List (List ℤ)) (v : Vector) → All (λ x. InSpan n vs (image m (at x))) us → InSpan w us v
        → InSpan n vs (image m v)
    image_in us v h p = in_part n vs p.times (image m v) p.not_zero (in_same n vs (image m (comb p.factors us))
        (λ i. p.times *ℤ image m v i)
        (λ i lt.
        let a = row_sum_linear (slice_index_or m i []) p.times (pos 0) v v in
        let b = image_same w m (λ j. (p.times *ℤ v j) +ℤ (pos 0 *ℤ v j)) (comb p.factors us) i ok
        (omega (arith, narrow, lt)) (λ j j_lt. let e = p.exact j j_lt in let z = zero_mul (v j) in omega
        (arith, ints, e, z)) in
        let z = zero_mul (image m v i) in
        omega (arith, ints, a, b, z))
        (image_comb p.factors us h))

given_at_vector : (gs : List Given) (k : ℕ) → k < length gs
    → slice_index_or (given_vectors gs) k (λ _. pos 0) ≡ at (given_at gs k)
given_at_vector [] k lt = absurd (omega arith)
given_at_vector (g ∷ gs) zero lt = refl
given_at_vector (g ∷ gs) (suc k) lt = given_at_vector gs k (omega (arith, lt))

mapped_vector : (m : List (List (ℕ × ℤ))) (us : List Vector) (k : ℕ) → k < length us
    → slice_index_or (map (image m) us) k (λ _. pos 0) ≡ image m (slice_index_or us k (λ _. pos 0))
mapped_vector m [] k lt = absurd (omega arith)
mapped_vector m (u ∷ us) zero lt = refl
mapped_vector m (u ∷ us) (suc k) lt = mapped_vector m us k (omega (arith, lt))

at_same : (us vs : List Vector) (w k i : ℕ) → SameVectors w us vs → k < length us → i < w
    → slice_index_or us k (λ _. pos 0) i ≡ slice_index_or vs k (λ _. pos 0) i
at_same [] vs w k i e lt i_lt = absurd (omega arith)
at_same (u ∷ us) [] w k i e lt i_lt = absurd e
at_same (u ∷ us) (v ∷ vs) w zero i e lt i_lt = e.0 i i_lt
at_same (u ∷ us) (v ∷ vs) w (suc k) i e lt i_lt = at_same us vs w k i e.1 (omega (arith, lt)) i_lt

same_length : (us vs : List Vector) (w : ℕ) → SameVectors w us vs → length us ≡ length vs
same_length [] [] w e = refl
same_length [] (v ∷ vs) w e = absurd e
same_length (u ∷ us) [] w e = absurd e
same_length (u ∷ us) (v ∷ vs) w e = ap suc (same_length us vs w e.1)

module _ (s : SpanState) (kept : IsKept s.width s.scale s.lines) (m : List (List (ℕ × ℤ))) (ok : IsMatrix s.width m)
    (gs : List Given) (images : AreImagesOf m s.lines gs) where
  given_length : length (given_vectors gs) ≡ length s.lines
  given_length = length-map gs given_vector ∙ images.count

  -- the images of any scaled rows are the given vectors
  pub images_same : (rows : List Vector) → SameVectors s.width rows (row_vectors s.lines)
      → SameVectors (length m) (map (image m) rows) (given_vectors gs)
  images_same rows e = pointwise (length m) (map (image m) rows) (given_vectors gs)
      (length-map rows (image m) ∙ same_length rows (row_vectors s.lines) s.width e ∙ row_length s.lines
      ∙ sym given_length) (λ k i lt i_lt.
      let k_rows : k < length rows = (let n = length-map rows (image m) in omega (arith, n, lt)) in
      let k_ls : k < length s.lines = (let n = same_length rows (row_vectors s.lines) s.width e in let o
      = row_length s.lines in omega (arith, n, o, k_rows)) in
      let k_gs : k < length gs = (let n = images.count in omega (arith, n, k_ls)) in
      ap (λ v. v i) (mapped_vector m rows k k_rows)
      ∙ image_same s.width m (slice_index_or rows k (λ _. pos 0)) (at (line s.lines k).entries) i ok i_lt
      (λ j j_lt. at_same rows (row_vectors s.lines) s.width k j e k_rows j_lt
      ∙ ap (λ v. v j) (row_at s.lines k k_ls))
      ∙ sym ((images.each k k_ls).each i i_lt).0 ∙ sym (ap (λ v. v i) (given_at_vector gs k k_gs)))

  pub map_to : (r : List ℤ) → LargeSums (length m) (InSpan (length m) []) (given_vectors gs) r
      → LargeMap s.width m (SpanMember s) r
  map_to r h = (
    row_vectors s.lines,
    scaled_rows s.width s.scale s.lines kept,
    large_sums_same (length m) (InSpan (length m) []) (Zero (length m)) (same_swap (Zero (length m))
        (InSpan (length m) []) (zero_span (length m))) (given_vectors gs) (map (image m) (row_vectors s.lines)) back r
        h,
  )
    where
      flip : (us vs : List Vector) → SameVectors (length m) us vs → SameVectors (length m) vs us
      flip [] [] e = tt
      flip [] (v ∷ vs) e = absurd e
      flip (u ∷ us) [] e = absurd e
      flip (u ∷ us) (v ∷ vs) e = ((λ i lt. sym (e.0 i lt)), flip us vs e.1)

      back : SameVectors (length m) (given_vectors gs) (map (image m) (row_vectors s.lines))
      back = flip (map (image m) (row_vectors s.lines)) (given_vectors gs) (images_same (row_vectors s.lines)
          (vectors_self s.width (row_vectors s.lines)))

  pub map_back : (r : List ℤ) → LargeMap s.width m (SpanMember s) r
      → LargeSums (length m) (InSpan (length m) []) (given_vectors gs) r
  map_back r h = large_sums_same (length m) (Zero (length m)) (InSpan (length m) []) (zero_span (length m))
      (map (image m) h.0) (given_vectors gs) (images_same h.0 (only_rows s.width s.scale s.lines kept h.0 h.1)) r h.2

  module _ (t : SpanState) (n : t.width ≡ length m) (sum : SameMembers (Sums (length m) (InSpan (length m) [])
      (given_vectors gs)) (SpanMember t)) where
    row_image_in : (k : ℕ) → k < length s.lines → SpanMember t (image m (at (line s.lines k).entries))
    row_image_in k lt =
        let k_gs : k < length gs = (let c = images.count in omega (arith, c, lt)) in
        in_same t.width (vectors t.lines) (slice_index_or (given_vectors gs) k (λ _. pos 0))
        (image m (at (line s.lines k).entries))
        (λ i i_lt. sym ((images.each k lt).each i (omega (arith, n, i_lt))).0
        ∙ sym (ap (λ v. v i) (given_at_vector gs k k_gs)))
        (sum.to (slice_index_or (given_vectors gs) k (λ _. pos 0)) (sums_has (length m) (InSpan (length m) [])
        (given_vectors gs) k (λ _. pos 0) (in_zero (length m) [] (λ i. pos 0) (λ i l. refl))
        (let c = given_length in omega (arith, c, lt))))

    rows_in : (k : ℕ) (d : List ℤ) → k < length (vectors s.lines)
        → InSpan t.width (vectors t.lines) (image m (at (slice_index_or (vectors s.lines) k d)))
    rows_in k d lt = (let l : k < length s.lines = (let c = vectors_length s.lines in omega (arith, c, lt)) in rw
        (vectors_at s.lines k d l) (row_image_in k l))

    pub map_members : (v : Vector) → SpanMember s v → SpanMember t (image m v)
    map_members v p = image_in s.width m ok t.width n (vectors t.lines) (vectors s.lines) v rows_in p

    pub map_least : Follows (length m) (Image m (SpanMember s)) (SpanMember t)
    map_least e len meets v p = sums_meet (length m) (InSpan (length m) []) (given_vectors gs) e len
        (λ x h. dot_same e x (λ i. pos 0) (λ i lt. (zero_span (length m)).back x h i (omega (arith, len, lt)))
        ∙ dot_zero e)
        (λ k lt.
        let l : k < length s.lines = (let c = given_length in omega (arith, c, lt)) in
        let k_gs : k < length gs = (let c = images.count in omega (arith, c, l)) in
        dot_same e (slice_index_or (given_vectors gs) k (λ _. pos 0)) (image m (at (line s.lines k).entries))
        (λ i i_lt. ap (λ x. x i) (given_at_vector gs k k_gs)
        ∙ ((images.each k l).each i (omega (arith, len, i_lt))).0)
        ∙ meets (image m (at (line s.lines k).entries)) (
          at (line s.lines k).entries,
          row_in s.width s.scale s.lines
              kept.form k l,
          refl,
        ))
        v (sum.back v p)

-- one more term of a row of the matrix
pub row_sum_more : (row : List (ℕ × ℤ)) (v : Vector) (k : ℕ) → k < length row
    → row_sum (take (k + 1) row) v ≡ row_sum (take k row) v +ℤ ((slice_index_or row k (0, pos 0)).1 *ℤ v
    (slice_index_or row k (0, pos 0)).0)
row_sum_more [] v k lt = absurd (omega arith)
row_sum_more (p ∷ row) v zero lt = omega (arith, ints)
row_sum_more (p ∷ row) v (suc k) lt =
    (let n : suc k + 1 ≡ suc (k + 1) = omega arith in rw n (let h = row_sum_more row v k (omega (arith, lt)) in
    omega (arith, ints, h)))

any_below : (w : ℕ) (row : List (ℕ × ℤ)) → All (λ p. p.0 < w) row → (q : ℕ)
    → list_any (eqb q) (map (λ p. p.0) row) ≡ true → q < w
any_below w [] h q e = absurd (false≢true e)
any_below w (p ∷ row) h q e = elim (cases_eq q p.0) [
  | inl same ↦ (let l = h 0 p (omega arith) in omega (arith, same, l))
  | inr ne ↦ any_below w row (All-drop (λ x. x.0 < w) 1 (p ∷ row) h) q (grind (arith, nat_tests, e, ne))
]

-- a row of a matrix has no more sources than coordinates
pub row_few : (w : ℕ) (row : List (ℕ × ℤ)) → IsMatrixRow w row → length row ≤ w
row_few w row ok =
    (let h = length-le_from_distinct_below (map (λ p. p.0) row) w ok.once (any_below w row ok.within) in let n
    = length-map row (λ p. p.0) in omega (arith, h, n))

given_front : (gs : List Given) (g : Given) (k : ℕ) → k < length gs → given_at (gs ++ g ∷ []) k ≡ given_at gs k
given_front [] g k lt = absurd (omega arith)
given_front (x ∷ gs) g zero lt = refl
given_front (x ∷ gs) g (suc k) lt = given_front gs g k (omega (arith, lt))

given_last : (gs : List Given) (g : Given) → given_at (gs ++ g ∷ []) (length gs) ≡ g.entries.items
given_last [] g = refl
given_last (x ∷ gs) g = given_last gs g

pub images_more : (m : List (List (ℕ × ℤ))) (ls : List Line) (l : Line) (gs : List Given) (g : Given)
    → AreImagesOf m ls gs → IsImageOf m l g.entries.items → AreImagesOf m (ls ++ l ∷ []) (gs ++ g ∷ [])
images_more m ls l gs g a h = record {
  count = (let x = length-append ls (l ∷ []) in let y = length-append gs (g ∷ []) in let e = a.count in omega
      (arith, x, y, e));
  each = each_more (λ k x. IsImageOf m x (given_at (gs ++ g ∷ []) k)) ls l
      (λ k lt. subst (λ (xs : List ℤ). IsImageOf m (line ls k) xs) (sym (given_front gs g k
      (let e = a.count in omega (arith, e, lt)))) (a.each k lt))
      (subst (λ (xs : List ℤ). IsImageOf m l xs) (sym (ap (λ k. given_at (gs ++ g ∷ []) k) (sym a.count)
      ∙ given_last gs g)) h);
}

pub image_rows_more : (m : List (List (ℕ × ℤ))) (rs : List Row) (k : ℕ) (r : Row) (gs : List Given) (g : Given)
    → k < length rs → r ≡ slice_index_or rs k r → AreImagesOf m (lines (take k rs)) gs
    → IsImageOf m (line_of r) g.entries.items → AreImagesOf m (lines (take (k + 1) rs)) (gs ++ g ∷ [])
image_rows_more m rs k r gs g lt is a h =
    rw (lines_more rs k r lt, ← is) (images_more m (lines (take k rs)) (line_of r) gs g a h)
