-- Lists of coefficients, each with its coordinate: their sums, multiples, and the forms that they spread to.
use mir.Syntax.{w64}
use mir.Val.{SFits}
use Rattle.std.proofs.Common.{◌≡◌, ◌≢◌, ◌∙◌, ℕ, zero, suc, ◌+◌, ◌==◌, ◌<◌, ◌≤◌, ◌⊎◌, ℤ, pos, negsuc, ◌+ℤ◌, ◌*ℤ◌, Bool}
use Rattle.std.proofs.Common.{true, false, List, [], ◌∷◌, ◌++◌, length, map, replicate, refl, sym, ap, subst, arith}
use Rattle.std.proofs.Common.{append_assoc, append-nil, inl, inr, drop, get_or, if◌then◌else◌}
use Rattle.std.proofs.lemmas.Int.{ints}
use Rattle.std.proofs.lemmas.List.Elements.{All-append, All-head, All-map, All-nil, All-push, All-tail}
use Rattle.std.proofs.lemmas.List.FromFn.{map-range_with_len_more}
use Rattle.std.specs.List.{All, range_with_len}
use Rattle.std.specs.Ordering.{int_eq}
use Rattle.std.proofs.lemmas.List.{drop_more}
use Rattle.std.proofs.Math.ListN.{drop_of_length-le}
use Rattle.pungi_domain.specs.Ring.{mul_add, mul_zero, product_zero}
use Rattle.pungi_shape.specs.Forms.{Form, plus, times, factors_from, coefficient, factor_at, AreFactors, IsFactor}
use Rattle.pungi_shape.specs.Forms.{IsSparse, IsSum, scale}

-- ---- maps over ranges

pub map_same : {X Y : Type 0} (f g : X → Y) (xs : List X) → ((x : X) → f x ≡ g x) → map f xs ≡ map g xs
map_same f g [] h = refl
map_same f g (x ∷ xs) h = rw (h x, map_same f g xs h) refl

pub map_range_same : (f g : ℕ → ℤ) (a n : ℕ) → ((k : ℕ) → a ≤ k → k < a + n → f k ≡ g k)
    → map f (range_with_len a n) ≡ map g (range_with_len a n)
map_range_same f g a zero h = refl
map_range_same f g a (suc n) h =
    rw (
      h a (omega arith) (omega arith),
      map_range_same f g (a + 1) n (λ k low high. h k (omega (arith, low)) (omega (arith, high))),
    ) refl

pub length-map_range : (f : ℕ → ℤ) (a n : ℕ) → length (map f (range_with_len a n)) ≡ n
length-map_range f a zero = refl
length-map_range f a (suc n) = (let h = length-map_range f (a + 1) n in omega (arith, h))

pub replicate-map_range : (a n : ℕ) → map (λ (k : ℕ). pos 0) (range_with_len a n) ≡ replicate n (pos 0)
replicate-map_range a zero = refl
replicate-map_range a (suc n) = ap (λ fs. pos 0 ∷ fs) (replicate-map_range (a + 1) n)

pub plus-map_range : (f g : ℕ → ℤ) (a n : ℕ)
    → plus (map f (range_with_len a n)) (map g (range_with_len a n)) ≡ map (λ k. f k +ℤ g k) (range_with_len a n)
plus-map_range f g a zero = refl
plus-map_range f g a (suc n) = ap (λ fs. (f a +ℤ g a) ∷ fs) (plus-map_range f g (a + 1) n)

pub times-map : (n : ℤ) (f : ℕ → ℤ) (ks : List ℕ) → times n (map f ks) ≡ map (λ k. n *ℤ f k) ks
times-map n f [] = refl
times-map n f (k ∷ ks) = ap (λ fs. (n *ℤ f k) ∷ fs) (times-map n f ks)

pub All-map_range : (P : ℤ → Type 0) (f : ℕ → ℤ) (a n k : ℕ) → All P (map f (range_with_len a n)) → a ≤ k → k < a + n
    → P (f k)
All-map_range P f a zero k h low high = absurd (omega (arith, low, high))
All-map_range P f a (suc n) k h low high =
    go (a == k) refl (λ lt. All-map_range P f (a + 1) n k (All-tail P (f a) (map f (range_with_len (a + 1) n)) h) lt
    (omega (arith, high)))
  where
    go : (b : Bool) → (a == k) ≡ b → (a + 1 ≤ k → P (f k)) → P (f k)
    go true e more =
        let s : a ≡ k = grind (arith, e) in
        subst (λ i. P (f i)) s (All-head P (f a) (map f (range_with_len (a + 1) n)) h)
    go false e more = more (grind (arith, e, low))

-- ---- coefficients

pub coefficient-append : (fs gs : List (ℕ × ℤ)) (k : ℕ)
    → coefficient (fs ++ gs) k ≡ coefficient fs k +ℤ coefficient gs k
coefficient-append [] gs k = omega (arith, ints)
coefficient-append (p ∷ fs) gs k = (let h = coefficient-append fs gs k in omega (arith, ints, h))

-- before the first one
pub coefficient-before : (fs : List (ℕ × ℤ)) (j k : ℕ) → AreFactors j fs → k < j → coefficient fs k ≡ pos 0
coefficient-before [] j k h lt = refl
coefficient-before (p ∷ fs) j k h lt =
    let ne : (k == p.0) ≡ false = grind (arith, h.0, lt) in
    let e = coefficient-before fs (p.0 + 1) k h.3 (omega (arith, h.0, lt)) in
    rw ne (omega (arith, ints, e))

-- past the last one
pub coefficient-past : (fs : List (ℕ × ℤ)) (w k : ℕ) → All (λ p. p.0 < w) fs → w ≤ k → coefficient fs k ≡ pos 0
coefficient-past [] w k h le = refl
coefficient-past (p ∷ fs) w k h le =
    let lt : p.0 < w = All-head (λ p. p.0 < w) p fs h in
    let ne : (k == p.0) ≡ false = grind (arith, lt, le) in
    let e = coefficient-past fs w k (All-tail (λ p. p.0 < w) p fs h) le in
    rw ne (omega (arith, ints, e))

pub coefficient-here : (p : ℕ × ℤ) (fs : List (ℕ × ℤ)) (j : ℕ) → AreFactors j (p ∷ fs)
    → coefficient (p ∷ fs) p.0 ≡ p.1
coefficient-here p fs j h =
    let e = coefficient-before fs (p.0 + 1) p.0 h.3 (omega arith) in
    let s : (p.0 == p.0) ≡ true = grind arith in
    rw s (omega (arith, ints, e))

-- ---- the stored list

pub not_zero : (c : ℤ) → c ≢ pos 0 → int_eq c (pos 0) ≡ false
not_zero (pos zero) ne = absurd (ne refl)
not_zero (pos (suc n)) ne = grind (arith, ints)
not_zero (negsuc n) ne = refl

none_below : (fs : List (ℕ × ℤ)) (j : ℕ) → AreFactors j fs → All (λ p. p.0 < j) fs → [] ≡ fs
none_below [] j h below = refl
none_below (p ∷ fs) j h below =
    let lt : p.0 < j = All-head (λ p. p.0 < j) p fs below in absurd (omega (arith, lt, h.0))

-- one that starts later
pub AreFactors-later : (fs : List (ℕ × ℤ)) (p : ℕ × ℤ) (j k : ℕ) → AreFactors j (p ∷ fs) → k ≤ p.0
    → AreFactors k (p ∷ fs)
AreFactors-later fs p j k h le = (le, h.1, h.2, h.3)

pub factors-dense : (fs : List (ℕ × ℤ)) (j n : ℕ) → AreFactors j fs → All (λ p. p.0 < j + n) fs
    → factors_from j (map (coefficient fs) (range_with_len j n)) ≡ fs
factors-dense fs j zero h below =
    none_below fs j h (λ i d lt. let b : _ = below i d lt in omega (arith, b))
factors-dense [] j (suc n) h below = factors-dense [] (j + 1) n tt (All-nil _)
factors-dense (p ∷ fs) j (suc n) h below =
    go (j == p.0) refl (factors-dense fs (j + 1) n) (factors-dense (p ∷ fs) (j + 1) n)
  where
    below_more : All (λ q. q.0 < (j + 1) + n) (p ∷ fs)
    below_more i d lt = (let b = below i d lt in omega (arith, b))

    go : (b : Bool) → (j == p.0) ≡ b
        → (AreFactors (j + 1) fs → All (λ q. q.0 < (j + 1) + n) fs
        → factors_from (j + 1) (map (coefficient fs) (range_with_len (j + 1) n)) ≡ fs)
        → (AreFactors (j + 1) (p ∷ fs) → All (λ q. q.0 < (j + 1) + n) (p ∷ fs)
        → factors_from (j + 1) (map (coefficient (p ∷ fs)) (range_with_len (j + 1) n)) ≡ p ∷ fs)
        → factors_from j (map (coefficient (p ∷ fs)) (range_with_len j (suc n))) ≡ p ∷ fs
    go true e rest more =
        let s : j ≡ p.0 = grind (arith, e) in
        let here : coefficient (p ∷ fs) j ≡ p.1 = rw s (coefficient-here p fs j h) in
        let z = not_zero p.1 h.1 in
        let later : AreFactors (j + 1) fs = rw s h.3 in
        let same = map_range_same (coefficient (p ∷ fs)) (coefficient fs) (j + 1) n
        (λ k low high. let ne : (k == p.0) ≡ false = grind (arith, s, low) in rw ne (omega (arith, ints))) in
        rw (here, z, same, rest later (All-tail (λ q. q.0 < (j + 1) + n) p fs below_more)) (rw s refl)
    go false e rest more =
        let lt : j + 1 ≤ p.0 = grind (arith, e, h.0) in
        let none = coefficient-before (p ∷ fs) (j + 1) j (AreFactors-later fs p j (j + 1) h lt) (omega arith) in
        rw none (more (AreFactors-later fs p j (j + 1) h lt) below_more)

-- ---- sums of lists, item by item

pub sorted_tail : (k : ℕ) (p : ℕ × ℤ) (fs : List (ℕ × ℤ)) → AreFactors k (p ∷ fs) → AreFactors k fs
sorted_tail k p [] h = tt
sorted_tail k p (q ∷ fs) h = (omega (arith, h.0, h.3.0), h.3.1, h.3.2, h.3.3)

below_head : (w : ℕ) (p : ℕ × ℤ) (fs : List (ℕ × ℤ)) → All (λ x. x.0 < w) (p ∷ fs) → p.0 < w
below_head w p fs h = All-head (λ x. x.0 < w) p fs h

below_tail : (w : ℕ) (p : ℕ × ℤ) (fs : List (ℕ × ℤ)) → All (λ x. x.0 < w) (p ∷ fs) → All (λ x. x.0 < w) fs
below_tail w p fs h = All-tail (λ x. x.0 < w) p fs h

below_push : (w : ℕ) (out : List (ℕ × ℤ)) (p : ℕ × ℤ) → All (λ x. x.0 < w) out → p.0 < w
    → All (λ x. x.0 < w) (out ++ p ∷ [])
below_push w out p h lt = All-push (λ x. x.0 < w) out p h lt

-- without one in the middle
pub sorted_skip : (k : ℕ) (out : List (ℕ × ℤ)) (p : ℕ × ℤ) (fs : List (ℕ × ℤ)) → AreFactors k (out ++ p ∷ fs)
    → AreFactors k (out ++ fs)
sorted_skip k [] p fs h = sorted_tail k p fs h
sorted_skip k (o ∷ out) p fs h = (h.0, h.1, h.2, sorted_skip (o.0 + 1) out p fs h.3)

-- with another coefficient there
pub sorted_replace : (k : ℕ) (out : List (ℕ × ℤ)) (p : ℕ × ℤ) (c : ℤ) (fs : List (ℕ × ℤ))
    → AreFactors k (out ++ p ∷ fs) → c ≢ pos 0 → IsFactor c → AreFactors k (out ++ (p.0, c) ∷ fs)
sorted_replace k [] p c fs h ne is = (h.0, ne, is, h.3)
sorted_replace k (o ∷ out) p c fs h ne is = (h.0, h.1, h.2, sorted_replace (o.0 + 1) out p c fs h.3 ne is)

abbrev pub IsBefore : ℕ × ℤ → List (ℕ × ℤ) → Type 0
IsBefore p [] = Unit {0}
IsBefore p (q ∷ gs) = p.0 < q.0

-- one in front of what comes later
pub sorted_insert : (k : ℕ) (out : List (ℕ × ℤ)) (p : ℕ × ℤ) (fs gs : List (ℕ × ℤ)) → AreFactors k (out ++ p ∷ fs)
    → AreFactors k (out ++ gs) → IsBefore p gs → AreFactors k (out ++ p ∷ gs)
sorted_insert k [] p fs [] h g b = (h.0, h.1, h.2, tt)
sorted_insert k [] p fs (q ∷ gs) h g b = (h.0, h.1, h.2, (omega (arith, b), g.1, g.2, g.3))
sorted_insert k (o ∷ out) p fs gs h g b = (h.0, h.1, h.2, sorted_insert (o.0 + 1) out p fs gs h.3 g.3 b)

sorted_start : (k : ℕ) (out : List (ℕ × ℤ)) (p : ℕ × ℤ) (fs : List (ℕ × ℤ)) → AreFactors k (out ++ p ∷ fs) → k ≤ p.0
sorted_start k [] p fs h = h.0
sorted_start k (o ∷ out) p fs h = (let b = sorted_start (o.0 + 1) out p fs h.3 in omega (arith, b, h.0))

pub sorted_end : (k : ℕ) (out fs : List (ℕ × ℤ)) → AreFactors k (out ++ fs) → AreFactors 0 fs
sorted_end k [] [] h = tt
sorted_end k [] (p ∷ fs) h = (omega arith, h.1, h.2, h.3)
sorted_end k (o ∷ out) fs h = sorted_end (o.0 + 1) out fs h.3

-- nothing stands at the coordinate of a later one
pub coefficient-front : (k : ℕ) (out : List (ℕ × ℤ)) (p : ℕ × ℤ) (fs : List (ℕ × ℤ)) → AreFactors k (out ++ p ∷ fs)
    → coefficient out p.0 ≡ pos 0
coefficient-front k [] p fs h = refl
coefficient-front k (o ∷ out) p fs h =
    let b = sorted_start (o.0 + 1) out p fs h.3 in
    let ne : (p.0 == o.0) ≡ false = grind (arith, b) in
    rw ne (let e = coefficient-front (o.0 + 1) out p fs h.3 in omega (arith, ints, e))

pub coefficient-rest : (p : ℕ × ℤ) (fs : List (ℕ × ℤ)) (k : ℕ) → AreFactors k (p ∷ fs) → coefficient fs p.0 ≡ pos 0
coefficient-rest p fs k h = coefficient-before fs (p.0 + 1) p.0 h.3 (omega arith)

-- so far these are summed up, and those are left
pub record IsMerged (fs gs out left right : List (ℕ × ℤ)) : Type 0 where
  pub left_sorted : AreFactors 0 (out ++ left)
  pub right_sorted : AreFactors 0 (out ++ right)
  pub left_below : (w : ℕ) → All (λ p. p.0 < w) fs → All (λ p. p.0 < w) left
  pub right_below : (w : ℕ) → All (λ p. p.0 < w) gs → All (λ p. p.0 < w) right
  pub below : (w : ℕ) → All (λ p. p.0 < w) fs → All (λ p. p.0 < w) gs → All (λ p. p.0 < w) out
  pub sums : (k : ℕ)
      → (coefficient out k +ℤ coefficient left k) +ℤ coefficient right k ≡ coefficient fs k +ℤ coefficient gs k

pub merged_start : (fs gs : List (ℕ × ℤ)) → AreFactors 0 fs → AreFactors 0 gs → IsMerged fs gs [] fs gs
merged_start fs gs h g = record {
  left_sorted = h;
  right_sorted = g;
  left_below = λ w b. b;
  right_below = λ w b. b;
  below = λ w a b. All-nil _;
  sums = λ k. omega (arith, ints);
}

one_sum : (out : List (ℕ × ℤ)) (p : ℕ × ℤ) (k : ℕ)
    → coefficient (out ++ p ∷ []) k ≡ coefficient out k +ℤ ((if k == p.0 then p.1 else pos 0) +ℤ pos 0)
one_sum out p k = coefficient-append out (p ∷ []) k

pub merged_left : (fs gs out left right : List (ℕ × ℤ)) (p q : ℕ × ℤ)
    → IsMerged fs gs out (p ∷ left) (q ∷ right) → p.0 < q.0 → IsMerged fs gs (out ++ p ∷ []) left (q ∷ right)
merged_left fs gs out left right p q m lt = record {
  left_sorted = rw append_assoc m.left_sorted;
  right_sorted = rw append_assoc (sorted_insert 0 out p left (q ∷ right) m.left_sorted m.right_sorted lt);
  left_below = λ w b. below_tail w p left (m.left_below w b);
  right_below = m.right_below;
  below = λ w a b. below_push w out p (m.below w a b) (below_head w p left (m.left_below w a));
  sums = λ k. (let e = m.sums k in let o = one_sum out p k in omega (arith, ints, e, o));
}

pub merged_right : (fs gs out left right : List (ℕ × ℤ)) (p q : ℕ × ℤ)
    → IsMerged fs gs out (p ∷ left) (q ∷ right) → q.0 < p.0 → IsMerged fs gs (out ++ q ∷ []) (p ∷ left) right
merged_right fs gs out left right p q m lt = record {
  left_sorted = rw append_assoc (sorted_insert 0 out q right (p ∷ left) m.right_sorted m.left_sorted lt);
  right_sorted = rw append_assoc m.right_sorted;
  left_below = m.left_below;
  right_below = λ w b. below_tail w q right (m.right_below w b);
  below = λ w a b. below_push w out q (m.below w a b) (below_head w q right (m.right_below w b));
  sums = λ k. (let e = m.sums k in let o = one_sum out q k in omega (arith, ints, e, o));
}

-- both stand at one coordinate: their sum is the whole
pub merged_sum : (fs gs out left right : List (ℕ × ℤ)) (p q : ℕ × ℤ)
    → IsMerged fs gs out (p ∷ left) (q ∷ right) → p.0 ≡ q.0
    → p.1 +ℤ q.1 ≡ coefficient fs p.0 +ℤ coefficient gs p.0
merged_sum fs gs out left right p q m same =
    let e = m.sums p.0 in
    let o = coefficient-front 0 out p left m.left_sorted in
    let l = coefficient-here p left 0 (sorted_end 0 out (p ∷ left) m.left_sorted) in
    let r : coefficient (q ∷ right) p.0 ≡ q.1 =
    rw same (coefficient-here q right 0 (sorted_end 0 out (q ∷ right) m.right_sorted)) in
    omega (arith, ints, e, o, l, r)

zero_from : (c : ℤ) → int_eq c (pos 0) ≡ true → c ≡ pos 0
zero_from (pos zero) e = refl
zero_from (pos (suc n)) e = absurd (grind (arith, ints, e))
zero_from (negsuc n) e = cc

pub not_zero_from : (c : ℤ) → int_eq c (pos 0) ≡ false → c ≢ pos 0
not_zero_from c e h = (let t : int_eq c (pos 0) ≡ true = rw h refl in cc)

pub factor_sum : (out : List (ℕ × ℤ)) (j : ℕ) (c : ℤ) (k : ℕ)
    → coefficient (out ++ factor_at j c) k ≡ coefficient out k +ℤ (if k == j then c else pos 0)
factor_sum out j c k = go (int_eq c (pos 0)) refl
  where
    go : (b : Bool) → int_eq c (pos 0) ≡ b
        → coefficient (out ++ factor_at j c) k ≡ coefficient out k +ℤ (if k == j then c else pos 0)
    go true e =
        let z : c ≡ pos 0 = zero_from c e in
        let n : (if k == j then pos 0 else pos 0) ≡ pos 0 = grind arith in
        rw (z, n, append-nil out) (omega (arith, ints))
    go false e =
        rw e (let o = one_sum out (j, c) k in omega (arith, ints, o))

both_coefficient : (k : ℕ) (p q : ℕ × ℤ) → p.0 ≡ q.0
    → (if k == p.0 then p.1 +ℤ q.1 else pos 0) ≡ (if k == p.0 then p.1 else pos 0) +ℤ (if k == q.0 then q.1 else pos 0)
both_coefficient k p q same = rw (← same) (go (k == p.0))
  where
    go : (b : Bool) → (if b then p.1 +ℤ q.1 else pos 0) ≡ (if b then p.1 else pos 0) +ℤ (if b then q.1 else pos 0)
    go true = refl
    go false = refl

both_sorted : (out left : List (ℕ × ℤ)) (p : ℕ × ℤ) (c : ℤ) → AreFactors 0 (out ++ p ∷ left) → IsFactor c
    → AreFactors 0 ((out ++ factor_at p.0 c) ++ left)
both_sorted out left p c h is = go (int_eq c (pos 0)) refl
  where
    go : (b : Bool) → int_eq c (pos 0) ≡ b → AreFactors 0 ((out ++ factor_at p.0 c) ++ left)
    go true e = rw (e, append-nil out) (sorted_skip 0 out p left h)
    go false e = rw (e, append_assoc) (sorted_replace 0 out p c left h (not_zero_from c e) is)

both_below : (w : ℕ) (out : List (ℕ × ℤ)) (j : ℕ) (c : ℤ) → All (λ x. x.0 < w) out → j < w
    → All (λ x. x.0 < w) (out ++ factor_at j c)
both_below w out j c h lt = go (int_eq c (pos 0)) refl
  where
    go : (b : Bool) → int_eq c (pos 0) ≡ b → All (λ x. x.0 < w) (out ++ factor_at j c)
    go true e = rw (e, append-nil out) h
    go false e = rw e (below_push w out (j, c) h lt)

pub merged_both : (fs gs out left right : List (ℕ × ℤ)) (p q : ℕ × ℤ)
    → IsMerged fs gs out (p ∷ left) (q ∷ right) → p.0 ≡ q.0 → IsFactor (p.1 +ℤ q.1)
    → IsMerged fs gs (out ++ factor_at p.0 (p.1 +ℤ q.1)) left right
merged_both fs gs out left right p q m same is = record {
  left_sorted = both_sorted out left p (p.1 +ℤ q.1) m.left_sorted is;
  right_sorted = rw same (both_sorted out right q (p.1 +ℤ q.1) m.right_sorted is);
  left_below = λ w b. below_tail w p left (m.left_below w b);
  right_below = λ w b. below_tail w q right (m.right_below w b);
  below = λ w a b. both_below w out p.0 (p.1 +ℤ q.1) (m.below w a b) (below_head w p left (m.left_below w a));
  sums = λ k. (let e = m.sums k in
      let o = factor_sum out p.0 (p.1 +ℤ q.1) k in
      let b = both_coefficient k p q same in
      omega (arith, ints, e, o, b));
}

pub merged_end : (fs gs out left right : List (ℕ × ℤ)) → IsMerged fs gs out left right
    → (left ≡ []) ⊎ (right ≡ []) → IsSum fs gs ((out ++ left) ++ right)
merged_end fs gs out left right m ends = record {
  sorted = elim ends [
    | inl e ↦ rw (e, append-nil out) m.right_sorted
    | inr e ↦ rw (e, append-nil (out ++ left)) m.left_sorted
  ];
  below = λ w a b. All-append (λ x. x.0 < w) (out ++ left) right
      (All-append (λ x. x.0 < w) out left (m.below w a b) (m.left_below w a)) (m.right_below w b);
  sums = λ k. (let e = m.sums k in
      let o = coefficient-append (out ++ left) right k in
      let l = coefficient-append out left k in
      omega (arith, ints, e, o, l));
}

pub drop_all : (fs : List (ℕ × ℤ)) (i : ℕ) → length fs ≤ i → drop i fs ≡ []
drop_all fs i h = drop_of_length-le fs h

pub lt_or_ge : (m n : ℕ) → (m < n) ⊎ (n ≤ m)
lt_or_ge m zero = inr (omega arith)
lt_or_ge zero (suc n) = inl (omega arith)
lt_or_ge (suc m) (suc n) =
    elim (lt_or_ge m n) [ inl h ↦ inl (omega (arith, h)) | inr h ↦ inr (omega (arith, h)) ]

-- ---- numbers of the machine

pub factor_fits : (z : ℤ) → IsFactor z → SFits w64 z
factor_fits z h = grind (arith, ints, h)

pub factor_each : (fs : List (ℕ × ℤ)) (j i : ℕ) (d : ℕ × ℤ) → AreFactors j fs → i < length fs
    → IsFactor (get_or fs i d).1
factor_each [] j i d h lt = absurd (omega arith)
factor_each (p ∷ fs) j zero d h lt = h.2
factor_each (p ∷ fs) j (suc i) d h lt = factor_each fs (p.0 + 1) i d h.3 (omega (arith, lt))

-- ---- multiples

pub coefficient-at : (fs : List (ℕ × ℤ)) (j i : ℕ) (d : ℕ × ℤ) → AreFactors j fs → i < length fs
    → coefficient fs (get_or fs i d).0 ≡ (get_or fs i d).1
coefficient-at [] j i d h lt = absurd (omega arith)
coefficient-at (p ∷ fs) j zero d h lt = coefficient-here p fs j h
coefficient-at (p ∷ fs) j (suc i) d h lt =
    let e = coefficient-at fs (p.0 + 1) i d h.3 (omega (arith, lt)) in
    let b = first_at fs (p.0 + 1) i d h.3 (omega (arith, lt)) in
    let ne : ((get_or fs i d).0 == p.0) ≡ false = grind (arith, b) in
    rw ne (omega (arith, ints, e))
  where
    first_at : (fs : List (ℕ × ℤ)) (j i : ℕ) (d : ℕ × ℤ) → AreFactors j fs → i < length fs → j ≤ (get_or fs i d).0
    first_at [] j i d h lt = absurd (omega arith)
    first_at (p ∷ fs) j zero d h lt = h.0
    first_at (p ∷ fs) j (suc i) d h lt =
        (let b = first_at fs (p.0 + 1) i d h.3 (omega (arith, lt)) in omega (arith, b, h.0))

pub coefficient-scale : (n : ℤ) (fs : List (ℕ × ℤ)) (k : ℕ) → coefficient (scale n fs) k ≡ n *ℤ coefficient fs k
coefficient-scale n [] k = (let z = mul_zero n in omega (arith, ints, z))
coefficient-scale n (p ∷ fs) k =
    let e = coefficient-scale n fs k in
    let a = mul_add n (if k == p.0 then p.1 else pos 0) (coefficient fs k) in
    let t = times_if (k == p.0) in
    omega (arith, ints, e, a, t)
  where
    times_if : (b : Bool) → (if b then n *ℤ p.1 else pos 0) ≡ n *ℤ (if b then p.1 else pos 0)
    times_if true = refl
    times_if false = (let z = mul_zero n in omega (arith, ints, z))

scale_sorted : (n : ℤ) (fs : List (ℕ × ℤ)) (j : ℕ) → n ≢ pos 0 → AreFactors j fs
    → ((i : ℕ) (d : ℕ × ℤ) → i < length fs → IsFactor (n *ℤ (get_or fs i d).1)) → AreFactors j (scale n fs)
scale_sorted n [] j ne h is = tt
scale_sorted n (p ∷ fs) j ne h is = (
  h.0,
  λ z. elim (product_zero n p.1 z) [ inl e ↦ ne e | inr e ↦ h.1 e ],
  is 0 p (omega arith),
  scale_sorted n fs (p.0 + 1) ne h.3 (λ i d lt. is (suc i) d (omega (arith, lt))),
)

scale_below : (n : ℤ) (fs : List (ℕ × ℤ)) (w : ℕ) → All (λ p. p.0 < w) fs → All (λ p. p.0 < w) (scale n fs)
scale_below n fs w h = All-map (λ p. p.0 < w) (λ p. (p.0, n *ℤ p.1)) fs h

pub scale_sparse : (n : ℤ) (w : ℕ) (fs : List (ℕ × ℤ)) → n ≢ pos 0 → IsSparse w fs
    → ((k : ℕ) → IsFactor (n *ℤ coefficient fs k)) → IsSparse w (scale n fs)
scale_sparse n w fs ne h is = record {
  sorted = scale_sorted n fs 0 ne h.sorted (λ i d lt.
      let e = coefficient-at fs 0 i d h.sorted lt in rw (← e) (is (get_or fs i d).0));
  below = scale_below n fs w h.below;
}

-- ---- one coefficient a coordinate

pub record IsSpread (fs left : List (ℕ × ℤ)) (out : Form) (k : ℕ) : Type 0 where
  pub spread : out ≡ map (coefficient fs) (range_with_len 0 k)
  pub sorted : AreFactors k left
  pub same : (j : ℕ) → k ≤ j → coefficient left j ≡ coefficient fs j

pub spread_start : (fs : List (ℕ × ℤ)) → AreFactors 0 fs → IsSpread fs fs [] 0
spread_start fs h = record { spread = refl; sorted = h; same = λ j le. refl }

pub spread_here : (fs left : List (ℕ × ℤ)) (p : ℕ × ℤ) (out : Form) (k : ℕ) → IsSpread fs (p ∷ left) out k → p.0 ≡ k
    → IsSpread fs left (out ++ p.1 ∷ []) (k + 1)
spread_here fs left p out k s e =
    let c : p.1 ≡ coefficient fs k =
    rw (← e) (sym (coefficient-here p left k s.sorted) ∙ s.same p.0 (omega (arith, e))) in
    record {
      spread = rw (s.spread, c) (sym (map-range_with_len_more (coefficient fs) 0 k k (omega arith)));
      sorted = rw (← e) s.sorted.3;
      same = λ j le. (let h = s.same j (omega (arith, le)) in
          let ne : (j == p.0) ≡ false = grind (arith, e, le) in
          let h2 = rw ne at h in omega (arith, ints, h2));
    }

pub spread_none : (fs left : List (ℕ × ℤ)) (out : Form) (k : ℕ) → IsSpread fs left out k → AreFactors (k + 1) left
    → IsSpread fs left (out ++ pos 0 ∷ []) (k + 1)
spread_none fs left out k s later =
    let c : pos 0 ≡ coefficient fs k =
    sym (coefficient-before left (k + 1) k later (omega arith)) ∙ s.same k (omega arith) in
    record {
      spread = rw (s.spread, c) (sym (map-range_with_len_more (coefficient fs) 0 k k (omega arith)));
      sorted = later;
      same = λ j le. s.same j (omega (arith, le));
    }

-- what is left doesn't start here
pub later_start : (fs : List (ℕ × ℤ)) (i k : ℕ) → AreFactors k (drop i fs)
    → ((get_or fs i (0, pos 0)).0 ≡ k → ⊥) → AreFactors (k + 1) (drop i fs)
later_start fs i k h ne = elim (lt_or_ge i (length fs)) [ inl lt ↦ there lt | inr ge ↦ rw (drop_all fs i ge) tt ]
  where
    there : i < length fs → AreFactors (k + 1) (drop i fs)
    there lt =
        let h2 : AreFactors k (get_or fs i (0, pos 0) ∷ drop (i + 1) fs) = rw (drop_more fs i (0, pos 0) lt) at h in
        let le : k + 1 ≤ (get_or fs i (0, pos 0)).0 = omega (arith, h2.0, ne) in
        rw (drop_more fs i (0, pos 0) lt) (le, h2.1, h2.2, h2.3)
