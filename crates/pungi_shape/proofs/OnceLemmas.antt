-- How many numbers there are, each once.
--   Once xs                 no number stands twice
use Rattle.std.proofs.Common.{◌≡◌, ◌∙◌, ℕ, zero, suc, ◌+◌, ◌==◌, ◌<◌, ◌≤◌, Bool, true, false, List, [], ◌∷◌, ◌++◌}
use Rattle.std.proofs.Common.{length, refl, ap, arith, cond, inl, inr, subst, sym}
use Rattle.std.specs.Prelude.{◌||◌, not}
use Rattle.std.specs.List.{All, filter, range_with_len}
use Rattle.std.proofs.lemmas.Bool.Decides.{eqb_tells}
use Rattle.std.proofs.lemmas.List.Elements.{All-cons, All-head, All-nil, All-tail}
use Rattle.pungi_shape.specs.Liveness.{is_among}
use Rattle.pungi_shape.specs.Shapes.{distinct}
use Rattle.pungi_shape.proofs.DistinctLemmas.{among_distinct, among_filter}

abbrev Once : List ℕ → Type 0
Once [] = Unit {0}
Once (x ∷ xs) = (is_among xs x ≡ false) × Once xs

abbrev others : ℕ → List ℕ → List ℕ
others x xs = filter (λ u. not (u == x)) xs

either_true : (a b : Bool) → b ≡ true → (a || b) ≡ true
either_true true b e = refl
either_true false b e = e

left_false : (a b : Bool) → (a || b) ≡ false → a ≡ false
left_false true b h = h
left_false false b h = refl

right_false : (a b : Bool) → (a || b) ≡ false → b ≡ false
right_false true b h = absurd (let bad : true ≡ false = h in cc)
right_false false b h = h

-- ---- members

pub among_left : (xs ys : List ℕ) (x : ℕ) → is_among xs x ≡ true → is_among (xs ++ ys) x ≡ true
among_left [] ys x e = absurd (let bad : false ≡ true = e in cc)
among_left (u ∷ xs) ys x e = at (u == x) (among_left xs ys x) e
  where
    at : (b : Bool) → (is_among xs x ≡ true → is_among (xs ++ ys) x ≡ true) → (b || is_among xs x) ≡ true
        → (b || is_among (xs ++ ys) x) ≡ true
    at true rest h = refl
    at false rest h = rest h

pub among_right : (xs ys : List ℕ) (x : ℕ) → is_among ys x ≡ true → is_among (xs ++ ys) x ≡ true
among_right [] ys x e = e
among_right (u ∷ xs) ys x e = either_true (u == x) (is_among (xs ++ ys) x) (among_right xs ys x e)

pub among_range : (a n x : ℕ) → a ≤ x → x < a + n → is_among (range_with_len a n) x ≡ true
among_range a zero x le lt = absurd (omega (arith, le, lt))
among_range a (suc n) x le lt = elim (eqb_tells a x) [
  | inl h ↦ ap (λ b. b || is_among (range_with_len (a + 1) n) x) h.0
  | inr h ↦
      let ne = h.1 in
      either_true (a == x) (is_among (range_with_len (a + 1) n) x)
      (among_range (a + 1) n x (omega (arith, le, ne)) (omega (arith, lt)))
]

pub range_below : (a n m : ℕ) → a + n ≤ m → All (λ t. t < m) (range_with_len a n)
range_below a zero m le = All-nil (λ t. t < m)
range_below a (suc n) m le =
    All-cons (λ t. t < m) a (range_with_len (a + 1) n) (omega (arith, le)) (range_below (a + 1) n m (omega (arith, le)))

all_others : (P : ℕ → Type 0) (x : ℕ) (xs : List ℕ) → All P xs → All P (others x xs)
all_others P x [] all = All-nil P
all_others P x (u ∷ xs) all = at (not (u == x)) (all_others P x xs (All-tail P u xs all))
  where
    at : (b : Bool) → All P (others x xs) → All P (cond b (u ∷ others x xs) (others x xs))
    at true rest = All-cons P u (others x xs) (All-head P u xs all) rest
    at false rest = rest

pub all_distinct : (P : ℕ → Type 0) (xs : List ℕ) → All P xs → All P (distinct xs)
all_distinct P [] all = All-nil P
all_distinct P (x ∷ xs) all = All-cons P x (others x (distinct xs)) (All-head P x xs all)
    (all_others P x (distinct xs) (all_distinct P xs (All-tail P x xs all)))

-- ---- each once

gone : (x : ℕ) (l : List ℕ) → is_among (others x l) x ≡ false
gone x [] = refl
gone x (u ∷ l) = elim (eqb_tells u x) [
  | inl h ↦ ap (λ b. is_among (cond (not b) (u ∷ others x l) (others x l)) x) h.0 ∙ gone x l
  | inr h ↦ ap (λ b. is_among (cond (not b) (u ∷ others x l) (others x l)) x) h.0
      ∙ ap (λ b. b || is_among (others x l) x) h.0 ∙ gone x l
]

fewer : (x : ℕ) (l : List ℕ) (t : ℕ) → is_among l t ≡ false → is_among (others x l) t ≡ false
fewer x [] t e = refl
fewer x (u ∷ l) t e = at (not (u == x)) (fewer x l t (right_false (u == t) (is_among l t) e))
  where
    at : (b : Bool) → is_among (others x l) t ≡ false → is_among (cond b (u ∷ others x l) (others x l)) t ≡ false
    at true rest = ap (λ z. z || is_among (others x l) t) (left_false (u == t) (is_among l t) e) ∙ rest
    at false rest = rest

once_others : (x : ℕ) (l : List ℕ) → Once l → Once (others x l)
once_others x [] once = tt
once_others x (u ∷ l) once = at (not (u == x)) (once_others x l once.1)
  where
    at : (b : Bool) → Once (others x l) → Once (cond b (u ∷ others x l) (others x l))
    at true rest = (fewer x l u once.0, rest)
    at false rest = rest

once_distinct : (xs : List ℕ) → Once (distinct xs)
once_distinct [] = tt
once_distinct (x ∷ xs) = (gone x (distinct xs), once_others x (distinct xs) (once_distinct xs))

-- ---- how many

none_removed : (x : ℕ) (l : List ℕ) → is_among l x ≡ false → length (others x l) ≡ length l
none_removed x [] e = refl
none_removed x (u ∷ l) e =
    let rest = none_removed x l (right_false (u == x) (is_among l x) e) in
    ap (λ b. length (cond (not b) (u ∷ others x l) (others x l))) (left_false (u == x) (is_among l x) e)
    ∙ ap suc rest

one_removed : (x : ℕ) (l : List ℕ) → Once l → is_among l x ≡ true → length l ≡ suc (length (others x l))
one_removed x [] once e = absurd (let bad : false ≡ true = e in cc)
one_removed x (u ∷ l) once e = elim (eqb_tells u x) [
  | inl h ↦ sym (ap (λ b. suc (length (cond (not b) (u ∷ others x l) (others x l)))) h.0
      ∙ ap suc (none_removed x l (subst (λ y. is_among l y ≡ false) h.1 once.0)))
  | inr h ↦ ap suc (one_removed x l once.1 (sym (ap (λ b. b || is_among l x) h.0) ∙ e))
      ∙ sym (ap (λ b. suc (length (cond (not b) (u ∷ others x l) (others x l)))) h.0)
]

below_none : (l : List ℕ) → All (λ t. t < 0) l → length l ≡ 0
below_none [] all = refl
below_none (u ∷ l) all = absurd (let lt = All-head (λ t. t < 0) u l all in omega (arith, lt))

below_others : (n : ℕ) (l : List ℕ) → All (λ t. t < suc n) l → All (λ t. t < n) (others n l)
below_others n [] all = All-nil (λ t. t < n)
below_others n (u ∷ l) all =
    let rest = below_others n l (All-tail (λ t. t < suc n) u l all) in
    elim (eqb_tells u n) [
      | inl h ↦ subst (λ b. All (λ t. t < n) (cond (not b) (u ∷ others n l) (others n l))) (sym h.0) rest
      | inr h ↦
          let lt = All-head (λ t. t < suc n) u l all in
          let ne = h.1 in
          subst (λ b. All (λ t. t < n) (cond (not b) (u ∷ others n l) (others n l))) (sym h.0)
          (All-cons (λ t. t < n) u (others n l) (omega (arith, lt, ne)) rest)
    ]

counted : (n : ℕ) (l : List ℕ) → Once l → All (λ t. t < n) l → ((k : ℕ) → k < n → is_among l k ≡ true) → length l ≡ n
counted zero l once all each = below_none l all
counted (suc n) l once all each =
    one_removed n l once (each n (omega arith))
    ∙ ap suc (counted n (others n l) (once_others n l once) (below_others n l all)
    (λ k lt. among_filter n k l (λ e. absurd (omega (arith, e, lt))) ∙ each k (omega (arith, lt))))

-- all numbers below some, and no others
pub distinct-count : (n : ℕ) (ts : List ℕ) → All (λ t. t < n) ts → ((k : ℕ) → k < n → is_among ts k ≡ true)
    → length (distinct ts) ≡ n
distinct-count n ts all each =
    counted n (distinct ts) (once_distinct ts) (all_distinct (λ t. t < n) ts all)
    (λ k lt. among_distinct ts k ∙ each k lt)
