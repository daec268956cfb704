-- Entries in the order of their keys, of which none has the key that is put among them.
--   IsNew R k es            no entry has this key
--   BelowAll R k es         a key stands before all
use Rattle.std.proofs.Common.{◌≡◌, ◌∙◌, ◌⊎◌, inl, inr, refl, sym, ap, arith, ℕ, zero, suc, ◌+◌, Bool, true, false}
use Rattle.std.proofs.Common.{cond, not, List, [], ◌∷◌, ◌++◌, length, map, slice_get, Some, None, true≢false}
use Rattle.std.specs.List.{All, AllByRecursion, AllPairs, position_or_len}
use Rattle.std.specs.List.Sorted.{IsStrictlySortedBy}
use Rattle.std.specs.BTreeMap.{insert_entry, is_at}
use Rattle.std.specs.Map.{lookup}
use Rattle.std.specs.Cmp.{IsTotalOrder, Equal-is}
use Rattle.std.specs.Ordering.{is_eq, match_ordering, ordering_reverse}
use Rattle.std.specs.declared.cmp.Ordering.{Ordering}
use Rattle.std.specs.declared.cmp.Ordering.TheVariants.{Less, Equal, Greater}
use Rattle.std.proofs.lemmas.List.Elements.{All-cons, All-head, All-nil, All-tail}
use Rattle.std.proofs.lemmas.Map.Keys.{sorted_head, sorted_tail}

-- ---- places

pub mapped-at : {A B : Type 0} (f : A → B) (xs : List A) (i : ℕ) (y : B) → slice_get (map f xs) i ≡ Some y
    → (x : A) × ((slice_get xs i ≡ Some x) × (f x ≡ y))
mapped-at f [] i y h = absurd (cc)
mapped-at f (x ∷ xs) zero y h = (x, (refl, cc))
mapped-at f (x ∷ xs) (suc i) y h = mapped-at f xs i y h

pub pushed-at : {A : Type 0} (xs : List A) (x : A) (i : ℕ) (y : A) → slice_get (xs ++ x ∷ []) i ≡ Some y
    → (slice_get xs i ≡ Some y) ⊎ ((i ≡ length xs) × (x ≡ y))
pushed-at [] x zero y h = inr (refl, cc)
pushed-at [] x (suc i) y h = absurd (cc)
pushed-at (z ∷ xs) x zero y h = inl h
pushed-at (z ∷ xs) x (suc i) y h = elim (pushed-at xs x i y h) [
  | inl e ↦ inl e
  | inr e ↦ inr (ap suc e.0, e.1)
]

pub appended-at : {A : Type 0} (xs ys : List A) (i : ℕ) (y : A) → slice_get xs i ≡ Some y
    → slice_get (xs ++ ys) i ≡ Some y
appended-at [] ys i y h = absurd (cc)
appended-at (x ∷ xs) ys zero y h = h
appended-at (x ∷ xs) ys (suc i) y h = appended-at xs ys i y h

pub last-at : {A : Type 0} (xs : List A) (x : A) → slice_get (xs ++ x ∷ []) (length xs) ≡ Some x
last-at [] x = refl
last-at (y ∷ xs) x = last-at xs x

one_more : (i : ℕ) → 1 + i ≡ suc i
one_more i = omega arith

-- the first that passes stands at its place
pub passing-at : {K X : Type 0} (test : K → Bool) (es : List (K × X)) (v : X) → lookup test es ≡ Some v
    → slice_get (map (λ e. e.1) es) (position_or_len test (map (λ e. e.0) es)) ≡ Some v
passing-at test [] v h = absurd (cc)
passing-at test (e ∷ es) v h = at (test e.0) h (passing-at test es v)
  where
    at : (b : Bool) → cond b (Some e.1) (lookup test es) ≡ Some v
        → (lookup test es ≡ Some v → slice_get (map (λ d. d.1) es) (position_or_len test (map (λ d. d.0) es)) ≡ Some v)
        → slice_get (e.1 ∷ map (λ d. d.1) es) (cond (not b) (1 + position_or_len test (map (λ d. d.0) es)) 0) ≡ Some v
    at true g rest = g
    at false g rest =
        ap (slice_get (e.1 ∷ map (λ d. d.1) es)) (one_more (position_or_len test (map (λ d. d.0) es))) ∙ rest g

pub position-map : {A B : Type 0} (test : B → Bool) (f : A → B) (xs : List A)
    → position_or_len (λ x. test (f x)) xs ≡ position_or_len test (map f xs)
position-map test f [] = refl
position-map test f (x ∷ xs) = ap (λ m. cond (not (test (f x))) (1 + m) 0) (position-map test f xs)

-- ---- order

below-mapped : {A B : Type 0} (P : B → Type 0) (f : A → B) (xs : List A) → AllByRecursion P (map f xs)
    → All (λ x. P (f x)) xs
below-mapped P f [] all = All-nil (λ x. P (f x))
below-mapped P f (x ∷ xs) all = All-cons (λ y. P (f y)) x xs all.0 (below-mapped P f xs all.1)

pub sorted-pairs : {A K : Type 0} (R : K → K → Ordering) (f : A → K) (xs : List A) → IsStrictlySortedBy R (map f xs)
    → AllPairs (λ x y. R (f x) (f y) ≡ Less) xs
sorted-pairs R f [] sorted i j d lt in_list = absurd (omega (arith, in_list))
sorted-pairs R f (x ∷ xs) sorted zero zero d lt in_list = absurd (omega (arith, lt))
sorted-pairs R f (x ∷ xs) sorted zero (suc j) d lt in_list =
    below-mapped (λ k. R (f x) k ≡ Less) f xs (sorted_head R (f x) (map f xs) sorted) j d (omega (arith, in_list))
sorted-pairs R f (x ∷ xs) sorted (suc i) zero d lt in_list = absurd (omega (arith, lt))
sorted-pairs R f (x ∷ xs) sorted (suc i) (suc j) d lt in_list =
    sorted-pairs R f xs (sorted_tail R (f x) (map f xs) sorted) i j d (omega (arith, lt)) (omega (arith, in_list))

pub sorted-nil : {K : Type 0} (R : K → K → Ordering) → IsStrictlySortedBy R []
unfolding IsStrictlySortedBy
sorted-nil R = tt

pub sorted-cons : {K : Type 0} (R : K → K → Ordering) (k : K) (ks : List K) → AllByRecursion (λ y. R k y ≡ Less) ks
    → IsStrictlySortedBy R ks → IsStrictlySortedBy R (k ∷ ks)
unfolding IsStrictlySortedBy
sorted-cons R k ks below sorted = (below, sorted)

-- ---- one more entry

swapped : {A : Type 0} (a b : Bool) (x y z : A) → (a ≡ true → b ≡ true → ⊥)
    → cond a x (cond b y z) ≡ cond b y (cond a x z)
swapped true true x y z apart = absurd (apart refl refl)
swapped true false x y z apart = refl
swapped false b x y z apart = refl

module _ {K : Type 0} (R : K → K → Ordering) (total : IsTotalOrder R) where
  turned : (x y : K) → R x y ≡ Greater → R y x ≡ Less
  turned x y gt = total.antisymm y x ∙ ap ordering_reverse gt

  apart : (j k y : K) → R k y ≡ Greater → is_eq (R j y) ≡ true → is_eq (R j k) ≡ true → ⊥
  apart j k y gt a b =
      let same : R j y ≡ R k y = total.congr j k y ((Equal-is (R j k)).0 b) in
      true≢false (sym a ∙ ap is_eq (same ∙ gt))

module _ {K X : Type 0} (R : K → K → Ordering) (total : IsTotalOrder R) where
  abbrev pub IsNew : K → List (K × X) → Type 0
  IsNew k es = lookup (is_at (R k)) es ≡ None

  abbrev pub BelowAll : K → List (K × X) → Type 0
  BelowAll k es = AllByRecursion (λ y. R k y ≡ Less) (map (λ e. e.0) es)

  abbrev pub AreSorted : List (K × X) → Type 0
  AreSorted es = IsStrictlySortedBy R (map (λ e. e.0) es)

  below-insert : (x k : K) (v : X) (es : List (K × X)) → R x k ≡ Less → BelowAll x es
      → BelowAll x (insert_entry R es k v)
  below-insert x k v [] lt all = (lt, tt)
  below-insert x k v (e ∷ es) lt all = at (R k e.0) (below-insert x k v es lt all.1)
    where
      at : (r : Ordering) → BelowAll x (insert_entry R es k v)
          → BelowAll x (match_ordering r ((k, v) ∷ e ∷ es) ((e.0, v) ∷ es) (e ∷ insert_entry R es k v))
      at Less rest = (lt, all)
      at Equal rest = all
      at Greater rest = (all.0, rest)

  below-lower : (x y : K) (es : List (K × X)) → R x y ≡ Less → BelowAll y es → BelowAll x es
  below-lower x y [] lt all = tt
  below-lower x y (e ∷ es) lt all = (total.trans x y e.0 lt all.0, below-lower x y es lt all.1)

  pub sorted-insert : (k : K) (v : X) (es : List (K × X)) → AreSorted es → AreSorted (insert_entry R es k v)
  sorted-insert k v [] sorted = sorted-cons R k [] tt sorted
  sorted-insert k v (e ∷ es) sorted =
      at (R k e.0) refl (sorted-insert k v es (sorted_tail R e.0 (map (λ d. d.0) es) sorted))
    where
      at : (r : Ordering) → R k e.0 ≡ r → AreSorted (insert_entry R es k v)
          → AreSorted (match_ordering r ((k, v) ∷ e ∷ es) ((e.0, v) ∷ es) (e ∷ insert_entry R es k v))
      at Less lt rest =
          sorted-cons R k (map (λ d. d.0) (e ∷ es))
          (lt, below-lower k e.0 es lt (sorted_head R e.0 (map (λ d. d.0) es) sorted)) sorted
      at Equal same rest = sorted
      at Greater gt rest =
          sorted-cons R e.0 (map (λ d. d.0) (insert_entry R es k v))
          (below-insert e.0 k v es (turned R total k e.0 gt) (sorted_head R e.0 (map (λ d. d.0) es) sorted)) rest

  pub lookup-insert : (k j : K) (v : X) (es : List (K × X)) → IsNew k es
      → lookup (is_at (R j)) (insert_entry R es k v) ≡ cond (is_eq (R j k)) (Some v) (lookup (is_at (R j)) es)
  lookup-insert k j v [] new = refl
  lookup-insert k j v (e ∷ es) new = at (R k e.0) refl new (lookup-insert k j v es)
    where
      at : (r : Ordering) → R k e.0 ≡ r → cond (is_eq r) (Some e.1) (lookup (is_at (R k)) es) ≡ None
          → (IsNew k es
          → lookup (is_at (R j)) (insert_entry R es k v) ≡ cond (is_eq (R j k)) (Some v) (lookup (is_at (R j)) es))
          → lookup (is_at (R j)) (match_ordering r ((k, v) ∷ e ∷ es) ((e.0, v) ∷ es) (e ∷ insert_entry R es k v))
          ≡ cond (is_eq (R j k)) (Some v) (cond (is_eq (R j e.0)) (Some e.1) (lookup (is_at (R j)) es))
      at Less lt none rest = refl
      at Equal same none rest = absurd (cc)
      at Greater gt none rest =
          ap (λ z. cond (is_eq (R j e.0)) (Some e.1) z) (rest none)
          ∙ swapped (is_eq (R j e.0)) (is_eq (R j k)) (Some e.1) (Some v) (lookup (is_at (R j)) es)
          (apart R total j k e.0 gt)

  pub length-insert : (k : K) (v : X) (es : List (K × X)) → IsNew k es
      → length (insert_entry R es k v) ≡ suc (length es)
  length-insert k v [] new = refl
  length-insert k v (e ∷ es) new = at (R k e.0) new (length-insert k v es)
    where
      at : (r : Ordering) → cond (is_eq r) (Some e.1) (lookup (is_at (R k)) es) ≡ None
          → (IsNew k es → length (insert_entry R es k v) ≡ suc (length es))
          → length (match_ordering r ((k, v) ∷ e ∷ es) ((e.0, v) ∷ es) (e ∷ insert_entry R es k v))
          ≡ suc (length (e ∷ es))
      at Less none rest = refl
      at Equal none rest = absurd (cc)
      at Greater none rest = ap suc (rest none)

  pub all-insert : (P : K × X → Type 0) (k : K) (v : X) (es : List (K × X)) → IsNew k es → P (k, v) → All P es
      → All P (insert_entry R es k v)
  all-insert P k v [] new new_one all = All-cons P (k, v) [] new_one all
  all-insert P k v (e ∷ es) new new_one all =
      at (R k e.0) new (λ none. all-insert P k v es none new_one (All-tail P e es all))
    where
      at : (r : Ordering) → cond (is_eq r) (Some e.1) (lookup (is_at (R k)) es) ≡ None
          → (IsNew k es → All P (insert_entry R es k v))
          → All P (match_ordering r ((k, v) ∷ e ∷ es) ((e.0, v) ∷ es) (e ∷ insert_entry R es k v))
      at Less none rest = All-cons P (k, v) (e ∷ es) new_one all
      at Equal none rest = absurd (cc)
      at Greater none rest = All-cons P e (insert_entry R es k v) (All-head P e es all) (rest none)

-- ---- entries under another view of their keys

pub viewed-insert : {A K X : Type 0} (R : K → K → Ordering) (f : A → K) (es : List (A × X)) (k : A) (v : X)
    → map (λ e. (f e.0, e.1)) (insert_entry (λ x y. R (f x) (f y)) es k v)
    ≡ insert_entry R (map (λ e. (f e.0, e.1)) es) (f k) v
viewed-insert R f [] k v = refl
viewed-insert R f (e ∷ es) k v = at (R (f k) (f e.0)) (viewed-insert R f es k v)
  where
    at : (r : Ordering) → map (λ d. (f d.0, d.1)) (insert_entry (λ x y. R (f x) (f y)) es k v)
        ≡ insert_entry R (map (λ d. (f d.0, d.1)) es) (f k) v
        → map (λ d. (f d.0, d.1))
        (match_ordering r ((k, v) ∷ e ∷ es) ((e.0, v) ∷ es) (e ∷ insert_entry (λ x y. R (f x) (f y)) es k v))
        ≡ match_ordering r ((f k, v) ∷ (f e.0, e.1) ∷ map (λ d. (f d.0, d.1)) es)
        ((f e.0, v) ∷ map (λ d. (f d.0, d.1)) es)
        ((f e.0, e.1) ∷ insert_entry R (map (λ d. (f d.0, d.1)) es) (f k) v)
    at Less rest = refl
    at Equal rest = refl
    at Greater rest = ap (λ l. (f e.0, e.1) ∷ l) rest

pub viewed-lookup : {A K X : Type 0} (test : K → Bool) (f : A → K) (es : List (A × X))
    → lookup test (map (λ e. (f e.0, e.1)) es) ≡ lookup (λ x. test (f x)) es
viewed-lookup test f [] = refl
viewed-lookup test f (e ∷ es) = ap (cond (test (f e.0)) (Some e.1)) (viewed-lookup test f es)

pub viewed-values : {A K X : Type 0} (f : A → K) (es : List (A × X))
    → map {A = K × X} {B = X} (λ e. e.1) (map (λ e. (f e.0, e.1)) es) ≡ map (λ e. e.1) es
viewed-values f [] = refl
viewed-values f (e ∷ es) = ap (λ l. e.1 ∷ l) (viewed-values f es)
