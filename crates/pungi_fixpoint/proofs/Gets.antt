-- Elements of lists by their numbers.
--   same_or                two numbers are equal or not
--   set_same, set_other    the elements after one was put
--   set_id                 putting an element that is there
--   get_push               the elements after one more
--   sum_set                a sum over a list falls where an element's summand does
use Rattle.std.proofs.Common.{◌≡◌, ◌⊎◌, inl, inr, ℕ, zero, suc, ◌<◌, List, [], ◌∷◌, ◌++◌, length, get_or}
use Rattle.std.proofs.Common.{Option, Some, refl, ap, arith}
use Rattle.std.specs.Prelude.{slice_get, slice_set}
use Rattle.std.specs.List.{sum_by}
use Rattle.std.proofs.lemmas.List.Sums.{sum_by-set}
use Rattle.std.proofs.lemmas.Option.{slice_get_within, get_or_from_slice_get}

pub same_or : (j k : ℕ) → (j ≡ k) ⊎ (j ≡ k → ⊥)
same_or zero zero = inl refl
same_or zero (suc k) = inr (λ e. absurd (omega (arith, e)))
same_or (suc j) zero = inr (λ e. absurd (omega (arith, e)))
same_or (suc j) (suc k) = elim (same_or j k) [
  | inl e ↦ inl (ap suc e)
  | inr n ↦ inr (λ e. n (omega (arith, e)))
]

pub set_same : {A : Type 0} (xs : List A) (j : ℕ) (v : A) → j < length xs → slice_get (slice_set xs j v) j ≡ Some v
set_same [] j v h = absurd (omega arith)
set_same (x ∷ xs) zero v h = refl
set_same (x ∷ xs) (suc j) v h = set_same xs j v (omega arith)

pub set_other : {A : Type 0} (xs : List A) (j k : ℕ) (v : A) → (k ≡ j → ⊥)
    → slice_get (slice_set xs j v) k ≡ slice_get xs k
set_other [] j k v h = refl
set_other (x ∷ xs) zero zero v h = absurd (h refl)
set_other (x ∷ xs) zero (suc k) v h = refl
set_other (x ∷ xs) (suc j) zero v h = refl
set_other (x ∷ xs) (suc j) (suc k) v h = set_other xs j k v (λ e. h (ap suc e))

pub set_id : {A : Type 0} (xs : List A) (j : ℕ) (v : A) → slice_get xs j ≡ Some v → slice_set xs j v ≡ xs
set_id [] j v h = refl
set_id (x ∷ xs) zero v h = ap (λ y. y ∷ xs) (cc)
set_id (x ∷ xs) (suc j) v h = ap (λ ys. x ∷ ys) (set_id xs j v h)

pub get_push : {A : Type 0} (xs : List A) (x : A) (k : ℕ) (d : A) → slice_get (xs ++ x ∷ []) k ≡ Some d
    → (slice_get xs k ≡ Some d) ⊎ ((k ≡ length xs) × (d ≡ x))
get_push [] x zero d h = inr (refl, cc)
get_push [] x (suc k) d h = absurd (cc)
get_push (y ∷ xs) x zero d h = inl h
get_push (y ∷ xs) x (suc k) d h = elim (get_push xs x k d h) [
  | inl e ↦ inl e
  | inr e ↦ inr (ap suc e.0, e.1)
]

pub some_same : {A : Type 0} (x y : A) → ◌≡◌ {A = Option A} (Some x) (Some y) → x ≡ y
some_same x y e = cc

pub sum_set : {A : Type 0} (f : A → ℕ) (xs : List A) (j : ℕ) (u v : A) → slice_get xs j ≡ Some u → f v < f u
    → sum_by f (slice_set xs j v) < sum_by f xs
sum_set f xs j u v h lt =
    let e = sum_by-set f xs j v u (slice_get_within xs j u h) in
    let k : get_or xs j u ≡ u = get_or_from_slice_get xs j u u h in
    let fk : f (get_or xs j u) ≡ f u = ap f k in
    omega (arith, e, fk)
