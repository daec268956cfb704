-- Elements of lists by their numbers.
use Rattle.std.proofs.Common.{◌≡◌, ◌∙◌, ℕ, zero, suc, ◌<◌, ◌⊎◌, inl, inr, List, [], ◌∷◌, length, Some, refl, sym, ap}
use Rattle.std.proofs.Common.{subst, arith, All, slice_get, slice_index_or}
use Rattle.std.proofs.lemmas.Option.{slice_get_within, get_or_from_slice_get, slice_get-get_or}
use Rattle.std.proofs.lemmas.Bool.{cases_eq}

pub get_within : {A : Type 0} (xs : List A) (k : ℕ) → k < length xs → (x : A) × (slice_get xs k ≡ Some x)
get_within [] k lt = absurd (omega arith)
get_within (x ∷ xs) zero lt = (x, refl)
get_within (x ∷ xs) (suc k) lt = get_within xs k (omega (arith, lt))

-- an element as indexing a slice of the list gives it
pub read_at : {A : Type 0} (xs ys : List A) (k : ℕ) (x : A) → ys ≡ xs → k < length xs → x ≡ slice_index_or ys k x
    → slice_get xs k ≡ Some x
read_at {A} xs ys k x same lt is =
    slice_get-get_or xs k x lt ∙ ap Some (sym (subst (λ (zs : List A). x ≡ slice_index_or zs k x) same is))

pub read_under : {A : Type 0} (xs ys : List A) (k : ℕ) (x : A) → ys ≡ xs → k < length ys → x ≡ slice_index_or ys k x
    → slice_get xs k ≡ Some x
read_under {A} xs ys k x same lt is =
    subst (λ (zs : List A). slice_get zs k ≡ Some x) same (slice_get-get_or ys k x lt ∙ ap Some (sym is))

pub all_at : {A : Type 0} (P : A → Type 0) (xs : List A) (k : ℕ) (x : A) → All P xs → slice_get xs k ≡ Some x → P x
all_at P xs k x all e = subst P (get_or_from_slice_get xs k x x e) (all k x (slice_get_within xs k x e))

pub all_of : {A : Type 0} (P : A → Type 0) (xs : List A) → ((k : ℕ) (x : A) → slice_get xs k ≡ Some x → P x) → All P xs
all_of P xs h = λ k d lt. h k (slice_index_or xs k d) (slice_get-get_or xs k d lt)

pub all_head : {A : Type 0} (P : A → Type 0) (x : A) (xs : List A) → All P (x ∷ xs) → P x
all_head P x xs all = all 0 x (omega arith)

pub all_tail : {A : Type 0} (P : A → Type 0) (x : A) (xs : List A) → All P (x ∷ xs) → All P xs
all_tail P x xs all = λ k d lt. all (suc k) d (omega (arith, lt))

pub all_cons : {A : Type 0} (P : A → Type 0) (x : A) (xs : List A) → P x → All P xs → All P (x ∷ xs)
all_cons {A} P x xs p all = go
  where
    go : (k : ℕ) (d : A) → k < length (x ∷ xs) → P (slice_index_or (x ∷ xs) k d)
    go zero d lt = p
    go (suc k) d lt = all k d (omega (arith, lt))

-- a number is in the list, or no element is that number
pub find_number : (k : ℕ) (xs : List ℕ) → ((i : ℕ) × (slice_get xs i ≡ Some k)) ⊎ All (λ x. x ≡ k → ⊥) xs
find_number k [] = inr (λ i d lt. absurd (omega (arith, lt)))
find_number k (x ∷ xs) =
    elim (cases_eq x k) [
      | inl e ↦ inl (0, ap Some e)
      | inr ne ↦ elim (find_number k xs) [
        | inl there ↦ inl (suc there.0, there.1)
        | inr none ↦ inr (all_cons (λ y. y ≡ k → ⊥) x xs ne none)
      ]
    ]
