-- Lists that are put together of parts, one after another: where each part stands.
use Rattle.std.proofs.Common.{◌≡◌, ℕ, zero, suc, ◌+◌, ◌-◌, ◌<◌, List, [], ◌∷◌, ◌++◌, length, take, map, Some}
use Rattle.std.proofs.Common.{inl, inr, refl, sym, ap, ◌∙◌, subst, arith, add-one, length-append}
use Rattle.std.proofs.lemmas.Bool.{cases_lt}
use Rattle.std.proofs.lemmas.Option.{none-some, same_Some}
use Rattle.std.specs.Prelude.{slice_get}
use Rattle.std.specs.List.{flat_map}
use Rattle.pungi_inline.specs.Sites.{total}

-- ---- two lists, one after the other

pub at_left : {A : Type 0} (xs ys : List A) (k : ℕ) → k < length xs → slice_get (xs ++ ys) k ≡ slice_get xs k
at_left [] ys k lt = absurd (omega arith)
at_left (x ∷ xs) ys zero lt = refl
at_left (x ∷ xs) ys (suc k) lt = at_left xs ys k (omega arith)

pub at_right : {A : Type 0} (xs ys : List A) (n k : ℕ) → length xs ≡ n → slice_get (xs ++ ys) (n + k) ≡ slice_get ys k
at_right [] ys n k e = ap (slice_get ys) (omega arith)
at_right (x ∷ xs) ys n k e = ap (slice_get (x ∷ (xs ++ ys))) (let h : n + k ≡ suc (length xs + k) = omega arith in h)
    ∙ at_right xs ys (length xs) k refl

-- a place in the first of many parts, and one after it
pub at_first : {A : Type 0} (xs ys : List A) (n k : ℕ) → length xs ≡ n → k < n
    → slice_get (xs ++ ys) (0 + k) ≡ slice_get xs k
at_first xs ys n k e lt = ap (slice_get (xs ++ ys)) (omega arith) ∙ at_left xs ys k (omega arith)

pub at_rest : {A : Type 0} (xs ys : List A) (n t k : ℕ) → length xs ≡ n
    → slice_get (xs ++ ys) (n + t + k) ≡ slice_get ys (t + k)
at_rest xs ys n t k e = ap (slice_get (xs ++ ys)) (omega arith) ∙ at_right xs ys n (t + k) e

-- ---- the sizes of parts

module _ {X : Type 0} (size : X → ℕ) where
  -- each place is in a part
  pub which_part : (xs : List X) (q : ℕ) → q < total (map size xs)
      → (i : ℕ) × (x : X) × (k : ℕ) × (slice_get xs i ≡ Some x) × (k < size x)
      × (q ≡ total (take i (map size xs)) + k)
  which_part [] q lt = absurd (omega arith)
  which_part (x ∷ xs) q lt = elim (cases_lt q (size x)) [
    | inl h ↦ (0, x, q, refl, h, omega arith)
    | inr h ↦ let r = which_part xs (q - size x) (omega arith) in
        (suc r.0, r.1, r.2, r.3, r.4, omega (arith, r.5))
  ]

  -- the next part begins where this one ends
  pub next_part : (xs : List X) (i : ℕ) (x : X) → slice_get xs i ≡ Some x
      → total (take (i + 1) (map size xs)) ≡ total (take i (map size xs)) + size x
  next_part xs i x e = ap (λ j. total (take j (map size xs))) (add-one i) ∙ go xs i e
    where
      go : (xs : List X) (i : ℕ) → slice_get xs i ≡ Some x
          → total (take (suc i) (map size xs)) ≡ total (take i (map size xs)) + size x
      go [] i e = absurd (none-some x e)
      go (y ∷ ys) zero e = let h : size y ≡ size x = ap size (same_Some y x e) in omega (arith, h)
      go (y ∷ ys) (suc i) e = let h = go ys i e in omega (arith, h)

-- ---- parts of these sizes

module _ {X A : Type 0} (parts : X → List A) (size : X → ℕ) (fits : (x : X) → length (parts x) ≡ size x) where
  pub parts_length : (xs : List X) → length (flat_map parts xs) ≡ total (map size xs)
  parts_length [] = refl
  parts_length (x ∷ xs) = length-append (parts x) (flat_map parts xs)
      ∙ (let h = fits x in let g = parts_length xs in omega (arith, h, g))

  -- the k-th item of the i-th part
  pub at_part : (xs : List X) (i : ℕ) (x : X) (k : ℕ) → slice_get xs i ≡ Some x → k < size x
      → slice_get (flat_map parts xs) (total (take i (map size xs)) + k) ≡ slice_get (parts x) k
  at_part [] i x k e lt = absurd (none-some x e)
  at_part (y ∷ ys) zero x k e lt =
      let same = same_Some y x e in
      at_first (parts y) (flat_map parts ys) (size y) k (fits y) (subst (λ z. k < size z) (sym same) lt)
      ∙ ap (λ z. slice_get (parts z) k) same
  at_part (y ∷ ys) (suc i) x k e lt =
      at_rest (parts y) (flat_map parts ys) (size y) (total (take i (map size ys))) k (fits y)
      ∙ at_part ys i x k e lt
