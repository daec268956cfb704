-- The newest of the values that wait: the last ones of the stack.
use Rattle.std.proofs.Common.{◌≡◌, ℕ, ◌-◌, ◌<◌, ◌≤◌, ◌⊎◌, inl, inr, List, [], ◌∷◌, ◌++◌, length, take, drop, reverse}
use Rattle.std.proofs.Common.{slice_range, refl, sym, ap, ◌∙◌, length-drop, arith}
use Rattle.std.proofs.lemmas.Bool.{cases_lt}
use Rattle.std.proofs.lemmas.List.{reverse-append, reverse-reverse, length-reverse, take_rest, take-append-drop}
use Rattle.std.proofs.lemmas.List.{take_all, drop_all}

take_front : {A : Type 0} (a b : List A) → take (length a) (a ++ b) ≡ a
take_front [] b = refl
take_front (x ∷ a) b = ap (λ l. x ∷ l) (take_front a b)

drop_front : {A : Type 0} (a b : List A) → drop (length a) (a ++ b) ≡ b
drop_front [] b = refl
drop_front (x ∷ a) b = drop_front a b

turned : {A : Type 0} (xs : List A) (p : ℕ) → reverse xs ≡ reverse (drop p xs) ++ reverse (take p xs)
turned xs p = ap reverse (sym (take-append-drop p xs)) ∙ reverse-append (take p xs) (drop p xs)

back_length : {A : Type 0} (xs : List A) (n : ℕ) → n ≤ length xs → length (reverse (drop (length xs - n) xs)) ≡ n
back_length xs n h =
    let e : length xs - (length xs - n) ≡ n = omega arith in
    length-reverse (drop (length xs - n) xs) ∙ length-drop (length xs - n) xs ∙ e

taken_by : {A : Type 0} (xs : List A) (n : ℕ) → (length xs < n) ⊎ (n ≤ length xs)
    → take n (reverse xs) ≡ reverse (drop (length xs - n) xs)
taken_by xs n (inl h) =
    let e : length xs - n ≡ 0 = omega arith in
    let short : length (reverse xs) ≤ n = omega (arith, length-reverse xs) in
    take_all n (reverse xs) short ∙ ap (λ p. reverse (drop p xs)) (sym e)
taken_by xs n (inr h) =
    let p = length xs - n in
    ap (take n) (turned xs p)
    ∙ ap (λ m. take m (reverse (drop p xs) ++ reverse (take p xs))) (sym (back_length xs n h))
    ∙ take_front (reverse (drop p xs)) (reverse (take p xs))

left_by : {A : Type 0} (xs : List A) (n : ℕ) → (length xs < n) ⊎ (n ≤ length xs)
    → drop n (reverse xs) ≡ reverse (take (length xs - n) xs)
left_by xs n (inl h) =
    let e : length xs - n ≡ 0 = omega arith in
    let short : length (reverse xs) ≤ n = omega (arith, length-reverse xs) in
    drop_all n (reverse xs) short ∙ ap (λ p. reverse (take p xs)) (sym e)
left_by xs n (inr h) =
    let p = length xs - n in
    ap (drop n) (turned xs p)
    ∙ ap (λ m. drop m (reverse (drop p xs) ++ reverse (take p xs))) (sym (back_length xs n h))
    ∙ drop_front (reverse (drop p xs)) (reverse (take p xs))

-- the newest values are the last ones
pub newest_taken : {A : Type 0} (xs : List A) (n : ℕ) → reverse (take n (reverse xs)) ≡ drop (length xs - n) xs
newest_taken xs n = ap reverse (taken_by xs n (cases_lt (length xs) n)) ∙ reverse-reverse (drop (length xs - n) xs)

pub newest_range : {A : Type 0} (xs : List A) (n p : ℕ) → p ≡ length xs - n
    → slice_range xs p (length xs) ≡ reverse (take n (reverse xs))
newest_range xs n p e = take_rest xs p ∙ ap (λ q. drop q xs) e ∙ sym (newest_taken xs n)

-- the others are the first ones
pub newest_left : {A : Type 0} (xs : List A) (n : ℕ) → drop n (reverse xs) ≡ reverse (take (length xs - n) xs)
newest_left xs n = left_by xs n (cases_lt (length xs) n)
