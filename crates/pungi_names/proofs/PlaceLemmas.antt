-- The place of a word in a list.
use Rattle.std.proofs.Common.{◌≡◌, ℕ, zero, suc, ◌+◌, ◌==◌, ◌≤◌, Bool, true, false, not, cond, List, [], ◌∷◌, ◌++◌}
use Rattle.std.proofs.Common.{length, take, slice_get, add-one, None, Some, refl, ap, sym, ◌∙◌, arith, nat_eq}
use Rattle.std.specs.Prelude.{nat_lt, position}
use Rattle.std.specs.List.{position_or_len}
use Rattle.std.specs.Option.{option_to_list}
use Rattle.std.proofs.lemmas.Bool.Decides.{nat_tests}
use Rattle.pungi_types.specs.Names.{place_among}
use Rattle.pungi_names.proofs.ListLemmas.{flip}

place-found : (xs : List ℕ) (w : ℕ) → place_among xs w ≡ position_or_len (nat_eq w) xs
place-found [] w = refl
place-found (x ∷ xs) w =
    let rest = position_or_len (nat_eq w) xs in
    ap (λ n. cond (x == w) 0 (n + 1)) (place-found xs w) ∙ ap (λ b. cond b 0 (rest + 1)) (flip x w) ∙ at (w == x) rest
  where
    at : (b : Bool) (rest : ℕ) → cond b 0 (rest + 1) ≡ cond (not b) (1 + rest) 0
    at true rest = refl
    at false rest = omega arith

position-within : (p : ℕ → Bool) (xs : List ℕ) → position_or_len p xs ≤ length xs
position-within p [] = omega arith
position-within p (x ∷ xs) = at (p x) (position_or_len p xs) (position-within p xs)
  where
    at : (b : Bool) (rest : ℕ) → rest ≤ length xs → cond (not b) (1 + rest) 0 ≤ length (x ∷ xs)
    at true rest h = omega arith
    at false rest h = omega arith

pub place-some : (xs : List ℕ) (w i : ℕ) → Some i ≡ position (nat_eq w) xs → i ≡ place_among xs w
place-some xs w i e = at (nat_lt (position_or_len (nat_eq w) xs) (length xs)) e ∙ sym (place-found xs w)
  where
    at : (b : Bool) → Some i ≡ cond b (Some (position_or_len (nat_eq w) xs)) None → i ≡ position_or_len (nat_eq w) xs
    at true e = cc
    at false e = absurd cc

pub place-none : (xs : List ℕ) (w : ℕ) → None ≡ position (nat_eq w) xs → length xs ≡ place_among xs w
place-none xs w e = at (nat_lt (position_or_len (nat_eq w) xs) (length xs)) refl e ∙ sym (place-found xs w)
  where
    at : (b : Bool) → nat_lt (position_or_len (nat_eq w) xs) (length xs) ≡ b
        → None ≡ cond b (Some (position_or_len (nat_eq w) xs)) None
        → length xs ≡ position_or_len (nat_eq w) xs
    at true f e = absurd cc
    at false f e =
        let within = position-within (nat_eq w) xs in
        let beyond : length xs ≤ position_or_len (nat_eq w) xs = grind (arith, nat_tests, f) in
        omega (arith, within, beyond)

-- one element more from the front
pub take-more : {A : Type 0} (n : ℕ) (xs : List A) → take (n + 1) xs ≡ take n xs ++ option_to_list (slice_get xs n)
take-more zero [] = refl
take-more zero (x ∷ xs) = refl
take-more (suc n) [] = rw add-one refl
take-more (suc n) (x ∷ xs) =
    ap (λ k. take k (x ∷ xs)) (add-one (suc n)) ∙ ap (λ ys. x ∷ ys) (ap (λ k. take k xs) (sym (add-one n))
    ∙ take-more n xs)
