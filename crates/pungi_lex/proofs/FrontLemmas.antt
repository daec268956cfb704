-- The front of a list that passes a test.
use Rattle.std.proofs.Common.{◌≡◌, ℕ, suc, ◌+◌, Bool, true, false, ◌&&◌, cond, List, [], ◌∷◌, take, refl, ap, subst}
use Rattle.std.proofs.Common.{◌∙◌, arith}
use Rattle.std.specs.List.{list_all, prefix_len}

one_more : (n : ℕ) → suc n ≡ 1 + n
one_more n = omega arith

front_cons : {X : Type 0} (p : X → Bool) (x : X) (xs : List X) (b : Bool) → p x ≡ b
    → list_all p (take (prefix_len p xs) xs) ≡ true
    → list_all p (take (cond b (1 + prefix_len p xs) 0) (x ∷ xs)) ≡ true
front_cons p x xs true e rest =
    subst (λ (n : ℕ). list_all p (take n (x ∷ xs)) ≡ true) (one_more (prefix_len p xs))
    (ap (λ (b : Bool). b && list_all p (take (prefix_len p xs) xs)) e ∙ rest)
front_cons p x xs false e rest = refl

pub front_passes : {X : Type 0} (p : X → Bool) (xs : List X) → list_all p (take (prefix_len p xs) xs) ≡ true
front_passes p [] = refl
front_passes p (x ∷ xs) = front_cons p x xs (p x) refl (front_passes p xs)
