-- The first place in a list at which a test passes.
use Rattle.std.proofs.Common.{◌≡◌, ℕ, ◌<◌, ◌≤◌, List, length, get_or, Bool, true, false, refl, sym, ap, ◌∙◌, arith, ◌⊎◌}
use Rattle.std.proofs.Common.{inl, inr, cond, Some, None}
use Rattle.std.specs.Prelude.{position, nat_lt}
use Rattle.std.specs.List.{position_or_len}
use Rattle.std.proofs.lemmas.Bool.Decides.{nat_tests}
use Rattle.std.proofs.lemmas.List.Sums.{position_or_len_is, fails_before_first}

lt_true : (a b : ℕ) → a < b → nat_lt a b ≡ true
lt_true a b h = grind (arith, nat_tests)

lt_false : (a b : ℕ) → b ≤ a → nat_lt a b ≡ false
lt_false a b h = grind (arith, nat_tests)

lt_or : (a b : ℕ) → (a < b) ⊎ (b ≤ a)
lt_or a b = by (nat_lt a b) refl
  where
    by : (r : Bool) → nat_lt a b ≡ r → (a < b) ⊎ (b ≤ a)
    by true e = inl (grind (arith, nat_tests))
    by false e = inr (grind (arith, nat_tests))

pub below_or : (a b : ℕ) → (a < b) ⊎ (b ≤ a)
below_or a b = lt_or a b

module _ {X : Type 0} (p : X → Bool) (xs : List X) (d : X) where
  pub position_is : (i : ℕ) → i < length xs → p (get_or xs i d) ≡ true
      → ((k : ℕ) → k < i → p (get_or xs k d) ≡ false) → position p xs ≡ Some i
  position_is i lt here before =
      let e : position_or_len p xs ≡ i = position_or_len_is p xs i d (omega (arith, lt)) before (λ _. here) in
      ap (λ n. cond (nat_lt n (length xs)) (Some n) None) e ∙ ap (λ b. cond b (Some i) None) (lt_true i (length xs) lt)

  pub position_none_is : ((k : ℕ) → k < length xs → p (get_or xs k d) ≡ false) → position p xs ≡ None
  position_none_is before =
      let e : position_or_len p xs ≡ length xs = position_or_len_is p xs (length xs) d (omega arith) before
      (λ h. absurd (omega (arith, h))) in
      ap (λ n. cond (nat_lt n (length xs)) (Some n) None) e
      ∙ ap (λ b. cond b (Some (length xs)) None) (lt_false (length xs) (length xs) (omega arith))

  pub none_before : position p xs ≡ None → (k : ℕ) → k < length xs → p (get_or xs k d) ≡ false
  none_before e k lt = elim (lt_or (position_or_len p xs) (length xs)) [
    | inl h ↦ absurd (let bad : Some (position_or_len p xs)
        ≡ None = sym (ap (λ b. cond b (Some (position_or_len p xs)) None) (lt_true (position_or_len p xs) (length xs)
        h)) ∙ e in cc)
    | inr h ↦ fails_before_first p xs k d (omega (arith, lt, h))
  ]
