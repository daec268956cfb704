-- Tokens in order, one more each time.
use Rattle.std.proofs.Common.{◌≡◌, ℕ, zero, suc, ◌+◌, ◌-◌, ◌≤◌, [], ◌∷◌, ◌++◌, map, refl, sym, ap, ◌∙◌, arith}
use Rattle.std.specs.List.{range_with_len}
use Rattle.std.proofs.lemmas.List.FromFn.{map-range_with_len_more}
use Rattle.pungi_symbol.specs.declared.states.term.Term.TheVariants.{Token}

pub tokens_more : (a t : ℕ) → a ≤ t → map Token (range_with_len a (t - a)) ++ Token t ∷ []
    ≡ map Token (range_with_len a (t + 1 - a))
tokens_more a t le =
    let more : t + 1 - a ≡ (t - a) + 1 = omega (arith, le) in
    let last : a + (t - a) ≡ t = omega (arith, le) in
    sym (ap (λ n. map Token (range_with_len a n)) more ∙ map-range_with_len_more Token a (t - a) t last)

pub map_self : (a n : ℕ) → map (λ k. k) (range_with_len a n) ≡ range_with_len a n
map_self a zero = refl
map_self a (suc n) = ap (λ xs. a ∷ xs) (map_self (a + 1) n)

pub range_more : (n : ℕ) → range_with_len 0 n ++ n ∷ [] ≡ range_with_len 0 (n + 1)
range_more n =
    let last : 0 + n ≡ n = omega arith in
    sym (sym (map_self 0 (n + 1)) ∙ map-range_with_len_more (λ k. k) 0 n n last
    ∙ ap (λ xs. xs ++ n ∷ []) (map_self 0 n))
