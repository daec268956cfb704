-- A text for each of some numbers in a row.
use Rattle.std.proofs.Common.{◌≡◌, ℕ, zero, suc, ◌+◌, List, [], ◌++◌, sym, ap, ◌∙◌, append-nil, append_assoc, arith}
use Rattle.std.specs.List.{flat_map, range_with_len}

pub one_more : (f : ℕ → List ℕ) (a n k : ℕ) → a + n ≡ k
    → flat_map f (range_with_len a (n + 1)) ≡ flat_map f (range_with_len a n) ++ f k
one_more f a zero k is =
    let same : a ≡ k = omega (arith, is) in
    append-nil (f a) ∙ ap f same
one_more f a (suc n) k is =
    let next : (a + 1) + n ≡ k = omega (arith, is) in
    let count : suc n + 1 ≡ suc (n + 1) = omega arith in
    ap (λ m. flat_map f (range_with_len a m)) count
    ∙ ap (λ (l : List ℕ). f a ++ l) (one_more f (a + 1) n k next)
    ∙ sym (append_assoc (f a) (flat_map f (range_with_len (a + 1) n)) (f k))
