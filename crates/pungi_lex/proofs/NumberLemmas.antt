-- Values of digits, as far as they are read.
use Rattle.std.proofs.Common.{ℕ, zero, suc, ◌+◌, ◌*◌, ◌/◌, ◌<◌, ◌≤◌, List, [], ◌∷◌, take, fold, arith}
use Rattle.std.proofs.Math.Nat.{mul-le-mul_left}
use Rattle.pungi_lex.specs.Number.{digit_value, value_in}

below_times : (base n : ℕ) → 1 ≤ base → n ≤ base * n
below_times base n some = omega (arith, mul-le-mul_left n some)

value_grows : (base n : ℕ) (xs : List ℕ) → 1 ≤ base → n ≤ fold (λ (m : ℕ) (b : ℕ). base * m + digit_value b) n xs
value_grows base n [] some = omega arith
value_grows base n (b ∷ xs) some =
    let d = digit_value b in
    let more : n ≤ base * n = below_times base n some in
    let rest = value_grows base (base * n + d) xs some in
    omega arith

front_below : (base n i : ℕ) (xs : List ℕ) → 1 ≤ base
    → fold (λ (m : ℕ) (b : ℕ). base * m + digit_value b) n (take i xs)
    ≤ fold (λ (m : ℕ) (b : ℕ). base * m + digit_value b) n xs
front_below base n zero xs some = value_grows base n xs some
front_below base n (suc i) [] some = omega arith
front_below base n (suc i) (b ∷ xs) some = front_below base (base * n + digit_value b) i xs some

pub value_front : (base i : ℕ) (xs : List ℕ) → 0 < base → value_in base (take i xs) ≤ value_in base xs
value_front base i xs some = front_below base 0 i xs (omega arith)

pub past_quotient : (base value most : ℕ) → 0 < base → most / base < value → most < base * value
past_quotient base value most some h =
    let up : most / base + 1 ≤ value = omega arith in
    omega (arith, mul-le-mul_left base up)
