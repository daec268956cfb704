-- What a called function did to each object, as a sum over the tokens of its exit class.
--   sum_of f ts             the sum of numbers, one a token
--   given o x, kept o x     a number where an atom stands for the token; where none does
--   does_to others z b k t  what the call did to an object, by a token: the balance at coordinate b + t, where the
--                           token is that object's
use Rattle.std.proofs.Common.{◌≡◌, ◌≢◌, ℕ, zero, suc, ◌+◌, ◌<◌, ◌≤◌, ℤ, pos, ◌+ℤ◌, List, [], ◌∷◌, map, refl}
use Rattle.std.proofs.Common.{sym, ap, ◌∙◌, arith, cond, inl, inr, Option, Some, None}
use Rattle.std.specs.Prelude.{◌==◌}
use Rattle.std.specs.List.{range_with_len}
use Rattle.std.proofs.lemmas.Int.{ints}
use Rattle.std.proofs.lemmas.Bool.{cases_eq}
use Rattle.pungi_domain.specs.Vectors.{Vector, dot}
use Rattle.pungi_code.specs.declared.atom.Atom.{Atom}
use Rattle.pungi_shape.specs.Forms.{unit}
use Rattle.pungi_shape.specs.Scenes.{token_forms}
use Rattle.pungi_shape.specs.Described.{Naming}
use Rattle.pungi_shape.proofs.sound.Shows.{total, total_from}
use Rattle.pungi_shape.proofs.sound.FormValues.{dot_unit}

abbrev pub sum_of : (ℕ → ℤ) → List ℕ → ℤ
sum_of f [] = pos 0
sum_of f (t ∷ ts) = f t +ℤ sum_of f ts

abbrev pub given : Option Atom → ℤ → ℤ
given None x = pos 0
given (Some a) x = x

abbrev pub kept : Option Atom → ℤ → ℤ
kept None x = x
kept (Some a) x = pos 0

abbrev pub does_to : Naming → Vector → ℕ → ℕ → ℕ → ℤ
does_to others z b k t = cond (others t == k) (z (b + t)) (pos 0)

-- ---- sums

given_kept : (o : Option Atom) (x : ℤ) → x ≡ given o x +ℤ kept o x
given_kept None x = omega (arith, ints)
given_kept (Some a) x = omega (arith, ints)

pub split_sum : (o : ℕ → Option Atom) (f : ℕ → ℤ) (ts : List ℕ)
    → sum_of f ts ≡ sum_of (λ t. given (o t) (f t)) ts +ℤ sum_of (λ t. kept (o t) (f t)) ts
split_sum o f [] = omega (arith, ints)
split_sum o f (t ∷ ts) =
    let here = given_kept (o t) (f t) in let rest = split_sum o f ts in omega (arith, ints, here, rest)

-- none but one of the numbers from a on
none_of_range : (f : ℕ → ℤ) (a n : ℕ) → ((t : ℕ) → a ≤ t → t < a + n → f t ≡ pos 0)
    → sum_of f (range_with_len a n) ≡ pos 0
none_of_range f a zero none = refl
none_of_range f a (suc n) none =
    let here = none a (omega arith) (omega arith) in
    let rest = none_of_range f (a + 1) n (λ t le lt. none t (omega (arith, le)) (omega (arith, lt))) in
    omega (arith, ints, here, rest)

pub no_sum : (f : ℕ → ℤ) (n : ℕ) → ((t : ℕ) → t < n → f t ≡ pos 0) → sum_of f (range_with_len 0 n) ≡ pos 0
no_sum f n none = none_of_range f 0 n (λ t le lt. none t (omega (arith, lt)))

one_of_range : (f : ℕ → ℤ) (a n u : ℕ) → a ≤ u → u < a + n → ((t : ℕ) → a ≤ t → t < a + n → t ≢ u → f t ≡ pos 0)
    → sum_of f (range_with_len a n) ≡ f u
one_of_range f a zero u le lt none = absurd (omega (arith, le, lt))
one_of_range f a (suc n) u le lt none = elim (cases_eq a u) [
  | inl e ↦
      let rest = none_of_range f (a + 1) n (λ t more less. none t (omega (arith, more)) (omega (arith, less))
      (λ same. absurd (omega (arith, same, e, more)))) in
      let here : f a ≡ f u = ap f e in
      omega (arith, ints, rest, here)
  | inr ne ↦
      let rest = one_of_range f (a + 1) n u (omega (arith, le, ne)) (omega (arith, lt))
      (λ t more less apart. none t (omega (arith, more)) (omega (arith, less)) apart) in
      let here = none a (omega arith) (omega arith) ne in
      omega (arith, ints, rest, here)
]

pub one_sum : (f : ℕ → ℤ) (n u : ℕ) → u < n → ((t : ℕ) → t < n → t ≢ u → f t ≡ pos 0)
    → sum_of f (range_with_len 0 n) ≡ f u
one_sum f n u lt none = one_of_range f 0 n u (omega arith) (omega (arith, lt))
    (λ t le less apart. none t (omega (arith, less)) apart)

pub same_sum : (f g : ℕ → ℤ) (ts : List ℕ) → ((t : ℕ) → f t ≡ g t) → sum_of f ts ≡ sum_of g ts
same_sum f g [] same = refl
same_sum f g (t ∷ ts) same =
    let here = same t in let rest = same_sum f g ts same in omega (arith, ints, here, rest)

-- ---- the balances of the called function

from_range : (names : Naming) (v z : Vector) (k w a b t i n : ℕ) → a + t ≡ i → i + n ≤ w
    → ((j : ℕ) → j < w → z (b + j) ≡ v j)
    → total_from t names (map (λ j. Some (unit w j)) (range_with_len i n)) v k
    ≡ sum_of (does_to names z (b + a) k) (range_with_len t n)
from_range names v z k w a b t i zero at fits same = refl
from_range names v z k w a b t i (suc n) at fits same =
    let worth : dot (unit w i) v ≡ z ((b + a) + t) =
    dot_unit w i v (omega (arith, fits)) ∙ sym (same i (omega (arith, fits))) ∙ ap z (omega (arith, at))
    in
    let here : cond (names t == k) (dot (unit w i) v) (pos 0) ≡ does_to names z (b + a) k t =
    ap (λ y. cond (names t == k) y (pos 0)) worth
    in
    let more : suc t ≡ t + 1 = omega arith in
    let rest = from_range names v z k w a b (suc t) (i + 1) n (omega (arith, at)) (omega (arith, fits)) same
    ∙ ap (λ j. sum_of (does_to names z (b + a) k) (range_with_len j n)) more in
    omega (arith, ints, here, rest)

pub total_is : (names : Naming) (v z : Vector) (k w a b n : ℕ) → a + n ≤ w → ((j : ℕ) → j < w → z (b + j) ≡ v j)
    → total names (token_forms w a n) v k ≡ sum_of (does_to names z (b + a) k) (range_with_len 0 n)
total_is names v z k w a b n fits same = from_range names v z k w a b 0 a n (omega arith) fits same
