-- Linear forms over the coordinates of a vector, by their coefficients. Coordinate 0 is the leading one, which stands
-- for the constant.
--   Form                the coefficients, one a coordinate
--   zero_form w         the form 0, over w coordinates
--   unit w k            coordinate k
--   plus, minus f g, times n f    a sum, a difference, a multiple
--   constant w n        the number n: so many times the leading coordinate
--   one_if b            1 where something holds, and else 0
--   factor_at k c       a coefficient with its coordinate, unless it is 0
--   factors_from k f, factors f    the coefficients other than 0, each with its coordinate, in order: a matrix's row
--   is_same_form f g    two forms are one
--   coefficient fs k    what these coefficients, each with its coordinate, sum up to at a coordinate
--   dense w fs          the form over w coordinates with these
--   most_factor         the largest coefficient that is stored
--   IsFactor n          a coefficient that is stored: one of 64 bits
--   IsStorable f        each coefficient of a form is
--   AreFactors k fs     coefficients that are stored, none of them 0, each with its coordinate, in order from k on
--   IsSparse w fs       so they are, over w coordinates
--   IsSum fs gs hs      coefficients that are the sums of others
--   scale n fs          the multiples
use Rattle.std.specs.Prelude.{◌≡◌, ◌≢◌, ℕ, ◌+◌, ◌-◌, ◌^◌, ◌==◌, ◌<◌, ◌≤◌, ℤ, pos, negsuc, ◌+ℤ◌, ◌*ℤ◌, ◌≤ℤ◌}
use Rattle.std.specs.Prelude.{Bool, List}
use Rattle.std.specs.Prelude.{[], ◌∷◌, ◌++◌, map, replicate, if◌then◌else◌}
use Rattle.std.specs.List.{All, range_with_len}
use Rattle.std.specs.Ordering.{int_cmp, int_eq, is_eq}
use Rattle.std.specs.Cmp.Lexicographic.{slice_cmp}

abbrev pub Form : Type 0
Form = List ℤ

abbrev pub zero_form : ℕ → Form
zero_form w = replicate w (pos 0)

abbrev pub unit : ℕ → ℕ → Form
unit w k = map (λ i. if i == k then pos 1 else pos 0) (range_with_len 0 w)

abbrev pub plus : Form → Form → Form
plus [] g = []
plus (a ∷ f) [] = []
plus (a ∷ f) (b ∷ g) = (a +ℤ b) ∷ plus f g

abbrev pub times : ℤ → Form → Form
times n f = map (λ c. n *ℤ c) f

abbrev pub minus : Form → Form → Form
minus f g = plus f (times (negsuc 0) g)

abbrev pub constant : ℕ → ℤ → Form
constant w n = times n (unit w 0)

abbrev pub one_if : Bool → ℕ
one_if b = if b then 1 else 0

abbrev pub factor_at : ℕ → ℤ → List (ℕ × ℤ)
factor_at k c = if int_eq c (pos 0) then [] else (k, c) ∷ []

abbrev pub factors_from : ℕ → Form → List (ℕ × ℤ)
factors_from k [] = []
factors_from k (c ∷ f) = factor_at k c ++ factors_from (k + 1) f

abbrev pub factors : Form → List (ℕ × ℤ)
factors f = factors_from 0 f

abbrev pub is_same_form : Form → Form → Bool
is_same_form f g = is_eq (slice_cmp int_cmp f g)

-- ---- how forms are stored

abbrev pub coefficient : List (ℕ × ℤ) → ℕ → ℤ
coefficient [] k = pos 0
coefficient (p ∷ fs) k = (if k == p.0 then p.1 else pos 0) +ℤ coefficient fs k

abbrev pub dense : ℕ → List (ℕ × ℤ) → Form
dense w fs = map (coefficient fs) (range_with_len 0 w)

abbrev pub most_factor : ℕ
most_factor = 2 ^ 63 - 1

abbrev pub IsFactor : ℤ → Type 0
IsFactor n = (n ≤ℤ pos most_factor) × (negsuc most_factor ≤ℤ n)

abbrev pub IsStorable : Form → Type 0
IsStorable f = All IsFactor f

abbrev pub AreFactors : ℕ → List (ℕ × ℤ) → Type 0
AreFactors k [] = Unit {0}
AreFactors k (p ∷ fs) = (k ≤ p.0) × (p.1 ≢ pos 0) × IsFactor p.1 × AreFactors (p.0 + 1) fs

pub record IsSparse (w : ℕ) (fs : List (ℕ × ℤ)) : Type 0 where
  pub sorted : AreFactors 0 fs
  pub below : All (λ p. p.0 < w) fs

pub record IsSum (fs gs hs : List (ℕ × ℤ)) : Type 0 where
  pub sorted : AreFactors 0 hs
  pub below : (w : ℕ) → All (λ p. p.0 < w) fs → All (λ p. p.0 < w) gs → All (λ p. p.0 < w) hs
  pub sums : (k : ℕ) → coefficient hs k ≡ coefficient fs k +ℤ coefficient gs k

abbrev pub scale : ℤ → List (ℕ × ℤ) → List (ℕ × ℤ)
scale n fs = map (λ p. (p.0, n *ℤ p.1)) fs
