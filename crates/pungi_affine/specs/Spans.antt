-- Spans of vectors over the fractions.
--   comb cs vs i       the sum of multiples of the vectors, at a coordinate
--   InSpan w vs v      some whole multiple of v, by a number other than 0, is a sum of whole multiples of the vectors,
--                      up to the width w
--   SameMembers S T    S and T have the same vectors
--   IsDimension w S n  S has n pivots
use Rattle.std.specs.Prelude.{◌≡◌, ℕ, ◌<◌, ℤ, pos, ◌+ℤ◌, ◌*ℤ◌, List, [], ◌∷◌, length}
use Rattle.std.specs.List.{slice_index_or}
use Rattle.pungi_domain.specs.Spans.{IsPivot}
use Rattle.pungi_domain.specs.Vectors.{Vector, Vectors, at}

abbrev pub comb : List ℤ → List (List ℤ) → ℕ → ℤ
comb [] vs i = pos 0
comb (c ∷ cs) [] i = pos 0
comb (c ∷ cs) (v ∷ vs) i = (c *ℤ at v i) +ℤ comb cs vs i

pub record InSpan (w : ℕ) (vs : List (List ℤ)) (v : ℕ → ℤ) : Type 0 where
  pub times : ℤ
  pub not_zero : times ≡ pos 0 → ⊥
  pub factors : List ℤ
  pub exact : (i : ℕ) → i < w → times *ℤ v i ≡ comb factors vs i

pub record SameMembers (S T : Vectors) : Type 0 where
  pub to : (x : Vector) → S x → T x
  pub back : (x : Vector) → T x → S x

pub record IsDimension (w : ℕ) (S : Vectors) (n : ℕ) : Type 0 where
  pub pivots : List ℕ
  pub count : length pivots ≡ n
  pub each : (k : ℕ) → k < n → IsPivot w S (slice_index_or pivots k 0)
  pub once : (j k : ℕ) → j < n → k < n → slice_index_or pivots j 0 ≡ slice_index_or pivots k 0 → j ≡ k
  pub all : (q : ℕ) → IsPivot w S q → (k : ℕ) × (k < n) × (slice_index_or pivots k 0 ≡ q)
