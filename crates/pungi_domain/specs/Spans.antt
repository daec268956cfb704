-- Spans of vectors over the fractions, their scaled rows, and where they are large. A span is given as the set of its
-- vectors. All is up to a width w: the coordinates below it. It is the reduced row echelon form, with one common
-- denominator in place of ones at the pivots.
--   Zero w              the span of no vectors: the vectors whose coordinates are 0
--   Plus w S v          the span of S and one more vector
--   IsPivot w S q       some vector of S has its first coordinate other than 0 at q
--   IsScaledRow w S d q r   r is in S, is d at the pivot q, and 0 at each other pivot
--   IsScale w S d       0 < d, and for each pivot such a vector with this d exists
--   IsLeastScale w S d  d is the least of them
--   IsOutside z         z is over 2^31 in absolute value
--   IsLarge w S         an entry of some scaled row of the least scale is
--   Divides m x         x is a multiple of m
--   IsPrimitive w r     only 1 and -1 divide all coordinates of r
--   LargeRow w S r      S is large, and r is one of its scaled rows over the common divisor of its entries
--   AreScaledRows w S rows  rows are the scaled rows of S, in the order of the pivots
--   LargeSum w S v r    adding v to S is large: the span of v alone is, or that of S and v
--   LargeSums w S vs r  adding these vectors one after the other is large: one of the additions is
--   LargeGrow w S T r   adding the scaled rows of T to S is
--   LargeMap w rows S r adding the images of the scaled rows of S to the span of no vectors is; w is the width of S
--   unit c              the vector that is 1 at c and 0 elsewhere
--   LargeFree w c S r   adding that vector is
--   LargeMeet w e S r   the span of those vectors of S that meet e is
--   Never r             nothing is
use Rattle.std.specs.Prelude.{◌≡◌, ◌⊎◌, ℕ, ◌<◌, ◌^◌, ◌==◌, ℤ, pos, neg_ℤ, ◌+ℤ◌, ◌*ℤ◌, ◌≤ℤ◌, ◌<ℤ◌, List, [], ◌∷◌, length}
use Rattle.std.specs.Prelude.{map, cond}
use Rattle.std.specs.List.{slice_index_or}
use Rattle.pungi_domain.specs.Vectors.{Vector, Vectors, at, image, Meeting}

abbrev pub Zero : ℕ → Vectors
Zero w v = (i : ℕ) → i < w → v i ≡ pos 0

-- some multiple of u, by a number other than 0, is the sum of a vector of S and a whole multiple of v
pub record Plus (w : ℕ) (S : Vectors) (v u : Vector) : Type 0 where
  pub times : ℤ
  pub not_zero : times ≡ pos 0 → ⊥
  pub part : Vector
  pub part_in : S part
  pub factor : ℤ
  pub exact : (i : ℕ) → i < w → times *ℤ u i ≡ part i +ℤ (factor *ℤ v i)

pub record IsPivot (w : ℕ) (S : Vectors) (q : ℕ) : Type 0 where
  pub within : q < w
  pub vector : Vector
  pub member : S vector
  pub entry : vector q ≡ pos 0 → ⊥
  pub before : (i : ℕ) → i < q → vector i ≡ pos 0

pub record IsScaledRow (w : ℕ) (S : Vectors) (d : ℤ) (q : ℕ) (r : Vector) : Type 0 where
  pub member : S r
  pub own : r q ≡ d
  pub others : (p : ℕ) → IsPivot w S p → (p ≡ q → ⊥) → r p ≡ pos 0

pub record IsScale (w : ℕ) (S : Vectors) (d : ℤ) : Type 0 where
  pub positive : pos 0 <ℤ d
  pub rows : (q : ℕ) → IsPivot w S q → (r : Vector) × IsScaledRow w S d q r

pub record IsLeastScale (w : ℕ) (S : Vectors) (d : ℤ) : Type 0 where
  pub scale : IsScale w S d
  pub least : (e : ℤ) → IsScale w S e → d ≤ℤ e

abbrev pub IsOutside : ℤ → Type 0
IsOutside z = (pos (2 ^ 31) <ℤ z) ⊎ (z <ℤ neg_ℤ (pos (2 ^ 31)))

pub record IsLarge (w : ℕ) (S : Vectors) : Type 0 where
  pub d : ℤ
  pub least : IsLeastScale w S d
  pub q : ℕ
  pub pivot : IsPivot w S q
  pub r : Vector
  pub row : IsScaledRow w S d q r
  pub i : ℕ
  pub within : i < w
  pub large : IsOutside (r i)

pub record Divides (m x : ℤ) : Type 0 where
  pub by : ℤ
  pub is : x ≡ m *ℤ by

abbrev pub IsPrimitive : ℕ → Vector → Type 0
IsPrimitive w r = (m : ℤ) → ((i : ℕ) → i < w → Divides m (r i)) → Divides m (pos 1)

pub record LargeRow (w : ℕ) (S : Vectors) (r : List ℤ) : Type 0 where
  pub large : IsLarge w S
  pub width : length r ≡ w
  pub primitive : IsPrimitive w (at r)
  pub d : ℤ
  pub least : IsLeastScale w S d
  pub q : ℕ
  pub pivot : IsPivot w S q
  pub divisor : ℤ
  pub positive : pos 0 <ℤ divisor
  pub row : IsScaledRow w S d q (λ i. divisor *ℤ at r i)

pub record AreScaledRows (w : ℕ) (S : Vectors) (rows : List Vector) : Type 0 where
  pub d : ℤ
  pub least : IsLeastScale w S d
  pub pivots : List ℕ
  pub lengths : length rows ≡ length pivots
  pub order : (j k : ℕ) → j < k → k < length pivots → slice_index_or pivots j 0 < slice_index_or pivots k 0
  pub all : (q : ℕ) → IsPivot w S q → (k : ℕ) × (k < length pivots) × (slice_index_or pivots k 0 ≡ q)
  pub each : (k : ℕ) → k < length pivots → IsPivot w S (slice_index_or pivots k 0)
      × IsScaledRow w S d (slice_index_or pivots k 0) (slice_index_or rows k (λ _. pos 0))

abbrev pub LargeSum : ℕ → Vectors → Vector → List ℤ → Type 0
LargeSum w S v r = LargeRow w (Plus w (Zero w) v) r ⊎ LargeRow w (Plus w S v) r

abbrev pub LargeSums : ℕ → Vectors → List Vector → List ℤ → Type 0
LargeSums w S [] r = ⊥
LargeSums w S (v ∷ vs) r = LargeSum w S v r ⊎ LargeSums w (Plus w S v) vs r

abbrev pub LargeGrow : ℕ → Vectors → Vectors → List ℤ → Type 0
LargeGrow w S T r = (rows : List Vector) × AreScaledRows w T rows × LargeSums w S rows r

abbrev pub LargeMap : ℕ → List (List (ℕ × ℤ)) → Vectors → List ℤ → Type 0
LargeMap w matrix S r =
    (rows : List Vector) × AreScaledRows w S rows
    × LargeSums (length matrix) (Zero (length matrix)) (map (image matrix) rows) r

abbrev pub unit : ℕ → Vector
unit c i = cond (i == c) (pos 1) (pos 0)

abbrev pub LargeFree : ℕ → ℕ → Vectors → List ℤ → Type 0
LargeFree w c S r = LargeSum w S (unit c) r

abbrev pub LargeMeet : ℕ → List ℤ → Vectors → List ℤ → Type 0
LargeMeet w e S r = LargeRow w (Meeting e S) r

abbrev pub Never : List ℤ → Type 0
Never r = ⊥
