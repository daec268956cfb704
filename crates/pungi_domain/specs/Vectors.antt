-- Vectors of whole numbers, equations on them, and maps between them.
--   Vector              a vector, by its coordinates; only those below its width count
--   Vectors             a set of vectors
--   at xs i             the number at a place of a list, and 0 past its end
--   IsWithin n z        z is at most n in absolute value
--   dot e v             the coefficients times the coordinates, summed up; v meets the equation e where this is 0
--   IsEquation w e      e has w coefficients, and those after the first lie within 2^20
--   row_sum row v       the factors times the coordinates that a row of a matrix names, summed up
--   image rows v        the vector with one such sum a row
--   IsMatrixRow w row, IsMatrix w rows    each row names coordinates below w, each once
--   Image rows S        the images of the vectors of S
--   Freed c S           the vectors that differ from one of S at coordinate c alone
--   Meeting e S         the vectors of S that meet e
--   Either S T          the vectors of S and those of T
--   Follows w S T       each equation on w coordinates that all vectors of S meet is met by all of T: T is within the
--                       affine hull of S (Karr 1976)
use Rattle.std.specs.Prelude.{◌≡◌, ◌⊎◌, ℕ, ◌<◌, ◌^◌, suc, ℤ, pos, neg_ℤ, ◌+ℤ◌, ◌*ℤ◌, ◌≤ℤ◌, List, [], ◌∷◌, length, map}
use Rattle.std.specs.List.{All, IsDistinct, slice_index_or}
use Rattle.std.specs.Prelude.{eqb}

abbrev pub Vector : Type 0
Vector = ℕ → ℤ

abbrev pub Vectors : Type 1
Vectors = Vector → Type 0

abbrev pub at : List ℤ → ℕ → ℤ
at xs i = slice_index_or xs i (pos 0)

abbrev pub IsWithin : ℕ → ℤ → Type 0
IsWithin n z = (z ≤ℤ pos n) × (neg_ℤ (pos n) ≤ℤ z)

abbrev pub dot : List ℤ → Vector → ℤ
dot [] v = pos 0
dot (e ∷ es) v = (e *ℤ v 0) +ℤ dot es (λ i. v (suc i))

pub record IsEquation (w : ℕ) (e : List ℤ) : Type 0 where
  pub width : length e ≡ w
  pub within : (i : ℕ) → 0 < i → i < w → IsWithin (2 ^ 20) (at e i)

abbrev pub row_sum : List (ℕ × ℤ) → Vector → ℤ
row_sum [] v = pos 0
row_sum (p ∷ row) v = (p.1 *ℤ v p.0) +ℤ row_sum row v

abbrev pub image : List (List (ℕ × ℤ)) → Vector → Vector
image rows v i = row_sum (slice_index_or rows i []) v

pub record IsMatrixRow (w : ℕ) (row : List (ℕ × ℤ)) : Type 0 where
  pub within : All (λ p. p.0 < w) row
  pub once : IsDistinct eqb (map (λ p. p.0) row)

abbrev pub IsMatrix : ℕ → List (List (ℕ × ℤ)) → Type 0
IsMatrix w rows = All (IsMatrixRow w) rows

abbrev pub Image : List (List (ℕ × ℤ)) → Vectors → Vectors
Image rows S u = (v : Vector) × S v × (u ≡ image rows v)

abbrev pub Freed : ℕ → Vectors → Vectors
Freed c S u = (v : Vector) × S v × ((i : ℕ) → (i ≡ c → ⊥) → u i ≡ v i)

abbrev pub Meeting : List ℤ → Vectors → Vectors
Meeting e S v = S v × (dot e v ≡ pos 0)

abbrev pub Either : Vectors → Vectors → Vectors
Either S T v = S v ⊎ T v

abbrev pub Follows : ℕ → Vectors → Vectors → Type 0
Follows w S T =
    (e : List ℤ) → length e ≡ w → ((v : Vector) → S v → dot e v ≡ pos 0) → (u : Vector) → T u → dot e u ≡ pos 0
