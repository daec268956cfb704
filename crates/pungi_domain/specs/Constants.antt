-- What the functions over lists of constants answer, where cs are the constants known of the coordinates.
--   IsSettled e cs i        what an equation makes of coordinate i is known: its coefficient is 0, or its constant is
--                           known
--   IsOpen e cs i           it is not known
--   IsOnlyOpen e cs n o     of the first n coordinates all are settled, but for the one in o
--   IsUnsettled e cs u      where the equation is open
--   pair_at row k, row_at rows i    an entry of a row, a row
--   IsRowTerm cs row k z    z is a factor of the row times the known constant of its source
--   AllKnown cs row n       the first n sources of the row have a known constant
--   IsRowConstant cs row c  all sources have one, and c is what the row makes of them
--   IsRelated cs l row c    c is so for the row, and it is 0 or row l makes 1
--   IsImageConstant cs rows i o  the leading coordinate of an image is once itself, another one's constant is so
--                                related
--   AreImages cs rows o     this holds of each coordinate of an image
--   IsJoinedAt old from i new changed   whether the constant of a coordinate was dropped, since the others don't have
--                                       it
--   AreJoinedBelow old from n new changed   for the first n coordinates the new constants are those on which both agree
--   AreJoined old from new changed      for all coordinates
--   Tells cs e p c          coordinate p alone is open, and the equation gives it the constant c
use Rattle.std.specs.Prelude.{◌≡◌, ◌⊎◌, ℕ, ◌<◌, ◌^◌, ℤ, pos, ◌+ℤ◌, ◌*ℤ◌, List, [], length, Option, None, Some, IsSome}
use Rattle.std.specs.Prelude.{Bool, true, false, is_none, count_by, slice_set}
use Rattle.std.specs.List.{slice_index_or}
use Rattle.pungi_domain.specs.Vectors.{at, IsWithin, row_sum, dot}
use Rattle.pungi_domain.specs.Flat.{constant_at, value_at}
use Rattle.pungi_domain.specs.declared.constants.Unsettled.{Unsettled}
use Rattle.pungi_domain.specs.declared.constants.Unsettled.TheVariants.{Nowhere, At, Several}

abbrev pub IsSettled : List ℤ → List (Option ℤ) → ℕ → Type 0
IsSettled e cs i = (at e i ≡ pos 0) ⊎ IsSome (constant_at cs i)

abbrev pub IsOpen : List ℤ → List (Option ℤ) → ℕ → Type 0
IsOpen e cs i = (i < length cs) × (at e i ≡ pos 0 → ⊥) × (constant_at cs i ≡ None)

abbrev pub IsOnlyOpen : List ℤ → List (Option ℤ) → ℕ → Option ℕ → Type 0
IsOnlyOpen e cs n None = (i : ℕ) → i < n → IsSettled e cs i
IsOnlyOpen e cs n (Some p) = IsOpen e cs p × ((i : ℕ) → i < n → (i ≡ p → ⊥) → IsSettled e cs i)

abbrev pub IsUnsettled : List ℤ → List (Option ℤ) → Unsettled → Type 0
IsUnsettled e cs Nowhere = (i : ℕ) → i < length cs → IsSettled e cs i
IsUnsettled e cs (At p) = IsOpen e cs p × ((i : ℕ) → i < length cs → (i ≡ p → ⊥) → IsSettled e cs i)
IsUnsettled e cs Several = (p : ℕ) × IsOpen e cs p

abbrev pub pair_at : List (ℕ × ℤ) → ℕ → ℕ × ℤ
pair_at row k = slice_index_or row k (0, pos 0)

pub record IsRowTerm (cs : List (Option ℤ)) (row : List (ℕ × ℤ)) (k : ℕ) (z : ℤ) : Type 0 where
  pub known : IsSome (constant_at cs (pair_at row k).0)
  pub is : z ≡ (pair_at row k).1 *ℤ value_at cs (pair_at row k).0

abbrev pub AllKnown : List (Option ℤ) → List (ℕ × ℤ) → ℕ → Type 0
AllKnown cs row n = (k : ℕ) → k < n → IsSome (constant_at cs (pair_at row k).0)

pub record IsRowConstant (cs : List (Option ℤ)) (row : List (ℕ × ℤ)) (c : ℤ) : Type 0 where
  pub within : IsWithin (2 ^ 31) c
  pub known : AllKnown cs row (length row)
  pub is : c ≡ row_sum row (value_at cs)

pub record IsRelated (cs : List (Option ℤ)) (leading row : List (ℕ × ℤ)) (c : ℤ) : Type 0 where
  pub constant : IsRowConstant cs row c
  pub leads : (c ≡ pos 0) ⊎ IsRowConstant cs leading (pos 1)

abbrev pub row_at : List (List (ℕ × ℤ)) → ℕ → List (ℕ × ℤ)
row_at rows i = slice_index_or rows i []

abbrev pub IsImageConstant : List (Option ℤ) → List (List (ℕ × ℤ)) → ℕ → Option ℤ → Type 0
IsImageConstant cs rows i None = 0 < i
IsImageConstant cs rows i (Some c) =
    ((i ≡ 0) × (c ≡ pos 1)) ⊎ ((0 < i) × IsRelated cs (row_at rows 0) (row_at rows i) c)

pub record AreImages (cs : List (Option ℤ)) (rows : List (List (ℕ × ℤ))) (images : List (Option ℤ)) : Type 0 where
  pub lengths : length images ≡ length rows
  pub each : (i : ℕ) → i < length rows → IsImageConstant cs rows i (constant_at images i)

abbrev pub IsJoinedAt : List (Option ℤ) → List (Option ℤ) → ℕ → List (Option ℤ) → Bool → Type 0
IsJoinedAt old from i new true =
    (new ≡ slice_set old i None) × IsSome (constant_at old i) × (constant_at old i ≡ constant_at from i → ⊥)
IsJoinedAt old from i new false = (new ≡ old) × ((constant_at old i ≡ None) ⊎ (constant_at old i ≡ constant_at from i))

pub record AreJoinedBelow (old from : List (Option ℤ)) (n : ℕ) (new : List (Option ℤ)) (changed : Bool) : Type 0 where
  pub lengths : length new ≡ length old
  pub kept : (i : ℕ) (c : ℤ) → constant_at new i ≡ Some c → constant_at old i ≡ Some c
  pub agreed : (i : ℕ) (c : ℤ) → i < n → constant_at new i ≡ Some c → constant_at from i ≡ Some c
  pub all : (i : ℕ) (c : ℤ) → constant_at old i ≡ Some c → constant_at from i ≡ Some c → constant_at new i ≡ Some c
  pub same : changed ≡ false → new ≡ old
  pub more : changed ≡ true → count_by is_none old < count_by is_none new

abbrev pub AreJoined : List (Option ℤ) → List (Option ℤ) → List (Option ℤ) → Bool → Type 0
AreJoined old from new changed = AreJoinedBelow old from (length old) new changed

pub record Tells (cs : List (Option ℤ)) (e : List ℤ) (p : ℕ) (c : ℤ) : Type 0 where
  pub within : IsWithin (2 ^ 31) c
  pub open_at : IsOpen e cs p
  pub others : (i : ℕ) → i < length cs → (i ≡ p → ⊥) → IsSettled e cs i
  pub solves : (at e p *ℤ c) +ℤ dot e (value_at cs) ≡ pos 0
