-- The domain of constants: what a value knows is which coordinates are a constant multiple of the leading one.
--   FlatState           the width, and for each coordinate its constant, if one is known; None where only the vector 0
--                       is described
--   constant_at cs i    the constant of a coordinate, if one is known
--   or_zero o           the constant, or 0
--   value_at cs         the vector with leading coordinate 1 that has the known constants, and 0 elsewhere
--   IsConstant o l x    where a constant is known, x is that multiple of l
--   MeetsConstants w cs v  each coordinate of v whose constant is known is that multiple of the leading one
--   MeetsAll w o v      v is the vector 0 where only it is described, else it meets the constants
--   FlatMember s v      v is described by s
--   rank_of o, flat_rank s   0 where only the vector 0 is described, else one more than how many coordinates have no
--                            constant
--   IsSmall o           the constant, if one is known, lies within 2^31
--   IsFlat w o          these are constants of w coordinates, if any vector but 0 is described
--   AreConstants w cs   there are w coordinates, at most 256; each constant lies within 2^31, and the leading
--                       coordinate is once itself
use Rattle.std.specs.Prelude.{◌≡◌, ℕ, ◌+◌, ◌<◌, ◌≤◌, ◌^◌, ℤ, pos, ◌*ℤ◌, List, length, Option, None, Some, is_none}
use Rattle.std.specs.Prelude.{count_by}
use Rattle.std.specs.List.{slice_index_or}
use Rattle.pungi_domain.specs.Vectors.{Vector, IsWithin}

pub record FlatState : Type 0 where
  pub width : ℕ
  pub constants : Option (List (Option ℤ))

abbrev pub constant_at : List (Option ℤ) → ℕ → Option ℤ
constant_at cs i = slice_index_or cs i None

abbrev pub or_zero : Option ℤ → ℤ
or_zero None = pos 0
or_zero (Some c) = c

abbrev pub value_at : List (Option ℤ) → Vector
value_at cs i = or_zero (constant_at cs i)

abbrev pub IsConstant : Option ℤ → ℤ → ℤ → Type 0
IsConstant None l x = Unit {0}
IsConstant (Some c) l x = x ≡ c *ℤ l

abbrev pub MeetsConstants : ℕ → List (Option ℤ) → Vector → Type 0
MeetsConstants w cs v = (i : ℕ) → i < w → IsConstant (constant_at cs i) (v 0) (v i)

abbrev pub MeetsAll : ℕ → Option (List (Option ℤ)) → Vector → Type 0
MeetsAll w None v = (i : ℕ) → i < w → v i ≡ pos 0
MeetsAll w (Some cs) v = MeetsConstants w cs v

abbrev pub FlatMember : FlatState → Vector → Type 0
FlatMember s v = MeetsAll s.width s.constants v

abbrev pub rank_of : Option (List (Option ℤ)) → ℕ
rank_of None = 0
rank_of (Some cs) = 1 + count_by is_none cs

abbrev pub flat_rank : FlatState → ℕ
flat_rank s = rank_of s.constants

abbrev pub IsSmall : Option ℤ → Type 0
IsSmall None = Unit {0}
IsSmall (Some c) = IsWithin (2 ^ 31) c

pub record AreConstants (w : ℕ) (cs : List (Option ℤ)) : Type 0 where
  pub width : length cs ≡ w
  pub narrow : w ≤ 256
  pub small : (i : ℕ) → i < length cs → IsSmall (constant_at cs i)
  pub leading : 0 < w → constant_at cs 0 ≡ Some (pos 1)

abbrev pub IsFlat : ℕ → Option (List (Option ℤ)) → Type 0
IsFlat w None = w ≤ 256
IsFlat w (Some cs) = AreConstants w cs
