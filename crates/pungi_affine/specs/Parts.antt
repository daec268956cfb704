-- Vectors without the common divisor of their entries.
--   IsLong z            z is below 2^127 in absolute value
--   AreLong xs          each number of the list is
--   IsPart xs q part    xs is a multiple of part, whose entries have no common divisor, and whose entry at q is above 0
--   IsPartOf xs o       o is such a row, with its first entry other than 0 at its pivot, and none exactly where xs is 0
--   IsPivotPart xs q part   part is such a row, with its first entry other than 0 at q
--   wide_line r, wide_lines rs    rows as lines
use Rattle.std.specs.Prelude.{◌≡◌, ℕ, ◌<◌, ◌^◌, ℤ, pos, neg_ℤ, ◌*ℤ◌, ◌<ℤ◌, List, length, map, Option, None, Some}
use Rattle.pungi_domain.specs.Vectors.{at}
use Rattle.pungi_domain.specs.Spans.{Divides}
use Rattle.pungi_affine.specs.Forms.{Line}
use Rattle.pungi_affine.specs.declared.part.WideRow.{WideRow}

abbrev pub IsLong : ℤ → Type 0
IsLong z = (z <ℤ pos (2 ^ 127)) × (neg_ℤ (pos (2 ^ 127)) <ℤ z)

abbrev pub AreLong : List ℤ → Type 0
AreLong xs = (i : ℕ) → i < length xs → IsLong (at xs i)

pub record IsPart (xs : List ℤ) (q : ℕ) (part : List ℤ) : Type 0 where
  pub lengths : length part ≡ length xs
  pub times : ℤ
  pub not_zero : times ≡ pos 0 → ⊥
  pub exact : (i : ℕ) → i < length xs → at xs i ≡ times *ℤ at part i
  pub positive : pos 0 <ℤ at part q
  pub coprime : (m e : ℤ) → ((i : ℕ) → i < length xs → Divides m (e *ℤ at part i)) → Divides m e

pub record IsPivotPart (xs : List ℤ) (q : ℕ) (part : List ℤ) : Type 0 where
  pub within : q < length xs
  pub before : (i : ℕ) → i < q → at part i ≡ pos 0
  pub is : IsPart xs q part

abbrev pub IsPartOf : List ℤ → Option WideRow → Type 0
IsPartOf xs None = (i : ℕ) → i < length xs → at xs i ≡ pos 0
IsPartOf xs (Some r) = IsPivotPart xs r.pivot r.entries.items

abbrev pub wide_line : WideRow → Line
wide_line r = record { pivot = r.pivot; entries = r.entries.items }

abbrev pub wide_lines : List WideRow → List Line
wide_lines rs = map wide_line rs
