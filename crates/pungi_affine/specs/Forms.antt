-- The form in which a span is kept: the reduced row echelon form with one common scale in place of ones at the pivots,
-- and no common divisor of the scale and all entries.
--   Line                a row with its pivot
--   no_line, line ls k  the line past the end of a list; a line of it
--   vectors ls          their entries
--   fill v ls i         what the rows make of v's entries at the pivots
--   IsForm w d ls       each row is d at its own pivot, and 0 at the others and before its own
--   IsOrdered ls        the pivots ascend
--   IsCoprime w d ls    what divides the e-fold of d and of all entries divides e
--   line_of r, lines rs the kept rows as lines
--   IsBox z             z is at most 2^31 in absolute value
--   WithinBox xs        each number of the list is
use Rattle.std.specs.Prelude.{◌≡◌, ℕ, ◌<◌, ◌^◌, ℤ, pos, ◌+ℤ◌, ◌*ℤ◌, ◌<ℤ◌, List, [], ◌∷◌, length, map}
use Rattle.std.specs.List.{slice_index_or}
use Rattle.pungi_domain.specs.Vectors.{at, IsWithin}
use Rattle.pungi_domain.specs.Spans.{Divides}
use Rattle.pungi_affine.specs.Rows.{row_entries}
use Rattle.pungi_affine.specs.declared.row.Row.{Row}

pub record Line : Type 0 where
  pub pivot : ℕ
  pub entries : List ℤ

abbrev pub no_line : Line
no_line = record { pivot = 0; entries = [] }

abbrev pub line : List Line → ℕ → Line
line ls k = slice_index_or ls k no_line

abbrev pub vectors : List Line → List (List ℤ)
vectors ls = map (λ l. l.entries) ls

abbrev pub fill : (ℕ → ℤ) → List Line → ℕ → ℤ
fill v [] i = pos 0
fill v (l ∷ ls) i = (v l.pivot *ℤ at l.entries i) +ℤ fill v ls i

pub record IsForm (w : ℕ) (d : ℤ) (ls : List Line) : Type 0 where
  pub positive : pos 0 <ℤ d
  pub within : (k : ℕ) → k < length ls → (line ls k).pivot < w
  pub own : (k : ℕ) → k < length ls → at (line ls k).entries (line ls k).pivot ≡ d
  pub others : (j k : ℕ) → j < length ls → k < length ls → (j ≡ k → ⊥)
      → at (line ls k).entries (line ls j).pivot ≡ pos 0
  pub before : (k i : ℕ) → k < length ls → i < (line ls k).pivot → at (line ls k).entries i ≡ pos 0

abbrev pub IsOrdered : List Line → Type 0
IsOrdered ls = (j k : ℕ) → j < k → k < length ls → (line ls j).pivot < (line ls k).pivot

abbrev pub IsCoprime : ℕ → ℤ → List Line → Type 0
IsCoprime w d ls =
    (m e : ℤ) → Divides m (e *ℤ d) → ((k i : ℕ) → k < length ls → i < w → Divides m (e *ℤ at (line ls k).entries i))
    → Divides m e

abbrev pub line_of : Row → Line
line_of r = record { pivot = r.pivot; entries = row_entries r }

abbrev pub lines : List Row → List Line
lines rs = map line_of rs

abbrev pub IsBox : ℤ → Type 0
IsBox z = IsWithin (2 ^ 31) z

abbrev pub WithinBox : List ℤ → Type 0
WithinBox xs = (i : ℕ) → i < length xs → IsBox (at xs i)
