-- Places of bytes that stand side by side on a line.
--   is_unbroken b       b is neither a line feed nor a backslash
--   right_of at n       the place n columns on
--   side_by_side at n   the places of n bytes of one line, of which the first stands at a place
--   places_along all    the places of the bytes of these stretches
--   IsNarrow stretch    its columns fit a `u32`
--   places_left all spot   the places of the bytes from a spot on
use Rattle.std.specs.Prelude.{ℕ, zero, suc, ◌+◌, ◌<◌, ◌^◌, Bool, not, List, [], ◌∷◌, ◌++◌, drop, codes}
use Rattle.pungi_base.specs.declared.pos.Pos.{Pos}
use Rattle.pungi_lex.specs.declared.stretch.Stretch.{Stretch}
use Rattle.pungi_lex.specs.declared.stretch.Spot.{Spot}
use Rattle.pungi_lex.specs.Bytes.{is_one_of}

abbrev pub is_unbroken : ℕ → Bool
is_unbroken b = not (is_one_of (codes "\n\\") b)

abbrev pub right_of : Pos → ℕ → Pos
right_of at n = record { line = at.line; col = at.col + n }

abbrev pub side_by_side : Pos → ℕ → List Pos
side_by_side at zero = []
side_by_side at (suc n) = at ∷ side_by_side (right_of at 1) n

abbrev pub places_along : List Stretch → List Pos
places_along [] = []
places_along (s ∷ all) = side_by_side s.at s.count ++ places_along all

abbrev pub IsNarrow : Stretch → Type 0
IsNarrow stretch = stretch.at.col + stretch.count < 2 ^ 32

abbrev pub places_left : List Stretch → Spot → List Pos
places_left all spot = side_by_side spot.at spot.left ++ places_along (drop spot.next all)
