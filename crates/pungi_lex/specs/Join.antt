-- A text without its line joins (C11 5.1.1.2, phase 2): a backslash directly before a line end goes with that line end.
--   first_place        where a text begins
--   after_byte at b    the place after the byte b that stands at a place
--   join_length text   how many bytes the line join at the front of a text has, 0 where there is no join
--   Placed             a byte and its place
--   still left text    how many bytes of a join come next, where so many are left of one that began before
--   kept left b at     a byte that stays
--   joined_from left at text, joined text    the bytes that stay, each with its place in the text as it stands
--   bytes_of, places_of    the bytes and the places of such
--   plain text         those bytes alone: the text that is cut into tokens
--   place_in places n  the n-th of these places
-- A line end is a line feed, alone or after a carriage return. What arises only by taking out a join is no join.
use Rattle.std.specs.Prelude.{ℕ, ◌+◌, ◌-◌, ◌==◌, List, [], ◌∷◌, ◌++◌, map, get_or, codes, if◌then◌else◌}
use Rattle.pungi_base.specs.declared.pos.Pos.{Pos}
use Rattle.pungi_lex.specs.Bytes.{is_one_of, begins_with}

abbrev pub first_place : Pos
first_place = record { line = 1; col = 1 }

abbrev pub after_byte : Pos → ℕ → Pos
after_byte at b =
    if is_one_of (codes "\n") b then record { line = at.line + 1; col = 1 } else record
    { line = at.line; col = at.col + 1 }

abbrev pub join_length : List ℕ → ℕ
join_length text = if begins_with (codes "\\\n") text then 2 else if begins_with (codes "\\\r\n") text then 3 else 0

pub record Placed : Type 0 where
  pub byte : ℕ
  pub at : Pos

abbrev pub still : ℕ → List ℕ → ℕ
still left text = if left == 0 then join_length text else left

abbrev pub kept : ℕ → ℕ → Pos → List Placed
kept left b at = if left == 0 then (record { byte = b; at = at }) ∷ [] else []

abbrev pub joined_from : ℕ → Pos → List ℕ → List Placed
joined_from left at [] = []
joined_from left at (b ∷ rest) =
    kept (still left (b ∷ rest)) b at ++ joined_from (still left (b ∷ rest) - 1) (after_byte at b) rest

abbrev pub joined : List ℕ → List Placed
joined text = joined_from 0 first_place text

abbrev pub bytes_of : List Placed → List ℕ
bytes_of all = map (λ p. p.byte) all

abbrev pub places_of : List Placed → List Pos
places_of all = map (λ p. p.at) all

abbrev pub plain : List ℕ → List ℕ
plain text = bytes_of (joined text)

abbrev pub place_in : List Pos → ℕ → Pos
place_in places n = get_or places n (record { line = 0; col = 0 })
