-- Comments (C11 6.4.9). One of a line needs no word here: it goes to the line's end.
--   close_count text    how many bytes there are up to the first */ and with it, if there is one
use Rattle.std.specs.Prelude.{ℕ, List, [], ◌∷◌, Option, Some, None, codes, if◌then◌else◌}
use Rattle.pungi_lex.specs.Bytes.{begins_with}
use Rattle.pungi_lex.specs.Lengths.{add_to}

abbrev pub close_count : List ℕ → Option ℕ
close_count [] = None
close_count (b ∷ text) = if begins_with (codes "*/") (b ∷ text) then Some 2 else add_to 1 (close_count text)
