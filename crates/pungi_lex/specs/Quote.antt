-- String literals (C11 6.4.5). They end on their line, and a backslash takes the next byte with it.
--   quote_count taken text    how many bytes there are up to the quote that ends a literal and with it, if it ends;
--                          taken says that a backslash took the first byte with it
--   content piece          what stands between the quotes, escapes as written
use Rattle.std.specs.Prelude.{ℕ, ◌-◌, Bool, not, ◌&&◌, List, [], ◌∷◌, length, take, drop, Option, Some, None, codes}
use Rattle.std.specs.Prelude.{if◌then◌else◌}
use Rattle.pungi_lex.specs.Bytes.{is_one_of}
use Rattle.pungi_lex.specs.Lengths.{add_to}

abbrev pub quote_count : Bool → List ℕ → Option ℕ
quote_count taken [] = None
quote_count taken (b ∷ text) =
    if is_one_of (codes "\n") b then None
    else if not taken && is_one_of (codes "\"") b then Some 1
    else add_to 1 (quote_count (not taken && is_one_of (codes "\\") b) text)

abbrev pub content : List ℕ → List ℕ
content piece = take (length piece - 2) (drop 1 piece)
