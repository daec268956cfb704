-- How far a line has come, as far as directives need (C11 6.10): a `#` that is the first token on its line begins a
-- directive, and after `#` and `include` the rest of the line is a header.
--   after_token line piece       the line after this token
--   next_line line start piece   the line after this token, or after these blanks or this comment
--   is_fresh line                no token stands on the line
use Rattle.std.specs.Prelude.{ℕ, Bool, true, false, List, codes, if◌then◌else◌}
use Rattle.std.specs.List.{list_any}
use Rattle.std.specs.Str.{bytes_eq}
use Rattle.pungi_lex.specs.declared.line.Line.{Line}
use Rattle.pungi_lex.specs.declared.line.Line.TheVariants as lines
use Rattle.pungi_lex.specs.declared.start.Start.{Start}
use Rattle.pungi_lex.specs.Bytes.{is_one_of}
use Rattle.pungi_lex.specs.Start.{is_token}

abbrev pub after_token : Line → List ℕ → Line
after_token lines.Fresh piece = if bytes_eq piece (codes "#") then lines.Hash else lines.Within
after_token lines.Hash piece = if bytes_eq piece (codes "include") then lines.Include else lines.Within
after_token lines.Include piece = lines.Within
after_token lines.Within piece = lines.Within

abbrev pub next_line : Line → Start → List ℕ → Line
next_line line start piece =
    if is_token start then after_token line piece
    else if list_any (is_one_of (codes "\n")) piece then lines.Fresh
    else line

abbrev pub is_fresh : Line → Bool
is_fresh lines.Fresh = true
is_fresh lines.Hash = false
is_fresh lines.Include = false
is_fresh lines.Within = false
