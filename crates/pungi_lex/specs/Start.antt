-- What begins at a place of a text depends on the line so far and the first two bytes (C11 6.4).
--   is_mark b            a punctuator begins with b
--   begins_number text   a digit comes next, or a point and a digit (C11 6.4.8)
--   is_after_include line    an `include` has come, and its header is next
--   starts_bare text, start_of line text  what begins here, without a look at the line, and as far as the line has come
--   is_token start       what begins so is a token: no blanks, and no comment
--   Begins start text    what is sure of a text where this begins
use Rattle.std.specs.Prelude.{ℕ, Bool, true, false, ◌&&◌, ◌||◌, IsTrue, ◌≤◌, ◌<◌, length, List, [], ◌∷◌, codes}
use Rattle.std.specs.Prelude.{if◌then◌else◌}
use Rattle.pungi_lex.specs.declared.line.Line.{Line}
use Rattle.pungi_lex.specs.declared.line.Line.TheVariants as lines
use Rattle.pungi_lex.specs.declared.start.Start.{Start}
use Rattle.pungi_lex.specs.declared.start.Start.TheVariants as start
use Rattle.pungi_lex.specs.Bytes.{is_one_of, is_blank, is_digit, is_letter, is_in_line, begins, begins_with}

abbrev pub is_mark : ℕ → Bool
is_mark b = is_one_of (codes "()[]{};,.-+&*~!/%<>=^|?:#") b

abbrev pub is_after_include : Line → Bool
is_after_include lines.Include = true
is_after_include lines.Fresh = false
is_after_include lines.Hash = false
is_after_include lines.Within = false

abbrev pub begins_number : List ℕ → Bool
begins_number [] = false
begins_number (b ∷ text) = is_digit b || (is_one_of (codes ".") b && begins is_digit text)

abbrev pub starts_bare : List ℕ → Start
starts_bare text =
    if begins is_blank text then start.Blank
    else if begins_with (codes "//") text then start.LineComment
    else if begins_with (codes "/*") text then start.Comment
    else if begins is_letter text then start.Word
    else if begins_number text then start.Number
    else if begins_with (codes "'") text then start.Char
    else if begins_with (codes "\"") text then start.Text
    else if begins is_mark text then start.Mark
    else start.Nothing

abbrev pub start_of : Line → List ℕ → Start
start_of line text = if is_after_include line && begins is_in_line text then start.Header else starts_bare text

abbrev pub is_token : Start → Bool
is_token start.Header = true
is_token start.Blank = false
is_token start.LineComment = false
is_token start.Comment = false
is_token start.Word = true
is_token start.Number = true
is_token start.Char = true
is_token start.Text = true
is_token start.Mark = true
is_token start.Nothing = true

abbrev pub Begins : Start → List ℕ → Type 0
Begins start.Header text = IsTrue (begins is_in_line text)
Begins start.Blank text = IsTrue (begins is_blank text)
Begins start.LineComment text = IsTrue (begins is_in_line text)
Begins start.Comment text = 2 ≤ length text
Begins start.Word text = IsTrue (begins is_letter text)
Begins start.Number text = 0 < length text
Begins start.Char text = 0 < length text
Begins start.Text text = 0 < length text
Begins start.Mark text = 0 < length text
Begins start.Nothing text = Unit {0}
