-- Character constants of one byte (C11 6.4.4.4).
--   is_plain b         a printable byte (C11 5.2.1) other than ' and \
--   value_at letters values b    the value at the place of a letter
--   escape_value b     what \b stands for, where it is one of \n \t \r \0 \\ \' \"
--   char_after text    the value of a character and the length of its spelling, by what follows its first quote
--   char_value c, char_length c  the one and the other
use Rattle.std.specs.Prelude.{ℕ, ◌==◌, Bool, not, ◌&&◌, List, [], ◌∷◌, Option, Some, None, option_map, codes}
use Rattle.std.specs.Prelude.{if◌then◌else◌}
use Rattle.pungi_lex.specs.Bytes.{is_one_of, is_from_to}

abbrev pub is_plain : ℕ → Bool
is_plain b = is_from_to (codes " ~") b && not (is_one_of (codes "'\\") b)

-- the value at the place of the letter
abbrev pub value_at : List ℕ → List ℕ → ℕ → Option ℕ
value_at [] values b = None
value_at (letter ∷ letters) [] b = None
value_at (letter ∷ letters) (value ∷ values) b = if b == letter then Some value else value_at letters values b

abbrev pub escape_value : ℕ → Option ℕ
escape_value b = value_at (codes "ntr0\\'\"") (codes "\n\t\r\0\\'\"") b

abbrev pub char_after : List ℕ → Option (ℕ × ℕ)
char_after [] = None
char_after (a ∷ []) = None
char_after (a ∷ b ∷ []) = if is_plain a && is_one_of (codes "'") b then Some (a, 3) else None
char_after (a ∷ b ∷ c ∷ rest) =
    if is_plain a && is_one_of (codes "'") b then Some (a, 3)
    else if is_one_of (codes "\\") a && is_one_of (codes "'") c then option_map (λ value. (value, 4)) (escape_value b)
    else None

abbrev pub char_value : Option (ℕ × ℕ) → Option ℕ
char_value None = None
char_value (Some c) = Some c.0

abbrev pub char_length : Option (ℕ × ℕ) → Option ℕ
char_length None = None
char_length (Some c) = Some c.1
