-- Punctuators by their bytes, as they are looked up. That this finds the longest one is proved of it.
--   mark_one, mark_two, mark_three    the punctuator of so many bytes, if there is one
--   or_else first second     the first, or else the second
--   mark_at text             the punctuator of most bytes that the text begins with
use Rattle.std.specs.Prelude.{ℕ, ◌&&◌, List, [], ◌∷◌, Option, Some, None, codes, if◌then◌else◌}
use Rattle.pungi_base.specs.declared.punct.Punct.{Punct}
use Rattle.pungi_base.specs.declared.punct.Punct.TheVariants as punct
use Rattle.pungi_lex.specs.Bytes.{is_one_of}

abbrev pub mark_one : ℕ → Option Punct
mark_one a =
    if is_one_of (codes "(") a then Some punct.LeftParen
    else if is_one_of (codes ")") a then Some punct.RightParen
    else if is_one_of (codes "[") a then Some punct.LeftBracket
    else if is_one_of (codes "]") a then Some punct.RightBracket
    else if is_one_of (codes "{") a then Some punct.LeftBrace
    else if is_one_of (codes "}") a then Some punct.RightBrace
    else if is_one_of (codes ";") a then Some punct.Semicolon
    else if is_one_of (codes ",") a then Some punct.Comma
    else if is_one_of (codes ".") a then Some punct.Dot
    else if is_one_of (codes "&") a then Some punct.And
    else if is_one_of (codes "*") a then Some punct.Star
    else if is_one_of (codes "+") a then Some punct.Plus
    else if is_one_of (codes "-") a then Some punct.Minus
    else if is_one_of (codes "~") a then Some punct.Tilde
    else if is_one_of (codes "!") a then Some punct.Not
    else if is_one_of (codes "/") a then Some punct.Slash
    else if is_one_of (codes "%") a then Some punct.Percent
    else if is_one_of (codes "<") a then Some punct.Less
    else if is_one_of (codes ">") a then Some punct.Greater
    else if is_one_of (codes "^") a then Some punct.Caret
    else if is_one_of (codes "|") a then Some punct.Or
    else if is_one_of (codes "?") a then Some punct.Question
    else if is_one_of (codes ":") a then Some punct.Colon
    else if is_one_of (codes "=") a then Some punct.Assign
    else if is_one_of (codes "#") a then Some punct.Hash
    else None

abbrev pub mark_two : ℕ → ℕ → Option Punct
mark_two a b =
    if is_one_of (codes "-") a then (if is_one_of (codes ">") b then Some punct.Arrow else if is_one_of (codes "-")
    b then Some punct.MinusMinus else if is_one_of (codes "=") b then Some punct.MinusAssign else None)
    else if is_one_of (codes "+") a then (if is_one_of (codes "+") b then Some punct.PlusPlus else if is_one_of
    (codes "=") b then Some punct.PlusAssign else None)
    else if is_one_of (codes "<") a then (if is_one_of (codes "<") b then Some punct.ShiftLeft else if is_one_of
    (codes "=") b then Some punct.LessEqual else None)
    else if is_one_of (codes ">") a then (if is_one_of (codes ">") b then Some punct.ShiftRight else if is_one_of
    (codes "=") b then Some punct.GreaterEqual else None)
    else if is_one_of (codes "=") a then (if is_one_of (codes "=") b then Some punct.Equal else None)
    else if is_one_of (codes "!") a then (if is_one_of (codes "=") b then Some punct.NotEqual else None)
    else if is_one_of (codes "&") a then (if is_one_of (codes "&") b then Some punct.AndAnd else if is_one_of
    (codes "=") b then Some punct.AndAssign else None)
    else if is_one_of (codes "|") a then (if is_one_of (codes "|") b then Some punct.OrOr else if is_one_of
    (codes "=") b then Some punct.OrAssign else None)
    else if is_one_of (codes "*") a then (if is_one_of (codes "=") b then Some punct.StarAssign else None)
    else if is_one_of (codes "/") a then (if is_one_of (codes "=") b then Some punct.SlashAssign else None)
    else if is_one_of (codes "%") a then (if is_one_of (codes "=") b then Some punct.PercentAssign else None)
    else if is_one_of (codes "^") a then (if is_one_of (codes "=") b then Some punct.CaretAssign else None)
    else if is_one_of (codes "#") a then (if is_one_of (codes "#") b then Some punct.HashHash else None) else None

abbrev pub mark_three : ℕ → ℕ → ℕ → Option Punct
mark_three a b c =
    if is_one_of (codes "<") a && is_one_of (codes "<") b && is_one_of (codes "=") c then Some punct.ShiftLeftAssign
    else if is_one_of (codes ">") a && is_one_of (codes ">") b
    && is_one_of (codes "=") c then Some punct.ShiftRightAssign
    else if is_one_of (codes ".") a && is_one_of (codes ".") b && is_one_of (codes ".") c then Some punct.Ellipsis
    else None

abbrev pub or_else : Option Punct → Option Punct → Option Punct
or_else None other = other
or_else (Some p) other = Some p

abbrev pub mark_at : List ℕ → Option Punct
mark_at [] = None
mark_at (a ∷ []) = mark_one a
mark_at (a ∷ b ∷ []) = or_else (mark_two a b) (mark_one a)
mark_at (a ∷ b ∷ c ∷ rest) = or_else (mark_three a b c) (or_else (mark_two a b) (mark_one a))
