-- The spelling of tokens (C11 6.4.1, 6.4.6).
--   key_number key     the number of a keyword among the words
--   punct_text punct   the spelling of a punctuator
--   puncts             all punctuators of the subset
use Rattle.std.specs.Prelude.{ℕ, List, [], ◌∷◌, codes}
use Rattle.pungi_base.specs.declared.key.Key.{Key}
use Rattle.pungi_base.specs.declared.key.Key.TheVariants as key
use Rattle.pungi_base.specs.declared.punct.Punct.{Punct}
use Rattle.pungi_base.specs.declared.punct.Punct.TheVariants as punct

abbrev pub key_number : Key → ℕ
key_number key.Int = 0
key_number key.Long = 1
key_number key.Short = 2
key_number key.Char = 3
key_number key.Unsigned = 4
key_number key.Signed = 5
key_number key.Float = 6
key_number key.Double = 7
key_number key.Void = 8
key_number key.Bool = 9
key_number key.Struct = 10
key_number key.Union = 11
key_number key.Enum = 12
key_number key.Typedef = 13
key_number key.Static = 14
key_number key.Extern = 15
key_number key.Inline = 16
key_number key.Const = 17
key_number key.Volatile = 18
key_number key.Register = 19
key_number key.If = 20
key_number key.Else = 21
key_number key.While = 22
key_number key.Do = 23
key_number key.For = 24
key_number key.Switch = 25
key_number key.Case = 26
key_number key.Default = 27
key_number key.Break = 28
key_number key.Continue = 29
key_number key.Return = 30
key_number key.Goto = 31
key_number key.Sizeof = 32
key_number key.Null = 33

abbrev pub punct_text : Punct → List ℕ
punct_text punct.LeftParen = codes "("
punct_text punct.RightParen = codes ")"
punct_text punct.LeftBracket = codes "["
punct_text punct.RightBracket = codes "]"
punct_text punct.LeftBrace = codes "{"
punct_text punct.RightBrace = codes "}"
punct_text punct.Semicolon = codes ";"
punct_text punct.Comma = codes ","
punct_text punct.Dot = codes "."
punct_text punct.Arrow = codes "->"
punct_text punct.PlusPlus = codes "++"
punct_text punct.MinusMinus = codes "--"
punct_text punct.And = codes "&"
punct_text punct.Star = codes "*"
punct_text punct.Plus = codes "+"
punct_text punct.Minus = codes "-"
punct_text punct.Tilde = codes "~"
punct_text punct.Not = codes "!"
punct_text punct.Slash = codes "/"
punct_text punct.Percent = codes "%"
punct_text punct.ShiftLeft = codes "<<"
punct_text punct.ShiftRight = codes ">>"
punct_text punct.Less = codes "<"
punct_text punct.Greater = codes ">"
punct_text punct.LessEqual = codes "<="
punct_text punct.GreaterEqual = codes ">="
punct_text punct.Equal = codes "=="
punct_text punct.NotEqual = codes "!="
punct_text punct.Caret = codes "^"
punct_text punct.Or = codes "|"
punct_text punct.AndAnd = codes "&&"
punct_text punct.OrOr = codes "||"
punct_text punct.Question = codes "?"
punct_text punct.Colon = codes ":"
punct_text punct.Assign = codes "="
punct_text punct.PlusAssign = codes "+="
punct_text punct.MinusAssign = codes "-="
punct_text punct.StarAssign = codes "*="
punct_text punct.SlashAssign = codes "/="
punct_text punct.PercentAssign = codes "%="
punct_text punct.ShiftLeftAssign = codes "<<="
punct_text punct.ShiftRightAssign = codes ">>="
punct_text punct.AndAssign = codes "&="
punct_text punct.CaretAssign = codes "^="
punct_text punct.OrAssign = codes "|="
punct_text punct.Ellipsis = codes "..."
punct_text punct.Hash = codes "#"
punct_text punct.HashHash = codes "##"

abbrev pub puncts : List Punct
puncts =
    punct.LeftParen ∷ punct.RightParen ∷ punct.LeftBracket ∷ punct.RightBracket ∷ punct.LeftBrace ∷ punct.RightBrace
    ∷ punct.Semicolon ∷ punct.Comma ∷
    punct.Dot ∷ punct.Arrow ∷ punct.PlusPlus ∷ punct.MinusMinus ∷ punct.And ∷ punct.Star ∷ punct.Plus ∷ punct.Minus
    ∷ punct.Tilde ∷ punct.Not ∷
    punct.Slash ∷ punct.Percent ∷ punct.ShiftLeft ∷ punct.ShiftRight ∷ punct.Less ∷ punct.Greater ∷ punct.LessEqual
    ∷ punct.GreaterEqual ∷
    punct.Equal ∷ punct.NotEqual ∷ punct.Caret ∷ punct.Or ∷ punct.AndAnd ∷ punct.OrOr ∷ punct.Question ∷ punct.Colon
    ∷ punct.Assign ∷
    punct.PlusAssign ∷ punct.MinusAssign ∷ punct.StarAssign ∷ punct.SlashAssign ∷ punct.PercentAssign
    ∷ punct.ShiftLeftAssign ∷
    punct.ShiftRightAssign ∷ punct.AndAssign ∷ punct.CaretAssign ∷ punct.OrAssign ∷ punct.Ellipsis ∷ punct.Hash
    ∷ punct.HashHash ∷ []
