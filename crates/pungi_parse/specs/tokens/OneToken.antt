-- What one token at the front of a list is: each returns its place and the tokens after it, or nothing where another
-- token stands there.
--   punct_number m, key_number k    the place of a punctuator, or of a keyword, among all
--   mark_here, key_here, word_here, text_here, listed_here, null_here, literal_here, prefix_here, operator_here,
--   marked_here
--                               what a kind is, as each of the following tests, with its place and the tokens after it
--   eat m ts, eat_key k ts      this punctuator, this keyword
--   eat_word ts, eat_text ts    a word, a text: its name first
--   eat_listed test ts          a keyword that passes the test, first
--   eat_literal ts              a constant or `NULL`: the expression that it is
--   eat_prefix ts               a prefix operator but `sizeof`: its token first
--   eat_operator l ts           a binary operator of level `l` or a tighter one, first
--   eat_marked test ts          a punctuator that passes the test, first
--   eat_assign ts, eat_step ts  an operator of assignment, `++` or `--`, first
use Rattle.std.specs.Prelude.{ℕ, Bool, true, false, ◌&&◌, ◌==◌, nat_le, if◌then◌else◌, List, [], ◌∷◌, Option, Some}
use Rattle.std.specs.Prelude.{None}
use Rattle.pungi_base.specs.declared.key.Key.{Key}
use Rattle.pungi_base.specs.declared.key.Key.TheVariants as keys
use Rattle.pungi_base.specs.declared.kind.Kind.{Kind}
use Rattle.pungi_base.specs.declared.kind.Kind.TheVariants as kind
use Rattle.pungi_base.specs.declared.names.Name.{Name}
use Rattle.pungi_base.specs.declared.pos.Pos.{Pos}
use Rattle.pungi_base.specs.declared.punct.Punct.{Punct}
use Rattle.pungi_base.specs.declared.punct.Punct.TheVariants as puncts
use Rattle.pungi_tree.specs.Operators.{binary_level, is_assign, is_step, prefix_mark_need}
use Rattle.pungi_tree.specs.Placed.{Placed}
use Rattle.pungi_tree.specs.Syntax.{Expr, int, float, char, null}

abbrev pub punct_number : Punct → ℕ
punct_number puncts.LeftParen = 0
punct_number puncts.RightParen = 1
punct_number puncts.LeftBracket = 2
punct_number puncts.RightBracket = 3
punct_number puncts.LeftBrace = 4
punct_number puncts.RightBrace = 5
punct_number puncts.Semicolon = 6
punct_number puncts.Comma = 7
punct_number puncts.Dot = 8
punct_number puncts.Arrow = 9
punct_number puncts.PlusPlus = 10
punct_number puncts.MinusMinus = 11
punct_number puncts.And = 12
punct_number puncts.Star = 13
punct_number puncts.Plus = 14
punct_number puncts.Minus = 15
punct_number puncts.Tilde = 16
punct_number puncts.Not = 17
punct_number puncts.Slash = 18
punct_number puncts.Percent = 19
punct_number puncts.ShiftLeft = 20
punct_number puncts.ShiftRight = 21
punct_number puncts.Less = 22
punct_number puncts.Greater = 23
punct_number puncts.LessEqual = 24
punct_number puncts.GreaterEqual = 25
punct_number puncts.Equal = 26
punct_number puncts.NotEqual = 27
punct_number puncts.Caret = 28
punct_number puncts.Or = 29
punct_number puncts.AndAnd = 30
punct_number puncts.OrOr = 31
punct_number puncts.Question = 32
punct_number puncts.Colon = 33
punct_number puncts.Assign = 34
punct_number puncts.PlusAssign = 35
punct_number puncts.MinusAssign = 36
punct_number puncts.StarAssign = 37
punct_number puncts.SlashAssign = 38
punct_number puncts.PercentAssign = 39
punct_number puncts.ShiftLeftAssign = 40
punct_number puncts.ShiftRightAssign = 41
punct_number puncts.AndAssign = 42
punct_number puncts.CaretAssign = 43
punct_number puncts.OrAssign = 44
punct_number puncts.Ellipsis = 45
punct_number puncts.Hash = 46
punct_number puncts.HashHash = 47

abbrev pub key_number : Key → ℕ
key_number keys.Int = 0
key_number keys.Long = 1
key_number keys.Short = 2
key_number keys.Char = 3
key_number keys.Unsigned = 4
key_number keys.Signed = 5
key_number keys.Float = 6
key_number keys.Double = 7
key_number keys.Void = 8
key_number keys.Bool = 9
key_number keys.Struct = 10
key_number keys.Union = 11
key_number keys.Enum = 12
key_number keys.Typedef = 13
key_number keys.Static = 14
key_number keys.Extern = 15
key_number keys.Inline = 16
key_number keys.Const = 17
key_number keys.Volatile = 18
key_number keys.Register = 19
key_number keys.If = 20
key_number keys.Else = 21
key_number keys.While = 22
key_number keys.Do = 23
key_number keys.For = 24
key_number keys.Switch = 25
key_number keys.Case = 26
key_number keys.Default = 27
key_number keys.Break = 28
key_number keys.Continue = 29
key_number keys.Return = 30
key_number keys.Goto = 31
key_number keys.Sizeof = 32
key_number keys.Null = 33

abbrev pub mark_here : Punct → Kind → Pos → List Placed → Option (Pos × List Placed)
mark_here m (kind.Punct q) p ts = if punct_number m == punct_number q then Some (p, ts) else None
mark_here m _ p ts = None

abbrev pub eat : Punct → List Placed → Option (Pos × List Placed)
eat m [] = None
eat m (t ∷ ts) = mark_here m t.0 t.1 ts

abbrev pub key_here : Key → Kind → Pos → List Placed → Option (Pos × List Placed)
key_here k (kind.Key q) p ts = if key_number k == key_number q then Some (p, ts) else None
key_here k _ p ts = None

abbrev pub eat_key : Key → List Placed → Option (Pos × List Placed)
eat_key k [] = None
eat_key k (t ∷ ts) = key_here k t.0 t.1 ts

abbrev pub word_here : Kind → Pos → List Placed → Option (Name × Pos × List Placed)
word_here (kind.Word n) p ts = Some (n, p, ts)
word_here _ p ts = None

abbrev pub eat_word : List Placed → Option (Name × Pos × List Placed)
eat_word [] = None
eat_word (t ∷ ts) = word_here t.0 t.1 ts

abbrev pub text_here : Kind → Pos → List Placed → Option (Name × Pos × List Placed)
text_here (kind.Text n) p ts = Some (n, p, ts)
text_here _ p ts = None

abbrev pub eat_text : List Placed → Option (Name × Pos × List Placed)
eat_text [] = None
eat_text (t ∷ ts) = text_here t.0 t.1 ts

abbrev pub listed_here : (Key → Bool) → Kind → Pos → List Placed → Option (Key × Pos × List Placed)
listed_here test (kind.Key k) p ts = if test k then Some (k, p, ts) else None
listed_here test _ p ts = None

abbrev pub eat_listed : (Key → Bool) → List Placed → Option (Key × Pos × List Placed)
eat_listed test [] = None
eat_listed test (t ∷ ts) = listed_here test t.0 t.1 ts

abbrev pub null_here : Key → Pos → List Placed → Option (Expr × List Placed)
null_here keys.Null p ts = Some (null p, ts)
null_here _ p ts = None

abbrev pub literal_here : Kind → Pos → List Placed → Option (Expr × List Placed)
literal_here (kind.Int v l u) p ts = Some (int p v l u, ts)
literal_here kind.Float p ts = Some (float p, ts)
literal_here (kind.Char c) p ts = Some (char p c, ts)
literal_here (kind.Key k) p ts = null_here k p ts
literal_here _ p ts = None

abbrev pub eat_literal : List Placed → Option (Expr × List Placed)
eat_literal [] = None
eat_literal (t ∷ ts) = literal_here t.0 t.1 ts

abbrev pub prefix_here : Kind → Pos → List Placed → Option (Punct × Pos × List Placed)
prefix_here (kind.Punct m) p ts = if nat_le (prefix_mark_need m) 14 then Some (m, p, ts) else None
prefix_here _ p ts = None

abbrev pub eat_prefix : List Placed → Option (Punct × Pos × List Placed)
eat_prefix [] = None
eat_prefix (t ∷ ts) = prefix_here t.0 t.1 ts

abbrev pub operator_here : ℕ → Kind → Pos → List Placed → Option (Punct × Pos × List Placed)
operator_here l (kind.Punct m) p ts =
    if nat_le l (binary_level m) && nat_le (binary_level m) 12 then Some (m, p, ts) else None
operator_here l _ p ts = None

abbrev pub eat_operator : ℕ → List Placed → Option (Punct × Pos × List Placed)
eat_operator l [] = None
eat_operator l (t ∷ ts) = operator_here l t.0 t.1 ts

abbrev pub marked_here : (Punct → Bool) → Kind → Pos → List Placed → Option (Punct × Pos × List Placed)
marked_here test (kind.Punct m) p ts = if test m then Some (m, p, ts) else None
marked_here test _ p ts = None

abbrev pub eat_marked : (Punct → Bool) → List Placed → Option (Punct × Pos × List Placed)
eat_marked test [] = None
eat_marked test (t ∷ ts) = marked_here test t.0 t.1 ts

abbrev pub eat_assign : List Placed → Option (Punct × Pos × List Placed)
eat_assign ts = eat_marked is_assign ts

abbrev pub eat_step : List Placed → Option (Punct × Pos × List Placed)
eat_step ts = eat_marked is_step ts
