-- Which operators and keywords the grammar allows at a place, and how tightly an expression binds (C11 6.5, 6.7.1 to
-- 6.7.3).
-- The levels, from the loosest to the tightest: 0 comma, 1 assignment, 2 `? :`, 3 to 12 the binary operators, 13 cast,
-- 14 unary, 15 postfix,
-- 16 primary.
--   nowhere               a level that no expression has
--   binary_level m        the level of a binary operator, and `nowhere` for any other punctuator
--   is_assign m           an operator of assignment
--   prefix_need k         the level that the operand of a prefix operator needs, and `nowhere` for any other token;
--                         prefix_mark_need and prefix_key_need say it of a punctuator and of a keyword
--   is_step m             `++` or `--`
--   is_base_word, is_qualifier, is_aggregate    a keyword of a type, a qualifier, `struct` or `union`
--   all_keys test ks      each keyword passes the test
--   level e               how tightly an expression binds
use Rattle.std.specs.Prelude.{ℕ, Bool, true, false, ◌&&◌, List, [], ◌∷◌}
use Rattle.pungi_base.specs.declared.key.Key.{Key}
use Rattle.pungi_base.specs.declared.key.Key.TheVariants as keys
use Rattle.pungi_base.specs.declared.kind.Kind.{Kind}
use Rattle.pungi_base.specs.declared.kind.Kind.TheVariants as kind
use Rattle.pungi_base.specs.declared.punct.Punct.{Punct}
use Rattle.pungi_base.specs.declared.punct.Punct.TheVariants as puncts
use Rattle.pungi_tree.specs.Syntax.{Expr, word, int, float, char, text, null, paren, unary, post, binary, assign}
use Rattle.pungi_tree.specs.Syntax.{conditional, comma, cast, size_of_type, call, new, index, dot, arrow}

abbrev pub nowhere : ℕ
nowhere = 100

abbrev pub binary_level : Punct → ℕ
binary_level puncts.OrOr = 3
binary_level puncts.AndAnd = 4
binary_level puncts.Or = 5
binary_level puncts.Caret = 6
binary_level puncts.And = 7
binary_level puncts.Equal = 8
binary_level puncts.NotEqual = 8
binary_level puncts.Less = 9
binary_level puncts.Greater = 9
binary_level puncts.LessEqual = 9
binary_level puncts.GreaterEqual = 9
binary_level puncts.ShiftLeft = 10
binary_level puncts.ShiftRight = 10
binary_level puncts.Plus = 11
binary_level puncts.Minus = 11
binary_level puncts.Star = 12
binary_level puncts.Slash = 12
binary_level puncts.Percent = 12
binary_level _ = nowhere

abbrev pub is_assign : Punct → Bool
is_assign puncts.Assign = true
is_assign puncts.PlusAssign = true
is_assign puncts.MinusAssign = true
is_assign puncts.StarAssign = true
is_assign puncts.SlashAssign = true
is_assign puncts.PercentAssign = true
is_assign puncts.ShiftLeftAssign = true
is_assign puncts.ShiftRightAssign = true
is_assign puncts.AndAssign = true
is_assign puncts.CaretAssign = true
is_assign puncts.OrAssign = true
is_assign _ = false

abbrev pub prefix_mark_need : Punct → ℕ
prefix_mark_need puncts.PlusPlus = 14
prefix_mark_need puncts.MinusMinus = 14
prefix_mark_need puncts.And = 13
prefix_mark_need puncts.Star = 13
prefix_mark_need puncts.Plus = 13
prefix_mark_need puncts.Minus = 13
prefix_mark_need puncts.Tilde = 13
prefix_mark_need puncts.Not = 13
prefix_mark_need _ = nowhere

abbrev pub prefix_key_need : Key → ℕ
prefix_key_need keys.Sizeof = 14
prefix_key_need _ = nowhere

abbrev pub prefix_need : Kind → ℕ
prefix_need (kind.Punct m) = prefix_mark_need m
prefix_need (kind.Key k) = prefix_key_need k
prefix_need _ = nowhere

abbrev pub is_step : Punct → Bool
is_step puncts.PlusPlus = true
is_step puncts.MinusMinus = true
is_step _ = false

abbrev pub is_base_word : Key → Bool
is_base_word keys.Int = true
is_base_word keys.Long = true
is_base_word keys.Short = true
is_base_word keys.Char = true
is_base_word keys.Unsigned = true
is_base_word keys.Signed = true
is_base_word keys.Float = true
is_base_word keys.Double = true
is_base_word keys.Void = true
is_base_word keys.Bool = true
is_base_word _ = false

abbrev pub is_qualifier : Key → Bool
is_qualifier keys.Static = true
is_qualifier keys.Extern = true
is_qualifier keys.Inline = true
is_qualifier keys.Const = true
is_qualifier keys.Volatile = true
is_qualifier keys.Register = true
is_qualifier _ = false

abbrev pub is_aggregate : Key → Bool
is_aggregate keys.Struct = true
is_aggregate keys.Union = true
is_aggregate _ = false

abbrev pub all_keys : (Key → Bool) → List Key → Bool
all_keys test [] = true
all_keys test (k ∷ ks) = test k && all_keys test ks

abbrev pub level : Expr → ℕ
level (word p n) = 16
level (int p v l u) = 16
level (float p) = 16
level (char p c) = 16
level (text p ns) = 16
level (null p) = 16
level (paren p e) = 16
level (unary p k e) = 14
level (post p m e) = 15
level (binary p m a b) = binary_level m
level (assign p m a b) = 1
level (conditional p a b c) = 2
level (comma p a b) = 0
level (cast p t e) = 13
level (size_of_type p t) = 14
level (call p f es) = 15
level (new p t e) = 16
level (index p a b) = 15
level (dot p e n) = 15
level (arrow p e n) = 15
