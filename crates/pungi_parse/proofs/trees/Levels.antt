-- Levels of expressions.
--   at_split          an expression is allowed at a level where it binds as tightly and is allowed at all
--   at_level, at_whole, at_join    the same, in one direction each
--   binary_bounds     the level of a binary operator that stands in an allowed expression
--   level_bound       no allowed expression binds more tightly than a primary one
--   prefix_bound      a prefix operator that stands in an allowed expression
--   some_depth        an expression is a node
use Rattle.std.proofs.Common.{◌≡◌, ℕ, ◌+◌, ◌<◌, ◌≤◌, Bool, true, false, ◌&&◌, List, refl, sym, ◌∙◌, arith}
use Rattle.std.specs.Prelude.{nat_le}
use Rattle.pungi_base.specs.declared.key.Key.{Key}
use Rattle.pungi_base.specs.declared.key.Key.TheVariants as keys
use Rattle.pungi_base.specs.declared.kind.Kind.{Kind}
use Rattle.pungi_base.specs.declared.kind.Kind.TheVariants as kind
use Rattle.pungi_base.specs.declared.names.Name.{Name}
use Rattle.pungi_base.specs.declared.pos.Pos.{Pos}
use Rattle.pungi_base.specs.declared.punct.Punct.{Punct}
use Rattle.pungi_base.specs.declared.punct.Punct.TheVariants as puncts
use Rattle.pungi_parse.proofs.Tools.{le_true, le_from, and_true, and_join}
use Rattle.pungi_tree.specs.ExprDepth.{expr_depth}
use Rattle.pungi_tree.specs.ExprLevels.{expr_at}
use Rattle.pungi_tree.specs.Operators.{binary_level, prefix_need, prefix_mark_need, prefix_key_need, level}
use Rattle.pungi_tree.specs.Syntax.{Expr, word, int, float, char, text, null, paren, unary, post, binary, assign}
use Rattle.pungi_tree.specs.Syntax.{conditional, comma, cast, size_of_type, call, new, index, dot, arrow}

zero_le : (n : ℕ) → nat_le 0 n ≡ true
zero_le n = le_true 0 n (omega arith)

and_one : (b : Bool) → b ≡ (b && true)
and_one true = refl
and_one false = refl

pub binary_far : (m : Punct) → (3 ≤ binary_level m) × (binary_level m ≤ 100)
    × (binary_level m < 100 → binary_level m ≤ 12)
binary_far puncts.LeftParen = (omega arith, omega arith, λ h. omega (arith, h))
binary_far puncts.RightParen = (omega arith, omega arith, λ h. omega (arith, h))
binary_far puncts.LeftBracket = (omega arith, omega arith, λ h. omega (arith, h))
binary_far puncts.RightBracket = (omega arith, omega arith, λ h. omega (arith, h))
binary_far puncts.LeftBrace = (omega arith, omega arith, λ h. omega (arith, h))
binary_far puncts.RightBrace = (omega arith, omega arith, λ h. omega (arith, h))
binary_far puncts.Semicolon = (omega arith, omega arith, λ h. omega (arith, h))
binary_far puncts.Comma = (omega arith, omega arith, λ h. omega (arith, h))
binary_far puncts.Dot = (omega arith, omega arith, λ h. omega (arith, h))
binary_far puncts.Arrow = (omega arith, omega arith, λ h. omega (arith, h))
binary_far puncts.PlusPlus = (omega arith, omega arith, λ h. omega (arith, h))
binary_far puncts.MinusMinus = (omega arith, omega arith, λ h. omega (arith, h))
binary_far puncts.And = (omega arith, omega arith, λ h. omega (arith, h))
binary_far puncts.Star = (omega arith, omega arith, λ h. omega (arith, h))
binary_far puncts.Plus = (omega arith, omega arith, λ h. omega (arith, h))
binary_far puncts.Minus = (omega arith, omega arith, λ h. omega (arith, h))
binary_far puncts.Tilde = (omega arith, omega arith, λ h. omega (arith, h))
binary_far puncts.Not = (omega arith, omega arith, λ h. omega (arith, h))
binary_far puncts.Slash = (omega arith, omega arith, λ h. omega (arith, h))
binary_far puncts.Percent = (omega arith, omega arith, λ h. omega (arith, h))
binary_far puncts.ShiftLeft = (omega arith, omega arith, λ h. omega (arith, h))
binary_far puncts.ShiftRight = (omega arith, omega arith, λ h. omega (arith, h))
binary_far puncts.Less = (omega arith, omega arith, λ h. omega (arith, h))
binary_far puncts.Greater = (omega arith, omega arith, λ h. omega (arith, h))
binary_far puncts.LessEqual = (omega arith, omega arith, λ h. omega (arith, h))
binary_far puncts.GreaterEqual = (omega arith, omega arith, λ h. omega (arith, h))
binary_far puncts.Equal = (omega arith, omega arith, λ h. omega (arith, h))
binary_far puncts.NotEqual = (omega arith, omega arith, λ h. omega (arith, h))
binary_far puncts.Caret = (omega arith, omega arith, λ h. omega (arith, h))
binary_far puncts.Or = (omega arith, omega arith, λ h. omega (arith, h))
binary_far puncts.AndAnd = (omega arith, omega arith, λ h. omega (arith, h))
binary_far puncts.OrOr = (omega arith, omega arith, λ h. omega (arith, h))
binary_far puncts.Question = (omega arith, omega arith, λ h. omega (arith, h))
binary_far puncts.Colon = (omega arith, omega arith, λ h. omega (arith, h))
binary_far puncts.Assign = (omega arith, omega arith, λ h. omega (arith, h))
binary_far puncts.PlusAssign = (omega arith, omega arith, λ h. omega (arith, h))
binary_far puncts.MinusAssign = (omega arith, omega arith, λ h. omega (arith, h))
binary_far puncts.StarAssign = (omega arith, omega arith, λ h. omega (arith, h))
binary_far puncts.SlashAssign = (omega arith, omega arith, λ h. omega (arith, h))
binary_far puncts.PercentAssign = (omega arith, omega arith, λ h. omega (arith, h))
binary_far puncts.ShiftLeftAssign = (omega arith, omega arith, λ h. omega (arith, h))
binary_far puncts.ShiftRightAssign = (omega arith, omega arith, λ h. omega (arith, h))
binary_far puncts.AndAssign = (omega arith, omega arith, λ h. omega (arith, h))
binary_far puncts.CaretAssign = (omega arith, omega arith, λ h. omega (arith, h))
binary_far puncts.OrAssign = (omega arith, omega arith, λ h. omega (arith, h))
binary_far puncts.Ellipsis = (omega arith, omega arith, λ h. omega (arith, h))
binary_far puncts.Hash = (omega arith, omega arith, λ h. omega (arith, h))
binary_far puncts.HashHash = (omega arith, omega arith, λ h. omega (arith, h))

prefix_mark_far : (m : Punct) → prefix_mark_need m ≤ 16 → (13 ≤ prefix_mark_need m) × (prefix_mark_need m ≤ 14)
prefix_mark_far puncts.LeftParen h = (omega (arith, h), omega (arith, h))
prefix_mark_far puncts.RightParen h = (omega (arith, h), omega (arith, h))
prefix_mark_far puncts.LeftBracket h = (omega (arith, h), omega (arith, h))
prefix_mark_far puncts.RightBracket h = (omega (arith, h), omega (arith, h))
prefix_mark_far puncts.LeftBrace h = (omega (arith, h), omega (arith, h))
prefix_mark_far puncts.RightBrace h = (omega (arith, h), omega (arith, h))
prefix_mark_far puncts.Semicolon h = (omega (arith, h), omega (arith, h))
prefix_mark_far puncts.Comma h = (omega (arith, h), omega (arith, h))
prefix_mark_far puncts.Dot h = (omega (arith, h), omega (arith, h))
prefix_mark_far puncts.Arrow h = (omega (arith, h), omega (arith, h))
prefix_mark_far puncts.PlusPlus h = (omega (arith, h), omega (arith, h))
prefix_mark_far puncts.MinusMinus h = (omega (arith, h), omega (arith, h))
prefix_mark_far puncts.And h = (omega (arith, h), omega (arith, h))
prefix_mark_far puncts.Star h = (omega (arith, h), omega (arith, h))
prefix_mark_far puncts.Plus h = (omega (arith, h), omega (arith, h))
prefix_mark_far puncts.Minus h = (omega (arith, h), omega (arith, h))
prefix_mark_far puncts.Tilde h = (omega (arith, h), omega (arith, h))
prefix_mark_far puncts.Not h = (omega (arith, h), omega (arith, h))
prefix_mark_far puncts.Slash h = (omega (arith, h), omega (arith, h))
prefix_mark_far puncts.Percent h = (omega (arith, h), omega (arith, h))
prefix_mark_far puncts.ShiftLeft h = (omega (arith, h), omega (arith, h))
prefix_mark_far puncts.ShiftRight h = (omega (arith, h), omega (arith, h))
prefix_mark_far puncts.Less h = (omega (arith, h), omega (arith, h))
prefix_mark_far puncts.Greater h = (omega (arith, h), omega (arith, h))
prefix_mark_far puncts.LessEqual h = (omega (arith, h), omega (arith, h))
prefix_mark_far puncts.GreaterEqual h = (omega (arith, h), omega (arith, h))
prefix_mark_far puncts.Equal h = (omega (arith, h), omega (arith, h))
prefix_mark_far puncts.NotEqual h = (omega (arith, h), omega (arith, h))
prefix_mark_far puncts.Caret h = (omega (arith, h), omega (arith, h))
prefix_mark_far puncts.Or h = (omega (arith, h), omega (arith, h))
prefix_mark_far puncts.AndAnd h = (omega (arith, h), omega (arith, h))
prefix_mark_far puncts.OrOr h = (omega (arith, h), omega (arith, h))
prefix_mark_far puncts.Question h = (omega (arith, h), omega (arith, h))
prefix_mark_far puncts.Colon h = (omega (arith, h), omega (arith, h))
prefix_mark_far puncts.Assign h = (omega (arith, h), omega (arith, h))
prefix_mark_far puncts.PlusAssign h = (omega (arith, h), omega (arith, h))
prefix_mark_far puncts.MinusAssign h = (omega (arith, h), omega (arith, h))
prefix_mark_far puncts.StarAssign h = (omega (arith, h), omega (arith, h))
prefix_mark_far puncts.SlashAssign h = (omega (arith, h), omega (arith, h))
prefix_mark_far puncts.PercentAssign h = (omega (arith, h), omega (arith, h))
prefix_mark_far puncts.ShiftLeftAssign h = (omega (arith, h), omega (arith, h))
prefix_mark_far puncts.ShiftRightAssign h = (omega (arith, h), omega (arith, h))
prefix_mark_far puncts.AndAssign h = (omega (arith, h), omega (arith, h))
prefix_mark_far puncts.CaretAssign h = (omega (arith, h), omega (arith, h))
prefix_mark_far puncts.OrAssign h = (omega (arith, h), omega (arith, h))
prefix_mark_far puncts.Ellipsis h = (omega (arith, h), omega (arith, h))
prefix_mark_far puncts.Hash h = (omega (arith, h), omega (arith, h))
prefix_mark_far puncts.HashHash h = (omega (arith, h), omega (arith, h))

prefix_key_far : (k : Key) → prefix_key_need k ≤ 16 → k ≡ keys.Sizeof
prefix_key_far keys.Int h = absurd (omega (arith, h))
prefix_key_far keys.Long h = absurd (omega (arith, h))
prefix_key_far keys.Short h = absurd (omega (arith, h))
prefix_key_far keys.Char h = absurd (omega (arith, h))
prefix_key_far keys.Unsigned h = absurd (omega (arith, h))
prefix_key_far keys.Signed h = absurd (omega (arith, h))
prefix_key_far keys.Float h = absurd (omega (arith, h))
prefix_key_far keys.Double h = absurd (omega (arith, h))
prefix_key_far keys.Void h = absurd (omega (arith, h))
prefix_key_far keys.Bool h = absurd (omega (arith, h))
prefix_key_far keys.Struct h = absurd (omega (arith, h))
prefix_key_far keys.Union h = absurd (omega (arith, h))
prefix_key_far keys.Enum h = absurd (omega (arith, h))
prefix_key_far keys.Typedef h = absurd (omega (arith, h))
prefix_key_far keys.Static h = absurd (omega (arith, h))
prefix_key_far keys.Extern h = absurd (omega (arith, h))
prefix_key_far keys.Inline h = absurd (omega (arith, h))
prefix_key_far keys.Const h = absurd (omega (arith, h))
prefix_key_far keys.Volatile h = absurd (omega (arith, h))
prefix_key_far keys.Register h = absurd (omega (arith, h))
prefix_key_far keys.If h = absurd (omega (arith, h))
prefix_key_far keys.Else h = absurd (omega (arith, h))
prefix_key_far keys.While h = absurd (omega (arith, h))
prefix_key_far keys.Do h = absurd (omega (arith, h))
prefix_key_far keys.For h = absurd (omega (arith, h))
prefix_key_far keys.Switch h = absurd (omega (arith, h))
prefix_key_far keys.Case h = absurd (omega (arith, h))
prefix_key_far keys.Default h = absurd (omega (arith, h))
prefix_key_far keys.Break h = absurd (omega (arith, h))
prefix_key_far keys.Continue h = absurd (omega (arith, h))
prefix_key_far keys.Return h = absurd (omega (arith, h))
prefix_key_far keys.Goto h = absurd (omega (arith, h))
prefix_key_far keys.Sizeof h = refl
prefix_key_far keys.Null h = absurd (omega (arith, h))

pub level_far : (e : Expr) → level e ≤ 100
level_far (word p n) = omega arith
level_far (int p v b u) = omega arith
level_far (float p) = omega arith
level_far (char p c) = omega arith
level_far (text p ns) = omega arith
level_far (null p) = omega arith
level_far (paren p e) = omega arith
level_far (unary p k e) = omega arith
level_far (post p m e) = omega arith
level_far (binary p m a b) = (binary_far m).1
level_far (assign p m a b) = omega arith
level_far (conditional p a b c) = omega arith
level_far (comma p a b) = omega arith
level_far (cast p t e) = omega arith
level_far (size_of_type p t) = omega arith
level_far (call p f es) = omega arith
level_far (new p t e) = omega arith
level_far (index p a b) = omega arith
level_far (dot p e n) = omega arith
level_far (arrow p e n) = omega arith

pub some_depth : (e : Expr) → 0 < expr_depth e
some_depth (word p n) = omega arith
some_depth (int p v b u) = omega arith
some_depth (float p) = omega arith
some_depth (char p c) = omega arith
some_depth (text p ns) = omega arith
some_depth (null p) = omega arith
some_depth (paren p e) = omega arith
some_depth (unary p k e) = omega arith
some_depth (post p m e) = omega arith
some_depth (binary p m a b) = omega arith
some_depth (assign p m a b) = omega arith
some_depth (conditional p a b c) = omega arith
some_depth (comma p a b) = omega arith
some_depth (cast p t e) = omega arith
some_depth (size_of_type p t) = omega arith
some_depth (call p f es) = omega arith
some_depth (new p t e) = omega arith
some_depth (index p a b) = omega arith
some_depth (dot p e n) = omega arith
some_depth (arrow p e n) = omega arith

module _ (types : List Name) where
  pub at_split : (l : ℕ) (e : Expr) → expr_at types l e ≡ (nat_le l (level e) && expr_at types 0 e)
  at_split l (word p n) = refl
  at_split l (int p v b u) = and_one (nat_le l 16)
  at_split l (float p) = and_one (nat_le l 16)
  at_split l (char p c) = and_one (nat_le l 16)
  at_split l (text p ns) = refl
  at_split l (null p) = and_one (nat_le l 16)
  at_split l (paren p e) = refl
  at_split l (unary p k e) = refl
  at_split l (post p m e) = refl
  at_split l (binary p m a b) = rw (zero_le (binary_level m)) refl
  at_split l (assign p m a b) = refl
  at_split l (conditional p a b c) = refl
  at_split l (comma p a b) = refl
  at_split l (cast p t e) = refl
  at_split l (size_of_type p t) = refl
  at_split l (call p f es) = refl
  at_split l (new p t e) = refl
  at_split l (index p a b) = refl
  at_split l (dot p e n) = refl
  at_split l (arrow p e n) = refl

  pub at_level : (l : ℕ) (e : Expr) → expr_at types l e ≡ true → l ≤ level e
  at_level l e h = le_from _ _ (and_true _ _ (sym (at_split l e) ∙ h)).0

  pub at_whole : (l : ℕ) (e : Expr) → expr_at types l e ≡ true → expr_at types 0 e ≡ true
  at_whole l e h = (and_true _ _ (sym (at_split l e) ∙ h)).1

  pub at_join : (l : ℕ) (e : Expr) → l ≤ level e → expr_at types 0 e ≡ true → expr_at types l e ≡ true
  at_join l e h k = at_split l e ∙ and_join _ _ (le_true _ _ h) k

  pub at_looser : (l m : ℕ) (e : Expr) → l ≤ m → expr_at types m e ≡ true → expr_at types l e ≡ true
  at_looser l m e h k = at_join l e (omega (arith, h, at_level m e k)) (at_whole m e k)

  -- an operator of an allowed expression is a binary one
  pub binary_bounds : (m : Punct) (b : Expr) → expr_at types (binary_level m + 1) b ≡ true
      → (3 ≤ binary_level m) × (binary_level m ≤ 12)
  binary_bounds m b h =
      let far = binary_far m in
      let over = at_level (binary_level m + 1) b h in
      let most = level_far b in
      (far.0, far.2 (omega arith))

  pub binary_parts : (l : ℕ) (p : Pos) (m : Punct) (a b : Expr) → expr_at types l (binary p m a b) ≡ true
      → (l ≤ binary_level m) × (expr_at types (binary_level m) a ≡ true)
      × (expr_at types (binary_level m + 1) b ≡ true)
  binary_parts l p m a b h =
      let s = and_true (nat_le l (binary_level m)) (expr_at types (binary_level m) a
      && expr_at types (binary_level m + 1) b) h in
      let t = and_true (expr_at types (binary_level m) a) (expr_at types (binary_level m + 1) b) s.1 in
      (le_from _ _ s.0, t.0, t.1)

  binary_bound : (l : ℕ) (p : Pos) (m : Punct) (a b : Expr) → expr_at types l (binary p m a b) ≡ true
      → binary_level m ≤ 16
  binary_bound l p m a b h = let c = binary_bounds m b (binary_parts l p m a b h).2 in omega arith

  pub level_bound : (l : ℕ) (e : Expr) → expr_at types l e ≡ true → level e ≤ 16
  level_bound l (word p n) h = omega arith
  level_bound l (int p v b u) h = omega arith
  level_bound l (float p) h = omega arith
  level_bound l (char p c) h = omega arith
  level_bound l (text p ns) h = omega arith
  level_bound l (null p) h = omega arith
  level_bound l (paren p e) h = omega arith
  level_bound l (unary p k e) h = omega arith
  level_bound l (post p m e) h = omega arith
  level_bound l (binary p m a b) h = binary_bound l p m a b h
  level_bound l (assign p m a b) h = omega arith
  level_bound l (conditional p a b c) h = omega arith
  level_bound l (comma p a b) h = omega arith
  level_bound l (cast p t e) h = omega arith
  level_bound l (size_of_type p t) h = omega arith
  level_bound l (call p f es) h = omega arith
  level_bound l (new p t e) h = omega arith
  level_bound l (index p a b) h = omega arith
  level_bound l (dot p e n) h = omega arith
  level_bound l (arrow p e n) h = omega arith

  need_bound : (k : Kind) → prefix_need k ≤ 16 → (13 ≤ prefix_need k) × (prefix_need k ≤ 14)
  need_bound (kind.Word n) h = absurd (omega (arith, h))
  need_bound (kind.Int v b u) h = absurd (omega (arith, h))
  need_bound kind.Float h = absurd (omega (arith, h))
  need_bound (kind.Char c) h = absurd (omega (arith, h))
  need_bound (kind.Text n) h = absurd (omega (arith, h))
  need_bound (kind.Punct m) h = prefix_mark_far m h
  need_bound (kind.Key k) h = rw (prefix_key_far k h) (omega arith, omega arith)
  need_bound kind.Header h = absurd (omega (arith, h))

  -- what a prefix operator is, by its operand
  pub prefix_bound : (k : Kind) (e : Expr) → expr_at types (prefix_need k) e ≡ true
      → (13 ≤ prefix_need k) × (prefix_need k ≤ 14)
  prefix_bound k e h =
      let under = at_level (prefix_need k) e h in
      let most = level_bound (prefix_need k) e h in
      need_bound k (omega arith)

pub sizeof_need : (k : Key) → prefix_key_need k ≤ 14 → k ≡ keys.Sizeof
sizeof_need k h = prefix_key_far k (omega (arith, h))
