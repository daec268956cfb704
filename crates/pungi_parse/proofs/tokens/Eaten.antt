-- What was eaten stood at the front of the tokens.
--   eat_some, eat_key_some, eat_word_some, eat_text_some, eat_listed_some, eat_prefix_some, eat_operator_some,
--   eat_marked_some, eat_literal_some
--                     the tokens before, by what was eaten
--   Literal           what a constant is as a tree
--   no_operator_mono, no_operator_above    no operator of a level is one of a higher level, and none has a level above
--                                          12
--   operator_looser, operator_low          an operator that is not eaten is looser, and a looser one is not eaten
use Rattle.std.proofs.Common.{◌≡◌, ℕ, ◌<◌, ◌≤◌, Bool, true, false, cond, ◌&&◌, List, [], ◌∷◌, Option, Some, None, refl}
use Rattle.std.proofs.Common.{subst, arith}
use Rattle.std.specs.Prelude.{nat_le, ◌==◌}
use Rattle.pungi_base.specs.declared.key.Key.{Key}
use Rattle.pungi_base.specs.declared.key.Key.TheVariants as keys
use Rattle.pungi_base.specs.declared.kind.Kind.{Kind}
use Rattle.pungi_base.specs.declared.kind.Kind.TheVariants as kind
use Rattle.pungi_base.specs.declared.names.Name.{Name}
use Rattle.pungi_base.specs.declared.pos.Pos.{Pos}
use Rattle.pungi_base.specs.declared.punct.Punct.{Punct}
use Rattle.pungi_parse.specs.tokens.OneToken.{punct_number, key_number, mark_here, eat, key_here, eat_key, word_here}
use Rattle.pungi_parse.specs.tokens.OneToken.{eat_word, text_here, eat_text, listed_here, eat_listed, null_here}
use Rattle.pungi_parse.specs.tokens.OneToken.{literal_here, eat_literal, prefix_here, eat_prefix, operator_here}
use Rattle.pungi_parse.specs.tokens.OneToken.{eat_operator, marked_here, eat_marked}
use Rattle.pungi_parse.proofs.Tools.{guard_some, guard_none, some_same, le_true, le_false, le_from, not_le, eq_from}
use Rattle.pungi_parse.proofs.Tools.{and_true, and_false, same_mark, same_key}
use Rattle.pungi_tree.specs.ExprDepth.{expr_depth}
use Rattle.pungi_tree.specs.ExprLevels.{expr_at}
use Rattle.pungi_tree.specs.ExprSpells.{Spells}
use Rattle.pungi_tree.specs.Operators.{binary_level, prefix_mark_need, level}
use Rattle.pungi_tree.specs.Placed.{Placed, mark_at, key_at, word_at, text_at}
use Rattle.pungi_tree.specs.Syntax.{Expr, int, float, char, null}

eat_some_here : (m : Punct) (k : Kind) (p : Pos) (ts : List Placed) (x : Pos × List Placed)
    → mark_here m k p ts ≡ Some x → (k, p) ∷ ts ≡ mark_at m x.0 ∷ x.1
eat_some_here m (kind.Word n) p ts x h = absurd (cc)
eat_some_here m (kind.Int v l u) p ts x h = absurd (cc)
eat_some_here m kind.Float p ts x h = absurd (cc)
eat_some_here m (kind.Char c) p ts x h = absurd (cc)
eat_some_here m (kind.Text n) p ts x h = absurd (cc)
eat_some_here m (kind.Punct q) p ts x h =
    let g = guard_some (punct_number m == punct_number q) (Some (p, ts)) x h in
    let e : m ≡ q = same_mark m q (eq_from _ _ g.0) in
    let s : (p, ts) ≡ x = cc in
    rw (e, ← s) refl
eat_some_here m (kind.Key q) p ts x h = absurd (cc)
eat_some_here m kind.Header p ts x h = absurd (cc)

pub eat_some : (m : Punct) (ts : List Placed) (x : Pos × List Placed) → eat m ts ≡ Some x → ts ≡ mark_at m x.0 ∷ x.1
eat_some m [] x h = absurd (cc)
eat_some m (t ∷ ts) x h = eat_some_here m t.0 t.1 ts x h

eat_key_some_here : (n : Key) (k : Kind) (p : Pos) (ts : List Placed) (x : Pos × List Placed)
    → key_here n k p ts ≡ Some x → (k, p) ∷ ts ≡ key_at n x.0 ∷ x.1
eat_key_some_here m (kind.Word n) p ts x h = absurd (cc)
eat_key_some_here n (kind.Int v l u) p ts x h = absurd (cc)
eat_key_some_here n kind.Float p ts x h = absurd (cc)
eat_key_some_here n (kind.Char c) p ts x h = absurd (cc)
eat_key_some_here m (kind.Text n) p ts x h = absurd (cc)
eat_key_some_here n (kind.Punct q) p ts x h = absurd (cc)
eat_key_some_here n (kind.Key q) p ts x h =
    let g = guard_some (key_number n == key_number q) (Some (p, ts)) x h in
    let e : n ≡ q = same_key n q (eq_from _ _ g.0) in
    let s : (p, ts) ≡ x = cc in
    rw (e, ← s) refl
eat_key_some_here n kind.Header p ts x h = absurd (cc)

pub eat_key_some : (n : Key) (ts : List Placed) (x : Pos × List Placed) → eat_key n ts ≡ Some x
    → ts ≡ key_at n x.0 ∷ x.1
eat_key_some n [] x h = absurd (cc)
eat_key_some n (t ∷ ts) x h = eat_key_some_here n t.0 t.1 ts x h

eat_word_some_here : (k : Kind) (p : Pos) (ts : List Placed) (x : Name × Pos × List Placed)
    → word_here k p ts ≡ Some x → (k, p) ∷ ts ≡ word_at x.0 x.1 ∷ x.2
eat_word_some_here (kind.Word n) p ts x h = let s : (n, p, ts) ≡ x = cc in rw (← s) refl
eat_word_some_here (kind.Int v l u) p ts x h = absurd (cc)
eat_word_some_here kind.Float p ts x h = absurd (cc)
eat_word_some_here (kind.Char c) p ts x h = absurd (cc)
eat_word_some_here (kind.Text n) p ts x h = absurd (cc)
eat_word_some_here (kind.Punct q) p ts x h = absurd (cc)
eat_word_some_here (kind.Key q) p ts x h = absurd (cc)
eat_word_some_here kind.Header p ts x h = absurd (cc)

pub eat_word_some : (ts : List Placed) (x : Name × Pos × List Placed) → eat_word ts ≡ Some x
    → ts ≡ word_at x.0 x.1 ∷ x.2
eat_word_some [] x h = absurd (cc)
eat_word_some (t ∷ ts) x h = eat_word_some_here t.0 t.1 ts x h

eat_text_some_here : (k : Kind) (p : Pos) (ts : List Placed) (x : Name × Pos × List Placed)
    → text_here k p ts ≡ Some x → (k, p) ∷ ts ≡ text_at x.0 x.1 ∷ x.2
eat_text_some_here (kind.Word n) p ts x h = absurd (cc)
eat_text_some_here (kind.Int v l u) p ts x h = absurd (cc)
eat_text_some_here kind.Float p ts x h = absurd (cc)
eat_text_some_here (kind.Char c) p ts x h = absurd (cc)
eat_text_some_here (kind.Text n) p ts x h = let s : (n, p, ts) ≡ x = cc in rw (← s) refl
eat_text_some_here (kind.Punct q) p ts x h = absurd (cc)
eat_text_some_here (kind.Key q) p ts x h = absurd (cc)
eat_text_some_here kind.Header p ts x h = absurd (cc)

pub eat_text_some : (ts : List Placed) (x : Name × Pos × List Placed) → eat_text ts ≡ Some x
    → ts ≡ text_at x.0 x.1 ∷ x.2
eat_text_some [] x h = absurd (cc)
eat_text_some (t ∷ ts) x h = eat_text_some_here t.0 t.1 ts x h

eat_listed_some_here : (test : Key → Bool) (k : Kind) (p : Pos) (ts : List Placed) (x : Key × Pos × List Placed)
    → listed_here test k p ts ≡ Some x → ((k, p) ∷ ts ≡ key_at x.0 x.1 ∷ x.2) × (test x.0 ≡ true)
eat_listed_some_here test (kind.Word n) p ts x h = absurd (cc)
eat_listed_some_here test (kind.Int v l u) p ts x h = absurd (cc)
eat_listed_some_here test kind.Float p ts x h = absurd (cc)
eat_listed_some_here test (kind.Char c) p ts x h = absurd (cc)
eat_listed_some_here test (kind.Text n) p ts x h = absurd (cc)
eat_listed_some_here test (kind.Punct q) p ts x h = absurd (cc)
eat_listed_some_here test (kind.Key q) p ts x h =
    let g = guard_some (test q) (Some (q, p, ts)) x h in
    let s : (q, p, ts) ≡ x = cc in
    (rw (← s) refl, rw (← s) g.0)
eat_listed_some_here test kind.Header p ts x h = absurd (cc)

pub eat_listed_some : (test : Key → Bool) (ts : List Placed) (x : Key × Pos × List Placed)
    → eat_listed test ts ≡ Some x → (ts ≡ key_at x.0 x.1 ∷ x.2) × (test x.0 ≡ true)
eat_listed_some test [] x h = absurd (cc)
eat_listed_some test (t ∷ ts) x h = eat_listed_some_here test t.0 t.1 ts x h

eat_prefix_some_here : (k : Kind) (p : Pos) (ts : List Placed) (x : Punct × Pos × List Placed)
    → prefix_here k p ts ≡ Some x → ((k, p) ∷ ts ≡ mark_at x.0 x.1 ∷ x.2) × (prefix_mark_need x.0 ≤ 14)
eat_prefix_some_here (kind.Word n) p ts x h = absurd (cc)
eat_prefix_some_here (kind.Int v l u) p ts x h = absurd (cc)
eat_prefix_some_here kind.Float p ts x h = absurd (cc)
eat_prefix_some_here (kind.Char c) p ts x h = absurd (cc)
eat_prefix_some_here (kind.Text n) p ts x h = absurd (cc)
eat_prefix_some_here (kind.Punct q) p ts x h =
    let g = guard_some (nat_le (prefix_mark_need q) 14) (Some (q, p, ts)) x h in
    let s : (q, p, ts) ≡ x = cc in
    (rw (← s) refl, rw (← s) (le_from _ _ g.0))
eat_prefix_some_here (kind.Key q) p ts x h = absurd (cc)
eat_prefix_some_here kind.Header p ts x h = absurd (cc)

pub eat_prefix_some : (ts : List Placed) (x : Punct × Pos × List Placed) → eat_prefix ts ≡ Some x
    → (ts ≡ mark_at x.0 x.1 ∷ x.2) × (prefix_mark_need x.0 ≤ 14)
eat_prefix_some [] x h = absurd (cc)
eat_prefix_some (t ∷ ts) x h = eat_prefix_some_here t.0 t.1 ts x h

eat_operator_some_here : (l : ℕ) (k : Kind) (p : Pos) (ts : List Placed) (x : Punct × Pos × List Placed)
    → operator_here l k p ts ≡ Some x → ((k, p) ∷ ts ≡ mark_at x.0 x.1 ∷ x.2) × (l ≤ binary_level x.0)
    × (binary_level x.0 ≤ 12)
eat_operator_some_here l (kind.Word n) p ts x h = absurd (cc)
eat_operator_some_here l (kind.Int v b u) p ts x h = absurd (cc)
eat_operator_some_here l kind.Float p ts x h = absurd (cc)
eat_operator_some_here l (kind.Char c) p ts x h = absurd (cc)
eat_operator_some_here l (kind.Text n) p ts x h = absurd (cc)
eat_operator_some_here l (kind.Punct q) p ts x h =
    let g = guard_some (nat_le l (binary_level q) && nat_le (binary_level q) 12) (Some (q, p, ts)) x h in
    let a : (nat_le l (binary_level q) ≡ true) × (nat_le (binary_level q) 12 ≡ true) = and_true _ _ g.0 in
    let s : (q, p, ts) ≡ x = cc in
    (rw (← s) refl, rw (← s) (le_from _ _ a.0), rw (← s) (le_from _ _ a.1))
eat_operator_some_here l (kind.Key q) p ts x h = absurd (cc)
eat_operator_some_here l kind.Header p ts x h = absurd (cc)

pub eat_operator_some : (l : ℕ) (ts : List Placed) (x : Punct × Pos × List Placed) → eat_operator l ts ≡ Some x
    → (ts ≡ mark_at x.0 x.1 ∷ x.2) × (l ≤ binary_level x.0) × (binary_level x.0 ≤ 12)
eat_operator_some l [] x h = absurd (cc)
eat_operator_some l (t ∷ ts) x h = eat_operator_some_here l t.0 t.1 ts x h

eat_marked_some_here : (test : Punct → Bool) (k : Kind) (p : Pos) (ts : List Placed) (x : Punct × Pos × List Placed)
    → marked_here test k p ts ≡ Some x → ((k, p) ∷ ts ≡ mark_at x.0 x.1 ∷ x.2) × (test x.0 ≡ true)
eat_marked_some_here test (kind.Word n) p ts x h = absurd (cc)
eat_marked_some_here test (kind.Int v l u) p ts x h = absurd (cc)
eat_marked_some_here test kind.Float p ts x h = absurd (cc)
eat_marked_some_here test (kind.Char c) p ts x h = absurd (cc)
eat_marked_some_here test (kind.Text n) p ts x h = absurd (cc)
eat_marked_some_here test (kind.Punct q) p ts x h =
    let g = guard_some (test q) (Some (q, p, ts)) x h in
    let s : (q, p, ts) ≡ x = cc in
    (rw (← s) refl, rw (← s) g.0)
eat_marked_some_here test (kind.Key q) p ts x h = absurd (cc)
eat_marked_some_here test kind.Header p ts x h = absurd (cc)

pub eat_marked_some : (test : Punct → Bool) (ts : List Placed) (x : Punct × Pos × List Placed)
    → eat_marked test ts ≡ Some x → (ts ≡ mark_at x.0 x.1 ∷ x.2) × (test x.0 ≡ true)
eat_marked_some test [] x h = absurd (cc)
eat_marked_some test (t ∷ ts) x h = eat_marked_some_here test t.0 t.1 ts x h

-- a constant stands at the front, and is allowed wherever an expression is
pub record Literal (ts : List Placed) (x : Expr × List Placed) : Type 0 where
  pub spells : Spells x.0 ts x.1
  pub tight : level x.0 ≡ 16
  pub allowed : (types : List Name) → expr_at types 16 x.0 ≡ true
  pub depth : expr_depth x.0 ≡ 1

null_here_some : (k : Key) (p : Pos) (ts : List Placed) (x : Expr × List Placed) → null_here k p ts ≡ Some x
    → Literal (key_at k p ∷ ts) x
null_here_some keys.Int p ts x h = absurd (cc)
null_here_some keys.Long p ts x h = absurd (cc)
null_here_some keys.Short p ts x h = absurd (cc)
null_here_some keys.Char p ts x h = absurd (cc)
null_here_some keys.Unsigned p ts x h = absurd (cc)
null_here_some keys.Signed p ts x h = absurd (cc)
null_here_some keys.Float p ts x h = absurd (cc)
null_here_some keys.Double p ts x h = absurd (cc)
null_here_some keys.Void p ts x h = absurd (cc)
null_here_some keys.Bool p ts x h = absurd (cc)
null_here_some keys.Struct p ts x h = absurd (cc)
null_here_some keys.Union p ts x h = absurd (cc)
null_here_some keys.Enum p ts x h = absurd (cc)
null_here_some keys.Typedef p ts x h = absurd (cc)
null_here_some keys.Static p ts x h = absurd (cc)
null_here_some keys.Extern p ts x h = absurd (cc)
null_here_some keys.Inline p ts x h = absurd (cc)
null_here_some keys.Const p ts x h = absurd (cc)
null_here_some keys.Volatile p ts x h = absurd (cc)
null_here_some keys.Register p ts x h = absurd (cc)
null_here_some keys.If p ts x h = absurd (cc)
null_here_some keys.Else p ts x h = absurd (cc)
null_here_some keys.While p ts x h = absurd (cc)
null_here_some keys.Do p ts x h = absurd (cc)
null_here_some keys.For p ts x h = absurd (cc)
null_here_some keys.Switch p ts x h = absurd (cc)
null_here_some keys.Case p ts x h = absurd (cc)
null_here_some keys.Default p ts x h = absurd (cc)
null_here_some keys.Break p ts x h = absurd (cc)
null_here_some keys.Continue p ts x h = absurd (cc)
null_here_some keys.Return p ts x h = absurd (cc)
null_here_some keys.Goto p ts x h = absurd (cc)
null_here_some keys.Sizeof p ts x h = absurd (cc)
null_here_some keys.Null p ts x h =
    subst (Literal (key_at keys.Null p ∷ ts)) (some_same (null p, ts) x h)
    (record { spells = refl; tight = refl; allowed = λ _. refl; depth = refl })

literal_here_some : (k : Kind) (p : Pos) (ts : List Placed) (x : Expr × List Placed) → literal_here k p ts ≡ Some x
    → Literal ((k, p) ∷ ts) x
literal_here_some (kind.Word n) p ts x h = absurd (cc)
literal_here_some (kind.Int v l u) p ts x h =
    subst (Literal ((kind.Int v l u, p) ∷ ts)) (some_same (int p v l u, ts) x h)
    (record { spells = refl; tight = refl; allowed = λ _. refl; depth = refl })
literal_here_some kind.Float p ts x h =
    subst (Literal ((kind.Float, p) ∷ ts)) (some_same (float p, ts) x h) (record
    { spells = refl; tight = refl; allowed = λ _. refl; depth = refl })
literal_here_some (kind.Char c) p ts x h =
    subst (Literal ((kind.Char c, p) ∷ ts)) (some_same (char p c, ts) x h)
    (record { spells = refl; tight = refl; allowed = λ _. refl; depth = refl })
literal_here_some (kind.Text n) p ts x h = absurd (cc)
literal_here_some (kind.Punct q) p ts x h = absurd (cc)
literal_here_some (kind.Key q) p ts x h = null_here_some q p ts x h
literal_here_some kind.Header p ts x h = absurd (cc)

pub eat_literal_some : (ts : List Placed) (x : Expr × List Placed) → eat_literal ts ≡ Some x → Literal ts x
eat_literal_some [] x h = absurd (cc)
eat_literal_some (t ∷ ts) x h = literal_here_some t.0 t.1 ts x h

-- where no token of level `l` is eaten, none of a higher level is
no_mark_mono : (l m n : ℕ) (x : Punct × Pos × List Placed) → l ≤ m
    → cond (nat_le l n && nat_le n 12) (Some x) None ≡ None → cond (nat_le m n && nat_le n 12) (Some x) None ≡ None
no_mark_mono l m n x h e = both (nat_le n 12) (guard_none _ _ e)
  where
    both : (b : Bool) → (nat_le l n && b) ≡ false → cond (nat_le m n && b) (Some x) None ≡ None
    both true f = rw (le_false m n (omega (arith, not_le l n (plain (nat_le l n) f)))) refl
      where
        plain : (a : Bool) → (a && true) ≡ false → a ≡ false
        plain true f = f
        plain false f = refl
    both false f = rw (and_false (nat_le m n)) refl

no_operator_here : (l m : ℕ) (k : Kind) (p : Pos) (ts : List Placed) → l ≤ m → operator_here l k p ts ≡ None
    → operator_here m k p ts ≡ None
no_operator_here l m (kind.Word n) p ts h e = refl
no_operator_here l m (kind.Int v b u) p ts h e = refl
no_operator_here l m kind.Float p ts h e = refl
no_operator_here l m (kind.Char c) p ts h e = refl
no_operator_here l m (kind.Text n) p ts h e = refl
no_operator_here l m (kind.Punct q) p ts h e = no_mark_mono l m (binary_level q) (q, p, ts) h e
no_operator_here l m (kind.Key q) p ts h e = refl
no_operator_here l m kind.Header p ts h e = refl

pub no_operator_mono : (l m : ℕ) (ts : List Placed) → l ≤ m → eat_operator l ts ≡ None → eat_operator m ts ≡ None
no_operator_mono l m [] h e = refl
no_operator_mono l m (t ∷ ts) h e = no_operator_here l m t.0 t.1 ts h e

above : (l n : ℕ) → 13 ≤ l → (nat_le l n && nat_le n 12) ≡ false
above l n h = first (nat_le l n) refl
  where
    first : (b : Bool) → nat_le l n ≡ b → (b && nat_le n 12) ≡ false
    first true e = le_false n 12 (omega (arith, h, le_from l n e))
    first false e = refl

none_above : (l : ℕ) (k : Kind) (p : Pos) (ts : List Placed) → 13 ≤ l → operator_here l k p ts ≡ None
none_above l (kind.Word n) p ts h = refl
none_above l (kind.Int v b u) p ts h = refl
none_above l kind.Float p ts h = refl
none_above l (kind.Char c) p ts h = refl
none_above l (kind.Text n) p ts h = refl
none_above l (kind.Punct q) p ts h = rw (above l (binary_level q) h) refl
none_above l (kind.Key q) p ts h = refl
none_above l kind.Header p ts h = refl

pub no_operator_above : (l : ℕ) (ts : List Placed) → 13 ≤ l → eat_operator l ts ≡ None
no_operator_above l [] h = refl
no_operator_above l (t ∷ ts) h = none_above l t.0 t.1 ts h

-- an operator that is not eaten is looser
pub operator_looser : (l : ℕ) (m : Punct) (p : Pos) (ts : List Placed) → binary_level m ≤ 12
    → eat_operator l (mark_at m p ∷ ts) ≡ None → binary_level m < l
operator_looser l m p ts h e = looser (nat_le l (binary_level m)) refl
  where
    looser : (b : Bool) → nat_le l (binary_level m) ≡ b → binary_level m < l
    looser false f = not_le _ _ f
    looser true f = absurd (clash (subst (λ (b : Bool). cond {A = Option (Punct × Pos × List Placed)}
        (b && nat_le (binary_level m) 12) (Some (m, p, ts)) None ≡ None) f e))
      where
        clash : cond {A = Option (Punct × Pos × List Placed)} (nat_le (binary_level m) 12) (Some (m, p, ts)) None
            ≡ None → ⊥
        clash g = let c : nat_le (binary_level m) 12 ≡ true = le_true _ _ h in let d : nat_le (binary_level m) 12
            ≡ false = guard_none _ _ g in absurd (cc)

-- a looser operator is not eaten
pub operator_low : (l : ℕ) (m : Punct) (p : Pos) (ts : List Placed) → binary_level m < l
    → eat_operator l (mark_at m p ∷ ts) ≡ None
operator_low l m p ts h = rw (le_false l (binary_level m) h) refl
