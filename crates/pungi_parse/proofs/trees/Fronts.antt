-- How the tokens of a tree begin.
--   other_mark, other_key    a token that passes a test isn't one that does not
--   expr_begins       the tokens of an expression
--   spec_begins, decl_begins    the tokens of a type, and of a type after qualifiers
use Rattle.std.proofs.Common.{◌≡◌, ℕ, ◌≤◌, Bool, true, false, cond, ◌||◌, List, [], ◌∷◌, Option, Some, None, refl, sym}
use Rattle.std.proofs.Common.{ap, subst, arith}
use Rattle.std.specs.Prelude.{◌==◌}
use Rattle.pungi_base.specs.declared.key.Key.{Key}
use Rattle.pungi_base.specs.declared.key.Key.TheVariants as keys
use Rattle.pungi_base.specs.declared.kind.Kind.{Kind}
use Rattle.pungi_base.specs.declared.kind.Kind.TheVariants as kind
use Rattle.pungi_base.specs.declared.names.Name.{Name}
use Rattle.pungi_base.specs.declared.pos.Pos.{Pos}
use Rattle.pungi_base.specs.declared.punct.Punct.{Punct}
use Rattle.pungi_base.specs.declared.punct.Punct.TheVariants as puncts
use Rattle.pungi_base.specs.Numbers.{py_object_new}
use Rattle.pungi_parse.specs.tokens.OneToken.{punct_number, key_number, eat, eat_key, eat_listed, eat_word}
use Rattle.pungi_parse.specs.Reading.{chain, when}
use Rattle.pungi_parse.specs.types.TypeReader.{type_word, plain_word, begins_type, begins_decl}
use Rattle.pungi_parse.proofs.tokens.FirstTokens.{is_expr_key, is_expr_mark, ExprBegins, TypeBegins, DeclBegins}
use Rattle.pungi_parse.proofs.trees.Levels.{prefix_bound, sizeof_need}
use Rattle.pungi_parse.proofs.Tools.{and_true, not_true, eq_from, le_true, same_mark, same_key}
use Rattle.pungi_parse.proofs.tokens.WordReadings.{no_plain_word}
use Rattle.pungi_tree.specs.ExprLevels.{expr_at, spec_ok, base_ok, is_empty}
use Rattle.pungi_tree.specs.ExprSpells.{Spells, SpellsSpec, SpellsBase, SpellsKeys, SpellsTexts}
use Rattle.pungi_tree.specs.Operators.{binary_level, prefix_need, prefix_mark_need, is_base_word, is_qualifier}
use Rattle.pungi_tree.specs.Operators.{is_aggregate, all_keys}
use Rattle.pungi_tree.specs.Placed.{Placed, mark_at, key_at, word_at, text_at}
use Rattle.pungi_tree.specs.Syntax.{Expr, word, int, float, char, text, null, paren, unary, post, binary, assign}
use Rattle.pungi_tree.specs.Syntax.{conditional, comma, cast, size_of_type, call, new, index, dot, arrow, Spec, spec}
use Rattle.pungi_tree.specs.Syntax.{Base, words, alias, tagged, tagged_fields}
use Rattle.pungi_tree.specs.Tokens.{named_word}
use Rattle.pungi_tree.specs.TypeWords.{is_type, is_word}

-- a punctuator that passes a test isn't one that does not
pub other_mark : (test : Punct → Bool) (q m : Punct) (p : Pos) (ts : List Placed) → test q ≡ false → test m ≡ true
    → eat q (mark_at m p ∷ ts) ≡ None
other_mark test q m p ts h k = by (punct_number q == punct_number m) refl
  where
    by : (b : Bool) → (punct_number q == punct_number m) ≡ b
        → cond {A = Option (Pos × List Placed)} b (Some (p, ts)) None ≡ None
    by false e = refl
    by true e = let s : test q ≡ test m = ap test (same_mark q m (eq_from _ _ e)) in absurd (cc)

pub other_key : (test : Key → Bool) (q m : Key) (p : Pos) (ts : List Placed) → test q ≡ false → test m ≡ true
    → eat_key q (key_at m p ∷ ts) ≡ None
other_key test q m p ts h k = by (key_number q == key_number m) refl
  where
    by : (b : Bool) → (key_number q == key_number m) ≡ b
        → cond {A = Option (Pos × List Placed)} b (Some (p, ts)) None ≡ None
    by false e = refl
    by true e = let s : test q ≡ test m = ap test (same_key q m (eq_from _ _ e)) in absurd (cc)

or_one : (b : Bool) → (b || true) ≡ true
or_one true = refl
or_one false = refl

prefix_mark : (m : Punct) → prefix_mark_need m ≤ 14 → is_expr_mark m ≡ true
prefix_mark puncts.LeftParen h = refl
prefix_mark m h = le_true _ _ h

base_no_qualifier : (k : Key) → is_base_word k ≡ true → is_qualifier k ≡ false
base_no_qualifier keys.Static h = absurd (cc)
base_no_qualifier keys.Extern h = absurd (cc)
base_no_qualifier keys.Inline h = absurd (cc)
base_no_qualifier keys.Const h = absurd (cc)
base_no_qualifier keys.Volatile h = absurd (cc)
base_no_qualifier keys.Register h = absurd (cc)
base_no_qualifier _ h = refl

aggregate_no_qualifier : (k : Key) → is_aggregate k ≡ true → is_qualifier k ≡ false
aggregate_no_qualifier keys.Struct h = refl
aggregate_no_qualifier keys.Union h = refl
aggregate_no_qualifier _ h = absurd (cc)

module _ (types : List Name) where
  word_begins : (n : Name) (p : Pos) (ts : List Placed) → is_word types n ≡ true → ExprBegins types (word_at n p ∷ ts)
  unfolding begins_decl begins_type type_word chain when
  word_begins n p ts h = record {
    no_decl = rw (not_true _ h) refl;
    no_type = rw (not_true _ h) refl;
    no_key = λ k
        e. refl;
    no_mark = λ m e. refl;
  }

  text_begins : (n : Name) (p : Pos) (ts : List Placed) → ExprBegins types (text_at n p ∷ ts)
  unfolding begins_decl begins_type type_word chain when
  text_begins n p ts = record { no_decl = refl; no_type = refl; no_key = λ k e. refl; no_mark = λ m e. refl }

  mark_begins : (m : Punct) (p : Pos) (ts : List Placed) → is_expr_mark m ≡ true → ExprBegins types (mark_at m p ∷ ts)
  unfolding begins_decl begins_type type_word chain when
  mark_begins m p ts h = record {
    no_decl = refl;
    no_type = refl;
    no_key = λ k e. refl;
    no_mark = λ q e. other_mark
        is_expr_mark q m p ts e h;
  }

  sizeof_begins : (p : Pos) (ts : List Placed) → ExprBegins types (key_at keys.Sizeof p ∷ ts)
  unfolding begins_decl begins_type type_word chain when
  sizeof_begins p ts = record {
    no_decl = refl;
    no_type = refl;
    no_key = λ k e. other_key is_expr_key k keys.Sizeof
        p ts e refl;
    no_mark = λ m e. refl;
  }

  null_begins : (p : Pos) (ts : List Placed) → ExprBegins types (key_at keys.Null p ∷ ts)
  unfolding begins_decl begins_type type_word chain when
  null_begins p ts = record {
    no_decl = refl;
    no_type = refl;
    no_key = λ k e. other_key is_expr_key k keys.Null p ts
        e refl;
    no_mark = λ m e. refl;
  }

  prefix_begins : (k : Kind) (p : Pos) (ts : List Placed) → prefix_need k ≤ 14 → ExprBegins types ((k, p) ∷ ts)
  prefix_begins (kind.Word n) p ts h = absurd (omega (arith, h))
  prefix_begins (kind.Int v b u) p ts h = absurd (omega (arith, h))
  prefix_begins kind.Float p ts h = absurd (omega (arith, h))
  prefix_begins (kind.Char c) p ts h = absurd (omega (arith, h))
  prefix_begins (kind.Text n) p ts h = absurd (omega (arith, h))
  prefix_begins (kind.Punct m) p ts h = mark_begins m p ts (prefix_mark m h)
  prefix_begins (kind.Key k) p ts h = subst (λ z. ExprBegins types (key_at z p ∷ ts)) (sym (sizeof_need k h))
      (sizeof_begins p ts)
  prefix_begins kind.Header p ts h = absurd (omega (arith, h))

  constant_begins : (k : Kind) (p : Pos) (ts : List Placed) → eat_word ((k, p) ∷ ts) ≡ None
      → ((m : Punct) → eat m ((k, p) ∷ ts) ≡ None) → ((n : Key) → eat_key n ((k, p) ∷ ts) ≡ None)
      → eat_listed is_base_word ((k, p) ∷ ts) ≡ None → eat_listed is_aggregate ((k, p) ∷ ts) ≡ None
      → eat_listed is_qualifier ((k, p) ∷ ts) ≡ None → ExprBegins types ((k, p) ∷ ts)
  unfolding begins_decl begins_type type_word chain when
  constant_begins k p ts h m n a b c = record {
    no_decl = rw (h, a, b, c) refl;
    no_type = rw (h, a, b) refl;
    no_key
        = λ q e. n q;
    no_mark = λ q e. m q;
  }

  texts_begin : (ns : List Name) (ts rest : List Placed) → is_empty ns ≡ false → SpellsTexts ns ts rest
      → ExprBegins types ts
  texts_begin [] ts rest h s = absurd (cc)
  texts_begin (n ∷ ns) ts rest h s = subst (ExprBegins types) (sym s.2) (text_begins n s.1 s.0)

  pub expr_begins : (l : ℕ) (e : Expr) (ts rest : List Placed) → Spells e ts rest → expr_at types l e ≡ true
      → ExprBegins types ts
  expr_begins l (word p n) ts rest s ok = subst (ExprBegins types) (sym s) (word_begins n p rest (and_true _ _ ok).1)
  expr_begins l (int p v b u) ts rest s ok = subst (ExprBegins types) (sym s)
      (constant_begins (kind.Int v b u) p rest refl (λ m. refl) (λ m. refl) refl refl refl)
  expr_begins l (float p) ts rest s ok = subst (ExprBegins types) (sym s)
      (constant_begins kind.Float p rest refl (λ m. refl) (λ m. refl) refl refl refl)
  expr_begins l (char p c) ts rest s ok = subst (ExprBegins types) (sym s)
      (constant_begins (kind.Char c) p rest refl (λ m. refl) (λ m. refl) refl refl refl)
  expr_begins l (text p ns) ts rest s ok = texts_begin ns ts rest (not_true _ (and_true _ _ ok).1) s.1
  expr_begins l (null p) ts rest s ok = subst (ExprBegins types) (sym s) (null_begins p rest)
  expr_begins l (paren p e) ts rest s ok = subst (ExprBegins types) (sym s.2) (mark_begins puncts.LeftParen p s.0 refl)
  expr_begins l (unary p k e) ts rest s ok = subst (ExprBegins types) (sym s.1)
      (prefix_begins k p s.0 (prefix_bound types k e (and_true _ _ ok).1).1)
  expr_begins l (post p m e) ts rest s ok = expr_begins 15 e ts _ s (and_true _ _ (and_true _ _ ok).1).1
  expr_begins l (binary p m a b) ts rest s ok = expr_begins (binary_level m) a ts _ s.1
      (and_true _ _ (and_true _ _ ok).1).0
  expr_begins l (assign p m a b) ts rest s ok = expr_begins 14 a ts _ s.1
      (and_true _ _ (and_true _ _ (and_true _ _ ok).1).1).0
  expr_begins l (conditional p a b c) ts rest s ok = expr_begins 3 a ts _ s.3 (and_true _ _ (and_true _ _ ok).1).0
  expr_begins l (comma p a b) ts rest s ok = expr_begins 0 a ts _ s.1 (and_true _ _ (and_true _ _ ok).1).0
  expr_begins l (cast p t e) ts rest s ok = subst (ExprBegins types) (sym s.3) (mark_begins puncts.LeftParen p s.0 refl)
  expr_begins l (size_of_type p t) ts rest s ok = subst (ExprBegins types) (sym s.3)
      (sizeof_begins p (mark_at puncts.LeftParen s.1 ∷ s.0))
  expr_begins l (call p f es) ts rest s ok = expr_begins 15 f ts _ s.4 (and_true _ _ (and_true _ _ ok).1).0
  expr_begins l (new p t e) ts rest s ok = subst (ExprBegins types) (sym s.5)
      (word_begins (named_word py_object_new) p (mark_at puncts.LeftParen s.2 ∷ s.0)
      (and_true _ _ (and_true _ _ ok).1).0)
  expr_begins l (index p a b) ts rest s ok = expr_begins 15 a ts _ s.2 (and_true _ _ (and_true _ _ ok).1).0
  expr_begins l (dot p e n) ts rest s ok = expr_begins 15 e ts _ s.1 (and_true _ _ (and_true _ _ ok).1).0
  expr_begins l (arrow p e n) ts rest s ok = expr_begins 15 e ts _ s.1 (and_true _ _ (and_true _ _ ok).1).0

  base_word_begins : (k : Key) (q : Pos) (ts : List Placed) → is_base_word k ≡ true → TypeBegins types (key_at k q ∷ ts)
  unfolding begins_type type_word plain_word chain when
  base_word_begins k q ts h = record {
    begins = rw h refl;
    no_plain_word = refl;
    no_qualifier = rw
        (base_no_qualifier k h) refl;
    no_typedef = other_key is_base_word keys.Typedef k q ts refl h;
    no_mark = λ m.
        refl;
  }

  aggregate_begins : (k : Key) (q : Pos) (ts : List Placed) → is_aggregate k ≡ true → TypeBegins types (key_at k q ∷ ts)
  unfolding begins_type type_word plain_word chain when
  aggregate_begins k q ts h = record {
    begins = rw h (or_one _);
    no_plain_word = refl;
    no_qualifier = rw
        (aggregate_no_qualifier k h) refl;
    no_typedef = other_key is_aggregate keys.Typedef k q ts refl h;
    no_mark = λ
        m. refl;
  }

  alias_begins : (n : Name) (q : Pos) (ts : List Placed) → is_type types n ≡ true → TypeBegins types (word_at n q ∷ ts)
  unfolding begins_type type_word chain when
  alias_begins n q ts h = record {
    begins = rw h refl;
    no_plain_word = no_plain_word types n q ts h;
    no_qualifier
        = refl;
    no_typedef = refl;
    no_mark = λ m. refl;
  }

  base_begins : (b : Base) (ts rest : List Placed) → SpellsBase b ts rest → base_ok types b ≡ true → TypeBegins types ts
  base_begins (words []) ts rest s ok = absurd (cc)
  base_begins (words (k ∷ ks)) ts rest s ok = subst (TypeBegins types) (sym s.2)
      (base_word_begins k s.1 s.0 (and_true _ _ ok).0)
  base_begins (alias n) ts rest s ok = subst (TypeBegins types) (sym s.1) (alias_begins n s.0 rest ok)
  base_begins (tagged of tag) ts rest s ok = subst (TypeBegins types) (sym s.2)
      (aggregate_begins of s.1 s.0 (and_true _ _ ok).0)
  base_begins (tagged_fields of tag fs) ts rest s ok = subst (TypeBegins types) (sym s.5)
      (aggregate_begins of s.2 s.0 (and_true _ _ ok).0)

  pub spec_begins : (c : Spec) (ts rest : List Placed) → SpellsSpec c ts rest → spec_ok types c ≡ true
      → TypeBegins types ts
  spec_begins (spec p b n) ts rest s ok = base_begins b ts s.0 s.2 ok

  type_begins_decl : (ts : List Placed) → TypeBegins types ts → DeclBegins types ts
  unfolding begins_decl
  type_begins_decl ts t = record {
    begins = rw (t.no_qualifier, t.begins) refl;
    no_plain_word = t.no_plain_word;
    no_typedef = t.no_typedef;
    no_mark = t.no_mark;
  }

  qualifier_begins : (k : Key) (q : Pos) (ts : List Placed) → is_qualifier k ≡ true → DeclBegins types (key_at k q ∷ ts)
  unfolding begins_decl plain_word chain
  qualifier_begins k q ts h = record {
    begins = rw h refl;
    no_plain_word = refl;
    no_typedef = other_key is_qualifier
        keys.Typedef k q ts refl h;
    no_mark = λ m. refl;
  }

  pub decl_begins : (qs : List Key) (c : Spec) (ts after rest : List Placed) → SpellsKeys qs ts after
      → all_keys is_qualifier qs ≡ true → SpellsSpec c after rest → spec_ok types c ≡ true → DeclBegins types ts
  decl_begins [] c ts after rest k fine s ok = type_begins_decl ts (spec_begins c ts rest
      (subst (λ z. SpellsSpec c z rest) (sym k) s) ok)
  decl_begins (q ∷ qs) c ts after rest k fine s ok = subst (DeclBegins types) (sym k.2)
      (qualifier_begins q k.1 k.0 (and_true _ _ fine).0)
