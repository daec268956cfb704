-- What settles a choice of the reader of expressions, by the front of an expression.
--   NoType types ts   no parenthesis stands here before a type
--   unary_no_type     an expression of unary level or tighter does not begin so
--   postfix_no_prefix a postfix expression begins with no prefix operator
--   no_cast_front, no_sizeof_front, no_new_front    the tests that a parenthesis before a type would pass
--   expr_no_label     where an expression begins with a word, no `:` follows it
use Rattle.std.proofs.Common.{◌≡◌, ℕ, ◌≤◌, Bool, true, false, List, [], ◌∷◌, Option, Some, None, refl, sym, ◌∙◌, subst}
use Rattle.std.proofs.Common.{arith}
use Rattle.std.specs.Prelude.{nat_le, ◌==◌}
use Rattle.pungi_base.specs.declared.key.Key.TheVariants as keys
use Rattle.pungi_base.specs.declared.kind.Kind.{Kind}
use Rattle.pungi_base.specs.declared.kind.Kind.TheVariants as kind
use Rattle.pungi_base.specs.declared.names.Name.{Name}
use Rattle.pungi_base.specs.declared.pos.Pos.{Pos}
use Rattle.pungi_base.specs.declared.punct.Punct.{Punct}
use Rattle.pungi_base.specs.declared.punct.Punct.TheVariants as puncts
use Rattle.pungi_base.specs.Numbers.{py_object_new}
use Rattle.pungi_parse.specs.tokens.OneToken.{eat, eat_key, eat_prefix}
use Rattle.pungi_parse.specs.expr.ExprReader.{new_front, cast_front}
use Rattle.pungi_parse.specs.Reading.{◌>>=◌, chain, when}
use Rattle.pungi_parse.specs.types.TypeReader.{plain_word, begins_type}
use Rattle.pungi_parse.proofs.trees.Fronts.{other_mark, expr_begins}
use Rattle.pungi_parse.proofs.trees.Levels.{at_level, prefix_bound, binary_parts, binary_bounds}
use Rattle.pungi_parse.proofs.Tools.{and_true, not_true, le_true, some_same}
use Rattle.pungi_parse.proofs.tokens.WordReadings.{plain_word_sound, plain_word_complete}
use Rattle.pungi_tree.specs.ExprLevels.{expr_at, is_empty}
use Rattle.pungi_tree.specs.ExprSpells.{Spells, SpellsTexts}
use Rattle.pungi_tree.specs.Operators.{binary_level, is_assign, is_step, prefix_need, prefix_mark_need, level}
use Rattle.pungi_tree.specs.Placed.{Placed, mark_at, word_at}
use Rattle.pungi_tree.specs.Syntax.{Expr, word, int, float, char, text, null, paren, unary, post, binary, assign}
use Rattle.pungi_tree.specs.Syntax.{conditional, comma, cast, size_of_type, call, new, index, dot, arrow}
use Rattle.pungi_tree.specs.Tokens.{named_word}
use Rattle.pungi_tree.specs.TypeWords.{is_word}

pub record NoType (types : List Name) (ts : List Placed) : Type 0 where
  pub no_type : (o : Pos × List Placed) → eat puncts.LeftParen ts ≡ Some o → begins_type types o.1 ≡ false

pub no_paren : (types : List Name) (ts : List Placed) → eat puncts.LeftParen ts ≡ None → NoType types ts
no_paren types ts h = record { no_type = λ o e. absurd (cc) }

pub paren_no_type : (types : List Name) (q : Pos) (ts : List Placed) → begins_type types ts ≡ false
    → NoType types (mark_at puncts.LeftParen q ∷ ts)
paren_no_type types q ts h =
    record {
      no_type = λ o e. let s : (q, ts) ≡ o = some_same _ _ e in subst
          (λ (z : Pos × List Placed). begins_type types z.1 ≡ false) s h;
    }

when_none : {A : Type 0} (b : Bool) → when {A = A} b None ≡ None
unfolding when
when_none true = refl
when_none false = refl

module _ (types : List Name) (ts : List Placed) (n : NoType types ts) where
  by_front : (A : Type 0) (f : Pos × List Placed → Option A)
      → (eat puncts.LeftParen ts >>= λ o. when (begins_type types o.1) (f o)) ≡ None
  unfolding chain when
  by_front A f = by (eat puncts.LeftParen ts) refl
    where
      by : (o : Option (Pos × List Placed)) → eat puncts.LeftParen ts ≡ o
          → (o >>= λ (o : Pos × List Placed). when (begins_type types o.1) (f o)) ≡ None
      by None e = refl
      by (Some o) e = rw (n.no_type o e) refl

  pub no_cast_front : cast_front types ts ≡ None
  unfolding cast_front
  no_cast_front = by_front (Pos × List Placed) (λ o. Some o)

  pub no_sizeof_front : (eat puncts.LeftParen ts >>= λ (o : Pos × List Placed). when (begins_type types o.1)
      (Some o.1)) ≡ None
  no_sizeof_front = by_front (List Placed) (λ o. Some o.1)

  pub no_new_front : (w : Name) (p : Pos) → is_word types w ≡ true → new_front types (word_at w p ∷ ts) ≡ None
  unfolding new_front chain
  no_new_front w p h = rw (plain_word_complete types w p ts h, by_front (Pos × List Placed) (λ o. Some (p, o.1)))
      (when_none (w.0 == py_object_new))

is_prefix : Punct → Bool
is_prefix m = nat_le (prefix_mark_need m) 14

is_operator : Punct → Bool
is_operator m = nat_le (binary_level m) 12

kind_no_paren : (k : Kind) (p : Pos) (ts : List Placed) → prefix_need k ≤ 14 → eat puncts.LeftParen ((k, p) ∷ ts) ≡ None
unfolding is_prefix
kind_no_paren (kind.Word n) p ts h = refl
kind_no_paren (kind.Int v b u) p ts h = refl
kind_no_paren kind.Float p ts h = refl
kind_no_paren (kind.Char c) p ts h = refl
kind_no_paren (kind.Text n) p ts h = refl
kind_no_paren (kind.Punct m) p ts h = other_mark is_prefix puncts.LeftParen m p ts refl (le_true _ _ h)
kind_no_paren (kind.Key k) p ts h = refl
kind_no_paren kind.Header p ts h = refl

texts_no_mark : (q : Punct) (ns : List Name) (ts rest : List Placed) → is_empty ns ≡ false → SpellsTexts ns ts rest
    → eat q ts ≡ None
texts_no_mark q [] ts rest h s = absurd (cc)
texts_no_mark q (n ∷ ns) ts rest h s = rw s.2 refl

texts_no_prefix : (ns : List Name) (ts rest : List Placed) → is_empty ns ≡ false → SpellsTexts ns ts rest
    → (eat_prefix ts ≡ None) × (eat_key keys.Sizeof ts ≡ None)
texts_no_prefix [] ts rest h s = absurd (cc)
texts_no_prefix (n ∷ ns) ts rest h s = (rw s.2 refl, rw s.2 refl)

texts_no_word : (types : List Name) (ns : List Name) (ts rest : List Placed) → is_empty ns ≡ false
    → SpellsTexts ns ts rest → plain_word types ts ≡ None
unfolding plain_word chain
texts_no_word types [] ts rest h s = absurd (cc)
texts_no_word types (n ∷ ns) ts rest h s = rw s.2 refl

module _ (types : List Name) where
  binary_high : (l : ℕ) (p : Pos) (m : Punct) (a b : Expr) → expr_at types l (binary p m a b) ≡ true
      → binary_level m ≤ 12
  binary_high l p m a b ok = (binary_bounds types m b (binary_parts types l p m a b ok).2).1

  left_high : (e : Expr) → expr_at types 15 e ≡ true → 14 ≤ level e
  left_high e ok = omega (arith, at_level types 15 e ok)

  pub unary_no_type : (l : ℕ) (e : Expr) (ts rest : List Placed) → 14 ≤ level e → expr_at types l e ≡ true
      → Spells e ts rest → NoType types ts
  unary_no_type l (word p n) ts rest h ok s = no_paren types ts (rw s refl)
  unary_no_type l (int p v b u) ts rest h ok s = no_paren types ts (rw s refl)
  unary_no_type l (float p) ts rest h ok s = no_paren types ts (rw s refl)
  unary_no_type l (char p c) ts rest h ok s = no_paren types ts (rw s refl)
  unary_no_type l (text p ns) ts rest h ok s = no_paren types ts (texts_no_mark puncts.LeftParen ns ts rest
      (not_true _ (and_true _ _ ok).1) s.1)
  unary_no_type l (null p) ts rest h ok s = no_paren types ts (rw s refl)
  unary_no_type l (paren p e) ts rest h ok s = subst (NoType types) (sym s.2)
      (paren_no_type types p s.0 (expr_begins types 0 e s.0 _ s.3 (and_true _ _ ok).1).no_type)
  unary_no_type l (unary p k e) ts rest h ok s = no_paren types ts (subst (λ z. eat puncts.LeftParen z ≡ None)
      (sym s.1) (kind_no_paren k p s.0 (prefix_bound types k e (and_true _ _ ok).1).1))
  unary_no_type l (post p m e) ts rest h ok s = unary_no_type 15 e ts _ (left_high e
      (and_true _ _ (and_true _ _ ok).1).1) (and_true _ _ (and_true _ _ ok).1).1 s
  unary_no_type l (binary p m a b) ts rest h ok s = absurd (omega (arith, h, binary_high l p m a b ok))
  unary_no_type l (assign p m a b) ts rest h ok s = absurd (omega (arith, h))
  unary_no_type l (conditional p a b c) ts rest h ok s = absurd (omega (arith, h))
  unary_no_type l (comma p a b) ts rest h ok s = absurd (omega (arith, h))
  unary_no_type l (cast p t e) ts rest h ok s = absurd (omega (arith, h))
  unary_no_type l (size_of_type p t) ts rest h ok s = no_paren types ts (rw s.3 refl)
  unary_no_type l (call p f es) ts rest h ok s = unary_no_type 15 f ts _
      (left_high f (and_true _ _ (and_true _ _ ok).1).0) (and_true _ _ (and_true _ _ ok).1).0 s.4
  unary_no_type l (new p t e) ts rest h ok s = no_paren types ts (rw s.5 refl)
  unary_no_type l (index p a b) ts rest h ok s = unary_no_type 15 a ts _
      (left_high a (and_true _ _ (and_true _ _ ok).1).0) (and_true _ _ (and_true _ _ ok).1).0 s.2
  unary_no_type l (dot p e n) ts rest h ok s = unary_no_type 15 e ts _ (left_high e
      (and_true _ _ (and_true _ _ ok).1).0) (and_true _ _ (and_true _ _ ok).1).0 s.1
  unary_no_type l (arrow p e n) ts rest h ok s = unary_no_type 15 e ts _
      (left_high e (and_true _ _ (and_true _ _ ok).1).0) (and_true _ _ (and_true _ _ ok).1).0 s.1

  pub postfix_no_prefix : (l : ℕ) (e : Expr) (ts rest : List Placed) → 15 ≤ level e → expr_at types l e ≡ true
      → Spells e ts rest → (eat_prefix ts ≡ None) × (eat_key keys.Sizeof ts ≡ None)
  postfix_no_prefix l (word p n) ts rest h ok s = (rw s refl, rw s refl)
  postfix_no_prefix l (int p v b u) ts rest h ok s = (rw s refl, rw s refl)
  postfix_no_prefix l (float p) ts rest h ok s = (rw s refl, rw s refl)
  postfix_no_prefix l (char p c) ts rest h ok s = (rw s refl, rw s refl)
  postfix_no_prefix l (text p ns) ts rest h ok s = texts_no_prefix ns ts rest (not_true _ (and_true _ _ ok).1) s.1
  postfix_no_prefix l (null p) ts rest h ok s = (rw s refl, rw s refl)
  postfix_no_prefix l (paren p e) ts rest h ok s = (rw s.2 refl, rw s.2 refl)
  postfix_no_prefix l (unary p k e) ts rest h ok s = absurd (omega (arith, h))
  postfix_no_prefix l (post p m e) ts rest h ok s = let o = (and_true _ _ (and_true _ _ ok).1).1 in
      postfix_no_prefix 15 e ts _ (at_level types 15 e o) o s
  postfix_no_prefix l (binary p m a b) ts rest h ok s = absurd (omega (arith, h, binary_high l p m a b ok))
  postfix_no_prefix l (assign p m a b) ts rest h ok s = absurd (omega (arith, h))
  postfix_no_prefix l (conditional p a b c) ts rest h ok s = absurd (omega (arith, h))
  postfix_no_prefix l (comma p a b) ts rest h ok s = absurd (omega (arith, h))
  postfix_no_prefix l (cast p t e) ts rest h ok s = absurd (omega (arith, h))
  postfix_no_prefix l (size_of_type p t) ts rest h ok s = absurd (omega (arith, h))
  postfix_no_prefix l (call p f es) ts rest h ok s = let o = (and_true _ _ (and_true _ _ ok).1).0 in
      postfix_no_prefix 15 f ts _ (at_level types 15 f o) o s.4
  postfix_no_prefix l (new p t e) ts rest h ok s = (rw s.5 refl, rw s.5 refl)
  postfix_no_prefix l (index p a b) ts rest h ok s = let o = (and_true _ _ (and_true _ _ ok).1).0 in
      postfix_no_prefix 15 a ts _ (at_level types 15 a o) o s.2
  postfix_no_prefix l (dot p e n) ts rest h ok s = let o = (and_true _ _ (and_true _ _ ok).1).0 in postfix_no_prefix
      15 e ts _ (at_level types 15 e o) o s.1
  postfix_no_prefix l (arrow p e n) ts rest h ok s = let o = (and_true _ _ (and_true _ _ ok).1).0 in
      postfix_no_prefix 15 e ts _ (at_level types 15 e o) o s.1

  -- no `:` stands after the word at the front, if there is one
  abbrev NoLabel : List Placed → Type 0
  NoLabel ts = (w : Name × Pos × List Placed) → plain_word types ts ≡ Some w → eat puncts.Colon w.2 ≡ None

  no_label : (ts : List Placed) → plain_word types ts ≡ None → NoLabel ts
  no_label ts h w e = absurd (cc)

  word_no_label : (n : Name) (p : Pos) (ts rest : List Placed) → ts ≡ word_at n p ∷ rest
      → eat puncts.Colon rest ≡ None → NoLabel ts
  word_no_label n p ts rest s c w e =
      let v = plain_word_sound types ts w e in
      let both : word_at n p ∷ rest ≡ word_at w.0 w.1 ∷ w.2 = sym s ∙ v.0 in
      let same : rest ≡ w.2 = cc in
      subst (λ z. eat puncts.Colon z ≡ None) same c

  kind_no_word : (k : Kind) (p : Pos) (ts : List Placed) → prefix_need k ≤ 14 → plain_word types ((k, p) ∷ ts) ≡ None
  unfolding plain_word chain
  kind_no_word (kind.Word n) p ts h = absurd (omega (arith, h))
  kind_no_word (kind.Int v b u) p ts h = refl
  kind_no_word kind.Float p ts h = refl
  kind_no_word (kind.Char c) p ts h = refl
  kind_no_word (kind.Text n) p ts h = refl
  kind_no_word (kind.Punct m) p ts h = refl
  kind_no_word (kind.Key k) p ts h = refl
  kind_no_word kind.Header p ts h = refl

  pub expr_no_label : (l : ℕ) (e : Expr) (ts rest : List Placed) (w : Name × Pos × List Placed) → Spells e ts rest
      → expr_at types l e ≡ true → eat puncts.Colon rest ≡ None → plain_word types ts ≡ Some w
      → eat puncts.Colon w.2 ≡ None
  unfolding plain_word chain is_operator
  expr_no_label l (word p n) ts rest w s ok c = word_no_label n p ts rest s c w
  expr_no_label l (int p v b u) ts rest w s ok c = no_label ts (rw s refl) w
  expr_no_label l (float p) ts rest w s ok c = no_label ts (rw s refl) w
  expr_no_label l (char p k) ts rest w s ok c = no_label ts (rw s refl) w
  expr_no_label l (text p ns) ts rest w s ok c = no_label ts (texts_no_word types ns ts rest
      (not_true _ (and_true _ _ ok).1) s.1) w
  expr_no_label l (null p) ts rest w s ok c = no_label ts (rw s refl) w
  expr_no_label l (paren p e) ts rest w s ok c = no_label ts (rw s.2 refl) w
  expr_no_label l (unary p k e) ts rest w s ok c = no_label ts (subst (λ z. plain_word types z ≡ None) (sym s.1)
      (kind_no_word k p s.0 (prefix_bound types k e (and_true _ _ ok).1).1)) w
  expr_no_label l (post p m e) ts rest w s ok c = let o = and_true _ _ (and_true _ _ ok).1 in expr_no_label 15 e ts
      _ w s o.1 (other_mark is_step puncts.Colon m p rest refl o.0)
  expr_no_label l (binary p m a b) ts rest w s ok c = expr_no_label (binary_level m) a ts _ w s.1
      (and_true _ _ (and_true _ _ ok).1).0 (other_mark is_operator puncts.Colon m p s.0 refl
      (le_true _ _ (binary_high l p m a b ok)))
  expr_no_label l (assign p m a b) ts rest w s ok c = let o = and_true _ _ (and_true _ _ ok).1 in expr_no_label 14 a
      ts _ w s.1 (and_true _ _ o.1).0 (other_mark is_assign puncts.Colon m p s.0 refl o.0)
  expr_no_label l (conditional p a b d) ts rest w s ok c = expr_no_label 3 a ts _ w s.3
      (and_true _ _ (and_true _ _ ok).1).0 refl
  expr_no_label l (comma p a b) ts rest w s ok c = expr_no_label 0 a ts _ w s.1 (and_true _ _ (and_true _ _ ok).1).0
      refl
  expr_no_label l (cast p t e) ts rest w s ok c = no_label ts (rw s.3 refl) w
  expr_no_label l (size_of_type p t) ts rest w s ok c = no_label ts (rw s.3 refl) w
  expr_no_label l (call p f es) ts rest w s ok c = expr_no_label 15 f ts _ w s.4
      (and_true _ _ (and_true _ _ ok).1).0 refl
  expr_no_label l (new p t e) ts rest w s ok c = word_no_label (named_word py_object_new) p ts
      (mark_at puncts.LeftParen s.2 ∷ s.0) s.5 refl w
  expr_no_label l (index p a b) ts rest w s ok c = expr_no_label 15 a ts _ w s.2
      (and_true _ _ (and_true _ _ ok).1).0 refl
  expr_no_label l (dot p e n) ts rest w s ok c = expr_no_label 15 e ts _ w s.1 (and_true _ _ (and_true _ _ ok).1).0 refl
  expr_no_label l (arrow p e n) ts rest w s ok c = expr_no_label 15 e ts _ w s.1
      (and_true _ _ (and_true _ _ ok).1).0 refl
