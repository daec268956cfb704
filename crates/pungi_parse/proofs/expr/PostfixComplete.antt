-- Primary and postfix expressions that stand at the front of the tokens are read, by what is known of their parts.
--   ArgsRead, MoreArgsRead    the readers of arguments read them
--   .._steps          the facts of an expression of this kind
use Rattle.std.proofs.Common.{◌≡◌, ℕ, ℤ, zero, suc, ◌<◌, ◌≤◌, Bool, true, false, not, ◌&&◌, List, [], ◌∷◌, length, Some}
use Rattle.std.proofs.Common.{None, refl, sym, ◌∙◌, ap, subst, arith}
use Rattle.pungi_base.specs.declared.names.Name.{Name}
use Rattle.pungi_base.specs.declared.pos.Pos.{Pos}
use Rattle.pungi_base.specs.declared.punct.Punct.{Punct}
use Rattle.pungi_base.specs.declared.punct.Punct.TheVariants as puncts
use Rattle.pungi_base.specs.Numbers.{py_object_new}
use Rattle.pungi_parse.specs.tokens.OneToken.{eat, eat_literal, eat_text}
use Rattle.pungi_parse.specs.expr.ExprReader.{more_args, some_args, args_at, new_front, new_at, paren_at, primary}
use Rattle.pungi_parse.specs.expr.ExprReader.{index_at, call_at, postfix_turn}
use Rattle.pungi_parse.specs.expr.ExprReader as reader
use Rattle.pungi_parse.specs.Reading.{chain, on_some, when, unless}
use Rattle.pungi_parse.specs.Readers.{readers}
use Rattle.pungi_parse.specs.types.TypeReader.{Lower, plain_word, type_word, begins_type, type_name_at}
use Rattle.pungi_parse.proofs.expr.Choices.{no_paren, paren_no_type, no_new_front}
use Rattle.pungi_parse.proofs.tokens.Ends.{ExprEnds, ends_at_paren, ends_at_bracket, ends_at_comma, ends_at_assignment}
use Rattle.pungi_parse.proofs.trees.Facts.{ExprReads, TypeNameReads, TypeEnds}
use Rattle.pungi_parse.proofs.trees.Fronts.{other_mark, expr_begins, spec_begins}
use Rattle.pungi_parse.proofs.trees.Levels.{at_level, at_whole}
use Rattle.pungi_parse.proofs.trees.Shorter.{expr_no_longer, type_name_no_longer}
use Rattle.pungi_parse.proofs.expr.ExprSteps.{PostfixComes, Stands, Steps, from_primary, postfix_next, postfix_steps}
use Rattle.pungi_parse.proofs.Tools.{and_true, not_true, some_same}
use Rattle.pungi_parse.proofs.tokens.WordReadings.{texts_complete, plain_word_complete}
use Rattle.pungi_tree.specs.ExprDepth.{expr_depth, exprs_depth}
use Rattle.pungi_tree.specs.ExprLevels.{expr_at, args_ok, type_name_ok, is_empty}
use Rattle.pungi_tree.specs.ExprSpells.{Spells, SpellsArgs, SpellsMoreArgs, SpellsTypeName, SpellsTexts}
use Rattle.pungi_tree.specs.Operators.{is_step, level}
use Rattle.pungi_tree.specs.Placed.{Placed, mark_at, word_at, text_at, first_place}
use Rattle.pungi_tree.specs.Syntax.{Expr, word, int, float, char, text, null, paren, post, call, new, index, dot, arrow}
use Rattle.pungi_tree.specs.Syntax.{Exprs, no_exprs, expr_and, TypeName, type_name}
use Rattle.pungi_tree.specs.Tokens.{named_word}
use Rattle.pungi_tree.specs.TypeWords.{is_word}

pub type_ends_at_paren : (q : Pos) (ts : List Placed) → TypeEnds (mark_at puncts.RightParen q ∷ ts)
type_ends_at_paren q ts =
    record {
      spec = record { no_const = refl; no_base_word = refl; no_brace = refl };
      stars = record
          { no_star = refl; no_const = refl };
    }

type_ends_at_comma : (q : Pos) (ts : List Placed) → TypeEnds (mark_at puncts.Comma q ∷ ts)
type_ends_at_comma q ts =
    record {
      spec = record { no_const = refl; no_base_word = refl; no_brace = refl };
      stars = record
          { no_star = refl; no_const = refl };
    }

module _ (types : List Name) where
  abbrev pub MoreArgsRead : Exprs → Type 0
  MoreArgsRead es = (n d k : ℕ) (q : Pos) (ts rest : List Placed)
      → SpellsMoreArgs es ts (mark_at puncts.RightParen q ∷ rest) → args_ok types es ≡ true → exprs_depth es ≤ d
      → length ts ≤ n → length ts < k → more_args types (readers types n d) k ts
      ≡ Some (es, mark_at puncts.RightParen q ∷ rest)

  abbrev pub ArgsRead : Exprs → Type 0
  ArgsRead es = (n d : ℕ) (q : Pos) (ts rest : List Placed) → SpellsArgs es ts (mark_at puncts.RightParen q ∷ rest)
      → args_ok types es ≡ true → exprs_depth es ≤ d → length ts ≤ n
      → args_at types (readers types n d) ts ≡ Some (es, rest)

  pub more_args_end : MoreArgsRead no_exprs
  unfolding more_args on_some
  more_args_end n d zero q ts rest s ok deep long fuel = absurd (omega (arith, fuel))
  more_args_end n d (suc k) q ts rest s ok deep long fuel = rw s refl

  args_stop : (es : Exprs) (q : Pos) (ts rest : List Placed)
      → SpellsMoreArgs es ts (mark_at puncts.RightParen q ∷ rest) → ExprEnds 1 ts
  args_stop no_exprs q ts rest s = subst (ExprEnds 1) (sym s) (ends_at_assignment _ (ends_at_paren q rest))
  args_stop (expr_and e es) q ts rest s = subst (ExprEnds 1) (sym s.3) (ends_at_comma s.2 s.0)

  pub more_args_and : (e : Expr) (es : Exprs) → ExprReads types e → MoreArgsRead es → MoreArgsRead (expr_and e es)
  unfolding more_args on_some chain
  more_args_and e es g f n d zero q ts rest s ok deep long fuel = absurd (omega (arith, fuel))
  more_args_and e es g f n d (suc k) q ts rest s ok deep long fuel =
      let a = and_true (expr_at types 1 e) (args_ok types es) ok in
      let i = expr_no_longer e _ _ s.4 in
      let r = g n d 1 s.0 s.1 s.4 a.0 (omega (arith, deep)) (omega (arith, long, ap length s.3))
      (args_stop es q s.1 rest s.5) (omega arith) in
      let t = f n d k q s.1 rest s.5 a.1 (omega (arith, deep)) (omega (arith, long, i, ap length s.3))
      (omega (arith, fuel, i, ap length s.3)) in
      rw (s.3, r, t) refl

  pub args_end : ArgsRead no_exprs
  unfolding args_at on_some
  args_end n d q ts rest s ok deep long = rw s refl

  pub args_and : (e : Expr) (es : Exprs) → ExprReads types e → MoreArgsRead es → ArgsRead (expr_and e es)
  unfolding args_at some_args on_some chain
  args_and e es g f n d q ts rest s ok deep long =
      let a = and_true (expr_at types 1 e) (args_ok types es) ok in
      let i = expr_no_longer e ts s.0 s.1 in
      let none : eat puncts.RightParen ts ≡ None = (expr_begins types 1 e ts s.0 s.1 a.0).no_mark puncts.RightParen
      refl in
      let r = g n d 1 ts s.0 s.1 a.0 (omega (arith, deep)) long (args_stop es q s.0 rest s.2) (omega arith) in
      let t = f n d (suc (length s.0)) q s.0 rest s.2 a.1 (omega (arith, deep)) (omega (arith, long, i))
      (omega arith) in
      rw (none, r, t) refl

  args_begin : (es : Exprs) (q : Pos) (ts rest : List Placed)
      → SpellsArgs es ts (mark_at puncts.RightParen q ∷ rest) → args_ok types es ≡ true → begins_type types ts ≡ false
  unfolding begins_type type_word chain
  args_begin no_exprs q ts rest s ok = rw s refl
  args_begin (expr_and e es) q ts rest s ok = (expr_begins types 1 e ts s.0 s.1 (and_true _ _ ok).0).no_type

  pub type_name_begins : (t : TypeName) (ts rest : List Placed) → SpellsTypeName t ts rest
      → type_name_ok types t ≡ true → begins_type types ts ≡ true
  type_name_begins (type_name c ss) ts rest s ok = (spec_begins types c ts s.0 s.1 ok).begins

  -- primary expressions
  pub word_steps : (p : Pos) (w : Name) → Steps types (word p w)
  unfolding primary on_some chain unless
  word_steps p w = postfix_steps types (word p w) (omega arith) (λ n d q ts rest s place none ends.
      let ok = (and_true true (is_word types w) s.allowed).1 in
      let front : primary types (readers types n d) (word_at w p ∷ rest)
      ≡ Some (word p w, rest) = rw (no_new_front types rest ends w p ok, plain_word_complete types w p rest ok)
      refl in
      from_primary types n d q (word p w) ts rest place (subst (λ z. primary types (readers types n d) z
      ≡ Some (word p w, rest)) (sym s.spells) front))

  literal_steps : (e : Expr) → 15 ≤ level e
      → ((ts rest : List Placed) → Spells e ts rest → eat_literal ts ≡ Some (e, rest)) → Steps types e
  unfolding primary on_some
  literal_steps e high f = postfix_steps types e high (λ n d q ts rest s place none ends. from_primary types n d q e
      ts rest place (rw (f ts rest s.spells) refl))

  pub int_steps : (p : Pos) (v : ℤ) (b u : Bool) → Steps types (int p v b u)
  int_steps p v b u = literal_steps (int p v b u) (omega arith) (λ ts rest s. rw s refl)

  pub float_steps : (p : Pos) → Steps types (float p)
  float_steps p = literal_steps (float p) (omega arith) (λ ts rest s. rw s refl)

  pub char_steps : (p : Pos) (c : ℕ) → Steps types (char p c)
  char_steps p c = literal_steps (char p c) (omega arith) (λ ts rest s. rw s refl)

  pub null_steps : (p : Pos) → Steps types (null p)
  null_steps p = literal_steps (null p) (omega arith) (λ ts rest s. rw s refl)

  -- what of the reader of primary expressions comes before texts
  text_front : (low : Lower) (n : Name) (p : Pos) (ts : List Placed)
      → primary types low (text_at n p ∷ ts) ≡ reader.text_at types low (text_at n p ∷ ts)
  unfolding primary new_front plain_word on_some chain
  text_front low n p ts = refl

  texts_primary : (low : Lower) (p : Pos) (ns : List Name) (ts rest : List Placed) → is_empty ns ≡ false
      → first_place ts ≡ Some p → SpellsTexts ns ts rest → eat_text rest ≡ None
      → primary types low ts ≡ Some (text p ns, rest)
  unfolding reader.text_at chain unless
  texts_primary low p [] ts rest h place s none = absurd (cc)
  texts_primary low p (n ∷ ns) ts rest h place s none =
      let r : reader.text_at types low ts ≡ Some (text p (n ∷ ns), rest) = rw
      (place, texts_complete (n ∷ ns) ts rest s none) refl in
      let f : primary types low ts ≡ reader.text_at types low ts = subst (λ z. primary types low z
      ≡ reader.text_at types low z) (sym s.2) (text_front low n s.1 s.0) in
      f ∙ r

  pub text_steps : (p : Pos) (ns : List Name) → Steps types (text p ns)
  text_steps p ns = postfix_steps types (text p ns) (omega arith) (λ n d q ts rest s place none ends.
      from_primary types n d q (text p ns) ts rest place (texts_primary (readers types n d) p ns ts rest
      (not_true _ (and_true true (not (is_empty ns)) s.allowed).1) s.spells.0 s.spells.1 none))

  paren_primary : (low : Lower) (p q : Pos) (e : Expr) (ts inner rest : List Placed)
      → ts ≡ mark_at puncts.LeftParen p ∷ inner → low.expr 0 inner ≡ Some (e, mark_at puncts.RightParen q ∷ rest)
      → primary types low ts ≡ Some (paren p e, rest)
  unfolding primary new_front paren_at plain_word on_some chain
  paren_primary low p q e ts inner rest s h = rw (s, h) refl

  pub paren_steps : (p : Pos) (e : Expr) → ExprReads types e → Steps types (paren p e)
  paren_steps p e f = postfix_steps types (paren p e) (omega arith) (λ n d q ts rest s place none ends.
      let c = s.spells in
      let r = f n d 0 c.0 _ c.3 (and_true true (expr_at types 0 e) s.allowed).1 (omega (arith, s.deep))
      (omega (arith, s.long, ap length c.2)) (ends_at_paren c.1 rest) (omega arith) in
      from_primary types n d q (paren p e) ts rest place (paren_primary (readers types n d) p c.1 e ts c.0 rest c.2 r))

  new_primary : (low : Lower) (p q r x : Pos) (t : TypeName) (e : Expr) (ts inner value rest : List Placed)
      → ts ≡ word_at (named_word py_object_new) p ∷ mark_at puncts.LeftParen q ∷ inner
      → is_word types (named_word py_object_new) ≡ true → begins_type types inner ≡ true
      → type_name_at low inner ≡ Some (t, mark_at puncts.Comma r ∷ value)
      → low.expr 1 value ≡ Some (e, mark_at puncts.RightParen x ∷ rest)
      → primary types low ts ≡ Some (new p t e, rest)
  unfolding primary new_front new_at plain_word on_some chain when unless
  new_primary low p q r x t e ts inner value rest s ok b h k = rw (s, not_true _ ok, b, h, k) refl

  pub new_steps : (p : Pos) (t : TypeName) (e : Expr) → TypeNameReads types t → ExprReads types e
      → Steps types (new p t e)
  new_steps p t e g f = postfix_steps types (new p t e) (omega arith) (λ n d q ts rest s place none ends.
      let c = s.spells in
      let a = and_true (is_word types (named_word py_object_new)) (type_name_ok types t && expr_at types 1 e)
      (and_true true (is_word types (named_word py_object_new) && (type_name_ok types t && expr_at types 1 e))
      s.allowed).1 in
      let b = and_true (type_name_ok types t) (expr_at types 1 e) a.1 in
      let i = type_name_no_longer t _ _ c.6 in
      let y = g n d c.0 _ c.6 b.0 (omega (arith, s.deep)) (omega (arith, s.long, ap length c.5))
      (type_ends_at_comma c.3 c.1) in
      let r = f n d 1 c.1 _ c.7 b.1 (omega (arith, s.deep)) (omega (arith, s.long, i, ap length c.5))
      (ends_at_assignment _ (ends_at_paren c.4 rest)) (omega arith) in
      from_primary types n d q (new p t e) ts rest place (new_primary (readers types n d) p c.2 c.3 c.4 t e ts c.0
      c.1 rest c.5 a.0 (type_name_begins t c.0 _ c.6 b.0) y r))

  -- postfix expressions: one more turn of the loop
  step_turn : (low : Lower) (start p : Pos) (m : Punct) (e : Expr) (rest : List Placed) → is_step m ≡ true
      → postfix_turn types low start e (mark_at m p ∷ rest) ≡ Some (Some (post p m e, rest))
  unfolding postfix_turn on_some
  step_turn low start p m e rest h =
      rw (
        other_mark is_step puncts.LeftParen m p rest refl h,
        other_mark is_step puncts.LeftBracket m p rest refl
            h,
        other_mark is_step puncts.Dot m p rest refl h,
        other_mark is_step puncts.Arrow m p rest refl h,
        h,
      ) refl

  -- the left part of a postfix expression
  left_stands : (n d : ℕ) (x e : Expr) (ts rest at : List Placed) → Stands types n d x ts rest → Spells e ts at
      → expr_at types 15 e ≡ true → expr_depth e < expr_depth x → Stands types n d e ts at
  left_stands n d x e ts rest at s c ok deep = record {
    spells = c;
    allowed = at_whole types 15 e ok;
    deep = omega
        (arith, s.deep, deep);
    long = s.long;
  }

  pub post_steps : (p : Pos) (m : Punct) (e : Expr) → Steps types e → Steps types (post p m e)
  post_steps p m e f = postfix_steps types (post p m e) (omega arith) (λ n d q ts rest s place none ends.
      let a = and_true (is_step m) (expr_at types 15 e) (and_true true (is_step m && expr_at types 15 e) s.allowed).1 in
      let c = f.postfix_comes (at_level types 15 e a.1) n d q ts (mark_at m p ∷ rest)
      (left_stands n d (post p m e) e ts rest _ s s.spells a.1 (omega arith)) place refl
      (no_paren types _ (other_mark is_step puncts.LeftParen m p rest refl a.0)) in
      postfix_next types n d c.0 q e (post p m e) (Some (post p m e, rest)) ts (mark_at m p ∷ rest) rest
      (omega (arith, s.deep)) (omega arith) (step_turn (readers types n d) q p m e rest a.0) refl c.1 c.2)

  call_turn : (low : Lower) (start q : Pos) (e : Expr) (ts : List Placed)
      → postfix_turn types low start e (mark_at puncts.LeftParen q ∷ ts) ≡ Some (call_at types low start e ts)
  unfolding postfix_turn on_some
  call_turn low start q e ts = refl

  call_reads : (low : Lower) (start : Pos) (e : Expr) (es : Exprs) (ts rest : List Placed)
      → args_at types low ts ≡ Some (es, rest) → call_at types low start e ts ≡ Some (call start e es, rest)
  unfolding call_at chain
  call_reads low start e es ts rest h = rw h refl

  pub call_steps : (p : Pos) (e : Expr) (es : Exprs) → Steps types e → ArgsRead es → Steps types (call p e es)
  call_steps p e es f g = postfix_steps types (call p e es) (omega arith) (λ n d q ts rest s place none ends.
      let c = s.spells in
      let a = and_true (expr_at types 15 e) (args_ok types es) (and_true true
      (expr_at types 15 e && args_ok types es) s.allowed).1 in
      let same : p ≡ q = some_same p q (sym c.3 ∙ place) in
      let i = expr_no_longer e ts _ c.4 in
      let r = g n d c.2 c.0 rest c.5 a.1 (omega (arith, s.deep)) (omega (arith, s.long, i)) in
      let k = f.postfix_comes (at_level types 15 e a.0) n d p ts (mark_at puncts.LeftParen c.1 ∷ c.0)
      (left_stands n d (call p e es) e ts rest _ s c.4 a.0 (omega arith)) c.3 refl
      (paren_no_type types c.1 c.0 (args_begin es c.2 c.0 rest c.5 a.1)) in
      subst (λ z. PostfixComes types n d z (call p e es) ts rest) same (postfix_next types n d k.0 p e (call p e es)
      (call_at types (readers types n d) p e c.0) ts (mark_at puncts.LeftParen c.1 ∷ c.0) rest
      (omega (arith, s.deep)) (omega arith) (call_turn (readers types n d) p c.1 e c.0)
      (call_reads (readers types n d) p e es c.0 rest r) k.1 k.2))

  index_turn : (low : Lower) (start q : Pos) (e : Expr) (ts : List Placed)
      → postfix_turn types low start e (mark_at puncts.LeftBracket q ∷ ts) ≡ Some (index_at types low e q ts)
  unfolding postfix_turn on_some
  index_turn low start q e ts = refl

  index_reads : (low : Lower) (p q : Pos) (e b : Expr) (ts rest : List Placed)
      → low.expr 0 ts ≡ Some (b, mark_at puncts.RightBracket q ∷ rest)
      → index_at types low e p ts ≡ Some (index p e b, rest)
  unfolding index_at chain
  index_reads low p q e b ts rest h = rw h refl

  pub index_steps : (p : Pos) (e b : Expr) → Steps types e → ExprReads types b → Steps types (index p e b)
  index_steps p e b f g = postfix_steps types (index p e b) (omega arith) (λ n d q ts rest s place none ends.
      let c = s.spells in
      let a = and_true (expr_at types 15 e) (expr_at types 0 b) (and_true true
      (expr_at types 15 e && expr_at types 0 b) s.allowed).1 in
      let i = expr_no_longer e ts _ c.2 in
      let r = g n d 0 c.0 _ c.3 a.1 (omega (arith, s.deep)) (omega (arith, s.long, i)) (ends_at_bracket c.1 rest)
      (omega arith) in
      let k = f.postfix_comes (at_level types 15 e a.0) n d q ts (mark_at puncts.LeftBracket p ∷ c.0)
      (left_stands n d (index p e b) e ts rest _ s c.2 a.0 (omega arith)) place refl (no_paren types _ refl) in
      postfix_next types n d k.0 q e (index p e b) (index_at types (readers types n d) e p c.0) ts
      (mark_at puncts.LeftBracket p ∷ c.0) rest (omega (arith, s.deep)) (omega arith)
      (index_turn (readers types n d) q p e c.0) (index_reads (readers types n d) p c.1 e b c.0 rest r) k.1 k.2)

  dot_turn : (low : Lower) (start p q : Pos) (e : Expr) (w : Name) (rest : List Placed) → is_word types w ≡ true
      → postfix_turn types low start e (mark_at puncts.Dot p ∷ word_at w q ∷ rest) ≡ Some (Some (dot p e w, rest))
  unfolding postfix_turn plain_word on_some chain unless
  dot_turn low start p q e w rest h = rw (not_true _ h) refl

  pub dot_steps : (p : Pos) (e : Expr) (w : Name) → Steps types e → Steps types (dot p e w)
  dot_steps p e w f = postfix_steps types (dot p e w) (omega arith) (λ n d q ts rest s place none ends.
      let c = s.spells in
      let a = and_true (expr_at types 15 e) (is_word types w) (and_true true (expr_at types 15 e && is_word types w)
      s.allowed).1 in
      let k = f.postfix_comes (at_level types 15 e a.0) n d q ts (mark_at puncts.Dot p ∷ word_at w c.0 ∷ rest)
      (left_stands n d (dot p e w) e ts rest _ s c.1 a.0 (omega arith)) place refl (no_paren types _ refl) in
      postfix_next types n d k.0 q e (dot p e w) (Some (dot p e w, rest)) ts
      (mark_at puncts.Dot p ∷ word_at w c.0 ∷ rest) rest (omega (arith, s.deep)) (omega arith)
      (dot_turn (readers types n d) q p c.0 e w rest a.1) refl k.1 k.2)

  arrow_turn : (low : Lower) (start p q : Pos) (e : Expr) (w : Name) (rest : List Placed) → is_word types w ≡ true
      → postfix_turn types low start e (mark_at puncts.Arrow p ∷ word_at w q ∷ rest) ≡ Some (Some (arrow p e w, rest))
  unfolding postfix_turn plain_word on_some chain unless
  arrow_turn low start p q e w rest h = rw (not_true _ h) refl

  pub arrow_steps : (p : Pos) (e : Expr) (w : Name) → Steps types e → Steps types (arrow p e w)
  arrow_steps p e w f = postfix_steps types (arrow p e w) (omega arith) (λ n d q ts rest s place none ends.
      let c = s.spells in
      let a = and_true (expr_at types 15 e) (is_word types w) (and_true true (expr_at types 15 e && is_word types w)
      s.allowed).1 in
      let k = f.postfix_comes (at_level types 15 e a.0) n d q ts (mark_at puncts.Arrow p ∷ word_at w c.0 ∷ rest)
      (left_stands n d (arrow p e w) e ts rest _ s c.1 a.0 (omega arith)) place refl (no_paren types _ refl) in
      postfix_next types n d k.0 q e (arrow p e w) (Some (arrow p e w, rest)) ts
      (mark_at puncts.Arrow p ∷ word_at w c.0 ∷ rest) rest (omega (arith, s.deep)) (omega arith)
      (arrow_turn (readers types n d) q p c.0 e w rest a.1) refl k.1 k.2)
