-- What is read as an expression stands at the front of the tokens: primary, postfix, unary and cast expressions.
--   .._gets           what the reader of the same name reads
--   Postfixed         a primary or postfix expression was read so far
use Rattle.std.proofs.Common.{◌≡◌, ℕ, zero, suc, ◌≤◌, true, inl, inr, List, ◌∷◌, length, Some, None, refl, sym, ◌∙◌, ap}
use Rattle.std.proofs.Common.{subst, arith}
use Rattle.pungi_base.specs.declared.key.Key.TheVariants as keys
use Rattle.pungi_base.specs.declared.names.Name.{Name}
use Rattle.pungi_base.specs.declared.pos.Pos.{Pos}
use Rattle.pungi_base.specs.declared.punct.Punct.TheVariants as puncts
use Rattle.pungi_base.specs.Numbers.{py_object_new}
use Rattle.pungi_parse.specs.tokens.OneToken.{eat_operator}
use Rattle.pungi_parse.specs.expr.ExprReader.{more_args, some_args, args_at, new_front, new_at, paren_at, text_at}
use Rattle.pungi_parse.specs.expr.ExprReader.{primary, index_at, call_at, postfix_turn, postfixes, postfix, sizeof_at}
use Rattle.pungi_parse.specs.expr.ExprReader.{unary, cast_front, casted}
use Rattle.pungi_parse.specs.Reading.{Read, ◌>>=◌}
use Rattle.pungi_parse.specs.types.TypeReader.{Lower, texts, plain_word}
use Rattle.pungi_parse.proofs.tokens.Eaten.{eat_some, eat_key_some, eat_literal_some, eat_prefix_some, eat_marked_some}
use Rattle.pungi_parse.proofs.tokens.Eaten.{no_operator_above}
use Rattle.pungi_parse.proofs.tokens.Ends.{at_least}
use Rattle.pungi_parse.proofs.trees.Levels.{at_looser}
use Rattle.pungi_parse.proofs.trees.LowSound.{Gets, GetsExpr, LowSound}
use Rattle.pungi_parse.proofs.types.ParamSound.{is_named}
use Rattle.pungi_parse.proofs.Tools.{bind_some, on_some_cases, when_some, unless_some, some_same, and_join, not_false}
use Rattle.pungi_parse.proofs.Tools.{lt_from}
use Rattle.pungi_parse.proofs.types.TypeSound.{type_name_gets}
use Rattle.pungi_parse.proofs.tokens.WordReadings.{texts_sound, plain_word_sound}
use Rattle.pungi_tree.specs.ExprDepth.{expr_depth, exprs_depth}
use Rattle.pungi_tree.specs.ExprLevels.{expr_at, args_ok}
use Rattle.pungi_tree.specs.ExprSpells.{Spells, SpellsArgs, SpellsMoreArgs, SpellsTypeName}
use Rattle.pungi_tree.specs.Operators.{prefix_mark_need, is_step}
use Rattle.pungi_tree.specs.Placed.{Placed, mark_at, key_at, word_at, first_place}
use Rattle.pungi_tree.specs.Syntax.{Expr, post, dot, arrow, Exprs}
use Rattle.pungi_tree.specs.Tokens.{named_word}
use Rattle.pungi_tree.specs.TypeWords.{is_word}

pub at_least_same : (l : ℕ) → 3 ≤ l → at_least l ≡ l
at_least_same zero h = absurd (omega (arith, h))
at_least_same (suc zero) h = absurd (omega (arith, h))
at_least_same (suc (suc zero)) h = absurd (omega (arith, h))
at_least_same (suc (suc (suc l))) h = refl

pub none_so_tight : (l : ℕ) (ts : List Placed) → 13 ≤ l → eat_operator (at_least l) ts ≡ None
none_so_tight l ts h =
    subst (λ m. eat_operator m ts ≡ None) (sym (at_least_same l (omega (arith, h)))) (no_operator_above l ts h)

-- `PyObject_New (`
pub record NewFront (types : List Name) (ts : List Placed) (n : Pos × List Placed) : Type 0 where
  pub place : Pos
  pub tokens : ts ≡ word_at (named_word py_object_new) n.0 ∷ mark_at puncts.LeftParen place ∷ n.1
  pub plain : is_word types (named_word py_object_new) ≡ true

pub new_front_sound : (types : List Name) (ts : List Placed) (n : Pos × List Placed) → new_front types ts ≡ Some n
    → NewFront types ts n
unfolding new_front
new_front_sound types ts n h =
    let w = bind_some _ _ _ h in
    let g = when_some _ _ _ w.2 in
    let o = bind_some _ _ _ g.1 in
    let b = when_some _ _ _ o.2 in
    let v = plain_word_sound types ts w.0 w.1 in
    let e : w.0.0 ≡ named_word py_object_new = is_named w.0.0 py_object_new g.0 in
    let t : ts ≡ word_at (named_word py_object_new) w.0.1 ∷ mark_at puncts.LeftParen o.0.0 ∷ o.0.1 = v.0
    ∙ ap (λ z. word_at z w.0.1 ∷ w.0.2) e ∙ ap (λ z. word_at (named_word py_object_new) w.0.1 ∷ z)
    (eat_some _ w.0.2 o.0 o.1) in
    subst (NewFront types ts) (some_same _ _ b.1) (record {
      place = o.0.0;
      tokens = t;
      plain = subst
          (λ z. is_word types z ≡ true) e v.1;
    })

module _ (types : List Name) (d : ℕ) where
  -- what is read at a level is read at a looser one, where no binary operator has either
  pub loosen : (l m : ℕ) (ts : List Placed) (x : Expr × List Placed) → 13 ≤ l → l ≤ m → GetsExpr types d m ts x
      → GetsExpr types d l ts x
  loosen l m ts x h k g = record {
    spells = g.spells;
    allowed = at_looser types l m x.0 k g.allowed;
    shallow
        = g.shallow;
    no_operator = none_so_tight l x.1 h;
  }

  abbrev pub GetsMoreArgs : List Placed → Exprs × List Placed → Type 0
  GetsMoreArgs ts x = Gets (SpellsMoreArgs x.0 ts x.1) (args_ok types x.0) (exprs_depth x.0) d

  abbrev pub GetsArgs : List Placed → Exprs × List Placed → Type 0
  GetsArgs ts x = Gets ((q : Pos) × SpellsArgs x.0 ts (mark_at puncts.RightParen q ∷ x.1)) (args_ok types x.0)
      (exprs_depth x.0) d

module _ (types : List Name) (d : ℕ) (low : Lower) (sound : LowSound types d low) where
  more_args_get : (k : ℕ) (ts : List Placed) (x : Exprs × List Placed) → more_args types low k ts ≡ Some x
      → GetsMoreArgs types d ts x
  unfolding more_args
  more_args_get zero ts x h = absurd (cc)
  more_args_get (suc k) ts x h = elim (on_some_cases _ _ _ _ h) [
    | inl c ↦
        let e = bind_some _ _ _ c.2 in
        let m = bind_some _ _ _ e.2 in
        let r = sound.expr 1 c.0.1 e.0 e.1 (omega arith) in
        let g = more_args_get k e.0.1 m.0 m.1 in
        subst (GetsMoreArgs types d ts) (some_same _ _ m.2) (record {
          spells = (
            c.0.1,
            e.0.1,
            c.0.0,
            eat_some _ ts
                c.0 c.1,
            r.spells,
            g.spells,
          );
          allowed = and_join _ _ r.allowed g.allowed;
          shallow = omega
              (arith, r.shallow, g.shallow);
        })
    | inr n ↦ subst (GetsMoreArgs types d ts) (some_same _ _ n.1) (record {
      spells = refl;
      allowed = refl;
      shallow
          = omega arith;
    })
  ]

  args_get : (ts : List Placed) (x : Exprs × List Placed) → args_at types low ts ≡ Some x → GetsArgs types d ts x
  unfolding args_at some_args
  args_get ts x h = elim (on_some_cases _ _ _ _ h) [
    | inl c ↦ subst (GetsArgs types d ts) (some_same _ _ c.2) (record {
      spells = (c.0.0, eat_some _ ts c.0 c.1);
      allowed = refl;
      shallow = omega arith;
    })
    | inr n ↦
        let e = bind_some _ _ _ n.1 in
        let m = bind_some _ _ _ e.2 in
        let c = bind_some _ _ _ m.2 in
        let r = sound.expr 1 ts e.0 e.1 (omega arith) in
        let g = more_args_get (suc (length e.0.1)) e.0.1 m.0 m.1 in
        let i : SpellsMoreArgs m.0.0 e.0.1 (mark_at puncts.RightParen c.0.0 ∷ c.0.1) = subst
        (λ z. SpellsMoreArgs m.0.0 e.0.1 z) (eat_some _ m.0.1 c.0 c.1) g.spells in
        subst (GetsArgs types d ts) (some_same _ _ c.2) (record {
          spells = (c.0.0, (e.0.1, r.spells, i));
          allowed
              = and_join _ _ r.allowed g.allowed;
          shallow = omega (arith, r.shallow, g.shallow);
        })
  ]

  new_gets : (n : Pos × List Placed) (ts : List Placed) (x : Expr × List Placed) → NewFront types ts n
      → new_at types low n.0 n.1 ≡ Some x → GetsExpr types (suc d) 16 ts x
  unfolding new_at
  new_gets n ts x f h =
      let t = bind_some _ _ _ h in
      let c = bind_some _ _ _ t.2 in
      let e = bind_some _ _ _ c.2 in
      let r = bind_some _ _ _ e.2 in
      let g = type_name_gets types d low sound n.1 t.0 t.1 in
      let i = sound.expr 1 c.0.1 e.0 e.1 (omega arith) in
      let s : SpellsTypeName t.0.0 n.1 (mark_at puncts.Comma c.0.0 ∷ c.0.1) = subst
      (λ z. SpellsTypeName t.0.0 n.1 z) (eat_some _ t.0.1 c.0 c.1) g.spells in
      let v : Spells e.0.0 c.0.1 (mark_at puncts.RightParen r.0.0 ∷ r.0.1) = subst (λ z. Spells e.0.0 c.0.1 z)
      (eat_some _ e.0.1 r.0 r.1) i.spells in
      subst (GetsExpr types (suc d) 16 ts) (some_same _ _ r.2) (record {
        spells = (n.1, c.0.1, f.place, c.0.0, r.0.0, f.tokens, s, v);
        allowed = and_join _ _ f.plain (and_join _ _ g.allowed i.allowed);
        shallow = omega (arith, g.shallow, i.shallow);
        no_operator = none_so_tight 16 r.0.1 (omega arith);
      })

  paren_gets : (o : Pos × List Placed) (ts : List Placed) (x : Expr × List Placed)
      → ts ≡ mark_at puncts.LeftParen o.0 ∷ o.1 → paren_at types low o.0 o.1 ≡ Some x → GetsExpr types (suc d) 16 ts x
  unfolding paren_at
  paren_gets o ts x f h =
      let e = bind_some _ _ _ h in
      let c = bind_some _ _ _ e.2 in
      let i = sound.expr 0 o.1 e.0 e.1 (omega arith) in
      let s : Spells e.0.0 o.1 (mark_at puncts.RightParen c.0.0 ∷ c.0.1) = subst (λ z. Spells e.0.0 o.1 z)
      (eat_some _ e.0.1 c.0 c.1) i.spells in
      subst (GetsExpr types (suc d) 16 ts) (some_same _ _ c.2) (record {
        spells = (o.1, c.0.0, f, s);
        allowed
            = i.allowed;
        shallow = omega (arith, i.shallow);
        no_operator = none_so_tight 16 c.0.1 (omega arith);
      })

  text_gets : (ts : List Placed) (x : Expr × List Placed) → text_at types low ts ≡ Some x
      → GetsExpr types (suc d) 16 ts x
  unfolding text_at
  text_gets ts x h =
      let p = bind_some _ _ _ h in
      let g = unless_some _ _ _ p.2 in
      subst (GetsExpr types (suc d) 16 ts) (some_same _ _ g.1) (record {
        spells = (p.1, texts_sound ts);
        allowed
            = not_false _ g.0;
        shallow = omega arith;
        no_operator = none_so_tight 16 (texts ts).1 (omega arith);
      })

  primary_gets : (ts : List Placed) (x : Expr × List Placed) → primary types low ts ≡ Some x
      → GetsExpr types (suc d) 16 ts x
  unfolding primary
  primary_gets ts x h = elim (on_some_cases _ _ _ _ h) [
    | inl w ↦
        let l = eat_literal_some ts w.0 w.1 in
        subst (GetsExpr types (suc d) 16 ts) (some_same _ _ w.2) (record {
          spells = l.spells;
          allowed = l.allowed
              types;
          shallow = omega (arith, l.depth);
          no_operator = none_so_tight 16 w.0.1 (omega arith);
        })
    | inr n ↦ elim (on_some_cases _ _ _ _ n.1) [
      | inl w ↦ new_gets w.0 ts x (new_front_sound types ts w.0 w.1) w.2
      | inr n ↦ elim (on_some_cases _ _ _ _ n.1) [
        | inl w ↦
            let v = plain_word_sound types ts w.0 w.1 in
            subst (GetsExpr types (suc d) 16 ts) (some_same _ _ w.2) (record {
              spells = v.0;
              allowed = v.1;
              shallow
                  = omega arith;
              no_operator = none_so_tight 16 w.0.2 (omega arith);
            })
        | inr n ↦ elim (on_some_cases _ _ _ _ n.1) [
          | inl o ↦ paren_gets o.0 ts x (eat_some _ ts o.0 o.1) o.2
          | inr n ↦ text_gets ts x n.1
        ]
      ]
    ]
  ]

  call_gets : (p q : Pos) (f : Expr) (start ts : List Placed) (x : Expr × List Placed) → first_place start ≡ Some p
      → Spells f start (mark_at puncts.LeftParen q ∷ ts) → expr_at types 15 f ≡ true → expr_depth f ≤ d
      → call_at types low p f ts ≡ Some x → GetsExpr types (suc d) 15 start x
  unfolding call_at
  call_gets p q f start ts x place s ok deep h =
      let a = bind_some _ _ _ h in
      let g = args_get ts a.0 a.1 in
      subst (GetsExpr types (suc d) 15 start) (some_same _ _ a.2) (record {
        spells
            = (ts, q, g.spells.0, place, s, g.spells.1);
        allowed = and_join _ _ ok g.allowed;
        shallow = omega
            (arith, deep, g.shallow);
        no_operator = none_so_tight 15 a.0.1 (omega arith);
      })

  index_gets : (p : Pos) (f : Expr) (start ts : List Placed) (x : Expr × List Placed)
      → Spells f start (mark_at puncts.LeftBracket p ∷ ts) → expr_at types 15 f ≡ true → expr_depth f ≤ d
      → index_at types low f p ts ≡ Some x → GetsExpr types (suc d) 15 start x
  unfolding index_at
  index_gets p f start ts x s ok deep h =
      let i = bind_some _ _ _ h in
      let c = bind_some _ _ _ i.2 in
      let g = sound.expr 0 ts i.0 i.1 (omega arith) in
      let v : Spells i.0.0 ts (mark_at puncts.RightBracket c.0.0 ∷ c.0.1) = subst (λ z. Spells i.0.0 ts z)
      (eat_some _ i.0.1 c.0 c.1) g.spells in
      subst (GetsExpr types (suc d) 15 start) (some_same _ _ c.2) (record {
        spells = (ts, c.0.0, s, v);
        allowed
            = and_join _ _ ok g.allowed;
        shallow = omega (arith, deep, g.shallow);
        no_operator = none_so_tight 15 c.0.1
            (omega arith);
      })

  dot_gets : (p : Pos) (f : Expr) (start ts : List Placed) (x : Expr × List Placed)
      → Spells f start (mark_at puncts.Dot p ∷ ts) → expr_at types 15 f ≡ true → expr_depth f ≤ d
      → (plain_word types ts >>= λ w. Some (dot p f w.0, w.2)) ≡ Some x → GetsExpr types (suc d) 15 start x
  dot_gets p f start ts x s ok deep h =
      let w = bind_some _ _ _ h in
      let v = plain_word_sound types ts w.0 w.1 in
      subst (GetsExpr types (suc d) 15 start) (some_same _ _ w.2) (record {
        spells
            = (w.0.1, subst (λ z. Spells f start (mark_at puncts.Dot p ∷ z)) v.0 s);
        allowed = and_join _ _ ok v.1;
        shallow = omega (arith, deep);
        no_operator = none_so_tight 15 w.0.2 (omega arith);
      })

  arrow_gets : (p : Pos) (f : Expr) (start ts : List Placed) (x : Expr × List Placed)
      → Spells f start (mark_at puncts.Arrow p ∷ ts) → expr_at types 15 f ≡ true → expr_depth f ≤ d
      → (plain_word types ts >>= λ w. Some (arrow p f w.0, w.2)) ≡ Some x → GetsExpr types (suc d) 15 start x
  arrow_gets p f start ts x s ok deep h =
      let w = bind_some _ _ _ h in
      let v = plain_word_sound types ts w.0 w.1 in
      subst (GetsExpr types (suc d) 15 start) (some_same _ _ w.2) (record {
        spells
            = (w.0.1, subst (λ z. Spells f start (mark_at puncts.Arrow p ∷ z)) v.0 s);
        allowed = and_join _ _ ok v.1;
        shallow = omega (arith, deep);
        no_operator = none_so_tight 15 w.0.2 (omega arith);
      })

  -- one more token or list after what was read
  turn_gets : (p : Pos) (f : Expr) (start ts : List Placed) (r : Read Expr) (x : Expr × List Placed)
      → first_place start ≡ Some p → Spells f start ts → expr_at types 15 f ≡ true → expr_depth f ≤ d
      → postfix_turn types low p f ts ≡ Some r → r ≡ Some x → GetsExpr types (suc d) 15 start x
  unfolding postfix_turn
  turn_gets p f start ts r x place s ok deep h e = elim (on_some_cases _ _ _ _ h) [
    | inl o ↦ call_gets p o.0.0 f start o.0.1 x place (subst (λ z. Spells f start z) (eat_some _ ts o.0 o.1) s) ok
        deep (some_same _ _ o.2 ∙ e)
    | inr n ↦ elim (on_some_cases _ _ _ _ n.1) [
      | inl o ↦ index_gets o.0.0 f start o.0.1 x (subst (λ z. Spells f start z) (eat_some _ ts o.0 o.1) s) ok deep
          (some_same _ _ o.2 ∙ e)
      | inr n ↦ elim (on_some_cases _ _ _ _ n.1) [
        | inl o ↦ dot_gets o.0.0 f start o.0.1 x (subst (λ z. Spells f start z) (eat_some _ ts o.0 o.1) s) ok deep
            (some_same _ _ o.2 ∙ e)
        | inr n ↦ elim (on_some_cases _ _ _ _ n.1) [
          | inl o ↦ arrow_gets o.0.0 f start o.0.1 x (subst (λ z. Spells f start z) (eat_some _ ts o.0 o.1) s) ok
              deep (some_same _ _ o.2 ∙ e)
          | inr n ↦ elim (on_some_cases _ _ _ _ n.1) [
            | inl o ↦
                let m = eat_marked_some is_step ts o.0 o.1 in
                let y : Some (post o.0.1 o.0.0 f, o.0.2) ≡ Some x = some_same _ _ o.2 ∙ e in
                subst (GetsExpr types (suc d) 15 start) (some_same _ _ y) (record {
                  spells = subst
                      (λ z. Spells f start z) m.0 s;
                  allowed = and_join _ _ m.1 ok;
                  shallow = omega (arith, deep);
                  no_operator = none_so_tight 15 o.0.2 (omega arith);
                })
            | inr n ↦ absurd (cc)
          ]
        ]
      ]
    ]
  ]

  postfixes_get : (k : ℕ) (p : Pos) (f : Expr) (start ts : List Placed) (x : Expr × List Placed)
      → first_place start ≡ Some p → GetsExpr types (suc d) 15 start (f, ts)
      → postfixes types low (suc d) k p f ts ≡ Some x → GetsExpr types (suc d) 15 start x
  unfolding postfixes
  postfixes_get zero p f start ts x place g h = elim (on_some_cases _ _ _ _ h) [
    | inl w ↦ absurd (cc)
    | inr n ↦ subst (GetsExpr types (suc d) 15 start) (some_same _ _ n.1) g
  ]
  postfixes_get (suc k) p f start ts x place g h = elim (on_some_cases _ _ _ _ h) [
    | inl w ↦
        let t = when_some _ _ _ w.2 in
        let r = bind_some _ _ _ t.1 in
        let deep : expr_depth f ≤ d = omega (arith, lt_from _ _ t.0) in
        postfixes_get k p r.0.0 start r.0.1 x place (turn_gets p f start ts w.0 r.0 place g.spells g.allowed deep
        w.1 r.1) r.2
    | inr n ↦ subst (GetsExpr types (suc d) 15 start) (some_same _ _ n.1) g
  ]

  postfix_gets : (ts : List Placed) (x : Expr × List Placed) → postfix types low (suc d) ts ≡ Some x
      → GetsExpr types (suc d) 15 ts x
  unfolding postfix
  postfix_gets ts x h =
      let p = bind_some _ _ _ h in
      let e = bind_some _ _ _ p.2 in
      postfixes_get (suc d) p.0 e.0.0 ts e.0.1 x p.1 (loosen types (suc d) 15 16 ts e.0 (omega arith) (omega arith)
      (primary_gets ts e.0 e.1)) e.2

  sizeof_gets : (k : Pos × List Placed) (ts : List Placed) (x : Expr × List Placed)
      → ts ≡ key_at keys.Sizeof k.0 ∷ k.1 → sizeof_at types low (suc d) k.0 k.1 ≡ Some x
      → GetsExpr types (suc d) 14 ts x
  unfolding sizeof_at
  sizeof_gets k ts x f h = elim (on_some_cases _ _ _ _ h) [
    | inl w ↦
        let o = bind_some _ _ _ w.1 in
        let b = when_some _ _ _ o.2 in
        let inner : o.0.1 ≡ w.0 = some_same _ _ b.1 in
        let t = bind_some _ _ _ w.2 in
        let c = bind_some _ _ _ t.2 in
        let g = type_name_gets types d low sound w.0 t.0 t.1 in
        let s : SpellsTypeName t.0.0 w.0 (mark_at puncts.RightParen c.0.0 ∷ c.0.1) = subst
        (λ z. SpellsTypeName t.0.0 w.0 z) (eat_some _ t.0.1 c.0 c.1) g.spells in
        let e : ts ≡ key_at keys.Sizeof k.0 ∷ mark_at puncts.LeftParen o.0.0 ∷ w.0 = f
        ∙ ap (λ z. key_at keys.Sizeof k.0 ∷ z) (eat_some _ k.1 o.0 o.1
        ∙ ap (λ z. mark_at puncts.LeftParen o.0.0 ∷ z) inner) in
        subst (GetsExpr types (suc d) 14 ts) (some_same _ _ c.2) (record {
          spells = (w.0, o.0.0, c.0.0, e, s);
          allowed = g.allowed;
          shallow = omega (arith, g.shallow);
          no_operator = none_so_tight 14 c.0.1
              (omega arith);
        })
    | inr n ↦
        let e = bind_some _ _ _ n.1 in
        let g = sound.expr 14 k.1 e.0 e.1 (omega arith) in
        subst (GetsExpr types (suc d) 14 ts) (some_same _ _ e.2) (record {
          spells = (k.1, f, g.spells);
          allowed
              = g.allowed;
          shallow = omega (arith, g.shallow);
          no_operator = none_so_tight 14 e.0.1 (omega arith);
        })
  ]

  pub unary_gets : (ts : List Placed) (x : Expr × List Placed) → unary types low (suc d) ts ≡ Some x
      → GetsExpr types (suc d) 14 ts x
  unfolding unary
  unary_gets ts x h = elim (on_some_cases _ _ _ _ h) [
    | inl o ↦
        let e = bind_some _ _ _ o.2 in
        let p = eat_prefix_some ts o.0 o.1 in
        let g = sound.expr (prefix_mark_need o.0.0) o.0.2 e.0 e.1 p.1 in
        subst (GetsExpr types (suc d) 14 ts) (some_same _ _ e.2) (record {
          spells = (o.0.2, p.0, g.spells);
          allowed
              = g.allowed;
          shallow = omega (arith, g.shallow);
          no_operator = none_so_tight 14 e.0.1 (omega arith);
        })
    | inr n ↦ elim (on_some_cases _ _ _ _ n.1) [
      | inl k ↦ sizeof_gets k.0 ts x (eat_key_some _ ts k.0 k.1) k.2
      | inr n ↦ loosen types (suc d) 14 15 ts x (omega arith) (omega arith) (postfix_gets ts x n.1)
    ]
  ]

  pub casted_gets : (ts : List Placed) (x : Expr × List Placed) → casted types low (suc d) ts ≡ Some x
      → GetsExpr types (suc d) 13 ts x
  unfolding casted cast_front
  casted_gets ts x h = elim (on_some_cases _ _ _ _ h) [
    | inl w ↦
        let o = bind_some _ _ _ w.1 in
        let b = when_some _ _ _ o.2 in
        let front : ts ≡ mark_at puncts.LeftParen w.0.0 ∷ w.0.1 = subst (λ (z : Pos × List Placed). ts
        ≡ mark_at puncts.LeftParen z.0 ∷ z.1) (some_same _ _ b.1) (eat_some _ ts o.0 o.1) in
        let t = bind_some _ _ _ w.2 in
        let c = bind_some _ _ _ t.2 in
        let e = bind_some _ _ _ c.2 in
        let g = type_name_gets types d low sound w.0.1 t.0 t.1 in
        let i = sound.expr 13 c.0.1 e.0 e.1 (omega arith) in
        let s : SpellsTypeName t.0.0 w.0.1 (mark_at puncts.RightParen c.0.0 ∷ c.0.1) = subst
        (λ z. SpellsTypeName t.0.0 w.0.1 z) (eat_some _ t.0.1 c.0 c.1) g.spells in
        subst (GetsExpr types (suc d) 13 ts) (some_same _ _ e.2) (record {
          spells
              = (w.0.1, c.0.1, c.0.0, front, s, i.spells);
          allowed = and_join _ _ g.allowed i.allowed;
          shallow = omega
              (arith, g.shallow, i.shallow);
          no_operator = none_so_tight 13 e.0.1 (omega arith);
        })
    | inr n ↦ loosen types (suc d) 13 14 ts x (omega arith) (omega arith) (unary_gets ts x n.1)
  ]
