-- What is read as parameters stands at the front of the tokens.
--   .._gets           what the reader of the same name reads
use Rattle.std.proofs.Common.{◌≡◌, ℕ, zero, suc, Bool, true, false, ◌&&◌, inl, inr, List, ◌∷◌, length, Option, Some}
use Rattle.std.proofs.Common.{None, refl, ◌∙◌, ap, subst, arith}
use Rattle.std.specs.Prelude.{◌==◌}
use Rattle.pungi_base.specs.declared.names.Name.{Name}
use Rattle.pungi_base.specs.declared.pos.Pos.{Pos}
use Rattle.pungi_base.specs.declared.punct.Punct.TheVariants as puncts
use Rattle.pungi_base.specs.Numbers.{py_unused}
use Rattle.pungi_parse.specs.types.TypeReader.{Lower, keywords, stars, unused_front, param_rest, param_declr_at, param}
use Rattle.pungi_parse.specs.types.TypeReader.{dots_front, more_params, void_front, some_params, params_at}
use Rattle.pungi_parse.proofs.tokens.Eaten.{eat_some, eat_key_some}
use Rattle.pungi_parse.proofs.trees.LowSound.{GetsParamDeclr, GetsParamDecl, GetsMoreParams, GetsParams, LowSound}
use Rattle.pungi_parse.proofs.Tools.{bind_some, on_some_cases, when_some, some_same, and_join, and_false, not_false}
use Rattle.pungi_parse.proofs.Tools.{eq_from}
use Rattle.pungi_parse.proofs.types.TypeSound.{declr_rest_gets}
use Rattle.pungi_parse.proofs.types.Void.{lone_front}
use Rattle.pungi_parse.proofs.tokens.WordReadings.{keywords_sound, stars_sound, plain_word_sound}
use Rattle.pungi_tree.specs.ExprLevels.{is_void_param, is_lone_void, void_ok}
use Rattle.pungi_tree.specs.ExprSpells.{SpellsParamDecl, SpellsMoreParamDecls, SpellsDots, SpellsStars, SpellsParams}
use Rattle.pungi_tree.specs.Operators.{is_qualifier}
use Rattle.pungi_tree.specs.Placed.{Placed, mark_at, word_at}
use Rattle.pungi_tree.specs.Syntax.{Params, params, ParamDecl, ParamDecls, no_params, param_and, ParamDeclr}
use Rattle.pungi_tree.specs.Tokens.{named_word}
use Rattle.pungi_tree.specs.TypeWords.{is_word}

-- a word of a number is that word
pub is_named : (n : Name) (k : ℕ) → (n.0 == k) ≡ true → n ≡ named_word k
is_named n k h = ap named_word (eq_from n.0 k h)

-- `Py_UNUSED (`
pub record UnusedFront (types : List Name) (ts : List Placed) (u : Name × Pos × List Placed) : Type 0 where
  pub place : Pos
  pub tokens : ts ≡ word_at (named_word py_unused) place ∷ mark_at puncts.LeftParen u.1 ∷ u.2
  pub plain : is_word types (named_word py_unused) ≡ true

pub unused_front_sound : (types : List Name) (ts : List Placed) (u : Name × Pos × List Placed)
    → unused_front types ts ≡ Some u → UnusedFront types ts u
unfolding unused_front
unused_front_sound types ts u h =
    let w = bind_some _ _ _ h in
    let g = when_some _ _ _ w.2 in
    let o = bind_some _ _ _ g.1 in
    let v = plain_word_sound types ts w.0 w.1 in
    let e : w.0.0 ≡ named_word py_unused = is_named w.0.0 py_unused g.0 in
    let t : ts ≡ word_at (named_word py_unused) w.0.1 ∷ mark_at puncts.LeftParen o.0.0 ∷ o.0.1 = v.0
    ∙ ap (λ z. word_at z w.0.1 ∷ w.0.2) e ∙ ap (λ z. word_at (named_word py_unused) w.0.1 ∷ z)
    (eat_some _ w.0.2 o.0 o.1) in
    subst (UnusedFront types ts) (some_same _ _ o.2) (record {
      place = w.0.1;
      tokens = t;
      plain = subst
          (λ z. is_word types z ≡ true) e v.1;
    })

not_lone : (d : ParamDecl) (ds : ParamDecls) (q : Pos) (ts between after rest : List Placed) → void_front ts ≡ None
    → SpellsParamDecl d ts between → SpellsMoreParamDecls ds between after
    → after ≡ mark_at puncts.RightParen q ∷ rest → is_lone_void (param_and d ds) ≡ false
not_lone d no_params q ts between after rest h s m e = by (is_void_param d) refl
  where
    by : (b : Bool) → is_void_param d ≡ b → (b && true) ≡ false
    by false v = refl
    by true v =
        let f : void_front ts ≡ Some (q, rest) = lone_front d q ts rest v (subst (λ z. SpellsParamDecl d ts z)
        (m ∙ e) s) in
        absurd (cc)
not_lone d (param_and c ds) q ts between after rest h s m e = and_false (is_void_param d)

module _ (types : List Name) (d : ℕ) (low : Lower) (sound : LowSound types d low) where
  param_rest_gets : (ss : List ℕ) (start ts : List Placed) (x : ParamDeclr × List Placed) → SpellsStars ss start ts
      → param_rest types low ss ts ≡ Some x → GetsParamDeclr types d start x
  unfolding param_rest
  param_rest_gets ss start ts x before h = elim (on_some_cases _ _ _ _ h) [
    | inl u ↦
        let w = bind_some _ _ _ u.2 in
        let c = bind_some _ _ _ w.2 in
        let f = unused_front_sound types ts u.0 u.1 in
        let v = plain_word_sound types u.0.2 w.0 w.1 in
        let e : ts ≡ word_at (named_word py_unused) f.place ∷ mark_at puncts.LeftParen u.0.1 ∷ word_at w.0.0 w.0.1
        ∷ mark_at puncts.RightParen c.0.0 ∷ c.0.1
        = f.tokens ∙ ap (λ z. word_at (named_word py_unused) f.place ∷ mark_at puncts.LeftParen u.0.1 ∷ z)
        (v.0 ∙ ap (λ z. word_at w.0.0 w.0.1 ∷ z) (eat_some _ w.0.2 c.0 c.1)) in
        subst (GetsParamDeclr types d start) (some_same _ _ c.2) (record {
          spells = (f.place, u.0.1, c.0.0, subst (λ z. SpellsStars ss start z) e before);
          allowed = and_join _ _ f.plain v.1;
          shallow = omega arith;
        })
    | inr n ↦
        let c = bind_some _ _ _ n.1 in
        let g = declr_rest_gets types d low sound ss start ts c.0 before c.1 in
        subst (GetsParamDeclr types d start) (some_same _ _ c.2) (record {
          spells = g.spells;
          allowed = g.allowed;
          shallow = g.shallow;
        })
  ]

  param_declr_gets : (ts : List Placed) (x : ParamDeclr × List Placed) → param_declr_at types low ts ≡ Some x
      → GetsParamDeclr types d ts x
  unfolding param_declr_at
  param_declr_gets ts x h = elim (on_some_cases _ _ _ _ h) [
    | inl b ↦
        let g = when_some _ _ _ b.1 in
        let e : (stars ts).1 ≡ b.0 = some_same _ _ g.1 in
        param_rest_gets (stars ts).0 ts b.0 x (subst (λ z. SpellsStars (stars ts).0 ts z) e (stars_sound ts)) b.2
    | inr n ↦ subst (GetsParamDeclr types d ts) (some_same _ _ n.1) (record
        { spells = stars_sound ts; allowed = refl; shallow = omega arith })
  ]

  param_gets : (ts : List Placed) (x : ParamDecl × List Placed) → param types low ts ≡ Some x
      → GetsParamDecl types d ts x
  unfolding param
  param_gets ts x h =
      let q = keywords_sound is_qualifier ts in
      let s = bind_some _ _ _ h in
      let c = bind_some _ _ _ s.2 in
      let r = sound.spec (keywords is_qualifier ts).1 s.0 s.1 in
      let g = param_declr_gets s.0.1 c.0 c.1 in
      subst (GetsParamDecl types d ts) (some_same _ _ c.2) (record {
        spells = ((keywords is_qualifier ts).1, s.0.1, q.0, r.spells, g.spells);
        allowed = and_join _ _ q.1 (and_join _ _ r.allowed g.allowed);
        shallow = omega (arith, r.shallow, g.shallow);
      })

  more_params_get : (k : ℕ) (ts : List Placed) (x : (ParamDecls × Option Pos) × List Placed)
      → more_params types low k ts ≡ Some x → GetsMoreParams types d ts x
  unfolding more_params dots_front
  more_params_get zero ts x h = absurd (cc)
  more_params_get (suc k) ts x h = elim (on_some_cases _ _ _ _ h) [
    | inl w ↦
        let c = bind_some _ _ _ w.1 in
        let s : SpellsDots (Some w.0.0) ts w.0.1 = (
          c.0.0,
          eat_some _ ts c.0 c.1
              ∙ ap (λ z. mark_at puncts.Comma c.0.0 ∷ z) (eat_some _ c.0.1 w.0 c.2),
        ) in
        subst (GetsMoreParams types d ts) (some_same _ _ w.2) (record {
          spells = (ts, refl, s);
          allowed = refl;
          shallow = omega arith;
        })
    | inr n ↦ elim (on_some_cases _ _ _ _ n.1) [
      | inl c ↦
          let p = bind_some _ _ _ c.2 in
          let m = bind_some _ _ _ p.2 in
          let r = param_gets c.0.1 p.0 p.1 in
          let g = more_params_get k p.0.1 m.0 m.1 in
          subst (GetsMoreParams types d ts) (some_same _ _ m.2) (record {
            spells = (g.spells.0, (c.0.1, p.0.1, c.0.0, eat_some _ ts c.0 c.1, r.spells, g.spells.1), g.spells.2);
            allowed = and_join _ _ r.allowed g.allowed;
            shallow = omega (arith, r.shallow, g.shallow);
          })
      | inr m ↦ subst (GetsMoreParams types d ts) (some_same _ _ m.1) (record
          { spells = (ts, refl, refl); allowed = refl; shallow = omega arith })
    ]
  ]

  void_allowed : (c : ParamDecl) (ds : ParamDecls) (dots : Option Pos) (q : Pos)
      (ts between after rest : List Placed) → void_front ts ≡ None → SpellsParamDecl c ts between
      → SpellsMoreParamDecls ds between after → SpellsDots dots after (mark_at puncts.RightParen q ∷ rest)
      → void_ok false (param_and c ds) dots ≡ true
  void_allowed c ds None q ts between after rest h s m e = not_false _ (not_lone c ds q ts between after rest h s m e)
  void_allowed c ds (Some p) q ts between after rest h s m e = refl

  some_params_get : (ts : List Placed) (x : Params × List Placed) → void_front ts ≡ None
      → some_params types low ts ≡ Some x → GetsParams types d ts x
  unfolding some_params
  some_params_get ts x none h =
      let p = bind_some _ _ _ h in
      let m = bind_some _ _ _ p.2 in
      let c = bind_some _ _ _ m.2 in
      let r = param_gets ts p.0 p.1 in
      let g = more_params_get (suc (length p.0.1)) p.0.1 m.0 m.1 in
      let e : SpellsDots m.0.0.1 g.spells.0 (mark_at puncts.RightParen c.0.0 ∷ c.0.1) = subst
      (λ z. SpellsDots m.0.0.1 g.spells.0 z) (eat_some _ m.0.1 c.0 c.1) g.spells.2 in
      subst (GetsParams types d ts) (some_same _ _ c.2) (record {
        spells = (c.0.0, (ts, g.spells.0, refl, (p.0.1, r.spells, g.spells.1), e));
        allowed = and_join _ _ (void_allowed p.0.0 m.0.0.0 m.0.0.1 c.0.0 ts p.0.1 g.spells.0 c.0.1 none r.spells
            g.spells.1 e) (and_join _ _ r.allowed g.allowed);
        shallow = omega (arith, r.shallow, g.shallow);
      })

  pub params_get : (ts : List Placed) (x : Params × List Placed) → params_at types low ts ≡ Some x
      → GetsParams types d ts x
  unfolding params_at void_front
  params_get ts x h = elim (on_some_cases _ _ _ _ h) [
    | inl c ↦ subst (GetsParams types d ts) (some_same _ _ c.2) (record {
      spells
          = (c.0.0, (ts, ts, refl, refl, eat_some _ ts c.0 c.1));
      allowed = refl;
      shallow = omega arith;
    })
    | inr n ↦ elim (on_some_cases _ _ _ _ n.1) [
      | inl v ↦
          let k = bind_some _ _ _ v.1 in
          let s : SpellsParams (params no_params true None) ts (mark_at puncts.RightParen v.0.0 ∷ v.0.1)
          = (k.0.1, k.0.1, (k.0.0, eat_key_some _ ts k.0 k.1), refl, eat_some _ k.0.1 v.0 k.2) in
          subst (GetsParams types d ts) (some_same _ _ v.2) (record {
            spells = (v.0.0, s);
            allowed = refl;
            shallow
                = omega arith;
          })
      | inr m ↦ some_params_get ts x m.0 m.1
    ]
  ]
