-- What is read as a type, a declarator or parameters stands at the front of the tokens.
--   .._gets           what the reader of the same name reads
use Rattle.std.proofs.Common.{◌≡◌, ℕ, zero, suc, Bool, true, false, inl, inr, List, ◌∷◌, length, Option, Some, None}
use Rattle.std.proofs.Common.{refl, ◌∙◌, ap, subst, arith}
use Rattle.pungi_base.specs.declared.key.Key.{Key}
use Rattle.pungi_base.specs.declared.names.Name.{Name}
use Rattle.pungi_base.specs.declared.pos.Pos.{Pos}
use Rattle.pungi_base.specs.declared.punct.Punct.TheVariants as puncts
use Rattle.pungi_parse.specs.tokens.OneToken.{eat_word}
use Rattle.pungi_parse.specs.Reading.{◌>>=◌, chain, when}
use Rattle.pungi_parse.specs.types.TypeReader.{Lower, keywords, stars, type_word, sizes_in, sizes_at, function_rest}
use Rattle.pungi_parse.specs.types.TypeReader.{declr_rest, declr_at, more_declrs, declrs, field, fields, fields_at}
use Rattle.pungi_parse.specs.types.TypeReader.{aggregate, base_at, spec_at, type_name_at}
use Rattle.pungi_parse.proofs.tokens.Eaten.{eat_some, eat_word_some, eat_listed_some}
use Rattle.pungi_parse.proofs.trees.LowSound.{GetsTypeName, GetsSpec, GetsBase, GetsField, GetsFields, GetsDeclr}
use Rattle.pungi_parse.proofs.trees.LowSound.{GetsDeclrs, GetsMoreDeclrs, GetsSizes, LowSound}
use Rattle.pungi_parse.proofs.Tools.{bind_some, on_some_cases, some_same, and_join, not_false}
use Rattle.pungi_parse.proofs.tokens.WordReadings.{keywords_sound, consts_sound, stars_sound, plain_word_sound}
use Rattle.pungi_parse.proofs.tokens.WordReadings.{type_word_sound}
use Rattle.pungi_tree.specs.ExprLevels.{tag_ok}
use Rattle.pungi_tree.specs.ExprSpells.{Spells, SpellsTag, SpellsFields, SpellsDeclrs, SpellsStars}
use Rattle.pungi_tree.specs.Operators.{is_base_word, is_qualifier, is_aggregate}
use Rattle.pungi_tree.specs.Placed.{Placed, mark_at, key_at, word_at}
use Rattle.pungi_tree.specs.Syntax.{TypeName, Spec, Base, Field, Fields, Declr, Declrs, Sizes}
use Rattle.pungi_tree.specs.TypeWords.{is_type, is_word}

none_when : (b : Bool) (w : Name × Pos × List Placed)
    → (Some w >>= λ (v : Name × Pos × List Placed). when b (Some v)) ≡ None → b ≡ false
unfolding chain when
none_when true w h = absurd (cc)
none_when false w h = refl

-- a word that is no type word
other_word : (types : List Name) (ts : List Placed) (w : Name × Pos × List Placed) → type_word types ts ≡ None
    → eat_word ts ≡ Some w → is_word types w.0 ≡ true
unfolding type_word chain
other_word types ts w h e =
    not_false _ (none_when (is_type types w.0) w (subst (λ (o : Option (Name × Pos × List Placed)).
    (o >>= λ (v : Name × Pos × List Placed). when (is_type types v.0) (Some v)) ≡ None) e h))

module _ (types : List Name) (d : ℕ) (low : Lower) (sound : LowSound types d low) where
  pub type_name_gets : (ts : List Placed) (x : TypeName × List Placed) → type_name_at low ts ≡ Some x
      → GetsTypeName types d ts x
  unfolding type_name_at
  type_name_gets ts x h =
      let s = bind_some _ _ _ h in
      let g = sound.spec ts s.0 s.1 in
      subst (GetsTypeName types d ts) (some_same _ _ s.2) (record {
        spells = (s.0.1, g.spells, stars_sound s.0.1);
        allowed = g.allowed;
        shallow = g.shallow;
      })

  sizes_gets : (k : ℕ) (ts : List Placed) (x : Sizes × List Placed) → sizes_in types low k ts ≡ Some x
      → GetsSizes types d ts x
  unfolding sizes_in
  sizes_gets zero ts x h = absurd (cc)
  sizes_gets (suc k) ts x h = elim (on_some_cases _ _ _ _ h) [
    | inl o ↦ elim (on_some_cases _ _ _ _ o.2) [
      | inl c ↦
          let m = bind_some _ _ _ c.2 in
          let g = sizes_gets k c.0.1 m.0 m.1 in
          let s : ts ≡ mark_at puncts.LeftBracket o.0.0 ∷ mark_at puncts.RightBracket c.0.0
          ∷ c.0.1 = eat_some _ ts o.0 o.1 ∙ ap (λ z. mark_at puncts.LeftBracket o.0.0 ∷ z)
          (eat_some _ o.0.1 c.0 c.1) in
          subst (GetsSizes types d ts) (some_same _ _ m.2) (record {
            spells = (c.0.1, o.0.0, c.0.0, s, g.spells);
            allowed = g.allowed;
            shallow = g.shallow;
          })
      | inr n ↦
          let e = bind_some _ _ _ n.1 in
          let c = bind_some _ _ _ e.2 in
          let m = bind_some _ _ _ c.2 in
          let r = sound.expr 0 o.0.1 e.0 e.1 (omega arith) in
          let g = sizes_gets k c.0.1 m.0 m.1 in
          let i : Spells e.0.0 o.0.1 (mark_at puncts.RightBracket c.0.0 ∷ c.0.1) = subst (λ z. Spells e.0.0 o.0.1 z)
          (eat_some _ e.0.1 c.0 c.1) r.spells in
          subst (GetsSizes types d ts) (some_same _ _ m.2) (record {
            spells = (
              o.0.1,
              c.0.1,
              o.0.0,
              c.0.0,
              eat_some
                  _ ts o.0 o.1,
              i,
              g.spells,
            );
            allowed = and_join _ _ r.allowed g.allowed;
            shallow = omega
                (arith, r.shallow, g.shallow);
          })
    ]
    | inr n ↦ subst (GetsSizes types d ts) (some_same _ _ n.1) (record {
      spells = refl;
      allowed = refl;
      shallow
          = omega arith;
    })
  ]

  function_gets : (ss : List ℕ) (start ts : List Placed) (x : Declr × List Placed) → SpellsStars ss start ts
      → function_rest types low ss ts ≡ Some x → GetsDeclr types d start x
  unfolding function_rest
  function_gets ss start ts x before h =
      let o = bind_some _ _ _ h in
      let s = bind_some _ _ _ o.2 in
      let w = bind_some _ _ _ s.2 in
      let c = bind_some _ _ _ w.2 in
      let i = bind_some _ _ _ c.2 in
      let ps = bind_some _ _ _ i.2 in
      let v = plain_word_sound types s.0.1 w.0 w.1 in
      let g = sound.params i.0.1 ps.0 ps.1 in
      let e : ts ≡ mark_at puncts.LeftParen o.0.0 ∷ mark_at puncts.Star s.0.0 ∷ word_at w.0.0 w.0.1
      ∷ mark_at puncts.RightParen c.0.0 ∷ mark_at puncts.LeftParen i.0.0 ∷ i.0.1
      = eat_some _ ts o.0 o.1 ∙ ap (λ z. mark_at puncts.LeftParen o.0.0 ∷ z)
      (eat_some _ o.0.1 s.0 s.1 ∙ ap (λ z. mark_at puncts.Star s.0.0 ∷ z) (v.0
      ∙ ap (λ z. word_at w.0.0 w.0.1 ∷ z) (eat_some _ w.0.2 c.0 c.1
      ∙ ap (λ z. mark_at puncts.RightParen c.0.0 ∷ z) (eat_some _ c.0.1 i.0 i.1)))) in
      subst (GetsDeclr types d start) (some_same _ _ ps.2) (record {
        spells = (ts, before, (i.0.1, o.0.0, s.0.0, c.0.0, i.0.0, g.spells.0, e, g.spells.1));
        allowed = and_join _ _ v.1 g.allowed;
        shallow = g.shallow;
      })

  pub declr_rest_gets : (ss : List ℕ) (start ts : List Placed) (x : Declr × List Placed) → SpellsStars ss start ts
      → declr_rest types low ss ts ≡ Some x → GetsDeclr types d start x
  unfolding declr_rest sizes_at
  declr_rest_gets ss start ts x before h = elim (on_some_cases _ _ _ _ h) [
    | inl w ↦
        let n = bind_some _ _ _ w.2 in
        let v = plain_word_sound types ts w.0 w.1 in
        let g = sizes_gets (suc (length w.0.2)) w.0.2 n.0 n.1 in
        subst (GetsDeclr types d start) (some_same _ _ n.2) (record {
          spells = (ts, before, (w.0.2, v.0, g.spells));
          allowed = and_join _ _ v.1 g.allowed;
          shallow = g.shallow;
        })
    | inr n ↦ function_gets ss start ts x before n.1
  ]

  pub declr_gets : (ts : List Placed) (x : Declr × List Placed) → declr_at types low ts ≡ Some x
      → GetsDeclr types d ts x
  unfolding declr_at
  declr_gets ts x h = declr_rest_gets (stars ts).0 ts (stars ts).1 x (stars_sound ts) h

  more_declrs_get : (k : ℕ) (ts : List Placed) (x : Declrs × List Placed) → more_declrs types low k ts ≡ Some x
      → GetsMoreDeclrs types d ts x
  unfolding more_declrs
  more_declrs_get zero ts x h = absurd (cc)
  more_declrs_get (suc k) ts x h = elim (on_some_cases _ _ _ _ h) [
    | inl c ↦
        let e = bind_some _ _ _ c.2 in
        let m = bind_some _ _ _ e.2 in
        let r = declr_gets c.0.1 e.0 e.1 in
        let g = more_declrs_get k e.0.1 m.0 m.1 in
        subst (GetsMoreDeclrs types d ts) (some_same _ _ m.2) (record {
          spells
              = (c.0.1, e.0.1, c.0.0, eat_some _ ts c.0 c.1, r.spells, g.spells);
          allowed = and_join _ _ r.allowed
              g.allowed;
          shallow = omega (arith, r.shallow, g.shallow);
        })
    | inr n ↦ subst (GetsMoreDeclrs types d ts) (some_same _ _ n.1) (record
        { spells = refl; allowed = refl; shallow = omega arith })
  ]

  declrs_get : (ts : List Placed) (x : Declrs × List Placed) → declrs types low ts ≡ Some x → GetsDeclrs types d ts x
  unfolding declrs
  declrs_get ts x h =
      let e = bind_some _ _ _ h in
      let m = bind_some _ _ _ e.2 in
      let r = declr_gets ts e.0 e.1 in
      let g = more_declrs_get (suc (length e.0.1)) e.0.1 m.0 m.1 in
      subst (GetsDeclrs types d ts) (some_same _ _ m.2) (record {
        spells = (e.0.1, r.spells, g.spells);
        allowed
            = and_join _ _ r.allowed g.allowed;
        shallow = omega (arith, r.shallow, g.shallow);
      })

  field_gets : (ts : List Placed) (x : Field × List Placed) → field types low ts ≡ Some x → GetsField types d ts x
  unfolding field
  field_gets ts x h = elim (on_some_cases _ _ _ _ h) [
    | inl c ↦ subst (GetsField types d ts) (some_same _ _ c.2) (record {
      spells = (c.0.0, eat_some _ ts c.0 c.1);
      allowed = refl;
      shallow = omega arith;
    })
    | inr n ↦
        let q = keywords_sound is_qualifier ts in
        let s = bind_some _ _ _ n.1 in
        let e = bind_some _ _ _ s.2 in
        let c = bind_some _ _ _ e.2 in
        let r = sound.spec (keywords is_qualifier ts).1 s.0 s.1 in
        let g = declrs_get s.0.1 e.0 e.1 in
        let i : SpellsDeclrs e.0.0 s.0.1 (mark_at puncts.Semicolon c.0.0 ∷ c.0.1) = subst
        (λ z. SpellsDeclrs e.0.0 s.0.1 z) (eat_some _ e.0.1 c.0 c.1) g.spells in
        subst (GetsField types d ts) (some_same _ _ c.2) (record {
          spells = ((keywords is_qualifier ts).1, s.0.1, c.0.0, q.0, r.spells, i);
          allowed = and_join _ _ q.1 (and_join _ _ r.allowed g.allowed);
          shallow = omega (arith, r.shallow, g.shallow);
        })
  ]

  fields_get : (k : ℕ) (ts : List Placed) (x : Fields × List Placed) → fields types low k ts ≡ Some x
      → GetsFields types d ts x
  unfolding fields
  fields_get zero ts x h = absurd (cc)
  fields_get (suc k) ts x h = elim (on_some_cases _ _ _ _ h) [
    | inl c ↦ subst (GetsFields types d ts) (some_same _ _ c.2) (record {
      spells = refl;
      allowed = refl;
      shallow
          = omega arith;
    })
    | inr n ↦
        let f = bind_some _ _ _ n.1 in
        let m = bind_some _ _ _ f.2 in
        let r = field_gets ts f.0 f.1 in
        let g = fields_get k f.0.1 m.0 m.1 in
        subst (GetsFields types d ts) (some_same _ _ m.2) (record {
          spells = (f.0.1, r.spells, g.spells);
          allowed
              = and_join _ _ r.allowed g.allowed;
          shallow = omega (arith, r.shallow, g.shallow);
        })
  ]

  -- the fields after the brace of an aggregate whose keyword and tag stand before it
  fields_at_get : (of : Key) (tag : Option (Name × Pos)) (q r : Pos) (start after ts : List Placed)
      (x : Base × List Placed) → is_aggregate of ≡ true → tag_ok types tag ≡ true → start ≡ key_at of q ∷ after
      → SpellsTag tag after (mark_at puncts.LeftBrace r ∷ ts) → fields_at types low of tag ts ≡ Some x
      → GetsBase types d start x
  unfolding fields_at
  fields_at_get of tag q r start after ts x ok fine e t h =
      let f = bind_some _ _ _ h in
      let c = bind_some _ _ _ f.2 in
      let g = fields_get (suc (length ts)) ts f.0 f.1 in
      let i : SpellsFields f.0.0 ts (mark_at puncts.RightBrace c.0.0 ∷ c.0.1) = subst (λ z. SpellsFields f.0.0 ts z)
      (eat_some _ f.0.1 c.0 c.1) g.spells in
      subst (GetsBase types d start) (some_same _ _ c.2) (record {
        spells = (after, ts, q, r, c.0.0, e, t, i);
        allowed = and_join _ _ ok (and_join _ _ fine g.allowed);
        shallow = g.shallow;
      })

  aggregate_gets : (of : Key) (q : Pos) (start ts : List Placed) (x : Base × List Placed) → is_aggregate of ≡ true
      → start ≡ key_at of q ∷ ts → aggregate types low of ts ≡ Some x → GetsBase types d start x
  unfolding aggregate
  aggregate_gets of q start ts x ok e h = elim (on_some_cases _ _ _ _ h) [
    | inl w ↦
        let v = type_word_sound types ts w.0 w.1 in
        subst (GetsBase types d start) (some_same _ _ w.2) (record {
          spells = (ts, q, e, v.0);
          allowed = and_join _
              _ ok refl;
          shallow = omega arith;
        })
    | inr n ↦ elim (on_some_cases _ _ _ _ n.1) [
      | inl w ↦
          let v : ts ≡ word_at w.0.0 w.0.1 ∷ w.0.2 = eat_word_some ts w.0 w.1 in
          elim (on_some_cases _ _ _ _ w.2) [
            | inl o ↦
                let t : SpellsTag (Some (w.0.0, w.0.1)) ts (mark_at puncts.LeftBrace o.0.0 ∷ o.0.1) = v
                ∙ ap (λ z. word_at w.0.0 w.0.1 ∷ z) (eat_some _ w.0.2 o.0 o.1) in
                fields_at_get of (Some (w.0.0, w.0.1)) q o.0.0 start ts o.0.1 x ok (other_word types ts w.0 n.0 w.1)
                e t o.2
            | inr m ↦ subst (GetsBase types d start) (some_same _ _ m.1) (record {
              spells = (ts, q, e, v);
              allowed
                  = and_join _ _ ok refl;
              shallow = omega arith;
            })
          ]
      | inr m ↦
          let o = bind_some _ _ _ m.1 in
          fields_at_get of None q o.0.0 start ts o.0.1 x ok refl e (eat_some _ ts o.0 o.1) o.2
    ]
  ]

  base_gets : (ts : List Placed) (x : Base × List Placed) → base_at types low ts ≡ Some x → GetsBase types d ts x
  unfolding base_at
  base_gets ts x h = elim (on_some_cases _ _ _ _ h) [
    | inl k ↦
        let e = eat_listed_some is_base_word ts k.0 k.1 in
        let m = keywords_sound is_base_word k.0.2 in
        subst (GetsBase types d ts) (some_same _ _ k.2) (record {
          spells = (k.0.2, k.0.1, e.0, m.0);
          allowed
              = and_join _ _ e.1 m.1;
          shallow = omega arith;
        })
    | inr n ↦ elim (on_some_cases _ _ _ _ n.1) [
      | inl k ↦
          let e = eat_listed_some is_aggregate ts k.0 k.1 in
          aggregate_gets k.0.0 k.0.1 ts k.0.2 x e.1 e.0 k.2
      | inr m ↦
          let w = bind_some _ _ _ m.1 in
          let v = type_word_sound types ts w.0 w.1 in
          subst (GetsBase types d ts) (some_same _ _ w.2) (record {
            spells = (w.0.1, v.0);
            allowed = v.1;
            shallow
                = omega arith;
          })
    ]
  ]

  pub spec_gets : (ts : List Placed) (x : Spec × List Placed) → spec_at types low ts ≡ Some x → GetsSpec types d ts x
  unfolding spec_at
  spec_gets ts x h =
      let p = bind_some _ _ _ h in
      let b = bind_some _ _ _ p.2 in
      let g = base_gets ts b.0 b.1 in
      subst (GetsSpec types d ts) (some_same _ _ b.2) (record {
        spells = (b.0.1, p.1, g.spells, consts_sound b.0.1);
        allowed = g.allowed;
        shallow = g.shallow;
      })
