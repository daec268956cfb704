-- What is read as an item stands at the front of the tokens, is allowed, and is no deeper than it may be.
--   ReadsItem      what an item is to be
--   item_sound     what is read as an item is that
use Rattle.std.proofs.Common.{◌≡◌, ℕ, zero, suc, ◌≤◌, true, inl, inr, List, ◌∷◌, Some, refl, ◌∙◌, ap, subst, arith}
use Rattle.pungi_base.specs.declared.key.Key.{Key}
use Rattle.pungi_base.specs.declared.key.Key.TheVariants as keys
use Rattle.pungi_base.specs.declared.names.Name.{Name}
use Rattle.pungi_base.specs.declared.pos.Pos.{Pos}
use Rattle.pungi_base.specs.declared.punct.Punct.TheVariants as puncts
use Rattle.pungi_base.specs.Numbers.{py_doc_strvar}
use Rattle.pungi_parse.specs.tokens.OneToken.{eat}
use Rattle.pungi_parse.specs.Reading.{on_some}
use Rattle.pungi_parse.specs.Readers.{readers}
use Rattle.pungi_parse.specs.stmt.StmtReader.{stmt_at, block_at, element_at, read_stmt}
use Rattle.pungi_parse.specs.types.TypeReader.{keywords, stars, texts}
use Rattle.pungi_parse.specs.item.UnitReader.{deepest, doc_front, doc_at, typedef_at, head_front, function_rest}
use Rattle.pungi_parse.specs.item.UnitReader.{declared_at, declaration_at, item_at}
use Rattle.pungi_parse.proofs.stmt.DeclSound.{Reads, vars_sound}
use Rattle.pungi_parse.proofs.tokens.Eaten.{eat_some, eat_key_some, eat_word_some}
use Rattle.pungi_parse.proofs.stmt.StmtSound.{stmt_sound}
use Rattle.pungi_parse.proofs.Tools.{bind_some, on_some_cases, some_same, when_some, unless_some, eq_from, and_join}
use Rattle.pungi_parse.proofs.Tools.{not_false}
use Rattle.pungi_parse.proofs.expr.TypeExprTheorems.{spec_sound, params_sound}
use Rattle.pungi_parse.proofs.tokens.WordReadings.{keywords_sound, stars_sound, texts_sound, plain_word_sound}
use Rattle.pungi_tree.specs.ExprDepth.{spec_depth}
use Rattle.pungi_tree.specs.ExprLevels.{spec_ok}
use Rattle.pungi_tree.specs.ExprSpells.{SpellsKeys, SpellsSpec, SpellsStars, SpellsTexts}
use Rattle.pungi_tree.specs.Operators.{is_qualifier, all_keys}
use Rattle.pungi_tree.specs.Placed.{Placed, mark_at, key_at, word_at}
use Rattle.pungi_tree.specs.Syntax.{Spec, decl, Stmt, block, Head, head, Item, nothing, doc, typedef, tag, variables}
use Rattle.pungi_tree.specs.Syntax.{prototype, function_def}
use Rattle.pungi_tree.specs.Tokens.{named_word}
use Rattle.pungi_tree.specs.TypeWords.{is_word}
use Rattle.pungi_tree.specs.UnitDepth.{item_depth}
use Rattle.pungi_tree.specs.UnitLevels.{is_block, item_ok}
use Rattle.pungi_tree.specs.UnitSpells.{SpellsHead, SpellsItem}

abbrev pub ReadsItem : List Name → List Placed → Item × List Placed → Type 0
ReadsItem types ts x = Reads (SpellsItem x.0 ts x.1) (item_ok types x.0) (item_depth x.0) deepest

module _ (types : List Name) where
  -- `PyDoc_STRVAR` and its parenthesis
  abbrev Documented : List Placed → Pos × List Placed → Type 0
  Documented ts o = (q : Pos) × (ts ≡ word_at (named_word py_doc_strvar) q ∷ mark_at puncts.LeftParen o.0 ∷ o.1)
      × (is_word types (named_word py_doc_strvar) ≡ true)

  doc_front_sound : (ts : List Placed) (o : Pos × List Placed) → doc_front types ts ≡ Some o → Documented ts o
  unfolding doc_front
  doc_front_sound ts o h =
      let w = bind_some _ _ _ h in
      let g = when_some _ _ _ w.2 in
      let r = plain_word_sound types ts w.0 w.1 in
      let e : w.0.0.0 ≡ py_doc_strvar = eq_from _ _ g.0 in
      let named : w.0.0 ≡ named_word py_doc_strvar = ap (λ z. named_word z) e in (
        w.0.1,
        r.0 ∙ ap (λ z. word_at z w.0.1 ∷ w.0.2) named
            ∙ ap (λ z. word_at (named_word py_doc_strvar) w.0.1 ∷ z) (eat_some puncts.LeftParen w.0.2 o g.1),
        subst
            (λ z. is_word types z ≡ true) named r.1,
      )

  doc_sound : (ts : List Placed) (o : Pos × List Placed) (x : Item × List Placed) → doc_front types ts ≡ Some o
      → doc_at types o.1 ≡ Some x → ReadsItem types ts x
  unfolding doc_at
  doc_sound ts o x front h =
      let f = doc_front_sound ts o front in
      let w = bind_some _ _ _ h in
      let c = bind_some _ _ _ w.2 in
      let u = unless_some _ _ _ c.2 in
      let r = bind_some _ _ _ u.1 in
      let named = plain_word_sound types o.1 w.0 w.1 in
      let ns = texts c.0.1 in
      let at : ts ≡ word_at (named_word py_doc_strvar) f.0 ∷ mark_at puncts.LeftParen o.0 ∷ word_at w.0.0 w.0.1
      ∷ mark_at puncts.Comma c.0.0 ∷ c.0.1
      = f.1 ∙ ap (λ z. word_at (named_word py_doc_strvar) f.0 ∷ mark_at puncts.LeftParen o.0 ∷ z)
      (named.0 ∙ ap (λ z. word_at w.0.0 w.0.1 ∷ z) (eat_some puncts.Comma w.0.2 c.0 c.1)) in
      let s : SpellsItem (doc w.0.1 w.0.0 ns.0) ts r.0.1
      = (
        c.0.1,
        f.0,
        o.0,
        c.0.0,
        r.0.0,
        at,
        subst (λ z. SpellsTexts ns.0 c.0.1 z)
            (eat_some puncts.RightParen ns.1 r.0 r.1) (texts_sound c.0.1),
      ) in
      subst (ReadsItem types ts) (some_same (doc w.0.1 w.0.0 ns.0, r.0.1) x r.2)
      (record { spells = s; ok = and_join _ _ f.2 (and_join _ _ named.1 (not_false _ u.0)); shallow = omega arith })

  -- the stars, the name and the parenthesis of a function
  abbrev Headed : List Placed → List ℕ × Name × Pos × List Placed → Type 0
  Headed ts h = (q : Pos) × SpellsStars h.0 ts (word_at h.1 h.2 ∷ mark_at puncts.LeftParen q ∷ h.3)
      × (is_word types h.1 ≡ true)

  head_front_sound : (ts : List Placed) (h : List ℕ × Name × Pos × List Placed) → head_front types ts ≡ Some h
      → Headed ts h
  unfolding head_front
  head_front_sound ts h e =
      let p = stars ts in
      let w = bind_some _ _ _ e in
      let o = bind_some _ _ _ w.2 in
      let r = plain_word_sound types p.1 w.0 w.1 in
      let at : p.1 ≡ word_at w.0.0 w.0.1 ∷ mark_at puncts.LeftParen o.0.0 ∷ o.0.1 = r.0
      ∙ ap (λ z. word_at w.0.0 w.0.1 ∷ z) (eat_some puncts.LeftParen w.0.2 o.0 o.1) in
      subst (Headed ts) (some_same (p.0, w.0.0, w.0.1, o.0.1) h o.2) (
        o.0.0,
        subst (λ z. SpellsStars p.0 ts z) at
            (stars_sound ts),
        r.1,
      )

  module _ (n : ℕ) where
    is_block_at : (d : ℕ) (p : Pos) (ts : List Placed) (x : Stmt × List Placed)
        → block_at types (readers types n d) (read_stmt types n d) (element_at types n (read_stmt types n d) d) p ts
        ≡ Some x → is_block x.0 ≡ true
    unfolding block_at
    is_block_at d p ts x h =
        let ss = bind_some _ _ _ h in
        let c = bind_some _ _ _ ss.2 in
        subst (λ z. is_block z.0 ≡ true) (some_same (block p ss.0.0 c.0.0, c.0.1) x c.2) refl

    -- what begins with a brace is a block
    block_read : (d : ℕ) (ts : List Placed) (o : Pos × List Placed) (x : Stmt × List Placed)
        → eat puncts.LeftBrace ts ≡ Some o → read_stmt types n d ts ≡ Some x → is_block x.0 ≡ true
    unfolding read_stmt stmt_at on_some
    block_read zero ts o x front h = absurd (cc)
    block_read (suc d) ts o x front h = is_block_at d o.0 o.1 x (rw front at h)

    typedef_sound : (p : Pos) (ts inner : List Placed) (x : Item × List Placed) → ts ≡ key_at keys.Typedef p ∷ inner
        → typedef_at types (readers types n deepest) inner ≡ Some x → ReadsItem types ts x
    unfolding typedef_at
    typedef_sound p ts inner x front h =
        let b = bind_some _ _ _ h in
        let w = bind_some _ _ _ b.2 in
        let c = bind_some _ _ _ w.2 in
        let st = stars b.0.1 in
        let r = spec_sound types n deepest inner b.0 b.1 in
        let at : st.1 ≡ word_at w.0.0 w.0.1 ∷ mark_at puncts.Semicolon c.0.0 ∷ c.0.1 = eat_word_some st.1 w.0 w.1
        ∙ ap (λ z. word_at w.0.0 w.0.1 ∷ z) (eat_some puncts.Semicolon w.0.2 c.0 c.1) in
        let s : SpellsItem (typedef b.0.0 st.0 w.0.0 w.0.1) ts c.0.1 = (
          inner,
          b.0.1,
          p,
          c.0.0,
          front,
          r.spells,
          subst (λ z. SpellsStars st.0 b.0.1 z) at (stars_sound b.0.1),
        ) in
        subst (ReadsItem types ts) (some_same (typedef b.0.0 st.0 w.0.0 w.0.1, c.0.1) x c.2)
        (record { spells = s; ok = r.allowed; shallow = r.shallow })

    -- after qualifiers and a type
    record Typed (qs : List Key) (b : Spec) (ts pointers : List Placed) : Type 0 where
      pub after : List Placed
      pub keyed : SpellsKeys qs ts after
      pub qualified : all_keys is_qualifier qs ≡ true
      pub typed : SpellsSpec b after pointers
      pub allowed : spec_ok types b ≡ true
      pub shallow : spec_depth b ≤ deepest

    function_sound : (qs : List Key) (b : Spec) (ts pointers : List Placed) (h : List ℕ × Name × Pos × List Placed)
        (x : Item × List Placed) → Typed qs b ts pointers → Headed pointers h
        → function_rest types n qs b h.0 h.1 h.2 h.3 ≡ Some x → ReadsItem types ts x
    unfolding function_rest
    function_sound qs b ts pointers h x t f e =
        let ps = bind_some _ _ _ e in
        let r = params_sound types n deepest h.3 ps.0 ps.1 in
        let top : Head = head qs b h.0 h.1 h.2 ps.0.0 in
        let s : SpellsHead top ts ps.0.1 = (t.after, pointers, h.3, f.0, r.close, t.keyed, t.typed, f.1, r.spells) in
        elim (on_some_cases _ _ _ _ ps.2) [
          | inl c ↦
              let sp : SpellsItem (prototype top) ts c.0.1 = (
                c.0.0,
                subst (λ z. SpellsHead top ts z)
                    (eat_some puncts.Semicolon ps.0.1 c.0 c.1) s,
              ) in
              subst (ReadsItem types ts) (some_same (prototype top, c.0.1) x c.2)
              (record {
                spells = sp;
                ok = and_join _ _ t.qualified (and_join _ _ t.allowed
                    (and_join _ _ f.2 r.allowed));
                shallow = omega (arith, t.shallow, r.shallow);
              })
          | inr w ↦
              let o = bind_some _ _ _ w.1 in
              let body = bind_some _ _ _ o.2 in
              let rb = stmt_sound types n deepest ps.0.1 body.0 body.1 in
              let sp : SpellsItem (function_def top body.0.0) ts body.0.1 = (ps.0.1, s, rb.spells) in
              subst (ReadsItem types ts) (some_same (function_def top body.0.0, body.0.1) x body.2)
              (record {
                spells = sp;
                ok = and_join _ _ (and_join _ _ t.qualified (and_join _ _ t.allowed (and_join _ _ f.2 r.allowed)))
                    (and_join _ _ (block_read deepest ps.0.1 o.0 body.0 o.1 body.1) rb.ok);
                shallow = omega (arith, t.shallow, r.shallow, rb.shallow);
              })
        ]

    declared_sound : (qs : List Key) (b : Spec) (ts pointers : List Placed) (x : Item × List Placed)
        → Typed qs b ts pointers → declared_at types n qs b pointers ≡ Some x → ReadsItem types ts x
    unfolding declared_at
    declared_sound qs b ts pointers x t h = elim (on_some_cases _ _ _ _ h) [
      | inl c ↦
          let s : SpellsItem (tag qs b) ts c.0.1 = (
            t.after,
            c.0.0,
            t.keyed,
            subst (λ z. SpellsSpec b t.after z)
                (eat_some puncts.Semicolon pointers c.0 c.1) t.typed,
          ) in
          subst (ReadsItem types ts) (some_same (tag qs b, c.0.1) x c.2) (record
          { spells = s; ok = and_join _ _ t.qualified t.allowed; shallow = t.shallow })
      | inr a ↦ elim (on_some_cases _ _ _ _ a.1) [
        | inl f ↦ function_sound qs b ts pointers f.0 x t (head_front_sound pointers f.0 f.1) f.2
        | inr w ↦
            let vs = bind_some _ _ _ w.1 in
            let r = vars_sound types n deepest pointers vs.0 vs.1 in
            let s : SpellsItem (variables (decl qs b vs.0.0)) ts vs.0.1 = (
              t.after,
              pointers,
              r.spells.0,
              t.keyed,
              t.typed,
              r.spells.1,
            ) in
            subst (ReadsItem types ts) (some_same (variables (decl qs b vs.0.0), vs.0.1) x vs.2)
            (record {
              spells = s;
              ok = and_join _ _ t.qualified (and_join _ _ t.allowed r.ok);
              shallow = omega
                  (arith, t.shallow, r.shallow);
            })
      ]
    ]

    declaration_sound : (ts : List Placed) (x : Item × List Placed) → declaration_at types n ts ≡ Some x
        → ReadsItem types ts x
    unfolding declaration_at
    declaration_sound ts x h =
        let q = keywords is_qualifier ts in
        let rq = keywords_sound is_qualifier ts in
        let b = bind_some _ _ _ h in
        let r = spec_sound types n deepest q.1 b.0 b.1 in
        declared_sound q.0 b.0.0 ts b.0.1 x (record {
          after = q.1;
          keyed = rq.0;
          qualified = rq.1;
          typed = r.spells;
          allowed = r.allowed;
          shallow = r.shallow;
        }) b.2

    pub item_sound : (ts : List Placed) (x : Item × List Placed) → item_at types n ts ≡ Some x → ReadsItem types ts x
    unfolding item_at
    item_sound ts x h = elim (on_some_cases _ _ _ _ h) [
      | inl c ↦ subst (ReadsItem types ts) (some_same (nothing c.0.0, c.0.1) x c.2)
          (record { spells = eat_some puncts.Semicolon ts c.0 c.1; ok = refl; shallow = omega arith })
      | inr a ↦ elim (on_some_cases _ _ _ _ a.1) [
        | inl o ↦ doc_sound ts o.0 x o.1 o.2
        | inr b ↦ elim (on_some_cases _ _ _ _ b.1) [
          | inl k ↦ typedef_sound k.0.0 ts k.0.1 x (eat_key_some keys.Typedef ts k.0 k.1) k.2
          | inr w ↦ declaration_sound ts x w.1
        ]
      ]
    ]
