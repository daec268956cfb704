-- What is read as a statement, or as what stands in a block, stands at the front of the tokens, is allowed, and is no
-- deeper than it may be.
--   ReadsStmt, ReadsElement, ReadsStmts    what a statement, what stands in a block, and all of a block are to be; no
--                                          `else` stands after an open `if`
--   stmt_sound, element_sound    what is read is that
use Rattle.std.proofs.Common.{◌≡◌, ℕ, zero, suc, ◌≤◌, Bool, true, false, inl, inr, List, ◌∷◌, length, Option, Some}
use Rattle.std.proofs.Common.{None, refl, sym, ◌∙◌, ap, subst, arith}
use Rattle.std.specs.Prelude.{not}
use Rattle.pungi_base.specs.declared.key.Key.TheVariants as keys
use Rattle.pungi_base.specs.declared.names.Name.{Name}
use Rattle.pungi_base.specs.declared.pos.Pos.{Pos}
use Rattle.pungi_base.specs.declared.punct.Punct.TheVariants as puncts
use Rattle.pungi_parse.specs.tokens.OneToken.{eat_key}
use Rattle.pungi_parse.specs.Reading.{Read}
use Rattle.pungi_parse.specs.Readers.{readers}
use Rattle.pungi_parse.specs.stmt.StmtReader.{declare_at, expression_at, label_front, goto_at, return_at, stmts_in}
use Rattle.pungi_parse.specs.stmt.StmtReader.{block_at, if_at, while_at, do_at, for_at, switch_at, case_at, default_at}
use Rattle.pungi_parse.specs.stmt.StmtReader.{label_at, jump_or_expression, label_or_jump, stmt_at, element_at}
use Rattle.pungi_parse.specs.stmt.StmtReader.{read_stmt, read_element}
use Rattle.pungi_parse.proofs.stmt.DeclSound.{Reads, decl_sound, optional_sound, condition_sound, start_sound}
use Rattle.pungi_parse.proofs.tokens.Eaten.{eat_some, eat_key_some}
use Rattle.pungi_parse.proofs.Tools.{bind_some, on_some_cases, some_same, when_some, and_join}
use Rattle.pungi_parse.proofs.expr.TypeExprTheorems.{expr_sound}
use Rattle.pungi_parse.proofs.tokens.WordReadings.{plain_word_sound}
use Rattle.pungi_tree.specs.ExprSpells.{Spells}
use Rattle.pungi_tree.specs.Placed.{Placed, mark_at, key_at, word_at}
use Rattle.pungi_tree.specs.StmtDepth.{stmt_depth, stmts_depth}
use Rattle.pungi_tree.specs.StmtLevels.{open_if, is_statement, stmt_ok, stmts_ok}
use Rattle.pungi_tree.specs.StmtSpells.{SpellsCondition, SpellsStmt, SpellsStmts}
use Rattle.pungi_tree.specs.TypeWords.{is_word}
use Rattle.pungi_tree.specs.Syntax.{Stmt, block, declare, do_expr, if_only, if_else, while, do_while, for, switch, case}
use Rattle.pungi_tree.specs.Syntax.{default, label, goto, break, continue, return, Stmts, no_stmts, stmt_and}

pub record ReadsStmt (types : List Name) (d : ℕ) (ts : List Placed) (x : Stmt × List Placed) : Type 0 where
  pub spells : SpellsStmt x.0 ts x.1
  pub ok : stmt_ok types x.0 ≡ true
  pub statement : is_statement x.0 ≡ true
  pub shallow : stmt_depth x.0 ≤ d
  pub no_else : open_if x.0 ≡ true → eat_key keys.Else x.1 ≡ None

abbrev pub ReadsElement : List Name → ℕ → List Placed → Stmt × List Placed → Type 0
ReadsElement types d ts x = Reads (SpellsStmt x.0 ts x.1) (stmt_ok types x.0) (stmt_depth x.0) d

abbrev pub ReadsStmts : List Name → ℕ → List Placed → Stmts × List Placed → Type 0
ReadsStmts types d ts x = Reads (SpellsStmts x.0 ts x.1) (stmts_ok types x.0) (stmts_depth x.0) d

no_if : (o : Option (Pos × List Placed)) → false ≡ true → o ≡ None
no_if o h = absurd (cc)

-- where an `else` stands after a statement, it is no open `if`
is_closed : (b : Bool) (o : Option (Pos × List Placed)) (x : Pos × List Placed) → (b ≡ true → o ≡ None) → o ≡ Some x
    → not b ≡ true
is_closed true o x f h = let g = f refl in absurd (cc)
is_closed false o x f h = refl

module _ (types : List Name) (n d : ℕ) where
  expression_sound : (ts : List Placed) (x : Stmt × List Placed)
      → expression_at types (readers types n d) ts ≡ Some x → ReadsStmt types (suc d) ts x
  unfolding expression_at
  expression_sound ts x h =
      let p = bind_some _ _ _ h in
      let e = bind_some _ _ _ p.2 in
      let r = optional_sound types n d puncts.Semicolon ts e.0 e.1 in
      let s : SpellsStmt (do_expr p.0 e.0.0) ts e.0.1 = (r.spells.0, p.1, r.spells.1) in
      subst (ReadsStmt types (suc d) ts) (some_same (do_expr p.0 e.0.0, e.0.1) x e.2)
      (record { spells = s; ok = r.ok; statement = refl; shallow = omega (arith, r.shallow); no_else = no_if _ })

  goto_sound : (p : Pos) (ts inner : List Placed) (x : Stmt × List Placed) → ts ≡ key_at keys.Goto p ∷ inner
      → goto_at types (readers types n d) p inner ≡ Some x → ReadsStmt types (suc d) ts x
  unfolding goto_at
  goto_sound p ts inner x front h =
      let w = bind_some _ _ _ h in
      let c = bind_some _ _ _ w.2 in
      let named = plain_word_sound types inner w.0 w.1 in
      let s : SpellsStmt (goto p w.0.0 w.0.1) ts c.0.1
      = (
        c.0.0,
        front ∙ ap (λ z. key_at keys.Goto p ∷ z) (named.0
            ∙ ap (λ z. word_at w.0.0 w.0.1 ∷ z) (eat_some puncts.Semicolon w.0.2 c.0 c.1)),
      ) in
      subst (ReadsStmt types (suc d) ts) (some_same (goto p w.0.0 w.0.1, c.0.1) x c.2)
      (record { spells = s; ok = named.1; statement = refl; shallow = omega arith; no_else = no_if _ })

  return_sound : (p : Pos) (ts inner : List Placed) (x : Stmt × List Placed) → ts ≡ key_at keys.Return p ∷ inner
      → return_at types (readers types n d) p inner ≡ Some x → ReadsStmt types (suc d) ts x
  unfolding return_at
  return_sound p ts inner x front h =
      let e = bind_some _ _ _ h in
      let r = optional_sound types n d puncts.Semicolon inner e.0 e.1 in
      let s : SpellsStmt (return p e.0.0) ts e.0.1 = (inner, r.spells.0, front, r.spells.1) in
      subst (ReadsStmt types (suc d) ts) (some_same (return p e.0.0, e.0.1) x e.2)
      (record { spells = s; ok = r.ok; statement = refl; shallow = omega (arith, r.shallow); no_else = no_if _ })

  pub declare_sound : (ts : List Placed) (x : Stmt × List Placed) → declare_at types (readers types n d) ts ≡ Some x
      → ReadsElement types (suc d) ts x
  unfolding declare_at
  declare_sound ts x h =
      let p = bind_some _ _ _ h in
      let c = bind_some _ _ _ p.2 in
      let r = decl_sound types n d ts c.0 c.1 in
      let s : SpellsStmt (declare p.0 c.0.0) ts c.0.1 = (p.1, r.spells) in
      subst (ReadsElement types (suc d) ts) (some_same (declare p.0 c.0.0, c.0.1) x c.2)
      (record { spells = s; ok = r.ok; shallow = omega (arith, r.shallow) })

  abbrev Labelled : List Placed → Name × Pos × List Placed → Type 0
  Labelled ts w = (q : Pos) × (ts ≡ word_at w.0 w.1 ∷ mark_at puncts.Colon q ∷ w.2) × (is_word types w.0 ≡ true)

  label_front_sound : (ts : List Placed) (w : Name × Pos × List Placed)
      → label_front types (readers types n d) ts ≡ Some w → Labelled ts w
  unfolding label_front
  label_front_sound ts w h =
      let v = bind_some _ _ _ h in
      let c = bind_some _ _ _ v.2 in
      let r = plain_word_sound types ts v.0 v.1 in
      subst (Labelled ts) (some_same (v.0.0, v.0.1, c.0.1) w c.2)
      (c.0.0, r.0 ∙ ap (λ z. word_at v.0.0 v.0.1 ∷ z) (eat_some puncts.Colon v.0.2 c.0 c.1), r.1)

  module _ (stmt element : List Placed → Read Stmt) (sound : (ts : List Placed) (x : Stmt × List Placed)
      → stmt ts ≡ Some x → ReadsStmt types d ts x) (elements : (ts : List Placed) (x : Stmt × List Placed)
      → element ts ≡ Some x → ReadsElement types d ts x) where
    stmts_sound : (k : ℕ) (ts : List Placed) (x : Stmts × List Placed)
        → stmts_in types (readers types n d) stmt element k ts ≡ Some x → ReadsStmts types d ts x
    unfolding stmts_in
    stmts_sound zero ts x h = absurd (cc)
    stmts_sound (suc k) ts x h = elim (on_some_cases _ _ _ _ h) [
      | inl w ↦ subst (ReadsStmts types d ts) (some_same (no_stmts, ts) x w.2)
          (record { spells = refl; ok = refl; shallow = omega arith })
      | inr w ↦
          let i = bind_some _ _ _ w.1 in
          let m = bind_some _ _ _ i.2 in
          let r = elements ts i.0 i.1 in
          let t = stmts_sound k i.0.1 m.0 m.1 in
          let s : SpellsStmts (stmt_and i.0.0 m.0.0) ts m.0.1 = (i.0.1, r.spells, t.spells) in
          subst (ReadsStmts types d ts) (some_same (stmt_and i.0.0 m.0.0, m.0.1) x m.2)
          (record { spells = s; ok = and_join _ _ r.ok t.ok; shallow = omega (arith, r.shallow, t.shallow) })
    ]

    block_sound : (p : Pos) (ts inner : List Placed) (x : Stmt × List Placed)
        → ts ≡ mark_at puncts.LeftBrace p ∷ inner → block_at types (readers types n d) stmt element p inner ≡ Some x
        → ReadsStmt types (suc d) ts x
    unfolding block_at
    block_sound p ts inner x front h =
        let i = bind_some _ _ _ h in
        let c = bind_some _ _ _ i.2 in
        let r = stmts_sound (suc (length inner)) inner i.0 i.1 in
        let s : SpellsStmt (block p i.0.0 c.0.0) ts c.0.1 = (
          inner,
          front,
          subst (λ z. SpellsStmts i.0.0 inner z)
              (eat_some puncts.RightBrace i.0.1 c.0 c.1) r.spells,
        ) in
        subst (ReadsStmt types (suc d) ts) (some_same (block p i.0.0 c.0.0, c.0.1) x c.2)
        (record { spells = s; ok = r.ok; statement = refl; shallow = omega (arith, r.shallow); no_else = no_if _ })

    if_sound : (p : Pos) (ts inner : List Placed) (x : Stmt × List Placed) → ts ≡ key_at keys.If p ∷ inner
        → if_at types (readers types n d) stmt element p inner ≡ Some x → ReadsStmt types (suc d) ts x
    unfolding if_at
    if_sound p ts inner x front h =
        let c = bind_some _ _ _ h in
        let i = bind_some _ _ _ c.2 in
        let rc = condition_sound types n d inner c.0 c.1 in
        let r = sound c.0.1 i.0 i.1 in
        elim (on_some_cases _ _ _ _ i.2) [
          | inl w ↦
              let j = bind_some _ _ _ w.2 in
              let t = sound w.0.1 j.0 j.1 in
              let closed = is_closed (open_if i.0.0) (eat_key keys.Else i.0.1) w.0 r.no_else w.1 in
              let s : SpellsStmt (if_else p c.0.0 i.0.0 j.0.0) ts j.0.1 = (
                inner,
                c.0.1,
                w.0.1,
                w.0.0,
                front,
                rc.spells,
                subst (λ z. SpellsStmt i.0.0 c.0.1 z) (eat_key_some keys.Else i.0.1 w.0 w.1) r.spells,
                t.spells,
              ) in
              subst (ReadsStmt types (suc d) ts) (some_same (if_else p c.0.0 i.0.0 j.0.0, j.0.1) x j.2)
              (record {
                spells = s;
                ok = and_join _ _ rc.ok (and_join _ _ r.statement
                    (and_join _ _ r.ok (and_join _ _ closed (and_join _ _ t.statement t.ok))));
                statement = refl;
                shallow = omega (arith, rc.shallow, r.shallow, t.shallow);
                no_else = t.no_else;
              })
          | inr w ↦
              let s : SpellsStmt (if_only p c.0.0 i.0.0) ts i.0.1 = (inner, c.0.1, front, rc.spells, r.spells) in
              subst (ReadsStmt types (suc d) ts) (some_same (if_only p c.0.0 i.0.0, i.0.1) x w.1)
              (record {
                spells = s;
                ok = and_join _ _ rc.ok (and_join _ _ r.statement r.ok);
                statement = refl;
                shallow = omega (arith, rc.shallow, r.shallow);
                no_else = λ _. w.0;
              })
        ]

    while_sound : (p : Pos) (ts inner : List Placed) (x : Stmt × List Placed) → ts ≡ key_at keys.While p ∷ inner
        → while_at types (readers types n d) stmt element p inner ≡ Some x → ReadsStmt types (suc d) ts x
    unfolding while_at
    while_sound p ts inner x front h =
        let c = bind_some _ _ _ h in
        let i = bind_some _ _ _ c.2 in
        let rc = condition_sound types n d inner c.0 c.1 in
        let r = sound c.0.1 i.0 i.1 in
        let s : SpellsStmt (while p c.0.0 i.0.0) ts i.0.1 = (inner, c.0.1, front, rc.spells, r.spells) in
        subst (ReadsStmt types (suc d) ts) (some_same (while p c.0.0 i.0.0, i.0.1) x i.2)
        (record {
          spells = s;
          ok = and_join _ _ rc.ok (and_join _ _ r.statement r.ok);
          statement = refl;
          shallow
              = omega (arith, rc.shallow, r.shallow);
          no_else = r.no_else;
        })

    do_sound : (p : Pos) (ts inner : List Placed) (x : Stmt × List Placed) → ts ≡ key_at keys.Do p ∷ inner
        → do_at types (readers types n d) stmt element p inner ≡ Some x → ReadsStmt types (suc d) ts x
    unfolding do_at
    do_sound p ts inner x front h =
        let i = bind_some _ _ _ h in
        let k = bind_some _ _ _ i.2 in
        let c = bind_some _ _ _ k.2 in
        let e = bind_some _ _ _ c.2 in
        let r = sound inner i.0 i.1 in
        let rc = condition_sound types n d k.0.1 c.0 c.1 in
        let s : SpellsStmt (do_while p i.0.0 c.0.0) ts e.0.1
        = (
          inner,
          k.0.1,
          k.0.0,
          e.0.0,
          front,
          subst (λ z. SpellsStmt i.0.0 inner z)
              (eat_key_some keys.While i.0.1 k.0 k.1) r.spells,
          subst (λ z. SpellsCondition c.0.0 k.0.1 z)
              (eat_some puncts.Semicolon c.0.1 e.0 e.1) rc.spells,
        ) in
        subst (ReadsStmt types (suc d) ts) (some_same (do_while p i.0.0 c.0.0, e.0.1) x e.2)
        (record {
          spells = s;
          ok = and_join _ _ r.statement (and_join _ _ r.ok rc.ok);
          statement = refl;
          shallow
              = omega (arith, rc.shallow, r.shallow);
          no_else = no_if _;
        })

    for_sound : (p : Pos) (ts inner : List Placed) (x : Stmt × List Placed) → ts ≡ key_at keys.For p ∷ inner
        → for_at types (readers types n d) stmt element p inner ≡ Some x → ReadsStmt types (suc d) ts x
    unfolding for_at
    for_sound p ts inner x front h =
        let o = bind_some _ _ _ h in
        let a = bind_some _ _ _ o.2 in
        let b = bind_some _ _ _ a.2 in
        let c = bind_some _ _ _ b.2 in
        let i = bind_some _ _ _ c.2 in
        let ra = start_sound types n d o.0.1 a.0 a.1 in
        let rb = optional_sound types n d puncts.Semicolon a.0.1 b.0 b.1 in
        let rc = optional_sound types n d puncts.RightParen b.0.1 c.0 c.1 in
        let r = sound c.0.1 i.0 i.1 in
        let s : SpellsStmt (for p a.0.0 b.0.0 c.0.0 i.0.0) ts i.0.1
        = (
          o.0.1,
          a.0.1,
          b.0.1,
          c.0.1,
          o.0.0,
          rb.spells.0,
          rc.spells.0,
          front
              ∙ ap (λ z. key_at keys.For p ∷ z) (eat_some puncts.LeftParen inner o.0 o.1),
          ra.spells,
          rb.spells.1,
          rc.spells.1,
          r.spells,
        ) in
        subst (ReadsStmt types (suc d) ts) (some_same (for p a.0.0 b.0.0 c.0.0 i.0.0, i.0.1) x i.2)
        (record {
          spells = s;
          ok = and_join _ _ ra.ok (and_join _ _ rb.ok (and_join _ _ rc.ok
              (and_join _ _ r.statement r.ok)));
          statement = refl;
          shallow = omega (
            arith,
            ra.shallow,
            rb.shallow,
            rc.shallow,
            r.shallow,
          );
          no_else = r.no_else;
        })

    switch_sound : (p : Pos) (ts inner : List Placed) (x : Stmt × List Placed) → ts ≡ key_at keys.Switch p ∷ inner
        → switch_at types (readers types n d) stmt element p inner ≡ Some x → ReadsStmt types (suc d) ts x
    unfolding switch_at
    switch_sound p ts inner x front h =
        let c = bind_some _ _ _ h in
        let i = bind_some _ _ _ c.2 in
        let rc = condition_sound types n d inner c.0 c.1 in
        let r = sound c.0.1 i.0 i.1 in
        let s : SpellsStmt (switch p c.0.0 i.0.0) ts i.0.1 = (inner, c.0.1, front, rc.spells, r.spells) in
        subst (ReadsStmt types (suc d) ts) (some_same (switch p c.0.0 i.0.0, i.0.1) x i.2)
        (record {
          spells = s;
          ok = and_join _ _ rc.ok (and_join _ _ r.statement r.ok);
          statement = refl;
          shallow
              = omega (arith, rc.shallow, r.shallow);
          no_else = r.no_else;
        })

    case_sound : (p : Pos) (ts inner : List Placed) (x : Stmt × List Placed) → ts ≡ key_at keys.Case p ∷ inner
        → case_at types (readers types n d) stmt element p inner ≡ Some x → ReadsStmt types (suc d) ts x
    unfolding case_at
    case_sound p ts inner x front h =
        let e = bind_some _ _ _ h in
        let c = bind_some _ _ _ e.2 in
        let i = bind_some _ _ _ c.2 in
        let re = expr_sound types n d 2 inner e.0 e.1 (omega arith) in
        let r = sound c.0.1 i.0 i.1 in
        let s : SpellsStmt (case p e.0.0 i.0.0) ts i.0.1 = (
          inner,
          c.0.1,
          c.0.0,
          front,
          subst
              (λ z. Spells e.0.0 inner z) (eat_some puncts.Colon e.0.1 c.0 c.1) re.spells,
          r.spells,
        ) in
        subst (ReadsStmt types (suc d) ts) (some_same (case p e.0.0 i.0.0, i.0.1) x i.2)
        (record {
          spells = s;
          ok = and_join _ _ re.allowed (and_join _ _ r.statement r.ok);
          statement = refl;
          shallow = omega (arith, re.shallow, r.shallow);
          no_else = r.no_else;
        })

    default_sound : (p : Pos) (ts inner : List Placed) (x : Stmt × List Placed) → ts ≡ key_at keys.Default p ∷ inner
        → default_at types (readers types n d) stmt element p inner ≡ Some x → ReadsStmt types (suc d) ts x
    unfolding default_at
    default_sound p ts inner x front h =
        let c = bind_some _ _ _ h in
        let i = bind_some _ _ _ c.2 in
        let r = sound c.0.1 i.0 i.1 in
        let s : SpellsStmt (default p i.0.0) ts i.0.1 = (
          c.0.1,
          c.0.0,
          front
              ∙ ap (λ z. key_at keys.Default p ∷ z) (eat_some puncts.Colon inner c.0 c.1),
          r.spells,
        ) in
        subst (ReadsStmt types (suc d) ts) (some_same (default p i.0.0, i.0.1) x i.2)
        (record {
          spells = s;
          ok = and_join _ _ r.statement r.ok;
          statement = refl;
          shallow = omega
              (arith, r.shallow);
          no_else = r.no_else;
        })

    label_sound : (ts : List Placed) (w : Name × Pos × List Placed) (x : Stmt × List Placed)
        → label_front types (readers types n d) ts ≡ Some w
        → label_at types (readers types n d) stmt element w.1 w.0 w.2 ≡ Some x → ReadsStmt types (suc d) ts x
    unfolding label_at
    label_sound ts w x front h =
        let i = bind_some _ _ _ h in
        let r = sound w.2 i.0 i.1 in
        let l = label_front_sound ts w front in
        let s : SpellsStmt (label w.1 w.0 i.0.0) ts i.0.1 = (w.2, l.0, l.1, r.spells) in
        subst (ReadsStmt types (suc d) ts) (some_same (label w.1 w.0 i.0.0, i.0.1) x i.2)
        (record {
          spells = s;
          ok = and_join _ _ l.2 (and_join _ _ r.statement r.ok);
          statement = refl;
          shallow
              = omega (arith, r.shallow);
          no_else = r.no_else;
        })

    jump_sound : (ts : List Placed) (x : Stmt × List Placed)
        → jump_or_expression types (readers types n d) stmt element ts ≡ Some x → ReadsStmt types (suc d) ts x
    unfolding jump_or_expression
    jump_sound ts x h = elim (on_some_cases _ _ _ _ h) [
      | inl w ↦ goto_sound w.0.0 ts w.0.1 x (eat_key_some keys.Goto ts w.0 w.1) w.2
      | inr a ↦ elim (on_some_cases _ _ _ _ a.1) [
        | inl w ↦
            let c = bind_some _ _ _ w.2 in
            let s : SpellsStmt (break w.0.0) ts c.0.1 = (
              c.0.0,
              eat_key_some keys.Break ts w.0 w.1
                  ∙ ap (λ z. key_at keys.Break w.0.0 ∷ z) (eat_some puncts.Semicolon w.0.1 c.0 c.1),
            ) in
            subst (ReadsStmt types (suc d) ts) (some_same (break w.0.0, c.0.1) x c.2)
            (record { spells = s; ok = refl; statement = refl; shallow = omega arith; no_else = no_if _ })
        | inr b ↦ elim (on_some_cases _ _ _ _ b.1) [
          | inl w ↦
              let c = bind_some _ _ _ w.2 in
              let s : SpellsStmt (continue w.0.0) ts c.0.1 = (
                c.0.0,
                eat_key_some keys.Continue ts w.0 w.1
                    ∙ ap (λ z. key_at keys.Continue w.0.0 ∷ z) (eat_some puncts.Semicolon w.0.1 c.0 c.1),
              ) in
              subst (ReadsStmt types (suc d) ts) (some_same (continue w.0.0, c.0.1) x c.2)
              (record { spells = s; ok = refl; statement = refl; shallow = omega arith; no_else = no_if _ })
          | inr c ↦ elim (on_some_cases _ _ _ _ c.1) [
            | inl w ↦ return_sound w.0.0 ts w.0.1 x (eat_key_some keys.Return ts w.0 w.1) w.2
            | inr e ↦ expression_sound ts x e.1
          ]
        ]
      ]
    ]

    label_or_jump_sound : (ts : List Placed) (x : Stmt × List Placed)
        → label_or_jump types (readers types n d) stmt element ts ≡ Some x → ReadsStmt types (suc d) ts x
    unfolding label_or_jump
    label_or_jump_sound ts x h = elim (on_some_cases _ _ _ _ h) [
      | inl w ↦ case_sound w.0.0 ts w.0.1 x (eat_key_some keys.Case ts w.0 w.1) w.2
      | inr a ↦ elim (on_some_cases _ _ _ _ a.1) [
        | inl w ↦ default_sound w.0.0 ts w.0.1 x (eat_key_some keys.Default ts w.0 w.1) w.2
        | inr b ↦ elim (on_some_cases _ _ _ _ b.1) [
          | inl w ↦ label_sound ts w.0 x w.1 w.2
          | inr c ↦ jump_sound ts x c.1
        ]
      ]
    ]

    statement_sound : (ts : List Placed) (x : Stmt × List Placed)
        → stmt_at types (readers types n d) stmt element ts ≡ Some x → ReadsStmt types (suc d) ts x
    unfolding stmt_at
    statement_sound ts x h = elim (on_some_cases _ _ _ _ h) [
      | inl w ↦ block_sound w.0.0 ts w.0.1 x (eat_some puncts.LeftBrace ts w.0 w.1) w.2
      | inr a ↦ elim (on_some_cases _ _ _ _ a.1) [
        | inl w ↦ if_sound w.0.0 ts w.0.1 x (eat_key_some keys.If ts w.0 w.1) w.2
        | inr b ↦ elim (on_some_cases _ _ _ _ b.1) [
          | inl w ↦ while_sound w.0.0 ts w.0.1 x (eat_key_some keys.While ts w.0 w.1) w.2
          | inr c ↦ elim (on_some_cases _ _ _ _ c.1) [
            | inl w ↦ do_sound w.0.0 ts w.0.1 x (eat_key_some keys.Do ts w.0 w.1) w.2
            | inr e ↦ elim (on_some_cases _ _ _ _ e.1) [
              | inl w ↦ for_sound w.0.0 ts w.0.1 x (eat_key_some keys.For ts w.0 w.1) w.2
              | inr f ↦ elim (on_some_cases _ _ _ _ f.1) [
                | inl w ↦ switch_sound w.0.0 ts w.0.1 x (eat_key_some keys.Switch ts w.0 w.1) w.2
                | inr g ↦ label_or_jump_sound ts x g.1
              ]
            ]
          ]
        ]
      ]
    ]

module _ (types : List Name) (n : ℕ) where
  -- what stands in a block, where statements of the same depth are right
  elements_from : (d : ℕ) (stmt : List Placed → Read Stmt)
      → ((ts : List Placed) (x : Stmt × List Placed) → stmt ts ≡ Some x → ReadsStmt types d ts x)
      → (ts : List Placed) (x : Stmt × List Placed) → element_at types n stmt d ts ≡ Some x
      → ReadsElement types d ts x
  unfolding element_at
  elements_from zero stmt sound ts x h = absurd (cc)
  elements_from (suc d) stmt sound ts x h = elim (on_some_cases _ _ _ _ h) [
    | inl u ↦
        let g = when_some _ _ _ u.1 in
        let same : ts ≡ u.0 = some_same ts u.0 g.1 in
        subst (λ z. ReadsElement types (suc d) z x) (sym same) (declare_sound types n d u.0 x u.2)
    | inr w ↦ let r = sound ts x w.1 in record { spells = r.spells; ok = r.ok; shallow = r.shallow }
  ]

  pub stmt_sound : (d : ℕ) (ts : List Placed) (x : Stmt × List Placed) → read_stmt types n d ts ≡ Some x
      → ReadsStmt types d ts x
  unfolding read_stmt
  stmt_sound zero ts x h = absurd (cc)
  stmt_sound (suc d) ts x h =
      statement_sound types n d (read_stmt types n d) (element_at types n (read_stmt types n d) d) (stmt_sound d)
      (elements_from d (read_stmt types n d) (stmt_sound d)) ts x h

  pub element_sound : (d : ℕ) (ts : List Placed) (x : Stmt × List Placed) → read_element types n d ts ≡ Some x
      → ReadsElement types d ts x
  element_sound d ts x h = elements_from d (read_stmt types n d) (stmt_sound d) ts x h
