-- How statements begin, and that fewer tokens are left than there were.
--   StmtBegins ts    tokens with which a statement or a declaration begins: no `else` and no closing brace
--   under            a statement under another one is allowed, and no declaration
--   .._begins        how the tokens of a statement begin
--   no_decl          a statement begins as no declaration does
--   stmt_shorter, stmts_no_longer    fewer tokens, or no more, are left than there were
use Rattle.std.proofs.Common.{◌≡◌, ◌<◌, ◌≤◌, Bool, true, false, List, ◌∷◌, length, Option, Some, None, refl, ◌∙◌, ap}
use Rattle.std.proofs.Common.{arith}
use Rattle.std.specs.Prelude.{◌&&◌, not}
use Rattle.pungi_base.specs.declared.key.Key.TheVariants as keys
use Rattle.pungi_base.specs.declared.names.Name.{Name}
use Rattle.pungi_base.specs.declared.pos.Pos.{Pos}
use Rattle.pungi_base.specs.declared.punct.Punct.TheVariants as puncts
use Rattle.pungi_parse.specs.tokens.OneToken.{eat, eat_key}
use Rattle.pungi_parse.specs.Reading.{chain, when}
use Rattle.pungi_parse.specs.types.TypeReader.{type_word, begins_type, begins_decl}
use Rattle.pungi_parse.proofs.stmt.DeclFronts.{decl_shorter, optional_no_longer, condition_shorter, start_shorter}
use Rattle.pungi_parse.proofs.tokens.Eaten.{eat_key_some}
use Rattle.pungi_parse.proofs.Tools.{and_true}
use Rattle.pungi_parse.proofs.expr.TypeExprTheorems.{expr_begins, decl_begins, expr_shorter}
use Rattle.pungi_parse.proofs.tokens.WordReadings.{no_type_word}
use Rattle.pungi_tree.specs.ExprLevels.{expr_at, spec_ok}
use Rattle.pungi_tree.specs.Operators.{is_qualifier, all_keys}
use Rattle.pungi_tree.specs.Placed.{Placed, mark_at, key_at}
use Rattle.pungi_tree.specs.StmtLevels.{open_if, is_statement, optional_ok, some_vars_ok, decl_ok, start_ok, stmt_ok}
use Rattle.pungi_tree.specs.StmtLevels.{stmts_ok}
use Rattle.pungi_tree.specs.StmtSpells.{SpellsDecl, SpellsStmt, SpellsStmts}
use Rattle.pungi_tree.specs.Syntax.{Decl, decl, Stmt, block, declare, do_expr, if_only, if_else, while, do_while, for}
use Rattle.pungi_tree.specs.Syntax.{switch, case, default, label, goto, break, continue, return, Stmts, no_stmts}
use Rattle.pungi_tree.specs.Syntax.{stmt_and}
use Rattle.pungi_tree.specs.TypeWords.{is_word}

pub record StmtBegins (ts : List Placed) : Type 0 where
  pub no_else : eat_key keys.Else ts ≡ None
  pub no_close : eat puncts.RightBrace ts ≡ None

module _ (types : List Name) where
  -- what `else` begins is no declaration
  else_is_none : (q : Pos) (ts : List Placed) → begins_decl types (key_at keys.Else q ∷ ts) ≡ false
  unfolding begins_decl begins_type type_word chain
  else_is_none q ts = refl

  decl_no_else : (ts : List Placed) → begins_decl types ts ≡ true → eat_key keys.Else ts ≡ None
  decl_no_else ts h = by_what (eat_key keys.Else ts) refl
    where
      differ : (b : Bool) → b ≡ true → b ≡ false → ⊥
      differ b x y = cc

      by_what : (o : Option (Pos × List Placed)) → eat_key keys.Else ts ≡ o → eat_key keys.Else ts ≡ None
      by_what None e = e
      by_what (Some x) e =
          let front = eat_key_some keys.Else ts x e in
          absurd (differ (begins_decl types ts) h (ap (λ z. begins_decl types z) front ∙ else_is_none x.0 x.1))

  decl_stmt_begins : (c : Decl) (ts rest : List Placed) → SpellsDecl c ts rest → decl_ok types c ≡ true → StmtBegins ts
  decl_stmt_begins (decl qs b vs) ts rest s ok =
      let o = and_true (all_keys is_qualifier qs) (spec_ok types b && some_vars_ok types vs) ok in
      let r = decl_begins types qs b ts s.0 s.1 s.3 o.0 s.4 (and_true (spec_ok types b) (some_vars_ok types vs)
      o.1).0 in
      record { no_else = decl_no_else ts r.begins; no_close = r.no_mark puncts.RightBrace }

  -- a statement under a test
  pub under : (a : Bool) (s : Stmt) → (a && (is_statement s && stmt_ok types s)) ≡ true
      → (a ≡ true) × (is_statement s ≡ true) × (stmt_ok types s ≡ true)
  under a s h =
      let x = and_true a (is_statement s && stmt_ok types s) h in
      let y = and_true (is_statement s) (stmt_ok types s) x.1 in
      (x.0, y.0, y.1)

  pub stmt_begins : (s : Stmt) (ts rest : List Placed) → SpellsStmt s ts rest → stmt_ok types s ≡ true → StmtBegins ts
  stmt_begins (block p ss q) ts rest s ok = rw s.1 (record { no_else = refl; no_close = refl })
  stmt_begins (declare p c) ts rest s ok = decl_stmt_begins c ts rest s.1 ok
  stmt_begins (do_expr p None) ts rest s ok = rw s.2 (record { no_else = refl; no_close = refl })
  stmt_begins (do_expr p (Some e)) ts rest s ok =
      let b = expr_begins types 0 e ts _ s.2 ok in
      record { no_else = b.no_key keys.Else refl; no_close = b.no_mark puncts.RightBrace refl }
  stmt_begins (if_only p e t) ts rest s ok = rw s.2 (record { no_else = refl; no_close = refl })
  stmt_begins (if_else p e t u) ts rest s ok = rw s.4 (record { no_else = refl; no_close = refl })
  stmt_begins (while p e t) ts rest s ok = rw s.2 (record { no_else = refl; no_close = refl })
  stmt_begins (do_while p t e) ts rest s ok = rw s.4 (record { no_else = refl; no_close = refl })
  stmt_begins (for p a b c t) ts rest s ok = rw s.7 (record { no_else = refl; no_close = refl })
  stmt_begins (switch p e t) ts rest s ok = rw s.2 (record { no_else = refl; no_close = refl })
  stmt_begins (case p e t) ts rest s ok = rw s.3 (record { no_else = refl; no_close = refl })
  stmt_begins (default p t) ts rest s ok = rw s.2 (record { no_else = refl; no_close = refl })
  stmt_begins (label p n t) ts rest s ok = rw s.2 (record { no_else = refl; no_close = refl })
  stmt_begins (goto p n q) ts rest s ok = rw s.1 (record { no_else = refl; no_close = refl })
  stmt_begins (break p) ts rest s ok = rw s.1 (record { no_else = refl; no_close = refl })
  stmt_begins (continue p) ts rest s ok = rw s.1 (record { no_else = refl; no_close = refl })
  stmt_begins (return p e) ts rest s ok = rw s.2 (record { no_else = refl; no_close = refl })

  pub no_decl : (s : Stmt) (ts rest : List Placed) → SpellsStmt s ts rest → stmt_ok types s ≡ true
      → is_statement s ≡ true → begins_decl types ts ≡ false
  unfolding begins_decl begins_type type_word chain when
  no_decl (block p ss q) ts rest s ok st = rw s.1 refl
  no_decl (declare p c) ts rest s ok st = absurd (cc)
  no_decl (do_expr p None) ts rest s ok st = rw s.2 refl
  no_decl (do_expr p (Some e)) ts rest s ok st = (expr_begins types 0 e ts _ s.2 ok).no_decl
  no_decl (if_only p e t) ts rest s ok st = rw s.2 refl
  no_decl (if_else p e t u) ts rest s ok st = rw s.4 refl
  no_decl (while p e t) ts rest s ok st = rw s.2 refl
  no_decl (do_while p t e) ts rest s ok st = rw s.4 refl
  no_decl (for p a b c t) ts rest s ok st = rw s.7 refl
  no_decl (switch p e t) ts rest s ok st = rw s.2 refl
  no_decl (case p e t) ts rest s ok st = rw s.3 refl
  no_decl (default p t) ts rest s ok st = rw s.2 refl
  no_decl (label p n t) ts rest s ok st = let w = no_type_word types n p (mark_at puncts.Colon s.1 ∷ s.0)
      (and_true (is_word types n) _ ok).0 in rw (s.2, w) refl
  no_decl (goto p n q) ts rest s ok st = rw s.1 refl
  no_decl (break p) ts rest s ok st = rw s.1 refl
  no_decl (continue p) ts rest s ok st = rw s.1 refl
  no_decl (return p e) ts rest s ok st = rw s.2 refl

  mutual
    pub stmt_shorter : (s : Stmt) (ts rest : List Placed) → SpellsStmt s ts rest → stmt_ok types s ≡ true
        → length rest < length ts
    stmt_shorter (block p ss q) ts rest s ok = rw s.1 (omega (arith, stmts_no_longer ss _ _ s.2 ok))
    stmt_shorter (declare p c) ts rest s ok = decl_shorter types c ts rest s.1 ok
    stmt_shorter (do_expr p e) ts rest s ok = omega (arith, optional_no_longer types e _ _ s.2 ok)
    stmt_shorter (if_only p e t) ts rest s ok =
        let a = and_true (expr_at types 0 e) (is_statement t && stmt_ok types t) ok in
        let b = and_true (is_statement t) (stmt_ok types t) a.1 in
        rw s.2 (omega (arith, condition_shorter types e _ _ s.3 a.0, stmt_shorter t _ _ s.4 b.1))
    stmt_shorter (if_else p e t u) ts rest s ok =
        let a = and_true (expr_at types 0 e) (is_statement t
        && (stmt_ok types t && (not (open_if t) && (is_statement u && stmt_ok types u)))) ok in
        let b = and_true (is_statement t) (stmt_ok types t
        && (not (open_if t) && (is_statement u && stmt_ok types u))) a.1 in
        let c = and_true (stmt_ok types t) (not (open_if t) && (is_statement u && stmt_ok types u)) b.1 in
        let f = and_true (not (open_if t)) (is_statement u && stmt_ok types u) c.1 in
        let g = and_true (is_statement u) (stmt_ok types u) f.1 in
        rw s.4 (omega (
          arith,
          condition_shorter types e _ _ s.5 a.0,
          stmt_shorter t _ _ s.6 c.0,
          stmt_shorter u _ _
              s.7 g.1,
        ))
    stmt_shorter (while p e t) ts rest s ok =
        let a = and_true (expr_at types 0 e) (is_statement t && stmt_ok types t) ok in
        let b = and_true (is_statement t) (stmt_ok types t) a.1 in
        rw s.2 (omega (arith, condition_shorter types e _ _ s.3 a.0, stmt_shorter t _ _ s.4 b.1))
    stmt_shorter (do_while p t e) ts rest s ok =
        let a = and_true (is_statement t) (stmt_ok types t && expr_at types 0 e) ok in
        let b = and_true (stmt_ok types t) (expr_at types 0 e) a.1 in
        rw s.4 (omega (arith, stmt_shorter t _ _ s.5 b.0, condition_shorter types e _ _ s.6 b.1))
    stmt_shorter (for p f g h t) ts rest s ok =
        let a = and_true (start_ok types f) (optional_ok types g
        && (optional_ok types h && (is_statement t && stmt_ok types t))) ok in
        let b = and_true (optional_ok types g) (optional_ok types h && (is_statement t && stmt_ok types t)) a.1 in
        let c = and_true (optional_ok types h) (is_statement t && stmt_ok types t) b.1 in
        let d = and_true (is_statement t) (stmt_ok types t) c.1 in
        rw s.7 (omega (
          arith,
          start_shorter types f _ _ s.8 a.0,
          optional_no_longer types g _ _ s.9 b.0,
          optional_no_longer types h _ _ s.10 c.0,
          stmt_shorter t _ _ s.11 d.1,
        ))
    stmt_shorter (switch p e t) ts rest s ok =
        let a = and_true (expr_at types 0 e) (is_statement t && stmt_ok types t) ok in
        let b = and_true (is_statement t) (stmt_ok types t) a.1 in
        rw s.2 (omega (arith, condition_shorter types e _ _ s.3 a.0, stmt_shorter t _ _ s.4 b.1))
    stmt_shorter (case p e t) ts rest s ok =
        let a = and_true (expr_at types 2 e) (is_statement t && stmt_ok types t) ok in
        let b = and_true (is_statement t) (stmt_ok types t) a.1 in
        rw s.3 (omega (arith, expr_shorter types 2 e _ _ s.4 a.0, stmt_shorter t _ _ s.5 b.1))
    stmt_shorter (default p t) ts rest s ok = let a = and_true (is_statement t) (stmt_ok types t) ok in rw s.2
        (omega (arith, stmt_shorter t _ _ s.3 a.1))
    stmt_shorter (label p n t) ts rest s ok =
        let a = and_true (is_word types n) (is_statement t && stmt_ok types t) ok in
        let b = and_true (is_statement t) (stmt_ok types t) a.1 in
        rw s.2 (omega (arith, stmt_shorter t _ _ s.3 b.1))
    stmt_shorter (goto p n q) ts rest s ok = rw s.1 (omega arith)
    stmt_shorter (break p) ts rest s ok = rw s.1 (omega arith)
    stmt_shorter (continue p) ts rest s ok = rw s.1 (omega arith)
    stmt_shorter (return p e) ts rest s ok = rw s.2 (omega (arith, optional_no_longer types e _ _ s.3 ok))

    pub stmts_no_longer : (ss : Stmts) (ts rest : List Placed) → SpellsStmts ss ts rest → stmts_ok types ss ≡ true
        → length rest ≤ length ts
    stmts_no_longer no_stmts ts rest s ok = rw s (omega arith)
    stmts_no_longer (stmt_and t ss) ts rest s ok =
        let a = and_true (stmt_ok types t) (stmts_ok types ss) ok in
        omega (arith, stmt_shorter t _ _ s.1 a.0, stmts_no_longer ss _ _ s.2 a.1)
