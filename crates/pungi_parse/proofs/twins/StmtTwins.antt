-- Statements have twins: where the kinds of tokens begin with those of a tree that is allowed, the same tree with other
-- places stands there.
--   LikeStmt     an allowed tree, as deep as the other, and of the same kind where that counts
--   twin_stmt    the twin
use Rattle.std.proofs.Common.{◌≡◌, true, List, [], ◌∷◌, ◌++◌, refl, ◌∙◌, ap}
use Rattle.std.specs.Prelude.{◌&&◌, not}
use Rattle.pungi_base.specs.declared.key.Key.TheVariants as keys
use Rattle.pungi_base.specs.declared.kind.Kind.{Kind}
use Rattle.pungi_base.specs.declared.kind.Kind.TheVariants as kind
use Rattle.pungi_base.specs.declared.names.Name.{Name}
use Rattle.pungi_base.specs.declared.punct.Punct.TheVariants as puncts
use Rattle.pungi_parse.proofs.stmt.DeclFronts.{decl_shorter, optional_no_longer}
use Rattle.pungi_parse.proofs.twins.ExprTwins.{twin_expr}
use Rattle.pungi_parse.proofs.stmt.StmtBegins.{under}
use Rattle.pungi_parse.proofs.Tools.{and_true, and_join}
use Rattle.pungi_parse.proofs.twins.Twin.{Twin, Alike, deeper, wider, deeper_two, first_of, two_of, again, ends_with}
use Rattle.pungi_parse.proofs.twins.Twin.{some_place}
use Rattle.pungi_tree.specs.ExprFlat.{expr_flat}
use Rattle.pungi_tree.specs.ExprLevels.{expr_at}
use Rattle.pungi_tree.specs.Placed.{Placed, kinds, mark_at, key_at}
use Rattle.pungi_tree.specs.StmtDepth.{stmt_depth, stmts_depth}
use Rattle.pungi_tree.specs.StmtFlat.{optional_flat, for_start_flat, stmt_flat, stmts_flat}
use Rattle.pungi_tree.specs.StmtLevels.{open_if, is_statement, optional_ok, start_ok, stmt_ok, stmts_ok}
use Rattle.pungi_tree.specs.StmtSpells.{SpellsStmt, SpellsStmts}
use Rattle.pungi_tree.specs.Syntax.{Stmt, block, declare, do_expr, if_only, if_else, while, do_while, for, switch, case}
use Rattle.pungi_tree.specs.Syntax.{default, label, goto, break, continue, return, Stmts, no_stmts, stmt_and}
use Rattle.pungi_tree.specs.Tokens.{mark, key}
use Rattle.pungi_tree.specs.TypeWords.{is_word}
use Rattle.pungi_tree.specs.UnitLevels.{is_block}
use Rattle.pungi_parse.proofs.twins.DeclTwins.{twin_decl, twin_optional, twin_condition, twin_start}

module _ (types : List Name) where
  pub record LikeStmt (s x : Stmt) : Type 0 where
    pub ok : stmt_ok types x ≡ true
    pub deep : stmt_depth x ≡ stmt_depth s
    pub statement : is_statement x ≡ is_statement s
    pub no_if : open_if x ≡ open_if s
    pub block : is_block x ≡ is_block s

  abbrev LikeStmts : Stmts → Stmts → Type 0
  LikeStmts ss x = Alike (stmts_ok types x) (stmts_depth x) (stmts_depth ss)

  -- the statement under another one is a statement too
  sub_ok : (s x : Stmt) → is_statement s ≡ true → LikeStmt s x → (is_statement x && stmt_ok types x) ≡ true
  sub_ok s x st l = and_join _ _ (l.statement ∙ st) l.ok

  abbrev TwinStmt : Stmt → List Placed → List Kind → Type 0
  TwinStmt s ts more = Twin Stmt SpellsStmt (LikeStmt s) ts more

  mutual
    pub twin_stmt : (s : Stmt) (ts : List Placed) (more : List Kind) → kinds ts ≡ stmt_flat s ++ more
        → stmt_ok types s ≡ true → TwinStmt s ts more
    twin_stmt (block p ss q) ts more h ok =
        let f = first_of ts (mark puncts.LeftBrace) ((stmts_flat ss ++ mark puncts.RightBrace ∷ []) ++ more) h in
        let i = twin_stmts ss f.0 (mark puncts.RightBrace ∷ more) (again _ (stmts_flat ss)
        (mark puncts.RightBrace ∷ []) more f.3) ok in
        let c = ends_with (mark puncts.RightBrace) more i in
        record {
          twin = block f.1 i.twin c.1;
          rest = c.0;
          spells = (f.0, f.2, c.2);
          behind = c.3;
          alike = record
              { ok = i.alike.ok; deep = deeper _ _ i.alike.deep; statement = refl; no_if = refl; block = refl };
        }
    twin_stmt (declare p c) ts more h ok =
        let i = twin_decl types c ts more h ok in
        let place = some_place ts i.rest (decl_shorter types i.twin ts i.rest i.spells i.alike.ok) in
        record {
          twin = declare place.0 i.twin;
          rest = i.rest;
          spells = (place.1, i.spells);
          behind = i.behind;
          alike = record {
            ok = i.alike.ok;
            deep = deeper _ _ i.alike.deep;
            statement = refl;
            no_if = refl;
            block
                = refl;
          };
        }
    twin_stmt (do_expr p e) ts more h ok =
        let i = twin_optional types e ts (mark puncts.Semicolon ∷ more) (again _ (optional_flat e)
        (mark puncts.Semicolon ∷ []) more h) ok in
        let c = ends_with (mark puncts.Semicolon) more i in
        let place = some_place ts c.0 (optional_no_longer types i.twin ts (mark_at puncts.Semicolon c.1 ∷ c.0) c.2
        i.alike.ok) in
        record {
          twin = do_expr place.0 i.twin;
          rest = c.0;
          spells = (c.1, place.1, c.2);
          behind = c.3;
          alike
              = record {
                ok = i.alike.ok;
                deep = deeper _ _ i.alike.deep;
                statement = refl;
                no_if = refl;
                block
                    = refl;
              };
        }
    twin_stmt (if_only p e s) ts more h ok =
        let u = under types (expr_at types 0 e) s ok in
        let f = first_of ts (key keys.If) (mark puncts.LeftParen
        ∷ ((expr_flat e ++ (mark puncts.RightParen ∷ stmt_flat s)) ++ more)) h in
        let i = twin_condition types e f.0 (stmt_flat s) more f.3 u.0 in
        let j = twin_stmt s i.rest more i.behind u.2 in
        record {
          twin = if_only f.1 i.twin j.twin;
          rest = j.rest;
          spells = (f.0, i.rest, f.2, i.spells, j.spells);
          behind = j.behind;
          alike = record {
            ok = and_join _ _ i.alike.ok (sub_ok s j.twin u.1 j.alike);
            deep
                = deeper_two _ _ _ _ i.alike.deep j.alike.deep;
            statement = refl;
            no_if = refl;
            block = refl;
          };
        }
    twin_stmt (if_else p e s t) ts more h ok =
        let a = and_true (expr_at types 0 e) (is_statement s
        && (stmt_ok types s && (not (open_if s) && (is_statement t && stmt_ok types t)))) ok in
        let b = and_true (is_statement s) (stmt_ok types s
        && (not (open_if s) && (is_statement t && stmt_ok types t))) a.1 in
        let c = and_true (stmt_ok types s) (not (open_if s) && (is_statement t && stmt_ok types t)) b.1 in
        let u = under types (not (open_if s)) t c.1 in
        let tail = stmt_flat s ++ (key keys.Else ∷ stmt_flat t) in
        let f = first_of ts (key keys.If) (mark puncts.LeftParen
        ∷ ((expr_flat e ++ (mark puncts.RightParen ∷ tail)) ++ more)) h in
        let i = twin_condition types e f.0 tail more f.3 a.0 in
        let j = twin_stmt s i.rest (key keys.Else ∷ (stmt_flat t ++ more)) (again _ (stmt_flat s)
        (key keys.Else ∷ stmt_flat t) more i.behind) c.0 in
        let d = ends_with (key keys.Else) (stmt_flat t ++ more) j in
        let k = twin_stmt t d.0 more d.3 u.2 in
        let closed : not (open_if j.twin) ≡ true = ap (λ z. not z) j.alike.no_if ∙ u.0 in
        record {
          twin = if_else f.1 i.twin j.twin k.twin;
          rest = k.rest;
          spells
              = (f.0, i.rest, d.0, d.1, f.2, i.spells, d.2, k.spells);
          behind = k.behind;
          alike = record {
            ok = and_join _ _ i.alike.ok (and_join _ _ (j.alike.statement ∙ b.0)
                (and_join _ _ j.alike.ok (and_join _ _ closed (sub_ok t k.twin u.1 k.alike))));
            deep = deeper_two _ _ _ _
                i.alike.deep (wider _ _ _ _ j.alike.deep k.alike.deep);
            statement = refl;
            no_if = k.alike.no_if;
            block
                = refl;
          };
        }
    twin_stmt (while p e s) ts more h ok =
        let u = under types (expr_at types 0 e) s ok in
        let f = first_of ts (key keys.While) (mark puncts.LeftParen
        ∷ ((expr_flat e ++ (mark puncts.RightParen ∷ stmt_flat s)) ++ more)) h in
        let i = twin_condition types e f.0 (stmt_flat s) more f.3 u.0 in
        let j = twin_stmt s i.rest more i.behind u.2 in
        record {
          twin = while f.1 i.twin j.twin;
          rest = j.rest;
          spells = (f.0, i.rest, f.2, i.spells, j.spells);
          behind = j.behind;
          alike = record {
            ok = and_join _ _ i.alike.ok (sub_ok s j.twin u.1 j.alike);
            deep
                = deeper_two _ _ _ _ i.alike.deep j.alike.deep;
            statement = refl;
            no_if = j.alike.no_if;
            block = refl;
          };
        }
    twin_stmt (do_while p s e) ts more h ok =
        let a = and_true (is_statement s) (stmt_ok types s && expr_at types 0 e) ok in
        let b = and_true (stmt_ok types s) (expr_at types 0 e) a.1 in
        let tail = expr_flat e ++ (mark puncts.RightParen ∷ mark puncts.Semicolon ∷ []) in
        let f = first_of ts (key keys.Do) ((stmt_flat s ++ (key keys.While ∷ mark puncts.LeftParen ∷ tail)) ++ more)
        h in
        let j = twin_stmt s f.0 (key keys.While ∷ mark puncts.LeftParen ∷ (tail ++ more))
        (again _ (stmt_flat s) (key keys.While ∷ mark puncts.LeftParen ∷ tail) more f.3) b.0 in
        let d = ends_with (key keys.While) (mark puncts.LeftParen ∷ (tail ++ more)) j in
        let i = twin_condition types e d.0 (mark puncts.Semicolon ∷ []) more d.3 b.1 in
        let c = ends_with (mark puncts.Semicolon) more i in
        record {
          twin = do_while f.1 j.twin i.twin;
          rest = c.0;
          spells = (f.0, d.0, d.1, c.1, f.2, d.2, c.2);
          behind
              = c.3;
          alike = record {
            ok = and_join _ _ (j.alike.statement ∙ a.0) (and_join _ _ j.alike.ok i.alike.ok);
            deep = deeper_two _ _ _ _ j.alike.deep i.alike.deep;
            statement = refl;
            no_if = refl;
            block = refl;
          };
        }
    twin_stmt (for p a b c s) ts more h ok =
        let o = and_true (start_ok types a) (optional_ok types b
        && (optional_ok types c && (is_statement s && stmt_ok types s))) ok in
        let q = and_true (optional_ok types b) (optional_ok types c && (is_statement s && stmt_ok types s)) o.1 in
        let u = under types (optional_ok types c) s q.1 in
        let step = optional_flat c ++ (mark puncts.RightParen ∷ stmt_flat s) in
        let test = optional_flat b ++ (mark puncts.Semicolon ∷ step) in
        let f = two_of ts (key keys.For) (mark puncts.LeftParen) ((for_start_flat a ++ test) ++ more) h in
        let i = twin_start types a f.0 (test ++ more) (again _ (for_start_flat a) test more f.4) o.0 in
        let j = twin_optional types b i.rest (mark puncts.Semicolon ∷ (step ++ more))
        (again _ (optional_flat b) (mark puncts.Semicolon ∷ step) more i.behind) q.0 in
        let d = ends_with (mark puncts.Semicolon) (step ++ more) j in
        let k = twin_optional types c d.0 (mark puncts.RightParen ∷ (stmt_flat s ++ more))
        (again _ (optional_flat c) (mark puncts.RightParen ∷ stmt_flat s) more d.3) u.0 in
        let e = ends_with (mark puncts.RightParen) (stmt_flat s ++ more) k in
        let m = twin_stmt s e.0 more e.3 u.2 in
        record {
          twin = for f.1 i.twin j.twin k.twin m.twin;
          rest = m.rest;
          spells
              = (f.0, i.rest, d.0, e.0, f.2, d.1, e.1, f.3, i.spells, d.2, e.2, m.spells);
          behind = m.behind;
          alike
              = record {
                ok = and_join _ _ i.alike.ok (and_join _ _ j.alike.ok (and_join _ _ k.alike.ok
                    (sub_ok s m.twin u.1 m.alike)));
                deep = deeper_two _ _ _ _ (wider _ _ _ _ i.alike.deep j.alike.deep)
                    (wider _ _ _ _ k.alike.deep m.alike.deep);
                statement = refl;
                no_if = m.alike.no_if;
                block = refl;
              };
        }
    twin_stmt (switch p e s) ts more h ok =
        let u = under types (expr_at types 0 e) s ok in
        let f = first_of ts (key keys.Switch) (mark puncts.LeftParen
        ∷ ((expr_flat e ++ (mark puncts.RightParen ∷ stmt_flat s)) ++ more)) h in
        let i = twin_condition types e f.0 (stmt_flat s) more f.3 u.0 in
        let j = twin_stmt s i.rest more i.behind u.2 in
        record {
          twin = switch f.1 i.twin j.twin;
          rest = j.rest;
          spells = (f.0, i.rest, f.2, i.spells, j.spells);
          behind = j.behind;
          alike = record {
            ok = and_join _ _ i.alike.ok (sub_ok s j.twin u.1 j.alike);
            deep
                = deeper_two _ _ _ _ i.alike.deep j.alike.deep;
            statement = refl;
            no_if = j.alike.no_if;
            block = refl;
          };
        }
    twin_stmt (case p e s) ts more h ok =
        let u = under types (expr_at types 2 e) s ok in
        let f = first_of ts (key keys.Case) ((expr_flat e ++ (mark puncts.Colon ∷ stmt_flat s)) ++ more) h in
        let i = twin_expr types 2 e f.0 (mark puncts.Colon ∷ (stmt_flat s ++ more))
        (again _ (expr_flat e) (mark puncts.Colon ∷ stmt_flat s) more f.3) u.0 in
        let c = ends_with (mark puncts.Colon) (stmt_flat s ++ more) i in
        let j = twin_stmt s c.0 more c.3 u.2 in
        record {
          twin = case f.1 i.twin j.twin;
          rest = j.rest;
          spells = (f.0, c.0, c.1, f.2, c.2, j.spells);
          behind
              = j.behind;
          alike = record {
            ok = and_join _ _ i.alike.ok (sub_ok s j.twin u.1 j.alike);
            deep = deeper_two
                _ _ _ _ i.alike.deep j.alike.deep;
            statement = refl;
            no_if = j.alike.no_if;
            block = refl;
          };
        }
    twin_stmt (default p s) ts more h ok =
        let u = and_true (is_statement s) (stmt_ok types s) ok in
        let f = two_of ts (key keys.Default) (mark puncts.Colon) (stmt_flat s ++ more) h in
        let j = twin_stmt s f.0 more f.4 u.1 in
        record {
          twin = default f.1 j.twin;
          rest = j.rest;
          spells = (f.0, f.2, f.3, j.spells);
          behind = j.behind;
          alike = record {
            ok = sub_ok s j.twin u.0 j.alike;
            deep = deeper _ _ j.alike.deep;
            statement = refl;
            no_if
                = j.alike.no_if;
            block = refl;
          };
        }
    twin_stmt (label p n s) ts more h ok =
        let u = under types (is_word types n) s ok in
        let f = two_of ts (kind.Word n) (mark puncts.Colon) (stmt_flat s ++ more) h in
        let j = twin_stmt s f.0 more f.4 u.2 in
        record {
          twin = label f.1 n j.twin;
          rest = j.rest;
          spells = (f.0, f.2, f.3, j.spells);
          behind = j.behind;
          alike = record {
            ok = and_join _ _ u.0 (sub_ok s j.twin u.1 j.alike);
            deep = deeper _ _ j.alike.deep;
            statement = refl;
            no_if = j.alike.no_if;
            block = refl;
          };
        }
    twin_stmt (goto p n q) ts more h ok =
        let f = two_of ts (key keys.Goto) (kind.Word n) (mark puncts.Semicolon ∷ more) h in
        let c = first_of f.0 (mark puncts.Semicolon) more f.4 in
        record {
          twin = goto f.1 n f.2;
          rest = c.0;
          spells = (
            c.1,
            f.3
                ∙ ap (λ z. key_at keys.Goto f.1 ∷ (kind.Word n, f.2) ∷ z) c.2,
          );
          behind = c.3;
          alike = record
              { ok = ok; deep = refl; statement = refl; no_if = refl; block = refl };
        }
    twin_stmt (break p) ts more h ok =
        let f = two_of ts (key keys.Break) (mark puncts.Semicolon) more h in
        record {
          twin = break f.1;
          rest = f.0;
          spells = (f.2, f.3);
          behind = f.4;
          alike = record
              { ok = refl; deep = refl; statement = refl; no_if = refl; block = refl };
        }
    twin_stmt (continue p) ts more h ok =
        let f = two_of ts (key keys.Continue) (mark puncts.Semicolon) more h in
        record {
          twin = continue f.1;
          rest = f.0;
          spells = (f.2, f.3);
          behind = f.4;
          alike = record
              { ok = refl; deep = refl; statement = refl; no_if = refl; block = refl };
        }
    twin_stmt (return p e) ts more h ok =
        let f = first_of ts (key keys.Return) ((optional_flat e ++ mark puncts.Semicolon ∷ []) ++ more) h in
        let i = twin_optional types e f.0 (mark puncts.Semicolon
        ∷ more) (again _ (optional_flat e) (mark puncts.Semicolon ∷ []) more f.3) ok in
        let c = ends_with (mark puncts.Semicolon) more i in
        record {
          twin = return f.1 i.twin;
          rest = c.0;
          spells = (f.0, c.1, f.2, c.2);
          behind = c.3;
          alike = record
              { ok = i.alike.ok; deep = deeper _ _ i.alike.deep; statement = refl; no_if = refl; block = refl };
        }

    twin_stmts : (ss : Stmts) (ts : List Placed) (more : List Kind) → kinds ts ≡ stmts_flat ss ++ more
        → stmts_ok types ss ≡ true → Twin Stmts SpellsStmts (LikeStmts ss) ts more
    twin_stmts no_stmts ts more h ok = record {
      twin = no_stmts;
      rest = ts;
      spells = refl;
      behind = h;
      alike
          = record { ok = refl; deep = refl };
    }
    twin_stmts (stmt_and s ss) ts more h ok =
        let o = and_true (stmt_ok types s) (stmts_ok types ss) ok in
        let i = twin_stmt s ts (stmts_flat ss ++ more) (again _ (stmt_flat s) (stmts_flat ss) more h) o.0 in
        let j = twin_stmts ss i.rest more i.behind o.1 in
        record {
          twin = stmt_and i.twin j.twin;
          rest = j.rest;
          spells = (i.rest, i.spells, j.spells);
          behind
              = j.behind;
          alike = record {
            ok = and_join _ _ i.alike.ok j.alike.ok;
            deep = wider _ _ _ _ i.alike.deep
                j.alike.deep;
          };
        }
