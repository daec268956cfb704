-- Declarations, conditions, and what begins a `for` have twins: where the kinds of tokens begin with those of a tree that
-- is allowed, the same tree with other places stands there.
--   LikeDecl, LikeOptional, LikeStart                   an allowed tree, as deep as the other
--   twin_decl, twin_optional, twin_condition, twin_start    the twin
use Rattle.std.proofs.Common.{◌≡◌, true, List, [], ◌∷◌, ◌++◌, Option, Some, None, refl, ◌∙◌, ap}
use Rattle.std.specs.Prelude.{◌&&◌}
use Rattle.pungi_base.specs.declared.kind.Kind.{Kind}
use Rattle.pungi_base.specs.declared.names.Name.{Name}
use Rattle.pungi_base.specs.declared.punct.Punct.{Punct}
use Rattle.pungi_base.specs.declared.punct.Punct.TheVariants as puncts
use Rattle.pungi_parse.proofs.twins.ExprLikes.{LikeExpr}
use Rattle.pungi_parse.proofs.twins.ExprTwins.{twin_expr, twin_spec, twin_declr}
use Rattle.pungi_parse.proofs.Tools.{and_true, and_join}
use Rattle.pungi_parse.proofs.twins.Twin.{same_head, same_tail, Twin, Alike, wider, first_of, two_of, again, ends_with}
use Rattle.pungi_parse.proofs.twins.Twin.{twin_keys}
use Rattle.pungi_tree.specs.Balanced.{awaited_after, holds_of, closes}
use Rattle.pungi_tree.specs.ExprFlat.{expr_flat, spec_flat, declr_flat}
use Rattle.pungi_tree.specs.ExprLevels.{expr_at, spec_ok, declr_ok}
use Rattle.pungi_tree.specs.Operators.{is_qualifier, all_keys}
use Rattle.pungi_tree.specs.Placed.{Placed, kinds, mark_at}
use Rattle.pungi_tree.specs.StmtDepth.{optional_depth, init_depth, var_depth, vars_depth, decl_depth, start_depth}
use Rattle.pungi_tree.specs.StmtFlat.{optional_flat, init_flat, var_decl_flat, vars_flat, more_vars_flat, decl_flat}
use Rattle.pungi_tree.specs.StmtFlat.{for_start_flat}
use Rattle.pungi_tree.specs.StmtLevels.{optional_ok, init_ok, var_ok, vars_ok, some_vars_ok, decl_ok, start_ok}
use Rattle.pungi_tree.specs.StmtSpells.{SpellsInit, SpellsVar, SpellsVars, SpellsMoreVars, SpellsDecl, SpellsOptional}
use Rattle.pungi_tree.specs.StmtSpells.{SpellsCondition, SpellsStart}
use Rattle.pungi_tree.specs.Syntax.{Expr, Init, value, table, VarDecl, var_decl, Decl, decl, ForStart, start_decl}
use Rattle.pungi_tree.specs.Syntax.{start_expr}
use Rattle.pungi_tree.specs.Tokens.{mark, keys_flat}

-- brackets match by their kinds
closes_kinds : (ks js : List Placed) (awaited : List Punct) → kinds ks ≡ kinds js
    → closes ks awaited ≡ closes js awaited
closes_kinds [] [] awaited h = refl
closes_kinds [] (j ∷ js) awaited h = absurd (cc)
closes_kinds (k ∷ ks) [] awaited h = absurd (cc)
closes_kinds (k ∷ ks) (j ∷ js) awaited h =
    ap (λ z. holds_of (awaited_after z awaited) (closes ks)) (same_head k.0 j.0 (kinds ks) (kinds js) h)
    ∙ by_what (awaited_after j.0 awaited) (λ after. closes_kinds ks js after
    (same_tail k.0 j.0 (kinds ks) (kinds js) h))
  where
    by_what : (o : Option (List Punct)) → ((after : List Punct) → closes ks after ≡ closes js after)
        → holds_of o (closes ks) ≡ holds_of o (closes js)
    by_what None f = refl
    by_what (Some after) f = f after

-- the tokens of a table
twin_table : (ks ts : List Placed) (more : List Kind) → kinds ts ≡ kinds ks ++ more
    → (js rest : List Placed) × (ts ≡ js ++ rest) × (kinds js ≡ kinds ks) × (kinds rest ≡ more)
twin_table [] ts more h = ([], ts, refl, refl, h)
twin_table (k ∷ ks) ts more h =
    let f = first_of ts k.0 (kinds ks ++ more) h in
    let r = twin_table ks f.0 more f.3 in
    ((k.0, f.1) ∷ r.0, r.1, f.2 ∙ ap (λ z. (k.0, f.1) ∷ z) r.2, ap (λ z. k.0 ∷ z) r.3, r.4)

module _ (types : List Name) where
  abbrev pub LikeOptional : Option Expr → Option Expr → Type 0
  LikeOptional e x = Alike (optional_ok types x) (optional_depth x) (optional_depth e)

  abbrev LikeInit : Option Init → Option Init → Type 0
  LikeInit i x = Alike (init_ok types x) (init_depth x) (init_depth i)

  abbrev LikeVar : VarDecl → VarDecl → Type 0
  LikeVar v x = Alike (var_ok types x) (var_depth x) (var_depth v)

  abbrev LikeVars : List VarDecl → List VarDecl → Type 0
  LikeVars vs x = Alike (vars_ok types x) (vars_depth x) (vars_depth vs)

  abbrev LikeSomeVars : List VarDecl → List VarDecl → Type 0
  LikeSomeVars vs x = Alike (some_vars_ok types x) (vars_depth x) (vars_depth vs)

  abbrev pub LikeDecl : Decl → Decl → Type 0
  LikeDecl c x = Alike (decl_ok types x) (decl_depth x) (decl_depth c)

  abbrev pub LikeStart : ForStart → ForStart → Type 0
  LikeStart a x = Alike (start_ok types x) (start_depth x) (start_depth a)

  pub twin_optional : (e : Option Expr) (ts : List Placed) (more : List Kind) → kinds ts ≡ optional_flat e ++ more
      → optional_ok types e ≡ true → Twin (Option Expr) SpellsOptional (LikeOptional e) ts more
  twin_optional None ts more h ok = record {
    twin = None;
    rest = ts;
    spells = refl;
    behind = h;
    alike = record
        { ok = refl; deep = refl };
  }
  twin_optional (Some e) ts more h ok =
      let i = twin_expr types 0 e ts more h ok in
      record {
        twin = Some i.twin;
        rest = i.rest;
        spells = i.spells;
        behind = i.behind;
        alike = record
            { ok = i.alike.ok; deep = i.alike.deep };
      }

  pub twin_condition : (e : Expr) (ts : List Placed) (after more : List Kind)
      → kinds ts ≡ mark puncts.LeftParen ∷ ((expr_flat e ++ (mark puncts.RightParen ∷ after)) ++ more)
      → expr_at types 0 e ≡ true → Twin Expr SpellsCondition (LikeExpr types 0 e) ts (after ++ more)
  twin_condition e ts after more h ok =
      let f = first_of ts (mark puncts.LeftParen) ((expr_flat e ++ (mark puncts.RightParen ∷ after)) ++ more) h in
      let i = twin_expr types 0 e f.0 (mark puncts.RightParen ∷ (after ++ more))
      (again _ (expr_flat e) (mark puncts.RightParen ∷ after) more f.3) ok in
      let c = ends_with (mark puncts.RightParen) (after ++ more) i in
      record { twin = i.twin; rest = c.0; spells = (f.0, f.1, c.1, f.2, c.2); behind = c.3; alike = i.alike }

  twin_init : (i : Option Init) (ts : List Placed) (more : List Kind) → kinds ts ≡ init_flat i ++ more
      → init_ok types i ≡ true → Twin (Option Init) SpellsInit (LikeInit i) ts more
  twin_init None ts more h ok = record {
    twin = None;
    rest = ts;
    spells = refl;
    behind = h;
    alike = record
        { ok = refl; deep = refl };
  }
  twin_init (Some (value e)) ts more h ok =
      let f = first_of ts (mark puncts.Assign) (expr_flat e ++ more) h in
      let i = twin_expr types 1 e f.0 more f.3 ok in
      record {
        twin = Some (value i.twin);
        rest = i.rest;
        spells = (f.0, f.1, f.2, i.spells);
        behind = i.behind;
        alike = record { ok = i.alike.ok; deep = i.alike.deep };
      }
  twin_init (Some (table ks)) ts more h ok =
      let f = two_of ts (mark puncts.Assign) (mark puncts.LeftBrace) ((kinds ks ++ mark puncts.RightBrace ∷ [])
      ++ more) h in
      let r = twin_table ks f.0 (mark puncts.RightBrace ∷ more) (again _ (kinds ks) (mark puncts.RightBrace ∷ [])
      more f.4) in
      let c = first_of r.1 (mark puncts.RightBrace) more r.4 in
      let at = f.3 ∙ ap (λ z. mark_at puncts.Assign f.1 ∷ mark_at puncts.LeftBrace f.2 ∷ z)
      (r.2 ∙ ap (λ z. r.0 ++ z) c.2) in
      record {
        twin = Some (table r.0);
        rest = c.0;
        spells = (f.1, f.2, c.1, at);
        behind = c.3;
        alike = record
            { ok = closes_kinds r.0 ks [] r.3 ∙ ok; deep = refl };
      }

  twin_var : (v : VarDecl) (ts : List Placed) (more : List Kind) → kinds ts ≡ var_decl_flat v ++ more
      → var_ok types v ≡ true → Twin VarDecl SpellsVar (LikeVar v) ts more
  twin_var (var_decl c i) ts more h ok =
      let o = and_true (declr_ok types c) (init_ok types i) ok in
      let x = twin_declr types c ts (init_flat i ++ more) (again _ (declr_flat c) (init_flat i) more h) o.0 in
      let y = twin_init i x.rest more x.behind o.1 in
      record {
        twin = var_decl x.twin y.twin;
        rest = y.rest;
        spells = (x.rest, x.spells, y.spells);
        behind
            = y.behind;
        alike = record {
          ok = and_join _ _ x.alike.ok y.alike.ok;
          deep = wider _ _ _ _ x.alike.deep
              y.alike.deep;
        };
      }

  twin_more_vars : (vs : List VarDecl) (ts : List Placed) (more : List Kind) → kinds ts ≡ more_vars_flat vs ++ more
      → vars_ok types vs ≡ true → Twin (List VarDecl) SpellsMoreVars (LikeVars vs) ts more
  twin_more_vars [] ts more h ok = record {
    twin = [];
    rest = ts;
    spells = refl;
    behind = h;
    alike = record
        { ok = refl; deep = refl };
  }
  twin_more_vars (v ∷ vs) ts more h ok =
      let o = and_true (var_ok types v) (vars_ok types vs) ok in
      let f = first_of ts (mark puncts.Comma) ((var_decl_flat v ++ more_vars_flat vs) ++ more) h in
      let i = twin_var v f.0 (more_vars_flat vs ++ more) (again _ (var_decl_flat v) (more_vars_flat vs) more f.3) o.0 in
      let j = twin_more_vars vs i.rest more i.behind o.1 in
      record {
        twin = i.twin ∷ j.twin;
        rest = j.rest;
        spells = (f.0, i.rest, f.1, f.2, i.spells, j.spells);
        behind
            = j.behind;
        alike = record {
          ok = and_join _ _ i.alike.ok j.alike.ok;
          deep = wider _ _ _ _ i.alike.deep
              j.alike.deep;
        };
      }

  twin_vars : (vs : List VarDecl) (ts : List Placed) (more : List Kind) → kinds ts ≡ vars_flat vs ++ more
      → some_vars_ok types vs ≡ true → Twin (List VarDecl) SpellsVars (LikeSomeVars vs) ts more
  twin_vars [] ts more h ok = record {
    twin = [];
    rest = ts;
    spells = refl;
    behind = h;
    alike = record
        { ok = ok; deep = refl };
  }
  twin_vars (v ∷ vs) ts more h ok =
      let o = and_true (var_ok types v) (vars_ok types vs) ok in
      let i = twin_var v ts (more_vars_flat vs ++ more) (again _ (var_decl_flat v) (more_vars_flat vs) more h) o.0 in
      let j = twin_more_vars vs i.rest more i.behind o.1 in
      record {
        twin = i.twin ∷ j.twin;
        rest = j.rest;
        spells = (i.rest, i.spells, j.spells);
        behind = j.behind;
        alike = record { ok = and_join _ _ i.alike.ok j.alike.ok; deep = wider _ _ _ _ i.alike.deep j.alike.deep };
      }

  pub twin_decl : (c : Decl) (ts : List Placed) (more : List Kind) → kinds ts ≡ decl_flat c ++ more
      → decl_ok types c ≡ true → Twin Decl SpellsDecl (LikeDecl c) ts more
  twin_decl (decl qs b vs) ts more h ok =
      let o = and_true (all_keys is_qualifier qs) (spec_ok types b && some_vars_ok types vs) ok in
      let q = and_true (spec_ok types b) (some_vars_ok types vs) o.1 in
      let k = twin_keys qs ts ((spec_flat b ++ (vars_flat vs ++ mark puncts.Semicolon ∷ [])) ++ more)
      (again _ (keys_flat qs) (spec_flat b ++ (vars_flat vs ++ mark puncts.Semicolon ∷ [])) more h) in
      let i = twin_spec types b k.0 ((vars_flat vs ++ mark puncts.Semicolon ∷ []) ++ more)
      (again _ (spec_flat b) (vars_flat vs ++ mark puncts.Semicolon ∷ []) more k.2) q.0 in
      let j = twin_vars vs i.rest (mark puncts.Semicolon
      ∷ more) (again _ (vars_flat vs) (mark puncts.Semicolon ∷ []) more i.behind) q.1 in
      let c = ends_with (mark puncts.Semicolon) more j in
      record {
        twin = decl qs i.twin j.twin;
        rest = c.0;
        spells = (k.0, i.rest, c.1, k.1, i.spells, c.2);
        behind
            = c.3;
        alike = record {
          ok = and_join _ _ o.0 (and_join _ _ i.alike.ok j.alike.ok);
          deep = wider _ _ _ _
              i.alike.deep j.alike.deep;
        };
      }

  pub twin_start : (a : ForStart) (ts : List Placed) (more : List Kind) → kinds ts ≡ for_start_flat a ++ more
      → start_ok types a ≡ true → Twin ForStart SpellsStart (LikeStart a) ts more
  twin_start (start_decl c) ts more h ok =
      let i = twin_decl c ts more h ok in
      record {
        twin = start_decl i.twin;
        rest = i.rest;
        spells = i.spells;
        behind = i.behind;
        alike = record
            { ok = i.alike.ok; deep = i.alike.deep };
      }
  twin_start (start_expr e) ts more h ok =
      let i = twin_optional e ts (mark puncts.Semicolon ∷ more) (again _ (optional_flat e)
      (mark puncts.Semicolon ∷ []) more h) ok in
      let c = ends_with (mark puncts.Semicolon) more i in
      record {
        twin = start_expr i.twin;
        rest = c.0;
        spells = (c.1, c.2);
        behind = c.3;
        alike = record
            { ok = i.alike.ok; deep = i.alike.deep };
      }
