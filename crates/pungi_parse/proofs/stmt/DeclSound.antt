-- What is read as a declaration of variables stands at the front of the tokens, is allowed, and is no deeper than it
-- may be.
--   Reads spelled allowed depth most    it is spelled, allowed, and no deeper than `most`
--   .._sound    what the reader of the same name gives
use Rattle.std.proofs.Common.{◌≡◌, ℕ, zero, suc, ◌≤◌, Bool, true, inl, inr, List, [], ◌∷◌, length, Option, Some, None}
use Rattle.std.proofs.Common.{refl, sym, ◌∙◌, ap, subst, arith}
use Rattle.pungi_base.specs.declared.names.Name.{Name}
use Rattle.pungi_base.specs.declared.pos.Pos.{Pos}
use Rattle.pungi_base.specs.declared.punct.Punct.{Punct}
use Rattle.pungi_base.specs.declared.punct.Punct.TheVariants as puncts
use Rattle.pungi_parse.specs.Readers.{readers}
use Rattle.pungi_parse.specs.stmt.StmtReader.{first_value, init_at, var_at, more_vars, vars_at, decl_at, optional}
use Rattle.pungi_parse.specs.stmt.StmtReader.{condition, start_at}
use Rattle.pungi_parse.specs.types.TypeReader.{keywords}
use Rattle.pungi_parse.proofs.stmt.TableTheorems.{table_sound}
use Rattle.pungi_parse.proofs.tokens.Eaten.{eat_some}
use Rattle.pungi_parse.proofs.Tools.{bind_some, on_some_cases, some_same, when_some, and_join}
use Rattle.pungi_parse.proofs.expr.TypeExprTheorems.{expr_sound, spec_sound, declr_sound}
use Rattle.pungi_parse.proofs.tokens.WordReadings.{keywords_sound}
use Rattle.pungi_tree.specs.ExprDepth.{expr_depth}
use Rattle.pungi_tree.specs.ExprLevels.{expr_at}
use Rattle.pungi_tree.specs.ExprSpells.{Spells}
use Rattle.pungi_tree.specs.Operators.{is_qualifier}
use Rattle.pungi_tree.specs.Placed.{Placed, mark_at}
use Rattle.pungi_tree.specs.StmtDepth.{optional_depth, init_depth, var_depth, vars_depth, decl_depth, start_depth}
use Rattle.pungi_tree.specs.StmtLevels.{optional_ok, init_ok, var_ok, vars_ok, some_vars_ok, decl_ok, start_ok}
use Rattle.pungi_tree.specs.StmtSpells.{SpellsInit, SpellsVar, SpellsMoreVars, SpellsVars, SpellsDecl, SpellsOptional}
use Rattle.pungi_tree.specs.StmtSpells.{SpellsCondition, SpellsStart}
use Rattle.pungi_tree.specs.Syntax.{Expr, Init, value, table, VarDecl, var_decl, Decl, decl, ForStart, start_decl}
use Rattle.pungi_tree.specs.Syntax.{start_expr}

pub record Reads (spelled : Type 0) (allowed : Bool) (depth most : ℕ) : Type 0 where
  pub spells : spelled
  pub ok : allowed ≡ true
  pub shallow : depth ≤ most

abbrev pub ReadsDecl : List Name → ℕ → List Placed → Decl × List Placed → Type 0
ReadsDecl types d ts x = Reads (SpellsDecl x.0 ts x.1) (decl_ok types x.0) (decl_depth x.0) d

abbrev pub ReadsOptional : List Name → ℕ → Punct → List Placed → Option Expr × List Placed → Type 0
ReadsOptional types d m ts x =
    Reads ((q : Pos) × SpellsOptional x.0 ts (mark_at m q ∷ x.1)) (optional_ok types x.0) (optional_depth x.0) d

abbrev pub ReadsCondition : List Name → ℕ → List Placed → Expr × List Placed → Type 0
ReadsCondition types d ts x = Reads (SpellsCondition x.0 ts x.1) (expr_at types 0 x.0) (expr_depth x.0) d

abbrev pub ReadsStart : List Name → ℕ → List Placed → ForStart × List Placed → Type 0
ReadsStart types d ts x = Reads (SpellsStart x.0 ts x.1) (start_ok types x.0) (start_depth x.0) d

abbrev ReadsInit : List Name → ℕ → List Placed → Option Init × List Placed → Type 0
ReadsInit types d ts x = Reads (SpellsInit x.0 ts x.1) (init_ok types x.0) (init_depth x.0) d

abbrev ReadsVar : List Name → ℕ → List Placed → VarDecl × List Placed → Type 0
ReadsVar types d ts x = Reads (SpellsVar x.0 ts x.1) (var_ok types x.0) (var_depth x.0) d

abbrev ReadsMoreVars : List Name → ℕ → List Placed → List VarDecl × List Placed → Type 0
ReadsMoreVars types d ts x = Reads (SpellsMoreVars x.0 ts x.1) (vars_ok types x.0) (vars_depth x.0) d

abbrev pub ReadsVars : List Name → ℕ → List Placed → List VarDecl × List Placed → Type 0
ReadsVars types d ts x =
    Reads ((q : Pos) × SpellsVars x.0 ts (mark_at puncts.Semicolon q ∷ x.1)) (some_vars_ok types x.0)
    (vars_depth x.0) d

module _ (types : List Name) (n d : ℕ) where
  first_value_sound : (p : Pos) (ts inner : List Placed) (x : Init × List Placed)
      → ts ≡ mark_at puncts.Assign p ∷ inner → first_value types (readers types n d) inner ≡ Some x
      → ReadsInit types d ts (Some x.0, x.1)
  unfolding first_value
  first_value_sound p ts inner x front h = elim (on_some_cases _ _ _ _ h) [
    | inl o ↦
        let ks = bind_some _ _ _ o.2 in
        let r = table_sound [] o.0.1 ks.0 ks.1 in
        let e : (table ks.0.0, ks.0.1) ≡ x = some_same (table ks.0.0, ks.0.1) x ks.2 in
        let s : SpellsInit (Some (table ks.0.0)) ts ks.0.1 = (
          p,
          o.0.0,
          r.close,
          front
              ∙ ap (λ z. mark_at puncts.Assign p ∷ z) (eat_some puncts.LeftBrace inner o.0 o.1
              ∙ ap (λ z. mark_at puncts.LeftBrace o.0.0 ∷ z) r.stands),
        ) in
        subst (λ z. ReadsInit types d ts (Some z.0, z.1)) e (record {
          spells = s;
          ok = r.closed;
          shallow = omega
              arith;
        })
    | inr w ↦
        let i = bind_some _ _ _ w.1 in
        let r = expr_sound types n d 1 inner i.0 i.1 (omega arith) in
        let e : (value i.0.0, i.0.1) ≡ x = some_same (value i.0.0, i.0.1) x i.2 in
        let s : SpellsInit (Some (value i.0.0)) ts i.0.1 = (inner, p, front, r.spells) in
        subst (λ z. ReadsInit types d ts (Some z.0, z.1)) e (record { spells = s; ok = r.allowed; shallow = r.shallow })
  ]

  init_sound : (ts : List Placed) (x : Option Init × List Placed) → init_at types (readers types n d) ts ≡ Some x
      → ReadsInit types d ts x
  unfolding init_at
  init_sound ts x h = elim (on_some_cases _ _ _ _ h) [
    | inl a ↦
        let i = bind_some _ _ _ a.2 in
        let r = first_value_sound a.0.0 ts a.0.1 i.0 (eat_some puncts.Assign ts a.0 a.1) i.1 in
        subst (ReadsInit types d ts) (some_same (Some i.0.0, i.0.1) x i.2) r
    | inr w ↦ subst (ReadsInit types d ts) (some_same (None, ts) x w.1) (record
        { spells = refl; ok = refl; shallow = omega arith })
  ]

  var_sound : (ts : List Placed) (x : VarDecl × List Placed) → var_at types (readers types n d) ts ≡ Some x
      → ReadsVar types d ts x
  unfolding var_at
  var_sound ts x h =
      let c = bind_some _ _ _ h in
      let i = bind_some _ _ _ c.2 in
      let rc = declr_sound types n d ts c.0 c.1 in
      let ri = init_sound c.0.1 i.0 i.1 in
      let e : (var_decl c.0.0 i.0.0, i.0.1) ≡ x = some_same (var_decl c.0.0 i.0.0, i.0.1) x i.2 in
      let s : SpellsVar (var_decl c.0.0 i.0.0) ts i.0.1 = (c.0.1, rc.spells, ri.spells) in
      subst (ReadsVar types d ts) e (record {
        spells = s;
        ok = and_join _ _ rc.allowed ri.ok;
        shallow = omega
            (arith, rc.shallow, ri.shallow);
      })

  more_vars_sound : (k : ℕ) (ts : List Placed) (x : List VarDecl × List Placed)
      → more_vars types (readers types n d) k ts ≡ Some x → ReadsMoreVars types d ts x
  unfolding more_vars
  more_vars_sound zero ts x h = absurd (cc)
  more_vars_sound (suc k) ts x h = elim (on_some_cases _ _ _ _ h) [
    | inl c ↦
        let v = bind_some _ _ _ c.2 in
        let vs = bind_some _ _ _ v.2 in
        let rv = var_sound c.0.1 v.0 v.1 in
        let rs = more_vars_sound k v.0.1 vs.0 vs.1 in
        let s : SpellsMoreVars (v.0.0 ∷ vs.0.0) ts vs.0.1 = (
          c.0.1,
          v.0.1,
          c.0.0,
          eat_some puncts.Comma ts c.0 c.1,
          rv.spells,
          rs.spells,
        ) in
        subst (ReadsMoreVars types d ts) (some_same (v.0.0 ∷ vs.0.0, vs.0.1) x vs.2)
        (record { spells = s; ok = and_join _ _ rv.ok rs.ok; shallow = omega (arith, rv.shallow, rs.shallow) })
    | inr w ↦ subst (ReadsMoreVars types d ts) (some_same ([], ts) x w.1) (record
        { spells = refl; ok = refl; shallow = omega arith })
  ]

  pub vars_sound : (ts : List Placed) (x : List VarDecl × List Placed)
      → vars_at types (readers types n d) ts ≡ Some x → ReadsVars types d ts x
  unfolding vars_at
  vars_sound ts x h =
      let v = bind_some _ _ _ h in
      let vs = bind_some _ _ _ v.2 in
      let c = bind_some _ _ _ vs.2 in
      let rv = var_sound ts v.0 v.1 in
      let rs = more_vars_sound (suc (length v.0.1)) v.0.1 vs.0 vs.1 in
      let s : (q : Pos) × SpellsVars (v.0.0 ∷ vs.0.0) ts (mark_at puncts.Semicolon q ∷ c.0.1)
      = (
        c.0.0,
        (
          v.0.1,
          rv.spells,
          subst (λ z. SpellsMoreVars vs.0.0 v.0.1 z)
              (eat_some puncts.Semicolon vs.0.1 c.0 c.1) rs.spells,
        ),
      ) in
      subst (ReadsVars types d ts) (some_same (v.0.0 ∷ vs.0.0, c.0.1) x c.2)
      (record { spells = s; ok = and_join _ _ rv.ok rs.ok; shallow = omega (arith, rv.shallow, rs.shallow) })

  pub decl_sound : (ts : List Placed) (x : Decl × List Placed) → decl_at types (readers types n d) ts ≡ Some x
      → ReadsDecl types d ts x
  unfolding decl_at
  decl_sound ts x h =
      let b = bind_some _ _ _ h in
      let vs = bind_some _ _ _ b.2 in
      let q = keywords is_qualifier ts in
      let rq = keywords_sound is_qualifier ts in
      let rb = spec_sound types n d q.1 b.0 b.1 in
      let rs = vars_sound b.0.1 vs.0 vs.1 in
      let s : SpellsDecl (decl q.0 b.0.0 vs.0.0) ts vs.0.1 = (q.1, b.0.1, rs.spells.0, rq.0, rb.spells, rs.spells.1) in
      subst (ReadsDecl types d ts) (some_same (decl q.0 b.0.0 vs.0.0, vs.0.1) x vs.2)
      (record {
        spells = s;
        ok = and_join _ _ rq.1 (and_join _ _ rb.allowed rs.ok);
        shallow = omega
            (arith, rb.shallow, rs.shallow);
      })

  pub optional_sound : (m : Punct) (ts : List Placed) (x : Option Expr × List Placed)
      → optional types (readers types n d) m ts ≡ Some x → ReadsOptional types d m ts x
  unfolding optional
  optional_sound m ts x h = elim (on_some_cases _ _ _ _ h) [
    | inl c ↦
        let s : (q : Pos) × SpellsOptional None ts (mark_at m q ∷ c.0.1) = (c.0.0, eat_some m ts c.0 c.1) in
        subst (ReadsOptional types d m ts) (some_same (None, c.0.1) x c.2) (record
        { spells = s; ok = refl; shallow = omega arith })
    | inr w ↦
        let i = bind_some _ _ _ w.1 in
        let c = bind_some _ _ _ i.2 in
        let r = expr_sound types n d 0 ts i.0 i.1 (omega arith) in
        let s : (q : Pos) × SpellsOptional (Some i.0.0) ts (mark_at m q ∷ c.0.1)
        = (c.0.0, subst (λ z. Spells i.0.0 ts z) (eat_some m i.0.1 c.0 c.1) r.spells) in
        subst (ReadsOptional types d m ts) (some_same (Some i.0.0, c.0.1) x c.2)
        (record { spells = s; ok = r.allowed; shallow = r.shallow })
  ]

  pub condition_sound : (ts : List Placed) (x : Expr × List Placed)
      → condition types (readers types n d) ts ≡ Some x → ReadsCondition types d ts x
  unfolding condition
  condition_sound ts x h =
      let o = bind_some _ _ _ h in
      let i = bind_some _ _ _ o.2 in
      let c = bind_some _ _ _ i.2 in
      let r = expr_sound types n d 0 o.0.1 i.0 i.1 (omega arith) in
      let s : SpellsCondition i.0.0 ts c.0.1 = (
        o.0.1,
        o.0.0,
        c.0.0,
        eat_some puncts.LeftParen ts o.0 o.1,
        subst
            (λ z. Spells i.0.0 o.0.1 z) (eat_some puncts.RightParen i.0.1 c.0 c.1) r.spells,
      ) in
      subst (ReadsCondition types d ts) (some_same (i.0.0, c.0.1) x c.2) (record
      { spells = s; ok = r.allowed; shallow = r.shallow })

  pub start_sound : (ts : List Placed) (x : ForStart × List Placed) → start_at types (readers types n d) ts ≡ Some x
      → ReadsStart types d ts x
  unfolding start_at
  start_sound ts x h = elim (on_some_cases _ _ _ _ h) [
    | inl u ↦
        let g = when_some _ _ _ u.1 in
        let i = bind_some _ _ _ u.2 in
        let r = decl_sound u.0 i.0 i.1 in
        let same : ts ≡ u.0 = some_same ts u.0 g.1 in
        let s : SpellsStart (start_decl i.0.0) ts i.0.1 = subst (λ z. SpellsDecl i.0.0 z i.0.1) (sym same) r.spells in
        subst (ReadsStart types d ts) (some_same (start_decl i.0.0, i.0.1) x i.2)
        (record { spells = s; ok = r.ok; shallow = r.shallow })
    | inr w ↦
        let i = bind_some _ _ _ w.1 in
        let r = optional_sound puncts.Semicolon ts i.0 i.1 in
        let s : SpellsStart (start_expr i.0.0) ts i.0.1 = r.spells in
        subst (ReadsStart types d ts) (some_same (start_expr i.0.0, i.0.1) x i.2)
        (record { spells = s; ok = r.ok; shallow = r.shallow })
  ]
