-- A declaration of variables that stands at the front of the tokens is read.
--   .._complete      the reader of the same name gives what stands there
use Rattle.std.proofs.Common.{◌≡◌, ℕ, zero, suc, ◌<◌, ◌≤◌, true, false, List, [], ◌∷◌, length, Option, Some, None, refl}
use Rattle.std.proofs.Common.{ap, arith}
use Rattle.std.specs.Prelude.{◌&&◌}
use Rattle.pungi_base.specs.declared.names.Name.{Name}
use Rattle.pungi_base.specs.declared.pos.Pos.{Pos}
use Rattle.pungi_base.specs.declared.punct.Punct.{Punct}
use Rattle.pungi_base.specs.declared.punct.Punct.TheVariants as puncts
use Rattle.pungi_parse.specs.tokens.OneToken.{eat}
use Rattle.pungi_parse.specs.Reading.{chain, on_some, when}
use Rattle.pungi_parse.specs.Readers.{readers}
use Rattle.pungi_parse.specs.stmt.StmtReader.{first_value, init_at, var_at, more_vars, vars_at, decl_at, optional}
use Rattle.pungi_parse.specs.stmt.StmtReader.{condition, start_at}
use Rattle.pungi_parse.specs.types.TypeReader.{type_word, begins_type, begins_decl}
use Rattle.pungi_parse.proofs.tokens.FirstTokens.{is_expr_mark}
use Rattle.pungi_parse.proofs.stmt.DeclFronts.{VarEnds, more_vars_end, var_begins, no_size_before, var_shorter}
use Rattle.pungi_parse.proofs.tokens.Ends.{ExprEnds, ends_at_paren, ends_at_semicolon}
use Rattle.pungi_parse.proofs.stmt.TableTheorems.{table_complete}
use Rattle.pungi_parse.proofs.Tools.{and_true}
use Rattle.pungi_parse.proofs.expr.TypeExprTheorems.{expr_begins, spec_begins, decl_begins, spec_shorter, declr_shorter}
use Rattle.pungi_parse.proofs.expr.TypeExprTheorems.{expr_complete, spec_complete, declr_complete}
use Rattle.pungi_parse.proofs.tokens.WordReadings.{keywords_complete, keys_no_longer}
use Rattle.pungi_tree.specs.ExprDepth.{expr_depth}
use Rattle.pungi_tree.specs.ExprLevels.{expr_at, spec_ok}
use Rattle.pungi_tree.specs.Operators.{is_qualifier, all_keys}
use Rattle.pungi_tree.specs.Placed.{Placed, mark_at}
use Rattle.pungi_tree.specs.StmtDepth.{optional_depth, init_depth, var_depth, vars_depth, decl_depth, start_depth}
use Rattle.pungi_tree.specs.StmtLevels.{optional_ok, init_ok, var_ok, vars_ok, some_vars_ok, decl_ok, start_ok}
use Rattle.pungi_tree.specs.StmtSpells.{SpellsInit, SpellsVar, SpellsMoreVars, SpellsVars, SpellsDecl, SpellsOptional}
use Rattle.pungi_tree.specs.StmtSpells.{SpellsCondition, SpellsStart}
use Rattle.pungi_tree.specs.Syntax.{Expr, Init, value, table, VarDecl, var_decl, Decl, decl, ForStart, start_decl}
use Rattle.pungi_tree.specs.Syntax.{start_expr}

pub not_both : false ≡ true → ⊥
not_both h = cc

module _ (types : List Name) (n d : ℕ) where
  init_complete : (i : Option Init) (ts rest : List Placed) → SpellsInit i ts rest → init_ok types i ≡ true
      → init_depth i ≤ d → length ts ≤ n → VarEnds rest → init_at types (readers types n d) ts ≡ Some (i, rest)
  unfolding init_at first_value chain on_some
  init_complete None ts rest s ok deep h e = rw (s, e.no_value) refl
  init_complete (Some (value v)) ts rest s ok deep h e =
      let r = expr_complete types n d 1 v s.0 rest s.3 ok deep (omega (arith, ap length s.2, h)) e.ends (omega arith) in
      rw (s.2, (expr_begins types 1 v _ _ s.3 ok).no_mark puncts.LeftBrace refl, r) refl
  init_complete (Some (table ks)) ts rest s ok deep h e = rw (s.3, table_complete [] ks rest s.2 ok) refl

  pub var_complete : (v : VarDecl) (ts rest : List Placed) → SpellsVar v ts rest → var_ok types v ≡ true
      → var_depth v ≤ d → length ts ≤ n → VarEnds rest → var_at types (readers types n d) ts ≡ Some (v, rest)
  unfolding var_at chain
  var_complete (var_decl c i) ts rest s ok deep h e =
      let o = and_true _ _ ok in
      let r = declr_complete types n d c ts s.0 s.1 o.0 (omega arith) h (no_size_before i _ rest s.2 e) in
      let v = init_complete i s.0 rest s.2 o.1 (omega arith) (omega (arith, declr_shorter c _ _ s.1)) e in
      rw (r, v) refl

  more_vars_complete : (vs : List VarDecl) (k : ℕ) (q : Pos) (ts rest : List Placed)
      → SpellsMoreVars vs ts (mark_at puncts.Semicolon q ∷ rest) → vars_ok types vs ≡ true → vars_depth vs ≤ d
      → length ts ≤ n → length ts < k → more_vars types (readers types n d) k ts
      ≡ Some (vs, mark_at puncts.Semicolon q ∷ rest)
  unfolding more_vars chain on_some
  more_vars_complete vs zero q ts rest s ok deep h f = absurd (omega arith)
  more_vars_complete [] (suc k) q ts rest s ok deep h f = rw s refl
  more_vars_complete (v ∷ vs) (suc k) q ts rest s ok deep h f =
      let o = and_true (var_ok types v) (vars_ok types vs) ok in
      let less : length s.0 < length ts = rw s.3 (omega arith) in
      let r = var_complete v s.0 s.1 s.4 o.0 (omega arith) (omega arith) (more_vars_end vs q s.1 rest s.5) in
      let more = more_vars_complete vs k q s.1 rest s.5 o.1 (omega arith) (omega
      (arith, var_shorter types v _ _ s.4 o.0)) (omega (arith, var_shorter types v _ _ s.4 o.0)) in
      rw (s.3, r, more) refl

  pub vars_complete : (vs : List VarDecl) (q : Pos) (ts rest : List Placed)
      → SpellsVars vs ts (mark_at puncts.Semicolon q ∷ rest) → some_vars_ok types vs ≡ true → vars_depth vs ≤ d
      → length ts ≤ n → vars_at types (readers types n d) ts ≡ Some (vs, rest)
  unfolding vars_at chain
  vars_complete [] q ts rest s ok deep h = absurd (cc)
  vars_complete (v ∷ vs) q ts rest s ok deep h =
      let o = and_true _ _ ok in
      let r = var_complete v ts s.0 s.1 o.0 (omega arith) h (more_vars_end vs q s.0 rest s.2) in
      let more = more_vars_complete vs (suc (length s.0)) q s.0 rest s.2 o.1 (omega arith)
      (omega (arith, var_shorter types v _ _ s.1 o.0)) (omega arith) in
      rw (r, more) refl

  pub decl_complete : (c : Decl) (ts rest : List Placed) → SpellsDecl c ts rest → decl_ok types c ≡ true
      → decl_depth c ≤ d → length ts ≤ n → decl_at types (readers types n d) ts ≡ Some (c, rest)
  unfolding decl_at chain
  decl_complete (decl qs b []) ts rest s ok deep h =
      let o = and_true (all_keys is_qualifier qs) (spec_ok types b && false) ok in
      let p = and_true (spec_ok types b) false o.1 in
      absurd (not_both p.1)
  decl_complete (decl qs b (v ∷ vs)) ts rest s ok deep h =
      let o = and_true _ _ ok in
      let p = and_true _ _ o.1 in
      let q = keywords_complete is_qualifier qs ts s.0 s.3 o.0 (spec_begins types b _ _ s.4 p.0).no_qualifier in
      let r = spec_complete types n d b s.0 s.1 s.4 p.0 (omega arith) (omega (arith, keys_no_longer qs _ _ s.3))
      (var_begins v s.1 _ s.5.1) in
      let names = vars_complete (v ∷ vs) s.2 s.1 rest s.5 p.1 (omega arith) (omega
      (arith, keys_no_longer qs _ _ s.3, spec_shorter types b _ _ s.4 p.0)) in
      rw (q, r, names) refl

  pub optional_complete : (m : Punct) (e : Option Expr) (q : Pos) (ts rest : List Placed)
      → SpellsOptional e ts (mark_at m q ∷ rest) → optional_ok types e ≡ true → optional_depth e ≤ d → length ts ≤ n
      → ExprEnds 0 (mark_at m q ∷ rest) → is_expr_mark m ≡ false → eat m (mark_at m q ∷ rest) ≡ Some (q, rest)
      → optional types (readers types n d) m ts ≡ Some (e, rest)
  unfolding optional chain on_some
  optional_complete m None q ts rest s ok deep h ends no_front here = rw (s, here) refl
  optional_complete m (Some e) q ts rest s ok deep h ends no_front here =
      rw (
        (expr_begins types 0 e ts _ s ok).no_mark m no_front,
        expr_complete types n d 0 e ts _ s ok deep h ends
            (omega arith),
        here,
      ) refl

  pub condition_complete : (e : Expr) (ts rest : List Placed) → SpellsCondition e ts rest → expr_at types 0 e ≡ true
      → expr_depth e ≤ d → length ts ≤ n → condition types (readers types n d) ts ≡ Some (e, rest)
  unfolding condition chain
  condition_complete e ts rest s ok deep h =
      rw (
        s.3,
        expr_complete types n d 0 e s.0 _ s.4 ok deep (omega (arith, ap length s.3, h))
            (ends_at_paren s.2 rest) (omega arith),
      ) refl

  start_expr_begins : (e : Option Expr) (q : Pos) (ts rest : List Placed)
      → SpellsOptional e ts (mark_at puncts.Semicolon q ∷ rest) → optional_ok types e ≡ true
      → begins_decl types ts ≡ false
  unfolding begins_decl begins_type type_word chain
  start_expr_begins None q ts rest s ok = rw s refl
  start_expr_begins (Some e) q ts rest s ok = (expr_begins types 0 e ts _ s ok).no_decl

  pub decl_front : (c : Decl) (ts rest : List Placed) → SpellsDecl c ts rest → decl_ok types c ≡ true
      → begins_decl types ts ≡ true
  decl_front (decl qs b vs) ts rest s ok =
      let o = and_true _ _ ok in
      (decl_begins types qs b ts s.0 s.1 s.3 o.0 s.4 (and_true _ _ o.1).0).begins

  pub start_complete : (a : ForStart) (ts rest : List Placed) → SpellsStart a ts rest → start_ok types a ≡ true
      → start_depth a ≤ d → length ts ≤ n → start_at types (readers types n d) ts ≡ Some (a, rest)
  unfolding start_at chain on_some when
  start_complete (start_decl c) ts rest s ok deep h = rw (
    decl_front c ts rest s ok,
    decl_complete c ts rest s ok
        deep h,
  ) refl
  start_complete (start_expr e) ts rest s ok deep h =
      let r = optional_complete puncts.Semicolon e s.0 ts rest s.1 ok deep h (ends_at_semicolon s.0 rest) refl refl in
      rw (start_expr_begins e s.0 ts rest s.1 ok, r) refl
