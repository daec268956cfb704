-- How variables begin and end, and that fewer tokens are left than there were.
--   VarEnds rest     nothing goes on with a variable
--   more_vars_end    where further variables or the semicolon come, a variable ends
--   var_begins       a variable begins where a type ends
--   no_size_before   no bracket comes after a declared name and its sizes
--   .._shorter, .._no_longer    fewer tokens, or no more, are left than there were
use Rattle.std.proofs.Common.{◌≡◌, ◌<◌, ◌≤◌, true, List, [], ◌∷◌, length, Option, Some, None, refl, sym, subst, arith}
use Rattle.std.specs.Prelude.{◌&&◌}
use Rattle.std.proofs.lemmas.List.{length-append}
use Rattle.pungi_base.specs.declared.names.Name.{Name}
use Rattle.pungi_base.specs.declared.pos.Pos.{Pos}
use Rattle.pungi_base.specs.declared.punct.Punct.TheVariants as puncts
use Rattle.pungi_parse.specs.tokens.OneToken.{eat}
use Rattle.pungi_parse.proofs.tokens.Ends.{ExprEnds, SpecEnds, DeclrEnds, ends_at_semicolon, ends_at_comma}
use Rattle.pungi_parse.proofs.tokens.Ends.{ends_at_assignment}
use Rattle.pungi_parse.proofs.Tools.{and_true}
use Rattle.pungi_parse.proofs.expr.TypeExprTheorems.{expr_shorter, spec_shorter, declr_shorter}
use Rattle.pungi_parse.proofs.tokens.WordReadings.{keys_no_longer}
use Rattle.pungi_tree.specs.ExprLevels.{expr_at, spec_ok, declr_ok}
use Rattle.pungi_tree.specs.ExprSpells.{SpellsDeclr}
use Rattle.pungi_tree.specs.Operators.{is_qualifier, all_keys}
use Rattle.pungi_tree.specs.Placed.{Placed, mark_at}
use Rattle.pungi_tree.specs.StmtLevels.{optional_ok, init_ok, var_ok, vars_ok, some_vars_ok, decl_ok, start_ok}
use Rattle.pungi_tree.specs.StmtSpells.{SpellsInit, SpellsVar, SpellsMoreVars, SpellsVars, SpellsDecl, SpellsOptional}
use Rattle.pungi_tree.specs.StmtSpells.{SpellsCondition, SpellsStart}
use Rattle.pungi_tree.specs.Syntax.{Expr, Declr, declr, sizes, function, Init, value, table, VarDecl, var_decl, Decl}
use Rattle.pungi_tree.specs.Syntax.{decl, ForStart, start_decl, start_expr}

pub record VarEnds (rest : List Placed) : Type 0 where
  pub no_size : eat puncts.LeftBracket rest ≡ None
  pub no_value : eat puncts.Assign rest ≡ None
  pub ends : ExprEnds 1 rest

var_ends_at_comma : (q : Pos) (ts : List Placed) → VarEnds (mark_at puncts.Comma q ∷ ts)
var_ends_at_comma q ts = record { no_size = refl; no_value = refl; ends = ends_at_comma q ts }

var_ends_at_semicolon : (q : Pos) (ts : List Placed) → VarEnds (mark_at puncts.Semicolon q ∷ ts)
var_ends_at_semicolon q ts =
    record { no_size = refl; no_value = refl; ends = ends_at_assignment _ (ends_at_semicolon q ts) }

pub more_vars_end : (vs : List _) (q : Pos) (ts rest : List Placed)
    → SpellsMoreVars vs ts (mark_at puncts.Semicolon q ∷ rest) → VarEnds ts
more_vars_end [] q ts rest s = subst VarEnds (sym s) (var_ends_at_semicolon q rest)
more_vars_end (v ∷ vs) q ts rest s = subst VarEnds (sym s.3) (var_ends_at_comma s.2 s.0)

declr_begins : (c : Declr) (ts rest : List Placed) → SpellsDeclr c ts rest → SpecEnds ts
declr_begins (declr (k ∷ ks) n p t) ts rest s =
    rw s.1.3 (record { no_const = refl; no_base_word = refl; no_brace = refl })
declr_begins (declr [] n p (sizes ss)) ts rest s =
    rw (s.1, s.2.1) (record { no_const = refl; no_base_word = refl; no_brace = refl })
declr_begins (declr [] n p (function ps)) ts rest s =
    rw (s.1, s.2.6) (record { no_const = refl; no_base_word = refl; no_brace = refl })

pub var_begins : (v : VarDecl) (ts rest : List Placed) → SpellsVar v ts rest → SpecEnds ts
var_begins (var_decl c i) ts rest s = declr_begins c ts _ s.1

pub no_size_before : (i : Option Init) (ts rest : List Placed) → SpellsInit i ts rest → VarEnds rest → DeclrEnds ts
no_size_before None ts rest s e = record { no_size = rw s e.no_size }
no_size_before (Some (value e)) ts rest s _ = record { no_size = rw s.2 refl }
no_size_before (Some (table ks)) ts rest s _ = record { no_size = rw s.3 refl }

module _ (types : List Name) where
  init_no_longer : (i : Option Init) (ts rest : List Placed) → SpellsInit i ts rest → init_ok types i ≡ true
      → length rest ≤ length ts
  init_no_longer None ts rest s ok = rw s (omega arith)
  init_no_longer (Some (value e)) ts rest s ok = rw s.2 (omega (arith, expr_shorter types 1 e _ _ s.3 ok))
  init_no_longer (Some (table ks)) ts rest s ok = rw (s.3, length-append ks (mark_at puncts.RightBrace s.2 ∷ rest))
      (omega arith)

  pub var_shorter : (v : VarDecl) (ts rest : List Placed) → SpellsVar v ts rest → var_ok types v ≡ true
      → length rest < length ts
  var_shorter (var_decl c i) ts rest s ok = let o = and_true (declr_ok types c) (init_ok types i) ok in omega
      (arith, declr_shorter c _ _ s.1, init_no_longer i _ _ s.2 o.1)

  pub more_vars_no_longer : (vs : List VarDecl) (ts rest : List Placed) → SpellsMoreVars vs ts rest
      → vars_ok types vs ≡ true → length rest ≤ length ts
  more_vars_no_longer [] ts rest s ok = rw s (omega arith)
  more_vars_no_longer (v ∷ vs) ts rest s ok = let o = and_true (var_ok types v) (vars_ok types vs) ok in rw s.3
      (omega (arith, var_shorter v _ _ s.4 o.0, more_vars_no_longer vs _ _ s.5 o.1))

  pub vars_shorter : (vs : List VarDecl) (ts rest : List Placed) → SpellsVars vs ts rest
      → some_vars_ok types vs ≡ true → length rest < length ts
  vars_shorter [] ts rest s ok = absurd (cc)
  vars_shorter (v ∷ vs) ts rest s ok = let o = and_true (var_ok types v) (vars_ok types vs) ok in omega
      (arith, var_shorter v _ _ s.1 o.0, more_vars_no_longer vs _ _ s.2 o.1)

  pub decl_shorter : (c : Decl) (ts rest : List Placed) → SpellsDecl c ts rest → decl_ok types c ≡ true
      → length rest < length ts
  decl_shorter (decl qs b vs) ts rest s ok =
      let o = and_true (all_keys is_qualifier qs) (spec_ok types b && some_vars_ok types vs) ok in
      let p = and_true (spec_ok types b) (some_vars_ok types vs) o.1 in
      omega (arith, keys_no_longer qs _ _ s.3, spec_shorter types b _ _ s.4 p.0, vars_shorter vs _ _ s.5 p.1)

  pub optional_no_longer : (e : Option Expr) (ts rest : List Placed) → SpellsOptional e ts rest
      → optional_ok types e ≡ true → length rest ≤ length ts
  optional_no_longer None ts rest s ok = rw s (omega arith)
  optional_no_longer (Some e) ts rest s ok = omega (arith, expr_shorter types 0 e _ _ s ok)

  pub condition_shorter : (e : Expr) (ts rest : List Placed) → SpellsCondition e ts rest → expr_at types 0 e ≡ true
      → length rest < length ts
  condition_shorter e ts rest s ok = rw s.3 (omega (arith, expr_shorter types 0 e _ _ s.4 ok))

  pub start_shorter : (a : ForStart) (ts rest : List Placed) → SpellsStart a ts rest → start_ok types a ≡ true
      → length rest < length ts
  start_shorter (start_decl c) ts rest s ok = decl_shorter c ts rest s ok
  start_shorter (start_expr e) ts rest s ok = omega (arith, optional_no_longer e _ _ s.1 ok)
