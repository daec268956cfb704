-- Which tokens a declaration or a statement spells, with their places. A statement stands at its first token (C11 6.7
-- and 6.8).
--   SpellsInit, SpellsVar, SpellsVars, SpellsMoreVars, SpellsDecl    a first value with its `=`, variables, and their
--                                                                    declaration
--   SpellsOptional          an expression, where it is there
--   SpellsCondition         an expression in parentheses
--   SpellsStart             what a `for` begins with
--   SpellsStmt, SpellsStmts statements
use Rattle.std.specs.Prelude.{◌≡◌, List, [], ◌∷◌, ◌++◌, Option, Some, None}
use Rattle.pungi_base.specs.declared.key.Key.TheVariants as keys
use Rattle.pungi_base.specs.declared.pos.Pos.{Pos}
use Rattle.pungi_base.specs.declared.punct.Punct.TheVariants as puncts
use Rattle.pungi_tree.specs.ExprSpells.{Spells, SpellsKeys, SpellsSpec, SpellsDeclr}
use Rattle.pungi_tree.specs.Placed.{Placed, mark_at, key_at, word_at, first_place}
use Rattle.pungi_tree.specs.Syntax.{Expr, Init, value, table, VarDecl, var_decl, Decl, decl, ForStart, start_decl}
use Rattle.pungi_tree.specs.Syntax.{start_expr, Stmt, block, declare, do_expr, if_only, if_else, while, do_while, for}
use Rattle.pungi_tree.specs.Syntax.{switch, case, default, label, goto, break, continue, return, Stmts, no_stmts}
use Rattle.pungi_tree.specs.Syntax.{stmt_and}

abbrev pub SpellsInit : Option Init → List Placed → List Placed → Type 0
SpellsInit None ts rest = ts ≡ rest
SpellsInit (Some (value e)) ts rest =
    (inner : List Placed) × (q : Pos) × (ts ≡ mark_at puncts.Assign q ∷ inner) × Spells e inner rest
SpellsInit (Some (table ks)) ts rest =
    (q r s : Pos) × (ts ≡ mark_at puncts.Assign q ∷ mark_at puncts.LeftBrace r
    ∷ (ks ++ mark_at puncts.RightBrace s ∷ rest))

abbrev pub SpellsVar : VarDecl → List Placed → List Placed → Type 0
SpellsVar (var_decl d i) ts rest = (after : List Placed) × SpellsDeclr d ts after × SpellsInit i after rest

abbrev pub SpellsMoreVars : List VarDecl → List Placed → List Placed → Type 0
SpellsMoreVars [] ts rest = ts ≡ rest
SpellsMoreVars (v ∷ vs) ts rest =
    (inner after : List Placed) × (q : Pos) × (ts ≡ mark_at puncts.Comma q ∷ inner) × SpellsVar v inner after
    × SpellsMoreVars vs after rest

abbrev pub SpellsVars : List VarDecl → List Placed → List Placed → Type 0
SpellsVars [] ts rest = ts ≡ rest
SpellsVars (v ∷ vs) ts rest = (after : List Placed) × SpellsVar v ts after × SpellsMoreVars vs after rest

abbrev pub SpellsDecl : Decl → List Placed → List Placed → Type 0
SpellsDecl (decl qs s vs) ts rest =
    (after names : List Placed) × (q : Pos) × SpellsKeys qs ts after × SpellsSpec s after names
    × SpellsVars vs names (mark_at puncts.Semicolon q ∷ rest)

abbrev pub SpellsOptional : Option Expr → List Placed → List Placed → Type 0
SpellsOptional None ts rest = ts ≡ rest
SpellsOptional (Some e) ts rest = Spells e ts rest

abbrev pub SpellsCondition : Expr → List Placed → List Placed → Type 0
SpellsCondition e ts rest =
    (inner : List Placed) × (q r : Pos) × (ts ≡ mark_at puncts.LeftParen q ∷ inner)
    × Spells e inner (mark_at puncts.RightParen r ∷ rest)

abbrev pub SpellsStart : ForStart → List Placed → List Placed → Type 0
SpellsStart (start_decl d) ts rest = SpellsDecl d ts rest
SpellsStart (start_expr e) ts rest = (q : Pos) × SpellsOptional e ts (mark_at puncts.Semicolon q ∷ rest)

abbrev mutual
  pub SpellsStmt : Stmt → List Placed → List Placed → Type 0
  SpellsStmt (block p ss q) ts rest = (inner : List Placed) × (ts ≡ mark_at puncts.LeftBrace p ∷ inner)
      × SpellsStmts ss inner (mark_at puncts.RightBrace q ∷ rest)
  SpellsStmt (declare p d) ts rest = (first_place ts ≡ Some p) × SpellsDecl d ts rest
  SpellsStmt (do_expr p e) ts rest = (q : Pos) × (first_place ts ≡ Some p)
      × SpellsOptional e ts (mark_at puncts.Semicolon q ∷ rest)
  SpellsStmt (if_only p e s) ts rest =
      (inner after : List Placed) × (ts ≡ key_at keys.If p ∷ inner) × SpellsCondition e inner after
      × SpellsStmt s after rest
  SpellsStmt (if_else p e s t) ts rest =
      (inner after other : List Placed) × (q : Pos) × (ts ≡ key_at keys.If p ∷ inner) × SpellsCondition e inner after
      × SpellsStmt s after (key_at keys.Else q ∷ other) × SpellsStmt t other rest
  SpellsStmt (while p e s) ts rest =
      (inner after : List Placed) × (ts ≡ key_at keys.While p ∷ inner) × SpellsCondition e inner after
      × SpellsStmt s after rest
  SpellsStmt (do_while p s e) ts rest =
      (inner after : List Placed) × (q r : Pos) × (ts ≡ key_at keys.Do p ∷ inner)
      × SpellsStmt s inner (key_at keys.While q ∷ after)
      × SpellsCondition e after (mark_at puncts.Semicolon r ∷ rest)
  SpellsStmt (for p a b c s) ts rest =
      (inner test step body : List Placed) × (q r u : Pos)
      × (ts ≡ key_at keys.For p ∷ mark_at puncts.LeftParen q ∷ inner) × SpellsStart a inner test
      × SpellsOptional b test (mark_at puncts.Semicolon r ∷ step)
      × SpellsOptional c step (mark_at puncts.RightParen u ∷ body) × SpellsStmt s body rest
  SpellsStmt (switch p e s) ts rest =
      (inner after : List Placed) × (ts ≡ key_at keys.Switch p ∷ inner) × SpellsCondition e inner after
      × SpellsStmt s after rest
  SpellsStmt (case p e s) ts rest =
      (inner body : List Placed) × (q : Pos) × (ts ≡ key_at keys.Case p ∷ inner)
      × Spells e inner (mark_at puncts.Colon q ∷ body) × SpellsStmt s body rest
  SpellsStmt (default p s) ts rest =
      (body : List Placed) × (q : Pos) × (ts ≡ key_at keys.Default p ∷ mark_at puncts.Colon q ∷ body)
      × SpellsStmt s body rest
  SpellsStmt (label p n s) ts rest = (body : List Placed) × (q : Pos)
      × (ts ≡ word_at n p ∷ mark_at puncts.Colon q ∷ body) × SpellsStmt s body rest
  SpellsStmt (goto p n q) ts rest = (r : Pos)
      × (ts ≡ key_at keys.Goto p ∷ word_at n q ∷ mark_at puncts.Semicolon r ∷ rest)
  SpellsStmt (break p) ts rest = (q : Pos) × (ts ≡ key_at keys.Break p ∷ mark_at puncts.Semicolon q ∷ rest)
  SpellsStmt (continue p) ts rest = (q : Pos) × (ts ≡ key_at keys.Continue p ∷ mark_at puncts.Semicolon q ∷ rest)
  SpellsStmt (return p e) ts rest =
      (inner : List Placed) × (q : Pos) × (ts ≡ key_at keys.Return p ∷ inner)
      × SpellsOptional e inner (mark_at puncts.Semicolon q ∷ rest)

  pub SpellsStmts : Stmts → List Placed → List Placed → Type 0
  SpellsStmts no_stmts ts rest = ts ≡ rest
  SpellsStmts (stmt_and s ss) ts rest = (after : List Placed) × SpellsStmt s ts after × SpellsStmts ss after rest
