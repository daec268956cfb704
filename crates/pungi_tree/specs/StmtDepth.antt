-- How deep a declaration or a statement is: the greatest number of statement and expression nodes on a path.
--   optional_depth        an expression, where it is there
--   init_depth, var_depth, vars_depth, decl_depth    a first value, variables, and their declaration, which is itself
--                                                    no node
--   start_depth           what a `for` begins with
--   stmt_depth, stmts_depth    statements
use Rattle.std.specs.Prelude.{ℕ, ◌+◌, max, List, [], ◌∷◌, Option, Some, None}
use Rattle.pungi_tree.specs.ExprDepth.{expr_depth, spec_depth, declr_depth}
use Rattle.pungi_tree.specs.Syntax.{Expr, Init, value, table, VarDecl, var_decl, Decl, decl, ForStart, start_decl}
use Rattle.pungi_tree.specs.Syntax.{start_expr, Stmt, block, declare, do_expr, if_only, if_else, while, do_while, for}
use Rattle.pungi_tree.specs.Syntax.{switch, case, default, label, goto, break, continue, return, Stmts, no_stmts}
use Rattle.pungi_tree.specs.Syntax.{stmt_and}

abbrev pub optional_depth : Option Expr → ℕ
optional_depth None = 0
optional_depth (Some e) = expr_depth e

abbrev pub init_depth : Option Init → ℕ
init_depth None = 0
init_depth (Some (value e)) = expr_depth e
init_depth (Some (table ts)) = 0

abbrev pub var_depth : VarDecl → ℕ
var_depth (var_decl d i) = max (declr_depth d) (init_depth i)

abbrev pub vars_depth : List VarDecl → ℕ
vars_depth [] = 0
vars_depth (v ∷ vs) = max (var_depth v) (vars_depth vs)

abbrev pub decl_depth : Decl → ℕ
decl_depth (decl qs s vs) = max (spec_depth s) (vars_depth vs)

abbrev pub start_depth : ForStart → ℕ
start_depth (start_decl d) = decl_depth d
start_depth (start_expr e) = optional_depth e

abbrev mutual
  pub stmt_depth : Stmt → ℕ
  stmt_depth (block p ss q) = stmts_depth ss + 1
  stmt_depth (declare p d) = decl_depth d + 1
  stmt_depth (do_expr p e) = optional_depth e + 1
  stmt_depth (if_only p e s) = max (expr_depth e) (stmt_depth s) + 1
  stmt_depth (if_else p e s t) = max (expr_depth e) (max (stmt_depth s) (stmt_depth t)) + 1
  stmt_depth (while p e s) = max (expr_depth e) (stmt_depth s) + 1
  stmt_depth (do_while p s e) = max (stmt_depth s) (expr_depth e) + 1
  stmt_depth (for p a b c s) = max (max (start_depth a) (optional_depth b)) (max (optional_depth c) (stmt_depth s)) + 1
  stmt_depth (switch p e s) = max (expr_depth e) (stmt_depth s) + 1
  stmt_depth (case p e s) = max (expr_depth e) (stmt_depth s) + 1
  stmt_depth (default p s) = stmt_depth s + 1
  stmt_depth (label p n s) = stmt_depth s + 1
  stmt_depth (goto p n q) = 1
  stmt_depth (break p) = 1
  stmt_depth (continue p) = 1
  stmt_depth (return p e) = optional_depth e + 1

  pub stmts_depth : Stmts → ℕ
  stmts_depth no_stmts = 0
  stmts_depth (stmt_and s ss) = max (stmt_depth s) (stmts_depth ss)
