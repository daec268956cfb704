-- Which declarations and statements the grammar allows (C11 6.7 and 6.8), where `types` are the words of the `typedef`s
-- of the file.
--   open_if s          an `else` after the statement would belong to an `if` in it (C11 6.8.4.1)
--   is_statement s     a statement, and no declaration, which stands directly in a block alone
--   optional_ok types e    an expression, where it is there
--   init_ok, var_ok, vars_ok, some_vars_ok, decl_ok    a first value, variables, at least one of them, and their
--                                                      declaration
--   start_ok           what a `for` begins with
--   stmt_ok, stmts_ok  statements, and what stands in a block
use Rattle.std.specs.Prelude.{Bool, true, false, not, ◌&&◌, List, [], ◌∷◌, Option, Some, None}
use Rattle.pungi_base.specs.declared.names.Name.{Name}
use Rattle.pungi_tree.specs.Balanced.{is_balanced}
use Rattle.pungi_tree.specs.ExprLevels.{expr_at, spec_ok, declr_ok}
use Rattle.pungi_tree.specs.Operators.{is_qualifier, all_keys}
use Rattle.pungi_tree.specs.Syntax.{Expr, Init, value, table, VarDecl, var_decl, Decl, decl, ForStart, start_decl}
use Rattle.pungi_tree.specs.Syntax.{start_expr, Stmt, block, declare, do_expr, if_only, if_else, while, do_while, for}
use Rattle.pungi_tree.specs.Syntax.{switch, case, default, label, goto, break, continue, return, Stmts, no_stmts}
use Rattle.pungi_tree.specs.Syntax.{stmt_and}
use Rattle.pungi_tree.specs.TypeWords.{is_word}

abbrev pub open_if : Stmt → Bool
open_if (block p ss q) = false
open_if (declare p d) = false
open_if (do_expr p e) = false
open_if (if_only p e s) = true
open_if (if_else p e s t) = open_if t
open_if (while p e s) = open_if s
open_if (do_while p s e) = false
open_if (for p a b c s) = open_if s
open_if (switch p e s) = open_if s
open_if (case p e s) = open_if s
open_if (default p s) = open_if s
open_if (label p n s) = open_if s
open_if (goto p n q) = false
open_if (break p) = false
open_if (continue p) = false
open_if (return p e) = false

abbrev pub is_statement : Stmt → Bool
is_statement (declare p d) = false
is_statement _ = true

module _ (types : List Name) where
  abbrev pub optional_ok : Option Expr → Bool
  optional_ok None = true
  optional_ok (Some e) = expr_at types 0 e

  abbrev pub init_ok : Option Init → Bool
  init_ok None = true
  init_ok (Some (value e)) = expr_at types 1 e
  init_ok (Some (table ts)) = is_balanced ts

  abbrev pub var_ok : VarDecl → Bool
  var_ok (var_decl d i) = declr_ok types d && init_ok i

  abbrev pub vars_ok : List VarDecl → Bool
  vars_ok [] = true
  vars_ok (v ∷ vs) = var_ok v && vars_ok vs

  abbrev pub some_vars_ok : List VarDecl → Bool
  some_vars_ok [] = false
  some_vars_ok (v ∷ vs) = var_ok v && vars_ok vs

  abbrev pub decl_ok : Decl → Bool
  decl_ok (decl qs s vs) = all_keys is_qualifier qs && (spec_ok types s && some_vars_ok vs)

  abbrev pub start_ok : ForStart → Bool
  start_ok (start_decl d) = decl_ok d
  start_ok (start_expr e) = optional_ok e

  abbrev mutual
    pub stmt_ok : Stmt → Bool
    stmt_ok (block p ss q) = stmts_ok ss
    stmt_ok (declare p d) = decl_ok d
    stmt_ok (do_expr p e) = optional_ok e
    stmt_ok (if_only p e s) = expr_at types 0 e && (is_statement s && stmt_ok s)
    stmt_ok (if_else p e s t) = expr_at types 0 e
        && (is_statement s && (stmt_ok s && (not (open_if s) && (is_statement t && stmt_ok t))))
    stmt_ok (while p e s) = expr_at types 0 e && (is_statement s && stmt_ok s)
    stmt_ok (do_while p s e) = is_statement s && (stmt_ok s && expr_at types 0 e)
    stmt_ok (for p a b c s) = start_ok a && (optional_ok b && (optional_ok c && (is_statement s && stmt_ok s)))
    stmt_ok (switch p e s) = expr_at types 0 e && (is_statement s && stmt_ok s)
    stmt_ok (case p e s) = expr_at types 2 e && (is_statement s && stmt_ok s)
    stmt_ok (default p s) = is_statement s && stmt_ok s
    stmt_ok (label p n s) = is_word types n && (is_statement s && stmt_ok s)
    stmt_ok (goto p n q) = is_word types n
    stmt_ok (break p) = true
    stmt_ok (continue p) = true
    stmt_ok (return p e) = optional_ok e

    pub stmts_ok : Stmts → Bool
    stmts_ok no_stmts = true
    stmts_ok (stmt_and s ss) = stmt_ok s && stmts_ok ss
