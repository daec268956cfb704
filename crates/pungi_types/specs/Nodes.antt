-- How many nodes a function has: its statements, its expressions, those inside types too, and the variables that it
-- declares.
--   expr_nodes, exprs_nodes    an expression and arguments
--   type_name_nodes, spec_nodes, base_nodes, field_nodes, fields_nodes, declr_nodes, declrs_nodes, tail_nodes,
--   sizes_nodes, params_nodes, param_decl_nodes,
--   param_decls_nodes, param_declr_nodes    the expressions inside a type or a declarator
--   option_nodes, init_nodes, vars_nodes, decl_nodes, start_nodes    an expression that may be missing; declarations,
--                                                                    with the variables that they declare
--   stmt_nodes, stmts_nodes    statements
--   function_nodes d           a function
use Rattle.std.specs.Prelude.{ℕ, ◌+◌, List, [], ◌∷◌, Option, Some, None}
use Rattle.pungi_tree.specs.Syntax.{Expr, word, int, float, char, text, null, paren, unary, post, binary, assign}
use Rattle.pungi_tree.specs.Syntax.{conditional, comma, cast, size_of_type, call, new, index, dot, arrow, Exprs}
use Rattle.pungi_tree.specs.Syntax.{no_exprs, expr_and, TypeName, type_name, Spec, spec, Base, words, alias, tagged}
use Rattle.pungi_tree.specs.Syntax.{tagged_fields, Field, empty, members, Fields, no_fields, field_and, Declr, declr}
use Rattle.pungi_tree.specs.Syntax.{Declrs, no_declrs, declr_and, Tail, sizes, function, Sizes, no_sizes, open_and}
use Rattle.pungi_tree.specs.Syntax.{size_and, Params, params, ParamDecl, param_decl, ParamDecls, no_params, param_and}
use Rattle.pungi_tree.specs.Syntax.{ParamDeclr, named, bare, unused}
use Rattle.pungi_tree.specs.Syntax.{Init, value, table, VarDecl, var_decl, Decl, decl, ForStart, start_decl, start_expr}
use Rattle.pungi_tree.specs.Syntax.{Stmt, block, declare, do_expr, if_only, if_else, while, do_while, for, switch, case}
use Rattle.pungi_tree.specs.Syntax.{default, label, goto, break, continue, return, Stmts, no_stmts, stmt_and}
use Rattle.pungi_types.specs.Files.{Definition}

abbrev mutual
  pub expr_nodes : Expr → ℕ
  expr_nodes (word p n) = 1
  expr_nodes (int p v l u) = 1
  expr_nodes (float p) = 1
  expr_nodes (char p c) = 1
  expr_nodes (text p ns) = 1
  expr_nodes (null p) = 1
  expr_nodes (paren p e) = expr_nodes e + 1
  expr_nodes (unary p k e) = expr_nodes e + 1
  expr_nodes (post p m e) = expr_nodes e + 1
  expr_nodes (binary p m a b) = expr_nodes a + expr_nodes b + 1
  expr_nodes (assign p m a b) = expr_nodes a + expr_nodes b + 1
  expr_nodes (conditional p a b c) = expr_nodes a + expr_nodes b + expr_nodes c + 1
  expr_nodes (comma p a b) = expr_nodes a + expr_nodes b + 1
  expr_nodes (cast p t e) = type_name_nodes t + expr_nodes e + 1
  expr_nodes (size_of_type p t) = type_name_nodes t + 1
  expr_nodes (call p f es) = expr_nodes f + exprs_nodes es + 1
  expr_nodes (new p t e) = type_name_nodes t + expr_nodes e + 1
  expr_nodes (index p a b) = expr_nodes a + expr_nodes b + 1
  expr_nodes (dot p e n) = expr_nodes e + 1
  expr_nodes (arrow p e n) = expr_nodes e + 1

  pub exprs_nodes : Exprs → ℕ
  exprs_nodes no_exprs = 0
  exprs_nodes (expr_and e es) = expr_nodes e + exprs_nodes es

  pub type_name_nodes : TypeName → ℕ
  type_name_nodes (type_name s stars) = spec_nodes s

  pub spec_nodes : Spec → ℕ
  spec_nodes (spec p b n) = base_nodes b

  pub base_nodes : Base → ℕ
  base_nodes (words ks) = 0
  base_nodes (alias n) = 0
  base_nodes (tagged of tag) = 0
  base_nodes (tagged_fields of tag fs) = fields_nodes fs

  pub field_nodes : Field → ℕ
  field_nodes empty = 0
  field_nodes (members qs s ds) = spec_nodes s + declrs_nodes ds

  pub fields_nodes : Fields → ℕ
  fields_nodes no_fields = 0
  fields_nodes (field_and f fs) = field_nodes f + fields_nodes fs

  pub declr_nodes : Declr → ℕ
  declr_nodes (declr stars n p t) = tail_nodes t

  pub declrs_nodes : Declrs → ℕ
  declrs_nodes no_declrs = 0
  declrs_nodes (declr_and d ds) = declr_nodes d + declrs_nodes ds

  pub tail_nodes : Tail → ℕ
  tail_nodes (sizes ss) = sizes_nodes ss
  tail_nodes (function ps) = params_nodes ps

  pub sizes_nodes : Sizes → ℕ
  sizes_nodes no_sizes = 0
  sizes_nodes (open_and ss) = sizes_nodes ss
  sizes_nodes (size_and e ss) = expr_nodes e + sizes_nodes ss

  pub params_nodes : Params → ℕ
  params_nodes (params ds v dots) = param_decls_nodes ds

  pub param_decl_nodes : ParamDecl → ℕ
  param_decl_nodes (param_decl qs s d) = spec_nodes s + param_declr_nodes d

  pub param_decls_nodes : ParamDecls → ℕ
  param_decls_nodes no_params = 0
  param_decls_nodes (param_and d ds) = param_decl_nodes d + param_decls_nodes ds

  pub param_declr_nodes : ParamDeclr → ℕ
  param_declr_nodes (named d) = declr_nodes d
  param_declr_nodes (bare stars) = 0
  param_declr_nodes (unused stars n p) = 0

abbrev pub option_nodes : Option Expr → ℕ
option_nodes None = 0
option_nodes (Some e) = expr_nodes e

abbrev pub init_nodes : Option Init → ℕ
init_nodes None = 0
init_nodes (Some (value e)) = expr_nodes e
init_nodes (Some (table ts)) = 0

abbrev pub vars_nodes : List VarDecl → ℕ
vars_nodes [] = 0
vars_nodes (var_decl d i ∷ vs) = declr_nodes d + init_nodes i + 1 + vars_nodes vs

abbrev pub decl_nodes : Decl → ℕ
decl_nodes (decl qs s vs) = spec_nodes s + vars_nodes vs

abbrev pub start_nodes : ForStart → ℕ
start_nodes (start_decl d) = decl_nodes d
start_nodes (start_expr e) = option_nodes e

abbrev mutual
  pub stmt_nodes : Stmt → ℕ
  stmt_nodes (block p ss q) = stmts_nodes ss + 1
  stmt_nodes (declare p d) = decl_nodes d + 1
  stmt_nodes (do_expr p e) = option_nodes e + 1
  stmt_nodes (if_only p e s) = expr_nodes e + stmt_nodes s + 1
  stmt_nodes (if_else p e s t) = expr_nodes e + stmt_nodes s + stmt_nodes t + 1
  stmt_nodes (while p e s) = expr_nodes e + stmt_nodes s + 1
  stmt_nodes (do_while p s e) = stmt_nodes s + expr_nodes e + 1
  stmt_nodes (for p a b c s) = start_nodes a + option_nodes b + option_nodes c + stmt_nodes s + 1
  stmt_nodes (switch p e s) = expr_nodes e + stmt_nodes s + 1
  stmt_nodes (case p e s) = expr_nodes e + stmt_nodes s + 1
  stmt_nodes (default p s) = stmt_nodes s + 1
  stmt_nodes (label p n s) = stmt_nodes s + 1
  stmt_nodes (return p e) = option_nodes e + 1
  stmt_nodes (goto p n q) = 1
  stmt_nodes (break p) = 1
  stmt_nodes (continue p) = 1

  pub stmts_nodes : Stmts → ℕ
  stmts_nodes no_stmts = 0
  stmts_nodes (stmt_and s ss) = stmt_nodes s + stmts_nodes ss

abbrev pub function_nodes : Definition → ℕ
function_nodes d = spec_nodes d.result + params_nodes d.params + stmt_nodes d.body
