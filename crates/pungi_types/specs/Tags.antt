-- The structs and unions of a file that have fields, in text order, wherever they stand: one list for the file (C11
-- 6.7.2.1, 6.2.3).
--   Tag                 one of them: `struct` or `union`, its tag with its place, and its fields
--   expr_tags, exprs_tags, type_name_tags, spec_tags, base_tags, field_tags, fields_tags, declr_tags, declrs_tags,
--   tail_tags, sizes_tags, params_tags,
--   param_decl_tags, param_decls_tags, param_declr_tags    those in a part of an expression, a type or a declarator
--   option_tags, vars_tags, decl_tags, start_tags, stmt_tags, stmts_tags    those in a part of a declaration or a
--                                                                           statement
--   item_tags, tags     those of an item, and of a file
use Rattle.std.specs.Prelude.{List, [], ◌∷◌, ◌++◌, Option, Some, None}
use Rattle.pungi_base.specs.declared.key.Key.{Key}
use Rattle.pungi_base.specs.declared.names.Name.{Name}
use Rattle.pungi_base.specs.declared.pos.Pos.{Pos}
use Rattle.pungi_tree.specs.Syntax.{Expr, word, int, float, char, text, null, paren, unary, post, binary, assign}
use Rattle.pungi_tree.specs.Syntax.{conditional, comma, cast, size_of_type, call, new, index, dot, arrow, Exprs}
use Rattle.pungi_tree.specs.Syntax.{no_exprs, expr_and, TypeName, type_name, Spec, spec, Base, words, alias, tagged}
use Rattle.pungi_tree.specs.Syntax.{tagged_fields, Field, empty, members, Fields, no_fields, field_and, Declr, declr}
use Rattle.pungi_tree.specs.Syntax.{Declrs, no_declrs, declr_and, Tail, sizes, function, Sizes, no_sizes, open_and}
use Rattle.pungi_tree.specs.Syntax.{size_and, Params, params, ParamDecl, param_decl, ParamDecls, no_params, param_and}
use Rattle.pungi_tree.specs.Syntax.{ParamDeclr, named, bare, unused}
use Rattle.pungi_tree.specs.Syntax.{value, table, VarDecl, var_decl, Decl, decl, ForStart, start_decl, start_expr, Stmt}
use Rattle.pungi_tree.specs.Syntax.{block, declare, do_expr, if_only, if_else, while, do_while, for, switch, case}
use Rattle.pungi_tree.specs.Syntax.{default, label, goto, break, continue, return, Stmts, no_stmts, stmt_and, Item}
use Rattle.pungi_tree.specs.Syntax.{nothing, doc, typedef, tag, variables, head, prototype, function_def}

-- a struct or union with fields
pub record Tag : Type 0 where
  pub of : Key
  pub tag : Option (Name × Pos)
  pub fields : Fields

abbrev mutual
  pub expr_tags : Expr → List Tag
  expr_tags (word p n) = []
  expr_tags (int p v l u) = []
  expr_tags (float p) = []
  expr_tags (char p c) = []
  expr_tags (text p ns) = []
  expr_tags (null p) = []
  expr_tags (paren p e) = expr_tags e
  expr_tags (unary p k e) = expr_tags e
  expr_tags (post p m e) = expr_tags e
  expr_tags (binary p m a b) = expr_tags a ++ expr_tags b
  expr_tags (assign p m a b) = expr_tags a ++ expr_tags b
  expr_tags (conditional p a b c) = expr_tags a ++ (expr_tags b ++ expr_tags c)
  expr_tags (comma p a b) = expr_tags a ++ expr_tags b
  expr_tags (cast p t e) = type_name_tags t ++ expr_tags e
  expr_tags (size_of_type p t) = type_name_tags t
  expr_tags (call p f es) = expr_tags f ++ exprs_tags es
  expr_tags (new p t e) = type_name_tags t ++ expr_tags e
  expr_tags (index p a b) = expr_tags a ++ expr_tags b
  expr_tags (dot p e n) = expr_tags e
  expr_tags (arrow p e n) = expr_tags e

  pub exprs_tags : Exprs → List Tag
  exprs_tags no_exprs = []
  exprs_tags (expr_and e es) = expr_tags e ++ exprs_tags es

  pub type_name_tags : TypeName → List Tag
  type_name_tags (type_name s stars) = spec_tags s

  pub spec_tags : Spec → List Tag
  spec_tags (spec p b n) = base_tags b

  pub base_tags : Base → List Tag
  base_tags (words ks) = []
  base_tags (alias n) = []
  base_tags (tagged of t) = []
  base_tags (tagged_fields of t fs) = record { of = of; tag = t; fields = fs } ∷ fields_tags fs

  pub field_tags : Field → List Tag
  field_tags empty = []
  field_tags (members qs s ds) = spec_tags s ++ declrs_tags ds

  pub fields_tags : Fields → List Tag
  fields_tags no_fields = []
  fields_tags (field_and f fs) = field_tags f ++ fields_tags fs

  pub declr_tags : Declr → List Tag
  declr_tags (declr stars n p t) = tail_tags t

  pub declrs_tags : Declrs → List Tag
  declrs_tags no_declrs = []
  declrs_tags (declr_and d ds) = declr_tags d ++ declrs_tags ds

  pub tail_tags : Tail → List Tag
  tail_tags (sizes ss) = sizes_tags ss
  tail_tags (function ps) = params_tags ps

  pub sizes_tags : Sizes → List Tag
  sizes_tags no_sizes = []
  sizes_tags (open_and ss) = sizes_tags ss
  sizes_tags (size_and e ss) = expr_tags e ++ sizes_tags ss

  pub params_tags : Params → List Tag
  params_tags (params ds v dots) = param_decls_tags ds

  pub param_decl_tags : ParamDecl → List Tag
  param_decl_tags (param_decl qs s d) = spec_tags s ++ param_declr_tags d

  pub param_decls_tags : ParamDecls → List Tag
  param_decls_tags no_params = []
  param_decls_tags (param_and d ds) = param_decl_tags d ++ param_decls_tags ds

  pub param_declr_tags : ParamDeclr → List Tag
  param_declr_tags (named d) = declr_tags d
  param_declr_tags (bare stars) = []
  param_declr_tags (unused stars n p) = []

abbrev pub option_tags : Option Expr → List Tag
option_tags None = []
option_tags (Some e) = expr_tags e

abbrev pub vars_tags : List VarDecl → List Tag
vars_tags [] = []
vars_tags (var_decl d None ∷ vs) = declr_tags d ++ vars_tags vs
vars_tags (var_decl d (Some (value e)) ∷ vs) = declr_tags d ++ (expr_tags e ++ vars_tags vs)
vars_tags (var_decl d (Some (table ts)) ∷ vs) = declr_tags d ++ vars_tags vs

abbrev pub decl_tags : Decl → List Tag
decl_tags (decl qs s vs) = spec_tags s ++ vars_tags vs

abbrev pub start_tags : ForStart → List Tag
start_tags (start_decl d) = decl_tags d
start_tags (start_expr e) = option_tags e

abbrev mutual
  pub stmt_tags : Stmt → List Tag
  stmt_tags (block p ss q) = stmts_tags ss
  stmt_tags (declare p d) = decl_tags d
  stmt_tags (do_expr p e) = option_tags e
  stmt_tags (if_only p e s) = expr_tags e ++ stmt_tags s
  stmt_tags (if_else p e s t) = expr_tags e ++ (stmt_tags s ++ stmt_tags t)
  stmt_tags (while p e s) = expr_tags e ++ stmt_tags s
  stmt_tags (do_while p s e) = stmt_tags s ++ expr_tags e
  stmt_tags (for p a b c s) = start_tags a ++ (option_tags b ++ (option_tags c ++ stmt_tags s))
  stmt_tags (switch p e s) = expr_tags e ++ stmt_tags s
  stmt_tags (case p e s) = expr_tags e ++ stmt_tags s
  stmt_tags (default p s) = stmt_tags s
  stmt_tags (label p n s) = stmt_tags s
  stmt_tags (goto p n q) = []
  stmt_tags (break p) = []
  stmt_tags (continue p) = []
  stmt_tags (return p e) = option_tags e

  pub stmts_tags : Stmts → List Tag
  stmts_tags no_stmts = []
  stmts_tags (stmt_and s ss) = stmt_tags s ++ stmts_tags ss

abbrev pub item_tags : Item → List Tag
item_tags (nothing p) = []
item_tags (doc p n ts) = []
item_tags (typedef s stars n p) = spec_tags s
item_tags (tag qs s) = spec_tags s
item_tags (variables d) = decl_tags d
item_tags (prototype (head qs s stars n p ps)) = spec_tags s ++ params_tags ps
item_tags (function_def (head qs s stars n p ps) b) = spec_tags s ++ (params_tags ps ++ stmt_tags b)

abbrev pub tags : List Item → List Tag
tags [] = []
tags (i ∷ is) = item_tags i ++ tags is
