-- How deep an expression or a type is: the greatest number of statement and expression nodes on a path. A parenthesis
-- is a node; a type, a declarator and a parameter aren't nodes.
--   capped n      a number, or the largest of 32 bits where it is larger
--   expr_depth, exprs_depth    an expression, and a list of arguments
--   type_name_depth, spec_depth, base_depth, field_depth, fields_depth, declr_depth, declrs_depth, tail_depth,
--   sizes_depth, params_depth,
--   param_decl_depth, param_decls_depth, param_declr_depth    the type of the same name
use Rattle.std.specs.Prelude.{ℕ, ◌+◌, ◌-◌, ◌^◌, max, min}
use Rattle.pungi_tree.specs.Syntax.{Expr, word, int, float, char, text, null, paren, unary, post, binary, assign}
use Rattle.pungi_tree.specs.Syntax.{conditional, comma, cast, size_of_type, call, new, index, dot, arrow, Exprs}
use Rattle.pungi_tree.specs.Syntax.{no_exprs, expr_and, TypeName, type_name, Spec, spec, Base, words, alias, tagged}
use Rattle.pungi_tree.specs.Syntax.{tagged_fields, Field, empty, members, Fields, no_fields, field_and, Declr, declr}
use Rattle.pungi_tree.specs.Syntax.{Declrs, no_declrs, declr_and, Tail, sizes, function, Sizes, no_sizes, open_and}
use Rattle.pungi_tree.specs.Syntax.{size_and, Params, params, ParamDecl, param_decl, ParamDecls, no_params, param_and}
use Rattle.pungi_tree.specs.Syntax.{ParamDeclr, named, bare, unused}

abbrev pub capped : ℕ → ℕ
capped n = min n (2 ^ 32 - 1)

abbrev mutual
  pub expr_depth : Expr → ℕ
  expr_depth (word p n) = 1
  expr_depth (int p v l u) = 1
  expr_depth (float p) = 1
  expr_depth (char p c) = 1
  expr_depth (text p ns) = 1
  expr_depth (null p) = 1
  expr_depth (paren p e) = expr_depth e + 1
  expr_depth (unary p k e) = expr_depth e + 1
  expr_depth (post p m e) = expr_depth e + 1
  expr_depth (binary p m a b) = max (expr_depth a) (expr_depth b) + 1
  expr_depth (assign p m a b) = max (expr_depth a) (expr_depth b) + 1
  expr_depth (conditional p a b c) = max (expr_depth a) (max (expr_depth b) (expr_depth c)) + 1
  expr_depth (comma p a b) = max (expr_depth a) (expr_depth b) + 1
  expr_depth (cast p t e) = max (type_name_depth t) (expr_depth e) + 1
  expr_depth (size_of_type p t) = type_name_depth t + 1
  expr_depth (call p f es) = max (expr_depth f) (exprs_depth es) + 1
  expr_depth (new p t e) = max (type_name_depth t) (expr_depth e) + 1
  expr_depth (index p a b) = max (expr_depth a) (expr_depth b) + 1
  expr_depth (dot p e n) = expr_depth e + 1
  expr_depth (arrow p e n) = expr_depth e + 1

  pub exprs_depth : Exprs → ℕ
  exprs_depth no_exprs = 0
  exprs_depth (expr_and e es) = max (expr_depth e) (exprs_depth es)

  pub type_name_depth : TypeName → ℕ
  type_name_depth (type_name s stars) = spec_depth s

  pub spec_depth : Spec → ℕ
  spec_depth (spec p b n) = base_depth b

  pub base_depth : Base → ℕ
  base_depth (words ks) = 0
  base_depth (alias n) = 0
  base_depth (tagged of tag) = 0
  base_depth (tagged_fields of tag fs) = fields_depth fs

  pub field_depth : Field → ℕ
  field_depth empty = 0
  field_depth (members qs s ds) = max (spec_depth s) (declrs_depth ds)

  pub fields_depth : Fields → ℕ
  fields_depth no_fields = 0
  fields_depth (field_and f fs) = max (field_depth f) (fields_depth fs)

  pub declr_depth : Declr → ℕ
  declr_depth (declr stars n p t) = tail_depth t

  pub declrs_depth : Declrs → ℕ
  declrs_depth no_declrs = 0
  declrs_depth (declr_and d ds) = max (declr_depth d) (declrs_depth ds)

  pub tail_depth : Tail → ℕ
  tail_depth (sizes ss) = sizes_depth ss
  tail_depth (function ps) = params_depth ps

  pub sizes_depth : Sizes → ℕ
  sizes_depth no_sizes = 0
  sizes_depth (open_and ss) = sizes_depth ss
  sizes_depth (size_and e ss) = max (expr_depth e) (sizes_depth ss)

  pub params_depth : Params → ℕ
  params_depth (params ds v dots) = param_decls_depth ds

  pub param_decl_depth : ParamDecl → ℕ
  param_decl_depth (param_decl qs s d) = max (spec_depth s) (param_declr_depth d)

  pub param_decls_depth : ParamDecls → ℕ
  param_decls_depth no_params = 0
  param_decls_depth (param_and d ds) = max (param_decl_depth d) (param_decls_depth ds)

  pub param_declr_depth : ParamDeclr → ℕ
  param_declr_depth (named d) = declr_depth d
  param_declr_depth (bare stars) = 0
  param_declr_depth (unused stars n p) = 0
