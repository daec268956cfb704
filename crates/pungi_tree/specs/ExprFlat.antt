-- The tokens of an expression or a type from left to right (C11 6.5 and 6.7).
--   expr_flat                    an expression
--   args_flat, more_args_flat    arguments with a comma between, and further ones with a comma before each
--   type_name_flat, spec_flat, base_flat, field_flat, fields_flat, declr_flat, declrs_flat, sizes_flat, params_flat,
--   param_decl_flat,
--   param_decls_flat, param_declr_flat    the type of the same name
--   more_declrs_flat, more_param_decls_flat    as more_args_flat
--   tail_flat n t                a declared name and what stands after it
use Rattle.std.specs.Prelude.{List, [], ◌∷◌, ◌++◌}
use Rattle.pungi_base.specs.declared.key.Key.TheVariants as keys
use Rattle.pungi_base.specs.declared.kind.Kind.{Kind}
use Rattle.pungi_base.specs.declared.kind.Kind.TheVariants as kind
use Rattle.pungi_base.specs.declared.names.Name.{Name}
use Rattle.pungi_base.specs.declared.punct.Punct.TheVariants as puncts
use Rattle.pungi_base.specs.Numbers.{py_object_new, py_unused}
use Rattle.pungi_tree.specs.Tokens.{mark, key, named_word, keys_flat, texts_flat, consts_flat, stars_flat, tag_flat}
use Rattle.pungi_tree.specs.Tokens.{void_flat, dots_flat}
use Rattle.pungi_tree.specs.Syntax.{Expr, word, int, float, char, text, null, paren, unary, post, binary, assign}
use Rattle.pungi_tree.specs.Syntax.{conditional, comma, cast, size_of_type, call, new, index, dot, arrow, Exprs}
use Rattle.pungi_tree.specs.Syntax.{no_exprs, expr_and, TypeName, type_name, Spec, spec, Base, words, alias, tagged}
use Rattle.pungi_tree.specs.Syntax.{tagged_fields, Field, empty, members, Fields, no_fields, field_and, Declr, declr}
use Rattle.pungi_tree.specs.Syntax.{Declrs, no_declrs, declr_and, Tail, sizes, function, Sizes, no_sizes, open_and}
use Rattle.pungi_tree.specs.Syntax.{size_and, Params, params, ParamDecl, param_decl, ParamDecls, no_params, param_and}
use Rattle.pungi_tree.specs.Syntax.{ParamDeclr, named, bare, unused}

abbrev mutual
  pub expr_flat : Expr → List Kind
  expr_flat (word p n) = kind.Word n ∷ []
  expr_flat (int p v l u) = kind.Int v l u ∷ []
  expr_flat (float p) = kind.Float ∷ []
  expr_flat (char p c) = kind.Char c ∷ []
  expr_flat (text p ns) = texts_flat ns
  expr_flat (null p) = key keys.Null ∷ []
  expr_flat (paren p e) = mark puncts.LeftParen ∷ (expr_flat e ++ mark puncts.RightParen ∷ [])
  expr_flat (unary p k e) = k ∷ expr_flat e
  expr_flat (post p m e) = expr_flat e ++ mark m ∷ []
  expr_flat (binary p m a b) = expr_flat a ++ (mark m ∷ expr_flat b)
  expr_flat (assign p m a b) = expr_flat a ++ (mark m ∷ expr_flat b)
  expr_flat (conditional p a b c) = expr_flat a ++ (mark puncts.Question
      ∷ (expr_flat b ++ (mark puncts.Colon ∷ expr_flat c)))
  expr_flat (comma p a b) = expr_flat a ++ (mark puncts.Comma ∷ expr_flat b)
  expr_flat (cast p t e) = mark puncts.LeftParen ∷ (type_name_flat t ++ (mark puncts.RightParen ∷ expr_flat e))
  expr_flat (size_of_type p t) = key keys.Sizeof ∷ mark puncts.LeftParen
      ∷ (type_name_flat t ++ mark puncts.RightParen ∷ [])
  expr_flat (call p f es) = expr_flat f ++ (mark puncts.LeftParen ∷ (args_flat es ++ mark puncts.RightParen ∷ []))
  expr_flat (new p t e) = kind.Word (named_word py_object_new) ∷ mark puncts.LeftParen
      ∷ (type_name_flat t ++ (mark puncts.Comma ∷ (expr_flat e ++ mark puncts.RightParen ∷ [])))
  expr_flat (index p a b) = expr_flat a ++ (mark puncts.LeftBracket ∷ (expr_flat b ++ mark puncts.RightBracket ∷ []))
  expr_flat (dot p e n) = expr_flat e ++ (mark puncts.Dot ∷ kind.Word n ∷ [])
  expr_flat (arrow p e n) = expr_flat e ++ (mark puncts.Arrow ∷ kind.Word n ∷ [])

  pub args_flat : Exprs → List Kind
  args_flat no_exprs = []
  args_flat (expr_and e es) = expr_flat e ++ more_args_flat es

  pub more_args_flat : Exprs → List Kind
  more_args_flat no_exprs = []
  more_args_flat (expr_and e es) = mark puncts.Comma ∷ (expr_flat e ++ more_args_flat es)

  pub type_name_flat : TypeName → List Kind
  type_name_flat (type_name s stars) = spec_flat s ++ stars_flat stars

  pub spec_flat : Spec → List Kind
  spec_flat (spec p b n) = base_flat b ++ consts_flat n

  pub base_flat : Base → List Kind
  base_flat (words ks) = keys_flat ks
  base_flat (alias n) = kind.Word n ∷ []
  base_flat (tagged of tag) = key of ∷ tag_flat tag
  base_flat (tagged_fields of tag fs) = key of ∷ (tag_flat tag
      ++ (mark puncts.LeftBrace ∷ (fields_flat fs ++ mark puncts.RightBrace ∷ [])))

  pub field_flat : Field → List Kind
  field_flat empty = mark puncts.Semicolon ∷ []
  field_flat (members qs s ds) = keys_flat qs ++ (spec_flat s ++ (declrs_flat ds ++ mark puncts.Semicolon ∷ []))

  pub fields_flat : Fields → List Kind
  fields_flat no_fields = []
  fields_flat (field_and f fs) = field_flat f ++ fields_flat fs

  pub declr_flat : Declr → List Kind
  declr_flat (declr stars n p t) = stars_flat stars ++ tail_flat n t

  pub declrs_flat : Declrs → List Kind
  declrs_flat no_declrs = []
  declrs_flat (declr_and d ds) = declr_flat d ++ more_declrs_flat ds

  pub more_declrs_flat : Declrs → List Kind
  more_declrs_flat no_declrs = []
  more_declrs_flat (declr_and d ds) = mark puncts.Comma ∷ (declr_flat d ++ more_declrs_flat ds)

  -- the name and what stands after it
  pub tail_flat : Name → Tail → List Kind
  tail_flat n (sizes ss) = kind.Word n ∷ sizes_flat ss
  tail_flat n (function ps) = mark puncts.LeftParen ∷ mark puncts.Star ∷ kind.Word n ∷ mark puncts.RightParen
      ∷ mark puncts.LeftParen ∷ (params_flat ps ++ mark puncts.RightParen ∷ [])

  pub sizes_flat : Sizes → List Kind
  sizes_flat no_sizes = []
  sizes_flat (open_and ss) = mark puncts.LeftBracket ∷ mark puncts.RightBracket ∷ sizes_flat ss
  sizes_flat (size_and e ss) = mark puncts.LeftBracket ∷ (expr_flat e ++ (mark puncts.RightBracket ∷ sizes_flat ss))

  pub params_flat : Params → List Kind
  params_flat (params ds v dots) = void_flat v ++ (param_decls_flat ds ++ dots_flat dots)

  pub param_decl_flat : ParamDecl → List Kind
  param_decl_flat (param_decl qs s d) = keys_flat qs ++ (spec_flat s ++ param_declr_flat d)

  pub param_decls_flat : ParamDecls → List Kind
  param_decls_flat no_params = []
  param_decls_flat (param_and d ds) = param_decl_flat d ++ more_param_decls_flat ds

  pub more_param_decls_flat : ParamDecls → List Kind
  more_param_decls_flat no_params = []
  more_param_decls_flat (param_and d ds) = mark puncts.Comma ∷ (param_decl_flat d ++ more_param_decls_flat ds)

  pub param_declr_flat : ParamDeclr → List Kind
  param_declr_flat (named d) = declr_flat d
  param_declr_flat (bare stars) = stars_flat stars
  param_declr_flat (unused stars n p) = stars_flat stars
      ++ (kind.Word (named_word py_unused) ∷ mark puncts.LeftParen ∷ kind.Word n ∷ mark puncts.RightParen ∷ [])
