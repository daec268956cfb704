-- Each expression, type, declarator and list of parameters that stands at the front of the tokens is read: one case for
-- each form.
--   expr_steps .. params_all    the facts of a tree, by those of its parts
use Rattle.std.proofs.Common.{true, false, List}
use Rattle.pungi_base.specs.declared.names.Name.{Name}
use Rattle.pungi_parse.proofs.trees.Facts.{SpecReads, ParamsReads, TypeNameReads, BaseReads, FieldReads, FieldsRead}
use Rattle.pungi_parse.proofs.trees.Facts.{TailReads, DeclrReads, DeclrsRead, MoreDeclrsRead, SizesRead}
use Rattle.pungi_parse.proofs.trees.Facts.{ParamDeclrReads, ParamDeclReads, MoreParamsRead}
use Rattle.pungi_parse.proofs.types.ParamComplete.{param_named, param_bare, param_unused, param_reads, more_params_end}
use Rattle.pungi_parse.proofs.types.ParamComplete.{more_params_and, params_void, params_none, params_read}
use Rattle.pungi_parse.proofs.expr.PostfixComplete.{ArgsRead, MoreArgsRead, more_args_end, more_args_and, args_end}
use Rattle.pungi_parse.proofs.expr.PostfixComplete.{args_and, word_steps, int_steps, float_steps, char_steps}
use Rattle.pungi_parse.proofs.expr.PostfixComplete.{null_steps, text_steps, paren_steps, new_steps, post_steps}
use Rattle.pungi_parse.proofs.expr.PostfixComplete.{call_steps, index_steps, dot_steps, arrow_steps}
use Rattle.pungi_parse.proofs.expr.ExprSteps.{Steps, whole}
use Rattle.pungi_parse.proofs.expr.TightComplete.{prefix_steps, sizeof_steps, casts_steps, binary_steps}
use Rattle.pungi_parse.proofs.expr.TightComplete.{conditionals_steps, assigns_steps, commas_steps}
use Rattle.pungi_parse.proofs.types.TypeComplete.{type_name_reads, sizes_end, sizes_open, sizes_expr, tail_sizes}
use Rattle.pungi_parse.proofs.types.TypeComplete.{tail_function, declr_reads, more_declrs_end, more_declrs_and}
use Rattle.pungi_parse.proofs.types.TypeComplete.{declrs_read, no_declrs_read, field_empty, field_members, fields_end}
use Rattle.pungi_parse.proofs.types.TypeComplete.{fields_and, base_words, base_alias, base_tagged, base_fields}
use Rattle.pungi_parse.proofs.types.TypeComplete.{spec_reads}
use Rattle.pungi_tree.specs.Syntax.{Expr, word, int, float, char, text, null, paren, unary, post, binary, assign}
use Rattle.pungi_tree.specs.Syntax.{conditional, comma, cast, size_of_type, call, new, index, dot, arrow, Exprs}
use Rattle.pungi_tree.specs.Syntax.{no_exprs, expr_and, TypeName, type_name, Spec, spec, Base, words, alias, tagged}
use Rattle.pungi_tree.specs.Syntax.{tagged_fields, Field, empty, members, Fields, no_fields, field_and, Declr, declr}
use Rattle.pungi_tree.specs.Syntax.{Declrs, no_declrs, declr_and, Tail, sizes, function, Sizes, no_sizes, open_and}
use Rattle.pungi_tree.specs.Syntax.{size_and, Params, params, ParamDecl, param_decl, ParamDecls, no_params, param_and}
use Rattle.pungi_tree.specs.Syntax.{ParamDeclr, named, bare, unused}

module _ (types : List Name) where
  mutual
    pub expr_steps : (e : Expr) → Steps types e
    expr_steps (word p n) = word_steps types p n
    expr_steps (int p v b u) = int_steps types p v b u
    expr_steps (float p) = float_steps types p
    expr_steps (char p c) = char_steps types p c
    expr_steps (text p ns) = text_steps types p ns
    expr_steps (null p) = null_steps types p
    expr_steps (paren p e) = paren_steps types p e (whole types e (expr_steps e))
    expr_steps (unary p k e) = prefix_steps types p k e (whole types e (expr_steps e))
    expr_steps (post p m e) = post_steps types p m e (expr_steps e)
    expr_steps (binary p m a b) = binary_steps types p m a b (expr_steps a) (whole types b (expr_steps b))
    expr_steps (assign p m a b) = assigns_steps types p m a b (expr_steps a) (whole types b (expr_steps b))
    expr_steps (conditional p a b c) = conditionals_steps types p a b c (expr_steps a)
        (whole types b (expr_steps b)) (whole types c (expr_steps c))
    expr_steps (comma p a b) = commas_steps types p a b (expr_steps a) (whole types b (expr_steps b))
    expr_steps (cast p t e) = casts_steps types p t e (type_name_all t) (whole types e (expr_steps e))
    expr_steps (size_of_type p t) = sizeof_steps types p t (type_name_all t)
    expr_steps (call p f es) = call_steps types p f es (expr_steps f) (args_all es)
    expr_steps (new p t e) = new_steps types p t e (type_name_all t) (whole types e (expr_steps e))
    expr_steps (index p a b) = index_steps types p a b (expr_steps a) (whole types b (expr_steps b))
    expr_steps (dot p e n) = dot_steps types p e n (expr_steps e)
    expr_steps (arrow p e n) = arrow_steps types p e n (expr_steps e)

    args_all : (es : Exprs) → ArgsRead types es
    args_all no_exprs = args_end types
    args_all (expr_and e es) = args_and types e es (whole types e (expr_steps e)) (more_args_all es)

    more_args_all : (es : Exprs) → MoreArgsRead types es
    more_args_all no_exprs = more_args_end types
    more_args_all (expr_and e es) = more_args_and types e es (whole types e (expr_steps e)) (more_args_all es)

    pub type_name_all : (t : TypeName) → TypeNameReads types t
    type_name_all (type_name c ss) = type_name_reads types c ss (spec_all c)

    pub spec_all : (c : Spec) → SpecReads types c
    spec_all (spec p b m) = spec_reads types p b m (base_all b)

    base_all : (b : Base) → BaseReads types b
    base_all (words ks) = base_words types ks
    base_all (alias n) = base_alias types n
    base_all (tagged of tag) = base_tagged types of tag
    base_all (tagged_fields of tag fs) = base_fields types of tag fs (fields_all fs)

    field_all : (f : Field) → FieldReads types f
    field_all empty = field_empty types
    field_all (members qs c ds) = field_members types qs c ds (spec_all c) (declrs_all ds)

    fields_all : (fs : Fields) → FieldsRead types fs
    fields_all no_fields = fields_end types
    fields_all (field_and f fs) = fields_and types f fs (field_all f) (fields_all fs)

    pub declr_all : (c : Declr) → DeclrReads types c
    declr_all (declr ss n p t) = declr_reads types ss n p t (tail_all t)

    declrs_all : (ds : Declrs) → DeclrsRead types ds
    declrs_all no_declrs = no_declrs_read types
    declrs_all (declr_and c ds) = declrs_read types c ds (declr_all c) (more_declrs_all ds)

    more_declrs_all : (ds : Declrs) → MoreDeclrsRead types ds
    more_declrs_all no_declrs = more_declrs_end types
    more_declrs_all (declr_and c ds) = more_declrs_and types c ds (declr_all c) (more_declrs_all ds)

    tail_all : (t : Tail) → TailReads types t
    tail_all (sizes ss) = tail_sizes types ss (sizes_all ss)
    tail_all (function ps) = tail_function types ps (params_all ps)

    sizes_all : (ss : Sizes) → SizesRead types ss
    sizes_all no_sizes = sizes_end types
    sizes_all (open_and ss) = sizes_open types ss (sizes_all ss)
    sizes_all (size_and e ss) = sizes_expr types e ss (whole types e (expr_steps e)) (sizes_all ss)

    pub params_all : (ps : Params) → ParamsReads types ps
    params_all (params ds true dots) = params_void types ds dots
    params_all (params no_params false dots) = params_none types dots
    params_all (params (param_and d ds) false dots) = params_read types d ds dots (param_decl_all d)
        (more_params_all ds)

    param_decl_all : (d : ParamDecl) → ParamDeclReads types d
    param_decl_all (param_decl qs c d) = param_reads types qs c d (spec_all c) (param_declr_all d)

    more_params_all : (ds : ParamDecls) → MoreParamsRead types ds
    more_params_all no_params = more_params_end types
    more_params_all (param_and d ds) = more_params_and types d ds (param_decl_all d) (more_params_all ds)

    param_declr_all : (d : ParamDeclr) → ParamDeclrReads types d
    param_declr_all (named (declr ss n p t)) = param_named types ss n p t (tail_all t)
    param_declr_all (bare ss) = param_bare types ss
    param_declr_all (unused ss n p) = param_unused types ss n p
