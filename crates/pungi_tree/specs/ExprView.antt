-- The tree of `Syntax` that an expression or a type of the program stands for.
--   expr_view, type_name_view, spec_view, base_view, field_view, declr_view, tail_view, params_view, param_decl_view,
--   param_declr_view    what it stands for
--   optional_view o                 an expression, where it is there
--   exprs_of, fields_of, declrs_of, sizes_of, param_decls_of    a list of nodes, as `Syntax` writes it
--   Node                            an expression that waits for its place
--   base_step, node_step, field_step, param_declr_step, tail_step, declr_step, expr_step, param_decl_step, params_step,
--   spec_step, type_name_step
--                                   one level of it
use Rattle.std.specs.Prelude.{List, [], ◌∷◌, Option, Some, None, option_map}
use Rattle.pungi_base.specs.declared.pos.Pos.{Pos}
use Rattle.pungi_tree.specs.Syntax as plain
use Rattle.pungi_tree.specs.declared.declr.Tail.TheOpen.{Tail-F, ExprNode-F, ParamDeclr-F, Base-F, Field-F, Declr-F}
use Rattle.pungi_tree.specs.declared.declr.Tail.TheOpen.{Expr-F, ParamDecl-F, Params-F, Spec-F, TypeName-F}
use Rattle.pungi_tree.specs.declared.declr.Tail.{Tail, fold-Tail}
use Rattle.pungi_tree.specs.declared.declr.Declr.{Declr, fold-Declr}
use Rattle.pungi_tree.specs.declared.expr.Expr.{Expr, fold-Expr}
use Rattle.pungi_tree.specs.declared.params.ParamDeclr.{ParamDeclr, fold-ParamDeclr}
use Rattle.pungi_tree.specs.declared.params.ParamDecl.{ParamDecl, fold-ParamDecl}
use Rattle.pungi_tree.specs.declared.params.Params.{Params, fold-Params}
use Rattle.pungi_tree.specs.declared.spec.Base.{Base, fold-Base}
use Rattle.pungi_tree.specs.declared.spec.Field.{Field, fold-Field}
use Rattle.pungi_tree.specs.declared.spec.Spec.{Spec, fold-Spec}
use Rattle.pungi_tree.specs.declared.spec.TypeName.{TypeName, fold-TypeName}

abbrev pub exprs_of : List plain.Expr → plain.Exprs
exprs_of [] = plain.no_exprs
exprs_of (e ∷ es) = plain.expr_and e (exprs_of es)

abbrev pub fields_of : List plain.Field → plain.Fields
fields_of [] = plain.no_fields
fields_of (f ∷ fs) = plain.field_and f (fields_of fs)

abbrev pub declrs_of : List plain.Declr → plain.Declrs
declrs_of [] = plain.no_declrs
declrs_of (d ∷ ds) = plain.declr_and d (declrs_of ds)

abbrev pub sizes_of : List (Option plain.Expr) → plain.Sizes
sizes_of [] = plain.no_sizes
sizes_of (None ∷ ss) = plain.open_and (sizes_of ss)
sizes_of (Some e ∷ ss) = plain.size_and e (sizes_of ss)

abbrev pub param_decls_of : List plain.ParamDecl → plain.ParamDecls
param_decls_of [] = plain.no_params
param_decls_of (p ∷ ps) = plain.param_and p (param_decls_of ps)

-- One level of each type, with what is inside already seen; a node waits for its place.
abbrev pub Node : Type 0
Node = Pos → plain.Expr

abbrev pub base_step : Base-F plain.Tail Node plain.ParamDeclr plain.Base plain.Field plain.Declr plain.Expr
    plain.ParamDecl plain.Params plain.Spec plain.TypeName → plain.Base
base_step (Base-F.Words ks) = plain.words ks.items
base_step (Base-F.Alias n) = plain.alias n
base_step (Base-F.Tagged of tag None) = plain.tagged of tag
base_step (Base-F.Tagged of tag (Some fs)) = plain.tagged_fields of tag (fields_of fs.items)

abbrev pub node_step : ExprNode-F plain.Tail Node plain.ParamDeclr plain.Base plain.Field plain.Declr plain.Expr
    plain.ParamDecl plain.Params plain.Spec plain.TypeName → Node
node_step (ExprNode-F.Word n) = λ p. plain.word p n
node_step (ExprNode-F.Int v l u) = λ p. plain.int p v l u
node_step (ExprNode-F.Float) = λ p. plain.float p
node_step (ExprNode-F.Char c) = λ p. plain.char p c
node_step (ExprNode-F.Text ts) = λ p. plain.text p ts.items
node_step (ExprNode-F.Null) = λ p. plain.null p
node_step (ExprNode-F.Paren e) = λ p. plain.paren p e.value
node_step (ExprNode-F.Unary k e) = λ p. plain.unary p k e.value
node_step (ExprNode-F.Post m e) = λ p. plain.post p m e.value
node_step (ExprNode-F.Binary m a b) = λ p. plain.binary p m a.value b.value
node_step (ExprNode-F.Assign m a b) = λ p. plain.assign p m a.value b.value
node_step (ExprNode-F.Cond a b c) = λ p. plain.conditional p a.value b.value c.value
node_step (ExprNode-F.Comma a b) = λ p. plain.comma p a.value b.value
node_step (ExprNode-F.Cast t e) = λ p. plain.cast p t.value e.value
node_step (ExprNode-F.SizeOfType t) = λ p. plain.size_of_type p t.value
node_step (ExprNode-F.Call f es) = λ p. plain.call p f.value (exprs_of es.items)
node_step (ExprNode-F.New t e) = λ p. plain.new p t.value e.value
node_step (ExprNode-F.Index a b) = λ p. plain.index p a.value b.value
node_step (ExprNode-F.Dot e n) = λ p. plain.dot p e.value n
node_step (ExprNode-F.Arrow e n) = λ p. plain.arrow p e.value n

abbrev pub field_step : Field-F plain.Tail Node plain.ParamDeclr plain.Base plain.Field plain.Declr plain.Expr
    plain.ParamDecl plain.Params plain.Spec plain.TypeName → plain.Field
field_step (Field-F.Empty) = plain.empty
field_step (Field-F.Members qs s ds) = plain.members qs.items s (declrs_of ds.items)

abbrev pub param_declr_step : ParamDeclr-F plain.Tail Node plain.ParamDeclr plain.Base plain.Field plain.Declr
    plain.Expr plain.ParamDecl plain.Params plain.Spec plain.TypeName → plain.ParamDeclr
param_declr_step (ParamDeclr-F.Named d) = plain.named d
param_declr_step (ParamDeclr-F.Bare ss) = plain.bare ss.items
param_declr_step (ParamDeclr-F.Unused ss n p) = plain.unused ss.items n p

abbrev pub tail_step : Tail-F plain.Tail Node plain.ParamDeclr plain.Base plain.Field plain.Declr plain.Expr
    plain.ParamDecl plain.Params plain.Spec plain.TypeName → plain.Tail
tail_step (Tail-F.Sizes ss) = plain.sizes (sizes_of ss.items)
tail_step (Tail-F.Function ps) = plain.function ps

abbrev pub declr_step : Declr-F plain.Tail Node plain.ParamDeclr plain.Base plain.Field plain.Declr plain.Expr
    plain.ParamDecl plain.Params plain.Spec plain.TypeName → plain.Declr
declr_step d = plain.declr d.stars.items d.name d.pos d.tail

abbrev pub expr_step : Expr-F plain.Tail Node plain.ParamDeclr plain.Base plain.Field plain.Declr plain.Expr
    plain.ParamDecl plain.Params plain.Spec plain.TypeName → plain.Expr
expr_step e = e.node e.pos

abbrev pub param_decl_step : ParamDecl-F plain.Tail Node plain.ParamDeclr plain.Base plain.Field plain.Declr
    plain.Expr plain.ParamDecl plain.Params plain.Spec plain.TypeName → plain.ParamDecl
param_decl_step d = plain.param_decl d.quals.items d.spec d.declr

abbrev pub params_step : Params-F plain.Tail Node plain.ParamDeclr plain.Base plain.Field plain.Declr plain.Expr
    plain.ParamDecl plain.Params plain.Spec plain.TypeName → plain.Params
params_step ps = plain.params (param_decls_of ps.list.items) ps.void ps.dots

abbrev pub spec_step : Spec-F plain.Tail Node plain.ParamDeclr plain.Base plain.Field plain.Declr plain.Expr
    plain.ParamDecl plain.Params plain.Spec plain.TypeName → plain.Spec
spec_step s = plain.spec s.pos s.base s.consts

abbrev pub type_name_step : TypeName-F plain.Tail Node plain.ParamDeclr plain.Base plain.Field plain.Declr
    plain.Expr plain.ParamDecl plain.Params plain.Spec plain.TypeName → plain.TypeName
type_name_step t = plain.type_name t.spec t.stars.items

abbrev pub base_view : Base → plain.Base
base_view =
    fold-Base plain.Tail Node plain.ParamDeclr plain.Base plain.Field plain.Declr plain.Expr plain.ParamDecl
    plain.Params plain.Spec plain.TypeName tail_step node_step param_declr_step base_step field_step declr_step
    expr_step param_decl_step params_step spec_step type_name_step

abbrev pub field_view : Field → plain.Field
field_view =
    fold-Field plain.Tail Node plain.ParamDeclr plain.Base plain.Field plain.Declr plain.Expr plain.ParamDecl
    plain.Params plain.Spec plain.TypeName tail_step node_step param_declr_step base_step field_step declr_step
    expr_step param_decl_step params_step spec_step type_name_step

abbrev pub param_declr_view : ParamDeclr → plain.ParamDeclr
param_declr_view =
    fold-ParamDeclr plain.Tail Node plain.ParamDeclr plain.Base plain.Field plain.Declr plain.Expr plain.ParamDecl
    plain.Params plain.Spec plain.TypeName tail_step node_step param_declr_step base_step field_step declr_step
    expr_step param_decl_step params_step spec_step type_name_step

abbrev pub tail_view : Tail → plain.Tail
tail_view =
    fold-Tail plain.Tail Node plain.ParamDeclr plain.Base plain.Field plain.Declr plain.Expr plain.ParamDecl
    plain.Params plain.Spec plain.TypeName tail_step node_step param_declr_step base_step field_step declr_step
    expr_step param_decl_step params_step spec_step type_name_step

abbrev pub declr_view : Declr → plain.Declr
declr_view =
    fold-Declr plain.Tail Node plain.ParamDeclr plain.Base plain.Field plain.Declr plain.Expr plain.ParamDecl
    plain.Params plain.Spec plain.TypeName tail_step node_step param_declr_step base_step field_step declr_step
    expr_step param_decl_step params_step spec_step type_name_step

abbrev pub expr_view : Expr → plain.Expr
expr_view =
    fold-Expr plain.Tail Node plain.ParamDeclr plain.Base plain.Field plain.Declr plain.Expr plain.ParamDecl
    plain.Params plain.Spec plain.TypeName tail_step node_step param_declr_step base_step field_step declr_step
    expr_step param_decl_step params_step spec_step type_name_step

abbrev pub param_decl_view : ParamDecl → plain.ParamDecl
param_decl_view =
    fold-ParamDecl plain.Tail Node plain.ParamDeclr plain.Base plain.Field plain.Declr plain.Expr plain.ParamDecl
    plain.Params plain.Spec plain.TypeName tail_step node_step param_declr_step base_step field_step declr_step
    expr_step param_decl_step params_step spec_step type_name_step

abbrev pub params_view : Params → plain.Params
params_view =
    fold-Params plain.Tail Node plain.ParamDeclr plain.Base plain.Field plain.Declr plain.Expr plain.ParamDecl
    plain.Params plain.Spec plain.TypeName tail_step node_step param_declr_step base_step field_step declr_step
    expr_step param_decl_step params_step spec_step type_name_step

abbrev pub spec_view : Spec → plain.Spec
spec_view =
    fold-Spec plain.Tail Node plain.ParamDeclr plain.Base plain.Field plain.Declr plain.Expr plain.ParamDecl
    plain.Params plain.Spec plain.TypeName tail_step node_step param_declr_step base_step field_step declr_step
    expr_step param_decl_step params_step spec_step type_name_step

abbrev pub type_name_view : TypeName → plain.TypeName
type_name_view =
    fold-TypeName plain.Tail Node plain.ParamDeclr plain.Base plain.Field plain.Declr plain.Expr plain.ParamDecl
    plain.Params plain.Spec plain.TypeName tail_step node_step param_declr_step base_step field_step declr_step
    expr_step param_decl_step params_step spec_step type_name_step

abbrev pub optional_view : Option Expr → Option plain.Expr
optional_view o = option_map expr_view o
