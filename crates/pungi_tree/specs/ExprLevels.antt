-- Which expressions and types the grammar allows (C11 6.5 and 6.7), where `types` are the words of the `typedef`s of
-- the file. A type word is no other word, so neither `PyObject_New` nor `Py_UNUSED` is read as such where it is a type
-- word.
--   is_empty xs            an empty list
--   tag_ok types tag       a tag before fields is no type word, where it is there; alone it may be one
--   is_void, is_just_void, is_void_base, is_void_spec    the keyword `void`, and what is spelled by it alone
--   is_nothing, is_void_param, is_lone_void    nothing after a type, a parameter that is spelled `void`, and a list of
--                                              this one alone
--   has_no_params ds       an empty list of parameters
--   void_ok v ds dots      the lone `void` is the empty list, and `, ...` stands after a parameter
--   expr_at types l e      the expression binds at least as tightly as the level `l`, and so does each operand in it
--                          for its place
--   args_ok, type_name_ok, spec_ok, base_ok, field_ok, fields_ok, declr_ok, declrs_ok, tail_ok, sizes_ok, params_ok,
--   param_decl_ok, param_decls_ok,
--   param_declr_ok         the type of the same name
--   some_declrs_ok         the same of at least one declarator
use Rattle.std.specs.Prelude.{ℕ, ◌+◌, Bool, true, false, not, ◌&&◌, ◌==◌, nat_le, List, [], ◌∷◌, Option, Some, None}
use Rattle.std.specs.Prelude.{is_some, is_none}
use Rattle.pungi_base.specs.declared.key.Key.{Key}
use Rattle.pungi_base.specs.declared.key.Key.TheVariants as keys
use Rattle.pungi_base.specs.declared.names.Name.{Name}
use Rattle.pungi_base.specs.declared.pos.Pos.{Pos}
use Rattle.pungi_base.specs.Numbers.{py_object_new, py_unused}
use Rattle.pungi_tree.specs.Tokens.{named_word}
use Rattle.pungi_tree.specs.Operators.{binary_level, is_assign, prefix_need, is_step, is_base_word, is_qualifier}
use Rattle.pungi_tree.specs.Operators.{is_aggregate, all_keys}
use Rattle.pungi_tree.specs.TypeWords.{is_type, is_word}
use Rattle.pungi_tree.specs.Syntax.{Expr, word, int, float, char, text, null, paren, unary, post, binary, assign}
use Rattle.pungi_tree.specs.Syntax.{conditional, comma, cast, size_of_type, call, new, index, dot, arrow, Exprs}
use Rattle.pungi_tree.specs.Syntax.{no_exprs, expr_and, TypeName, type_name, Spec, spec, Base, words, alias, tagged}
use Rattle.pungi_tree.specs.Syntax.{tagged_fields, Field, empty, members, Fields, no_fields, field_and, Declr, declr}
use Rattle.pungi_tree.specs.Syntax.{Declrs, no_declrs, declr_and, Tail, sizes, function, Sizes, no_sizes, open_and}
use Rattle.pungi_tree.specs.Syntax.{size_and, Params, params, ParamDecl, param_decl, ParamDecls, no_params, param_and}
use Rattle.pungi_tree.specs.Syntax.{ParamDeclr, named, bare, unused}

abbrev pub is_empty : {A : Type 0} → List A → Bool
is_empty [] = true
is_empty (x ∷ xs) = false

abbrev pub tag_ok : List Name → Option (Name × Pos) → Bool
tag_ok types None = true
tag_ok types (Some t) = is_word types t.0

abbrev pub is_void : Key → Bool
is_void keys.Void = true
is_void _ = false

abbrev pub is_just_void : List Key → Bool
is_just_void [] = false
is_just_void (k ∷ ks) = is_void k && is_empty ks

abbrev pub is_void_base : Base → Bool
is_void_base (words ks) = is_just_void ks
is_void_base _ = false

abbrev pub is_void_spec : Spec → Bool
is_void_spec (spec p b n) = is_void_base b && n == 0

abbrev pub is_nothing : ParamDeclr → Bool
is_nothing (bare stars) = is_empty stars
is_nothing _ = false

abbrev pub is_void_param : ParamDecl → Bool
is_void_param (param_decl qs s d) = is_empty qs && (is_void_spec s && is_nothing d)

abbrev pub has_no_params : ParamDecls → Bool
has_no_params no_params = true
has_no_params (param_and d ds) = false

abbrev pub is_lone_void : ParamDecls → Bool
is_lone_void no_params = false
is_lone_void (param_and d ds) = is_void_param d && has_no_params ds

abbrev pub void_ok : Bool → ParamDecls → Option Pos → Bool
void_ok true ds dots = has_no_params ds && is_none dots
void_ok false ds None = not (is_lone_void ds)
void_ok false ds (Some p) = not (has_no_params ds)

module _ (types : List Name) where
  abbrev mutual
    pub expr_at : ℕ → Expr → Bool
    expr_at l (word p n) = nat_le l 16 && is_word types n
    expr_at l (int p v b u) = nat_le l 16
    expr_at l (float p) = nat_le l 16
    expr_at l (char p c) = nat_le l 16
    expr_at l (text p ns) = nat_le l 16 && not (is_empty ns)
    expr_at l (null p) = nat_le l 16
    expr_at l (paren p e) = nat_le l 16 && expr_at 0 e
    expr_at l (unary p k e) = nat_le l 14 && expr_at (prefix_need k) e
    expr_at l (post p m e) = nat_le l 15 && (is_step m && expr_at 15 e)
    expr_at l (binary p m a b) = nat_le l (binary_level m)
        && (expr_at (binary_level m) a && expr_at (binary_level m + 1) b)
    expr_at l (assign p m a b) = nat_le l 1 && (is_assign m && (expr_at 14 a && expr_at 1 b))
    expr_at l (conditional p a b c) = nat_le l 2 && (expr_at 3 a && (expr_at 0 b && expr_at 2 c))
    expr_at l (comma p a b) = nat_le l 0 && (expr_at 0 a && expr_at 1 b)
    expr_at l (cast p t e) = nat_le l 13 && (type_name_ok t && expr_at 13 e)
    expr_at l (size_of_type p t) = nat_le l 14 && type_name_ok t
    expr_at l (call p f es) = nat_le l 15 && (expr_at 15 f && args_ok es)
    expr_at l (new p t e) = nat_le l 16 && (is_word types (named_word py_object_new) && (type_name_ok t && expr_at 1 e))
    expr_at l (index p a b) = nat_le l 15 && (expr_at 15 a && expr_at 0 b)
    expr_at l (dot p e n) = nat_le l 15 && (expr_at 15 e && is_word types n)
    expr_at l (arrow p e n) = nat_le l 15 && (expr_at 15 e && is_word types n)

    pub args_ok : Exprs → Bool
    args_ok no_exprs = true
    args_ok (expr_and e es) = expr_at 1 e && args_ok es

    pub type_name_ok : TypeName → Bool
    type_name_ok (type_name s stars) = spec_ok s

    pub spec_ok : Spec → Bool
    spec_ok (spec p b n) = base_ok b

    pub base_ok : Base → Bool
    base_ok (words ks) = not (is_empty ks) && all_keys is_base_word ks
    base_ok (alias n) = is_type types n
    base_ok (tagged of tag) = is_aggregate of && is_some tag
    base_ok (tagged_fields of tag fs) = is_aggregate of && (tag_ok types tag && fields_ok fs)

    pub field_ok : Field → Bool
    field_ok empty = true
    field_ok (members qs s ds) = all_keys is_qualifier qs && (spec_ok s && some_declrs_ok ds)

    pub fields_ok : Fields → Bool
    fields_ok no_fields = true
    fields_ok (field_and f fs) = field_ok f && fields_ok fs

    pub declr_ok : Declr → Bool
    declr_ok (declr stars n p t) = is_word types n && tail_ok t

    pub some_declrs_ok : Declrs → Bool
    some_declrs_ok no_declrs = false
    some_declrs_ok (declr_and d ds) = declr_ok d && declrs_ok ds

    pub declrs_ok : Declrs → Bool
    declrs_ok no_declrs = true
    declrs_ok (declr_and d ds) = declr_ok d && declrs_ok ds

    pub tail_ok : Tail → Bool
    tail_ok (sizes ss) = sizes_ok ss
    tail_ok (function ps) = params_ok ps

    pub sizes_ok : Sizes → Bool
    sizes_ok no_sizes = true
    sizes_ok (open_and ss) = sizes_ok ss
    sizes_ok (size_and e ss) = expr_at 0 e && sizes_ok ss

    pub params_ok : Params → Bool
    params_ok (params ds v dots) = void_ok v ds dots && param_decls_ok ds

    pub param_decl_ok : ParamDecl → Bool
    param_decl_ok (param_decl qs s d) = all_keys is_qualifier qs && (spec_ok s && param_declr_ok d)

    pub param_decls_ok : ParamDecls → Bool
    param_decls_ok no_params = true
    param_decls_ok (param_and d ds) = param_decl_ok d && param_decls_ok ds

    pub param_declr_ok : ParamDeclr → Bool
    param_declr_ok (named d) = declr_ok d
    param_declr_ok (bare stars) = true
    param_declr_ok (unused stars n p) = is_word types (named_word py_unused) && is_word types n
