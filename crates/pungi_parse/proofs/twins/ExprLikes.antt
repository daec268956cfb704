-- How near a twin is to the first tree: allowed where it is allowed, as deep, and as near to the lone `void`.
--   LikeExpr, LikeArgs, .. , LikeParams    an allowed tree of the type of the same name, as deep as the other
--   LikeBase, LikeSpec, LikeParamDeclr, LikeParamDecl, LikeParamDecls    the same, and as near to the lone `void` as
--                                                                        the other
--   void_like    where one is, the lone `void` may stand in the same places
use Rattle.std.proofs.Common.{◌≡◌, ℕ, Bool, true, false, List, Option, Some, None, refl}
use Rattle.std.specs.Prelude.{is_none}
use Rattle.pungi_base.specs.declared.names.Name.{Name}
use Rattle.pungi_base.specs.declared.pos.Pos.{Pos}
use Rattle.pungi_parse.proofs.twins.Twin.{Alike}
use Rattle.pungi_tree.specs.ExprDepth.{expr_depth, exprs_depth, type_name_depth, spec_depth, base_depth, field_depth}
use Rattle.pungi_tree.specs.ExprDepth.{fields_depth, declr_depth, declrs_depth, tail_depth, sizes_depth, params_depth}
use Rattle.pungi_tree.specs.ExprDepth.{param_decl_depth, param_decls_depth, param_declr_depth}
use Rattle.pungi_tree.specs.ExprLevels.{is_void_base, is_void_spec, is_nothing, is_void_param, is_lone_void}
use Rattle.pungi_tree.specs.ExprLevels.{has_no_params, void_ok, expr_at, args_ok, type_name_ok, spec_ok, base_ok}
use Rattle.pungi_tree.specs.ExprLevels.{field_ok, fields_ok, declr_ok, some_declrs_ok, declrs_ok, tail_ok, sizes_ok}
use Rattle.pungi_tree.specs.ExprLevels.{params_ok, param_decl_ok, param_decls_ok, param_declr_ok}
use Rattle.pungi_tree.specs.Placed.{Placed, first_place}
use Rattle.pungi_tree.specs.Syntax.{Expr, Exprs, TypeName, Spec, Base, Field, Fields, Declr, Declrs, Tail, Sizes}
use Rattle.pungi_tree.specs.Syntax.{Params, ParamDecl, ParamDecls, ParamDeclr}

module _ (types : List Name) where
  abbrev pub LikeExpr : ℕ → Expr → Expr → Type 0
  LikeExpr l e x = Alike (expr_at types l x) (expr_depth x) (expr_depth e)

  abbrev pub LikeArgs : Exprs → Exprs → Type 0
  LikeArgs es x = Alike (args_ok types x) (exprs_depth x) (exprs_depth es)

  abbrev pub LikeTypeName : TypeName → TypeName → Type 0
  LikeTypeName t x = Alike (type_name_ok types x) (type_name_depth x) (type_name_depth t)

  pub record LikeSpec (b x : Spec) : Type 0 where
    pub ok : spec_ok types x ≡ true
    pub deep : spec_depth x ≡ spec_depth b
    pub void : is_void_spec x ≡ is_void_spec b

  pub record LikeBase (ts : List Placed) (b x : Base) : Type 0 where
    pub ok : base_ok types x ≡ true
    pub deep : base_depth x ≡ base_depth b
    pub void : is_void_base x ≡ is_void_base b
    pub first : Pos
    pub place : first_place ts ≡ Some first

  abbrev pub LikeField : Field → Field → Type 0
  LikeField f x = Alike (field_ok types x) (field_depth x) (field_depth f)

  abbrev pub LikeFields : Fields → Fields → Type 0
  LikeFields fs x = Alike (fields_ok types x) (fields_depth x) (fields_depth fs)

  abbrev pub LikeDeclr : Declr → Declr → Type 0
  LikeDeclr c x = Alike (declr_ok types x) (declr_depth x) (declr_depth c)

  abbrev pub LikeSomeDeclrs : Declrs → Declrs → Type 0
  LikeSomeDeclrs ds x = Alike (some_declrs_ok types x) (declrs_depth x) (declrs_depth ds)

  abbrev pub LikeDeclrs : Declrs → Declrs → Type 0
  LikeDeclrs ds x = Alike (declrs_ok types x) (declrs_depth x) (declrs_depth ds)

  abbrev pub LikeTail : Tail → Pos × Tail → Type 0
  LikeTail t x = Alike (tail_ok types x.1) (tail_depth x.1) (tail_depth t)

  abbrev pub LikeSizes : Sizes → Sizes → Type 0
  LikeSizes ss x = Alike (sizes_ok types x) (sizes_depth x) (sizes_depth ss)

  abbrev pub LikeParams : Params → Params → Type 0
  LikeParams ps x = Alike (params_ok types x) (params_depth x) (params_depth ps)

  pub record LikeParamDecl (d x : ParamDecl) : Type 0 where
    pub ok : param_decl_ok types x ≡ true
    pub deep : param_decl_depth x ≡ param_decl_depth d
    pub void : is_void_param x ≡ is_void_param d

  pub record LikeParamDecls (ds x : ParamDecls) : Type 0 where
    pub ok : param_decls_ok types x ≡ true
    pub deep : param_decls_depth x ≡ param_decls_depth ds
    pub none : has_no_params x ≡ has_no_params ds
    pub lone : is_lone_void x ≡ is_lone_void ds

  pub record LikeParamDeclr (d x : ParamDeclr) : Type 0 where
    pub ok : param_declr_ok types x ≡ true
    pub deep : param_declr_depth x ≡ param_declr_depth d
    pub nothing : is_nothing x ≡ is_nothing d

  -- whether the lone `void` may stand there
  pub void_like : (v : Bool) (ds es : ParamDecls) (p q : Option Pos) → has_no_params es ≡ has_no_params ds
      → is_lone_void es ≡ is_lone_void ds → is_none q ≡ is_none p → void_ok v es q ≡ void_ok v ds p
  void_like true ds es p q a b c = rw (a, c) refl
  void_like false ds es None None a b c = rw b refl
  void_like false ds es None (Some q) a b c = absurd (cc)
  void_like false ds es (Some p) None a b c = absurd (cc)
  void_like false ds es (Some p) (Some q) a b c = rw a refl
