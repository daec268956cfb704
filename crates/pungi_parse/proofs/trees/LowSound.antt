-- What readers of parts are to give, so that readers over them are right.
--   Gets stands ok deep most    what stands there is allowed and no deeper than it may be
--   GetsExpr types d l ts x     an expression of a level, after which no operator binds as tightly
--   GetsTypeName .. GetsParams  the type of the same name
--   LowSound types d low        what the readers `low` read stands there, and has at most `d` nodes of expressions on a
--                               path
use Rattle.std.proofs.Common.{◌≡◌, ℕ, ◌≤◌, Bool, true, List, ◌∷◌, Option, Some, None}
use Rattle.pungi_base.specs.declared.names.Name.{Name}
use Rattle.pungi_base.specs.declared.pos.Pos.{Pos}
use Rattle.pungi_base.specs.declared.punct.Punct.TheVariants as puncts
use Rattle.pungi_parse.specs.tokens.OneToken.{eat_operator}
use Rattle.pungi_parse.specs.types.TypeReader.{Lower}
use Rattle.pungi_parse.proofs.tokens.Ends.{at_least}
use Rattle.pungi_tree.specs.ExprDepth.{expr_depth, type_name_depth, spec_depth, base_depth, field_depth, fields_depth}
use Rattle.pungi_tree.specs.ExprDepth.{declr_depth, declrs_depth, sizes_depth, params_depth, param_decl_depth}
use Rattle.pungi_tree.specs.ExprDepth.{param_decls_depth, param_declr_depth}
use Rattle.pungi_tree.specs.ExprLevels.{expr_at, type_name_ok, spec_ok, base_ok, field_ok, fields_ok, declr_ok}
use Rattle.pungi_tree.specs.ExprLevels.{declrs_ok, some_declrs_ok, sizes_ok, params_ok, param_decl_ok, param_decls_ok}
use Rattle.pungi_tree.specs.ExprLevels.{param_declr_ok}
use Rattle.pungi_tree.specs.ExprSpells.{Spells, SpellsTypeName, SpellsSpec, SpellsBase, SpellsField, SpellsFields}
use Rattle.pungi_tree.specs.ExprSpells.{SpellsDeclr, SpellsDeclrs, SpellsMoreDeclrs, SpellsSizes, SpellsParams}
use Rattle.pungi_tree.specs.ExprSpells.{SpellsParamDecl, SpellsMoreParamDecls, SpellsParamDeclr, SpellsDots}
use Rattle.pungi_tree.specs.Placed.{Placed, mark_at}
use Rattle.pungi_tree.specs.Syntax.{Expr, TypeName, Spec, Base, Field, Fields, Declr, Declrs, Sizes, Params, ParamDecl}
use Rattle.pungi_tree.specs.Syntax.{ParamDecls, ParamDeclr}

pub record Gets (stands : Type 0) (ok : Bool) (deep most : ℕ) : Type 0 where
  pub spells : stands
  pub allowed : ok ≡ true
  pub shallow : deep ≤ most

module _ (types : List Name) (d : ℕ) where
  pub record GetsExpr (l : ℕ) (ts : List Placed) (x : Expr × List Placed) : Type 0 where
    pub spells : Spells x.0 ts x.1
    pub allowed : expr_at types l x.0 ≡ true
    pub shallow : expr_depth x.0 ≤ d
    pub no_operator : eat_operator (at_least l) x.1 ≡ None

  abbrev pub GetsTypeName : List Placed → TypeName × List Placed → Type 0
  GetsTypeName ts x = Gets (SpellsTypeName x.0 ts x.1) (type_name_ok types x.0) (type_name_depth x.0) d

  abbrev pub GetsSpec : List Placed → Spec × List Placed → Type 0
  GetsSpec ts x = Gets (SpellsSpec x.0 ts x.1) (spec_ok types x.0) (spec_depth x.0) d

  abbrev pub GetsBase : List Placed → Base × List Placed → Type 0
  GetsBase ts x = Gets (SpellsBase x.0 ts x.1) (base_ok types x.0) (base_depth x.0) d

  abbrev pub GetsField : List Placed → Field × List Placed → Type 0
  GetsField ts x = Gets (SpellsField x.0 ts x.1) (field_ok types x.0) (field_depth x.0) d

  abbrev pub GetsFields : List Placed → Fields × List Placed → Type 0
  GetsFields ts x = Gets (SpellsFields x.0 ts x.1) (fields_ok types x.0) (fields_depth x.0) d

  abbrev pub GetsDeclr : List Placed → Declr × List Placed → Type 0
  GetsDeclr ts x = Gets (SpellsDeclr x.0 ts x.1) (declr_ok types x.0) (declr_depth x.0) d

  abbrev pub GetsDeclrs : List Placed → Declrs × List Placed → Type 0
  GetsDeclrs ts x = Gets (SpellsDeclrs x.0 ts x.1) (some_declrs_ok types x.0) (declrs_depth x.0) d

  abbrev pub GetsMoreDeclrs : List Placed → Declrs × List Placed → Type 0
  GetsMoreDeclrs ts x = Gets (SpellsMoreDeclrs x.0 ts x.1) (declrs_ok types x.0) (declrs_depth x.0) d

  abbrev pub GetsSizes : List Placed → Sizes × List Placed → Type 0
  GetsSizes ts x = Gets (SpellsSizes x.0 ts x.1) (sizes_ok types x.0) (sizes_depth x.0) d

  abbrev pub GetsParamDecl : List Placed → ParamDecl × List Placed → Type 0
  GetsParamDecl ts x = Gets (SpellsParamDecl x.0 ts x.1) (param_decl_ok types x.0) (param_decl_depth x.0) d

  abbrev pub GetsParamDeclr : List Placed → ParamDeclr × List Placed → Type 0
  GetsParamDeclr ts x = Gets (SpellsParamDeclr x.0 ts x.1) (param_declr_ok types x.0) (param_declr_depth x.0) d

  abbrev pub GetsMoreParams : List Placed → (ParamDecls × Option Pos) × List Placed → Type 0
  GetsMoreParams ts x =
      Gets ((after : List Placed) × SpellsMoreParamDecls x.0.0 ts after × SpellsDots x.0.1 after x.1)
      (param_decls_ok types x.0.0) (param_decls_depth x.0.0) d

  abbrev pub GetsParams : List Placed → Params × List Placed → Type 0
  GetsParams ts x = Gets ((q : Pos) × SpellsParams x.0 ts (mark_at puncts.RightParen q ∷ x.1)) (params_ok types x.0)
      (params_depth x.0) d

pub record LowSound (types : List Name) (d : ℕ) (low : Lower) : Type 0 where
  pub expr : (l : ℕ) (ts : List Placed) (x : Expr × List Placed) → low.expr l ts ≡ Some x → l ≤ 14
      → GetsExpr types d l ts x
  pub spec : (ts : List Placed) (x : Spec × List Placed) → low.spec ts ≡ Some x → GetsSpec types d ts x
  pub params : (ts : List Placed) (x : Params × List Placed) → low.params ts ≡ Some x → GetsParams types d ts x
