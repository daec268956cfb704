-- What stands at the front of tokens has the kinds that the tree lists, and then come those of the rest: expressions
-- and types.
use Rattle.std.proofs.Common.{◌≡◌, ℕ, zero, suc, Bool, true, false, List, [], ◌∷◌, ◌++◌, Option, Some, None, refl}
use Rattle.std.proofs.Common.{append_assoc}
use Rattle.pungi_base.specs.declared.key.Key.{Key}
use Rattle.pungi_base.specs.declared.names.Name.{Name}
use Rattle.pungi_base.specs.declared.pos.Pos.{Pos}
use Rattle.pungi_tree.specs.ExprFlat.{expr_flat, args_flat, more_args_flat, type_name_flat, spec_flat, base_flat}
use Rattle.pungi_tree.specs.ExprFlat.{field_flat, fields_flat, declr_flat, declrs_flat, more_declrs_flat, tail_flat}
use Rattle.pungi_tree.specs.ExprFlat.{sizes_flat, params_flat, param_decl_flat, param_decls_flat, more_param_decls_flat}
use Rattle.pungi_tree.specs.ExprFlat.{param_declr_flat}
use Rattle.pungi_tree.specs.ExprSpells.{SpellsTexts, SpellsKeys, SpellsConsts, SpellsStars, SpellsTag, SpellsVoid}
use Rattle.pungi_tree.specs.ExprSpells.{SpellsDots, Spells, SpellsArgs, SpellsMoreArgs, SpellsTypeName, SpellsSpec}
use Rattle.pungi_tree.specs.ExprSpells.{SpellsBase, SpellsField, SpellsFields, SpellsDeclr, SpellsDeclrs}
use Rattle.pungi_tree.specs.ExprSpells.{SpellsMoreDeclrs, SpellsTail, SpellsSizes, SpellsParams, SpellsParamDecl}
use Rattle.pungi_tree.specs.ExprSpells.{SpellsParamDecls, SpellsMoreParamDecls, SpellsParamDeclr}
use Rattle.pungi_tree.specs.Placed.{Placed, kinds}
use Rattle.pungi_tree.specs.Syntax.{Expr, word, int, float, char, text, null, paren, unary, post, binary, assign}
use Rattle.pungi_tree.specs.Syntax.{conditional, comma, cast, size_of_type, call, new, index, dot, arrow, Exprs}
use Rattle.pungi_tree.specs.Syntax.{no_exprs, expr_and, TypeName, type_name, Spec, spec, Base, words, alias, tagged}
use Rattle.pungi_tree.specs.Syntax.{tagged_fields, Field, empty, members, Fields, no_fields, field_and, Declr, declr}
use Rattle.pungi_tree.specs.Syntax.{Declrs, no_declrs, declr_and, Tail, sizes, function, Sizes, no_sizes, open_and}
use Rattle.pungi_tree.specs.Syntax.{size_and, Params, params, ParamDecl, param_decl, ParamDecls, no_params, param_and}
use Rattle.pungi_tree.specs.Syntax.{ParamDeclr, named, bare, unused}
use Rattle.pungi_tree.specs.Tokens.{keys_flat, texts_flat, consts_flat, stars_flat, tag_flat, void_flat, dots_flat}

pub texts_kinds : (ns : List Name) (ts rest : List Placed) → SpellsTexts ns ts rest
    → kinds ts ≡ texts_flat ns ++ kinds rest
texts_kinds [] ts rest s = rw s refl
texts_kinds (n ∷ ns) ts rest s = rw (s.2, texts_kinds ns _ _ s.3) refl

pub keys_kinds : (ks : List Key) (ts rest : List Placed) → SpellsKeys ks ts rest → kinds ts ≡ keys_flat ks ++ kinds rest
keys_kinds [] ts rest s = rw s refl
keys_kinds (k ∷ ks) ts rest s = rw (s.2, keys_kinds ks _ _ s.3) refl

pub consts_kinds : (n : ℕ) (ts rest : List Placed) → SpellsConsts n ts rest → kinds ts ≡ consts_flat n ++ kinds rest
consts_kinds zero ts rest s = rw s refl
consts_kinds (suc n) ts rest s = rw (s.2, consts_kinds n _ _ s.3) refl

pub stars_kinds : (ns : List ℕ) (ts rest : List Placed) → SpellsStars ns ts rest
    → kinds ts ≡ stars_flat ns ++ kinds rest
stars_kinds [] ts rest s = rw s refl
stars_kinds (n ∷ ns) ts rest s = rw (s.3, consts_kinds n _ _ s.4, stars_kinds ns _ _ s.5) (simp append_assoc)

tag_kinds : (tag : Option (Name × Pos)) (ts rest : List Placed) → SpellsTag tag ts rest
    → kinds ts ≡ tag_flat tag ++ kinds rest
tag_kinds None ts rest s = rw s refl
tag_kinds (Some t) ts rest s = rw s refl

void_kinds : (v : Bool) (ts rest : List Placed) → SpellsVoid v ts rest → kinds ts ≡ void_flat v ++ kinds rest
void_kinds true ts rest s = rw s.1 refl
void_kinds false ts rest s = rw s refl

dots_kinds : (dots : Option Pos) (ts rest : List Placed) → SpellsDots dots ts rest
    → kinds ts ≡ dots_flat dots ++ kinds rest
dots_kinds None ts rest s = rw s refl
dots_kinds (Some p) ts rest s = rw s.1 refl

mutual
  pub expr_kinds : (e : Expr) (ts rest : List Placed) → Spells e ts rest → kinds ts ≡ expr_flat e ++ kinds rest
  expr_kinds (word p n) ts rest s = rw s refl
  expr_kinds (int p v l u) ts rest s = rw s refl
  expr_kinds (float p) ts rest s = rw s refl
  expr_kinds (char p c) ts rest s = rw s refl
  expr_kinds (text p ns) ts rest s = texts_kinds ns _ _ s.1
  expr_kinds (null p) ts rest s = rw s refl
  expr_kinds (paren p e) ts rest s = rw (s.2, expr_kinds e _ _ s.3) (simp append_assoc)
  expr_kinds (unary p k e) ts rest s = rw (s.1, expr_kinds e _ _ s.2) refl
  expr_kinds (post p m e) ts rest s = rw (expr_kinds e _ _ s) (simp append_assoc)
  expr_kinds (binary p m a b) ts rest s = rw (expr_kinds a _ _ s.1, expr_kinds b _ _ s.2) (simp append_assoc)
  expr_kinds (assign p m a b) ts rest s = rw (expr_kinds a _ _ s.1, expr_kinds b _ _ s.2) (simp append_assoc)
  expr_kinds (conditional p a b c) ts rest s = rw (expr_kinds a _ _ s.3, expr_kinds b _ _ s.4, expr_kinds c _ _ s.5)
      (simp append_assoc)
  expr_kinds (comma p a b) ts rest s = rw (expr_kinds a _ _ s.1, expr_kinds b _ _ s.2) (simp append_assoc)
  expr_kinds (cast p t e) ts rest s = rw (s.3, type_name_kinds t _ _ s.4, expr_kinds e _ _ s.5) (simp append_assoc)
  expr_kinds (size_of_type p t) ts rest s = rw (s.3, type_name_kinds t _ _ s.4) (simp append_assoc)
  expr_kinds (call p f es) ts rest s = rw (expr_kinds f _ _ s.4, args_kinds es _ _ s.5) (simp append_assoc)
  expr_kinds (new p t e) ts rest s = rw (s.5, type_name_kinds t _ _ s.6, expr_kinds e _ _ s.7) (simp append_assoc)
  expr_kinds (index p a b) ts rest s = rw (expr_kinds a _ _ s.2, expr_kinds b _ _ s.3) (simp append_assoc)
  expr_kinds (dot p e n) ts rest s = rw (expr_kinds e _ _ s.1) (simp append_assoc)
  expr_kinds (arrow p e n) ts rest s = rw (expr_kinds e _ _ s.1) (simp append_assoc)

  args_kinds : (es : Exprs) (ts rest : List Placed) → SpellsArgs es ts rest → kinds ts ≡ args_flat es ++ kinds rest
  args_kinds no_exprs ts rest s = rw s refl
  args_kinds (expr_and e es) ts rest s = rw (expr_kinds e _ _ s.1, more_args_kinds es _ _ s.2) (simp append_assoc)

  more_args_kinds : (es : Exprs) (ts rest : List Placed) → SpellsMoreArgs es ts rest
      → kinds ts ≡ more_args_flat es ++ kinds rest
  more_args_kinds no_exprs ts rest s = rw s refl
  more_args_kinds (expr_and e es) ts rest s = rw (s.3, expr_kinds e _ _ s.4, more_args_kinds es _ _ s.5)
      (simp append_assoc)

  type_name_kinds : (t : TypeName) (ts rest : List Placed) → SpellsTypeName t ts rest
      → kinds ts ≡ type_name_flat t ++ kinds rest
  type_name_kinds (type_name b ns) ts rest s = rw (spec_kinds b _ _ s.1, stars_kinds ns _ _ s.2) (simp append_assoc)

  pub spec_kinds : (b : Spec) (ts rest : List Placed) → SpellsSpec b ts rest → kinds ts ≡ spec_flat b ++ kinds rest
  spec_kinds (spec p b n) ts rest s = rw (base_kinds b _ _ s.2, consts_kinds n _ _ s.3) (simp append_assoc)

  base_kinds : (b : Base) (ts rest : List Placed) → SpellsBase b ts rest → kinds ts ≡ base_flat b ++ kinds rest
  base_kinds (words ks) ts rest s = keys_kinds ks _ _ s
  base_kinds (alias n) ts rest s = rw s.1 refl
  base_kinds (tagged of tag) ts rest s = rw (s.2, tag_kinds tag _ _ s.3) refl
  base_kinds (tagged_fields of tag fs) ts rest s = rw (s.5, tag_kinds tag _ _ s.6, fields_kinds fs _ _ s.7)
      (simp append_assoc)

  field_kinds : (f : Field) (ts rest : List Placed) → SpellsField f ts rest → kinds ts ≡ field_flat f ++ kinds rest
  field_kinds empty ts rest s = rw s.1 refl
  field_kinds (members qs b ds) ts rest s = rw (
    keys_kinds qs _ _ s.3,
    spec_kinds b _ _ s.4,
    declrs_kinds ds _ _
        s.5,
  ) (simp append_assoc)

  fields_kinds : (fs : Fields) (ts rest : List Placed) → SpellsFields fs ts rest
      → kinds ts ≡ fields_flat fs ++ kinds rest
  fields_kinds no_fields ts rest s = rw s refl
  fields_kinds (field_and f fs) ts rest s = rw (field_kinds f _ _ s.1, fields_kinds fs _ _ s.2) (simp append_assoc)

  pub declr_kinds : (d : Declr) (ts rest : List Placed) → SpellsDeclr d ts rest → kinds ts ≡ declr_flat d ++ kinds rest
  declr_kinds (declr ns n p t) ts rest s = rw (stars_kinds ns _ _ s.1, tail_kinds n p t _ _ s.2) (simp append_assoc)

  declrs_kinds : (ds : Declrs) (ts rest : List Placed) → SpellsDeclrs ds ts rest
      → kinds ts ≡ declrs_flat ds ++ kinds rest
  declrs_kinds no_declrs ts rest s = rw s refl
  declrs_kinds (declr_and d ds) ts rest s = rw (declr_kinds d _ _ s.1, more_declrs_kinds ds _ _ s.2) (simp append_assoc)

  more_declrs_kinds : (ds : Declrs) (ts rest : List Placed) → SpellsMoreDeclrs ds ts rest
      → kinds ts ≡ more_declrs_flat ds ++ kinds rest
  more_declrs_kinds no_declrs ts rest s = rw s refl
  more_declrs_kinds (declr_and d ds) ts rest s = rw (s.3, declr_kinds d _ _ s.4, more_declrs_kinds ds _ _ s.5)
      (simp append_assoc)

  tail_kinds : (n : Name) (p : Pos) (t : Tail) (ts rest : List Placed) → SpellsTail n p t ts rest
      → kinds ts ≡ tail_flat n t ++ kinds rest
  tail_kinds n p (sizes ss) ts rest s = rw (s.1, sizes_kinds ss _ _ s.2) refl
  tail_kinds n p (function ps) ts rest s = rw (s.6, params_kinds ps _ _ s.7) (simp append_assoc)

  sizes_kinds : (ss : Sizes) (ts rest : List Placed) → SpellsSizes ss ts rest → kinds ts ≡ sizes_flat ss ++ kinds rest
  sizes_kinds no_sizes ts rest s = rw s refl
  sizes_kinds (open_and ss) ts rest s = rw (s.3, sizes_kinds ss _ _ s.4) refl
  sizes_kinds (size_and e ss) ts rest s = rw (s.4, expr_kinds e _ _ s.5, sizes_kinds ss _ _ s.6) (simp append_assoc)

  pub params_kinds : (ps : Params) (ts rest : List Placed) → SpellsParams ps ts rest
      → kinds ts ≡ params_flat ps ++ kinds rest
  params_kinds (params ds v dots) ts rest s = rw (
    void_kinds v _ _ s.2,
    param_decls_kinds ds _ _ s.3,
    dots_kinds
        dots _ _ s.4,
  ) (simp append_assoc)

  param_decl_kinds : (d : ParamDecl) (ts rest : List Placed) → SpellsParamDecl d ts rest
      → kinds ts ≡ param_decl_flat d ++ kinds rest
  param_decl_kinds (param_decl qs b d) ts rest s = rw (
    keys_kinds qs _ _ s.2,
    spec_kinds b _ _ s.3,
    param_declr_kinds d _ _ s.4,
  ) (simp append_assoc)

  param_decls_kinds : (ds : ParamDecls) (ts rest : List Placed) → SpellsParamDecls ds ts rest
      → kinds ts ≡ param_decls_flat ds ++ kinds rest
  param_decls_kinds no_params ts rest s = rw s refl
  param_decls_kinds (param_and d ds) ts rest s = rw (param_decl_kinds d _ _ s.1, more_param_decls_kinds ds _ _ s.2)
      (simp append_assoc)

  more_param_decls_kinds : (ds : ParamDecls) (ts rest : List Placed) → SpellsMoreParamDecls ds ts rest
      → kinds ts ≡ more_param_decls_flat ds ++ kinds rest
  more_param_decls_kinds no_params ts rest s = rw s refl
  more_param_decls_kinds (param_and d ds) ts rest s = rw (
    s.3,
    param_decl_kinds d _ _ s.4,
    more_param_decls_kinds ds
        _ _ s.5,
  ) (simp append_assoc)

  param_declr_kinds : (d : ParamDeclr) (ts rest : List Placed) → SpellsParamDeclr d ts rest
      → kinds ts ≡ param_declr_flat d ++ kinds rest
  param_declr_kinds (named d) ts rest s = declr_kinds d _ _ s
  param_declr_kinds (bare ns) ts rest s = stars_kinds ns _ _ s
  param_declr_kinds (unused ns n p) ts rest s = rw (stars_kinds ns _ _ s.3) (simp append_assoc)
