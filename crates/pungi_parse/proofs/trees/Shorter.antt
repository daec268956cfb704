-- A tree takes tokens from the front of a list.
--   .._no_longer      no more tokens are left than there were
--   .._shorter        fewer are left
use Rattle.std.proofs.Common.{◌≡◌, ℕ, ◌<◌, ◌≤◌, Bool, true, false, List, [], ◌∷◌, length, Option, Some, None, ap, arith}
use Rattle.pungi_base.specs.declared.names.Name.{Name}
use Rattle.pungi_base.specs.declared.pos.Pos.{Pos}
use Rattle.pungi_parse.proofs.Tools.{and_true, not_true}
use Rattle.pungi_parse.proofs.tokens.WordReadings.{keys_no_longer, consts_no_longer, stars_no_longer, texts_no_longer}
use Rattle.pungi_tree.specs.ExprLevels.{expr_at, spec_ok, base_ok, is_empty}
use Rattle.pungi_tree.specs.ExprSpells.{Spells, SpellsArgs, SpellsMoreArgs, SpellsTypeName, SpellsSpec, SpellsBase}
use Rattle.pungi_tree.specs.ExprSpells.{SpellsTag, SpellsField, SpellsFields, SpellsDeclr, SpellsDeclrs}
use Rattle.pungi_tree.specs.ExprSpells.{SpellsMoreDeclrs, SpellsTail, SpellsSizes, SpellsParams, SpellsVoid, SpellsDots}
use Rattle.pungi_tree.specs.ExprSpells.{SpellsParamDecl, SpellsParamDecls, SpellsMoreParamDecls, SpellsParamDeclr}
use Rattle.pungi_tree.specs.ExprSpells.{SpellsTexts}
use Rattle.pungi_tree.specs.Placed.{Placed}
use Rattle.pungi_tree.specs.Syntax.{Expr, word, int, float, char, text, null, paren, unary, post, binary, assign}
use Rattle.pungi_tree.specs.Syntax.{conditional, comma, cast, size_of_type, call, new, index, dot, arrow, Exprs}
use Rattle.pungi_tree.specs.Syntax.{no_exprs, expr_and, TypeName, type_name, Spec, spec, Base, words, alias, tagged}
use Rattle.pungi_tree.specs.Syntax.{tagged_fields, Field, empty, members, Fields, no_fields, field_and, Declr, declr}
use Rattle.pungi_tree.specs.Syntax.{Declrs, no_declrs, declr_and, Tail, sizes, function, Sizes, no_sizes, open_and}
use Rattle.pungi_tree.specs.Syntax.{size_and, Params, params, ParamDecl, param_decl, ParamDecls, no_params, param_and}
use Rattle.pungi_tree.specs.Syntax.{ParamDeclr, named, bare, unused}

tag_no_longer : (t : Option (Name × Pos)) (ts rest : List Placed) → SpellsTag t ts rest → length rest ≤ length ts
tag_no_longer None ts rest s = omega (arith, ap length s)
tag_no_longer (Some t) ts rest s = omega (arith, ap length s)

void_no_longer : (v : Bool) (ts rest : List Placed) → SpellsVoid v ts rest → length rest ≤ length ts
void_no_longer true ts rest s = omega (arith, ap length s.1)
void_no_longer false ts rest s = omega (arith, ap length s)

dots_no_longer : (p : Option Pos) (ts rest : List Placed) → SpellsDots p ts rest → length rest ≤ length ts
dots_no_longer None ts rest s = omega (arith, ap length s)
dots_no_longer (Some p) ts rest s = omega (arith, ap length s.1)

mutual
  pub expr_no_longer : (e : Expr) (ts rest : List Placed) → Spells e ts rest → length rest ≤ length ts
  expr_no_longer (word p n) ts rest s = omega (arith, ap length s)
  expr_no_longer (int p v l u) ts rest s = omega (arith, ap length s)
  expr_no_longer (float p) ts rest s = omega (arith, ap length s)
  expr_no_longer (char p c) ts rest s = omega (arith, ap length s)
  expr_no_longer (text p ns) ts rest s = texts_no_longer ns ts rest s.1
  expr_no_longer (null p) ts rest s = omega (arith, ap length s)
  expr_no_longer (paren p e) ts rest s = omega (arith, ap length s.2, expr_no_longer e _ _ s.3)
  expr_no_longer (unary p k e) ts rest s = omega (arith, ap length s.1, expr_no_longer e _ _ s.2)
  expr_no_longer (post p m e) ts rest s = omega (arith, expr_no_longer e _ _ s)
  expr_no_longer (binary p m a b) ts rest s = omega (arith, expr_no_longer a _ _ s.1, expr_no_longer b _ _ s.2)
  expr_no_longer (assign p m a b) ts rest s = omega (arith, expr_no_longer a _ _ s.1, expr_no_longer b _ _ s.2)
  expr_no_longer (conditional p a b c) ts rest s = omega (
    arith,
    expr_no_longer a _ _ s.3,
    expr_no_longer b _ _ s.4,
    expr_no_longer c _ _ s.5,
  )
  expr_no_longer (comma p a b) ts rest s = omega (arith, expr_no_longer a _ _ s.1, expr_no_longer b _ _ s.2)
  expr_no_longer (cast p t e) ts rest s = omega (
    arith,
    ap length s.3,
    type_name_no_longer t _ _ s.4,
    expr_no_longer
        e _ _ s.5,
  )
  expr_no_longer (size_of_type p t) ts rest s = omega (arith, ap length s.3, type_name_no_longer t _ _ s.4)
  expr_no_longer (call p f es) ts rest s = omega (arith, expr_no_longer f _ _ s.4, args_no_longer es _ _ s.5)
  expr_no_longer (new p t e) ts rest s = omega (
    arith,
    ap length s.5,
    type_name_no_longer t _ _ s.6,
    expr_no_longer
        e _ _ s.7,
  )
  expr_no_longer (index p a b) ts rest s = omega (arith, expr_no_longer a _ _ s.2, expr_no_longer b _ _ s.3)
  expr_no_longer (dot p e n) ts rest s = omega (arith, expr_no_longer e _ _ s.1)
  expr_no_longer (arrow p e n) ts rest s = omega (arith, expr_no_longer e _ _ s.1)

  pub args_no_longer : (es : Exprs) (ts rest : List Placed) → SpellsArgs es ts rest → length rest ≤ length ts
  args_no_longer no_exprs ts rest s = omega (arith, ap length s)
  args_no_longer (expr_and e es) ts rest s = omega (arith, expr_no_longer e _ _ s.1, more_args_no_longer es _ _ s.2)

  pub more_args_no_longer : (es : Exprs) (ts rest : List Placed) → SpellsMoreArgs es ts rest → length rest ≤ length ts
  more_args_no_longer no_exprs ts rest s = omega (arith, ap length s)
  more_args_no_longer (expr_and e es) ts rest s = omega (
    arith,
    ap length s.3,
    expr_no_longer e _ _ s.4,
    more_args_no_longer es _ _ s.5,
  )

  pub type_name_no_longer : (t : TypeName) (ts rest : List Placed) → SpellsTypeName t ts rest → length rest ≤ length ts
  type_name_no_longer (type_name s ss) ts rest h = omega (arith, spec_no_longer s _ _ h.1, stars_no_longer ss _ _ h.2)

  pub spec_no_longer : (c : Spec) (ts rest : List Placed) → SpellsSpec c ts rest → length rest ≤ length ts
  spec_no_longer (spec p b n) ts rest s = omega (arith, base_no_longer b _ _ s.2, consts_no_longer n _ _ s.3)

  pub base_no_longer : (b : Base) (ts rest : List Placed) → SpellsBase b ts rest → length rest ≤ length ts
  base_no_longer (words ks) ts rest s = keys_no_longer ks ts rest s
  base_no_longer (alias n) ts rest s = omega (arith, ap length s.1)
  base_no_longer (tagged of tag) ts rest s = omega (arith, ap length s.2, tag_no_longer tag _ _ s.3)
  base_no_longer (tagged_fields of tag fs) ts rest s = omega (
    arith,
    ap length s.5,
    tag_no_longer tag _ _ s.6,
    fields_no_longer fs _ _ s.7,
  )

  pub field_no_longer : (f : Field) (ts rest : List Placed) → SpellsField f ts rest → length rest ≤ length ts
  field_no_longer empty ts rest s = omega (arith, ap length s.1)
  field_no_longer (members qs c ds) ts rest s = omega (
    arith,
    keys_no_longer qs _ _ s.3,
    spec_no_longer c _ _ s.4,
    declrs_no_longer ds _ _ s.5,
  )

  pub fields_no_longer : (fs : Fields) (ts rest : List Placed) → SpellsFields fs ts rest → length rest ≤ length ts
  fields_no_longer no_fields ts rest s = omega (arith, ap length s)
  fields_no_longer (field_and f fs) ts rest s = omega (arith, field_no_longer f _ _ s.1, fields_no_longer fs _ _ s.2)

  pub declr_no_longer : (c : Declr) (ts rest : List Placed) → SpellsDeclr c ts rest → length rest ≤ length ts
  declr_no_longer (declr ss n p t) ts rest s = omega (arith, stars_no_longer ss _ _ s.1, tail_shorter n p t _ _ s.2)

  pub declrs_no_longer : (ds : Declrs) (ts rest : List Placed) → SpellsDeclrs ds ts rest → length rest ≤ length ts
  declrs_no_longer no_declrs ts rest s = omega (arith, ap length s)
  declrs_no_longer (declr_and c ds) ts rest s = omega (
    arith,
    declr_no_longer c _ _ s.1,
    more_declrs_no_longer ds _
        _ s.2,
  )

  pub more_declrs_no_longer : (ds : Declrs) (ts rest : List Placed) → SpellsMoreDeclrs ds ts rest
      → length rest ≤ length ts
  more_declrs_no_longer no_declrs ts rest s = omega (arith, ap length s)
  more_declrs_no_longer (declr_and c ds) ts rest s = omega (
    arith,
    ap length s.3,
    declr_no_longer c _ _ s.4,
    more_declrs_no_longer ds _ _ s.5,
  )

  pub tail_shorter : (n : Name) (p : Pos) (t : Tail) (ts rest : List Placed) → SpellsTail n p t ts rest
      → length rest < length ts
  tail_shorter n p (sizes ss) ts rest s = omega (arith, ap length s.1, sizes_no_longer ss _ _ s.2)
  tail_shorter n p (function ps) ts rest s = omega (arith, ap length s.6, params_no_longer ps _ _ s.7)

  pub sizes_no_longer : (ss : Sizes) (ts rest : List Placed) → SpellsSizes ss ts rest → length rest ≤ length ts
  sizes_no_longer no_sizes ts rest s = omega (arith, ap length s)
  sizes_no_longer (open_and ss) ts rest s = omega (arith, ap length s.3, sizes_no_longer ss _ _ s.4)
  sizes_no_longer (size_and e ss) ts rest s = omega (
    arith,
    ap length s.4,
    expr_no_longer e _ _ s.5,
    sizes_no_longer
        ss _ _ s.6,
  )

  pub params_no_longer : (ps : Params) (ts rest : List Placed) → SpellsParams ps ts rest → length rest ≤ length ts
  params_no_longer (params ds v p) ts rest s = omega (
    arith,
    void_no_longer v _ _ s.2,
    param_decls_no_longer ds _ _
        s.3,
    dots_no_longer p _ _ s.4,
  )

  pub param_decl_no_longer : (d : ParamDecl) (ts rest : List Placed) → SpellsParamDecl d ts rest
      → length rest ≤ length ts
  param_decl_no_longer (param_decl qs c d) ts rest s = omega (
    arith,
    keys_no_longer qs _ _ s.2,
    spec_no_longer c _ _
        s.3,
    param_declr_no_longer d _ _ s.4,
  )

  pub param_decls_no_longer : (ds : ParamDecls) (ts rest : List Placed) → SpellsParamDecls ds ts rest
      → length rest ≤ length ts
  param_decls_no_longer no_params ts rest s = omega (arith, ap length s)
  param_decls_no_longer (param_and d ds) ts rest s = omega (
    arith,
    param_decl_no_longer d _ _ s.1,
    more_params_no_longer ds _ _ s.2,
  )

  pub more_params_no_longer : (ds : ParamDecls) (ts rest : List Placed) → SpellsMoreParamDecls ds ts rest
      → length rest ≤ length ts
  more_params_no_longer no_params ts rest s = omega (arith, ap length s)
  more_params_no_longer (param_and d ds) ts rest s = omega (
    arith,
    ap length s.3,
    param_decl_no_longer d _ _ s.4,
    more_params_no_longer ds _ _ s.5,
  )

  pub param_declr_no_longer : (d : ParamDeclr) (ts rest : List Placed) → SpellsParamDeclr d ts rest
      → length rest ≤ length ts
  param_declr_no_longer (named c) ts rest s = declr_no_longer c ts rest s
  param_declr_no_longer (bare ss) ts rest s = stars_no_longer ss ts rest s
  param_declr_no_longer (unused ss n p) ts rest s = omega (arith, stars_no_longer ss _ _ s.3)

pub declr_shorter : (c : Declr) (ts rest : List Placed) → SpellsDeclr c ts rest → length rest < length ts
declr_shorter (declr ss n p t) ts rest s = omega (arith, stars_no_longer ss _ _ s.1, tail_shorter n p t _ _ s.2)

texts_shorter : (ns : List Name) (ts rest : List Placed) → is_empty ns ≡ false → SpellsTexts ns ts rest
    → length rest < length ts
texts_shorter [] ts rest h s = absurd (cc)
texts_shorter (n ∷ ns) ts rest h s = omega (arith, ap length s.2, texts_no_longer ns _ _ s.3)

module _ (types : List Name) where
  pub expr_shorter : (l : ℕ) (e : Expr) (ts rest : List Placed) → Spells e ts rest → expr_at types l e ≡ true
      → length rest < length ts
  expr_shorter l (word p n) ts rest s ok = omega (arith, ap length s)
  expr_shorter l (int p v b u) ts rest s ok = omega (arith, ap length s)
  expr_shorter l (float p) ts rest s ok = omega (arith, ap length s)
  expr_shorter l (char p c) ts rest s ok = omega (arith, ap length s)
  expr_shorter l (text p ns) ts rest s ok = texts_shorter ns ts rest (not_true _ (and_true _ _ ok).1) s.1
  expr_shorter l (null p) ts rest s ok = omega (arith, ap length s)
  expr_shorter l (paren p e) ts rest s ok = omega (arith, ap length s.2, expr_no_longer e _ _ s.3)
  expr_shorter l (unary p k e) ts rest s ok = omega (arith, ap length s.1, expr_no_longer e _ _ s.2)
  expr_shorter l (post p m e) ts rest s ok = omega (arith, expr_no_longer e _ _ s)
  expr_shorter l (binary p m a b) ts rest s ok = omega (arith, expr_no_longer a _ _ s.1, expr_no_longer b _ _ s.2)
  expr_shorter l (assign p m a b) ts rest s ok = omega (arith, expr_no_longer a _ _ s.1, expr_no_longer b _ _ s.2)
  expr_shorter l (conditional p a b c) ts rest s ok = omega (
    arith,
    expr_no_longer a _ _ s.3,
    expr_no_longer b _ _
        s.4,
    expr_no_longer c _ _ s.5,
  )
  expr_shorter l (comma p a b) ts rest s ok = omega (arith, expr_no_longer a _ _ s.1, expr_no_longer b _ _ s.2)
  expr_shorter l (cast p t e) ts rest s ok = omega (
    arith,
    ap length s.3,
    type_name_no_longer t _ _ s.4,
    expr_no_longer e _ _ s.5,
  )
  expr_shorter l (size_of_type p t) ts rest s ok = omega (arith, ap length s.3, type_name_no_longer t _ _ s.4)
  expr_shorter l (call p f es) ts rest s ok = omega (arith, expr_no_longer f _ _ s.4, args_no_longer es _ _ s.5)
  expr_shorter l (new p t e) ts rest s ok = omega (
    arith,
    ap length s.5,
    type_name_no_longer t _ _ s.6,
    expr_no_longer e _ _ s.7,
  )
  expr_shorter l (index p a b) ts rest s ok = omega (arith, expr_no_longer a _ _ s.2, expr_no_longer b _ _ s.3)
  expr_shorter l (dot p e n) ts rest s ok = omega (arith, expr_no_longer e _ _ s.1)
  expr_shorter l (arrow p e n) ts rest s ok = omega (arith, expr_no_longer e _ _ s.1)

  base_shorter : (b : Base) (ts rest : List Placed) → SpellsBase b ts rest → base_ok types b ≡ true
      → length rest < length ts
  base_shorter (words []) ts rest s ok = absurd (cc)
  base_shorter (words (k ∷ ks)) ts rest s ok = omega (arith, ap length s.2, keys_no_longer ks _ _ s.3)
  base_shorter (alias n) ts rest s ok = omega (arith, ap length s.1)
  base_shorter (tagged of tag) ts rest s ok = omega (arith, ap length s.2, tag_no_longer tag _ _ s.3)
  base_shorter (tagged_fields of tag fs) ts rest s ok = omega (
    arith,
    ap length s.5,
    tag_no_longer tag _ _ s.6,
    fields_no_longer fs _ _ s.7,
  )

  pub spec_shorter : (c : Spec) (ts rest : List Placed) → SpellsSpec c ts rest → spec_ok types c ≡ true
      → length rest < length ts
  spec_shorter (spec p b n) ts rest s ok = omega (arith, base_shorter b _ _ s.2 ok, consts_no_longer n _ _ s.3)
