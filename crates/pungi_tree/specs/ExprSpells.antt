-- Which tokens an expression or a type spells, with their places. `Spells e ts rest` says that `e` stands at the front
-- of the tokens `ts`, and that `rest` follows it. An operator stands at its token, any other node at its first token
-- (C11 6.5 and 6.7).
--   named_word number            the word of this number
--   SpellsTexts, SpellsKeys      texts, or keywords, one after the other
--   SpellsConsts, SpellsStars    so many `const`, and each `*` with the `const` after it
--   SpellsTag, SpellsVoid, SpellsDots    a tag, the lone `void`, and `, ...`, where they are there
--   Spells                       an expression
--   SpellsArgs, SpellsMoreArgs   arguments with a comma between, and further ones with a comma before each
--   SpellsTypeName, SpellsSpec, SpellsBase, SpellsField, SpellsFields, SpellsDeclr, SpellsDeclrs, SpellsTail,
--   SpellsSizes, SpellsParams,
--   SpellsParamDecl, SpellsParamDecls, SpellsParamDeclr    the type of the same name
--   SpellsMoreDeclrs, SpellsMoreParamDecls    as SpellsMoreArgs
use Rattle.std.specs.Prelude.{◌≡◌, ℕ, zero, suc, Bool, true, false, List, [], ◌∷◌, Option, Some, None}
use Rattle.pungi_base.specs.declared.key.Key.{Key}
use Rattle.pungi_base.specs.declared.key.Key.TheVariants as keys
use Rattle.pungi_base.specs.declared.kind.Kind.TheVariants as kind
use Rattle.pungi_base.specs.declared.names.Name.{Name}
use Rattle.pungi_base.specs.declared.pos.Pos.{Pos}
use Rattle.pungi_base.specs.declared.punct.Punct.TheVariants as puncts
use Rattle.pungi_base.specs.Numbers.{py_object_new, py_unused}
use Rattle.pungi_tree.specs.Tokens.{named_word}
use Rattle.pungi_tree.specs.Placed.{Placed, mark_at, key_at, word_at, text_at, first_place}
use Rattle.pungi_tree.specs.Syntax.{Expr, word, int, float, char, text, null, paren, unary, post, binary, assign}
use Rattle.pungi_tree.specs.Syntax.{conditional, comma, cast, size_of_type, call, new, index, dot, arrow, Exprs}
use Rattle.pungi_tree.specs.Syntax.{no_exprs, expr_and, TypeName, type_name, Spec, spec, Base, words, alias, tagged}
use Rattle.pungi_tree.specs.Syntax.{tagged_fields, Field, empty, members, Fields, no_fields, field_and, Declr, declr}
use Rattle.pungi_tree.specs.Syntax.{Declrs, no_declrs, declr_and, Tail, sizes, function, Sizes, no_sizes, open_and}
use Rattle.pungi_tree.specs.Syntax.{size_and, Params, params, ParamDecl, param_decl, ParamDecls, no_params, param_and}
use Rattle.pungi_tree.specs.Syntax.{ParamDeclr, named, bare, unused}

abbrev pub SpellsTexts : List Name → List Placed → List Placed → Type 0
SpellsTexts [] ts rest = ts ≡ rest
SpellsTexts (n ∷ ns) ts rest =
    (after : List Placed) × (q : Pos) × (ts ≡ text_at n q ∷ after) × SpellsTexts ns after rest

abbrev pub SpellsKeys : List Key → List Placed → List Placed → Type 0
SpellsKeys [] ts rest = ts ≡ rest
SpellsKeys (k ∷ ks) ts rest = (after : List Placed) × (q : Pos) × (ts ≡ key_at k q ∷ after) × SpellsKeys ks after rest

abbrev pub SpellsConsts : ℕ → List Placed → List Placed → Type 0
SpellsConsts zero ts rest = ts ≡ rest
SpellsConsts (suc n) ts rest =
    (after : List Placed) × (q : Pos) × (ts ≡ key_at keys.Const q ∷ after) × SpellsConsts n after rest

abbrev pub SpellsStars : List ℕ → List Placed → List Placed → Type 0
SpellsStars [] ts rest = ts ≡ rest
SpellsStars (n ∷ ns) ts rest =
    (inner after : List Placed) × (q : Pos) × (ts ≡ mark_at puncts.Star q ∷ inner) × SpellsConsts n inner after
    × SpellsStars ns after rest

abbrev pub SpellsTag : Option (Name × Pos) → List Placed → List Placed → Type 0
SpellsTag None ts rest = ts ≡ rest
SpellsTag (Some t) ts rest = ts ≡ word_at t.0 t.1 ∷ rest

abbrev pub SpellsVoid : Bool → List Placed → List Placed → Type 0
SpellsVoid true ts rest = (q : Pos) × (ts ≡ key_at keys.Void q ∷ rest)
SpellsVoid false ts rest = ts ≡ rest

abbrev pub SpellsDots : Option Pos → List Placed → List Placed → Type 0
SpellsDots None ts rest = ts ≡ rest
SpellsDots (Some p) ts rest = (q : Pos) × (ts ≡ mark_at puncts.Comma q ∷ mark_at puncts.Ellipsis p ∷ rest)

abbrev mutual
  pub Spells : Expr → List Placed → List Placed → Type 0
  Spells (word p n) ts rest = ts ≡ word_at n p ∷ rest
  Spells (int p v l u) ts rest = ts ≡ (kind.Int v l u, p) ∷ rest
  Spells (float p) ts rest = ts ≡ (kind.Float, p) ∷ rest
  Spells (char p c) ts rest = ts ≡ (kind.Char c, p) ∷ rest
  Spells (text p ns) ts rest = (first_place ts ≡ Some p) × SpellsTexts ns ts rest
  Spells (null p) ts rest = ts ≡ key_at keys.Null p ∷ rest
  Spells (paren p e) ts rest = (inner : List Placed) × (q : Pos) × (ts ≡ mark_at puncts.LeftParen p ∷ inner)
      × Spells e inner (mark_at puncts.RightParen q ∷ rest)
  Spells (unary p k e) ts rest = (inner : List Placed) × (ts ≡ (k, p) ∷ inner) × Spells e inner rest
  Spells (post p m e) ts rest = Spells e ts (mark_at m p ∷ rest)
  Spells (binary p m a b) ts rest = (right : List Placed) × Spells a ts (mark_at m p ∷ right) × Spells b right rest
  Spells (assign p m a b) ts rest = (right : List Placed) × Spells a ts (mark_at m p ∷ right) × Spells b right rest
  Spells (conditional p a b c) ts rest =
      (middle right : List Placed) × (q : Pos) × Spells a ts (mark_at puncts.Question p ∷ middle)
      × Spells b middle (mark_at puncts.Colon q ∷ right) × Spells c right rest
  Spells (comma p a b) ts rest = (right : List Placed) × Spells a ts (mark_at puncts.Comma p ∷ right)
      × Spells b right rest
  Spells (cast p t e) ts rest =
      (inner operand : List Placed) × (q : Pos) × (ts ≡ mark_at puncts.LeftParen p ∷ inner)
      × SpellsTypeName t inner (mark_at puncts.RightParen q ∷ operand) × Spells e operand rest
  Spells (size_of_type p t) ts rest =
      (inner : List Placed) × (q r : Pos) × (ts ≡ key_at keys.Sizeof p ∷ mark_at puncts.LeftParen q ∷ inner)
      × SpellsTypeName t inner (mark_at puncts.RightParen r ∷ rest)
  Spells (call p f es) ts rest =
      (inner : List Placed) × (q r : Pos) × (first_place ts ≡ Some p)
      × Spells f ts (mark_at puncts.LeftParen q ∷ inner)
      × SpellsArgs es inner (mark_at puncts.RightParen r ∷ rest)
  Spells (new p t e) ts rest =
      (inner value : List Placed) × (q r s : Pos)
      × (ts ≡ word_at (named_word py_object_new) p ∷ mark_at puncts.LeftParen q ∷ inner)
      × SpellsTypeName t inner (mark_at puncts.Comma r ∷ value) × Spells e value (mark_at puncts.RightParen s ∷ rest)
  Spells (index p a b) ts rest =
      (inner : List Placed) × (q : Pos) × Spells a ts (mark_at puncts.LeftBracket p ∷ inner)
      × Spells b inner (mark_at puncts.RightBracket q ∷ rest)
  Spells (dot p e n) ts rest = (q : Pos) × Spells e ts (mark_at puncts.Dot p ∷ word_at n q ∷ rest)
  Spells (arrow p e n) ts rest = (q : Pos) × Spells e ts (mark_at puncts.Arrow p ∷ word_at n q ∷ rest)

  pub SpellsArgs : Exprs → List Placed → List Placed → Type 0
  SpellsArgs no_exprs ts rest = ts ≡ rest
  SpellsArgs (expr_and e es) ts rest = (after : List Placed) × Spells e ts after × SpellsMoreArgs es after rest

  pub SpellsMoreArgs : Exprs → List Placed → List Placed → Type 0
  SpellsMoreArgs no_exprs ts rest = ts ≡ rest
  SpellsMoreArgs (expr_and e es) ts rest =
      (inner after : List Placed) × (q : Pos) × (ts ≡ mark_at puncts.Comma q ∷ inner) × Spells e inner after
      × SpellsMoreArgs es after rest

  pub SpellsTypeName : TypeName → List Placed → List Placed → Type 0
  SpellsTypeName (type_name s stars) ts rest = (after : List Placed) × SpellsSpec s ts after
      × SpellsStars stars after rest

  pub SpellsSpec : Spec → List Placed → List Placed → Type 0
  SpellsSpec (spec p b n) ts rest = (after : List Placed) × (first_place ts ≡ Some p) × SpellsBase b ts after
      × SpellsConsts n after rest

  pub SpellsBase : Base → List Placed → List Placed → Type 0
  SpellsBase (words ks) ts rest = SpellsKeys ks ts rest
  SpellsBase (alias n) ts rest = (q : Pos) × (ts ≡ word_at n q ∷ rest)
  SpellsBase (tagged of tag) ts rest = (after : List Placed) × (q : Pos) × (ts ≡ key_at of q ∷ after)
      × SpellsTag tag after rest
  SpellsBase (tagged_fields of tag fs) ts rest =
      (after inner : List Placed) × (q r s : Pos) × (ts ≡ key_at of q ∷ after)
      × SpellsTag tag after (mark_at puncts.LeftBrace r ∷ inner)
      × SpellsFields fs inner (mark_at puncts.RightBrace s ∷ rest)

  pub SpellsField : Field → List Placed → List Placed → Type 0
  SpellsField empty ts rest = (q : Pos) × (ts ≡ mark_at puncts.Semicolon q ∷ rest)
  SpellsField (members qs s ds) ts rest =
      (after names : List Placed) × (q : Pos) × SpellsKeys qs ts after × SpellsSpec s after names
      × SpellsDeclrs ds names (mark_at puncts.Semicolon q ∷ rest)

  pub SpellsFields : Fields → List Placed → List Placed → Type 0
  SpellsFields no_fields ts rest = ts ≡ rest
  SpellsFields (field_and f fs) ts rest = (after : List Placed) × SpellsField f ts after × SpellsFields fs after rest

  pub SpellsDeclr : Declr → List Placed → List Placed → Type 0
  SpellsDeclr (declr stars n p t) ts rest = (after : List Placed) × SpellsStars stars ts after
      × SpellsTail n p t after rest

  pub SpellsDeclrs : Declrs → List Placed → List Placed → Type 0
  SpellsDeclrs no_declrs ts rest = ts ≡ rest
  SpellsDeclrs (declr_and d ds) ts rest = (after : List Placed) × SpellsDeclr d ts after
      × SpellsMoreDeclrs ds after rest

  pub SpellsMoreDeclrs : Declrs → List Placed → List Placed → Type 0
  SpellsMoreDeclrs no_declrs ts rest = ts ≡ rest
  SpellsMoreDeclrs (declr_and d ds) ts rest =
      (inner after : List Placed) × (q : Pos) × (ts ≡ mark_at puncts.Comma q ∷ inner) × SpellsDeclr d inner after
      × SpellsMoreDeclrs ds after rest

  -- the name at its place, and what stands after it
  pub SpellsTail : Name → Pos → Tail → List Placed → List Placed → Type 0
  SpellsTail n p (sizes ss) ts rest = (after : List Placed) × (ts ≡ word_at n p ∷ after) × SpellsSizes ss after rest
  SpellsTail n p (function ps) ts rest =
      (inner : List Placed) × (q r s u v : Pos)
      × (ts ≡ mark_at puncts.LeftParen q ∷ mark_at puncts.Star r ∷ word_at n p ∷ mark_at puncts.RightParen s
      ∷ mark_at puncts.LeftParen u ∷ inner)
      × SpellsParams ps inner (mark_at puncts.RightParen v ∷ rest)

  pub SpellsSizes : Sizes → List Placed → List Placed → Type 0
  SpellsSizes no_sizes ts rest = ts ≡ rest
  SpellsSizes (open_and ss) ts rest =
      (after : List Placed) × (q r : Pos) × (ts ≡ mark_at puncts.LeftBracket q ∷ mark_at puncts.RightBracket r
      ∷ after) × SpellsSizes ss after rest
  SpellsSizes (size_and e ss) ts rest =
      (inner after : List Placed) × (q r : Pos) × (ts ≡ mark_at puncts.LeftBracket q ∷ inner)
      × Spells e inner (mark_at puncts.RightBracket r ∷ after)
      × SpellsSizes ss after rest

  pub SpellsParams : Params → List Placed → List Placed → Type 0
  SpellsParams (params ds v dots) ts rest =
      (list after : List Placed) × SpellsVoid v ts list × SpellsParamDecls ds list after × SpellsDots dots after rest

  pub SpellsParamDecl : ParamDecl → List Placed → List Placed → Type 0
  SpellsParamDecl (param_decl qs s d) ts rest =
      (after name : List Placed) × SpellsKeys qs ts after × SpellsSpec s after name × SpellsParamDeclr d name rest

  pub SpellsParamDecls : ParamDecls → List Placed → List Placed → Type 0
  SpellsParamDecls no_params ts rest = ts ≡ rest
  SpellsParamDecls (param_and d ds) ts rest = (after : List Placed) × SpellsParamDecl d ts after
      × SpellsMoreParamDecls ds after rest

  pub SpellsMoreParamDecls : ParamDecls → List Placed → List Placed → Type 0
  SpellsMoreParamDecls no_params ts rest = ts ≡ rest
  SpellsMoreParamDecls (param_and d ds) ts rest =
      (inner after : List Placed) × (q : Pos) × (ts ≡ mark_at puncts.Comma q ∷ inner)
      × SpellsParamDecl d inner after × SpellsMoreParamDecls ds after rest

  pub SpellsParamDeclr : ParamDeclr → List Placed → List Placed → Type 0
  SpellsParamDeclr (named d) ts rest = SpellsDeclr d ts rest
  SpellsParamDeclr (bare stars) ts rest = SpellsStars stars ts rest
  SpellsParamDeclr (unused stars n p) ts rest =
      (q r s : Pos) × SpellsStars stars ts (word_at (named_word py_unused) q ∷ mark_at puncts.LeftParen r
      ∷ word_at n p ∷ mark_at puncts.RightParen s ∷ rest)
