-- What is to be shown of each tree: where it stands, and the tokens after it do not go on with it, its reader reads it.
--   ParamEnds rest    nothing goes on with a parameter
--   ExprReads types e, SpecReads types c, ParamsReads types ps    the readers over each other read it
--   TypeNameReads .. ParamDeclReads    the reader of the same name reads it, by the readers of parts
use Rattle.std.proofs.Common.{◌≡◌, ℕ, suc, ◌≤◌, ◌<◌, true, List, ◌∷◌, length, Option, Some, None}
use Rattle.pungi_base.specs.declared.names.Name.{Name}
use Rattle.pungi_base.specs.declared.pos.Pos.{Pos}
use Rattle.pungi_base.specs.declared.punct.Punct.TheVariants as puncts
use Rattle.pungi_parse.specs.tokens.OneToken.{eat, eat_word, eat_listed}
use Rattle.pungi_parse.specs.Readers.{readers}
use Rattle.pungi_parse.specs.types.TypeReader.{sizes_in, declr_rest, declr_at, more_declrs, declrs, field, fields}
use Rattle.pungi_parse.specs.types.TypeReader.{base_at, type_name_at, param_declr_at, param, more_params}
use Rattle.pungi_parse.proofs.tokens.Ends.{ExprEnds, SpecEnds, StarsEnd, DeclrEnds}
use Rattle.pungi_tree.specs.ExprDepth.{expr_depth, type_name_depth, spec_depth, base_depth, field_depth, fields_depth}
use Rattle.pungi_tree.specs.ExprDepth.{declr_depth, declrs_depth, tail_depth, sizes_depth, params_depth}
use Rattle.pungi_tree.specs.ExprDepth.{param_decl_depth, param_decls_depth, param_declr_depth}
use Rattle.pungi_tree.specs.ExprLevels.{expr_at, type_name_ok, spec_ok, base_ok, field_ok, fields_ok, declr_ok}
use Rattle.pungi_tree.specs.ExprLevels.{declrs_ok, some_declrs_ok, tail_ok, sizes_ok, params_ok, param_decl_ok}
use Rattle.pungi_tree.specs.ExprLevels.{param_decls_ok, param_declr_ok}
use Rattle.pungi_tree.specs.ExprSpells.{Spells, SpellsTypeName, SpellsSpec, SpellsBase, SpellsField, SpellsFields}
use Rattle.pungi_tree.specs.ExprSpells.{SpellsDeclr, SpellsDeclrs, SpellsMoreDeclrs, SpellsTail, SpellsSizes}
use Rattle.pungi_tree.specs.ExprSpells.{SpellsParams, SpellsParamDecl, SpellsMoreParamDecls, SpellsParamDeclr}
use Rattle.pungi_tree.specs.ExprSpells.{SpellsDots}
use Rattle.pungi_tree.specs.Operators.{is_base_word}
use Rattle.pungi_tree.specs.Placed.{Placed, mark_at}
use Rattle.pungi_tree.specs.Syntax.{Expr, TypeName, Spec, Base, Field, Fields, Declr, declr, Declrs, Tail, Sizes}
use Rattle.pungi_tree.specs.Syntax.{Params, ParamDecl, ParamDecls, ParamDeclr}
use Rattle.pungi_tree.specs.TypeWords.{is_word}

pub record ParamEnds (rest : List Placed) : Type 0 where
  pub spec : SpecEnds rest
  pub stars : StarsEnd rest
  pub declr : DeclrEnds rest
  pub no_word : eat_word rest ≡ None
  pub no_paren : eat puncts.LeftParen rest ≡ None

pub record TypeEnds (rest : List Placed) : Type 0 where
  pub spec : SpecEnds rest
  pub stars : StarsEnd rest

module _ (types : List Name) where
  abbrev pub ExprReads : Expr → Type 0
  ExprReads e = (n d l : ℕ) (ts rest : List Placed) → Spells e ts rest → expr_at types l e ≡ true → expr_depth e ≤ d
      → length ts ≤ n → ExprEnds l rest → l ≤ 14 → (readers types n d).expr l ts ≡ Some (e, rest)

  abbrev pub SpecReads : Spec → Type 0
  SpecReads c = (n d : ℕ) (ts rest : List Placed) → SpellsSpec c ts rest → spec_ok types c ≡ true → spec_depth c ≤ d
      → length ts ≤ n → SpecEnds rest → (readers types n d).spec ts ≡ Some (c, rest)

  abbrev pub ParamsReads : Params → Type 0
  ParamsReads ps = (n d : ℕ) (q : Pos) (ts rest : List Placed)
      → SpellsParams ps ts (mark_at puncts.RightParen q ∷ rest) → params_ok types ps ≡ true → params_depth ps ≤ d
      → length ts < n → (readers types n d).params ts ≡ Some (ps, rest)

  abbrev pub TypeNameReads : TypeName → Type 0
  TypeNameReads t = (n d : ℕ) (ts rest : List Placed) → SpellsTypeName t ts rest → type_name_ok types t ≡ true
      → type_name_depth t ≤ d → length ts ≤ n → TypeEnds rest → type_name_at (readers types n d) ts ≡ Some (t, rest)

  -- the keyword or the word of a base stands before what the readers of parts read
  abbrev pub BaseReads : Base → Type 0
  BaseReads b = (n d : ℕ) (ts rest : List Placed) → SpellsBase b ts rest → base_ok types b ≡ true → base_depth b ≤ d
      → length ts ≤ suc n → eat_listed is_base_word rest ≡ None → eat puncts.LeftBrace rest ≡ None
      → base_at types (readers types n d) ts ≡ Some (b, rest)

  abbrev pub FieldReads : Field → Type 0
  FieldReads f = (n d : ℕ) (ts rest : List Placed) → SpellsField f ts rest → field_ok types f ≡ true
      → field_depth f ≤ d → length ts ≤ n → field types (readers types n d) ts ≡ Some (f, rest)

  abbrev pub FieldsRead : Fields → Type 0
  FieldsRead fs = (n d k : ℕ) (q : Pos) (ts rest : List Placed)
      → SpellsFields fs ts (mark_at puncts.RightBrace q ∷ rest) → fields_ok types fs ≡ true → fields_depth fs ≤ d
      → length ts ≤ n → length ts < k → fields types (readers types n d) k ts
      ≡ Some (fs, mark_at puncts.RightBrace q ∷ rest)

  abbrev pub TailReads : Tail → Type 0
  TailReads t = (n d : ℕ) (ss : List ℕ) (w : Name) (p : Pos) (ts rest : List Placed) → SpellsTail w p t ts rest
      → is_word types w ≡ true → tail_ok types t ≡ true → tail_depth t ≤ d → length ts ≤ n → DeclrEnds rest
      → declr_rest types (readers types n d) ss ts ≡ Some (declr ss w p t, rest)

  abbrev pub DeclrReads : Declr → Type 0
  DeclrReads c = (n d : ℕ) (ts rest : List Placed) → SpellsDeclr c ts rest → declr_ok types c ≡ true
      → declr_depth c ≤ d → length ts ≤ n → DeclrEnds rest → declr_at types (readers types n d) ts ≡ Some (c, rest)

  abbrev pub DeclrsRead : Declrs → Type 0
  DeclrsRead ds = (n d : ℕ) (q : Pos) (ts rest : List Placed)
      → SpellsDeclrs ds ts (mark_at puncts.Semicolon q ∷ rest) → some_declrs_ok types ds ≡ true → declrs_depth ds ≤ d
      → length ts ≤ n → declrs types (readers types n d) ts ≡ Some (ds, mark_at puncts.Semicolon q ∷ rest)

  abbrev pub MoreDeclrsRead : Declrs → Type 0
  MoreDeclrsRead ds = (n d k : ℕ) (q : Pos) (ts rest : List Placed)
      → SpellsMoreDeclrs ds ts (mark_at puncts.Semicolon q ∷ rest) → declrs_ok types ds ≡ true → declrs_depth ds ≤ d
      → length ts ≤ n → length ts < k → more_declrs types (readers types n d) k ts
      ≡ Some (ds, mark_at puncts.Semicolon q ∷ rest)

  abbrev pub SizesRead : Sizes → Type 0
  SizesRead ss = (n d k : ℕ) (ts rest : List Placed) → SpellsSizes ss ts rest → sizes_ok types ss ≡ true
      → sizes_depth ss ≤ d → length ts ≤ n → length ts < k → DeclrEnds rest
      → sizes_in types (readers types n d) k ts ≡ Some (ss, rest)

  abbrev pub ParamDeclrReads : ParamDeclr → Type 0
  ParamDeclrReads c = (n d : ℕ) (ts rest : List Placed) → SpellsParamDeclr c ts rest → param_declr_ok types c ≡ true
      → param_declr_depth c ≤ d → length ts ≤ n → ParamEnds rest
      → param_declr_at types (readers types n d) ts ≡ Some (c, rest)

  abbrev pub ParamDeclReads : ParamDecl → Type 0
  ParamDeclReads c = (n d : ℕ) (ts rest : List Placed) → SpellsParamDecl c ts rest → param_decl_ok types c ≡ true
      → param_decl_depth c ≤ d → length ts ≤ n → ParamEnds rest → param types (readers types n d) ts ≡ Some (c, rest)

  abbrev pub MoreParamsRead : ParamDecls → Type 0
  MoreParamsRead ds = (n d k : ℕ) (dots : Option Pos) (q : Pos) (ts after rest : List Placed)
      → SpellsMoreParamDecls ds ts after → SpellsDots dots after (mark_at puncts.RightParen q ∷ rest)
      → param_decls_ok types ds ≡ true → param_decls_depth ds ≤ d → length ts ≤ n → length ts < k
      → more_params types (readers types n d) k ts ≡ Some ((ds, dots), mark_at puncts.RightParen q ∷ rest)
