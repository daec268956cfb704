-- Reading types, declarators and parameters (C11 6.7.2 to 6.7.7). `low` has the readers of what stands inside.
--   Lower             the readers of what stands deeper: expressions of a level, types, and parameters up to their
--                     parenthesis
--   keywords test ts  as many keywords that pass the test as stand there
--   consts ts, stars ts    how many `const` stand there, and each `*` with how many `const` after it
--   texts ts          as many texts as stand there
--   begins_type, begins_decl    a type, or a declaration, begins here
--   type_word ts, plain_word ts    a type word, a word that is no type word
--   unused_front ts   `Py_UNUSED (`
--   begins_name, dots_front, void_front    a declared name or its parenthesis, `, ...`, and the lone `void` with its
--                                          parenthesis
--   declr_rest, declrs, more_declrs    what stands after the stars of a declarator; declarators with a comma between;
--                                      further ones
--   sizes_at, function_rest    the brackets of an array, and a pointer to a function
--   field, fields     lines of a struct, up to the brace, which stays
--   aggregate         a struct or a union after its keyword
--   spec_at           a type without its pointers
--   type_name_at      a type with its pointers
--   param_rest, param, params_at    a parameter after its stars, a parameter, and parameters with their closing
--                                   parenthesis
use Rattle.std.specs.Prelude.{ℕ, zero, suc, ◌+◌, Bool, true, false, not, ◌&&◌, ◌||◌, ◌==◌, if◌then◌else◌, List, [], ◌∷◌}
use Rattle.std.specs.Prelude.{length, Option, Some, None, is_some}
use Rattle.pungi_base.specs.declared.key.Key.{Key}
use Rattle.pungi_base.specs.declared.key.Key.TheVariants as keys
use Rattle.pungi_base.specs.declared.names.Name.{Name}
use Rattle.pungi_base.specs.declared.pos.Pos.{Pos}
use Rattle.pungi_base.specs.declared.punct.Punct.TheVariants as puncts
use Rattle.pungi_base.specs.Numbers.{py_unused}
use Rattle.pungi_parse.specs.tokens.OneToken.{eat, eat_key, eat_word, eat_text, eat_listed}
use Rattle.pungi_parse.specs.Reading.{Read, ◌>>=◌, chain, on_some, when, unless}
use Rattle.pungi_tree.specs.ExprLevels.{is_empty}
use Rattle.pungi_tree.specs.Operators.{is_base_word, is_qualifier, is_aggregate}
use Rattle.pungi_tree.specs.Placed.{Placed, first_place}
use Rattle.pungi_tree.specs.Syntax.{Expr, TypeName, type_name, Spec, spec, Base, words, alias, tagged, tagged_fields}
use Rattle.pungi_tree.specs.Syntax.{Field, empty, members, Fields, no_fields, field_and, Declr, declr, Declrs}
use Rattle.pungi_tree.specs.Syntax.{no_declrs, declr_and, Tail, sizes, function, Sizes, no_sizes, open_and, size_and}
use Rattle.pungi_tree.specs.Syntax.{Params, params, ParamDecl, param_decl, ParamDecls, no_params, param_and, ParamDeclr}
use Rattle.pungi_tree.specs.Syntax.{named, bare, unused}
use Rattle.pungi_tree.specs.TypeWords.{is_type, is_word}
use Rattle.pungi_tree.specs.Tokens.{named_word}

pub record Lower : Type 0 where
  pub expr : ℕ → List Placed → Read Expr
  pub spec : List Placed → Read Spec
  pub params : List Placed → Read Params

unfoldable pub keywords : (Key → Bool) → List Placed → List Key × List Placed
keywords test [] = ([], [])
keywords test (t ∷ ts) =
    on_some (eat_listed test (t ∷ ts)) (λ k. let more = keywords test ts in (k.0 ∷ more.0, more.1)) ([], t ∷ ts)

unfoldable pub consts : List Placed → ℕ × List Placed
consts [] = (0, [])
consts (t ∷ ts) = on_some (eat_key keys.Const (t ∷ ts)) (λ c. let more = consts ts in (suc more.0, more.1)) (0, t ∷ ts)

-- one star with its `const` at each turn, at most `k` turns
unfoldable pub stars_in : ℕ → List Placed → List ℕ × List Placed
stars_in zero ts = ([], ts)
stars_in (suc k) ts =
    on_some (eat puncts.Star ts) (λ s. let c = consts s.1 in let more = stars_in k c.1 in (c.0 ∷ more.0, more.1))
    ([], ts)

unfoldable pub stars : List Placed → List ℕ × List Placed
stars ts = stars_in (length ts) ts

unfoldable pub texts : List Placed → List Name × List Placed
texts [] = ([], [])
texts (t ∷ ts) = on_some (eat_text (t ∷ ts)) (λ n. let more = texts ts in (n.0 ∷ more.0, more.1)) ([], t ∷ ts)

unfoldable pub type_name_at : Lower → List Placed → Read TypeName
type_name_at low ts = low.spec ts >>= λ s. let p = stars s.1 in Some (type_name s.0 p.0, p.1)

-- a declared name, or the parenthesis of a pointer to a function
unfoldable pub begins_name : List Placed → Bool
begins_name ts = is_some (eat_word ts) || is_some (eat puncts.LeftParen ts)

-- `, ...` and the place of its last token
unfoldable pub dots_front : List Placed → Option (Pos × List Placed)
dots_front ts = eat puncts.Comma ts >>= λ c. eat puncts.Ellipsis c.1

-- the lone `void` before the closing parenthesis
unfoldable pub void_front : List Placed → Option (Pos × List Placed)
void_front ts = eat_key keys.Void ts >>= λ v. eat puncts.RightParen v.1

module _ (types : List Name) where
  unfoldable pub type_word : List Placed → Option (Name × Pos × List Placed)
  type_word ts = eat_word ts >>= λ w. when (is_type types w.0) (Some w)

  unfoldable pub plain_word : List Placed → Option (Name × Pos × List Placed)
  plain_word ts = eat_word ts >>= λ w. unless (is_type types w.0) (Some w)

  unfoldable pub begins_type : List Placed → Bool
  begins_type ts = is_some (eat_listed is_base_word ts)
      || (is_some (eat_listed is_aggregate ts) || is_some (type_word ts))

  unfoldable pub begins_decl : List Placed → Bool
  begins_decl ts = is_some (eat_listed is_qualifier ts) || begins_type ts

  -- `Py_UNUSED`, the word in its parentheses, and the tokens after them
  unfoldable pub unused_front : List Placed → Option (Name × Pos × List Placed)
  unused_front ts =
      plain_word ts >>= λ u. when (u.0.0 == py_unused) (eat puncts.LeftParen u.2 >>= λ o. Some (u.0, o.0, o.1))

  module _ (low : Lower) where
    -- the brackets of an array, at most `k` of them
    unfoldable pub sizes_in : ℕ → List Placed → Read Sizes
    sizes_in zero ts = None
    sizes_in (suc k) ts =
        on_some (eat puncts.LeftBracket ts)
        (λ o.
        on_some (eat puncts.RightBracket o.1)
        (λ c. sizes_in k c.1 >>= λ ss. Some (open_and ss.0, ss.1))
        (low.expr 0 o.1 >>= λ e. eat puncts.RightBracket e.1 >>= λ c. sizes_in k c.1 >>= λ ss. Some
        (size_and e.0 ss.0, ss.1)))
        (Some (no_sizes, ts))

    unfoldable pub sizes_at : List Placed → Read Sizes
    sizes_at ts = sizes_in (suc (length ts)) ts

    unfoldable pub function_rest : List ℕ → List Placed → Read Declr
    function_rest ss ts =
        eat puncts.LeftParen ts >>= λ o. eat puncts.Star o.1 >>= λ s. plain_word s.1 >>= λ w. eat puncts.RightParen
        w.2 >>= λ c.
        eat puncts.LeftParen c.1 >>= λ i. low.params i.1 >>= λ ps. Some (declr ss w.0 w.1 (function ps.0), ps.1)

    unfoldable pub declr_rest : List ℕ → List Placed → Read Declr
    declr_rest ss ts =
        on_some (plain_word ts)
        (λ w. sizes_at w.2 >>= λ n. Some (declr ss w.0 w.1 (sizes n.0), n.1))
        (function_rest ss ts)

    unfoldable pub declr_at : List Placed → Read Declr
    declr_at ts = let s = stars ts in declr_rest s.0 s.1

    unfoldable pub more_declrs : ℕ → List Placed → Read Declrs
    more_declrs zero ts = None
    more_declrs (suc k) ts =
        on_some (eat puncts.Comma ts)
        (λ c. declr_at c.1 >>= λ d. more_declrs k d.1 >>= λ ds. Some (declr_and d.0 ds.0, ds.1))
        (Some (no_declrs, ts))

    unfoldable pub declrs : List Placed → Read Declrs
    declrs ts = declr_at ts >>= λ d. more_declrs (suc (length d.1)) d.1 >>= λ ds. Some (declr_and d.0 ds.0, ds.1)

    unfoldable pub field : List Placed → Read Field
    field ts =
        on_some (eat puncts.Semicolon ts)
        (λ c. Some (empty, c.1))
        (let q = keywords is_qualifier ts in low.spec q.1 >>= λ s. declrs s.1 >>= λ ds. eat puncts.Semicolon ds.1
        >>= λ c. Some (members q.0 s.0 ds.0, c.1))

    -- up to the closing brace, which stays
    unfoldable pub fields : ℕ → List Placed → Read Fields
    fields zero ts = None
    fields (suc k) ts =
        on_some (eat puncts.RightBrace ts)
        (λ c. Some (no_fields, ts))
        (field ts >>= λ f. fields k f.1 >>= λ fs. Some (field_and f.0 fs.0, fs.1))

    unfoldable pub fields_at : Key → Option (Name × Pos) → List Placed → Read Base
    fields_at of tag ts = fields (suc (length ts)) ts >>= λ fs. eat puncts.RightBrace fs.1 >>= λ c. Some
        (tagged_fields of tag fs.0, c.1)

    unfoldable pub aggregate : Key → List Placed → Read Base
    aggregate of ts =
        on_some (type_word ts)
        (λ w. Some (tagged of (Some (w.0, w.1)), w.2))
        (on_some (eat_word ts)
        (λ w. on_some (eat puncts.LeftBrace w.2) (λ o. fields_at of (Some (w.0, w.1)) o.1)
        (Some (tagged of (Some (w.0, w.1)), w.2)))
        (eat puncts.LeftBrace ts >>= λ o. fields_at of None o.1))

    unfoldable pub base_at : List Placed → Read Base
    base_at ts =
        on_some (eat_listed is_base_word ts)
        (λ k. let more = keywords is_base_word k.2 in Some (words (k.0 ∷ more.0), more.1))
        (on_some (eat_listed is_aggregate ts)
        (λ k. aggregate k.0 k.2)
        (type_word ts >>= λ w. Some (alias w.0, w.2)))

    unfoldable pub spec_at : List Placed → Read Spec
    spec_at ts = first_place ts >>= λ p. base_at ts >>= λ b. let c = consts b.1 in Some (spec p b.0 c.0, c.1)

    unfoldable pub param_rest : List ℕ → List Placed → Read ParamDeclr
    param_rest ss ts =
        on_some (unused_front ts)
        (λ u. plain_word u.2 >>= λ w. eat puncts.RightParen w.2 >>= λ c. Some (unused ss w.0 w.1, c.1))
        (declr_rest ss ts >>= λ d. Some (named d.0, d.1))

    unfoldable pub param_declr_at : List Placed → Read ParamDeclr
    param_declr_at ts =
        let s = stars ts in
        on_some (when (begins_name s.1) (Some s.1)) (λ ts. param_rest s.0 ts) (Some (bare s.0, s.1))

    unfoldable pub param : List Placed → Read ParamDecl
    param ts = let q = keywords is_qualifier ts in low.spec q.1 >>= λ s. param_declr_at s.1 >>= λ d. Some
        (param_decl q.0 s.0 d.0, d.1)

    unfoldable pub more_params : ℕ → List Placed → Read (ParamDecls × Option Pos)
    more_params zero ts = None
    more_params (suc k) ts =
        on_some (dots_front ts)
        (λ d. Some ((no_params, Some d.0), d.1))
        (on_some (eat puncts.Comma ts)
        (λ c. param c.1 >>= λ p. more_params k p.1 >>= λ ps. Some ((param_and p.0 ps.0.0, ps.0.1), ps.1))
        (Some ((no_params, None), ts)))

    unfoldable pub some_params : List Placed → Read Params
    some_params ts =
        param ts >>= λ p. more_params (suc (length p.1)) p.1 >>= λ ps. eat puncts.RightParen ps.1 >>= λ c.
        Some (params (param_and p.0 ps.0.0) false ps.0.1, c.1)

    unfoldable pub params_at : List Placed → Read Params
    params_at ts =
        on_some (eat puncts.RightParen ts)
        (λ c. Some (params no_params false None, c.1))
        (on_some (void_front ts) (λ v. Some (params no_params true None, v.1)) (some_params ts))
