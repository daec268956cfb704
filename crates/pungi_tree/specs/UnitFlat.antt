-- The tokens of an item or a file from left to right (C11 6.9).
--   signature_flat    a function without its body
--   item_flat, items_flat    items; the tokens of a file are those of its items
use Rattle.std.specs.Prelude.{ℕ, List, [], ◌∷◌, ◌++◌}
use Rattle.pungi_base.specs.declared.key.Key.{Key}
use Rattle.pungi_base.specs.declared.key.Key.TheVariants as keys
use Rattle.pungi_base.specs.declared.kind.Kind.{Kind}
use Rattle.pungi_base.specs.declared.kind.Kind.TheVariants as kind
use Rattle.pungi_base.specs.declared.names.Name.{Name}
use Rattle.pungi_base.specs.declared.punct.Punct.TheVariants as puncts
use Rattle.pungi_base.specs.Numbers.{py_doc_strvar}
use Rattle.pungi_tree.specs.ExprFlat.{spec_flat, params_flat}
use Rattle.pungi_tree.specs.Tokens.{mark, key, named_word, keys_flat, texts_flat, stars_flat}
use Rattle.pungi_tree.specs.StmtFlat.{decl_flat, stmt_flat}
use Rattle.pungi_tree.specs.Syntax.{Spec, Params, head, Item, nothing, doc, typedef, tag, variables, prototype}
use Rattle.pungi_tree.specs.Syntax.{function_def}

abbrev pub signature_flat : List Key → Spec → List ℕ → Name → Params → List Kind
signature_flat qs s stars n ps =
    keys_flat qs ++ (spec_flat s ++ (stars_flat stars ++ (kind.Word n ∷ mark puncts.LeftParen
    ∷ (params_flat ps ++ mark puncts.RightParen ∷ []))))

abbrev pub item_flat : Item → List Kind
item_flat (nothing p) = mark puncts.Semicolon ∷ []
item_flat (doc p n ts) =
    kind.Word (named_word py_doc_strvar) ∷ mark puncts.LeftParen ∷ kind.Word n ∷ mark puncts.Comma
    ∷ (texts_flat ts ++ mark puncts.RightParen ∷ [])
item_flat (typedef s stars n p) =
    key keys.Typedef ∷ (spec_flat s ++ (stars_flat stars ++ kind.Word n ∷ mark puncts.Semicolon ∷ []))
item_flat (tag qs s) = keys_flat qs ++ (spec_flat s ++ mark puncts.Semicolon ∷ [])
item_flat (variables d) = decl_flat d
item_flat (prototype (head qs s stars n p ps)) = signature_flat qs s stars n ps ++ mark puncts.Semicolon ∷ []
item_flat (function_def (head qs s stars n p ps) b) = signature_flat qs s stars n ps ++ stmt_flat b

abbrev pub items_flat : List Item → List Kind
items_flat [] = []
items_flat (i ∷ items) = item_flat i ++ items_flat items
