-- Which items and files the grammar allows (C11 6.9), where `types` are the words of the `typedef`s of the file.
-- `PyDoc_STRVAR` begins its item only where it is no type word. The word of a `typedef` may be any.
--   with_typedef i names   the word of an item that is a `typedef`, before these
--   typedef_names items    the words of the items that are `typedef`s
--   is_block s         a block
--   signature_ok types qs s n ps    a function without its body
--   item_ok, items_ok  items
--   is_levelled items  a file whose items the grammar allows, under its own type words
use Rattle.std.specs.Prelude.{Bool, true, false, not, ◌&&◌, List, [], ◌∷◌}
use Rattle.pungi_base.specs.declared.key.Key.{Key}
use Rattle.pungi_base.specs.declared.names.Name.{Name}
use Rattle.pungi_base.specs.Numbers.{py_doc_strvar}
use Rattle.pungi_tree.specs.ExprLevels.{is_empty, spec_ok, params_ok}
use Rattle.pungi_tree.specs.Tokens.{named_word}
use Rattle.pungi_tree.specs.Operators.{is_qualifier, all_keys}
use Rattle.pungi_tree.specs.StmtLevels.{decl_ok, stmt_ok}
use Rattle.pungi_tree.specs.Syntax.{Spec, Params, head, Stmt, block, Item, nothing, doc, typedef, tag, variables}
use Rattle.pungi_tree.specs.Syntax.{prototype, function_def}
use Rattle.pungi_tree.specs.TypeWords.{is_word, type_words}
use Rattle.pungi_tree.specs.UnitFlat.{items_flat}

abbrev pub with_typedef : Item → List Name → List Name
with_typedef (typedef s stars n p) names = n ∷ names
with_typedef _ names = names

abbrev pub typedef_names : List Item → List Name
typedef_names [] = []
typedef_names (i ∷ items) = with_typedef i (typedef_names items)

abbrev pub is_block : Stmt → Bool
is_block (block p ss q) = true
is_block _ = false

module _ (types : List Name) where
  abbrev pub signature_ok : List Key → Spec → Name → Params → Bool
  signature_ok qs s n ps = all_keys is_qualifier qs && (spec_ok types s && (is_word types n && params_ok types ps))

  abbrev pub item_ok : Item → Bool
  item_ok (nothing p) = true
  item_ok (doc p n ts) = is_word types (named_word py_doc_strvar) && (is_word types n && not (is_empty ts))
  item_ok (typedef s stars n p) = spec_ok types s
  item_ok (tag qs s) = all_keys is_qualifier qs && spec_ok types s
  item_ok (variables d) = decl_ok types d
  item_ok (prototype (head qs s stars n p ps)) = signature_ok qs s n ps
  item_ok (function_def (head qs s stars n p ps) b) = signature_ok qs s n ps && (is_block b && stmt_ok types b)

  abbrev pub items_ok : List Item → Bool
  items_ok [] = true
  items_ok (i ∷ items) = item_ok i && items_ok items

abbrev pub is_levelled : List Item → Bool
is_levelled items = items_ok (type_words (items_flat items)) items
