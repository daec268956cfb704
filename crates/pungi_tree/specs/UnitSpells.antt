-- Which tokens an item or a file spells, with their places (C11 6.9).
--   SpellsHead      a function without its body
--   SpellsItem, SpellsItems    items; `SpellsItems items ts []` says that the tokens are those of a file of these items
use Rattle.std.specs.Prelude.{◌≡◌, List, [], ◌∷◌}
use Rattle.pungi_base.specs.declared.key.Key.TheVariants as keys
use Rattle.pungi_base.specs.declared.pos.Pos.{Pos}
use Rattle.pungi_base.specs.declared.punct.Punct.TheVariants as puncts
use Rattle.pungi_base.specs.Numbers.{py_doc_strvar}
use Rattle.pungi_tree.specs.ExprSpells.{SpellsTexts, SpellsKeys, SpellsStars, SpellsSpec, SpellsParams}
use Rattle.pungi_tree.specs.Tokens.{named_word}
use Rattle.pungi_tree.specs.Placed.{Placed, mark_at, key_at, word_at}
use Rattle.pungi_tree.specs.StmtSpells.{SpellsDecl, SpellsStmt}
use Rattle.pungi_tree.specs.Syntax.{Head, head, Item, nothing, doc, typedef, tag, variables, prototype, function_def}

abbrev pub SpellsHead : Head → List Placed → List Placed → Type 0
SpellsHead (head qs s stars n p ps) ts rest =
    (after pointers inner : List Placed) × (q r : Pos) × SpellsKeys qs ts after × SpellsSpec s after pointers
    × SpellsStars stars pointers (word_at n p ∷ mark_at puncts.LeftParen q ∷ inner)
    × SpellsParams ps inner (mark_at puncts.RightParen r ∷ rest)

abbrev pub SpellsItem : Item → List Placed → List Placed → Type 0
SpellsItem (nothing p) ts rest = ts ≡ mark_at puncts.Semicolon p ∷ rest
SpellsItem (doc p n ns) ts rest =
    (inner : List Placed) × (q r s u : Pos)
    × (ts ≡ word_at (named_word py_doc_strvar) q ∷ mark_at puncts.LeftParen r ∷ word_at n p ∷ mark_at puncts.Comma s
    ∷ inner)
    × SpellsTexts ns inner (mark_at puncts.RightParen u ∷ rest)
SpellsItem (typedef s stars n p) ts rest =
    (after pointers : List Placed) × (q r : Pos) × (ts ≡ key_at keys.Typedef q ∷ after) × SpellsSpec s after pointers
    × SpellsStars stars pointers (word_at n p ∷ mark_at puncts.Semicolon r ∷ rest)
SpellsItem (tag qs s) ts rest =
    (after : List Placed) × (q : Pos) × SpellsKeys qs ts after
    × SpellsSpec s after (mark_at puncts.Semicolon q ∷ rest)
SpellsItem (variables d) ts rest = SpellsDecl d ts rest
SpellsItem (prototype h) ts rest = (q : Pos) × SpellsHead h ts (mark_at puncts.Semicolon q ∷ rest)
SpellsItem (function_def h b) ts rest = (body : List Placed) × SpellsHead h ts body × SpellsStmt b body rest

abbrev pub SpellsItems : List Item → List Placed → List Placed → Type 0
SpellsItems [] ts rest = ts ≡ rest
SpellsItems (i ∷ items) ts rest = (after : List Placed) × SpellsItem i ts after × SpellsItems items after rest
