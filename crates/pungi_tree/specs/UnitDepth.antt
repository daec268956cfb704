-- How deep an item or a file is: the greatest number of statement and expression nodes on a path.
--   item_depth, items_depth    items; a file is as deep as its items
use Rattle.std.specs.Prelude.{ℕ, max, List, [], ◌∷◌}
use Rattle.pungi_tree.specs.ExprDepth.{spec_depth, params_depth}
use Rattle.pungi_tree.specs.StmtDepth.{decl_depth, stmt_depth}
use Rattle.pungi_tree.specs.Syntax.{head, Item, nothing, doc, typedef, tag, variables, prototype, function_def}

abbrev pub item_depth : Item → ℕ
item_depth (nothing p) = 0
item_depth (doc p n ts) = 0
item_depth (typedef s stars n p) = spec_depth s
item_depth (tag qs s) = spec_depth s
item_depth (variables d) = decl_depth d
item_depth (prototype (head qs s stars n p ps)) = max (spec_depth s) (params_depth ps)
item_depth (function_def (head qs s stars n p ps) b) = max (spec_depth s) (max (params_depth ps) (stmt_depth b))

abbrev pub items_depth : List Item → ℕ
items_depth [] = 0
items_depth (i ∷ items) = max (item_depth i) (items_depth items)
