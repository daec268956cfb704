-- The list of items that a file of the program stands for.
--   head_view, function_head_view    a function without its body
--   item_view     an item
--   unit_view     a file
use Rattle.std.specs.Prelude.{List, map}
use Rattle.pungi_tree.specs.ExprView.{spec_view, params_view}
use Rattle.pungi_tree.specs.StmtView.{decl_view, stmt_view}
use Rattle.pungi_tree.specs.Syntax as plain
use Rattle.pungi_tree.specs.declared.item.FunctionDef.{FunctionDef}
use Rattle.pungi_tree.specs.declared.item.Head.{Head}
use Rattle.pungi_tree.specs.declared.item.Item.{Item}
use Rattle.pungi_tree.specs.declared.item.Item.TheVariants as items
use Rattle.pungi_tree.specs.declared.unit.Unit.{Unit as File}

abbrev pub head_view : Head → plain.Head
head_view h = plain.head h.quals.items (spec_view h.result) h.stars.items h.name h.pos (params_view h.params)

abbrev pub function_head_view : FunctionDef → plain.Head
function_head_view f = plain.head f.quals.items (spec_view f.result) f.stars.items f.name f.pos (params_view f.params)

abbrev pub item_view : Item → plain.Item
item_view (items.Empty p) = plain.nothing p
item_view (items.Doc p n ts) = plain.doc p n ts.items
item_view (items.Typedef s stars n p) = plain.typedef (spec_view s) stars.items n p
item_view (items.Tag qs s) = plain.tag qs.items (spec_view s)
item_view (items.Vars d) = plain.variables (decl_view d)
item_view (items.Prototype h) = plain.prototype (head_view h)
item_view (items.Function f) = plain.function_def (function_head_view f) (stmt_view f.body)

abbrev pub unit_view : File → List plain.Item
unit_view u = map item_view u.items.items
