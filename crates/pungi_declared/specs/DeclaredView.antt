-- What the parts of a file that are lent stand for.
--   tag_view t          a struct or union with fields
--   variable_view v     a variable or table
--   function_view f     a function
--   place_view p        a name and where it stands
use Rattle.std.specs.Prelude.{map}
use Rattle.std.specs.Borrow.{Bor}
use Rattle.pungi_tree.specs.ExprView.{fields_of, field_view, spec_view, declr_view}
use Rattle.pungi_tree.specs.declared.item.FunctionDef.{FunctionDef}
use Rattle.pungi_types.specs.Tags as tags
use Rattle.pungi_types.specs.Files as files
use Rattle.pungi_types.specs.TypesView.{definition_view}
use Rattle.pungi_declared.specs.declared.tag.Tag.{Tag}
use Rattle.pungi_declared.specs.declared.variable.Variable.{Variable}
use Rattle.pungi_declared.specs.declared.variable.Place.{Place}

abbrev pub tag_view : Tag → tags.Tag
tag_view t = record { of = t.of; tag = t.tag; fields = fields_of (map field_view t.fields.now.items) }

abbrev pub variable_view : Variable → files.Variable
variable_view v = record { spec = spec_view v.spec.now; declr = declr_view v.declr.now }

abbrev pub function_view : Bor FunctionDef → files.Definition
function_view f = definition_view f.now

abbrev pub place_view : Place → files.Place
place_view p = record { name = p.name; pos = p.pos }
