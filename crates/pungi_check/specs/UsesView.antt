-- What the names of a file stand for.
--   use_view u          what a name is used as
--   name_use_view u     a name with its place and use
use Rattle.pungi_check.specs.Duplicates as plain
use Rattle.pungi_check.specs.declared.name_use.Use.{Use}
use Rattle.pungi_check.specs.declared.name_use.Use.TheVariants as uses
use Rattle.pungi_check.specs.declared.name_use.NameUse.{NameUse}

abbrev pub use_view : Use → plain.Use
use_view uses.Function = plain.as_function
use_view uses.Variable = plain.as_variable
use_view uses.Table = plain.as_table

abbrev pub name_use_view : NameUse → plain.NameUse
name_use_view u = record { name = u.name; pos = u.pos; as_what = use_view u.as_what }
