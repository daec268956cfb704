-- Variables by their names.
--   global_else file v w r    the kind of this variable, where it has the name and is no table, or else this
use Rattle.std.specs.Prelude.{ℕ, ◌==◌, ◌&&◌, not, List, Option, if◌then◌else◌}
use Rattle.pungi_tree.specs.Syntax.{Item}
use Rattle.pungi_types.specs.Files.{Variable, declr_name}
use Rattle.pungi_types.specs.Kinds.{declared_kind}
use Rattle.pungi_types.specs.Names.{is_table}
use Rattle.pungi_types.specs.declared.kind.ValueKind.{ValueKind}

abbrev pub global_else : List Item → Variable → ℕ → Option ValueKind → Option ValueKind
global_else file v w r =
    (if (declr_name v.declr).0 == w && not (is_table file v) then declared_kind file v.spec v.declr else r)
