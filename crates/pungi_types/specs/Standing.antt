-- What a word is that stands as a value, and what is called.
--   standing_of m       what a word is as a value
--   row_called c        the row that is called
--   is_defined c        a function of the file is called
use Rattle.std.specs.Prelude.{Bool, true, false, Option, Some, None}
use Rattle.pungi_api.specs.declared.row.Row.{Row}
use Rattle.pungi_types.specs.Names.{Meaning, a_local, a_global, a_static}
use Rattle.pungi_types.specs.Calls.{Callee, defined, a_row}
use Rattle.pungi_types.specs.declared.standing.Standing.{Standing}
use Rattle.pungi_types.specs.declared.standing.Standing.TheVariants as stands

abbrev pub standing_of : Meaning → Standing
standing_of (a_local l) = stands.Local l.number
standing_of (a_global k) = stands.Global
standing_of (a_static n) = stands.Static n
standing_of _ = stands.Other

abbrev pub row_called : Callee → Option Row
row_called (a_row r) = Some r
row_called _ = None

abbrev pub is_defined : Callee → Bool
is_defined (defined d) = true
is_defined _ = false
