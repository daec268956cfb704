-- What the gathered names of a file stand for.
--   file_of n                    what is known of the file
--   file_callee file w           what is called by a word, where no local is
use Rattle.std.specs.Prelude.{ℕ, []}
use Rattle.pungi_tree.specs.UnitView.{unit_view}
use Rattle.pungi_types.specs.Files.{SourceFile, source_file}
use Rattle.pungi_types.specs.Calls.{Callee, callee_of}
use Rattle.pungi_types.specs.Functions.{file_env}
use Rattle.pungi_names.specs.declared.names.UnitNames.{UnitNames}

abbrev pub file_of : UnitNames → SourceFile
file_of n = source_file n.texts.now (unit_view n.values.kinds.cores.unit.now) n.rows.now n.terms.now

abbrev pub file_callee : SourceFile → ℕ → Callee
file_callee file w = callee_of (file_env file [] 0) w
