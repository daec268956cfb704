-- Words in which the worked files are written, and what is expected of them.
--   at, name    a place, and a name by its number
--   manual_file items    a file of these items, by the manual alone
--   passed      those definitions of which nothing is reported
--   told        a finding: line, column and rule
use Rattle.std.proofs.Common.{ℕ, List, [], ◌∷◌, Option, Some, None}
use Rattle.pungi_base.specs.declared.names.Name.{Name}
use Rattle.pungi_base.specs.declared.pos.Pos.{Pos}
use Rattle.pungi_api.specs.Rows.{builtin_rows}
use Rattle.pungi_api.specs.Terms.{manual_terms}
use Rattle.pungi_tree.specs.Syntax.{Item}
use Rattle.pungi_types.specs.Files.{Definition, SourceFile, source_file}
use Rattle.pungi_types.specs.declared.finding.Finding.{Finding}

abbrev pub at : ℕ → ℕ → Pos
at l c = record { line = l; col = c }

abbrev pub name : ℕ → Name
name n = record { 0 = n }

abbrev pub manual_file : List Item → SourceFile
manual_file items = source_file [] items builtin_rows manual_terms

-- those of which nothing is reported
abbrev pub go : Option Finding → Definition → List Definition → List Definition
go None d ds = d ∷ ds
go (Some f) d ds = ds

abbrev pub passed : (Definition → Option Finding) → List Definition → List Definition
passed r [] = []
passed r (d ∷ ds) = go (r d) d (passed r ds)

abbrev pub told : ℕ → ℕ → ℕ → Option Finding
told l c n = Some (record { pos = at l c; rule = record { 0 = n } })
