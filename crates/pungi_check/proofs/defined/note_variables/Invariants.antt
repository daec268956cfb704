use Rattle.std.proofs.Common.{◌≡◌, drop, map}
use Rattle.pungi_check.specs.UsesView.{name_use_view}
use Rattle.pungi_names.specs.NamesView.{file_of}
use Rattle.pungi_check.specs.Duplicates.{variable_faults}
use Rattle.pungi_types.specs.Findings.{least_from}
use Rattle.pungi_check.proofs.defined.note_variables.Given as goal

abbrev pub invariant-loop-u : goal.invariant-loop-u
invariant-loop-u l =
    least_from l.first (variable_faults (file_of l.names) (map name_use_view (drop l.u-index l.list.items)))
    ≡ least_from l.fn.first (variable_faults (file_of l.names) (map name_use_view l.list.items))
