use Rattle.std.proofs.Common.{◌≡◌, [], drop, map}
use Rattle.pungi_declared.specs.DeclaredView.{function_view}
use Rattle.pungi_names.specs.NamesView.{file_of}
use Rattle.pungi_check.specs.Duplicates.{definition_faults}
use Rattle.pungi_types.specs.Findings.{least_from}
use Rattle.pungi_check.proofs.defined.note_definitions.Given as goal

abbrev pub invariant-loop-f : goal.invariant-loop-f
invariant-loop-f l =
    least_from l.first (definition_faults (file_of l.names) l.seen.keys (map function_view
    (drop l.f-index l.functions.items)))
    ≡ least_from l.fn.first (definition_faults (file_of l.names) [] (map function_view l.functions.items))
