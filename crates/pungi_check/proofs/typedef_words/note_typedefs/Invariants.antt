use Rattle.std.proofs.Common.{◌≡◌, [], drop, map}
use Rattle.pungi_check.specs.Duplicates.{typedef_faults}
use Rattle.pungi_types.specs.Findings.{least_from}
use Rattle.pungi_types.specs.TypesView.{typedef_view}
use Rattle.pungi_check.proofs.typedef_words.note_typedefs.Given as goal

abbrev pub invariant-loop-t : goal.invariant-loop-t
invariant-loop-t l =
    least_from l.first (typedef_faults l.seen.keys (map typedef_view (drop l.t-index l.list.items)))
    ≡ least_from l.fn.first (typedef_faults [] (map typedef_view l.list.items))
