use Rattle.std.proofs.Common.{◌≡◌, drop, map}
use Rattle.pungi_types.specs.Findings.{least_from}
use Rattle.pungi_check.specs.SeenNames.{use_faults_by}
use Rattle.pungi_check.specs.SeenView.{words_of}
use Rattle.pungi_check.specs.UsesView.{name_use_view}
use Rattle.pungi_check.proofs.seen_uses.note_all.Given as goal

abbrev pub invariant-loop-name : goal.invariant-loop-name
invariant-loop-name l =
    least_from l.first (use_faults_by (words_of l.seen) (map name_use_view (drop l.name-index l.names.items)))
    ≡ least_from l.fn.first (use_faults_by (words_of l.fn.seen) (map name_use_view l.names.items))
