use Rattle.std.proofs.Common.{◌≡◌, drop, map}
use Rattle.pungi_declared.specs.DeclaredView.{tag_view}
use Rattle.pungi_types.specs.Findings.{least_from}
use Rattle.pungi_check.specs.SeenNames.{tag_faults_by}
use Rattle.pungi_check.specs.SeenView.{kept_tags}
use Rattle.pungi_check.proofs.seen_tags.note_all.Given as goal

abbrev pub invariant-loop-t : goal.invariant-loop-t
invariant-loop-t l =
    least_from l.first (tag_faults_by (kept_tags l.seen) (map tag_view (drop l.t-index l.list.items)))
    ≡ least_from l.fn.first (tag_faults_by (kept_tags l.fn.seen) (map tag_view l.list.items))
