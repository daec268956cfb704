use Rattle.std.proofs.Common.{[], ap}
use Rattle.std.proofs.lemmas.Result.{IfOk-equal}
use Rattle.pungi_tree.specs.StmtView.{stmt_view}
use Rattle.pungi_types.specs.Findings.{least_from}
use Rattle.pungi_types.specs.Labels.{label_findings}
use Rattle.pungi_scope.proofs.labels.note_repeated_labels.Goals as goal

pub returns : goal.returns
returns c =
    let first = c.args.first.now in
    let s = stmt_view c.args.body.now in
    IfOk-equal c.note_labels.result c.note_labels.new.first (least_from first
    (label_findings c.new-labels.result.keys s)) (least_from first (label_findings [] s))
    c.note_labels.ensures.found (ap (λ ks. least_from first (label_findings ks s)) c.new-labels.ensures.empty)
