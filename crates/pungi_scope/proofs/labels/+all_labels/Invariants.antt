use Rattle.std.proofs.Common.{◌≡◌, drop, map}
use Rattle.pungi_types.specs.Findings.{least_from}
use Rattle.pungi_types.specs.Labels.{labels_after_all, labels_findings}
use Rattle.pungi_tree.specs.StmtView.{stmt_view, stmts_of}
use Rattle.pungi_scope.proofs.labels.+all_labels.Given as goal

abbrev pub invariant-note_all_labels-loop-s : goal.invariant-note_all_labels-loop-s
invariant-note_all_labels-loop-s l = record {
  kept : labels_after_all l.kept.keys (stmts_of (map stmt_view (drop l.s-index l.list.items)))
      ≡ labels_after_all l.fn.kept.keys (stmts_of (map stmt_view l.list.items));
  found :
      least_from l.first (labels_findings l.kept.keys (stmts_of (map stmt_view (drop l.s-index l.list.items))))
      ≡ least_from l.fn.first (labels_findings l.fn.kept.keys (stmts_of (map stmt_view l.list.items)));
}
