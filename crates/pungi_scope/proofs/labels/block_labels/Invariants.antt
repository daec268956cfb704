use Rattle.std.proofs.Common.{◌≡◌, [], drop, map}
use Rattle.pungi_types.specs.Labels.{block_labels as block_labels_of}
use Rattle.pungi_tree.specs.StmtView.{stmt_view, stmts_of}
use Rattle.pungi_scope.proofs.labels.block_labels.Given as goal

abbrev pub invariant-loop-s : goal.invariant-loop-s
invariant-loop-s l =
    block_labels_of l.labels.keys (stmts_of (map stmt_view (drop l.s-index l.list.items)))
    ≡ block_labels_of [] (stmts_of (map stmt_view l.list.items))
