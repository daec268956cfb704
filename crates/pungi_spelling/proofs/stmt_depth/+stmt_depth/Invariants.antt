use Rattle.std.proofs.Common.{◌≡◌, max, drop, map}
use Rattle.pungi_tree.specs.StmtView.{stmt_view, stmts_of}
use Rattle.pungi_tree.specs.ExprDepth.{capped}
use Rattle.pungi_tree.specs.StmtDepth.{stmts_depth}
use Rattle.pungi_spelling.proofs.stmt_depth.+stmt_depth.Given as goal

abbrev pub invariant-stmts-loop-s : goal.invariant-stmts-loop-s
invariant-stmts-loop-s l =
    max l.deepest (capped (stmts_depth (stmts_of (map stmt_view (drop l.s-index l.list.items)))))
    ≡ capped (stmts_depth (stmts_of (map stmt_view l.list.items)))
