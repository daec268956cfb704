use Rattle.std.proofs.Common.{◌≡◌, ◌+◌, drop, map}
use Rattle.pungi_tree.specs.ExprDepth.{capped}
use Rattle.pungi_tree.specs.StmtView.{stmt_view, stmts_of}
use Rattle.pungi_types.specs.Nodes.{stmts_nodes}
use Rattle.pungi_scope.proofs.nodes.+stmt_nodes.Given as goal

abbrev pub invariant-stmts-loop-s : goal.invariant-stmts-loop-s
invariant-stmts-loop-s l = record {
  fits : capped l.nodes ≡ l.nodes;
  so_far : capped (l.nodes + stmts_nodes (stmts_of (map stmt_view (drop l.s-index l.list.items))))
      ≡ capped (stmts_nodes (stmts_of (map stmt_view l.list.items)));
}
