use Rattle.std.proofs.Common.{◌≡◌, ◌+◌, drop, map}
use Rattle.pungi_tree.specs.ExprDepth.{capped}
use Rattle.pungi_tree.specs.StmtView.{var_decl_view}
use Rattle.pungi_types.specs.Nodes.{vars_nodes}
use Rattle.pungi_scope.proofs.nodes.vars.Given as goal

abbrev pub invariant-loop-var : goal.invariant-loop-var
invariant-loop-var l = record {
  fits : capped l.nodes ≡ l.nodes;
  so_far : capped (l.nodes + vars_nodes (map var_decl_view (drop l.var-index l.list.items)))
      ≡ capped (vars_nodes (map var_decl_view l.list.items));
}
