use Rattle.std.proofs.Common.{◌≡◌, ◌+◌, drop, map}
use Rattle.pungi_tree.specs.ExprView.{expr_view, exprs_of, field_view, fields_of, declr_view, declrs_of, optional_view}
use Rattle.pungi_tree.specs.ExprView.{sizes_of, param_decl_view, param_decls_of}
use Rattle.pungi_tree.specs.ExprDepth.{capped}
use Rattle.pungi_types.specs.Nodes.{exprs_nodes, fields_nodes, declrs_nodes, sizes_nodes, param_decls_nodes}
use Rattle.pungi_scope.proofs.expr_nodes.+expr_nodes.Given as goal

abbrev pub invariant-exprs-loop-e : goal.invariant-exprs-loop-e
invariant-exprs-loop-e l = record {
  fits : capped l.nodes ≡ l.nodes;
  so_far : capped (l.nodes + exprs_nodes (exprs_of (map expr_view (drop l.e-index l.list.items))))
      ≡ capped (exprs_nodes (exprs_of (map expr_view l.list.items)));
}

abbrev pub invariant-fields-loop-f : goal.invariant-fields-loop-f
invariant-fields-loop-f l = record {
  fits : capped l.nodes ≡ l.nodes;
  so_far : capped (l.nodes + fields_nodes (fields_of (map field_view (drop l.f-index l.list.items))))
      ≡ capped (fields_nodes (fields_of (map field_view l.list.items)));
}

abbrev pub invariant-declrs-loop-d : goal.invariant-declrs-loop-d
invariant-declrs-loop-d l = record {
  fits : capped l.nodes ≡ l.nodes;
  so_far : capped (l.nodes + declrs_nodes (declrs_of (map declr_view (drop l.d-index l.list.items))))
      ≡ capped (declrs_nodes (declrs_of (map declr_view l.list.items)));
}

abbrev pub invariant-sizes-loop-size : goal.invariant-sizes-loop-size
invariant-sizes-loop-size l = record {
  fits : capped l.nodes ≡ l.nodes;
  so_far : capped (l.nodes + sizes_nodes (sizes_of (map optional_view (drop l.size-index l.list.items))))
      ≡ capped (sizes_nodes (sizes_of (map optional_view l.list.items)));
}

abbrev pub invariant-param_decls-loop-d : goal.invariant-param_decls-loop-d
invariant-param_decls-loop-d l = record {
  fits : capped l.nodes ≡ l.nodes;
  so_far : capped (l.nodes + param_decls_nodes (param_decls_of (map param_decl_view (drop l.d-index l.list.items))))
      ≡ capped (param_decls_nodes (param_decls_of (map param_decl_view l.list.items)));
}
