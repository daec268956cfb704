use Rattle.std.proofs.Common.{◌≡◌, max, drop, map}
use Rattle.pungi_tree.specs.ExprView.{expr_view, exprs_of, field_view, fields_of, declr_view, declrs_of, optional_view}
use Rattle.pungi_tree.specs.ExprView.{sizes_of, param_decl_view, param_decls_of}
use Rattle.pungi_tree.specs.ExprDepth.{capped, exprs_depth, fields_depth, declrs_depth, sizes_depth, param_decls_depth}
use Rattle.pungi_spelling.proofs.expr_depth.+depth.Given as goal

abbrev pub invariant-exprs-loop-e : goal.invariant-exprs-loop-e
invariant-exprs-loop-e l =
    max l.deepest (capped (exprs_depth (exprs_of (map expr_view (drop l.e-index l.list.items)))))
    ≡ capped (exprs_depth (exprs_of (map expr_view l.list.items)))

abbrev pub invariant-fields-loop-f : goal.invariant-fields-loop-f
invariant-fields-loop-f l =
    max l.deepest (capped (fields_depth (fields_of (map field_view (drop l.f-index l.list.items)))))
    ≡ capped (fields_depth (fields_of (map field_view l.list.items)))

abbrev pub invariant-declrs-loop-d : goal.invariant-declrs-loop-d
invariant-declrs-loop-d l =
    max l.deepest (capped (declrs_depth (declrs_of (map declr_view (drop l.d-index l.list.items)))))
    ≡ capped (declrs_depth (declrs_of (map declr_view l.list.items)))

abbrev pub invariant-sizes-loop-size : goal.invariant-sizes-loop-size
invariant-sizes-loop-size l =
    max l.deepest (capped (sizes_depth (sizes_of (map optional_view (drop l.size-index l.list.items)))))
    ≡ capped (sizes_depth (sizes_of (map optional_view l.list.items)))

abbrev pub invariant-param_decls-loop-d : goal.invariant-param_decls-loop-d
invariant-param_decls-loop-d l =
    max l.deepest (capped (param_decls_depth (param_decls_of (map param_decl_view (drop l.d-index l.list.items)))))
    ≡ capped (param_decls_depth (param_decls_of (map param_decl_view l.list.items)))
