use Rattle.std.proofs.Common.{◌≡◌, ◌++◌, drop, map}
use Rattle.pungi_declared.specs.DeclaredView.{tag_view}
use Rattle.pungi_tree.specs.ExprView.{expr_view, exprs_of, field_view, fields_of, declr_view, declrs_of, optional_view}
use Rattle.pungi_tree.specs.ExprView.{sizes_of, param_decl_view, param_decls_of}
use Rattle.pungi_types.specs.Tags.{exprs_tags, fields_tags, declrs_tags, sizes_tags, param_decls_tags}
use Rattle.pungi_declared.proofs.expr_tags.+expr_tags.Given as goal

abbrev pub invariant-exprs-loop-e : goal.invariant-exprs-loop-e
invariant-exprs-loop-e l =
    map tag_view l.out.items ++ exprs_tags (exprs_of (map expr_view (drop l.e-index l.list.items)))
    ≡ map tag_view l.fn.out.items ++ exprs_tags (exprs_of (map expr_view l.list.items))

abbrev pub invariant-fields-loop-f : goal.invariant-fields-loop-f
invariant-fields-loop-f l =
    map tag_view l.out.items ++ fields_tags (fields_of (map field_view (drop l.f-index l.list.items)))
    ≡ map tag_view l.fn.out.items ++ fields_tags (fields_of (map field_view l.list.items))

abbrev pub invariant-declrs-loop-d : goal.invariant-declrs-loop-d
invariant-declrs-loop-d l =
    map tag_view l.out.items ++ declrs_tags (declrs_of (map declr_view (drop l.d-index l.list.items)))
    ≡ map tag_view l.fn.out.items ++ declrs_tags (declrs_of (map declr_view l.list.items))

abbrev pub invariant-sizes-loop-size : goal.invariant-sizes-loop-size
invariant-sizes-loop-size l =
    map tag_view l.out.items ++ sizes_tags (sizes_of (map optional_view (drop l.size-index l.list.items)))
    ≡ map tag_view l.fn.out.items ++ sizes_tags (sizes_of (map optional_view l.list.items))

abbrev pub invariant-params-loop-d : goal.invariant-params-loop-d
invariant-params-loop-d l =
    map tag_view l.out.items ++ param_decls_tags (param_decls_of (map param_decl_view
    (drop l.d-index l.list.items))) ≡ map tag_view l.fn.out.items
    ++ param_decls_tags (param_decls_of (map param_decl_view l.list.items))
