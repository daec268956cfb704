use Rattle.std.proofs.Common.{◌≡◌, drop, map}
use Rattle.pungi_tree.specs.ExprView.{expr_view, exprs_of, field_view, fields_of, declr_view, declrs_of, optional_view}
use Rattle.pungi_tree.specs.ExprView.{sizes_of, param_decl_view, param_decls_of}
use Rattle.pungi_tree.specs.ExprLevels.{args_ok, fields_ok, declrs_ok, some_declrs_ok, sizes_ok, param_decls_ok}
use Rattle.pungi_tree.specs.UnitLevels.{typedef_names}
use Rattle.pungi_tree.specs.UnitView.{item_view}
use Rattle.pungi_spelling.proofs.expr_levels.+levels.Given as goal

abbrev pub invariant-args-loop-e : goal.invariant-args-loop-e
invariant-args-loop-e l =
    args_ok (typedef_names (map item_view l.file)) (exprs_of (map expr_view (drop l.e-index l.list.items)))
    ≡ args_ok (typedef_names (map item_view l.file)) (exprs_of (map expr_view l.list.items))

abbrev pub invariant-fields-loop-f : goal.invariant-fields-loop-f
invariant-fields-loop-f l =
    fields_ok (typedef_names (map item_view l.file)) (fields_of (map field_view (drop l.f-index l.list.items)))
    ≡ fields_ok (typedef_names (map item_view l.file)) (fields_of (map field_view l.list.items))

abbrev pub invariant-some_declrs-loop-d : goal.invariant-some_declrs-loop-d
invariant-some_declrs-loop-d l =
    declrs_ok (typedef_names (map item_view l.file)) (declrs_of (map declr_view (drop l.d-index l.others)))
    ≡ some_declrs_ok (typedef_names (map item_view l.file)) (declrs_of (map declr_view l.list.items))

abbrev pub invariant-sizes-loop-size : goal.invariant-sizes-loop-size
invariant-sizes-loop-size l =
    sizes_ok (typedef_names (map item_view l.file)) (sizes_of (map optional_view (drop l.size-index l.list.items)))
    ≡ sizes_ok (typedef_names (map item_view l.file)) (sizes_of (map optional_view l.list.items))

abbrev pub invariant-param_decls-loop-d : goal.invariant-param_decls-loop-d
invariant-param_decls-loop-d l =
    param_decls_ok (typedef_names (map item_view l.file)) (param_decls_of (map param_decl_view
    (drop l.d-index l.list.items))) ≡ param_decls_ok (typedef_names (map item_view l.file))
    (param_decls_of (map param_decl_view l.list.items))
