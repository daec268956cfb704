use Rattle.std.proofs.Common.{◌≡◌, ◌++◌, drop, map}
use Rattle.pungi_tree.specs.ExprView.{expr_view, exprs_of, field_view, fields_of, declr_view, declrs_of, optional_view}
use Rattle.pungi_tree.specs.ExprView.{sizes_of, param_decl_view, param_decls_of}
use Rattle.pungi_tree.specs.ExprFlat.{args_flat, more_args_flat, fields_flat, declrs_flat, more_declrs_flat, sizes_flat}
use Rattle.pungi_tree.specs.ExprFlat.{param_decls_flat, more_param_decls_flat}
use Rattle.pungi_spelling.proofs.expr_flat.+flat.Given as goal

abbrev pub invariant-args-loop-e : goal.invariant-args-loop-e
invariant-args-loop-e l =
    l.out.items ++ more_args_flat (exprs_of (map expr_view (drop l.e-index l.others)))
    ≡ l.fn.out.items ++ args_flat (exprs_of (map expr_view l.fn.list.items))

abbrev pub invariant-declrs-loop-d : goal.invariant-declrs-loop-d
invariant-declrs-loop-d l =
    l.out.items ++ more_declrs_flat (declrs_of (map declr_view (drop l.d-index l.others)))
    ≡ l.fn.out.items ++ declrs_flat (declrs_of (map declr_view l.fn.list.items))

abbrev pub invariant-fields-loop-f : goal.invariant-fields-loop-f
invariant-fields-loop-f l =
    l.out.items ++ fields_flat (fields_of (map field_view (drop l.f-index l.list.items)))
    ≡ l.fn.out.items ++ fields_flat (fields_of (map field_view l.list.items))

abbrev pub invariant-param_decls-loop-d : goal.invariant-param_decls-loop-d
invariant-param_decls-loop-d l =
    l.out.items ++ more_param_decls_flat (param_decls_of (map param_decl_view (drop l.d-index l.others)))
    ≡ l.fn.out.items ++ param_decls_flat (param_decls_of (map param_decl_view l.fn.list.items))

abbrev pub invariant-sizes-loop-size : goal.invariant-sizes-loop-size
invariant-sizes-loop-size l =
    l.out.items ++ sizes_flat (sizes_of (map optional_view (drop l.size-index l.list.items)))
    ≡ l.fn.out.items ++ sizes_flat (sizes_of (map optional_view l.list.items))
