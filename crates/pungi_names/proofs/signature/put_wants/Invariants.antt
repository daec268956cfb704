use Rattle.std.proofs.Common.{◌≡◌, ◌++◌, drop, map}
use Rattle.pungi_tree.specs.ExprView.{param_decl_view, param_decls_of}
use Rattle.pungi_tree.specs.UnitView.{unit_view}
use Rattle.pungi_types.specs.Calls.{param_wants}
use Rattle.pungi_names.proofs.signature.put_wants.Given as goal

abbrev pub invariant-loop-param : goal.invariant-loop-param
invariant-loop-param l =
    l.wants.items ++ param_wants (unit_view l.kinds.cores.unit.now) (param_decls_of
    (map param_decl_view (drop l.param-index l.params.items)))
    ≡ l.fn.wants.items ++ param_wants (unit_view l.kinds.cores.unit.now) (param_decls_of
    (map param_decl_view l.params.items))
