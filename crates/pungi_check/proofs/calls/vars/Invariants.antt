use Rattle.std.proofs.Common.{◌≡◌, ◌++◌, drop, map}
use Rattle.pungi_tree.specs.StmtView.{var_decl_view}
use Rattle.pungi_check.specs.Calls.{vars_calls}
use Rattle.pungi_check.proofs.calls.vars.Given as goal

abbrev pub invariant-loop-var : goal.invariant-loop-var
invariant-loop-var l =
    l.out.items ++ vars_calls (map var_decl_view (drop l.var-index l.list.items))
    ≡ l.fn.out.items ++ vars_calls (map var_decl_view l.list.items)
