use Rattle.std.proofs.Common.{◌≡◌, ◌++◌, drop, map}
use Rattle.pungi_tree.specs.ExprView.{expr_view, exprs_of}
use Rattle.pungi_check.specs.Calls.{exprs_calls}
use Rattle.pungi_check.proofs.calls.+expr_calls.Given as goal

abbrev pub invariant-exprs-loop-e : goal.invariant-exprs-loop-e
invariant-exprs-loop-e l =
    l.out.items ++ exprs_calls (exprs_of (map expr_view (drop l.e-index l.list.items)))
    ≡ l.fn.out.items ++ exprs_calls (exprs_of (map expr_view l.list.items))
