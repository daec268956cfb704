use Rattle.std.proofs.Common.{◌≡◌, ◌++◌, drop, map}
use Rattle.pungi_tree.specs.StmtView.{stmt_view, stmts_of}
use Rattle.pungi_check.specs.Calls.{stmts_calls}
use Rattle.pungi_check.proofs.calls.+stmt_calls.Given as goal

abbrev pub invariant-stmts-loop-s : goal.invariant-stmts-loop-s
invariant-stmts-loop-s l =
    l.out.items ++ stmts_calls (stmts_of (map stmt_view (drop l.s-index l.list.items)))
    ≡ l.fn.out.items ++ stmts_calls (stmts_of (map stmt_view l.list.items))
