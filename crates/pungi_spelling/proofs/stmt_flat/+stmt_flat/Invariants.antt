use Rattle.std.proofs.Common.{◌≡◌, ◌++◌, drop, map}
use Rattle.pungi_tree.specs.StmtView.{stmt_view, stmts_of}
use Rattle.pungi_tree.specs.StmtFlat.{stmts_flat}
use Rattle.pungi_spelling.proofs.stmt_flat.+stmt_flat.Given as goal

abbrev pub invariant-stmts-loop-s : goal.invariant-stmts-loop-s
invariant-stmts-loop-s l =
    l.out.items ++ stmts_flat (stmts_of (map stmt_view (drop l.s-index l.list.items)))
    ≡ l.fn.out.items ++ stmts_flat (stmts_of (map stmt_view l.list.items))
