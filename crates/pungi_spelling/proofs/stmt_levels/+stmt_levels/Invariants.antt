use Rattle.std.proofs.Common.{◌≡◌, drop, map}
use Rattle.pungi_tree.specs.StmtLevels.{stmts_ok}
use Rattle.pungi_tree.specs.StmtView.{stmt_view, stmts_of}
use Rattle.pungi_tree.specs.UnitLevels.{typedef_names}
use Rattle.pungi_tree.specs.UnitView.{item_view}
use Rattle.pungi_spelling.proofs.stmt_levels.+stmt_levels.Given as goal

abbrev pub invariant-stmts-loop-s : goal.invariant-stmts-loop-s
invariant-stmts-loop-s l =
    stmts_ok (typedef_names (map item_view l.file)) (stmts_of (map stmt_view (drop l.s-index l.list.items)))
    ≡ stmts_ok (typedef_names (map item_view l.file)) (stmts_of (map stmt_view l.list.items))
