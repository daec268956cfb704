use Rattle.std.proofs.Common.{◌≡◌, ◌++◌, drop, map}
use Rattle.pungi_declared.specs.DeclaredView.{tag_view}
use Rattle.pungi_tree.specs.StmtView.{stmt_view, stmts_of}
use Rattle.pungi_types.specs.Tags.{stmts_tags}
use Rattle.pungi_declared.proofs.stmt_tags.+stmt_tags.Given as goal

abbrev pub invariant-stmts-loop-s : goal.invariant-stmts-loop-s
invariant-stmts-loop-s l =
    map tag_view l.out.items ++ stmts_tags (stmts_of (map stmt_view (drop l.s-index l.list.items)))
    ≡ map tag_view l.fn.out.items ++ stmts_tags (stmts_of (map stmt_view l.list.items))
