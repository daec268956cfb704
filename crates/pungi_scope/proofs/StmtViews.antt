-- The tree that a `for` stands for.
use Rattle.std.proofs.Common.{◌≡◌, rules}
use Rattle.pungi_tree.specs.ExprView.{optional_view}
use Rattle.pungi_tree.specs.StmtView.{stmt_view, for_start_view}
use Rattle.pungi_tree.specs.Syntax as plain
use Rattle.pungi_tree.specs.declared.stmt.ForHead.{ForHead}
use Rattle.pungi_tree.specs.declared.stmt.Stmt.{Stmt}
use Rattle.pungi_tree.specs.declared.stmt.StmtNode.TheVariants.{For}
use Rattle.pungi_tree.specs.declared.stmt.StmtNode.TheViews.{the_lemmas}
use Rattle.pungi_tree.specs.declared.stmt.StmtNode.TheFolds.{fold_out-Stmt, fold_out-StmtNode, fold-roll-StmtNode}
use Rattle.pungi_tree.specs.declared.stmt.StmtNode.TheFolds.{fold-roll-Stmt}
use Rattle.std.specs.declared.alloc.Global.{Global}
use Rattle.std.specs.declared.boxed.Box.{Box as Boxed}

pub stmt_view-for : (s : Stmt) (h : Boxed ForHead Global) (body : Boxed Stmt Global) → s.node ≡ For h body
    → stmt_view s ≡ plain.for s.pos (for_start_view h.value.start) (optional_view h.value.test)
    (optional_view h.value.step) (stmt_view body.value)
stmt_view-for s h body e =
    search (rules, the_lemmas, fold_out-Stmt, fold_out-StmtNode, fold-roll-StmtNode, fold-roll-Stmt)
