use Rattle.std.proofs.Common.{◌≡◌, max, drop, map}
use Rattle.pungi_tree.specs.StmtView.{var_decl_view}
use Rattle.pungi_tree.specs.ExprDepth.{capped}
use Rattle.pungi_tree.specs.StmtDepth.{vars_depth}
use Rattle.pungi_spelling.proofs.stmt_depth.vars.Given as goal

abbrev pub invariant-loop-v : goal.invariant-loop-v
invariant-loop-v l =
    max l.deepest (capped (vars_depth (map var_decl_view (drop l.v-index l.list.items))))
    ≡ capped (vars_depth (map var_decl_view l.list.items))
