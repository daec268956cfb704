use Rattle.std.proofs.Common.{◌≡◌, ◌++◌, drop, map}
use Rattle.pungi_tree.specs.StmtView.{var_decl_view}
use Rattle.pungi_tree.specs.StmtFlat.{vars_flat, more_vars_flat}
use Rattle.pungi_spelling.proofs.stmt_flat.vars.Given as goal

abbrev pub invariant-loop-v : goal.invariant-loop-v
invariant-loop-v l =
    l.out.items ++ more_vars_flat (map var_decl_view (drop l.v-index l.others))
    ≡ l.fn.out.items ++ vars_flat (map var_decl_view l.fn.list.items)
