use Rattle.std.proofs.Common.{◌≡◌, drop, map}
use Rattle.pungi_tree.specs.StmtLevels.{vars_ok, some_vars_ok}
use Rattle.pungi_tree.specs.StmtView.{var_decl_view}
use Rattle.pungi_tree.specs.UnitLevels.{typedef_names}
use Rattle.pungi_tree.specs.UnitView.{item_view}
use Rattle.pungi_spelling.proofs.stmt_levels.some_vars.Given as goal

abbrev pub invariant-loop-v : goal.invariant-loop-v
invariant-loop-v l =
    vars_ok (typedef_names (map item_view l.file)) (map var_decl_view (drop l.v-index l.others))
    ≡ some_vars_ok (typedef_names (map item_view l.file)) (map var_decl_view l.list.items)
