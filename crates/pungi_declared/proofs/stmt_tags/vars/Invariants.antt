use Rattle.std.proofs.Common.{◌≡◌, ◌++◌, drop, map}
use Rattle.pungi_declared.specs.DeclaredView.{tag_view}
use Rattle.pungi_tree.specs.StmtView.{var_decl_view}
use Rattle.pungi_types.specs.Tags.{vars_tags}
use Rattle.pungi_declared.proofs.stmt_tags.vars.Given as goal

abbrev pub invariant-loop-var : goal.invariant-loop-var
invariant-loop-var l =
    map tag_view l.out.items ++ vars_tags (map var_decl_view (drop l.var-index l.list.items))
    ≡ map tag_view l.fn.out.items ++ vars_tags (map var_decl_view l.list.items)
