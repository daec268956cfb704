use Rattle.std.proofs.Common.{◌≡◌, ◌++◌, drop, map}
use Rattle.pungi_declared.specs.DeclaredView.{variable_view}
use Rattle.pungi_tree.specs.ExprView.{spec_view}
use Rattle.pungi_tree.specs.StmtView.{var_decl_view}
use Rattle.pungi_types.specs.Files.{decl_variables}
use Rattle.pungi_declared.proofs.items.put_variables.Given as goal

abbrev pub invariant-loop-var : goal.invariant-loop-var
invariant-loop-var l =
    map variable_view l.out.items ++ decl_variables (spec_view l.spec) (map var_decl_view
    (drop l.var-index l.vars.items)) ≡ map variable_view l.fn.out.items
    ++ decl_variables (spec_view l.spec) (map var_decl_view l.vars.items)
