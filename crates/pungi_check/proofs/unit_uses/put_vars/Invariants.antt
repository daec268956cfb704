use Rattle.std.proofs.Common.{◌≡◌, ◌++◌, drop, map}
use Rattle.pungi_check.specs.UsesView.{name_use_view}
use Rattle.pungi_names.specs.NamesView.{file_of}
use Rattle.pungi_tree.specs.ExprView.{spec_view}
use Rattle.pungi_tree.specs.StmtView.{var_decl_view}
use Rattle.pungi_check.specs.Duplicates.{vars_uses}
use Rattle.pungi_check.proofs.unit_uses.put_vars.Given as goal

abbrev pub invariant-loop-var : goal.invariant-loop-var
invariant-loop-var l =
    map name_use_view l.out.items ++ vars_uses (file_of l.names).items (spec_view l.spec)
    (map var_decl_view (drop l.var-index l.vars.items))
    ≡ map name_use_view l.fn.out.items ++ vars_uses (file_of l.names).items (spec_view l.spec)
    (map var_decl_view l.vars.items)
