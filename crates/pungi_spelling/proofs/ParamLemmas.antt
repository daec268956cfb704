-- Whether a list of parameters is empty.
use Rattle.std.proofs.Common.{◌≡◌, List, [], ◌∷◌, length, map, refl, arith}
use Rattle.std.specs.Prelude.{◌==◌}
use Rattle.std.proofs.lemmas.Bool.Decides.{nat_tests}
use Rattle.pungi_tree.specs.ExprLevels.{has_no_params}
use Rattle.pungi_tree.specs.ExprView.{param_decls_of, param_decl_view}
use Rattle.pungi_tree.specs.declared.params.ParamDecl.{ParamDecl}

pub has_no_params_is : (ds : List ParamDecl)
    → has_no_params (param_decls_of (map param_decl_view ds)) ≡ (length ds == 0)
has_no_params_is [] = refl
has_no_params_is (d ∷ ds) = grind (arith, nat_tests)
