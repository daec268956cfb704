use Rattle.std.proofs.Common.{◌∙◌, sym}
use Rattle.pungi_tree.specs.ExprView.{expr_view}
use Rattle.pungi_types.specs.Exprs.{kind_of}
use Rattle.pungi_resolve.specs.Exprs.{resolve}
use Rattle.pungi_scope.specs.ScopeEnv.{inner_env}
use Rattle.pungi_resolve.proofs.SoundParts.{convert-same}
use Rattle.pungi_resolve.proofs.values.value_as.Goals as goal

pub resolve_expr-requires : goal.resolve_expr-requires
resolve_expr-requires g c =
    let env = inner_env (g.N.Lookup.env c.args.names.now) c.args.walk.now.locals in
    let e = expr_view c.args.e.now in
    sym (convert-same c.args.pos c.args.kind (kind_of env e) (resolve env e)) ∙ c.requires
