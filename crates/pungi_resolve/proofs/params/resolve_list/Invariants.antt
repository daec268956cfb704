use Rattle.std.proofs.Common.{◌≡◌, ◌++◌, drop, map}
use Rattle.pungi_resolve.specs.Functions.{param_kinds}
use Rattle.pungi_resolve.specs.Stmts.{with_params}
use Rattle.pungi_tree.specs.ExprView.{param_decl_view, param_decls_of}
use Rattle.pungi_resolve.specs.Sites.{site_of}
use Rattle.pungi_resolve.proofs.params.resolve_list.Given as goal

abbrev pub invariant-loop-p : goal.invariant-loop-p
invariant-loop-p g l = record {
  kinds :
      l.kinds.items ++ param_kinds (g.N.Lookup.env l.names).file.items (param_decls_of
      (map param_decl_view (drop l.p-index l.list.items)))
      ≡ param_kinds (g.N.Lookup.env l.names).file.items (param_decls_of (map param_decl_view l.list.items));
  after :
      with_params (site_of (g.N.Lookup.env l.names) l.walk l.around.result) (param_decls_of
      (map param_decl_view (drop l.p-index l.list.items)))
      ≡ with_params (site_of (g.N.Lookup.env l.names) l.fn.walk l.around.result)
      (param_decls_of (map param_decl_view l.list.items));
}
