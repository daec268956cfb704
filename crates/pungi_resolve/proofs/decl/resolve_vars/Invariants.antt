use Rattle.std.proofs.Common.{◌≡◌, ◌++◌, drop, map}
use Rattle.pungi_resolve.specs.Stmts.{declared_locals as reached_in, with_vars}
use Rattle.pungi_tree.specs.ExprView.{spec_view}
use Rattle.pungi_tree.specs.StmtView.{var_decl_view}
use Rattle.pungi_resolved.specs.ActionView.{declared_view}
use Rattle.pungi_resolve.specs.Sites.{site_of}
use Rattle.pungi_resolve.specs.SoundActions.{AreSoundLocals}
use Rattle.pungi_resolve.proofs.decl.resolve_vars.Given as goal

abbrev pub invariant-loop-var : goal.invariant-loop-var
invariant-loop-var g l = record {
  reached :
      map declared_view l.locals.items
      ++ reached_in (site_of (g.N.Lookup.env l.names) l.walk l.around.result) (spec_view l.spec)
      (map var_decl_view (drop l.var-index l.list.items))
      ≡ reached_in (site_of (g.N.Lookup.env l.names) l.fn.walk l.around.result) (spec_view l.spec)
      (map var_decl_view l.list.items);
  sound : AreSoundLocals (reached_in (site_of (g.N.Lookup.env l.names) l.walk l.around.result) (spec_view l.spec)
      (map var_decl_view (drop l.var-index l.list.items)));
  after :
      with_vars (site_of (g.N.Lookup.env l.names) l.walk l.around.result) (spec_view l.spec)
      (map var_decl_view (drop l.var-index l.list.items))
      ≡ with_vars (site_of (g.N.Lookup.env l.names) l.fn.walk l.around.result) (spec_view l.spec)
      (map var_decl_view l.list.items);
}
