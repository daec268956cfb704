use Rattle.std.proofs.Common.{◌≡◌, drop, map}
use Rattle.pungi_types.specs.Findings.{least_from}
use Rattle.pungi_types.specs.Stmts.{vars_findings, after_vars}
use Rattle.pungi_scope.specs.Frames.{frame_of}
use Rattle.pungi_tree.specs.ExprView.{spec_view}
use Rattle.pungi_tree.specs.StmtView.{var_decl_view}
use Rattle.pungi_scope.proofs.decl.check_vars.Given as goal

abbrev pub invariant-loop-var : goal.invariant-loop-var
invariant-loop-var g l = record {
  found :
      least_from l.walk.first (vars_findings (frame_of (g.N.Lookup.env l.names) l.walk l.block.keys l.around)
      l.quals.items (spec_view l.spec) (map var_decl_view (drop l.var-index l.list.items)))
      ≡ least_from l.fn.walk.first (vars_findings (frame_of (g.N.Lookup.env l.names) l.fn.walk l.fn.block.keys
      l.around) l.quals.items (spec_view l.spec) (map var_decl_view l.list.items));
  frame :
      after_vars (frame_of (g.N.Lookup.env l.names) l.walk l.block.keys l.around) (spec_view l.spec)
      (map var_decl_view (drop l.var-index l.list.items))
      ≡ after_vars (frame_of (g.N.Lookup.env l.names) l.fn.walk l.fn.block.keys l.around) (spec_view l.spec)
      (map var_decl_view l.list.items);
}
