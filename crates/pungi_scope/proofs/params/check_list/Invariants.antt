use Rattle.std.proofs.Common.{◌≡◌, drop, map}
use Rattle.pungi_types.specs.Findings.{least_from}
use Rattle.pungi_types.specs.Functions.{param_findings, after_params}
use Rattle.pungi_scope.specs.Frames.{frame_of}
use Rattle.pungi_tree.specs.ExprView.{param_decl_view, param_decls_of}
use Rattle.pungi_scope.proofs.params.check_list.Given as goal

abbrev pub invariant-loop-p : goal.invariant-loop-p
invariant-loop-p g l = record {
  found :
      least_from l.walk.first (param_findings (frame_of (g.N.Lookup.env l.names) l.walk l.block.keys l.around)
      (param_decls_of (map param_decl_view (drop l.p-index l.list.items))))
      ≡ least_from l.fn.walk.first (param_findings (frame_of (g.N.Lookup.env l.names) l.fn.walk l.fn.block.keys
      l.around) (param_decls_of (map param_decl_view l.list.items)));
  frame :
      after_params (frame_of (g.N.Lookup.env l.names) l.walk l.block.keys l.around)
      (param_decls_of (map param_decl_view (drop l.p-index l.list.items)))
      ≡ after_params (frame_of (g.N.Lookup.env l.names) l.fn.walk l.fn.block.keys l.around)
      (param_decls_of (map param_decl_view l.list.items));
}
