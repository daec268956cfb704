use Rattle.std.proofs.Common.{◌≡◌, drop, map}
use Rattle.pungi_types.specs.Findings.{least_from}
use Rattle.pungi_types.specs.Stmts.{stmts_findings, after_stmts}
use Rattle.pungi_scope.specs.Frames.{frame_of}
use Rattle.pungi_tree.specs.StmtView.{stmt_view, stmts_of}
use Rattle.pungi_scope.proofs.stmt.+stmt.Given as goal

abbrev pub invariant-check_list-loop-s : goal.invariant-check_list-loop-s
invariant-check_list-loop-s g l = record {
  found :
      least_from l.walk.first (stmts_findings (frame_of (g.N.Lookup.env l.names) l.walk l.block.keys l.around)
      (stmts_of (map stmt_view (drop l.s-index l.list.items))))
      ≡ least_from l.fn.walk.first (stmts_findings (frame_of (g.N.Lookup.env l.names) l.fn.walk l.fn.block.keys
      l.around) (stmts_of (map stmt_view l.list.items)));
  frame :
      after_stmts (frame_of (g.N.Lookup.env l.names) l.walk l.block.keys l.around)
      (stmts_of (map stmt_view (drop l.s-index l.list.items)))
      ≡ after_stmts (frame_of (g.N.Lookup.env l.names) l.fn.walk l.fn.block.keys l.around)
      (stmts_of (map stmt_view l.list.items));
}
