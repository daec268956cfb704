use Rattle.std.proofs.Common.{◌≡◌, drop, map}
use Rattle.pungi_resolve.specs.Stmts.{actions as actions_in}
use Rattle.pungi_tree.specs.StmtView.{stmt_view, stmts_of}
use Rattle.pungi_resolved.specs.ActionView.{action_view}
use Rattle.pungi_resolve.specs.Sites.{site_of, after_all}
use Rattle.pungi_resolve.specs.SoundActions.{AreSoundActions}
use Rattle.pungi_resolve.proofs.ListLemmas.{actions_before}
use Rattle.pungi_resolve.proofs.stmt.+stmt.Given as goal

abbrev pub invariant-resolve_list-loop-s : goal.invariant-resolve_list-loop-s
invariant-resolve_list-loop-s g l = record {
  actions :
      actions_before (map action_view l.found.items) (actions_in (site_of (g.N.Lookup.env l.names) l.walk
      l.around.result) (stmts_of (map stmt_view (drop l.s-index l.list.items))))
      ≡ actions_in (site_of (g.N.Lookup.env l.names) l.fn.walk l.around.result) (stmts_of (map stmt_view l.list.items));
  sound : AreSoundActions (actions_in (site_of (g.N.Lookup.env l.names) l.walk l.around.result)
      (stmts_of (map stmt_view (drop l.s-index l.list.items))));
  after :
      after_all (site_of (g.N.Lookup.env l.names) l.walk l.around.result) (stmts_of
      (map stmt_view (drop l.s-index l.list.items)))
      ≡ after_all (site_of (g.N.Lookup.env l.names) l.fn.walk l.around.result) (stmts_of (map stmt_view l.list.items));
}
