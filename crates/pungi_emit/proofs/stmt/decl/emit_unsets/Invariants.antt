use Rattle.std.proofs.Common.{◌≡◌, ◌++◌, drop, map}
use Rattle.pungi_resolved.specs.ActionView.{action_view, actions_of}
use Rattle.pungi_meaning.specs.Work.{block_locals}
use Rattle.pungi_layout.specs.code.Sound.{AreStmtsSound}
use Rattle.pungi_layout.specs.code.StmtCode.{unset_code}
use Rattle.pungi_emit.proofs.stmt.decl.emit_unsets.Given as goal

abbrev pub invariant-loop-action : goal.invariant-loop-action
invariant-loop-action l = record {
  code : l.code ++ unset_code l.pos (block_locals (map action_view (drop l.action-index l.list)))
      ≡ l.initial.code ++ unset_code l.pos (block_locals (map action_view l.list));
  sound : AreStmtsSound l.locals (actions_of (map action_view (drop l.action-index l.list)));
}
