use Rattle.std.proofs.Common.{◌≡◌, ◌++◌, drop, map}
use Rattle.pungi_resolved.specs.ActionView.{declared_view}
use Rattle.pungi_layout.specs.code.Sound.{AreDeclared}
use Rattle.pungi_layout.specs.code.StmtCode.{unset_code}
use Rattle.pungi_emit.proofs.stmt.decl.emit_unset.Given as goal

abbrev pub invariant-loop-reached : goal.invariant-loop-reached
invariant-loop-reached l = record {
  code : l.code ++ unset_code l.pos (map declared_view (drop l.reached-index l.list))
      ≡ l.initial.code ++ unset_code l.pos (map declared_view l.list);
  sound : AreDeclared l.locals (map declared_view (drop l.reached-index l.list));
}
