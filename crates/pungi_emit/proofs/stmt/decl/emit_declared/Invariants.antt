use Rattle.std.proofs.Common.{◌≡◌, ◌+◌, ◌<◌, ◌≤◌, ◌^◌, ◌++◌, length, drop, map}
use Rattle.pungi_resolved.specs.ActionView.{declared_view}
use Rattle.pungi_code.specs.Limits.{most_instructions}
use Rattle.pungi_layout.specs.code.Sizes.{declare_size}
use Rattle.pungi_layout.specs.code.Sound.{AreDeclared, declare_nodes}
use Rattle.pungi_layout.specs.code.StmtCode.{declare_code}
use Rattle.pungi_emit.proofs.stmt.decl.emit_declared.Given as goal

abbrev pub invariant-loop-reached : goal.invariant-loop-reached
invariant-loop-reached l = record {
  code :
      l.code ++ declare_code l.around.locals (length l.code) (map declared_view (drop l.reached-index l.list))
      ≡ l.initial.code ++ declare_code l.around.locals (length l.initial.code) (map declared_view l.list);
  sound : AreDeclared l.around.locals (map declared_view (drop l.reached-index l.list));
  few : declare_nodes (map declared_view (drop l.reached-index l.list)) < 2 ^ 16;
  long : length l.code + declare_size (map declared_view (drop l.reached-index l.list)) ≤ most_instructions;
}
