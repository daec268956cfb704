use Rattle.std.proofs.Common.{◌≡◌, ◌++◌, drop, map}
use Rattle.pungi_resolved.specs.ActionView.{declared_view}
use Rattle.pungi_layout.specs.code.VarKinds.{kind_held}
use Rattle.pungi_emit.proofs.function.var_kinds.add_declared.Given as goal

abbrev pub invariant-loop-reached : goal.invariant-loop-reached
invariant-loop-reached l =
    l.kinds ++ map kind_held (map declared_view (drop l.reached-index l.list))
    ≡ l.initial.kinds ++ map kind_held (map declared_view l.list)
