use Rattle.std.proofs.Common.{◌≡◌, ◌++◌}
use Rattle.pungi_layout.specs.code.VarKinds.{temp_kinds}
use Rattle.pungi_emit.proofs.function.var_kinds.add_temps.Given as goal

abbrev pub invariant-loop-i : goal.invariant-loop-i
invariant-loop-i l = l.kinds ≡ l.initial.kinds ++ temp_kinds l._i
