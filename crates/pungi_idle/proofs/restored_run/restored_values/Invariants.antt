use Rattle.std.proofs.Common.{◌≡◌, ◌+◌, ◌++◌, drop}
use Rattle.pungi_idle.specs.RestoredRun.{restored_values}
use Rattle.pungi_idle.proofs.restored_run.restored_values.Given as goal

abbrev pub invariant-loop-i : goal.invariant-loop-i
invariant-loop-i l =
    l.out.items ++ restored_values l.objects (l.statics + l.i) (drop l.i l.kinds) (drop l.i l.values)
    ≡ restored_values l.objects l.statics l.kinds l.values
