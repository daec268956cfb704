use Rattle.pungi_emit.proofs.function.VarKinds.{level_added}
use Rattle.pungi_emit.proofs.function.var_kinds.add_temps.Goals as goal

pub loop-i-preserved : goal.loop-i-preserved
loop-i-preserved c =
    level_added c.loop-i._i c.args.kinds.now c.loop-i.kinds c.add_level.new.kinds c.loop-i.invariant
    c.in_ok-add_level.ensures
