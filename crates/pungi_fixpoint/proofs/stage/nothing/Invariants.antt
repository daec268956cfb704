use Rattle.pungi_fixpoint.proofs.Stages.{NothingBelow}
use Rattle.pungi_fixpoint.proofs.stage.nothing.Given as goal

abbrev pub invariant-loop-width : goal.invariant-loop-width
invariant-loop-width g l =
    NothingBelow g.D.Domain.least g.D.Domain.member g.D.Domain.width_of l.widths l.width-index l.values.items
