use Rattle.std.proofs.Common.{take}
use Rattle.pungi_fixpoint.specs.Stages.{AreEntered}
use Rattle.pungi_fixpoint.proofs.stage.entered.Given as goal

abbrev pub invariant-loop-k : goal.invariant-loop-k
invariant-loop-k g l =
    AreEntered g.D.Domain.least g.D.Domain.member g.D.Domain.width_of l.widths (take l.k-index l.entries) l.values.items
