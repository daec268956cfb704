use Rattle.pungi_summary.proofs.Grown.{AreGrownBelow}
use Rattle.pungi_summary.proofs.values.all_taken_in.Given as goal

abbrev pub invariant-loop-class : goal.invariant-loop-class
invariant-loop-class g l =
    AreGrownBelow g.D.Domain.least g.D.Domain.member g.D.Domain.width_of g.D.Domain.rank l.old l.added l.class l.values
    l.grew
