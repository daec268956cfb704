use Rattle.pungi_domain.specs.Constants.{AreJoinedBelow}
use Rattle.pungi_domain.proofs.constants.join.Given as goal

abbrev pub invariant-loop-i : goal.invariant-loop-i
invariant-loop-i l = AreJoinedBelow l.initial.constants l.others l.i l.constants l.changed
