use Rattle.pungi_summary.proofs.Grown.{AreNoneBelow}
use Rattle.pungi_summary.proofs.values.no_vectors.Given as goal

abbrev pub invariant-loop-width : goal.invariant-loop-width
invariant-loop-width g l =
    AreNoneBelow g.D.Domain.least g.D.Domain.member g.D.Domain.width_of l.widths l.width-index l.values
