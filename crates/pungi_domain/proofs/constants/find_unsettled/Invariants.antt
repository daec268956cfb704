use Rattle.pungi_domain.specs.Constants.{IsOnlyOpen}
use Rattle.pungi_domain.proofs.constants.find_unsettled.Given as goal

abbrev pub invariant-loop-i : goal.invariant-loop-i
invariant-loop-i l = IsOnlyOpen l.coefficients l.constants l.i l.found
