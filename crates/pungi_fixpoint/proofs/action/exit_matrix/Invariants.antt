use Rattle.std.proofs.Common.{◌≡◌}
use Rattle.pungi_domain.specs.Builds.{exit_rows}
use Rattle.pungi_fixpoint.proofs.action.exit_matrix.Given as goal

abbrev pub invariant-loop-i : goal.invariant-loop-i
invariant-loop-i l = l.rows ≡ exit_rows l.width l.i
