use Rattle.std.proofs.Common.{◌≡◌}
use Rattle.pungi_domain.specs.Builds.{source_rows}
use Rattle.pungi_fixpoint.proofs.action.source_matrix.Given as goal

abbrev pub invariant-loop-i : goal.invariant-loop-i
invariant-loop-i l = l.rows ≡ source_rows l.width l.i
