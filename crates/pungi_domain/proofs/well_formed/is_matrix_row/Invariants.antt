use Rattle.std.proofs.Common.{ℕ, ◌<◌}
use Rattle.pungi_domain.specs.WellFormed.{IsNew}
use Rattle.pungi_domain.proofs.well_formed.is_matrix_row.Given as goal

abbrev pub invariant-loop-k : goal.invariant-loop-k
invariant-loop-k l = (j : ℕ) → j < l.k → IsNew l.width l.row j
