use Rattle.std.proofs.Common.{take}
use Rattle.pungi_domain.specs.Vectors.{IsMatrix}
use Rattle.pungi_domain.proofs.well_formed.is_matrix.Given as goal

abbrev pub invariant-loop-row : goal.invariant-loop-row
invariant-loop-row l = IsMatrix l.width (take l.row-index l.rows)
