use Rattle.std.proofs.Common.{pos, take}
use Rattle.pungi_affine.specs.Forms.{lines}
use Rattle.pungi_affine.specs.Meets.{AreSums}
use Rattle.pungi_affine.proofs.meet.row_sums.Given as goal

abbrev pub invariant-loop-row : goal.invariant-loop-row
invariant-loop-row l = AreSums (pos 1) l.coefficients (lines (take l.row-index l.rows)) l.sums.items
