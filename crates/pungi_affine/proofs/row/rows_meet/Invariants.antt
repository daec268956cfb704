use Rattle.std.proofs.Common.{◌≡◌, ◌<◌, ℕ, pos}
use Rattle.pungi_domain.specs.Vectors.{at, dot}
use Rattle.pungi_affine.specs.Forms.{line, lines}
use Rattle.pungi_affine.proofs.row.rows_meet.Given as goal

abbrev pub invariant-loop-k : goal.invariant-loop-k
invariant-loop-k l = (j : ℕ) → j < l.k → dot l.coefficients (at (line (lines l.rows) j).entries) ≡ pos 0
