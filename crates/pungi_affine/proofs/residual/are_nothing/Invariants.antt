use Rattle.std.proofs.Common.{◌≡◌, ◌<◌, ℕ, pos}
use Rattle.pungi_domain.specs.Vectors.{at}
use Rattle.pungi_affine.specs.Forms.{lines}
use Rattle.pungi_affine.specs.Steps.{residual}
use Rattle.pungi_affine.proofs.residual.are_nothing.Given as goal

abbrev pub invariant-loop-i : goal.invariant-loop-i
invariant-loop-i l = (j : ℕ) → j < l.i → residual l.d (lines l.rows) (at l.v) j ≡ pos 0
