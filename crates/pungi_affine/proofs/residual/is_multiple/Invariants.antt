use Rattle.std.proofs.Common.{◌≡◌, ◌<◌, ◌*ℤ◌, ℕ}
use Rattle.pungi_domain.specs.Vectors.{at}
use Rattle.pungi_affine.specs.Forms.{line, lines}
use Rattle.pungi_affine.proofs.residual.is_multiple.Given as goal

abbrev pub invariant-loop-i : goal.invariant-loop-i
invariant-loop-i l = (j : ℕ) → j < l.i
    → l.d *ℤ at l.v j ≡ at l.v (line (lines l.rows) l.k).pivot *ℤ at (line (lines l.rows) l.k).entries j
