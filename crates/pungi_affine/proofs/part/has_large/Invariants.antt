use Rattle.std.proofs.Common.{ℕ, ◌<◌}
use Rattle.pungi_domain.specs.Vectors.{at}
use Rattle.pungi_affine.specs.Forms.{IsBox}
use Rattle.pungi_affine.proofs.part.has_large.Given as goal

abbrev pub invariant-loop-i : goal.invariant-loop-i
invariant-loop-i l = (j : ℕ) → j < l.i → IsBox (at l.entries j)
