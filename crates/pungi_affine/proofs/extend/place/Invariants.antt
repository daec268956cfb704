use Rattle.std.proofs.Common.{ℕ, ◌<◌}
use Rattle.pungi_affine.specs.Forms.{line, lines}
use Rattle.pungi_affine.proofs.extend.place.Given as goal

abbrev pub invariant-loop-k : goal.invariant-loop-k
invariant-loop-k l = (j : ℕ) → j < l.k → (line (lines l.rows) j).pivot < l.q
