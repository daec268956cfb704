use Rattle.std.proofs.Common.{◌≡◌, ℕ, ◌<◌, pos}
use Rattle.pungi_domain.specs.Vectors.{at}
use Rattle.pungi_affine.proofs.part.first_entry.Given as goal

abbrev pub invariant-loop-i : goal.invariant-loop-i
invariant-loop-i l = (j : ℕ) → j < l.i → at l.entries j ≡ pos 0
