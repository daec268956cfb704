use Rattle.std.proofs.Common.{ℕ, ◌<◌, ◌^◌}
use Rattle.pungi_domain.specs.Vectors.{at, IsWithin}
use Rattle.pungi_domain.proofs.well_formed.is_equation.Given as goal

abbrev pub invariant-loop-i : goal.invariant-loop-i
invariant-loop-i l = (j : ℕ) → 0 < j → j < l.i → IsWithin (2 ^ 20) (at l.coefficients j)
