use Rattle.std.proofs.Common.{◌≡◌, ℕ, ◌<◌, [], get_or}
use Rattle.pungi_shape.specs.Forms.{unit}
use Rattle.pungi_shape.proofs.skips.are_units.Given as goal

abbrev pub invariant-loop-k : goal.invariant-loop-k
invariant-loop-k l = (i : ℕ) → i < l.k → get_or l.rows i [] ≡ unit l.width i
