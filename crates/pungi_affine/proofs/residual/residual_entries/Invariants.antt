use Rattle.std.proofs.Common.{◌≡◌, ◌<◌, ◌^◌, ℕ, length}
use Rattle.pungi_domain.specs.Vectors.{at, IsWithin}
use Rattle.pungi_affine.specs.Forms.{lines}
use Rattle.pungi_affine.specs.Steps.{residual}
use Rattle.pungi_affine.proofs.residual.residual_entries.Given as goal

abbrev pub invariant-loop-i : goal.invariant-loop-i
invariant-loop-i l = record {
  lengths : length l.left.items ≡ l.i;
  each : (j : ℕ) → j < l.i → (at l.left.items j ≡ residual l.d (lines l.rows) (at l.v) j)
      × IsWithin (2 ^ 71) (at l.left.items j);
}
