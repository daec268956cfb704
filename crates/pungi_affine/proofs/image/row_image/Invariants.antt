use Rattle.std.proofs.Common.{◌≡◌, ◌<◌, ◌^◌, ℕ, length}
use Rattle.pungi_domain.specs.Vectors.{at, image, IsWithin}
use Rattle.pungi_affine.proofs.image.row_image.Given as goal

abbrev pub invariant-loop-i : goal.invariant-loop-i
invariant-loop-i l = record {
  lengths : length l.entries.items ≡ l.i;
  each : (j : ℕ) → j < l.i → (at l.entries.items j ≡ image l.matrix (at l.kept) j)
      × IsWithin (2 ^ 126) (at l.entries.items j);
}
