use Rattle.std.proofs.Common.{◌≡◌, ◌<◌, ◌+◌, ◌^◌, ◌*ℤ◌, ℕ, length}
use Rattle.pungi_domain.specs.Vectors.{at, IsWithin}
use Rattle.pungi_affine.proofs.extend.multiple.Given as goal

abbrev pub invariant-loop-i : goal.invariant-loop-i
invariant-loop-i l = record {
  lengths : length l.entries.items ≡ l.i;
  each : (j : ℕ) → j < l.i → (at l.entries.items j ≡ l.d *ℤ at l.u j)
      × IsWithin (2 ^ 125 + 2 ^ 90) (at l.entries.items j);
}
