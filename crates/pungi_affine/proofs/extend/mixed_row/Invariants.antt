use Rattle.std.proofs.Common.{◌≡◌, ◌<◌, ◌+◌, ◌^◌, ℕ, length}
use Rattle.pungi_domain.specs.Vectors.{at, IsWithin}
use Rattle.pungi_affine.specs.Mixes.{mixed_entry}
use Rattle.pungi_affine.specs.Rows.{row_entries}
use Rattle.pungi_affine.proofs.extend.mixed_row.Given as goal

abbrev pub invariant-loop-i : goal.invariant-loop-i
invariant-loop-i l = record {
  lengths : length l.entries.items ≡ l.i;
  each : (j : ℕ) → j < l.i → (at l.entries.items j ≡ mixed_entry l.u l.q (row_entries l.row) j)
      × IsWithin (2 ^ 126 + 2 ^ 91) (at l.entries.items j);
}
