use Rattle.std.proofs.Common.{◌≡◌, ◌<◌, ◌+◌, ◌^◌, ℕ, length}
use Rattle.pungi_domain.specs.Vectors.{at, IsWithin}
use Rattle.pungi_affine.specs.Forms.{line, lines}
use Rattle.pungi_affine.specs.Meets.{crossed_entry}
use Rattle.pungi_affine.proofs.meet.crossed_row.Given as goal

abbrev pub invariant-loop-i : goal.invariant-loop-i
invariant-loop-i l = record {
  lengths : length l.entries.items ≡ l.i;
  each : (j : ℕ) → j < l.i → (at l.entries.items j ≡ crossed_entry (at l.sums l.p) (line (lines l.rows) l.k)
      (at l.sums l.k) (line (lines l.rows) l.p) j) × IsWithin (2 ^ 126 + 2 ^ 91) (at l.entries.items j);
}
