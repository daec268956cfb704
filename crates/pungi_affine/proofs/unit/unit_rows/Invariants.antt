use Rattle.std.proofs.Common.{◌≡◌, ◌<◌, ℕ, length}
use Rattle.pungi_affine.specs.Forms.{line, lines}
use Rattle.pungi_affine.specs.Units.{IsUnitLine}
use Rattle.pungi_affine.proofs.unit.unit_rows.Given as goal

abbrev pub invariant-loop-c : goal.invariant-loop-c
invariant-loop-c l = record {
  count : length (lines l.rows.items) ≡ l.c;
  each : (j : ℕ) → j < l.c → IsUnitLine l.width j (line (lines l.rows.items) j);
}
