use Rattle.std.proofs.Common.{◌≡◌, ◌<◌, ℕ, length}
use Rattle.pungi_domain.specs.Vectors.{at}
use Rattle.pungi_affine.specs.Forms.{line, lines}
use Rattle.pungi_affine.specs.Parts.{wide_lines}
use Rattle.pungi_affine.specs.Meets.{IsCrossed}
use Rattle.pungi_affine.proofs.meet.crossed_rows.Given as goal

abbrev pub invariant-loop-k : goal.invariant-loop-k
invariant-loop-k l = record {
  count : length (wide_lines l.crosses.items) ≡ l.k;
  each : (j : ℕ) → j < l.k → IsCrossed (at l.sums l.p) (line (lines l.rows) j) (at l.sums j)
      (line (lines l.rows) l.p) (line (wide_lines l.crosses.items) j);
}
