use Rattle.std.proofs.Common.{ℕ, ◌<◌}
use Rattle.pungi_affine.specs.Forms.{line, WithinBox}
use Rattle.pungi_affine.specs.Parts.{wide_lines}
use Rattle.pungi_affine.proofs.form.large_row.Given as goal

abbrev pub invariant-loop-k : goal.invariant-loop-k
invariant-loop-k l = (j : ℕ) → j < l.k → WithinBox (line (wide_lines l.rows) j).entries
