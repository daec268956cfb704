use Rattle.std.proofs.Common.{◌≡◌, take}
use Rattle.pungi_affine.specs.Forms.{lines}
use Rattle.pungi_affine.specs.Parts.{wide_lines}
use Rattle.pungi_affine.proofs.form.narrowed_rows.Given as goal

abbrev pub invariant-loop-row : goal.invariant-loop-row
invariant-loop-row l = lines l.kept.items ≡ wide_lines (take l.row-index l.rows)
