use Rattle.std.proofs.Common.{take}
use Rattle.pungi_affine.specs.Parts.{wide_lines}
use Rattle.pungi_affine.specs.WideForms.{AreQuotients}
use Rattle.pungi_affine.proofs.form.divided_rows.Given as goal

abbrev pub invariant-loop-row : goal.invariant-loop-row
invariant-loop-row l = AreQuotients l.g (wide_lines (take l.row-index l.rows)) (wide_lines l.quotients.items)
