use Rattle.std.proofs.Common.{◌≡◌, take}
use Rattle.pungi_affine.specs.Forms.{lines}
use Rattle.pungi_affine.proofs.span.copied_rows.Given as goal

abbrev pub invariant-loop-row : goal.invariant-loop-row
invariant-loop-row l = lines l.copies.items ≡ lines (take l.row-index l.rows)
