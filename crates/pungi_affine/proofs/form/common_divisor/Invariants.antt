use Rattle.std.proofs.Common.{pos, take}
use Rattle.pungi_affine.specs.Divisors.{IsShared}
use Rattle.pungi_affine.specs.Parts.{wide_lines}
use Rattle.pungi_affine.proofs.form.common_divisor.Given as goal

abbrev pub invariant-loop-row : goal.invariant-loop-row
invariant-loop-row l = IsShared l.form.scale (wide_lines (take l.row-index l.rows)) (pos l.common)
