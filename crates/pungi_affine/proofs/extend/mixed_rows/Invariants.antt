use Rattle.std.proofs.Common.{take}
use Rattle.pungi_affine.specs.Forms.{lines}
use Rattle.pungi_affine.specs.Parts.{wide_lines}
use Rattle.pungi_affine.specs.Mixes.{AreMixed}
use Rattle.pungi_affine.proofs.extend.mixed_rows.Given as goal

abbrev pub invariant-loop-row : goal.invariant-loop-row
invariant-loop-row l = AreMixed l.u l.q (lines (take l.row-index l.rows)) (wide_lines l.mixes.items)
