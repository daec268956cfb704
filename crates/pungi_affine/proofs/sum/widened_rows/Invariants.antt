use Rattle.std.proofs.Common.{◌≡◌, take, map}
use Rattle.pungi_affine.specs.Forms.{lines}
use Rattle.pungi_affine.proofs.sum.widened_rows.Given as goal

abbrev pub invariant-loop-row : goal.invariant-loop-row
invariant-loop-row l = map (λ g. g.entries.items) l.given.items ≡ map (λ x. x.entries) (lines (take l.row-index l.rows))
