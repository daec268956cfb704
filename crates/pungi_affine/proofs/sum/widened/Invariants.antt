use Rattle.std.proofs.Common.{◌≡◌, take}
use Rattle.pungi_affine.specs.Rows.{row_entries}
use Rattle.pungi_affine.proofs.sum.widened.Given as goal

abbrev pub invariant-loop-i : goal.invariant-loop-i
invariant-loop-i l = l.entries.items ≡ take l.i (row_entries l.row)
