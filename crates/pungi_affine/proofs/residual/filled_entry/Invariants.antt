use Rattle.std.proofs.Common.{◌≡◌, ◌*◌, ◌^◌, take}
use Rattle.pungi_domain.specs.Vectors.{at, IsWithin}
use Rattle.pungi_affine.specs.Forms.{lines, fill}
use Rattle.pungi_affine.proofs.residual.filled_entry.Given as goal

abbrev pub invariant-loop-row : goal.invariant-loop-row
invariant-loop-row l = record {
  value : l.sum ≡ fill (at l.v) (lines (take l.row-index l.rows)) l.i;
  within : IsWithin (l.row-index * 2 ^ 62) l.sum;
}
