use Rattle.std.proofs.Common.{◌≡◌, ◌*◌, ◌^◌, take}
use Rattle.pungi_domain.specs.Vectors.{at, row_sum, IsWithin}
use Rattle.pungi_affine.proofs.image.image_entry.Given as goal

abbrev pub invariant-loop-k : goal.invariant-loop-k
invariant-loop-k l = record {
  value : l.sum ≡ row_sum (take l.k l.row) (at l.entries);
  within : IsWithin (l.k * 2 ^ 94) l.sum;
}
