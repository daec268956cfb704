use Rattle.std.proofs.Common.{◌≡◌, ◌+◌, ◌*◌, ◌^◌, take}
use Rattle.pungi_domain.specs.Vectors.{IsWithin, dot, at}
use Rattle.pungi_affine.specs.Mixes.{IsNarrow}
use Rattle.pungi_affine.specs.Rows.{row_entries}
use Rattle.pungi_affine.proofs.row.dot_product.Given as goal

abbrev pub invariant-loop-i : goal.invariant-loop-i
invariant-loop-i l = record {
  value : l.sum ≡ dot (take l.i l.coefficients) (at (row_entries l.row));
  within : IsWithin (l.i * 2 ^ 94) l.sum;
  tight : IsNarrow l.coefficients → IsWithin (2 ^ 94 + l.i * 2 ^ 51) l.sum;
}
