use Rattle.std.proofs.Common.{◌≡◌, ◌*◌, ◌^◌, take}
use Rattle.pungi_domain.specs.Vectors.{IsWithin, dot}
use Rattle.pungi_domain.specs.Flat.{value_at}
use Rattle.pungi_domain.proofs.constants.known_sum.Given as goal

abbrev pub invariant-loop-i : goal.invariant-loop-i
invariant-loop-i l = record {
  value : l.sum ≡ dot (take l.i l.coefficients) (value_at l.constants);
  within : IsWithin (l.i * 2 ^ 94) l.sum;
}
