use Rattle.std.proofs.Common.{◌≡◌, take}
use Rattle.pungi_domain.specs.Vectors.{row_sum}
use Rattle.pungi_domain.specs.Flat.{value_at}
use Rattle.pungi_domain.specs.Constants.{AllKnown}
use Rattle.pungi_domain.proofs.constants.row_constant.Given as goal

abbrev pub invariant-loop-k : goal.invariant-loop-k
invariant-loop-k l = record {
  known : AllKnown l.constants l.row l.k;
  is : l.sum ≡ row_sum (take l.k l.row) (value_at l.constants);
}
