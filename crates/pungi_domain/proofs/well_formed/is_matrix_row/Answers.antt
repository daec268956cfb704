use Rattle.std.proofs.Common.{arith, rules}
use Rattle.pungi_domain.proofs.Tests.{matrix_row, row_new}
use Rattle.pungi_domain.proofs.well_formed.is_matrix_row.Goals as goal

pub returns-then-not-is_new : goal.returns-then-not-is_new
returns-then-not-is_new c = (
  λ t. absurd (search rules),
  λ is.
      rw c.if-not-is_new.true at (c.is_new.ensures.1 (row_new c.args.width c.args.row.now is c.loop-k.k
      c.loop-k-test.true)),
)

pub returns : goal.returns
returns c =
    (λ _. matrix_row c.args.width c.args.row.now (λ j lt. c.loop-k.invariant j (omega arith)), λ _. search rules)
