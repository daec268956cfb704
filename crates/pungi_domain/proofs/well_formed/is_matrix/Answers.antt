use Rattle.std.proofs.Common.{ℕ, ℤ, List, rules}
use Rattle.pungi_domain.specs.Vectors.{IsMatrixRow}
use Rattle.pungi_domain.proofs.Tests.{all_more, all_taken}
use Rattle.pungi_domain.proofs.well_formed.is_matrix.Goals as goal

pub loop-row-preserved : goal.loop-row-preserved
loop-row-preserved c =
    all_more (λ (row : List (ℕ × ℤ)). IsMatrixRow c.args.width row) c.args.rows.now c.loop-row.row-index
    c.row-item.result c.loop-row-test.true c.row-item.is c.loop-row.invariant
    (rw c.as_slice.ensures at (c.is_matrix_row.ensures.0 c.if-not-is_matrix_row.false))

pub returns : goal.returns
returns c = (
  λ _. all_taken (λ (row : List (ℕ × ℤ)). IsMatrixRow c.args.width row) c.args.rows.now c.loop-row.row-index
      c.loop-row-test.false c.loop-row.invariant,
  λ _. search rules,
)
