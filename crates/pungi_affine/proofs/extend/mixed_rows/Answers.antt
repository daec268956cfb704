use Rattle.std.proofs.Common.{◌≡◌, ◌<◌, length, arith}
use Rattle.pungi_affine.specs.Forms.{lines, WithinBox}
use Rattle.pungi_affine.proofs.LineLemmas.{from_kept, lines_length}
use Rattle.pungi_affine.proofs.Extends.{mixed_rows_more}
use Rattle.pungi_affine.proofs.extend.mixed_rows.Goals as goal

pub mixed_row-requires-clause-within : goal.mixed_row-requires-clause-within
mixed_row-requires-clause-within c =
    let lt : c.loop-row.row-index < length (lines c.args.rows.now) = (let n = lines_length c.args.rows.now in let t
    = c.loop-row-test.true in omega (arith, n, t)) in (
      c.requires.within,
      from_kept (λ l. length l.entries ≡ length c.args.u.now) c.args.rows.now c.loop-row.row-index
          c.row-item.result c.loop-row-test.true c.row-item.is (c.requires.widths c.loop-row.row-index lt),
    )

pub mixed_row-requires-clause-row : goal.mixed_row-requires-clause-row
mixed_row-requires-clause-row c =
    let lt : c.loop-row.row-index < length (lines c.args.rows.now) = (let n = lines_length c.args.rows.now in let t
    = c.loop-row-test.true in omega (arith, n, t)) in
    from_kept (λ l. WithinBox l.entries) c.args.rows.now c.loop-row.row-index c.row-item.result c.loop-row-test.true
    c.row-item.is (c.requires.rows c.loop-row.row-index lt)

pub loop-row-preserved : goal.loop-row-preserved
loop-row-preserved c =
    rw c.in_ok-push.ensures.items (mixed_rows_more c.args.u.now c.args.q c.args.rows.now c.loop-row.mixes.items
    c.loop-row.row-index c.row-item.result c.in_ok-mixed_row.field-0 c.loop-row-test.true c.row-item.is
    c.loop-row.invariant c.in_ok-mixed_row.ensures)
