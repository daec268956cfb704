use Rattle.std.proofs.Common.{◌<◌, ◌≤◌, length, arith}
use Rattle.pungi_domain.specs.Vectors.{IsMatrix}
use Rattle.pungi_affine.specs.Forms.{lines, WithinBox}
use Rattle.pungi_affine.proofs.LineLemmas.{from_kept, lines_length}
use Rattle.pungi_affine.proofs.Images.{image_rows_more}
use Rattle.pungi_affine.proofs.image.row_images.Goals as goal

pub row_image-requires-clause-matrix : goal.row_image-requires-clause-matrix
row_image-requires-clause-matrix c =
    let lt : c.loop-row.row-index < length (lines c.args.rows.now) = (let n = lines_length c.args.rows.now in let t
    = c.loop-row-test.true in omega (arith, n, t)) in
    from_kept (λ l. IsMatrix (length l.entries) c.args.matrix.now) c.args.rows.now c.loop-row.row-index
    c.row-item.result c.loop-row-test.true c.row-item.is (c.requires.matrix c.loop-row.row-index lt)

pub row_image-requires-clause-narrow : goal.row_image-requires-clause-narrow
row_image-requires-clause-narrow c =
    let lt : c.loop-row.row-index < length (lines c.args.rows.now) = (let n = lines_length c.args.rows.now in let t
    = c.loop-row-test.true in omega (arith, n, t)) in
    from_kept (λ l. length l.entries ≤ 256) c.args.rows.now c.loop-row.row-index c.row-item.result
    c.loop-row-test.true c.row-item.is (c.requires.narrow c.loop-row.row-index lt)

pub row_image-requires-clause-small : goal.row_image-requires-clause-small
row_image-requires-clause-small c =
    let lt : c.loop-row.row-index < length (lines c.args.rows.now) = (let n = lines_length c.args.rows.now in let t
    = c.loop-row-test.true in omega (arith, n, t)) in
    from_kept (λ l. WithinBox l.entries) c.args.rows.now c.loop-row.row-index c.row-item.result c.loop-row-test.true
    c.row-item.is (c.requires.small c.loop-row.row-index lt)

pub loop-row-preserved : goal.loop-row-preserved
loop-row-preserved c =
    rw c.in_ok-push.ensures.items (image_rows_more c.args.matrix.now c.args.rows.now c.loop-row.row-index
    c.row-item.result c.loop-row.images.items c.in_ok-row_image.field-0 c.loop-row-test.true c.row-item.is
    c.loop-row.invariant c.in_ok-row_image.ensures)
