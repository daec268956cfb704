use Rattle.std.proofs.Common.{◌≡◌, ◌<◌, length, sym, arith, rules}
use Rattle.std.proofs.lemmas.Int.{to_z-of_z}
use mir.Syntax.{w128}
use mir.Val.{SFits}
use Rattle.pungi_affine.specs.Forms.{lines, WithinBox}
use Rattle.pungi_affine.proofs.LineLemmas.{from_kept, lines_length}
use Rattle.pungi_affine.proofs.Meets.{sum_rows_more}
use Rattle.pungi_affine.proofs.meet.row_sums.Goals as goal

pub dot_product-requires-clause-width : goal.dot_product-requires-clause-width
dot_product-requires-clause-width c =
    let lt : c.loop-row.row-index < length (lines c.args.rows.now) = (let n = lines_length c.args.rows.now in let t
    = c.loop-row-test.true in omega (arith, n, t)) in
    let w = from_kept (λ l. length l.entries ≡ length c.args.coefficients.now) c.args.rows.now c.loop-row.row-index
    c.row-item.result c.loop-row-test.true c.row-item.is (c.requires.widths c.loop-row.row-index lt) in
    sym w

pub dot_product-requires-clause-narrow : goal.dot_product-requires-clause-narrow
dot_product-requires-clause-narrow c =
    let lt : c.loop-row.row-index < length (lines c.args.rows.now) = (let n = lines_length c.args.rows.now in let t
    = c.loop-row-test.true in omega (arith, n, t)) in
    let w = from_kept (λ l. length l.entries ≡ length c.args.coefficients.now) c.args.rows.now c.loop-row.row-index
    c.row-item.result c.loop-row-test.true c.row-item.is (c.requires.widths c.loop-row.row-index lt) in
    let n = c.requires.narrow in
    omega (arith, w, n)

pub dot_product-requires-clause-small : goal.dot_product-requires-clause-small
dot_product-requires-clause-small c =
    let lt : c.loop-row.row-index < length (lines c.args.rows.now) = (let n = lines_length c.args.rows.now in let t
    = c.loop-row-test.true in omega (arith, n, t)) in
    from_kept (λ l. WithinBox l.entries) c.args.rows.now c.loop-row.row-index c.row-item.result c.loop-row-test.true
    c.row-item.is (c.requires.small c.loop-row.row-index lt)

pub loop-row-preserved : goal.loop-row-preserved
loop-row-preserved c =
    let f : SFits w128 c.dot_product.result = search rules in
    rw (c.in_ok-push.ensures.items, to_z-of_z w128 c.dot_product.result f)
    (sum_rows_more c.args.coefficients.now c.args.rows.now c.loop-row.row-index c.row-item.result
    c.loop-row.sums.items c.dot_product.result c.loop-row-test.true c.row-item.is c.loop-row.invariant
    c.dot_product.ensures.value
    (c.dot_product.ensures.wide c.requires.tight))
