use Rattle.std.proofs.Common.{◌≡◌, ◌<◌, length, arith}
use Rattle.std.proofs.lemmas.Int.{ints}
use Rattle.pungi_domain.specs.Vectors.{at}
use Rattle.pungi_affine.specs.Forms.{lines, WithinBox}
use Rattle.pungi_affine.proofs.LineLemmas.{from_kept, lines_length}
use Rattle.pungi_affine.proofs.Fills.{fill_more}
use Rattle.pungi_affine.proofs.residual.filled_entry.Goals as goal

pub share-sum-requires-clause-within : goal.share-sum-requires-clause-within
share-sum-requires-clause-within c =
    let lt : c.loop-row.row-index < length (lines c.args.rows.now) = (let n = lines_length c.args.rows.now in let t
    = c.loop-row-test.true in omega (arith, n, t)) in
    let w = from_kept (λ l. length l.entries ≡ length c.args.v.now) c.args.rows.now c.loop-row.row-index
    c.row-item.result c.loop-row-test.true c.row-item.is (c.requires.widths c.loop-row.row-index lt) in (
      from_kept (λ l. l.pivot < length c.args.v.now) c.args.rows.now c.loop-row.row-index c.row-item.result
          c.loop-row-test.true c.row-item.is (c.requires.pivots c.loop-row.row-index lt),
      let i = c.requires.i in omega
          (arith, w, i),
    )

pub share-sum-requires-clause-v : goal.share-sum-requires-clause-v
share-sum-requires-clause-v c =
    let lt : c.loop-row.row-index < length (lines c.args.rows.now) = (let n = lines_length c.args.rows.now in let t
    = c.loop-row-test.true in omega (arith, n, t)) in
    c.requires.v c.row-item.result.pivot (from_kept (λ l. l.pivot < length c.args.v.now) c.args.rows.now
    c.loop-row.row-index c.row-item.result c.loop-row-test.true c.row-item.is
    (c.requires.pivots c.loop-row.row-index lt))

pub share-sum-requires-clause-row : goal.share-sum-requires-clause-row
share-sum-requires-clause-row c =
    let lt : c.loop-row.row-index < length (lines c.args.rows.now) = (let n = lines_length c.args.rows.now in let t
    = c.loop-row-test.true in omega (arith, n, t)) in
    let w = from_kept (λ l. length l.entries ≡ length c.args.v.now) c.args.rows.now c.loop-row.row-index
    c.row-item.result c.loop-row-test.true c.row-item.is (c.requires.widths c.loop-row.row-index lt) in
    from_kept (λ l. WithinBox l.entries) c.args.rows.now c.loop-row.row-index c.row-item.result c.loop-row-test.true
    c.row-item.is (c.requires.rows c.loop-row.row-index lt) c.args.i (let i = c.requires.i in omega (arith, w, i))

pub overflow_add-sum : goal.overflow_add-sum
overflow_add-sum c =
    (let w = c.share-sum.ensures.within in let i = c.loop-row.invariant.within in let t = c.loop-row-test.true in
    let f = c.requires.few in grind (arith, ints, w, i, t, f))

pub loop-row-preserved : goal.loop-row-preserved
loop-row-preserved c =
    let w = c.share-sum.ensures.within in
    let s = c.share-sum.ensures.value in
    let i = c.loop-row.invariant.within in
    let m = fill_more (at c.args.v.now) c.args.rows.now c.loop-row.row-index c.row-item.result c.args.i
    c.loop-row-test.true c.row-item.is in
    record {
      value = rw m (omega (arith, ints, w, s));
      within = (omega (arith, ints, w, i), omega (arith, ints, w, i));
    }
