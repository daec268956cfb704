use Rattle.std.proofs.Common.{length, arith}
use Rattle.std.proofs.lemmas.Int.{ints}
use Rattle.pungi_domain.specs.Vectors.{at}
use Rattle.pungi_affine.proofs.Images.{row_sum_more, row_few}
use Rattle.pungi_affine.proofs.image.image_entry.Goals as goal

pub overflow_add-sum : goal.overflow_add-sum
overflow_add-sum c =
    let w = c.image_term-sum.ensures.within in
    let i = c.loop-k.invariant.within in
    let f = row_few (length c.args.entries.now) c.args.row.now c.requires.row in
    let n = c.requires.narrow in
    let t = c.loop-k-test.true in
    grind (arith, ints, w, i, f, n, t)

pub loop-k-preserved : goal.loop-k-preserved
loop-k-preserved c =
    let w = c.image_term-sum.ensures.within in
    let s = c.image_term-sum.ensures.value in
    let i = c.loop-k.invariant.within in
    let f = row_few (length c.args.entries.now) c.args.row.now c.requires.row in
    let n = c.requires.narrow in
    let t = c.loop-k-test.true in
    let m = row_sum_more c.args.row.now (at c.args.entries.now) c.loop-k.k c.loop-k-test.true in
    record {
      value = omega (arith, ints, w, s, m, i, f, n, t);
      within = (omega (arith, ints, w, i, f, n, t), omega (arith, ints, w, i, f, n, t));
    }

pub returns-clause-within : goal.returns-clause-within
returns-clause-within c =
    let i = c.loop-k.invariant.within in
    let f = row_few (length c.args.entries.now) c.args.row.now c.requires.row in
    let n = c.requires.narrow in
    (omega (arith, ints, i, f, n), omega (arith, ints, i, f, n))
