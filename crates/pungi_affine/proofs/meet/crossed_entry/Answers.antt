use Rattle.std.proofs.Common.{◌≡◌, ◌<◌, ◌*ℤ◌, length, ap, arith}
use Rattle.std.proofs.lemmas.Int.{ints}
use Rattle.pungi_domain.specs.Vectors.{at}
use Rattle.pungi_affine.specs.Forms.{line, lines, WithinBox}
use Rattle.pungi_affine.specs.Rows.{row_entries}
use Rattle.pungi_affine.proofs.LineLemmas.{from_kept, lines_length, lines_at}
use Rattle.pungi_affine.proofs.meet.crossed_entry.Goals as goal

pub times-requires-clause-within : goal.times-requires-clause-within
times-requires-clause-within c =
    let w = c.requires.within in
    let lt : c.args.k < length c.args.rows.now = (let n = lines_length c.args.rows.now in omega (arith, n, w)) in (
      omega (arith, w),
      from_kept (λ l. c.args.i < length l.entries) c.args.rows.now c.args.k c.index-rows-k.result
          lt c.index-rows-k.is (c.requires.i c.args.k w.1),
    )

pub times-requires-clause-row : goal.times-requires-clause-row
times-requires-clause-row c =
    let w = c.requires.within in
    let lt : c.args.k < length c.args.rows.now = (let n = lines_length c.args.rows.now in omega (arith, n, w)) in
    from_kept (λ l. WithinBox l.entries) c.args.rows.now c.args.k c.index-rows-k.result lt c.index-rows-k.is
    (c.requires.small c.args.k w.1) c.args.i
    (from_kept (λ l. c.args.i < length l.entries) c.args.rows.now c.args.k c.index-rows-k.result lt
    c.index-rows-k.is (c.requires.i c.args.k w.1))

pub times-requires-2-clause-within : goal.times-requires-2-clause-within
times-requires-2-clause-within c =
    let w = c.requires.within in
    let lt : c.args.p < length c.args.rows.now = (let n = lines_length c.args.rows.now in omega (arith, n, w)) in (
      omega (arith, w),
      from_kept (λ l. c.args.i < length l.entries) c.args.rows.now c.args.p c.index-rows-p.result
          lt c.index-rows-p.is (c.requires.i c.args.p w.0),
    )

pub times-requires-2-clause-row : goal.times-requires-2-clause-row
times-requires-2-clause-row c =
    let w = c.requires.within in
    let lt : c.args.p < length c.args.rows.now = (let n = lines_length c.args.rows.now in omega (arith, n, w)) in
    from_kept (λ l. WithinBox l.entries) c.args.rows.now c.args.p c.index-rows-p.result lt c.index-rows-p.is
    (c.requires.small c.args.p w.0) c.args.i
    (from_kept (λ l. c.args.i < length l.entries) c.args.rows.now c.args.p c.index-rows-p.result lt
    c.index-rows-p.is (c.requires.i c.args.p w.0))

pub returns-clause-value : goal.returns-clause-value
returns-clause-value c =
    let w = c.requires.within in
    let k_lt : c.args.k < length c.args.rows.now = (let n = lines_length c.args.rows.now in omega (arith, n, w)) in
    let p_lt : c.args.p < length c.args.rows.now = (let n = lines_length c.args.rows.now in omega (arith, n, w)) in
    let e = ap (λ l. at l.entries c.args.i) (lines_at c.args.rows.now c.args.k c.index-rows-k.result k_lt) in
    let f = ap (λ l. at l.entries c.args.i) (lines_at c.args.rows.now c.args.p c.index-rows-p.result p_lt) in
    let g = ap (λ r. at (row_entries r) c.args.i) c.index-rows-k.is in
    let h = ap (λ r. at (row_entries r) c.args.i) c.index-rows-p.is in
    let s : c.times.result ≡ at c.args.sums.now c.args.p *ℤ at (line (lines c.args.rows.now) c.args.k).entries
    c.args.i = cc (c.times.ensures.value, e, g) in
    let t : c.times-2.result ≡ at c.args.sums.now c.args.k *ℤ at (line (lines c.args.rows.now) c.args.p).entries
    c.args.i = cc (c.times-2.ensures.value, f, h) in
    let a = c.times.ensures.within in
    let b = c.times-2.ensures.within in
    omega (arith, ints, s, t, a, b)

pub returns-clause-within : goal.returns-clause-within
returns-clause-within c =
    (let a = c.times.ensures.within in let b = c.times-2.ensures.within in
    (omega (arith, ints, a, b), omega (arith, ints, a, b)))
