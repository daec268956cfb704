use Rattle.std.proofs.Common.{◌<◌, ap, arith, below_more}
use Rattle.pungi_affine.proofs.LineLemmas.{to_kept}
use Rattle.pungi_affine.proofs.extend.place.Goals as goal

pub loop-k-preserved : goal.loop-k-preserved
loop-k-preserved c = below_more _ _ c.loop-k.invariant
    (to_kept (λ l. l.pivot < c.args.q) c.args.rows.now c.loop-k.k c.index-rows-k.result c.loop-k-test.true
    c.index-rows-k.is (let e = ap (λ r. r.pivot) c.index-rows-k.is in let t = c.if-rows-k.false in omega
    (arith, e, t)))
