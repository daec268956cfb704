use Rattle.std.proofs.Common.{refl, arith}
use Rattle.pungi_summary.proofs.Grown.{none_none, none_more, none_all}
use Rattle.pungi_summary.proofs.values.no_vectors.Goals as goal

pub loop-width-init : goal.loop-width-init
loop-width-init g c =
    let d = g.D.Domain in
    rw (c.new-values.ensures, c.new.ensures.items) (none_none d.least d.member d.width_of c.args.widths.now)

pub loop-width-preserved : goal.loop-width-preserved
loop-width-preserved g c =
    let d = g.D.Domain in
    let laws = g.met.D.Domain in
    rw c.in_ok-push-in-Ok.ensures.ok (none_more d.least d.member d.width_of c.args.widths.now c.loop-width.width-index _
    c.loop-width.values c.in-Ok.value laws.same laws.zero refl c.in-Ok.ensures.width c.in-Ok.ensures.least
    c.loop-width.invariant)

pub returns : goal.returns
returns g c =
    let d = g.D.Domain in
    none_all d.least d.member d.width_of c.args.widths.now c.loop-width.width-index c.loop-width.values
    (omega (arith, c.loop-width-test.false, c.loop-width.auto.width-index-end)) c.loop-width.invariant
