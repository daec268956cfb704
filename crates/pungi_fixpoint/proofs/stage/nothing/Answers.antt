use Rattle.std.proofs.Common.{refl}
use Rattle.pungi_fixpoint.proofs.Stages.{nothing_more}
use Rattle.pungi_fixpoint.proofs.stage.nothing.Goals as goal

pub loop-width-preserved : goal.loop-width-preserved
loop-width-preserved g c =
    let d = g.D.Domain in
    let laws = g.met.D.Domain in
    rw c.in_ok-push.ensures.items (nothing_more d.least d.member d.width_of c.args.widths.now c.loop-width.width-index
    _ c.loop-width.values.items c.in_ok-none.field-0 laws.same laws.zero refl c.in_ok-none.ensures.width
    c.in_ok-none.ensures.least c.loop-width.invariant)
