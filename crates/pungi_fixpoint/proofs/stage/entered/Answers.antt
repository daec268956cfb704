use Rattle.std.proofs.Common.{refl}
use Rattle.pungi_fixpoint.proofs.Stages.{enter_more}
use Rattle.pungi_fixpoint.proofs.stage.entered.Goals as goal

pub loop-k-preserved : goal.loop-k-preserved
loop-k-preserved g c =
    let d = g.D.Domain in
    enter_more d.least d.member d.width_of c.args.widths.now c.args.entries.now c.loop-k.k-index _
    c.loop-k.values.items c.in_ok-values-2.field-0 c.loop-k-test.true refl
    (c.requires.entries c.loop-k.k-index 0 c.loop-k-test.true) c.in_ok-values-2.ensures.width
    c.in_ok-values-2.ensures.members
    c.loop-k.invariant
