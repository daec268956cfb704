use Rattle.std.proofs.Common.{◌<◌, length, arith}
use Rattle.pungi_shape.specs.Scenes.{redirect}
use Rattle.pungi_shape.specs.Shapes.{rename_holding}
use Rattle.pungi_shape.proofs.ListLemmas.{mapped_step}
use Rattle.pungi_shape.proofs.merges.redirect_statics.Goals as goal

pub loop-i-preserved : goal.loop-i-preserved
loop-i-preserved c =
    let lt : c.loop-i.i < length c.args.statics.now = omega (arith, c.loop-i-test.true, c.len-i-end.ensures) in
    rw (c.set.ensures, c.redirect_holding.ensures, c.as_slice.ensures) (mapped_step
    (λ k. (k.0, rename_holding (redirect c.args.t c.args.u) k.1)) c.loop-i.i c.args.statics.now c.loop-i.statics _
    c.loop-i.invariant lt)
