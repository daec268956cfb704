use Rattle.std.proofs.Common.{◌∙◌, sym, ap}
use Rattle.pungi_shape.proofs.SkipLemmas.{within-goes}
use Rattle.pungi_shape.proofs.skips.skipped_within.Goals as goal

pub returns-in-Within : goal.returns-in-Within
returns-in-Within c =
    let t = c.into_parts-scene.result in
    let e = c.into_parts-scene.ensures in
    rw (within-goes c.args.code.now c.args.p c.part_done.result c.args.shape.now c.args.case c.in-Within.k t.1
    (sym (ap (λ z. z.3) e) ∙ c.in-Within.is) c.part_done.ensures (ap (λ z. z.1) e)) c.skipped_to.ensures
