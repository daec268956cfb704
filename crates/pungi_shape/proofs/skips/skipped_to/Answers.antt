use Rattle.pungi_shape.proofs.ShapeLemmas.{arrives}
use Rattle.pungi_shape.specs.Shapes.{width_of}
use Rattle.pungi_shape.proofs.skips.skipped_to.Goals as goal

pub changes_nothing-requires-clause-arrival : goal.changes_nothing-requires-clause-arrival
changes_nothing-requires-clause-arrival c =
    rw c.in_ok-arrival.ensures (arrives c.args.code.now c.args.next c.args.scene (width_of c.args.shape.now)
    c.requires.scene c.requires.width)
