use Rattle.pungi_affine.specs.Forms.{lines}
use Rattle.pungi_affine.proofs.Units.{units_all}
use Rattle.pungi_affine.proofs.unit.whole.Goals as goal

pub returns-clause-members : goal.returns-clause-members
returns-clause-members c = units_all c.args.width c.requires (lines c.in_ok-rows.rows.items) c.in_ok-rows.ensures
