use Rattle.std.proofs.Common.{◌≡◌, Bool, true, false, refl, if◌then◌else◌}
use Rattle.pungi_shape.specs.declared.holding.Holding.TheVariants.{Dead}
use Rattle.pungi_shape.specs.Liveness.{is_holder}
use Rattle.pungi_shape.proofs.kept.is_dropped.Goals as goal

dead : (b : Bool) → (if b then Dead else Dead) ≡ Dead
dead true = refl
dead false = refl

pub returns-in-Dead-clause-no : goal.returns-in-Dead-clause-no
returns-in-Dead-clause-no c u = rw c.in-Dead.is (dead (is_holder c.args.code.now c.args.p c.args.x))
