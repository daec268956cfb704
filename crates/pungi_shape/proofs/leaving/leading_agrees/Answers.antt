use Rattle.pungi_shape.proofs.AgreeLemmas.{leading-storable, unit-opposite}
use Rattle.pungi_shape.proofs.leaving.leading_agrees.Goals as goal

pub minus-requires-clause-opposite : goal.minus-requires-clause-opposite
minus-requires-clause-opposite c = rw c.in_ok-leading.ensures (unit-opposite c.args.width 0)

pub minus-requires-clause-storable : goal.minus-requires-clause-storable
minus-requires-clause-storable c =
    rw (c.in_ok-unit.ensures, c.in_ok-leading.ensures) (leading-storable c.args.width c.args.w)
