use Rattle.std.proofs.Common.{w64}
use Rattle.std.proofs.lemmas.Int.{to_z-of_z}
use Rattle.pungi_shape.proofs.UnitLemmas.{sum-storable}
use Rattle.pungi_shape.proofs.exits.balance_and.Goals as goal

pub plus-requires-clause-storable : goal.plus-requires-clause-storable
plus-requires-clause-storable c =
    let number = rw (to_z-of_z w64 c.args.n c.ranges.n) at c.in_ok-number.ensures in
    rw (c.in_ok-balance.ensures, number)
    (sum-storable c.args.width c.args.k c.args.n c.requires.after c.requires.factor)
