use Rattle.std.proofs.Common.{negsuc, pos, arith, lit<}
use Rattle.std.proofs.lemmas.Int.{ints}
use Rattle.pungi_shape.proofs.BalanceLemmas.{changed-storable}
use Rattle.pungi_shape.proofs.calls.does.Goals as goal

pub add_to_holding-requires-clause-storable : goal.add_to_holding-requires-clause-storable
add_to_holding-requires-clause-storable c =
    λ t e. changed-storable c.args.scene.now t 1 (pos 1) c.requires.scene c.requires.fresh.balances
    (omega (arith, ints), omega (arith, ints)) (lit< tt)

pub add_to_holding-requires-in-Some-DecRef-clause-storable
    : goal.add_to_holding-requires-in-Some-DecRef-clause-storable
add_to_holding-requires-in-Some-DecRef-clause-storable c =
    λ t e. changed-storable c.args.scene.now t 1 (negsuc 0) c.requires.scene c.requires.fresh.balances
    (omega (arith, ints), omega (arith, ints)) (lit< tt)
