use Rattle.std.proofs.Common.{◌≡◌, take}
use Rattle.pungi_shape.proofs.scenes.copy_balances.Given as goal

abbrev pub invariant-loop-b : goal.invariant-loop-b
invariant-loop-b l = l.out ≡ take l.b-index l.balances
