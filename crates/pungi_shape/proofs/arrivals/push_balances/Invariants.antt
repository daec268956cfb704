use Rattle.std.proofs.Common.{◌≡◌, ◌++◌, map, take}
use Rattle.pungi_shape.specs.Scenes.{balance_at}
use Rattle.pungi_shape.proofs.arrivals.push_balances.Given as goal

abbrev pub invariant-loop-t : goal.invariant-loop-t
invariant-loop-t l = l.rows ≡ l.initial.rows ++ map (balance_at l.scene) (take l.t-index l.tokens)
