use Rattle.std.proofs.Common.{◌≡◌, map, take}
use Rattle.pungi_shape.specs.Scenes.{holding_of}
use Rattle.pungi_shape.proofs.steps.holdings_of.Given as goal

abbrev pub invariant-loop-a : goal.invariant-loop-a
invariant-loop-a l = l.holdings.items ≡ map (holding_of l.scene) (take l.a-index l.atoms)
