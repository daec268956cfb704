use Rattle.std.proofs.Common.{◌≡◌, map, take}
use Rattle.pungi_shape.specs.Numbered.{made_by}
use Rattle.pungi_shape.proofs.arrivals.made_tokens.Given as goal

abbrev pub invariant-loop-t : goal.invariant-loop-t
invariant-loop-t l = l.out ≡ map (made_by l.made l.marks) (take l.t-index l.tokens)
