use Rattle.std.proofs.Common.{◌≡◌, take}
use Rattle.pungi_shape.specs.Ranks.{exits_in}
use Rattle.pungi_shape.proofs.search.Found.exits_in_order.Given as goal

-- the first ones, in order
abbrev pub invariant-loop-k : goal.invariant-loop-k
invariant-loop-k l = l.list ≡ take l.k (exits_in l.self)
