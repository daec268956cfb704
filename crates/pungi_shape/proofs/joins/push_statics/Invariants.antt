use Rattle.std.proofs.Common.{◌≡◌, ◌++◌, map, take}
use Rattle.pungi_shape.specs.Exits.{with_static}
use Rattle.pungi_shape.proofs.joins.push_statics.Given as goal

abbrev pub invariant-loop-k : goal.invariant-loop-k
invariant-loop-k l = l.pairs ≡ l.initial.pairs ++ map with_static (take l.k-index l.statics)
