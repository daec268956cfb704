use Rattle.std.proofs.Common.{◌≡◌, ◌++◌, take}
use Rattle.pungi_shape.specs.Keys.{marked}
use Rattle.pungi_shape.proofs.keys.push_marked.Given as goal

abbrev pub invariant-loop-n : goal.invariant-loop-n
invariant-loop-n l = l.key.items ≡ l.fn.key.items ++ marked (take l.n-index l.numbers)
