use Rattle.std.proofs.Common.{◌≡◌, ◌++◌, map, take}
use Rattle.pungi_shape.specs.Forms.{one_if}
use Rattle.pungi_shape.proofs.keys.push_made.Given as goal

abbrev pub invariant-loop-is_made : goal.invariant-loop-is_made
invariant-loop-is_made l = l.key.items ≡ l.fn.key.items ++ map one_if (take l.is_made-index l.made)
