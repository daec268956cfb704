use Rattle.std.proofs.Common.{◌≡◌, [], replicate}
use Rattle.pungi_shape.proofs.callers.no_callers.Given as goal

abbrev pub invariant-loop : goal.invariant-loop
invariant-loop l = l.lists.items ≡ replicate l.counter []
