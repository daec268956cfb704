use Rattle.std.proofs.Common.{◌≡◌, [], Some, replicate}
use Rattle.pungi_shape.proofs.classes.Classes.empty.Given as goal

abbrev pub invariant-loop : goal.invariant-loop
invariant-loop l = l.lists ≡ replicate l.counter (Some [])
