use Rattle.std.proofs.Common.{◌≡◌, replicate, None}
use Rattle.pungi_shape.proofs.joins.no_atoms.Given as goal

abbrev pub invariant-loop : goal.invariant-loop
invariant-loop l = l.atoms ≡ replicate l.counter None
