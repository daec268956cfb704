use Rattle.std.proofs.Common.{◌≡◌, replicate, Some}
use Rattle.pungi_shape.specs.Forms.{zero_form}
use Rattle.pungi_shape.proofs.entries.level_balances.Given as goal

abbrev pub invariant-loop : goal.invariant-loop
invariant-loop l = l.balances ≡ replicate l.counter (Some (zero_form l.width))
