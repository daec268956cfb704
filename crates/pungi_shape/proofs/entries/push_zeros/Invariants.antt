use Rattle.std.proofs.Common.{◌≡◌, replicate, ◌++◌}
use Rattle.pungi_shape.specs.Forms.{zero_form}
use Rattle.pungi_shape.proofs.entries.push_zeros.Given as goal

abbrev pub invariant-loop : goal.invariant-loop
invariant-loop l = l.out ≡ l.initial.out ++ replicate l.counter (zero_form l.width)
