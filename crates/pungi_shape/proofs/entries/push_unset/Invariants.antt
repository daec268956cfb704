use Rattle.std.proofs.Common.{◌≡◌, replicate, ◌++◌}
use Rattle.pungi_shape.specs.declared.holding.Holding.TheVariants.{Unset}
use Rattle.pungi_shape.proofs.entries.push_unset.Given as goal

abbrev pub invariant-loop : goal.invariant-loop
invariant-loop l = l.vars ≡ l.initial.vars ++ replicate l.counter Unset
