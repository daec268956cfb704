use Rattle.std.proofs.Common.{◌≡◌, ◌++◌}
use Rattle.pungi_shape.proofs.catalog.Catalog.in_order.Given as goal

abbrev pub invariant-loop-place : goal.invariant-loop-place
invariant-loop-place g l = l.order.items ++ l.place-iterator ≡ l.initial.place-iterator
