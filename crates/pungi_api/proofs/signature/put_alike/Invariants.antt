use Rattle.std.proofs.Common.{◌≡◌, ◌++◌, ◌-◌, replicate}
use Rattle.pungi_api.proofs.signature.put_alike.Given as goal

abbrev pub invariant-loop : goal.invariant-loop
invariant-loop g l = l.list ++ replicate (l.count - l.counter) l.item ≡ l.fn.list ++ replicate l.count l.item
