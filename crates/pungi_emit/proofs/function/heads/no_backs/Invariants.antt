use Rattle.std.proofs.Common.{◌≡◌, ◌++◌, ◌-◌, replicate, false}
use Rattle.pungi_emit.proofs.function.heads.no_backs.Given as goal

abbrev pub invariant-loop : goal.invariant-loop
invariant-loop l = l.backs.items ++ replicate (l.count - l.counter) false ≡ replicate l.count false
