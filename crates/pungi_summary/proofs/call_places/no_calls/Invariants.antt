use Rattle.std.proofs.Common.{◌≡◌, None, replicate}
use Rattle.pungi_summary.proofs.call_places.no_calls.Given as goal

abbrev pub invariant-loop : goal.invariant-loop
invariant-loop l = l.firsts.items ≡ replicate l.counter None
