use Rattle.std.proofs.Common.{◌<◌, All, take}
use Rattle.pungi_summary.proofs.callable.are_below.Given as goal

abbrev pub invariant-loop-number : goal.invariant-loop-number
invariant-loop-number l = All (λ g. g < l.limit) (take l.number-index l.numbers)
