use Rattle.std.proofs.Common.{◌<◌, All, take}
use Rattle.pungi_domain.proofs.well_formed.are_below.Given as goal

abbrev pub invariant-loop-number : goal.invariant-loop-number
invariant-loop-number l = All (λ k. k < l.limit) (take l.number-index l.numbers)
