use Rattle.std.proofs.Common.{◌<◌, All, take}
use Rattle.pungi_summary.proofs.callable.are_all_below.Given as goal

abbrev pub invariant-loop-numbers : goal.invariant-loop-numbers
invariant-loop-numbers l = All (λ fs. All (λ g. g < l.limit) fs) (take l.numbers-index l.callees)
