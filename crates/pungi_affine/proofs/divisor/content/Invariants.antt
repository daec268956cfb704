use Rattle.std.proofs.Common.{take}
use Rattle.pungi_affine.specs.Divisors.{IsContent}
use Rattle.pungi_affine.proofs.divisor.content.Given as goal

abbrev pub invariant-loop-entry : goal.invariant-loop-entry
invariant-loop-entry l = IsContent (take l.entry-index l.entries) l.common
