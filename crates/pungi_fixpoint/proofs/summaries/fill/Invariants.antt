use Rattle.std.proofs.Common.{◌+◌, ◌-◌, length}
use Rattle.pungi_fixpoint.specs.Summaries.{SameValues}
use Rattle.pungi_fixpoint.proofs.summaries.fill.Given as goal

abbrev pub invariant-filling : goal.invariant-filling
invariant-filling g l = SameValues l.fn.exits l.exits

abbrev pub decreases-filling : goal.decreases-filling
decreases-filling g l = l.class + 1 - length l.exits
