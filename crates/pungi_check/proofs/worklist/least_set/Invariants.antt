use Rattle.std.proofs.Common.{◌+◌, length}
use Rattle.pungi_check.specs.Worklist.{unmarked}
use Rattle.pungi_check.proofs.ReachLemmas.{Reaching}
use Rattle.pungi_check.proofs.worklist.least_set.Given as goal

abbrev pub invariant-loop-function : goal.invariant-loop-function
invariant-loop-function l = Reaching l.functions l.callers.items l.marks.items l.waiting.items

abbrev pub decreases-loop-function : goal.decreases-loop-function
decreases-loop-function l = unmarked l.marks.items + length l.waiting.items
