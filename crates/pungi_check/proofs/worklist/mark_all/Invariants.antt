use Rattle.std.proofs.Common.{take}
use Rattle.pungi_check.specs.Worklist.{Visited}
use Rattle.pungi_check.proofs.worklist.mark_all.Given as goal

abbrev pub invariant-loop-function : goal.invariant-loop-function
invariant-loop-function l =
    Visited l.fn.marks.items l.marks.items l.fn.waiting.items l.waiting.items
    (take l.function-index l.functions.items)
