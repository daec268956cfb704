use Rattle.std.proofs.Common.{◌≡◌, vec_len}
use Rattle.pungi_meaning.specs.Jumps.{after_continue}
use Rattle.pungi_meaning.specs.Machine.{todos}
use Rattle.pungi_meaning.proofs.unwind.after_continue.Given as goal

abbrev pub invariant-loop-task : goal.invariant-loop-task
invariant-loop-task l = after_continue (todos l.tasks.items) ≡ after_continue (todos l.initial.tasks.items)

abbrev pub decreases-loop-task : goal.decreases-loop-task
decreases-loop-task l = vec_len l.tasks
