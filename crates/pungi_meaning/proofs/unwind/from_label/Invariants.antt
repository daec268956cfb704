use Rattle.std.proofs.Common.{◌≡◌, length}
use Rattle.pungi_meaning.specs.Jumps.{from_label}
use Rattle.pungi_meaning.specs.Machine.{todos}
use Rattle.pungi_meaning.proofs.unwind.from_label.Given as goal

abbrev pub invariant-loop-task : goal.invariant-loop-task
invariant-loop-task l = from_label l.label (todos l.tasks.items) ≡ from_label l.label (todos l.initial.tasks.items)

abbrev pub decreases-loop-task : goal.decreases-loop-task
decreases-loop-task l = length (todos l.tasks.items)
