use Rattle.std.proofs.Common.{◌≡◌, ◌-◌}
use Rattle.pungi_meaning.specs.Machine.{frames_of, functions_of, state_of, todos}
use Rattle.pungi_meaning.specs.Run.{run_from}
use Rattle.pungi_meaning.proofs.execution.go.Given as goal

abbrev pub invariant-loop-i : goal.invariant-loop-i
invariant-loop-i l =
    (run_from (functions_of l.functions) l.choices (l.fuel - l.i) (frames_of l.frames.items) (todos l.m.tasks.items)
    (state_of l.m)).end
    ≡ (run_from (functions_of l.functions) l.choices l.fuel (frames_of l.initial.frames.items)
    (todos l.initial.m.tasks.items) (state_of l.initial.m)).end
