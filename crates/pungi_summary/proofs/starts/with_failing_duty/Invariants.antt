use Rattle.std.proofs.Common.{◌≡◌, map, take}
use Rattle.pungi_summary.specs.Outcomes.{is_unsafe}
use Rattle.pungi_summary.proofs.starts.with_failing_duty.Given as goal

abbrev pub invariant-loop-outcome : goal.invariant-loop-outcome
invariant-loop-outcome l = l.starts.items ≡ map is_unsafe (take l.outcome-index l.outcomes)
