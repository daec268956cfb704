use Rattle.std.proofs.Common.{◌≡◌, drop}
use Rattle.pungi_scope.proofs.local_names.LocalNames.truncate.Given as goal

abbrev pub invariant-loop-step : goal.invariant-loop-step
invariant-loop-step l = l.self ≡ drop l._step l.fn.self
