use Rattle.std.proofs.Common.{◌≡◌, ◌+◌, drop}
use Rattle.pungi_layout.specs.code.Sizes.{outputs_size}
use Rattle.pungi_emit.proofs.expr.output_size.after_outputs.Given as goal

abbrev pub invariant-loop-step : goal.invariant-loop-step
invariant-loop-step l = l.place + outputs_size (drop l.step-index l.steps) ≡ l.from + outputs_size l.steps
