use Rattle.std.proofs.Common.{◌≡◌, ◌+◌, ◌≤◌, ◌++◌, length, drop}
use Rattle.pungi_code.specs.Limits.{most_instructions}
use Rattle.pungi_layout.specs.code.ExprCode.{steps_code}
use Rattle.pungi_layout.specs.code.Sizes.{outputs_size}
use Rattle.pungi_layout.specs.code.Sound.{AreWritten}
use Rattle.pungi_emit.proofs.expr.outputs.emit_steps.Given as goal

abbrev pub invariant-loop-step : goal.invariant-loop-step
invariant-loop-step l = record {
  code :
      l.code ++ steps_code l.value l.outcome l.pos (length l.code) l.end (drop l.step-index l.steps)
      ≡ l.initial.code ++ steps_code l.value l.outcome l.pos (length l.initial.code) l.end l.steps;
  sound : AreWritten l.around.locals (drop l.step-index l.steps);
  long : length l.code + outputs_size (drop l.step-index l.steps) ≤ most_instructions;
}
