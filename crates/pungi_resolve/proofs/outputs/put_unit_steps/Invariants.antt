use Rattle.std.proofs.Common.{◌≡◌, ◌++◌, drop}
use Rattle.pungi_resolve.specs.Outputs.{unit_steps}
use Rattle.pungi_resolve.proofs.outputs.put_unit_steps.Given as goal

abbrev pub invariant-loop-out : goal.invariant-loop-out
invariant-loop-out l = record {
  number : l.number ≡ l.out-index;
  steps :
      l.steps ++ unit_steps l.least l.fails l.number (drop l.out-index l.outs)
      ≡ l.fn.steps ++ unit_steps l.least l.fails 0 l.outs;
}
