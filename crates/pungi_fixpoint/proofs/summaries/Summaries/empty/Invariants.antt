use Rattle.std.proofs.Common.{◌≡◌, [], replicate}
use Rattle.pungi_fixpoint.specs.declared.state.State.TheVariants.{NotSafe}
use Rattle.pungi_fixpoint.proofs.summaries.Summaries.empty.Given as goal

abbrev pub invariant-loop : goal.invariant-loop
invariant-loop g l = record {
  exits : l.exits.items ≡ replicate l.counter [];
  states : l.states.items ≡ replicate l.counter (NotSafe 0);
}
