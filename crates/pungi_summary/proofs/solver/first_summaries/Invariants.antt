use Rattle.std.proofs.Common.{◌≡◌, length}
use Rattle.pungi_summary.proofs.Firsts.{AreFirstBelow}
use Rattle.pungi_summary.proofs.solver.first_summaries.Given as goal

abbrev pub invariant-loop-f : goal.invariant-loop-f
invariant-loop-f g l = record {
  exits : AreFirstBelow g.D.Domain.least g.D.Domain.member g.D.Domain.width_of l.programs l.f l.summaries.exits;
  states : length l.summaries.states ≡ length l.programs;
}
