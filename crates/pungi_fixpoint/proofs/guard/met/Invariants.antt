use Rattle.std.proofs.Common.{◌≡◌, take}
use Rattle.pungi_domain.specs.Builds.{IsMet}
use Rattle.pungi_fixpoint.specs.Turns.{or_else}
use Rattle.pungi_fixpoint.proofs.guard.met.Given as goal

abbrev pub invariant-loop-equation : goal.invariant-loop-equation
invariant-loop-equation g l = record {
  met : IsMet g.D.Domain.least g.D.Domain.member (g.D.Domain.width_of l.source) (take l.equation-index l.guard) l.source
      (or_else l.value l.source);
  width : g.D.Domain.width_of (or_else l.value l.source) ≡ g.D.Domain.width_of l.source;
}
