use Rattle.std.proofs.Common.{◌≡◌, ℕ, ◌<◌, Some, slice_get}
use Rattle.pungi_domain.specs.declared.affine_edge.AffineEdge.{AffineEdge}
use Rattle.pungi_fixpoint.specs.Duties.{MeetsDutiesOf}
use Rattle.pungi_fixpoint.specs.Solver.{sets}
use Rattle.pungi_fixpoint.proofs.check.check_edges.Given as goal

abbrev pub invariant-loop-number : goal.invariant-loop-number
invariant-loop-number g l =
    (k : ℕ) (e : AffineEdge) → k < l.number → slice_get l.program.edges k ≡ Some e
    → MeetsDutiesOf l.kind (sets g.D.Domain.member l.annotation.at) e
