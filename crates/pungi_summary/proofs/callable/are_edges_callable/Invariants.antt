use Rattle.std.proofs.Common.{All, take}
use Rattle.pungi_summary.specs.Calls.{IsCallable}
use Rattle.pungi_summary.proofs.callable.are_edges_callable.Given as goal

abbrev pub invariant-loop-edge : goal.invariant-loop-edge
invariant-loop-edge l = All (λ e. IsCallable l.programs l.callees e.action) (take l.edge-index l.program.edges)
