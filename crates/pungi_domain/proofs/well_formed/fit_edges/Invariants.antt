use Rattle.std.proofs.Common.{All, take}
use Rattle.pungi_domain.specs.Programs.{FitsEdge}
use Rattle.pungi_domain.proofs.well_formed.fit_edges.Given as goal

abbrev pub invariant-loop-edge : goal.invariant-loop-edge
invariant-loop-edge l = All (FitsEdge l.program) (take l.edge-index l.program.edges)
