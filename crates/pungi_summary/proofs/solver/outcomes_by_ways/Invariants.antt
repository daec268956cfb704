use Rattle.std.proofs.Common.{◌≡◌, map, take}
use Rattle.pungi_summary.specs.Worklist.{first_outcome}
use Rattle.pungi_summary.proofs.solver.outcomes_by_ways.Given as goal

abbrev pub invariant-loop-way : goal.invariant-loop-way
invariant-loop-way l = l.outcomes.items ≡ map first_outcome (take l.way-index l.ways)
