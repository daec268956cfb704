use Rattle.std.proofs.Common.{take}
use Rattle.pungi_fixpoint.specs.Turns.{IsIndex}
use Rattle.pungi_fixpoint.proofs.sources.edges_by_source.Given as goal

abbrev pub invariant-loop-i : goal.invariant-loop-i
invariant-loop-i l = IsIndex (take l.i l.edges) l.places l.lists.items
