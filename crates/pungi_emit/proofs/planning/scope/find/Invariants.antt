use Rattle.std.proofs.Common.{◌≡◌, drop}
use Rattle.pungi_emit.specs.planning.LabelPlaces.{find}
use Rattle.pungi_emit.proofs.planning.scope.find.Given as goal

abbrev pub invariant-loop-label : goal.invariant-loop-label
invariant-loop-label l = find l.name (drop l.label-index l.placed) ≡ find l.name l.placed
