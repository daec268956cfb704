use Rattle.std.proofs.Common.{◌≡◌, take}
use Rattle.pungi_emit.specs.planning.Plans.{names_of, places_of}
use Rattle.pungi_emit.proofs.planning.labels.place_all.Given as goal

abbrev pub invariant-loop-i : goal.invariant-loop-i
invariant-loop-i l = record {
  names : names_of l.labels.items ≡ take l.i l.names;
  places : places_of l.labels.items ≡ take l.i l.places;
}
