use Rattle.std.proofs.Common.{◌≡◌, [], drop}
use Rattle.toml.specs.View.{items_view, array_view}
use Rattle.pungi_config.specs.Conventions.{take_places}
use Rattle.pungi_config.proofs.conventions.take_places.Given as goal

abbrev pub invariant-loop-value : goal.invariant-loop-value
invariant-loop-value l = record {
  left : take_places l.taken (items_view (drop l.value-index l.values.items)) ≡ take_places [] (array_view l.values);
}
