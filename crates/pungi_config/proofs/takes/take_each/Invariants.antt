use Rattle.std.proofs.Common.{◌≡◌, drop}
use Rattle.toml.specs.View.{items_view, array_view}
use Rattle.pungi_config.specs.Takes.{take_each}
use Rattle.pungi_config.proofs.takes.take_each.Given as goal

abbrev pub invariant-loop-value : goal.invariant-loop-value
invariant-loop-value l = record {
  left : take_each l.params l.take l.takes (items_view (drop l.value-index l.values.items))
      ≡ take_each l.params l.take l.fn.takes (array_view l.values);
}
