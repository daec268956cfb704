use Rattle.std.proofs.Common.{◌≡◌, drop}
use Rattle.toml.specs.View.{items_view, array_view}
use Rattle.pungi_config.specs.Takes.{params_in}
use Rattle.pungi_config.proofs.Params.{params_after}
use Rattle.pungi_config.proofs.takes.params_in.Given as goal

abbrev pub invariant-loop-value : goal.invariant-loop-value
invariant-loop-value l = record {
  left : params_after l.params (params_in (items_view (drop l.value-index l.values.items)))
      ≡ params_in (array_view l.values);
}
