use Rattle.std.proofs.Common.{◌≡◌, ◌++◌, drop, map}
use Rattle.pungi_resolved.specs.ActionView.{action_view}
use Rattle.pungi_emit.specs.planning.Plans.{list_names}
use Rattle.pungi_emit.proofs.planning.labels.block_names.Given as goal

abbrev pub invariant-loop-action : goal.invariant-loop-action
invariant-loop-action l =
    l.names ++ list_names (map action_view (drop l.action-index l.list)) ≡ list_names (map action_view l.list)
