use Rattle.std.proofs.Common.{◌≡◌, ◌≤◌, drop, map}
use Rattle.std.specs.Prelude.{max}
use Rattle.pungi_resolved.specs.ActionView.{declared_view}
use Rattle.pungi_layout.specs.code.Levels.{declare_levels}
use Rattle.pungi_layout.specs.code.Sound.{declare_nodes}
use Rattle.pungi_emit.proofs.function.levels.declare_levels.Given as goal

abbrev pub invariant-loop-reached : goal.invariant-loop-reached
invariant-loop-reached l =
    (max l.most (declare_levels (map declared_view (drop l.reached-index l.list)))
    ≡ declare_levels (map declared_view l.list))
    × (declare_nodes (map declared_view (drop l.reached-index l.list)) ≤ declare_nodes (map declared_view l.list))
