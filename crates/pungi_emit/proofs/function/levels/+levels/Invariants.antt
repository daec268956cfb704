use Rattle.std.proofs.Common.{◌≡◌, ◌+◌, ◌≤◌, drop, map}
use Rattle.std.specs.Prelude.{max}
use Rattle.pungi_resolved.specs.ValueView.{value_view, values_of}
use Rattle.pungi_layout.specs.code.Levels.{values_levels}
use Rattle.pungi_layout.specs.code.Sound.{values_nodes}
use Rattle.pungi_emit.proofs.function.levels.+levels.Given as goal

abbrev pub invariant-values_levels-loop-arg : goal.invariant-values_levels-loop-arg
invariant-values_levels-loop-arg l =
    (max l.most (l.below + values_levels (values_of (map value_view (drop l.arg-index l.args))))
    ≡ values_levels (values_of (map value_view l.args)))
    × (l.below ≤ l.most)
    × (l.most ≤ values_nodes (values_of (map value_view l.args)))
    × (l.below + values_nodes (values_of (map value_view (drop l.arg-index l.args)))
    ≤ values_nodes (values_of (map value_view l.args)))
