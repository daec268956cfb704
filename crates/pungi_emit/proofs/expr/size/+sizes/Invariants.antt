use Rattle.std.proofs.Common.{◌≡◌, ◌+◌, drop, map}
use Rattle.pungi_resolved.specs.ValueView.{value_view, values_of}
use Rattle.pungi_layout.specs.code.Sizes.{values_size}
use Rattle.pungi_emit.proofs.expr.size.+sizes.Given as goal

abbrev pub invariant-after_values-loop-arg : goal.invariant-after_values-loop-arg
invariant-after_values-loop-arg l =
    l.place + values_size (values_of (map value_view (drop l.arg-index l.args)))
    ≡ l.from + values_size (values_of (map value_view l.args))
