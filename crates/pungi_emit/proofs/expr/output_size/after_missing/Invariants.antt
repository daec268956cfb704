use Rattle.std.proofs.Common.{◌≡◌, ◌+◌, drop, map}
use Rattle.pungi_resolved.specs.ValueView.{value_view}
use Rattle.pungi_layout.specs.code.Sizes.{missing_size}
use Rattle.pungi_emit.proofs.expr.output_size.after_missing.Given as goal

abbrev pub invariant-loop-arg : goal.invariant-loop-arg
invariant-loop-arg l =
    l.place + missing_size l.left (map value_view (drop l._arg-index l.args))
    ≡ l.from + missing_size l.params (map value_view l.args)
