use Rattle.std.proofs.Common.{◌≡◌, ◌+◌, ◌*◌, ◌<◌, ◌≤◌, ◌^◌, ◌++◌, length, drop, map, max}
use Rattle.pungi_resolved.specs.ValueView.{value_view, values_of}
use Rattle.pungi_resolved.specs.declared.value.Place.{size-Place}
use Rattle.pungi_resolved.specs.declared.value.Value.{size-Value}
use Rattle.pungi_code.specs.Limits.{most_instructions}
use Rattle.pungi_layout.specs.code.ExprCode.{args_code}
use Rattle.pungi_layout.specs.code.Sizes.{values_size}
use Rattle.pungi_layout.specs.code.Sound.{AreSound, values_nodes}
use Rattle.pungi_emit.proofs.expr.+emit.Given as goal

abbrev pub decreases-expr_code::emit_value : goal.decreases-expr_code::emit_value
decreases-expr_code::emit_value l = 4 * goal.size-expr_code::emit_value l

abbrev pub decreases-unary::emit_negated : goal.decreases-unary::emit_negated
decreases-unary::emit_negated l = 4 * goal.size-unary::emit_negated l + 1

abbrev pub decreases-calls::emit_called : goal.decreases-calls::emit_called
decreases-calls::emit_called l = 4 * goal.size-calls::emit_called l + 2

abbrev pub decreases-calls::emit_called_row : goal.decreases-calls::emit_called_row
decreases-calls::emit_called_row l = 4 * goal.size-calls::emit_called_row l + 2

abbrev pub decreases-calls::emit_called_unless_null : goal.decreases-calls::emit_called_unless_null
decreases-calls::emit_called_unless_null l = 4 * goal.size-calls::emit_called_unless_null l + 2

abbrev pub decreases-calls::emit_called_with_outputs : goal.decreases-calls::emit_called_with_outputs
decreases-calls::emit_called_with_outputs l = 4 * goal.size-calls::emit_called_with_outputs l + 2

abbrev pub decreases-calls::emit_args : goal.decreases-calls::emit_args
decreases-calls::emit_args l = 4 * goal.size-calls::emit_args l + 1

abbrev pub decreases-expr_code::emit_base : goal.decreases-expr_code::emit_base
decreases-expr_code::emit_base l = 4 * goal.size-expr_code::emit_base l

abbrev pub decreases-expr_code::emit_held : goal.decreases-expr_code::emit_held
decreases-expr_code::emit_held l = 4 * goal.size-expr_code::emit_held l + 1

abbrev pub decreases-expr_code::emit_stepped : goal.decreases-expr_code::emit_stepped
decreases-expr_code::emit_stepped l = 4 * goal.size-expr_code::emit_stepped l + 2

abbrev pub decreases-expr_code::emit_emptied : goal.decreases-expr_code::emit_emptied
decreases-expr_code::emit_emptied l = 4 * goal.size-expr_code::emit_emptied l + 2

abbrev pub decreases-expr_code::emit_stored : goal.decreases-expr_code::emit_stored
decreases-expr_code::emit_stored l = 4 * max (size-Place l.place.now) (size-Value l.part.now) + 1

abbrev pub decreases-expr_code::emit_updated : goal.decreases-expr_code::emit_updated
decreases-expr_code::emit_updated l = 4 * max (size-Place l.place.now) (size-Value l.part.now) + 2

abbrev pub decreases-expr_code::emit_operands : goal.decreases-expr_code::emit_operands
decreases-expr_code::emit_operands l = 4 * max (size-Value l.a.now) (size-Value l.b.now) + 1

abbrev pub decreases-expr_code::emit_computed : goal.decreases-expr_code::emit_computed
decreases-expr_code::emit_computed l = 4 * max (size-Value l.a.now) (size-Value l.b.now) + 2

abbrev pub decreases-expr_code::emit_compared : goal.decreases-expr_code::emit_compared
decreases-expr_code::emit_compared l = 4 * max (size-Value l.a.now) (size-Value l.b.now) + 2

abbrev pub decreases-unary::emit_signed : goal.decreases-unary::emit_signed
decreases-unary::emit_signed l = 4 * goal.size-unary::emit_signed l + 1

abbrev pub decreases-unary::emit_converted : goal.decreases-unary::emit_converted
decreases-unary::emit_converted l = 4 * goal.size-unary::emit_converted l + 1

abbrev pub decreases-expr_code::emit_joined : goal.decreases-expr_code::emit_joined
decreases-expr_code::emit_joined l = 4 * max (size-Value l.a.now) (size-Value l.b.now) + 1

abbrev pub decreases-expr_code::emit_chosen : goal.decreases-expr_code::emit_chosen
decreases-expr_code::emit_chosen l = 4 * max (size-Value l.c.now) (max (size-Value l.a.now) (size-Value l.b.now)) + 1

abbrev pub invariant-calls::emit_args-loop-arg : goal.invariant-calls::emit_args-loop-arg
invariant-calls::emit_args-loop-arg l = record {
  code :
      l.code ++ args_code l.around.locals l.level (length l.code) l.left (values_of
      (map value_view (drop l.arg-index l.args)))
      ≡ l.initial.code ++ args_code l.around.locals l.depth (length l.initial.code) l.params
      (values_of (map value_view l.args));
  sound : AreSound l.around.locals (values_of (map value_view (drop l.arg-index l.args)));
  deep : l.level + values_nodes (values_of (map value_view (drop l.arg-index l.args))) < 2 ^ 16;
  long : length l.code + values_size (values_of (map value_view (drop l.arg-index l.args))) ≤ most_instructions;
}
