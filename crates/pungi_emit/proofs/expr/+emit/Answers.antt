use Rattle.std.proofs.Common.{◌≡◌, ◌+◌, ◌<◌, ◌≤◌, ◌^◌, List, ◌∷◌, ◌++◌, length, map, drop, get_or, sym, ap, ◌∙◌, subst}
use Rattle.std.proofs.Common.{arith}
use Rattle.std.proofs.lemmas.List.{length-map}
use denote.Param.Weighed.{at_most}
use Rattle.pungi_resolved.specs.ValueView.{value_view, values_of, place_view}
use Rattle.pungi_resolved.specs.declared.value.Value.{Value as Node, size-Value}
use Rattle.pungi_code.specs.declared.instr.Instr.TheVariants.{Fall}
use Rattle.pungi_layout.specs.code.CallKinds.{call_params}
use Rattle.pungi_layout.specs.code.ExprCode.{line, args_code, row_code, call_code, unless_null_code}
use Rattle.pungi_layout.specs.code.Sizes.{values_size, missing_size}
use Rattle.pungi_layout.specs.code.Sound.{AreSound, values_nodes}
use Rattle.pungi_layout.specs.code.Temporaries.{operand, front_column}
use Rattle.pungi_layout.proofs.code.LevelLemmas.{some_nodes}
use Rattle.pungi_emit.specs.expr.Outputs.{with_outputs_code}
use Rattle.pungi_emit.proofs.expr.ExprCode.{operands_emitted, stored_emitted, updated_emitted, negated_emitted}
use Rattle.pungi_emit.proofs.expr.ExprCode.{joined_emitted, chosen_emitted, call_emitted, arg_emitted, placed_emitted}
use Rattle.pungi_emit.proofs.expr.ExprCode.{put_grown, value_grown, base_grown, held_grown, args_grown, as_listed}
use Rattle.pungi_emit.proofs.expr.Arguments.{args_few}
use Rattle.pungi_emit.proofs.code.Lists.{next_one}
use Rattle.pungi_emit.proofs.expr.+emit.Goals as goal

pub expr_code::emit_chosen-returns : goal.expr_code::emit_chosen-returns
expr_code::emit_chosen-returns t c =
    let hole = line c.args.pos Fall in
    let e1 = rw c.temp_of-value.ensures at c.in_ok-emit_value.ensures in
    let e10 = rw (c.branch_on-branch.ensures, c.temp_of-value.ensures, c.first_token-token.ensures) at
    c.replace-2.ensures in
    chosen_emitted c.args.around.locals c.args.depth c.args.target c.next_place-test.result c.next_place-jump.result
    c.next_place-end.result c.args.pos (value_view c.args.c.now) (value_view c.args.a.now) (value_view c.args.b.now)
    hole
    hole c.args.code.now c.emit_value.new.code c.put.new.code c.emit_value-2.new.code c.put-2.new.code
    c.emit_value-3.new.code c.replace.new.code c.replace-2.new.code e1 c.next_place-test.ensures
    c.in_ok-put.ensures c.in_ok-emit_value-2.ensures c.next_place-jump.ensures c.in_ok-put-2.ensures
    c.in_ok-emit_value-3.ensures c.next_place-end.ensures c.replace.ensures e10

pub expr_code::emit_joined-returns : goal.expr_code::emit_joined-returns
expr_code::emit_joined-returns t c =
    let e1 = rw (c.bit.ensures, c.is_and-on.ensures) at c.in_ok-put.ensures in
    let e2 = rw c.temp_of-left.ensures at c.in_ok-emit_value.ensures in
    let e5 = rw c.temp_of-right.ensures at c.in_ok-emit_value-2.ensures in
    let e7 = rw (
      c.branch_on-first.ensures,
      c.is_and-on.ensures,
      c.temp_of-left.ensures,
      c.first_token-left_token.ensures,
    ) at c.replace.ensures in
    let e8 = rw (
      c.branch_on-second.ensures,
      c.is_and-on.ensures,
      c.temp_of-right.ensures,
      c.first_token-right_token.ensures,
    ) at c.in_ok-put-3.ensures in
    let e9 = rw (c.bit-2.ensures, c.is_and-on.ensures) at c.in_ok-put-4.ensures in
    joined_emitted c.args.around.locals c.args.depth c.args.target c.next_place-test.result c.next_place-last.result
    c.args.pos
    c.args.mark (value_view c.args.a.now) (value_view c.args.b.now) (line c.args.pos Fall) c.args.code.now
    c.put.new.code c.emit_value.new.code c.put-2.new.code c.emit_value-2.new.code c.replace.new.code
    c.put-3.new.code c.put-4.new.code e1 e2 c.next_place-test.ensures c.in_ok-put-2.ensures e5
    c.next_place-last.ensures e7 e8 e9

pub unary::emit_negated-returns : goal.unary::emit_negated-returns
unary::emit_negated-returns t c =
    let e1 = rw c.bit.ensures at c.in_ok-put.ensures in
    let e2 = rw c.temp_of-value.ensures at c.in_ok-emit_value.ensures in
    let e4 = rw (c.branch_on-branch.ensures, c.temp_of-value.ensures) at c.in_ok-put-2.ensures in
    let e5 = rw c.bit-2.ensures at c.in_ok-put-3.ensures in
    negated_emitted c.args.around.locals c.args.depth c.args.target c.next_place-test.result c.args.pos
    (value_view c.args.part.now) c.args.code.now c.put.new.code c.emit_value.new.code c.put-2.new.code
    c.put-3.new.code e1 e2 c.next_place-test.ensures e4 e5

pub expr_code::emit_operands-returns : goal.expr_code::emit_operands-returns
expr_code::emit_operands-returns t c =
    operands_emitted c.args.around.locals c.args.depth c.args.left c.args.right (value_view c.args.a.now)
    (value_view c.args.b.now) c.args.code.now c.emit_value.new.code c.emit_value-2.new.code
    c.in_ok-emit_value.ensures c.in_ok-emit_value-2.ensures

pub expr_code::emit_stored-returns : goal.expr_code::emit_stored-returns
expr_code::emit_stored-returns t c =
    let e2 = rw (c.above-level.ensures.above, c.stored_var-value.ensures) at c.in_ok-emit_value.ensures in
    let e3 = rw (c.base_var-base.ensures, c.stored_var-value.ensures) at c.in_ok-emit_store.ensures in
    stored_emitted c.args.around.locals c.args.depth c.args.target c.args.pos c.args.kind
    (place_view c.args.place.now) (value_view c.args.part.now) c.args.code.now c.emit_base.new.code
    c.emit_value.new.code c.emit_store.new.code c.in_ok-emit_base.ensures e2 e3

pub expr_code::emit_updated-returns : goal.expr_code::emit_updated-returns
expr_code::emit_updated-returns t c =
    let e1 = rw (c.temp-old.ensures, c.above-level.ensures.above) at c.in_ok-emit_held.ensures in
    let e2 = rw (c.temp_of-right.ensures, c.above-level.ensures.above) at
    c.in_ok-emit_value.ensures in
    let e3 = rw (
      c.counted_var-outcome.ensures,
      c.of.ensures,
      c.atom.ensures,
      c.atom-2.ensures,
      c.temp-old.ensures,
      c.temp_of-right.ensures,
      c.above-level.ensures.above,
    ) at c.in_ok-put.ensures in
    let e4 = rw (c.stored_var-value.ensures, c.counted_var-outcome.ensures) at c.in_ok-emit_fit.ensures in
    let e5 = rw (c.base_var-base.ensures, c.stored_var-value.ensures) at c.in_ok-emit_store.ensures in
    updated_emitted c.args.around.locals c.args.depth c.args.target c.args.pos c.args.mark c.args.counted
    c.args.kind (place_view c.args.place.now) (value_view c.args.part.now) c.args.code.now c.emit_held.new.code
    c.emit_value.new.code c.put.new.code c.emit_fit.new.code c.emit_store.new.code e1 e2 e3 e4 e5

pub calls::emit_called-returns : goal.calls::emit_called-returns
calls::emit_called-returns t c =
    let nl = c.args.around.locals in
    let e = rw (c.as_slice.ensures, c.in_ok-params.ensures) at c.in_ok-emit_args.ensures in
    call_emitted nl c.args.depth (call_params c.args.f.now) (map value_view c.args.args.now)
    (call_code nl c.args.depth c.args.target c.args.pos c.args.f.now) c.args.code.now c.emit_args.new.code
    c.emit_call.new.code e c.in_ok-emit_call.ensures

pub calls::emit_called_row-returns : goal.calls::emit_called_row-returns
calls::emit_called_row-returns t c =
    let nl = c.args.around.locals in
    let e = rw (c.as_slice.ensures, c.get.ensures) at c.in_ok-emit_args.ensures in
    call_emitted nl c.args.depth c.args.signature.now.params (map value_view c.args.args.now)
    (row_code nl c.args.depth c.args.target c.args.pos c.args.signature.now) c.args.code.now c.emit_args.new.code
    c.emit_row.new.code e c.in_ok-emit_row.ensures

pub calls::emit_called_unless_null-returns : goal.calls::emit_called_unless_null-returns
calls::emit_called_unless_null-returns t c =
    let nl = c.args.around.locals in
    let e = rw (c.as_slice.ensures, c.get.ensures) at c.in_ok-emit_args.ensures in
    placed_emitted nl c.args.depth c.args.signature.now.params (map value_view c.args.args.now)
    (λ n vs. unless_null_code nl c.args.depth c.args.target c.args.pos n c.args.signature.now vs) c.args.code.now
    c.emit_args.new.code c.emit_unless_null.new.code e c.in_ok-emit_unless_null.ensures

pub calls::emit_called_with_outputs-returns : goal.calls::emit_called_with_outputs-returns
calls::emit_called_with_outputs-returns t c =
    let nl = c.args.around.locals in
    let e = rw (c.as_slice.ensures, c.get.ensures) at c.in_ok-emit_args.ensures in
    placed_emitted nl c.args.depth c.args.signature.now.params (map value_view c.args.args.now)
    (λ n vs. with_outputs_code nl c.args.depth c.args.target c.args.pos n c.args.signature.now vs c.args.steps.now)
    c.args.code.now c.emit_args.new.code c.emit_with_outputs.new.code e c.in_ok-emit_with_outputs.ensures

pub calls::emit_args-loop-arg-preserved : goal.calls::emit_args-loop-arg-preserved
calls::emit_args-loop-arg-preserved t c =
    let xs = c.args.args.now in
    let i = c.loop-arg.arg-index in
    let s : i < length xs = omega arith in
    let r : c.arg-item.result ≡ get_or xs i c.arg-item.result = c.arg-item.is in
    let d = next_one xs i c.arg-item.result s r in
    let nl = c.args.around.locals in
    let so_far = c.loop-arg.code in
    let level = c.loop-arg.level in
    let left = c.loop-arg.left.now in
    let e = rw (c.operand-target.ensures, c.front_column.ensures) at c.in_ok-emit_value.ensures in
    let step = arg_emitted nl level left (value_view c.arg-item.result) (values_of
    (map value_view (drop (i + 1) xs))) so_far c.emit_value.new.code e in
    let S : List Node → Type 0 = λ ys. AreSound nl (values_of (map value_view ys)) in
    let D : List Node → Type 0 = λ ys. level + values_nodes (values_of (map value_view ys)) < 2 ^ 16 in
    let L : List Node → Type 0 = λ ys. length so_far + values_size (values_of (map value_view ys)) ≤ 2 ^ 14 in
    let v = value_view c.arg-item.result in
    let sound : S (c.arg-item.result ∷ drop (i + 1) xs) = subst S d c.loop-arg.invariant.sound in
    let deep : D (c.arg-item.result ∷ drop (i + 1) xs) = subst D d c.loop-arg.invariant.deep in
    let long : L (c.arg-item.result ∷ drop (i + 1) xs) = subst L d c.loop-arg.invariant.long in
    let n = value_grown nl level (operand nl level (front_column left) v) v so_far c.emit_value.new.code e in
    record {
      code = rw c.tail-left.ensures (sym step ∙ ap (λ ys. so_far
          ++ args_code nl level (length so_far) left (values_of (map value_view ys))) (sym d)
          ∙ c.loop-arg.invariant.code);
      sound = sound.2;
      deep = omega (arith, deep, some_nodes v);
      long = omega (arith, long, n);
    }

pub calls::emit_args-emit_value-requires : goal.calls::emit_args-emit_value-requires
calls::emit_args-emit_value-requires t c =
    let xs = c.args.args.now in
    let i = c.loop-arg.arg-index in
    let s : i < length xs = omega arith in
    let d = next_one xs i c.arg-item.result s c.arg-item.is in
    let nl = c.args.around.locals in
    let S : List Node → Type 0 = λ ys. AreSound nl (values_of (map value_view ys)) in
    let D : List Node → Type 0 = λ ys. c.loop-arg.level + values_nodes (values_of (map value_view ys)) < 2 ^ 16 in
    let L : List Node → Type 0 = λ ys. length c.loop-arg.code + values_size (values_of (map value_view ys)) ≤ 2 ^ 14 in
    let sound : S (c.arg-item.result ∷ drop (i + 1) xs) = subst S d c.loop-arg.invariant.sound in
    let deep : D (c.arg-item.result ∷ drop (i + 1) xs) = subst D d c.loop-arg.invariant.deep in
    let long : L (c.arg-item.result ∷ drop (i + 1) xs) = subst L d c.loop-arg.invariant.long in (
      omega (arith, at_most size-Value xs i c.arg-item.result s, ap size-Value c.arg-item.is),
      (sound.1, (omega (arith, deep), omega (arith, long))),
    )

-- .. the code stays within its limit

pub expr_code::emit_stepped-emit_held-requires : goal.expr_code::emit_stepped-emit_held-requires
expr_code::emit_stepped-emit_held-requires t c =
    let n = put_grown _ c.args.code.now c.put.new.code c.in_ok-put.ensures in
    (omega arith, (c.requires.sound, (omega (arith, c.requires.deep), omega (arith, n, c.requires.long))))

pub expr_code::emit_emptied-emit_held-requires : goal.expr_code::emit_emptied-emit_held-requires
expr_code::emit_emptied-emit_held-requires t c =
    let n = put_grown _ c.args.code.now c.put.new.code c.in_ok-put.ensures in
    (omega arith, (c.requires.sound, (omega (arith, c.requires.deep), omega (arith, n, c.requires.long))))

pub expr_code::emit_stored-emit_value-requires : goal.expr_code::emit_stored-emit_value-requires
expr_code::emit_stored-emit_value-requires t c =
    let n = base_grown c.args.around.locals c.args.depth (place_view c.args.place.now) c.args.code.now
    c.emit_base.new.code c.in_ok-emit_base.ensures in (
      omega arith,
      (
        c.requires.sound.2,
        (
          omega (arith, c.above-level.ensures.low, c.requires.deep),
          omega
              (arith, n, c.requires.long),
        ),
      ),
    )

pub expr_code::emit_updated-emit_value-requires : goal.expr_code::emit_updated-emit_value-requires
expr_code::emit_updated-emit_value-requires t c =
    let n = held_grown c.args.around.locals c.args.depth c.temp-old.result _ c.args.kind
    (place_view c.args.place.now) c.args.code.now c.emit_held.new.code c.in_ok-emit_held.ensures in (
      omega arith,
      (
        c.requires.sound.2,
        (
          omega (arith, c.above-level.ensures.low, c.requires.deep),
          omega
              (arith, n, c.requires.long),
        ),
      ),
    )

pub expr_code::emit_operands-emit_value-requires-2 : goal.expr_code::emit_operands-emit_value-requires-2
expr_code::emit_operands-emit_value-requires-2 t c =
    let n = value_grown c.args.around.locals c.args.depth c.args.left (value_view c.args.a.now) c.args.code.now
    c.emit_value.new.code c.in_ok-emit_value.ensures in
    (omega arith, (c.requires.sound.1, (omega (arith, c.requires.deep), omega (arith, n, c.requires.long))))

pub unary::emit_negated-emit_value-requires : goal.unary::emit_negated-emit_value-requires
unary::emit_negated-emit_value-requires t c =
    let n = put_grown _ c.args.code.now c.put.new.code c.in_ok-put.ensures in
    (omega arith, (c.requires.sound.1, (omega (arith, c.requires.deep), omega (arith, n, c.requires.long))))

pub unary::emit_negated-next_place-test-requires : goal.unary::emit_negated-next_place-test-requires
unary::emit_negated-next_place-test-requires t c =
    let n = put_grown _ c.args.code.now c.put.new.code c.in_ok-put.ensures in
    let m = value_grown c.args.around.locals (c.args.depth + 1) c.temp_of-value.result (value_view c.args.part.now)
    c.put.new.code c.emit_value.new.code c.in_ok-emit_value.ensures in
    omega (arith, n, m, c.requires.long)

pub expr_code::emit_joined-emit_value-requires : goal.expr_code::emit_joined-emit_value-requires
expr_code::emit_joined-emit_value-requires t c =
    let n = put_grown _ c.args.code.now c.put.new.code c.in_ok-put.ensures in
    (omega arith, (c.requires.sound.1, (omega (arith, c.requires.deep), omega (arith, n, c.requires.long))))

pub expr_code::emit_joined-next_place-test-requires : goal.expr_code::emit_joined-next_place-test-requires
expr_code::emit_joined-next_place-test-requires t c =
    let n = put_grown _ c.args.code.now c.put.new.code c.in_ok-put.ensures in
    let m = value_grown c.args.around.locals (c.args.depth + 1) c.temp_of-left.result (value_view c.args.a.now)
    c.put.new.code c.emit_value.new.code c.in_ok-emit_value.ensures in
    omega (arith, n, m, c.requires.long)

pub expr_code::emit_joined-emit_value-requires-2 : goal.expr_code::emit_joined-emit_value-requires-2
expr_code::emit_joined-emit_value-requires-2 t c =
    let n = put_grown _ c.args.code.now c.put.new.code c.in_ok-put.ensures in
    let m = value_grown c.args.around.locals (c.args.depth + 1) c.temp_of-left.result (value_view c.args.a.now)
    c.put.new.code c.emit_value.new.code c.in_ok-emit_value.ensures in
    let k = put_grown _ c.emit_value.new.code c.put-2.new.code c.in_ok-put-2.ensures in
    (omega arith, (c.requires.sound.3, (omega (arith, c.requires.deep), omega (arith, n, m, k, c.requires.long))))

pub expr_code::emit_joined-next_place-last-requires : goal.expr_code::emit_joined-next_place-last-requires
expr_code::emit_joined-next_place-last-requires t c =
    let n = put_grown _ c.args.code.now c.put.new.code c.in_ok-put.ensures in
    let m = value_grown c.args.around.locals (c.args.depth + 1) c.temp_of-left.result (value_view c.args.a.now)
    c.put.new.code c.emit_value.new.code c.in_ok-emit_value.ensures in
    let k = put_grown _ c.emit_value.new.code c.put-2.new.code c.in_ok-put-2.ensures in
    let l = value_grown c.args.around.locals (c.args.depth + 1) c.temp_of-right.result (value_view c.args.b.now)
    c.put-2.new.code c.emit_value-2.new.code c.in_ok-emit_value-2.ensures in
    omega (arith, n, m, k, l, c.requires.long)

pub expr_code::emit_chosen-next_place-test-requires : goal.expr_code::emit_chosen-next_place-test-requires
expr_code::emit_chosen-next_place-test-requires t c =
    let n = value_grown c.args.around.locals c.args.depth c.temp_of-value.result (value_view c.args.c.now)
    c.args.code.now c.emit_value.new.code c.in_ok-emit_value.ensures in
    omega (arith, n, c.requires.long)

pub expr_code::emit_chosen-emit_value-requires-2 : goal.expr_code::emit_chosen-emit_value-requires-2
expr_code::emit_chosen-emit_value-requires-2 t c =
    let n = value_grown c.args.around.locals c.args.depth c.temp_of-value.result (value_view c.args.c.now)
    c.args.code.now c.emit_value.new.code c.in_ok-emit_value.ensures in
    let m = put_grown _ c.emit_value.new.code c.put.new.code c.in_ok-put.ensures in
    (omega arith, (c.requires.sound.3, (omega (arith, c.requires.deep), omega (arith, n, m, c.requires.long))))

pub expr_code::emit_chosen-next_place-jump-requires : goal.expr_code::emit_chosen-next_place-jump-requires
expr_code::emit_chosen-next_place-jump-requires t c =
    let n = value_grown c.args.around.locals c.args.depth c.temp_of-value.result (value_view c.args.c.now)
    c.args.code.now c.emit_value.new.code c.in_ok-emit_value.ensures in
    let m = put_grown _ c.emit_value.new.code c.put.new.code c.in_ok-put.ensures in
    let k = value_grown c.args.around.locals c.args.depth c.args.target (value_view c.args.a.now) c.put.new.code
    c.emit_value-2.new.code c.in_ok-emit_value-2.ensures in
    omega (arith, n, m, k, c.requires.long)

pub expr_code::emit_chosen-emit_value-requires-3 : goal.expr_code::emit_chosen-emit_value-requires-3
expr_code::emit_chosen-emit_value-requires-3 t c =
    let n = value_grown c.args.around.locals c.args.depth c.temp_of-value.result (value_view c.args.c.now)
    c.args.code.now c.emit_value.new.code c.in_ok-emit_value.ensures in
    let m = put_grown _ c.emit_value.new.code c.put.new.code c.in_ok-put.ensures in
    let k = value_grown c.args.around.locals c.args.depth c.args.target (value_view c.args.a.now) c.put.new.code
    c.emit_value-2.new.code c.in_ok-emit_value-2.ensures in
    let l = put_grown _ c.emit_value-2.new.code c.put-2.new.code c.in_ok-put-2.ensures in
    (omega arith, (c.requires.sound.5, (omega (arith, c.requires.deep), omega (arith, n, m, k, l, c.requires.long))))

pub expr_code::emit_chosen-next_place-end-requires : goal.expr_code::emit_chosen-next_place-end-requires
expr_code::emit_chosen-next_place-end-requires t c =
    let n = value_grown c.args.around.locals c.args.depth c.temp_of-value.result (value_view c.args.c.now)
    c.args.code.now c.emit_value.new.code c.in_ok-emit_value.ensures in
    let m = put_grown _ c.emit_value.new.code c.put.new.code c.in_ok-put.ensures in
    let k = value_grown c.args.around.locals c.args.depth c.args.target (value_view c.args.a.now) c.put.new.code
    c.emit_value-2.new.code c.in_ok-emit_value-2.ensures in
    let l = put_grown _ c.emit_value-2.new.code c.put-2.new.code c.in_ok-put-2.ensures in
    let o = value_grown c.args.around.locals c.args.depth c.args.target (value_view c.args.b.now) c.put-2.new.code
    c.emit_value-3.new.code c.in_ok-emit_value-3.ensures in
    omega (arith, n, m, k, l, o, c.requires.long)

pub calls::emit_called-emit_call-requires : goal.calls::emit_called-emit_call-requires
calls::emit_called-emit_call-requires t c =
    let n = args_few (map value_view c.args.args.now) in
    let m = length-map c.args.args.now value_view in record {
      few = omega (arith, n, m, c.requires.deep);
      params = c.as_slice-2.ensures ∙ c.in_ok-params.ensures;
    }

pub calls::emit_called_row-emit_row-requires : goal.calls::emit_called_row-emit_row-requires
calls::emit_called_row-emit_row-requires t c =
    let n = args_few (map value_view c.args.args.now) in
    let m = length-map c.args.args.now value_view in
    omega (arith, n, m, c.requires.deep)

pub calls::emit_called_unless_null-emit_unless_null-requires :
    goal.calls::emit_called_unless_null-emit_unless_null-requires
calls::emit_called_unless_null-emit_unless_null-requires t c =
    let vs = map value_view c.args.args.now in
    let ps = c.args.signature.now.params in
    let e = rw (c.as_slice.ensures, c.get.ensures) at c.in_ok-emit_args.ensures in
    let n = args_few vs in
    let m = length-map c.args.args.now value_view in
    let k = args_grown c.args.around.locals c.args.depth ps (values_of vs) c.args.code.now c.emit_args.new.code e in
    let l = ap (missing_size ps) (as_listed vs) in record {
      few = omega (arith, n, m, c.requires.deep);
      long = omega (arith, k, l, c.requires.long);
    }

pub calls::emit_called_with_outputs-emit_with_outputs-requires :
    goal.calls::emit_called_with_outputs-emit_with_outputs-requires
calls::emit_called_with_outputs-emit_with_outputs-requires t c =
    let vs = map value_view c.args.args.now in
    let ps = c.args.signature.now.params in
    let e = rw (c.as_slice.ensures, c.get.ensures) at c.in_ok-emit_args.ensures in
    let n = args_few vs in
    let m = length-map c.args.args.now value_view in
    let k = args_grown c.args.around.locals c.args.depth ps (values_of vs) c.args.code.now c.emit_args.new.code e in
    record {
      sound = c.requires.sound.1;
      few = omega (arith, n, m, c.requires.deep);
      long = omega (arith, k, c.requires.long);
    }

pub unary::emit_negated-overflow_add-test : goal.unary::emit_negated-overflow_add-test
unary::emit_negated-overflow_add-test t c =
    let n = put_grown _ c.args.code.now c.put.new.code c.in_ok-put.ensures in
    let m = value_grown c.args.around.locals (c.args.depth + 1) c.temp_of-value.result (value_view c.args.part.now)
    c.put.new.code c.emit_value.new.code c.in_ok-emit_value.ensures in
    omega (arith, n, m, c.next_place-test.ensures, c.requires.long)

pub unary::emit_negated-overflow_add-test-2 : goal.unary::emit_negated-overflow_add-test-2
unary::emit_negated-overflow_add-test-2 t c =
    let n = put_grown _ c.args.code.now c.put.new.code c.in_ok-put.ensures in
    let m = value_grown c.args.around.locals (c.args.depth + 1) c.temp_of-value.result (value_view c.args.part.now)
    c.put.new.code c.emit_value.new.code c.in_ok-emit_value.ensures in
    omega (arith, n, m, c.next_place-test.ensures, c.requires.long)

pub expr_code::emit_joined-overflow_add-end : goal.expr_code::emit_joined-overflow_add-end
expr_code::emit_joined-overflow_add-end t c =
    let n = put_grown _ c.args.code.now c.put.new.code c.in_ok-put.ensures in
    let m = value_grown c.args.around.locals (c.args.depth + 1) c.temp_of-left.result (value_view c.args.a.now)
    c.put.new.code c.emit_value.new.code c.in_ok-emit_value.ensures in
    let k = put_grown _ c.emit_value.new.code c.put-2.new.code c.in_ok-put-2.ensures in
    let l = value_grown c.args.around.locals (c.args.depth + 1) c.temp_of-right.result (value_view c.args.b.now)
    c.put-2.new.code c.emit_value-2.new.code c.in_ok-emit_value-2.ensures in
    omega (arith, n, m, k, l, c.next_place-last.ensures, c.requires.long)
