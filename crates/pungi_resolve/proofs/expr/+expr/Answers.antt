use borrow.Author.Rules.{get_or_read}
use Rattle.std.proofs.Common.{◌≡◌, ◌∙◌, ◌<◌, ◌≤◌, ◌+◌, ◌&&◌, true, false, List, [], ◌∷◌, ◌++◌, length, get_or, drop}
use Rattle.std.proofs.Common.{append_assoc, map, sym, ap, subst, arith, rules}
use Rattle.std.proofs.lemmas.List.{append-nil, drop_all}
use Rattle.pungi_tree.specs.ExprView.{expr_view, exprs_of, type_name_view}
use Rattle.pungi_tree.specs.declared.declr.Tail.TheFolds.{the_lemmas}
use Rattle.pungi_tree.specs.declared.expr.Expr.{Expr}
use Rattle.pungi_types.specs.Calls.{is_module_address, is_place, wants_module, wants_place, wants_output, other_wants}
use Rattle.pungi_types.specs.Calls.{callee, call_wants, argument_form, first_met}
use Rattle.pungi_types.specs.Exprs.{kind_of, operand, are_met}
use Rattle.pungi_types.specs.WantsView.{wants_view}
use Rattle.pungi_resolve.specs.Exprs.{resolve, place_of, resolve_all, given_param, given_params, callee_name}
use Rattle.pungi_resolve.specs.Outputs.{output_of, outputs_of}
use Rattle.pungi_resolve.specs.Sound.{is_sound, are_sound, is_sound_place}
use Rattle.pungi_resolved.specs.ValueView.{value_view}
use Rattle.pungi_resolve.specs.Arguments.{argument_in, argument_values}
use Rattle.pungi_resolve.proofs.Clean.{and_true}
use Rattle.pungi_resolve.proofs.ListLemmas.{values_before, values_before-append, values_before-all, next_one}
use Rattle.pungi_resolve.proofs.OperandLemmas.{binary-operands, assign-sides, cond-choices, cast-operand}
use Rattle.pungi_resolve.proofs.OperandLemmas.{made-operand}
use Rattle.pungi_resolve.proofs.OperandLemmas.{argument-place, argument-operand, neither-left, neither-right}
use Rattle.pungi_resolve.proofs.OperandLemmas.{argument-sound, rest-sound, resolve_all-next, and-grouped}
use Rattle.pungi_resolve.proofs.CallArguments.{call-args}
use Rattle.pungi_resolve.proofs.expr.+expr.Goals as goal
use Rattle.pungi_resolve.proofs.expr.+expr.Goals.{resolve_arg-else-wants_module-via-then-wants_module+else-is_module_address}
use Rattle.pungi_resolve.proofs.expr.+expr.Goals.{resolve_arg-else-wants_module-via-else-wants_module}
use Rattle.pungi_resolve.proofs.expr.+expr.Goals.{resolve_arg-else-wants_place-via-then-wants_place+else-is_place}
use Rattle.pungi_resolve.proofs.expr.+expr.Goals.{resolve_arg-else-wants_place-via-else-wants_place}

pub resolve_expr-resolve_expr-requires : goal.resolve_expr-resolve_expr-requires
resolve_expr-resolve_expr-requires g t c κs within =
    let env = g.N.Lookup.env c.args.names.now in
    let P : Expr → Type 0 = λ x. is_sound (resolve env (expr_view x)) ≡ true in
    let k = binary-operands env c.args.e.now c.in-Binary.operator c.in-Binary.a c.in-Binary.b c.in-Binary.is
    c.requires in
    let h : is_sound (resolve env (expr_view c.deref-in-Binary.result.now))
    ≡ true = subst P (sym c.deref-in-Binary.ensures) k.first in
    (search (rules, the_lemmas), (search rules, h))

pub resolve_expr-resolve_expr-requires-in-Binary : goal.resolve_expr-resolve_expr-requires-in-Binary
resolve_expr-resolve_expr-requires-in-Binary g t c κs within =
    let env = g.N.Lookup.env c.args.names.now in
    let P : Expr → Type 0 = λ x. is_sound (resolve env (expr_view x)) ≡ true in
    let k = binary-operands env c.args.e.now c.in-Binary.operator c.in-Binary.a c.in-Binary.b c.in-Binary.is
    c.requires in
    let h : is_sound (resolve env (expr_view c.deref-in-Binary-2.result.now))
    ≡ true = subst P (sym c.deref-in-Binary-2.ensures) k.second in
    (search (rules, the_lemmas), (search rules, h))

pub resolve_expr-resolve_place-requires : goal.resolve_expr-resolve_place-requires
resolve_expr-resolve_place-requires g t c κs within =
    let env = g.N.Lookup.env c.args.names.now in
    let P : Expr → Type 0 = λ x. is_sound_place (place_of env (expr_view x)) ≡ true in
    let k = assign-sides env c.args.e.now c.in-Assign.operator c.in-Assign.a c.in-Assign.b c.in-Assign.is c.requires in
    let h : is_sound_place (place_of env (expr_view c.deref-in-Assign-2.result.now))
    ≡ true = subst P (sym c.deref-in-Assign-2.ensures) k.place in
    (search (rules, the_lemmas), (search rules, h))

pub resolve_expr-resolve_expr-requires-in-Assign : goal.resolve_expr-resolve_expr-requires-in-Assign
resolve_expr-resolve_expr-requires-in-Assign g t c κs within =
    let env = g.N.Lookup.env c.args.names.now in
    let P : Expr → Type 0 = λ x. is_sound (resolve env (expr_view x)) ≡ true in
    let k = assign-sides env c.args.e.now c.in-Assign.operator c.in-Assign.a c.in-Assign.b c.in-Assign.is c.requires in
    let h : is_sound (resolve env (expr_view c.deref-in-Assign-3.result.now))
    ≡ true = subst P (sym c.deref-in-Assign-3.ensures) k.value in
    (search (rules, the_lemmas), (search rules, h))

pub resolve_expr-resolve_expr-requires-in-Cond : goal.resolve_expr-resolve_expr-requires-in-Cond
resolve_expr-resolve_expr-requires-in-Cond g t c κs within =
    let env = g.N.Lookup.env c.args.names.now in
    let P : Expr → Type 0 = λ x. is_sound (resolve env (expr_view x)) ≡ true in
    let k = cond-choices env c.args.e.now c.in-Cond.test c.in-Cond.yes c.in-Cond.no c.in-Cond.is c.requires in
    let h : is_sound (resolve env (expr_view c.deref-in-Cond.result.now))
    ≡ true = subst P (sym c.deref-in-Cond.ensures) k.test in
    (search (rules, the_lemmas), (search rules, h))

pub resolve_expr-resolve_expr-requires-in-Cond-2 : goal.resolve_expr-resolve_expr-requires-in-Cond-2
resolve_expr-resolve_expr-requires-in-Cond-2 g t c κs within =
    let env = g.N.Lookup.env c.args.names.now in
    let P : Expr → Type 0 = λ x. is_sound (resolve env (expr_view x)) ≡ true in
    let k = cond-choices env c.args.e.now c.in-Cond.test c.in-Cond.yes c.in-Cond.no c.in-Cond.is c.requires in
    let h : is_sound (resolve env (expr_view c.deref-in-Cond-2.result.now))
    ≡ true = subst P (sym c.deref-in-Cond-2.ensures) k.yes in
    (search (rules, the_lemmas), (search rules, h))

pub resolve_expr-resolve_expr-requires-in-Cond-3 : goal.resolve_expr-resolve_expr-requires-in-Cond-3
resolve_expr-resolve_expr-requires-in-Cond-3 g t c κs within =
    let env = g.N.Lookup.env c.args.names.now in
    let P : Expr → Type 0 = λ x. is_sound (resolve env (expr_view x)) ≡ true in
    let k = cond-choices env c.args.e.now c.in-Cond.test c.in-Cond.yes c.in-Cond.no c.in-Cond.is c.requires in
    let h : is_sound (resolve env (expr_view c.deref-in-Cond-3.result.now))
    ≡ true = subst P (sym c.deref-in-Cond-3.ensures) k.no in
    (search (rules, the_lemmas), (search rules, h))

pub resolve_cast-resolve_expr-requires : goal.resolve_cast-resolve_expr-requires
resolve_cast-resolve_expr-requires g t c κs within =
    let env = g.N.Lookup.env c.args.names.now in (
      search (rules, the_lemmas),
      (
        search rules,
        cast-operand env c.args.pos (type_name_view c.args.name.now)
            (expr_view c.args.a.now) c.requires,
      ),
    )

pub resolve_new-resolve_expr-requires : goal.resolve_new-resolve_expr-requires
resolve_new-resolve_expr-requires g t c κs within =
    let env = g.N.Lookup.env c.args.names.now in (
      search (rules, the_lemmas),
      (
        search rules,
        made-operand env c.args.pos (type_name_view c.args.name.now)
            (expr_view c.args.a.now) c.requires,
      ),
    )

pub resolve_arg-resolve_place-requires : goal.resolve_arg-resolve_place-requires
resolve_arg-resolve_place-requires g t c κs within =
    let env = g.N.Lookup.env c.args.names.now in
    let ws = wants_view c.args.wants in
    let e = expr_view c.args.e.now in
    let f : (wants_module ws && is_module_address env e) ≡ false = elim c.else-wants_module.branch [
      | resolve_arg-else-wants_module-via-then-wants_module+else-is_module_address w ↦ neither-right _ _
          (sym w.is_module_address.ensures ∙ w.if-is_module_address.false)
      | resolve_arg-else-wants_module-via-else-wants_module w ↦ neither-left _ _
          (sym c.wants_module.ensures ∙ w.if-wants_module.false)
    ] in
    let k : (wants_place ws && is_place env e) ≡ true = and_true _ _
    (sym c.wants_place.ensures ∙ c.if-wants_place.true) (sym c.is_place.ensures ∙ c.if-is_place.true) in
    let h : is_sound_place (place_of env e) ≡ true = argument-place env ws e f k c.requires in
    (search (rules, the_lemmas), (search rules, h))

pub resolve_arg-resolve_expr-requires : goal.resolve_arg-resolve_expr-requires
resolve_arg-resolve_expr-requires g t c κs within =
    let env = g.N.Lookup.env c.args.names.now in
    let ws = wants_view c.args.wants in
    let e = expr_view c.args.e.now in
    let f : (wants_module ws && is_module_address env e) ≡ false = elim c.else-wants_module.branch [
      | resolve_arg-else-wants_module-via-then-wants_module+else-is_module_address w ↦ neither-right _ _
          (sym w.is_module_address.ensures ∙ w.if-is_module_address.false)
      | resolve_arg-else-wants_module-via-else-wants_module w ↦ neither-left _ _
          (sym c.wants_module.ensures ∙ w.if-wants_module.false)
    ] in
    let k : (wants_place ws && is_place env e) ≡ false = elim c.else-wants_place.branch [
      | resolve_arg-else-wants_place-via-then-wants_place+else-is_place w ↦ neither-right _ _
          (sym w.is_place.ensures ∙ w.if-is_place.false)
      | resolve_arg-else-wants_place-via-else-wants_place w ↦ neither-left _ _
          (sym c.wants_place.ensures ∙ w.if-wants_place.false)
    ] in
    let h : is_sound (resolve env e) ≡ true = argument-operand env ws e f k c.requires in
    (search (rules, the_lemmas), (search rules, h))

pub put_arg-resolve_arg-requires : goal.put_arg-resolve_arg-requires
put_arg-resolve_arg-requires g t c κs within =
    let env = g.N.Lookup.env c.args.names.now in
    let h : is_sound (argument_in env (wants_view c.args.wants) (expr_view c.args.e.now))
    ≡ true = c.requires (sym c.wants_output.ensures ∙ c.if-wants_output.false) in
    (search (rules, the_lemmas), (search rules, h))

pub resolve_call-resolve_args-requires : goal.resolve_call-resolve_args-requires
resolve_call-resolve_args-requires g t c κs within =
    let env = g.N.Lookup.env c.args.names.now in
    let f = expr_view c.args.f.now in
    let es = exprs_of (map expr_view c.args.list.now.items) in
    let ws = call_wants env (callee env f) es in
    let e : wants_view c.wants.result ≡ ws = c.wants.ensures ∙ c.in_ok-wants.ensures in
    let k : are_sound (resolve_all env ws es) ≡ true = call-args env c.args.pos (callee env f) (callee_name f) es
    (given_params env es) (outputs_of env ws es) (resolve_all env ws es) c.requires in
    let h : are_sound (resolve_all env (wants_view c.wants.result) es)
    ≡ true = ap (λ vs. are_sound (resolve_all env vs es)) e ∙ k in
    (search (rules, the_lemmas), (search rules, h))

pub resolve_args-put_arg-requires : goal.resolve_args-put_arg-requires
resolve_args-put_arg-requires g t c κs within =
    let env = g.N.Lookup.env c.args.names.now in
    let xs = c.args.list.now.items in
    let i = c.loop-e.e-index in
    let s : i < length xs = omega (arith, ap length c.deref-e-items.ensures.value) in
    let r : c.e-item.result ≡ get_or xs i c.e-item.result = cc in
    let d = next_one xs i c.e-item.result s r in
    let rest = wants_view c.loop-e.rest in
    let one = expr_view c.e-item.result in
    let left = exprs_of (map expr_view (drop (i + 1) xs)) in
    let P : List Expr → Type 0 = λ ys. are_sound (resolve_all env rest (exprs_of (map expr_view ys))) ≡ true in
    let h : wants_output rest ≡ false → is_sound (argument_in env rest one)
    ≡ true = argument-sound env rest one left (subst P d c.loop-e.invariant.sound) in
    (search (rules, the_lemmas, get_or_read), (search rules, h))

pub resolve_args-returns-clause-values : goal.resolve_args-returns-clause-values
resolve_args-returns-clause-values g t c =
    let env = g.N.Lookup.env c.args.names.now in
    let xs = c.args.list.now.items in
    let i = c.loop-e.e-index in
    let s : length xs ≤ i = omega (arith, ap length c.deref-e-items.ensures.value) in
    let done = map value_view c.loop-e.args.values.items in
    sym (values_before-all done)
    ∙ ap (λ ys. values_before done (resolve_all env (wants_view c.loop-e.rest) (exprs_of (map expr_view ys))))
    (sym (drop_all i xs s))
    ∙ c.loop-e.invariant.values

pub resolve_args-returns-clause-given : goal.resolve_args-returns-clause-given
resolve_args-returns-clause-given g t c =
    let env = g.N.Lookup.env c.args.names.now in
    let xs = c.args.list.now.items in
    let i = c.loop-e.e-index in
    let s : length xs ≤ i = omega (arith, ap length c.deref-e-items.ensures.value) in
    let given = c.loop-e.args.given in
    sym (append-nil given)
    ∙ ap (λ ys. given ++ given_params env (exprs_of (map expr_view ys))) (sym (drop_all i xs s))
    ∙ c.loop-e.invariant.given

pub resolve_args-returns-clause-outs : goal.resolve_args-returns-clause-outs
resolve_args-returns-clause-outs g t c =
    let env = g.N.Lookup.env c.args.names.now in
    let xs = c.args.list.now.items in
    let i = c.loop-e.e-index in
    let s : length xs ≤ i = omega (arith, ap length c.deref-e-items.ensures.value) in
    let outs = c.loop-e.args.outs in
    sym (append-nil outs)
    ∙ ap (λ ys. outs ++ outputs_of env (wants_view c.loop-e.rest) (exprs_of (map expr_view ys)))
    (sym (drop_all i xs s))
    ∙ c.loop-e.invariant.outs

pub resolve_args-loop-e-preserved : goal.resolve_args-loop-e-preserved
resolve_args-loop-e-preserved g t c =
    let env = g.N.Lookup.env c.args.names.now in
    let xs = c.args.list.now.items in
    let i = c.loop-e.e-index in
    let rest = wants_view c.loop-e.rest in
    let s : i < length xs = omega (arith, ap length c.deref-e-items.ensures.value) in
    let r : c.e-item.result ≡ get_or xs i c.e-item.result = cc in
    let d = next_one xs i c.e-item.result s r in
    let one = expr_view c.e-item.result in
    let P : List Expr → Type 0 = λ ys. are_sound (resolve_all env rest (exprs_of (map expr_view ys))) ≡ true in
    let left = exprs_of (map expr_view (drop (i + 1) xs)) in
    let more = rest-sound env rest one left (subst P d c.loop-e.invariant.sound) in
    let done = map value_view c.loop-e.args.values.items in
    let given = c.loop-e.args.given in
    let outs = c.loop-e.args.outs in
    let met = c.loop-e.args.met in
    let fits = first_met rest (argument_form env one) (operand (kind_of env one) one) in
    let after = wants_view c.other_wants-rest.result in
    let others : after ≡ other_wants rest = c.other_wants-rest.ensures in
    record {
      values =
          ap (λ ys. values_before ys (resolve_all env after left)) c.in_ok-put_arg.ensures.values
          ∙ ap (λ ws. values_before (done ++ argument_values env rest one) (resolve_all env ws left)) others
          ∙ values_before-append done (argument_values env rest one) (resolve_all env (other_wants rest) left)
          ∙ ap (values_before done) (sym (resolve_all-next env rest one left))
          ∙ ap (λ ys. values_before done (resolve_all env rest (exprs_of (map expr_view ys)))) (sym d)
          ∙ c.loop-e.invariant.values;
      met =
          ap (λ b. b && are_met env after left) c.in_ok-put_arg.ensures.met
          ∙ ap (λ ws. (met && fits) && are_met env ws left) others
          ∙ and-grouped met fits (are_met env (other_wants rest) left)
          ∙ ap (λ ys. met && are_met env rest (exprs_of (map expr_view ys))) (sym d)
          ∙ c.loop-e.invariant.met;
      given =
          ap (λ ys. ys ++ given_params env left) c.in_ok-put_arg.ensures.given
          ∙ append_assoc given (given_param (kind_of env one) ∷ []) (given_params env left)
          ∙ ap (λ ys. given ++ given_params env (exprs_of (map expr_view ys))) (sym d)
          ∙ c.loop-e.invariant.given;
      outs =
          ap (λ ys. ys ++ outputs_of env after left) c.in_ok-put_arg.ensures.outs
          ∙ ap (λ ws. (outs ++ output_of env rest one) ++ outputs_of env ws left) others
          ∙ append_assoc outs (output_of env rest one) (outputs_of env (other_wants rest) left)
          ∙ ap (λ ys. outs ++ outputs_of env rest (exprs_of (map expr_view ys))) (sym d)
          ∙ c.loop-e.invariant.outs;
      sound = ap (λ ws. are_sound (resolve_all env ws left)) others ∙ more;
    }
