-- An expression in which no rule holds is of the kinds that it needs.
use Rattle.std.proofs.Common.{◌≡◌, ℕ, Bool, true, false, List, [], ◌∷◌, map, Option, Some, None, inl, inr, refl, sym}
use Rattle.std.proofs.Common.{subst}
use Rattle.std.specs.Prelude.{◌&&◌, is_some, if◌then◌else◌}
use Rattle.pungi_base.specs.declared.kind.Kind.{Kind}
use Rattle.pungi_base.specs.declared.names.Name.{Name}
use Rattle.pungi_base.specs.declared.pos.Pos.{Pos}
use Rattle.pungi_base.specs.declared.punct.Punct.{Punct}
use Rattle.pungi_tree.specs.Syntax.{Expr, word, int, float, char, text, null, paren, unary, post, binary, assign}
use Rattle.pungi_tree.specs.Syntax.{conditional, comma, cast, size_of_type, call, new, index, dot, arrow, Exprs}
use Rattle.pungi_tree.specs.Syntax.{no_exprs, expr_and}
use Rattle.pungi_api.specs.declared.param.Param.{Param}
use Rattle.pungi_types.specs.declared.kind.ValueKind.{ValueKind}
use Rattle.pungi_types.specs.declared.kind.ValueKind.TheVariants as kinds
use Rattle.pungi_types.specs.declared.wants.Want.{Want}
use Rattle.pungi_types.specs.declared.operator.Prefix.{Prefix}
use Rattle.pungi_types.specs.declared.operator.Prefix.TheVariants as prefixes
use Rattle.pungi_types.specs.Names.{Env, local_in}
use Rattle.pungi_types.specs.Kinds.{type_name_kind, made_struct}
use Rattle.pungi_types.specs.Findings.{Findings, nothing_found, ◌and◌}
use Rattle.pungi_types.specs.Operators.{prefix_of, is_integer, is_bits_assign, is_arithmetic_assign}
use Rattle.pungi_types.specs.Calls.{Callee, no_word, a_value, defined, a_row, no_function, is_place, is_address}
use Rattle.pungi_types.specs.Calls.{names_type_object, argument_form, callee, call_wants, wants_output, other_wants}
use Rattle.pungi_types.specs.Calls.{passed_address, first_met, is_word, result_kind, made_wrong}
use Rattle.pungi_types.specs.Exprs.{kind_of, are_met, operand, unary_kind, assign_kind, void_use, expr_findings}
use Rattle.pungi_types.specs.Exprs.{args_findings, is_unknown_call}
use Rattle.pungi_resolve.specs.Exprs.{post_kind, resolve, place_of, resolve_all, call_value, callee_name, unary_value}
use Rattle.pungi_resolve.specs.Exprs.{given_params}
use Rattle.pungi_resolve.specs.Functions.{params_kinds}
use Rattle.pungi_resolve.specs.Outputs.{outputs_of}
use Rattle.pungi_resolved.specs.Values.{Value, Values, value_and, inner}
use Rattle.pungi_resolve.proofs.Clean.{Clean, left, right, not_when, not_false, and_left, and_right}
use Rattle.pungi_resolve.proofs.Known.{HasKinds}
use Rattle.pungi_resolve.proofs.UsedValues.{one-asked, argument-met, value-passed}
use Rattle.pungi_resolve.proofs.Argued.{AreArgued}
use Rattle.pungi_resolve.proofs.SoundParts.{word-callable, call-holds}
use Rattle.pungi_resolve.proofs.SoundExprs.{expr-good, args-good, node, unless, answered}
use Rattle.pungi_layout.specs.code.CallKinds.{held_kind}
use Rattle.pungi_layout.specs.kinds.Typed.{AreTyped}
use Rattle.pungi_lower.proofs.kinds.Parts.{Kin, Around, in_file, Typed, kin_if}
use Rattle.pungi_lower.proofs.kinds.Operators.{found, binary_typed, assign_typed, step_typed, sign_typed}
use Rattle.pungi_lower.proofs.kinds.Operators.{negation_typed, cond_typed}
use Rattle.pungi_lower.proofs.kinds.Words.{HasVars, char_typed, int_typed, word_typed, field_typed}
use Rattle.pungi_lower.proofs.kinds.Calls.{HasRows, IsRowOf, callee_row, cast_typed, static_typed, made_typed}
use Rattle.pungi_lower.proofs.kinds.Arguments.{ExprKinds, ArgTyped, AreTaken, takes_value, kinds_taken, arg_typed}
use Rattle.pungi_lower.proofs.kinds.Formats.{form_params, row_taken}
use Rattle.pungi_lower.proofs.kinds.Rows.{form_typed}
use Rattle.pungi_lower.proofs.Written.{argument}
use Rattle.pungi_lower.proofs.kinds.Callees.{wants_are, HasCallees, IsDefinedOf, callee_defined, called_typed}

-- .. a node before its operand
unary_kinds : (a : Around) (vars : List Param) (env : Env) (p : Pos) (k : Kind) (pr : Prefix) (e : Expr)
    → is_some (unary_kind pr (names_type_object env e) (is_place env e) (kind_of env e)) ≡ true
    → ((is_address pr && names_type_object env e) ≡ false → ExprKinds a vars env e)
    → Typed (in_file a env.file.items) vars (unary_kind pr (names_type_object env e) (is_place env e) (kind_of env e))
    (unary_value env p k e pr (resolve env e) (place_of env e))
unary_kinds a vars env p k prefixes.Address e h x = static_typed (in_file a env.file.items) vars env p e refl h
unary_kinds a vars env p k prefixes.Step e h x =
    let c = and_left (is_place env e) (is_integer (kind_of env e)) (found (is_place env e
    && is_integer (kind_of env e)) (kind_of env e) h) in
    step_typed (in_file a env.file.items) vars p false k (is_place env e) (kind_of env e) (place_of env e) h
    ((x refl).place c)
unary_kinds a vars env p k prefixes.Sign e h x =
    sign_typed (in_file a env.file.items) vars p k (kind_of env e) (resolve env e) h (x refl).value
unary_kinds a vars env p k prefixes.Negation e h x =
    negation_typed (in_file a env.file.items) vars p (kind_of env e) (resolve env e) (x refl).value
unary_kinds a vars env p k prefixes.LeftOut e h x = absurd (cc)

-- .. calls
none_found : (c : Bool) (k : Option ValueKind) → k ≡ None → is_some (if c then k else None) ≡ true → ⊥
none_found true k e h = cc
none_found false k e h = cc

-- what a call with these arguments takes
abbrev call_params : Env → Callee → Exprs → List Param
call_params env (a_row r) es = form_params env r.form r es
call_params env (defined d) es = map held_kind (params_kinds env.file.items d.params)
call_params env c es = []

-- what the rules want of its arguments
call_taken : (a : Around) (env : Env) (c : Callee) (w : ℕ) (es : Exprs) → IsDefinedOf a env w c
    → is_unknown_call env c ≡ false → AreArgued env (call_wants env c es) es
    → AreTaken env (call_wants env c es) (call_params env c es) es
call_taken a env (a_row r) w es q u x = row_taken env r.form r es x
call_taken a env (defined d) w es q u x =
    let ks = params_kinds env.file.items d.params in
    subst (λ (ws : List Want). AreTaken env ws (map held_kind ks) es) (sym (wants_are env.file.items d.params))
    (kinds_taken env ks es (q u).placed)
call_taken a env no_word w es q u x = tt
call_taken a env a_value w es q u x = tt
call_taken a env no_function w es q u x = tt

call_kinds : (a : Around) (vars : List Param) (env : Env) (c : Callee) (b : Bool) (p : Pos) (w : Name) (es : Exprs)
    (vs : Values) → HasKinds env → HasVars vars env → IsRowOf c → IsDefinedOf a env w.0 c
    → is_unknown_call env c ≡ false → is_some (if b then result_kind env c else None) ≡ true
    → AreArgued env (call_wants env c es) es → AreTyped (in_file a env.file.items) vars (call_params env c es) vs
    → Typed (in_file a env.file.items) vars (if b then result_kind env c else None) (call_value env p c w es
    (given_params env es) (outputs_of env (call_wants env c es) es) vs)
call_kinds a vars env (defined d) b p w es vs k l r q u h x args =
    let outs = outputs_of env (call_wants env (defined d) es) es in
    let t = called_typed a vars env p w d vs u (q u) args in
    record {
      typed = t.typed;
      kin = kin_if b (result_kind env (defined d)) (call_value env p (defined d) w es (given_params env es) outs vs)
          t.kin;
    }
call_kinds a vars env (a_row row) b p w es vs k l r q u h x args =
    let outs = outputs_of env (call_wants env (a_row row) es) es in
    let t = form_typed (in_file a env.file.items) vars env k l p w row row.form es vs r refl x args in
    record {
      typed = t.typed;
      kin = kin_if b (result_kind env (a_row row)) (call_value env p (a_row row) w es (given_params env es) outs vs)
          t.kin;
    }
call_kinds a vars env no_word b p w es vs k l r q u h x args =
    absurd (none_found b (result_kind env no_word) refl h)
call_kinds a vars env a_value b p w es vs k l r q u h x args =
    absurd (none_found b (result_kind env a_value) refl h)
call_kinds a vars env no_function b p w es vs k l r q u h x args =
    absurd (none_found b (result_kind env no_function) refl h)

-- a parenthesis is of the kind that is in it
kin_inner : (k : Option ValueKind) (p : Pos) (v : Value) → Kin k v → Kin k (inner p v)
kin_inner None p v h = tt
kin_inner (Some kinds.Void) p v h = tt
kin_inner (Some _) p v h = h

-- what is assigned to is a place
assigned_place : (m : Punct) (place : Bool) (a b : Option ValueKind) → is_some (assign_kind m place a b) ≡ true
    → place ≡ true
assigned_place m true a b h = refl
assigned_place m false a b h = absurd (unassigned (is_bits_assign m) (is_arithmetic_assign m) a h)
  where
    unassigned : (x y : Bool) (k : Option ValueKind)
        → is_some (if x then None else (if y then (if false then k else None) else (if false then k else None)))
        ≡ true → ⊥
    unassigned true y k h = cc
    unassigned false true k h = cc
    unassigned false false k h = cc

-- .. an argument, and those after it
abbrev first_findings : Env → List Want → Expr → Findings
first_findings env ws e =
    (if passed_address env ws e then nothing_found else expr_findings env e and void_use env e)

-- one that the call writes has no value
written_kinds : (a : Around) (vars : List Param) (env : Env) (ws : List Want) (ps : List Param) (e : Expr) (es : Exprs)
    → wants_output ws ≡ true → AreTyped (in_file a env.file.items) vars ps (resolve_all env (other_wants ws) es)
    → AreTyped (in_file a env.file.items) vars ps (resolve_all env ws (expr_and e es))
written_kinds a vars env ws ps e es o t =
    let rest = resolve_all env (other_wants ws) es in
    subst (λ (c : Bool). AreTyped (in_file a env.file.items) vars ps (if c then rest else value_and
    (argument env ws e) rest)) (sym o) t

value_kinds : (a : Around) (vars : List Param) (env : Env) (ws : List Want) (p : Param) (ps : List Param) (e : Expr)
    (es : Exprs) → wants_output ws ≡ false → ArgTyped a vars env p (argument env ws e)
    → AreTyped (in_file a env.file.items) vars ps (resolve_all env (other_wants ws) es)
    → AreTyped (in_file a env.file.items) vars (p ∷ ps) (resolve_all env ws (expr_and e es))
value_kinds a vars env ws p ps e es o x t =
    let rest = resolve_all env (other_wants ws) es in
    subst (λ (c : Bool). AreTyped (in_file a env.file.items) vars (p ∷ ps) (if c then rest else value_and
    (argument env ws e) rest)) (sym o) (x.fits, x.typed, t)

mutual
  pub expr_kinds : (a : Around) (vars : List Param) (env : Env) → HasKinds env → HasVars vars env → HasRows env
      → HasCallees a env → (e : Expr) → Clean (expr_findings env e) → ExprKinds a vars env e
  expr_kinds a vars env h b r q (word p w) c =
      let t = word_typed (in_file a env.file.items) vars p w (local_in env.locals w.0) refl
      (b.locals w.0) in
      record { value = t.value; place = λ s. t.place s }
  expr_kinds a vars env h b r q (int p v l u) c = record {
    value = int_typed (in_file a env.file.items) vars p v l u;
    place = λ s. absurd (cc);
  }
  expr_kinds a vars env h b r q (float p) c = record {
    value = record { typed = tt; kin = tt };
    place = λ s. absurd (cc);
  }
  expr_kinds a vars env h b r q (char p x) c = record {
    value = char_typed (in_file a env.file.items) vars p x;
    place = λ s. absurd (cc);
  }
  expr_kinds a vars env h b r q (text p ns) c = record {
    value = record { typed = tt; kin = inl refl };
    place = λ s. absurd (cc);
  }
  expr_kinds a vars env h b r q (null p) c = record {
    value = record { typed = tt; kin = refl };
    place = λ s. absurd (cc);
  }
  expr_kinds a vars env h b r q (paren p e) c =
      let x = expr_kinds a vars env h b r q e c in
      record {
        value = record {
          typed = x.value.typed;
          kin = kin_inner (kind_of env e) p (resolve env e) x.value.kin;
        };
        place = λ s. absurd (cc);
      }
  expr_kinds a vars env h b r q (unary p k e) c =
      let skipped = is_address (prefix_of k) && names_type_object env e in
      let fs : Findings = (if skipped then nothing_found else expr_findings env e) in
      record {
        value = unary_kinds a vars env p k (prefix_of k) e (expr-good env h (unary p k e) c).known
            (λ x. expr_kinds a vars env h b r q e (unless skipped (expr_findings env e) (left fs _ c) x));
        place = λ s. absurd (cc);
      }
  expr_kinds a vars env h b r q (post p m e) c =
      let x = expr_kinds a vars env h b r q e (left (expr_findings env e) _ c) in
      let known = (expr-good env h (post p m e) c).known in
      let t = and_left (is_place env e) (is_integer (kind_of env e)) (found (is_place env e
      && is_integer (kind_of env e)) (kind_of env e) known) in
      record {
        value = step_typed (in_file a env.file.items) vars p true (post_kind m) (is_place env e) (kind_of env e)
            (place_of env e) known (x.place t);
        place = λ s. absurd (cc);
      }
  expr_kinds a vars env h b r q (binary p m x y) c =
      let rest = right (expr_findings env x) _ c in
      let kx = expr_kinds a vars env h b r q x (left (expr_findings env x) _ c) in
      let ky = expr_kinds a vars env h b r q y (left (expr_findings env y) _ rest) in
      record {
        value = binary_typed (in_file a env.file.items) vars p m (kind_of env x) (kind_of env y) (resolve env x)
            (resolve env y) (expr-good env h (binary p m x y) c).known kx.value ky.value;
        place = λ s. absurd (cc);
      }
  expr_kinds a vars env h b r q (assign p m x y) c =
      let rest = right (expr_findings env x) _ c in
      let kx = expr_kinds a vars env h b r q x (left (expr_findings env x) _ c) in
      let ky = expr_kinds a vars env h b r q y (left (expr_findings env y) _ rest) in
      let known = (expr-good env h (assign p m x y) c).known in
      record {
        value = assign_typed (in_file a env.file.items) vars p m (is_place env x) (kind_of env x) (kind_of env y)
            (place_of env x) (resolve env y) known (kx.place (assigned_place m (is_place env x) (kind_of env x)
            (kind_of env y) known)) ky.value;
        place = λ s. absurd (cc);
      }
  expr_kinds a vars env h b r q (conditional p t x y) c =
      let more = right (expr_findings env t) _ c in
      let rest = right (expr_findings env x) _ more in
      let kt = expr_kinds a vars env h b r q t (left (expr_findings env t) _ c) in
      let kx = expr_kinds a vars env h b r q x (left (expr_findings env x) _ more) in
      let ky = expr_kinds a vars env h b r q y (left (expr_findings env y) _ rest) in
      record {
        value = cond_typed (in_file a env.file.items) vars p (kind_of env t) (kind_of env x) (kind_of env y)
            (resolve env t) (resolve env x) (resolve env y) (expr-good env h (conditional p t x y) c).known kt.value
            kx.value ky.value;
        place = λ s. absurd (cc);
      }
  expr_kinds a vars env h b r q (comma p x y) c = record {
    value = record { typed = tt; kin = tt };
    place = λ s. absurd (cc);
  }
  expr_kinds a vars env h b r q (cast p t e) c =
      let x = expr_kinds a vars env h b r q e (left (expr_findings env e) _ c) in
      record {
        value = cast_typed (in_file a env.file.items) vars p (type_name_kind env.file.items t) (kind_of env e)
            (resolve env e) (expr-good env h (cast p t e) c).known x.value;
        place = λ s. absurd (cc);
      }
  expr_kinds a vars env h b r q (size_of_type p t) c = record {
    value = record { typed = tt; kin = tt };
    place = λ s. absurd (cc);
  }
  expr_kinds a vars env h b r q (call p f es) c =
      let ws = call_wants env (callee env f) es in
      let args = args_findings env ws es in
      let m = node env (call p f es) (right _ _ (right args _ c)) in
      let w = not_false (is_word f) (not_when _ p 3 m.three) in
      let nine = not_when (is_unknown_call env (callee env f)) p 9 m.nine in
      let met = (call-holds env (callee env f) es (word-callable env f w) (answered env h f) nine
      (not_when _ p 10 m.ten) m.eleven).all_met in
      let x = (args-good env h ws es (left args _ c) met).argued in
      let defines = callee_defined a env q f in
      record {
        value = call_kinds a vars env (callee env f) (is_word f && are_met env ws es) p (callee_name f) es
            (resolve_all env ws es) h b (callee_row env r f) defines nine (expr-good env h (call p f es) c).known x
            (args_kinds a vars env h b r q ws (call_params env (callee env f) es) es
            (call_taken a env (callee env f) (callee_name f).0 es defines nine x) (left args _ c) met);
        place = λ s. absurd (cc);
      }
  expr_kinds a vars env h b r q (new p t e) c =
      let d = left (expr_findings env e) _ c in
      let x = expr_kinds a vars env h b r q e d in
      let m = node env (new p t e) (right (expr_findings env e) _ c) in
      let ten = one-asked env (made_wrong (made_struct env.file.items t)) p e m.ten in
      record {
        value = made_typed (in_file a env.file.items) vars env.file.items p t (kind_of env e)
            (operand (kind_of env e) e) (resolve env e) (expr-good env h e d).known ten x.value;
        place = λ s. absurd (cc);
      }
  expr_kinds a vars env h b r q (index p x y) c = record {
    value = record { typed = tt; kin = tt };
    place = λ s. absurd (cc);
  }
  expr_kinds a vars env h b r q (dot p e w) c = record {
    value = record { typed = tt; kin = tt };
    place = λ s. absurd (cc);
  }
  expr_kinds a vars env h b r q (arrow p e w) c =
      let x = expr_kinds a vars env h b r q e (left (expr_findings env e) _ c) in
      let t = field_typed (in_file a env.file.items) vars p w (kind_of env e) (resolve env e)
      (expr-good env h (arrow p e w) c).known x.value in
      record { value = t.value; place = λ s. t.place }

  args_kinds : (a : Around) (vars : List Param) (env : Env) → HasKinds env → HasVars vars env → HasRows env
      → HasCallees a env → (ws : List Want) (ps : List Param) (es : Exprs) → AreTaken env ws ps es
      → Clean (args_findings env ws es) → are_met env ws es ≡ true
      → AreTyped (in_file a env.file.items) vars ps (resolve_all env ws es)
  args_kinds a vars env h b r q [] [] no_exprs k c m = tt
  args_kinds a vars env h b r q [] (p ∷ ps) es k c m = absurd k
  args_kinds a vars env h b r q (w ∷ ws) ps no_exprs k c m = absurd (cc)
  args_kinds a vars env h b r q [] [] (expr_and e es) k c m = absurd (cc)
  args_kinds a vars env h b r q (w ∷ ws) [] (expr_and e es) k c m =
      written_kinds a vars env (w ∷ ws) [] e es k.0 (args_kinds a vars env h b r q ws [] es k.1
      (right (first_findings env (w ∷ ws) e) _ c)
      (and_right (first_met (w ∷ ws) (argument_form env e) (operand (kind_of env e) e)) _ m))
  args_kinds a vars env h b r q (w ∷ ws) (p ∷ ps) (expr_and e es) (inl k) c m =
      written_kinds a vars env (w ∷ ws) (p ∷ ps) e es k.0 (args_kinds a vars env h b r q ws (p ∷ ps) es k.1
      (right (first_findings env (w ∷ ws) e) _ c)
      (and_right (first_met (w ∷ ws) (argument_form env e) (operand (kind_of env e) e)) _ m))
  args_kinds a vars env h b r q (w ∷ ws) (p ∷ ps) (expr_and e es) (inr k) c m =
      let o = takes_value env w p e ws k.0 in
      let one = left (first_findings env (w ∷ ws) e) _ c in
      let x = arg_typed a vars env w p ws e k.0 (record {
        met = argument-met env (w ∷ ws) e one (and_left (first_met (w ∷ ws) (argument_form env e)
            (operand (kind_of env e) e)) _ m);
        known = λ s. (expr-good env h e (left (expr_findings env e) _ (unless (passed_address env (w ∷ ws) e) _ one
            (value-passed env (w ∷ ws) e o s)))).known;
        kinds = λ s. expr_kinds a vars env h b r q e (left (expr_findings env e) _ (unless
            (passed_address env (w ∷ ws) e) _ one (value-passed env (w ∷ ws) e o s)));
      }) in
      value_kinds a vars env (w ∷ ws) p ps e es o x (args_kinds a vars env h b r q ws ps es k.1
      (right (first_findings env (w ∷ ws) e) _ c)
      (and_right (first_met (w ∷ ws) (argument_form env e) (operand (kind_of env e) e)) _ m))
