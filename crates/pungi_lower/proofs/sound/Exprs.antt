-- An expression in which no rule holds is sound for the layout: its locals are there, each operand has a value, each
-- place is one.
use Rattle.std.proofs.Common.{◌≡◌, ℕ, Bool, true, false, List, Option, Some, None, refl}
use Rattle.std.specs.Prelude.{ℤ, ◌&&◌, if◌then◌else◌}
use Rattle.pungi_base.specs.declared.pos.Pos.{Pos}
use Rattle.pungi_tree.specs.Syntax.{Expr, word, int, float, char, text, null, paren, unary, post, binary, assign}
use Rattle.pungi_tree.specs.Syntax.{conditional, comma, cast, size_of_type, call, new, index, dot, arrow, Exprs}
use Rattle.pungi_tree.specs.Syntax.{no_exprs, expr_and}
use Rattle.pungi_types.specs.declared.kind.ValueKind.{ValueKind}
use Rattle.pungi_types.specs.declared.kind.ValueKind.TheVariants as kinds
use Rattle.pungi_types.specs.declared.wants.Want.{Want}
use Rattle.pungi_types.specs.Names.{Env, meaning_of, local_in}
use Rattle.pungi_types.specs.Kinds.{type_name_kind, field_kind, made_struct}
use Rattle.pungi_types.specs.Findings.{Findings, nothing_found, ◌and◌}
use Rattle.pungi_types.specs.Operators.{prefix_of, is_bits, is_bits_assign, is_arithmetic_assign, is_void, struct_part}
use Rattle.pungi_types.specs.Operators.{fits}
use Rattle.pungi_types.specs.declared.operator.Prefix.TheVariants as prefixes
use Rattle.pungi_types.specs.Calls.{is_place, is_address, names_type_object, is_module_address, argument_form, callee}
use Rattle.pungi_types.specs.Calls.{call_wants, wants_output, passed_address, wants_module, other_wants, first_met}
use Rattle.pungi_types.specs.Calls.{is_word, result_kind, made_wrong}
use Rattle.pungi_types.specs.Exprs.{kind_of, are_met, operand, int_kind, unary_wrong, binary_wrong, assign_wrong}
use Rattle.pungi_types.specs.Exprs.{cond_wrong, void_use, expr_findings, args_findings}
use Rattle.pungi_resolve.specs.Exprs.{resolve, place_of, resolve_all, int_value, callee_name, given_params}
use Rattle.pungi_resolve.specs.Outputs.{outputs_of}
use Rattle.pungi_layout.specs.code.Sound.{AreSound}
use Rattle.pungi_resolve.proofs.Clean.{Clean, left, right, not_when, not_false, is_there, or_left, or_right, and_left}
use Rattle.pungi_resolve.proofs.Clean.{and_right}
use Rattle.pungi_resolve.proofs.Known.{HasKinds, place-not_void}
use Rattle.pungi_resolve.proofs.OperatorKinds.{step-kept, assign-kept}
use Rattle.pungi_resolve.proofs.UsedValues.{one-asked, two-asked, three-asked, cast-asked, argument-met, value-passed}
use Rattle.pungi_resolve.proofs.SoundParts.{has_struct, word-callable, call-holds}
use Rattle.pungi_resolve.proofs.SoundExprs.{expr-good, args-good, node, unless, answered}
use Rattle.pungi_lower.proofs.kinds.Calls.{made_fits}
use Rattle.pungi_lower.proofs.sound.Parts.{HasNumbers, Works, Given, cast-works, place-works, read-works, word-works}
use Rattle.pungi_lower.proofs.sound.Parts.{unary-works, binary-works, assign-works, operands, right_side}
use Rattle.pungi_lower.proofs.sound.Parts.{field-not_void, field-works}
use Rattle.pungi_lower.proofs.sound.Calls.{callee-works, met-same, arg-works, all-works, AreLiterals, call-literals}
use Rattle.pungi_lower.proofs.sound.Calls.{outputs-written}

object-not_void : (k : Option ValueKind) → fits (Some (kinds.Object None)) k ≡ true → is_void k ≡ false
object-not_void (Some kinds.Void) h = absurd (cc)
object-not_void _ h = refl

number-works : (n : ℕ) (p : Pos) (v : ℤ) (k : Option ValueKind) (void : Bool) → Given n (int_value p k v) void
number-works n p v None void = record { sound = tt; gives = λ x. refl }
number-works n p v (Some k) void = record { sound = tt; gives = λ x. refl }

mutual
  pub expr-works : (n : ℕ) (env : Env) → HasKinds env → HasNumbers n env → (e : Expr) → Clean (expr_findings env e)
      → Works n env e
  expr-works n env h b (word p w) c =
      let s = place-works n p env.file.items w (local_in env.locals w.0) (b.locals w.0) in
      let g = word-works n p w (meaning_of env w.0) (is_void (kind_of env (word p w))) s in
      record { sound = g.sound; gives = g.gives; place = s }
  expr-works n env h b (int p v l u) c =
      let g = number-works n p v (int_kind v l u) (is_void (int_kind v l u)) in
      record { sound = g.sound; gives = g.gives; place = λ s. absurd (cc) }
  expr-works n env h b (float p) c = record { sound = tt; gives = λ x. refl; place = λ s. absurd (cc) }
  expr-works n env h b (char p x) c = record { sound = tt; gives = λ x. refl; place = λ s. absurd (cc) }
  expr-works n env h b (text p ns) c = record { sound = tt; gives = λ x. refl; place = λ s. absurd (cc) }
  expr-works n env h b (null p) c = record { sound = tt; gives = λ x. refl; place = λ s. absurd (cc) }
  expr-works n env h b (paren p e) c =
      let w = expr-works n env h b e c in
      record { sound = w.sound; gives = w.gives; place = λ s. absurd (cc) }
  expr-works n env h b (unary p k e) c =
      let skipped = is_address (prefix_of k) && names_type_object env e in
      let fs : Findings = (if skipped then nothing_found else expr_findings env e) in
      let m = node env (unary p k e) (right fs _ c) in
      let u = unary-works n env p k (prefix_of k) e (is_void (kind_of env (unary p k e))) (record {
        ten = one-asked env (unary_wrong (prefix_of k) (is_place env e)) p e m.ten;
        thirteen = not_when _ p 13 m.thirteen;
        good = λ x. expr-good env h e (unless skipped (expr_findings env e) (left fs _ c) x);
        works = λ x. expr-works n env h b e (unless skipped (expr_findings env e) (left fs _ c) x);
      }) in
      record { sound = u.sound; gives = u.gives; place = λ s. absurd (cc) }
  expr-works n env h b (post p o e) c =
      let d = left (expr_findings env e) _ c in
      let m = node env (post p o e) (right (expr_findings env e) _ c) in
      let s = step-kept (is_place env e) (kind_of env e) (expr-good env h e d).known
      (one-asked env (unary_wrong prefixes.Step (is_place env e)) p e m.ten) (not_when _ p 13 m.thirteen) in
      record { sound = (expr-works n env h b e d).place s.0; gives = λ x. refl; place = λ x. absurd (cc) }
  expr-works n env h b (binary p o x y) c =
      let rest = right (expr_findings env x) _ c in
      let wx = expr-works n env h b x (left (expr_findings env x) _ c) in
      let wy = expr-works n env h b y (left (expr_findings env y) _ rest) in
      let m = node env (binary p o x y) (right (expr_findings env y) _ rest) in
      let o2 = operands (is_bits o) (is_void (kind_of env x)) (is_void (kind_of env y)) _ (not_when _ p 2 m.two)
      (two-asked env (binary_wrong o) p x y m.ten) in
      let g = binary-works n p o (kind_of env (binary p o x y)) (resolve env x) (resolve env y)
      (is_void (kind_of env (binary p o x y))) (wx.gives o2.0) wx.sound (wy.gives o2.1) wy.sound in
      record { sound = g.sound; gives = g.gives; place = λ s. absurd (cc) }
  expr-works n env h b (assign p o x y) c =
      let rest = right (expr_findings env x) _ c in
      let cx = left (expr_findings env x) _ c in
      let cy = left (expr_findings env y) _ rest in
      let wx = expr-works n env h b x cx in
      let wy = expr-works n env h b y cy in
      let m = node env (assign p o x y) (right (expr_findings env y) _ rest) in
      let two = not_when _ p 2 m.two in
      let ten = two-asked env (assign_wrong o (is_place env x)) p x y m.ten in
      let s = assign-kept (is_bits_assign o) (is_arithmetic_assign o) (is_place env x) (kind_of env x)
      (kind_of env y) (expr-good env h x cx).known (expr-good env h y cy).known
      (place-not_void env h x) two ten (not_when _ p 13 m.thirteen) in
      let v = right_side (is_bits_assign o) _ (is_void (kind_of env y)) _ two ten in
      let g = assign-works n p o (kind_of env x) (kind_of env y) (place_of env x) (resolve env y)
      (is_void (kind_of env (assign p o x y))) (wx.place s.to_place) (wy.gives v) wy.sound in
      record { sound = g.sound; gives = g.gives; place = λ z. absurd (cc) }
  expr-works n env h b (conditional p t x y) c =
      let more = right (expr_findings env t) _ c in
      let rest = right (expr_findings env x) _ more in
      let wt = expr-works n env h b t (left (expr_findings env t) _ c) in
      let wx = expr-works n env h b x (left (expr_findings env x) _ more) in
      let wy = expr-works n env h b y (left (expr_findings env y) _ rest) in
      let m = node env (conditional p t x y) (right (expr_findings env y) _ rest) in
      let ten = three-asked env cond_wrong p t x y m.ten in
      let vt = or_left (is_void (kind_of env t)) _ ten in
      let r = or_right (is_void (kind_of env t)) _ ten in
      let vx = or_left (is_void (kind_of env x)) _ r in
      let vy = or_left (is_void (kind_of env y)) _ (or_right (is_void (kind_of env x)) _ r) in
      record {
        sound = (wt.gives vt, wt.sound, wx.gives vx, wx.sound, wy.gives vy, wy.sound);
        gives = λ z. refl;
        place = λ z. absurd (cc);
      }
  expr-works n env h b (comma p x y) c = record { sound = tt; gives = λ z. refl; place = λ s. absurd (cc) }
  expr-works n env h b (cast p t e) c =
      let d = left (expr_findings env e) _ c in
      let w = expr-works n env h b e d in
      let m = node env (cast p t e) (right (expr_findings env e) _ c) in
      let g = cast-works n p (type_name_kind env.file.items t) (kind_of env e) (resolve env e) w.sound w.gives
      (expr-good env h e d).known
      (is_there (type_name_kind env.file.items t) (not_when _ _ 1 m.one)) (cast-asked env
      (type_name_kind env.file.items t) p e m.ten) in
      record { sound = g.sound; gives = g.gives; place = λ z. absurd (cc) }
  expr-works n env h b (size_of_type p t) c = record { sound = tt; gives = λ z. refl; place = λ s. absurd (cc) }
  expr-works n env h b (call p f es) c =
      let ws = call_wants env (callee env f) es in
      let args = args_findings env ws es in
      let m = node env (call p f es) (right _ _ (right args _ c)) in
      let w = not_false (is_word f) (not_when _ p 3 m.three) in
      let s = call-holds env (callee env f) es (word-callable env f w) (answered env h f) (not_when _ p 9 m.nine)
      (not_when _ p 10 m.ten) m.eleven in
      let x = (args-good env h ws es (left args _ c) s.all_met).argued in
      let g = callee-works n env (callee env f) p (callee_name f) es (given_params env es) (outputs_of env ws es)
      (resolve_all env ws es) (args-work n env h b ws es (call-literals env (callee env f) es x) (left args _ c)
      s.all_met) (outputs-written n env b ws es x) in
      record {
        sound = g.sound;
        gives = λ z. g.gives (met-same (is_word f) (are_met env ws es)
            (result_kind env (callee env f)) w s.all_met z);
        place = λ z. absurd (cc);
      }
  expr-works n env h b (new p t e) c =
      let d = left (expr_findings env e) _ c in
      let w = expr-works n env h b e d in
      let m = node env (new p t e) (right (expr_findings env e) _ c) in
      let fit = made_fits (made_struct env.file.items t) (kind_of env e) (expr-good env h e d).known
      (one-asked env (made_wrong (made_struct env.file.items t)) p e m.ten) in
      record {
        sound = (w.gives (object-not_void (kind_of env e) fit), w.sound, tt);
        gives = λ z. refl;
        place = λ z. absurd (cc);
      }
  expr-works n env h b (index p x y) c = record { sound = tt; gives = λ z. refl; place = λ s. absurd (cc) }
  expr-works n env h b (dot p e w) c = record { sound = tt; gives = λ z. refl; place = λ s. absurd (cc) }
  expr-works n env h b (arrow p e w) c =
      let g = expr-works n env h b e (left (expr_findings env e) _ c) in
      let m = node env (arrow p e w) (right (expr_findings env e) _ c) in
      let k = is_there (field_kind env.file.items (kind_of env e) w.0) (not_when _ p 12 m.twelve) in
      let s = field-works n p (resolve env e) (struct_part (kind_of env e)) w
      (has_struct env.file.items (kind_of env e) w.0 k) (g.gives (field-not_void env.file.items (kind_of env e)
      w.0 k)) g.sound in
      let r = read-works n p (kind_of env (arrow p e w)) (place_of env (arrow p e w))
      (is_void (kind_of env (arrow p e w))) (λ x. s) in
      record { sound = r.sound; gives = r.gives; place = λ z. s }

  args-work : (n : ℕ) (env : Env) → HasKinds env → HasNumbers n env → (ws : List Want) (es : Exprs) → AreLiterals ws es
      → Clean (args_findings env ws es) → are_met env ws es ≡ true → AreSound n (resolve_all env ws es)
  args-work n env h b ws no_exprs l c m = tt
  args-work n env h b ws (expr_and e es) l c m =
      let skipped = passed_address env ws e in
      let first : Findings = (if skipped then nothing_found else expr_findings env e and void_use env e) in
      let one = left first _ c in
      all-works n env ws e es (wants_output ws) refl (λ o. arg-works n env ws e
      (wants_module ws && is_module_address env e) refl o l.0 (argument-met env ws e one (and_left
      (first_met ws (argument_form env e) (operand (kind_of env e) e)) _ m))
      (λ x. expr-good env h e (left (expr_findings env e) _ (unless skipped _ one (value-passed env ws e o x))))
      (λ x. expr-works n env h b e (left (expr_findings env e) _ (unless skipped _ one (value-passed env ws e o x)))))
      (args-work n env h b (other_wants ws) es l.1 (right first _ c)
      (and_right (first_met ws (argument_form env e) (operand (kind_of env e) e)) _ m))
