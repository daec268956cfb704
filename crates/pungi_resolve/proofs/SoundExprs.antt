-- An expression in which no rule holds has a kind, and is sound once it is resolved.
use Rattle.std.proofs.Common.{◌≡◌, ◌∙◌, Bool, true, false, List, Option, Some, None, refl}
use Rattle.std.specs.Prelude.{ℤ, pos, int_lt, ◌&&◌, ◌||◌, not, is_some, if◌then◌else◌}
use Rattle.pungi_base.specs.declared.kind.Kind.{Kind}
use Rattle.pungi_base.specs.declared.names.Name.{Name}
use Rattle.pungi_base.specs.declared.pos.Pos.{Pos}
use Rattle.pungi_tree.specs.Syntax.{Expr, word, int, float, char, text, null, paren, unary, post, binary, assign}
use Rattle.pungi_tree.specs.Syntax.{conditional, comma, cast, size_of_type, call, new, index, dot, arrow, Exprs}
use Rattle.pungi_tree.specs.Syntax.{no_exprs, expr_and}
use Rattle.pungi_types.specs.declared.kind.ValueKind.{ValueKind}
use Rattle.pungi_types.specs.declared.kind.ValueKind.TheVariants as kinds
use Rattle.pungi_types.specs.declared.wants.Want.{Want}
use Rattle.pungi_types.specs.declared.operator.Prefix.{Prefix}
use Rattle.pungi_types.specs.declared.operator.Prefix.TheVariants as prefixes
use Rattle.pungi_types.specs.Names.{Env, meaning_of, local_in}
use Rattle.pungi_types.specs.Kinds.{type_name_kind, field_kind, made_struct}
use Rattle.pungi_types.specs.Findings.{Findings, nothing_found, ◌and◌}
use Rattle.pungi_types.specs.Operators.{prefix_of, is_bits, is_arithmetic, is_order, is_equality, is_bits_assign}
use Rattle.pungi_types.specs.Operators.{is_arithmetic_assign, is_pointer, struct_part}
use Rattle.pungi_types.specs.Calls.{is_place, is_address, names_type_object, is_module_address, callee, call_wants}
use Rattle.pungi_types.specs.Calls.{wants_module, wants_place, wants_output, other_wants, is_word, passed_address}
use Rattle.pungi_types.specs.Calls.{first_met, argument_form, result_kind}
use Rattle.pungi_types.specs.Exprs.{kind_of, is_left_out, is_step_or_sign, are_met, operand, unary_kind, unary_wrong}
use Rattle.pungi_types.specs.Exprs.{binary_wrong, assign_wrong, cond_wrong, int_kind, is_bad_int, void_use, n1, n2, n3}
use Rattle.pungi_types.specs.Exprs.{n4, n5, n9, n10, n11, n12, n13, n14, node_findings, expr_findings, args_findings}
use Rattle.pungi_resolve.specs.Exprs.{resolve, place_of, resolve_all, unary_value, int_value, convert, want_kind}
use Rattle.pungi_types.specs.Formats.{expr_pos}
use Rattle.pungi_resolve.specs.Exprs.{or_int, module_address, callee_name, given_params}
use Rattle.pungi_resolved.specs.Values.{emptied, value_and}
use Rattle.pungi_resolve.specs.Sound.{is_sound, are_sound, is_sound_place}
use Rattle.pungi_resolve.proofs.Clean.{Clean, left, right, not_when, not_false, is_there, and_true, and_left, and_right}
use Rattle.pungi_resolve.proofs.Known.{HasKinds, answers, place-not_void}
use Rattle.pungi_resolve.proofs.OperatorKinds.{step-kept, sign-kept, negation-kept, binary-kept, assign-kept, cond-kept}
use Rattle.pungi_resolve.proofs.OperatorKinds.{cast-kept, made-kept}
use Rattle.pungi_resolve.proofs.UsedValues.{one-asked, two-asked, three-asked, cast-asked, argument-met}
use Rattle.pungi_resolve.proofs.UsedValues.{value-passed}
use Rattle.pungi_resolve.proofs.Argued.{AreArgued}
use Rattle.pungi_resolve.proofs.SoundCalls.{call-sound}
use Rattle.pungi_resolve.proofs.SoundParts.{convert-same, cast-same, binary-same, assign-same, read-sound, field-sound}
use Rattle.pungi_resolve.proofs.SoundParts.{has_struct, slot-sound, word-holds, static-sound, module-sound}
use Rattle.pungi_resolve.proofs.SoundParts.{word-callable, call-holds}

-- an expression with a kind, that is sound, also as a place
pub record Good (env : Env) (e : Expr) : Type 0 where
  pub known : is_some (kind_of env e) ≡ true
  pub sound : is_sound (resolve env e) ≡ true
  pub place : is_place env e ≡ true → is_sound_place (place_of env e) ≡ true

-- the rules that may hold in a node
pub record Node (env : Env) (e : Expr) : Type 0 where
  pub one : Clean (n1 env e)
  pub two : Clean (n2 env e)
  pub three : Clean (n3 env e)
  pub four : Clean (n4 env e)
  pub five : Clean (n5 env e)
  pub nine : Clean (n9 env e)
  pub ten : Clean (n10 env e)
  pub eleven : Clean (n11 env e)
  pub twelve : Clean (n12 env e)
  pub thirteen : Clean (n13 env e)
  pub fourteen : Clean (n14 env e)

pub node : (env : Env) (e : Expr) → Clean (node_findings env e) → Node env e
node env e c =
    let r1 = right (n1 env e) _ c in
    let r2 = right (n2 env e) _ r1 in
    let r3 = right (n3 env e) _ r2 in
    let r4 = right (n4 env e) _ r3 in
    let r5 = right (n5 env e) _ r4 in
    let r9 = right (n9 env e) _ r5 in
    let r10 = right (n10 env e) _ r9 in
    let r11 = right (n11 env e) _ r10 in
    let r12 = right (n12 env e) _ r11 in
    record {
      one = left (n1 env e) _ c;
      two = left (n2 env e) _ r1;
      three = left (n3 env e) _ r2;
      four = left (n4 env e) _ r3;
      five = left (n5 env e) _ r4;
      nine = left (n9 env e) _ r5;
      ten = left (n10 env e) _ r9;
      eleven = left (n11 env e) _ r10;
      twelve = left (n12 env e) _ r11;
      thirteen = left (n13 env e) _ r12;
      fourteen = right (n13 env e) _ r12;
    }

word-good : (env : Env) → HasKinds env → (p : Pos) (n : Name) → Node env (word p n) → Good env (word p n)
word-good env h p n k =
    let w = word-holds env.file.items p n (local_in env.locals n.0) (h.locals n.0) (not_when _ p 3 k.three)
    (not_when _ p 9 k.nine) in
    record { known = w.known; sound = w.sound; place = λ s. slot-sound p (meaning_of env n.0) n s }

int-known : (v : ℤ) (l u : Bool) → is_bad_int v u ≡ false → is_some (int_kind v l u) ≡ true
int-known v l u e =
    elim (is_bad_int v u) as (λ b. b ≡ false
    → is_some (if b then None else (if l || int_lt (pos 2147483647) v then Some kinds.Long else Some kinds.Int))
    ≡ true) [
      | true ↦ λ h. absurd (cc)
      | false ↦ λ h. elim (l || int_lt (pos 2147483647) v) as (λ c. is_some (if c then Some kinds.Long else Some
          kinds.Int) ≡ true) [ true ↦ refl | false ↦ refl ]
    ] e

int-sound : (p : Pos) (v : ℤ) (k : Option ValueKind) → is_some k ≡ true → is_sound (int_value p k v) ≡ true
int-sound p v None h = absurd (cc)
int-sound p v (Some k) h = refl

int-good : (env : Env) (p : Pos) (v : ℤ) (l u : Bool) → Node env (int p v l u) → Good env (int p v l u)
int-good env p v l u k =
    let i = int-known v l u (not_when _ p 14 k.fourteen) in
    record { known = i; sound = int-sound p v (int_kind v l u) i; place = λ s. absurd (cc) }

-- what the operator before an operand requires of it
record Before (env : Env) (pr : Prefix) (e : Expr) : Type 0 where
  two : is_left_out pr ≡ false
  five : (is_address pr && not (names_type_object env e)) ≡ false
  ten : unary_wrong pr (is_place env e) (kind_of env e) ≡ false
  thirteen : (is_step_or_sign pr && is_pointer (kind_of env e)) ≡ false
  good : (is_address pr && names_type_object env e) ≡ false → Good env e

-- a node before its operand
record Unary (env : Env) (p : Pos) (k : Kind) (pr : Prefix) (e : Expr) : Type 0 where
  known : is_some (unary_kind pr (names_type_object env e) (is_place env e) (kind_of env e)) ≡ true
  sound : is_sound (unary_value env p k e pr (resolve env e) (place_of env e)) ≡ true

unary-good : (env : Env) (p : Pos) (k : Kind) (pr : Prefix) (e : Expr) → Before env pr e → Unary env p k pr e
unary-good env p k prefixes.Address e b =
    let t : names_type_object env e ≡ true = not_false (names_type_object env e) b.five in
    record { known = rw t refl; sound = static-sound env p e t }
unary-good env p k prefixes.Step e b =
    let g = b.good refl in
    let s = step-kept (is_place env e) (kind_of env e) g.known b.ten b.thirteen in
    record { known = s.1; sound = g.place s.0 }
unary-good env p k prefixes.Sign e b =
    let g = b.good refl in
    record { known = sign-kept (kind_of env e) g.known b.ten b.thirteen; sound = g.sound }
unary-good env p k prefixes.Negation e b =
    let g = b.good refl in
    record { known = negation-kept (kind_of env e) g.known b.ten; sound = g.sound }
unary-good env p k prefixes.LeftOut e b = let h = b.two in absurd (cc)

-- unless a test holds, what is found is nothing
pub unless : (b : Bool) (fs : Findings) → Clean (if b then nothing_found else fs) → b ≡ false → Clean fs
unless true fs c e = absurd (cc)
unless false fs c e = c

-- an argument: a place that is emptied, or a value; a module table, or one of these
other-sound : (env : Env) (ws : List Want) (e : Expr) (b : Bool) → (wants_place ws && is_place env e) ≡ b → Good env e
    → is_sound (if b then emptied (expr_pos e) (or_int (kind_of env e)) (place_of env e) else convert (expr_pos e)
    (want_kind ws) (kind_of env e) (resolve env e)) ≡ true
other-sound env ws e true t g = g.place (and_right (wants_place ws) (is_place env e) t)
other-sound env ws e false t g = convert-same (expr_pos e) (want_kind ws) (kind_of env e) (resolve env e) ∙ g.sound

arg-sound : (env : Env) (ws : List Want) (e : Expr) (b : Bool) → (wants_module ws && is_module_address env e) ≡ b
    → (b ≡ false → Good env e)
    → is_sound (if b then module_address e else (if wants_place ws && is_place env e then emptied (expr_pos e)
    (or_int (kind_of env e)) (place_of env e) else convert (expr_pos e) (want_kind ws) (kind_of env e)
    (resolve env e))) ≡ true
arg-sound env ws e true t g = module-sound env e (and_right (wants_module ws) (is_module_address env e) t)
arg-sound env ws e false t g = other-sound env ws e (wants_place ws && is_place env e) refl (g refl)

-- what the call writes has no value
all-sound : (env : Env) (ws : List Want) (e : Expr) (es : Exprs) (b : Bool) → wants_output ws ≡ b
    → (b ≡ false → (wants_module ws && is_module_address env e) ≡ false → Good env e)
    → are_sound (resolve_all env (other_wants ws) es) ≡ true
    → are_sound (if b then resolve_all env (other_wants ws) es else value_and
    (if wants_module ws && is_module_address env e then module_address e else (if wants_place ws
    && is_place env e then emptied (expr_pos e) (or_int (kind_of env e)) (place_of env e) else convert (expr_pos e)
    (want_kind ws) (kind_of env e) (resolve env e))) (resolve_all env (other_wants ws) es)) ≡ true
all-sound env ws e es true t g h = h
all-sound env ws e es false t g h =
    and_true _ _ (arg-sound env ws e (wants_module ws && is_module_address env e) refl (g refl)) h

-- arguments that are sound, and what is known of them
pub record GoodArguments (env : Env) (ws : List Want) (es : Exprs) : Type 0 where
  pub sound : are_sound (resolve_all env ws es) ≡ true
  pub argued : AreArgued env ws es

-- a word that is called
pub answered : (env : Env) → HasKinds env → (f : Expr) → answers env (callee env f) ≡ true
answered env h (word p n) = h.calls n.0
answered env h _ = refl

known-call : (w m : Bool) (k : Option ValueKind) → w ≡ true → m ≡ true → is_some k ≡ true
    → is_some (if w && m then k else None) ≡ true
known-call true true k a b h = h
known-call _ _ k a b h = absurd (cc)

mutual
  pub expr-good : (env : Env) → HasKinds env → (e : Expr) → Clean (expr_findings env e) → Good env e
  expr-good env h (word p n) c = word-good env h p n (node env (word p n) c)
  expr-good env h (int p v l u) c = int-good env p v l u (node env (int p v l u) c)
  expr-good env h (float p) c = let k = c.none in absurd (cc)
  expr-good env h (char p x) c = record { known = refl; sound = refl; place = λ s. absurd (cc) }
  expr-good env h (text p ns) c = record { known = refl; sound = refl; place = λ s. absurd (cc) }
  expr-good env h (null p) c = record { known = refl; sound = refl; place = λ s. absurd (cc) }
  expr-good env h (paren p e) c =
      let g = expr-good env h e c in
      record { known = g.known; sound = g.sound; place = λ s. absurd (cc) }
  expr-good env h (unary p k e) c =
      let fs : Findings = (if is_address (prefix_of k)
      && names_type_object env e then nothing_found else expr_findings env e) in
      let m = node env (unary p k e) (right fs _ c) in
      let u = unary-good env p k (prefix_of k) e (record {
        two = not_when _ p 2 m.two;
        five = not_when _ p 5 m.five;
        ten = one-asked env (unary_wrong (prefix_of k) (is_place env e)) p e m.ten;
        thirteen = not_when _ p 13 m.thirteen;
        good = λ b. expr-good env h e (unless (is_address (prefix_of k) && names_type_object env e)
            (expr_findings env e) (left fs _ c) b);
      }) in
      record { known = u.known; sound = u.sound; place = λ s. absurd (cc) }
  expr-good env h (post p o e) c =
      let g = expr-good env h e (left _ _ c) in
      let m = node env (post p o e) (right (expr_findings env e) _ c) in
      let s = step-kept (is_place env e) (kind_of env e) g.known (one-asked env
      (unary_wrong prefixes.Step (is_place env e)) p e m.ten) (not_when _ p 13 m.thirteen) in
      record { known = s.1; sound = g.place s.0; place = λ x. absurd (cc) }
  expr-good env h (binary p o a b) c =
      let rest = right (expr_findings env a) _ c in
      let ga = expr-good env h a (left _ _ c) in
      let gb = expr-good env h b (left (expr_findings env b) _ rest) in
      let m = node env (binary p o a b) (right (expr_findings env b) _ rest) in
      record {
        known = binary-kept (is_bits o) (is_arithmetic o) (is_order o) (is_equality o) (kind_of env a)
            (kind_of env b) ga.known gb.known
            (not_when _ p 2 m.two) (two-asked env (binary_wrong o) p a b m.ten) (not_when _ p 13 m.thirteen);
        sound = binary-same p o (kind_of env (binary p o a b)) (resolve env a) (resolve env b)
            ∙ and_true _ _ ga.sound gb.sound;
        place = λ x. absurd (cc);
      }
  expr-good env h (assign p o a b) c =
      let rest = right (expr_findings env a) _ c in
      let ga = expr-good env h a (left _ _ c) in
      let gb = expr-good env h b (left (expr_findings env b) _ rest) in
      let m = node env (assign p o a b) (right (expr_findings env b) _ rest) in
      let s = assign-kept (is_bits_assign o) (is_arithmetic_assign o) (is_place env a) (kind_of env a)
      (kind_of env b) ga.known gb.known
      (place-not_void env h a) (not_when _ p 2 m.two) (two-asked env (assign_wrong o (is_place env a)) p a b m.ten)
      (not_when _ p 13 m.thirteen) in
      record {
        known = s.known;
        sound = assign-same p o (kind_of env a) (kind_of env b) (place_of env a) (resolve env b)
            ∙ and_true _ _ (ga.place s.to_place) gb.sound;
        place = λ x. absurd (cc);
      }
  expr-good env h (conditional p t a b) c =
      let more = right (expr_findings env t) _ c in
      let rest = right (expr_findings env a) _ more in
      let gt = expr-good env h t (left _ _ c) in
      let ga = expr-good env h a (left (expr_findings env a) _ more) in
      let gb = expr-good env h b (left (expr_findings env b) _ rest) in
      let m = node env (conditional p t a b) (right (expr_findings env b) _ rest) in
      record {
        known = cond-kept (kind_of env t) (kind_of env a) (kind_of env b) gt.known ga.known gb.known
            (three-asked env cond_wrong p t a b m.ten);
        sound = and_true _ _ gt.sound (and_true _ _ ga.sound gb.sound);
        place = λ x. absurd (cc);
      }
  expr-good env h (comma p a b) c = let k = (node env (comma p a b) (right (expr_findings env b) _
      (right (expr_findings env a) _ c))).two.none in absurd (cc)
  expr-good env h (cast p t e) c =
      let g = expr-good env h e (left _ _ c) in
      let m = node env (cast p t e) (right (expr_findings env e) _ c) in
      record {
        known = cast-kept (type_name_kind env.file.items t) (kind_of env e) (is_there
            (type_name_kind env.file.items t) (not_when _ _ 1 m.one)) g.known
            (not_when _ p 4 m.four) (cast-asked env (type_name_kind env.file.items t) p e m.ten);
        sound = cast-same p (type_name_kind env.file.items t) (kind_of env e) (resolve env e) ∙ g.sound;
        place = λ x. absurd (cc);
      }
  expr-good env h (size_of_type p t) c = let k = (node env (size_of_type p t) c).two.none in absurd (cc)
  expr-good env h (call p f es) c =
      let ws = call_wants env (callee env f) es in
      let args = args_findings env ws es in
      let m = node env (call p f es) (right _ _ (right args _ c)) in
      let w = not_false (is_word f) (not_when _ p 3 m.three) in
      let callable = word-callable env f w in
      let s = call-holds env (callee env f) es callable (answered env h f) (not_when _ p 9 m.nine)
      (not_when _ p 10 m.ten) m.eleven in
      let x = args-good env h ws es (left args _ c) s.all_met in
      record {
        known = known-call (is_word f) (are_met env ws es) (result_kind env (callee env f)) w s.all_met s.known;
        sound = call-sound env (callee env f) p (callee_name f) es (given_params env es) (resolve_all env ws es) callable
            (not_when _ p 10 m.ten) (not_when _ p 9 m.nine) x.argued x.sound;
        place = λ x. absurd (cc);
      }
  expr-good env h (new p t e) c =
      let g = expr-good env h e (left _ _ c) in
      let m = node env (new p t e) (right (expr_findings env e) _ c) in
      record {
        known = made-kept (made_struct env.file.items t) (operand (kind_of env e) e) (not_when _ p 10 (left _ _ m.ten));
        sound = and_true _ _ g.sound refl;
        place = λ x. absurd (cc);
      }
  expr-good env h (index p a b) c = let k = (node env (index p a b) (right (expr_findings env b) _
      (right (expr_findings env a) _ c))).two.none in absurd (cc)
  expr-good env h (dot p e n) c = let k = (node env (dot p e n) (right (expr_findings env e) _ c)).two.none in
      absurd (cc)
  expr-good env h (arrow p e n) c =
      let g = expr-good env h e (left _ _ c) in
      let m = node env (arrow p e n) (right (expr_findings env e) _ c) in
      let k = is_there (field_kind env.file.items (kind_of env e) n.0) (not_when _ p 12 m.twelve) in
      let s = field-sound p (resolve env e) (struct_part (kind_of env e)) n (has_struct env.file.items
      (kind_of env e) n.0 k) g.sound in
      record { known = k; sound = read-sound p (field_kind env.file.items (kind_of env e) n.0) _ k s; place = λ x. s }

  pub args-good : (env : Env) → HasKinds env → (ws : List Want) (es : Exprs) → Clean (args_findings env ws es)
      → are_met env ws es ≡ true → GoodArguments env ws es
  args-good env h ws no_exprs c m = record { sound = refl; argued = m }
  args-good env h ws (expr_and e es) c m =
      let first : Findings = (if passed_address env ws e then nothing_found else expr_findings env e and void_use env e) in
      let one = left first _ c in
      let good : passed_address env ws e ≡ false → Good env e = λ k.
      expr-good env h e (left (expr_findings env e) _ (unless (passed_address env ws e) _ one k)) in
      let rest = args-good env h (other_wants ws) es (right first _ c) (and_right
      (first_met ws (argument_form env e) (operand (kind_of env e) e)) _ m) in
      record {
        sound = all-sound env ws e es (wants_output ws) refl (λ o k. good (value-passed env ws e o k)) rest.sound;
        argued = (
          record {
            met = argument-met env ws e one (and_left (first_met ws (argument_form env e)
                (operand (kind_of env e) e)) _ m);
            known = λ k. (good k).known;
          },
          rest.argued,
        );
      }
