-- The slots that the instructions of a function name are those of the file, and have their kinds: so a slot has one
-- kind in all codes.
use Rattle.std.proofs.Common.{◌≡◌, ◌∙◌, ℕ, zero, suc, ◌+◌, ◌*◌, ℤ, Bool, true, false, List, [], ◌∷◌, ◌++◌, length}
use Rattle.std.proofs.Common.{Option, Some, None, refl, sym, ap, subst, arith}
use Rattle.std.specs.Prelude.{◌==◌, slice_get, if◌then◌else◌}
use Rattle.std.proofs.lemmas.Bool.Decides.{nat_tests}
use Rattle.pungi_base.specs.declared.kind.Kind.{Kind}
use Rattle.pungi_base.specs.declared.pos.Pos.{Pos}
use Rattle.pungi_tree.specs.Syntax.{Item}
use Rattle.pungi_api.specs.declared.param.Param.{Param}
use Rattle.pungi_api.specs.declared.param.Param.TheVariants as param
use Rattle.pungi_api.specs.declared.signature.Signature.{Signature}
use Rattle.pungi_types.specs.declared.kind.ValueKind.{ValueKind}
use Rattle.pungi_types.specs.Kinds.{struct_fields, field_in_some}
use Rattle.pungi_types.specs.Names.{global_kind}
use Rattle.pungi_types.specs.Operators.{is_void, is_same_kind}
use Rattle.pungi_resolved.specs.declared.output_step.OutputStep.{OutputStep}
use Rattle.pungi_resolved.specs.declared.output_step.OutputStep.TheVariants.{Ends, Writes}
use Rattle.pungi_resolved.specs.Values as expr
use Rattle.pungi_resolved.specs.Actions as stmt
use Rattle.pungi_resolved.specs.Functions.{ResolvedFunction}
use Rattle.pungi_meaning.specs.Values.{wide, slot_kind}
use Rattle.pungi_meaning.specs.Exprs.{is_and}
use Rattle.pungi_meaning.specs.Run.{closing_brace}
use Rattle.pungi_meaning.specs.Stmts.{block_cases}
use Rattle.pungi_meaning.specs.Work.{block_locals}
use Rattle.pungi_meaning.specs.Todo.{listed, listed_values}
use Rattle.pungi_code.specs.declared.code.Line.{Line}
use Rattle.pungi_code.specs.declared.instr.Instr.TheVariants.{Fit}
use Rattle.pungi_code.specs.declared.place.Place.{Place}
use Rattle.pungi_code.specs.declared.place.Place.TheVariants.{Global, Field}
use Rattle.pungi_code.specs.WellFormed.{place_kind, place_of, is_same_slot, HaveOneKind}
use Rattle.pungi_layout.proofs.well_formed.Both.{and_left, and_right}
use Rattle.pungi_layout.specs.code.CallKinds.{call_params}
use Rattle.pungi_layout.specs.code.Parts.{is_minus}
use Rattle.pungi_layout.specs.code.Sizes.{expr_size, place_size, option_size, declare_size, test_size, stmt_size}
use Rattle.pungi_layout.specs.code.Sizes.{stmts_size, values_size, missing_one, missing_size, outputs_size}
use Rattle.pungi_layout.specs.code.Temporaries.{column, temp, temp_of, value_column, operand, local_column, tail}
use Rattle.pungi_layout.specs.code.Temporaries.{arg_var}
use Rattle.pungi_layout.specs.code.ExprCode.{line, to_var, var, branch_on, fit_code, old_code, store_code, above}
use Rattle.pungi_layout.specs.code.ExprCode.{stored_var, counted_var, base_var, sign_code, sign_var, step_code}
use Rattle.pungi_layout.specs.code.ExprCode.{missing_line, missing_code, unless_null_code, steps_code, outputs_code}
use Rattle.pungi_layout.specs.code.ExprCode.{expr_code, base_code, args_code}
use Rattle.pungi_layout.specs.code.Scopes.{Env, everywhere, for_head, list_cases, in_block, in_loop, in_switch}
use Rattle.pungi_layout.specs.code.StmtCode.{unset_code, value_code, option_code, bind_code, declare_code, test_code}
use Rattle.pungi_layout.specs.code.StmtCode.{tested_code, case_code, return_code, stmt_code, stmts_code, end_code}
use Rattle.pungi_layout.specs.code.StmtCode.{body_code}
use Rattle.pungi_layout.specs.kinds.Typed.{Known, IsTyped, IsPlaceTyped, AreTyped, IsOptionTyped, IsDeclaredTyped}
use Rattle.pungi_layout.specs.kinds.Typed.{AreDeclaredTyped, IsReturned, IsStmtTyped, AreStmtsTyped}
use Rattle.pungi_layout.specs.kinds.Laws.{known, AgreeIfTyped}
use Rattle.pungi_layout.specs.code.VarKinds.{var_kinds}

-- .. slots of a file
abbrev pub IsSlotOf : List Item → Option Place → Type 0
IsSlotOf file None = Unit {0}
IsSlotOf file (Some (Global n k)) = (kind : ValueKind) × (global_kind file n.0 ≡ Some kind) × (k ≡ slot_kind kind)
IsSlotOf file (Some (Field base tag field k)) =
    (kind : ValueKind) × (field_in_some file (struct_fields file tag.0) field.0 ≡ Some kind) × (k ≡ slot_kind kind)

same_number : (a b : ℕ) → (a == b) ≡ true → a ≡ b
same_number a b h = grind (arith, nat_tests)

one_kind : (a b : Option ValueKind) (k l : ValueKind) → a ≡ Some k → b ≡ Some l → a ≡ b → k ≡ l
one_kind a b k l e f h = cc

slots_agree : (file : List Item) (p q : Place) → IsSlotOf file (Some p) → IsSlotOf file (Some q)
    → is_same_slot p q ≡ true → place_kind p ≡ place_kind q
slots_agree file (Global n k) (Global m l) x y h =
    let e : global_kind file n.0 ≡ global_kind file m.0 = ap (global_kind file) (same_number n.0 m.0 h) in
    x.2 ∙ ap slot_kind (one_kind _ _ x.0 y.0 x.1 y.1 e) ∙ sym y.2
slots_agree file (Field base tag field k) (Field other struct name l) x y h =
    let t = same_number tag.0 struct.0 (and_left (tag.0 == struct.0) (field.0 == name.0) h) in
    let n = same_number field.0 name.0 (and_right (tag.0 == struct.0) (field.0 == name.0) h) in
    let e : field_in_some file (struct_fields file tag.0) field.0
    ≡ field_in_some file (struct_fields file struct.0) name.0 =
    ap (λ (i : ℕ). field_in_some file (struct_fields file i) field.0) t
    ∙ ap (field_in_some file (struct_fields file struct.0)) n in
    x.2 ∙ ap slot_kind (one_kind _ _ x.0 y.0 x.1 y.1 e) ∙ sym y.2
slots_agree file (Global n k) (Field other struct name l) x y h = absurd (cc)
slots_agree file (Field base tag field k) (Global m l) x y h = absurd (cc)

pub agree : (file : List Item) (o u : Option Place) → IsSlotOf file o → IsSlotOf file u → HaveOneKind o u
agree file None u x y = tt
agree file (Some p) None x y = tt
agree file (Some p) (Some q) x y = λ h. slots_agree file p q x y h

-- the slots of instructions are those of the file
abbrev pub AreOf : List Item → List Line → Type 0
AreOf file [] = Unit {0}
AreOf file (l ∷ ls) = IsSlotOf file (place_of l.instr) × AreOf file ls

module _ (file : Known) (vars : List Param) (nl : ℕ) where
  joins : (a b : List Line) → AreOf file.items a → AreOf file.items b → AreOf file.items (a ++ b)
  joins [] b h k = k
  joins (l ∷ a) b h k = (h.0, joins a b h.1 k)

  -- .. places
  old_slots : (kind : ValueKind) (place : expr.Place) (t b : ℕ) → IsPlaceTyped file vars kind place
      → AreOf file.items (old_code kind place t b)
  old_slots kind (expr.local_place p x) t b h = (tt, tt)
  old_slots kind (expr.global_place p n) t b h = ((kind, h.1, refl), tt)
  old_slots kind (expr.field_place p base tag field) t b h = ((kind, h.1, refl), tt)
  old_slots kind expr.no_place t b h = absurd h

  store_slots : (kind : ValueKind) (place : expr.Place) (t b v : ℕ) → IsPlaceTyped file vars kind place
      → AreOf file.items (store_code kind place t b v)
  store_slots kind (expr.local_place p x) t b v h = (tt, (tt, tt))
  store_slots kind (expr.global_place p n) t b v h = ((kind, h.1, refl), (tt, tt))
  store_slots kind (expr.field_place p base tag field) t b v h = ((kind, h.1, refl), (tt, tt))
  store_slots kind expr.no_place t b v h = absurd h

  fit_slots : (p : Pos) (to from : ValueKind) (t x : ℕ) → AreOf file.items (fit_code p to from t x)
  fit_slots p to from t x = elim (is_same_kind (Some to) (Some from)) as
      (λ b. AreOf file.items (if b then [] else line p (Fit (to_var t) to (var x)) ∷ [])) [
        | true ↦ tt
        | false ↦ (tt, tt)
      ]

  step_slots : (d t : ℕ) (p : Pos) (m : Kind) (kind : ValueKind) (place : expr.Place)
      → IsPlaceTyped file vars kind place → AreOf file.items (step_code nl d t p m kind place)
  step_slots d t p m kind place h = (
    tt,
    joins (fit_code p kind (wide kind) (stored_var nl place d kind) (counted_var nl place d kind (wide kind))) _
        (fit_slots p kind (wide kind) (stored_var nl place d kind) (counted_var nl place d kind (wide kind)))
        (store_slots kind place t (base_var nl place d) (stored_var nl place d kind) h),
  )

  sign_slots : (minus : Bool) (p : Pos) (kind : ValueKind) (t x : ℕ) → AreOf file.items (sign_code minus p kind t x)
  sign_slots true p kind t x = (tt, tt)
  sign_slots false p kind t x = tt

  branch_slots : (on : Bool) (x l m : ℕ) → IsSlotOf file.items (place_of (branch_on on x l m))
  branch_slots true x l m = tt
  branch_slots false x l m = tt

  -- .. calls, once their arguments are there
  missing_one_slots : (q : Param) (x : ℕ) (p : Pos) (pc other : ℕ) → AreOf file.items (missing_line x p pc other q)
  missing_one_slots param.ObjectOrNull x p pc other = (tt, tt)
  missing_one_slots _ x p pc other = tt

  missing_slots : (ps : List Param) (vs : List expr.Value) (d : ℕ) (p : Pos) (pc other : ℕ)
      → AreOf file.items (missing_code nl d p pc other ps vs)
  missing_slots [] vs d p pc other = tt
  missing_slots (q ∷ ps) [] d p pc other = tt
  missing_slots (q ∷ ps) (v ∷ vs) d p pc other =
      joins (missing_line (arg_var nl d (q ∷ ps) v) p pc other q) _
      (missing_one_slots q (arg_var nl d (q ∷ ps) v) p pc other)
      (missing_slots ps vs (d + 1) p (pc + missing_one q) other)

  unless_null_slots : (d t : ℕ) (p : Pos) (pc : ℕ) (sig : Signature) (vs : List expr.Value)
      → AreOf file.items (unless_null_code nl d t p pc sig vs)
  unless_null_slots d t p pc sig vs =
      let other = pc + missing_size sig.params vs + 2 in
      joins (missing_code nl d p pc other sig.params vs) _ (missing_slots sig.params vs d p pc other)
      (tt, (tt, (tt, tt)))

  steps_slots : (steps : List OutputStep) (x y : ℕ) (p : Pos) (pc end : ℕ)
      → AreOf file.items (steps_code x y p pc end steps)
  steps_slots [] x y p pc end = tt
  steps_slots (Ends i gives ∷ steps) x y p pc end = (tt, (tt, steps_slots steps x y p (pc + 2) end))
  steps_slots (Writes l a ∷ steps) x y p pc end = (tt, steps_slots steps x y p (pc + 1) end)

  outputs_slots : (d t : ℕ) (p : Pos) (pc : ℕ) (steps : List OutputStep)
      → AreOf file.items (outputs_code nl d t p pc steps)
  outputs_slots d t p pc steps =
      let x = temp nl d 0 in
      let y = temp nl (d + 1) 0 in
      let end = pc + outputs_size steps in
      joins (steps_code x y p pc end steps) _ (steps_slots steps x y p pc end) (tt, (tt, (tt, tt)))

  -- .. expressions
  mutual
    expr_slots : (v : expr.Value) (d t pc : ℕ) → IsTyped file vars v → AreOf file.items (expr_code nl d t pc v)
    expr_slots (expr.constant p i) d t pc h = (tt, tt)
    expr_slots (expr.text_of p ns) d t pc h = (tt, tt)
    expr_slots (expr.null_of p) d t pc h = (tt, tt)
    expr_slots (expr.static_of p i) d t pc h = (tt, tt)
    expr_slots (expr.module_of p w) d t pc h = (tt, tt)
    expr_slots (expr.read p kind place) d t pc h = joins (base_code nl d pc place) _ (base_slots place d pc kind h)
        (old_slots kind place t (base_var nl place d) h)
    expr_slots (expr.inner p v) d t pc h = expr_slots v d t pc h
    expr_slots (expr.signed p m kind v) d t pc h =
        joins (expr_code nl d (sign_var (is_minus m) t (temp_of nl d v)) pc v) _
        (expr_slots v d (sign_var (is_minus m) t (temp_of nl d v)) pc h.2) (sign_slots (is_minus m) p kind t
        (temp_of nl d v))
    expr_slots (expr.negated p v) d t pc h = (
      tt,
      joins (expr_code nl (d + 1) (temp_of nl (d + 1) v) (pc + 1) v) _ (expr_slots v (d + 1)
          (temp_of nl (d + 1) v) (pc + 1) h) (tt, (tt, tt)),
    )
    expr_slots (expr.stepped p false m kind place) d t pc h =
        joins (base_code nl d pc place) _ (base_slots place d pc kind h.1)
        (joins (old_code kind place (temp nl (above place d) (column kind)) (base_var nl place d)) _
        (old_slots kind place (temp nl (above place d) (column kind)) (base_var nl place d) h.1)
        (step_slots d t p m kind place h.1))
    expr_slots (expr.stepped p true m kind place) d t pc h =
        let e = d + 1 in
        let s = temp nl (above place e) (column kind) in (
          tt,
          joins (base_code nl e (pc + 1) place) _ (base_slots place e (pc + 1) kind h.1)
              (joins (old_code kind place s (base_var nl place e)) _ (old_slots kind place s (base_var nl place e)
              h.1) (tt, step_slots e (temp nl e (column kind)) p m kind place h.1)),
        )
    expr_slots (expr.emptied p kind place) d t pc h =
        let e = d + 1 in
        let s = stored_var nl place e kind in (
          tt,
          joins (base_code nl e (pc + 1) place) _ (base_slots place e (pc + 1) kind h.1)
              (joins (old_code kind place s (base_var nl place e)) _ (old_slots kind place s (base_var nl place e) h.1)
              (tt, (tt, store_slots kind place (temp nl e (column kind)) (base_var nl place e) s h.1))),
        )
    expr_slots (expr.computed p m kind a b) d t pc h =
        joins (expr_code nl d (temp_of nl d a) pc a) _ (expr_slots a d (temp_of nl d a) pc h.2)
        (joins (expr_code nl (d + 1) (temp_of nl (d + 1) b) (pc + expr_size a) b) _
        (expr_slots b (d + 1) (temp_of nl (d + 1) b) (pc + expr_size a) h.4) (tt, tt))
    expr_slots (expr.compared p m a b) d t pc h =
        joins (expr_code nl d (operand nl d (value_column b) a) pc a) _ (expr_slots a d
        (operand nl d (value_column b) a) pc h.1)
        (joins (expr_code nl (d + 1) (operand nl (d + 1) (value_column a) b) (pc + expr_size a) b) _
        (expr_slots b (d + 1) (operand nl (d + 1) (value_column a) b) (pc + expr_size a) h.2) (tt, tt))
    expr_slots (expr.joined_by p m a b) d t pc h =
        let e = d + 1 in
        let end = pc + 1 + expr_size a + 1 + expr_size b + 2 in (
          tt,
          joins (expr_code nl e (temp_of nl e a) (pc + 1) a) _ (expr_slots a e (temp_of nl e a) (pc + 1) h.0) (
            branch_slots (is_and m) (temp_of nl e a) (pc + 1 + expr_size a + 1) end,
            joins (expr_code nl e (temp_of nl e b) (pc + 1 + expr_size a + 1) b) _
                (expr_slots b e (temp_of nl e b) (pc + 1 + expr_size a + 1) h.1)
                (branch_slots (is_and m) (temp_of nl e b) (pc + 1 + expr_size a + 1 + expr_size b + 1) end, (tt, tt)),
          ),
        )
    expr_slots (expr.stored p kind place v) d t pc h =
        joins (base_code nl d pc place) _ (base_slots place d pc kind h.0)
        (joins (expr_code nl (above place d) (stored_var nl place d kind) (pc + place_size place) v) _
        (expr_slots v (above place d) (stored_var nl place d kind) (pc + place_size place) h.2)
        (store_slots kind place t (base_var nl place d) (stored_var nl place d kind) h.0))
    expr_slots (expr.updated p m counted kind place v) d t pc h =
        joins (base_code nl d pc place) _ (base_slots place d pc kind h.2)
        (joins (old_code kind place (temp nl (above place d) (column kind)) (base_var nl place d)) _
        (old_slots kind place (temp nl (above place d) (column kind)) (base_var nl place d) h.2)
        (joins (expr_code nl (above place d + 1) (temp_of nl (above place d + 1) v) (pc + place_size place + 1) v) _
        (expr_slots v (above place d + 1) (temp_of nl (above place d + 1) v) (pc + place_size place + 1) h.4) (
          tt,
          joins (fit_code p kind counted (stored_var nl place d kind) (counted_var nl place d kind counted)) _
              (fit_slots p kind counted (stored_var nl place d kind) (counted_var nl place d kind counted))
              (store_slots kind place t (base_var nl place d) (stored_var nl place d kind) h.2),
        )))
    expr_slots (expr.chosen p c a b) d t pc h =
        joins (expr_code nl d (temp_of nl d c) pc c) _ (expr_slots c d (temp_of nl d c) pc h.0) (
          tt,
          joins (expr_code nl d t (pc + expr_size c + 1) a) _ (expr_slots a d t (pc + expr_size c + 1) h.2)
              (tt, expr_slots b d t (pc + expr_size c + 1 + expr_size a + 1) h.3),
        )
    expr_slots (expr.converted p kind v) d t pc h = joins (expr_code nl d (temp_of nl d v) pc v) _
        (expr_slots v d (temp_of nl d v) pc h.2) (tt, tt)
    expr_slots (expr.cast_of p v) d t pc h = expr_slots v d t pc h
    expr_slots (expr.dropped p v) d t pc h = expr_slots v d t pc h
    expr_slots (expr.called p w vs) d t pc h = joins (args_code nl d pc (call_params w) vs) _
        (args_slots vs d pc (call_params w) (call_params w) h.2) (tt, tt)
    expr_slots (expr.called_row p w sig vs) d t pc h = joins (args_code nl d pc sig.params vs) _
        (args_slots vs d pc sig.params sig.params h.1) (tt, tt)
    expr_slots (expr.called_unless_null p w sig vs) d t pc h = joins (args_code nl d pc sig.params vs) _
        (args_slots vs d pc sig.params sig.params h.3)
        (unless_null_slots d t p (pc + values_size vs) sig (listed_values vs))
    expr_slots (expr.called_with_outputs p w sig vs steps) d t pc h = joins (args_code nl d pc sig.params vs) _
        (args_slots vs d pc sig.params sig.params h.3) (tt, outputs_slots d t p (pc + values_size vs + 1) steps)
    expr_slots (expr.nonsense p) d t pc h = (tt, tt)

    base_slots : (place : expr.Place) (d pc : ℕ) (kind : ValueKind) → IsPlaceTyped file vars kind place
        → AreOf file.items (base_code nl d pc place)
    base_slots (expr.local_place p x) d pc kind h = tt
    base_slots (expr.global_place p w) d pc kind h = tt
    base_slots (expr.field_place p base tag field) d pc kind h = expr_slots base d (temp_of nl d base) pc h.3
    base_slots expr.no_place d pc kind h = tt

    args_slots : (vs : expr.Values) (d pc : ℕ) (qs ps : List Param) → AreTyped file vars ps vs
        → AreOf file.items (args_code nl d pc qs vs)
    args_slots expr.no_values d pc qs ps h = tt
    args_slots (expr.value_and v vs) d pc qs [] h = absurd h
    args_slots (expr.value_and v vs) d pc qs (p ∷ ps) h =
        joins (expr_code nl d (arg_var nl d qs v) pc v) _ (expr_slots v d (arg_var nl d qs v) pc h.1)
        (args_slots vs (d + 1) (pc + expr_size v) (tail qs) ps h.2)

  -- .. statements
  unset_slots : (p : Pos) (rs : List stmt.DeclaredLocal) → AreOf file.items (unset_code p rs)
  unset_slots p [] = tt
  unset_slots p (r ∷ rs) = (tt, unset_slots p rs)

  value_slots : (v : expr.Value) (pc : ℕ) → IsTyped file vars v → AreOf file.items (value_code nl pc v)
  value_slots v pc h = expr_slots v 0 (temp_of nl 0 v) pc h

  option_slots : (o : Option expr.Value) (pc : ℕ) → IsOptionTyped file vars o → AreOf file.items (option_code nl pc o)
  option_slots None pc h = tt
  option_slots (Some v) pc h = value_slots v pc h

  bind_slots : (pc : ℕ) (p : Pos) (x : ℕ) (kind : Option ValueKind) (v : Option expr.Value)
      → IsDeclaredTyped file vars x kind v → AreOf file.items (bind_code nl pc p x kind v)
  bind_slots pc p x None v h = absurd h
  bind_slots pc p x (Some kind) None h = (tt, tt)
  bind_slots pc p x (Some kind) (Some v) h =
      joins (expr_code nl 0 (operand nl 0 (local_column (Some kind)) v) pc v) _
      (expr_slots v 0 (operand nl 0 (local_column (Some kind)) v) pc h.2.1) (tt, tt)

  declare_slots : (rs : List stmt.DeclaredLocal) (pc : ℕ) → AreDeclaredTyped file vars rs
      → AreOf file.items (declare_code nl pc rs)
  declare_slots [] pc h = tt
  declare_slots (r ∷ rs) pc h = joins (bind_code nl pc r.at r.number r.kind r.value) _
      (bind_slots pc r.at r.number r.kind r.value h.0) (declare_slots rs (pc + option_size r.value + 1) h.1)

  test_slots : (c : expr.Value) (pc go other : ℕ) → IsTyped file vars c
      → AreOf file.items (test_code nl pc c go other)
  test_slots c pc go other h = joins (value_code nl pc c) _ (value_slots c pc h) (tt, tt)

  tested_slots : (c : Option expr.Value) (pc go other : ℕ) → IsOptionTyped file vars c
      → AreOf file.items (tested_code nl pc c go other)
  tested_slots None pc go other h = tt
  tested_slots (Some c) pc go other h = test_slots c pc go other h

  case_slots : (p : Pos) (x y : ℕ) (cs : List (ℤ × ℕ)) (pc : ℕ) → AreOf file.items (case_code p x y pc cs)
  case_slots p x y [] pc = tt
  case_slots p x y (c ∷ cs) pc = (tt, (tt, case_slots p x y cs (pc + 2)))

  return_slots : (p : Pos) (k : Option ValueKind) (v : Option expr.Value) (pc : ℕ) → IsReturned file vars k v
      → AreOf file.items (return_code nl pc p k v)
  return_slots p k None pc h = (tt, tt)
  return_slots p None (Some v) pc h = absurd h
  return_slots p (Some k) (Some v) pc h =
      joins (expr_code nl 0 (operand nl 0 (local_column (Some k)) v) pc v) _
      (expr_slots v 0 (operand nl 0 (local_column (Some k)) v) pc h.1.1) (tt, tt)

  mutual
    pub stmt_slots : (a : stmt.Action) (env : Env) (pc : ℕ) → IsStmtTyped file vars a
        → AreOf file.items (stmt_code nl env pc a)
    stmt_slots (stmt.block p ss q) env pc h =
        joins (unset_code p (block_locals (listed ss))) _ (unset_slots p (block_locals (listed ss)))
        (stmts_slots ss (in_block env (pc + length (block_locals (listed ss))) (listed ss))
        (pc + length (block_locals (listed ss))) h)
    stmt_slots (stmt.declare p rs) env pc h = declare_slots rs pc h
    stmt_slots (stmt.do_expr p v) env pc h = option_slots v pc h
    stmt_slots (stmt.if_only p c a) env pc h =
        joins (test_code nl pc c (pc + expr_size c + 1) (pc + expr_size c + 1 + stmt_size a)) _
        (test_slots c pc (pc + expr_size c + 1) (pc + expr_size c + 1 + stmt_size a) h.0)
        (stmt_slots a env (pc + expr_size c + 1) h.1)
    stmt_slots (stmt.if_else p c a b) env pc h =
        joins (test_code nl pc c (pc + expr_size c + 1) (pc + expr_size c + 1 + stmt_size a + 1)) _
        (test_slots c pc (pc + expr_size c + 1) (pc + expr_size c + 1 + stmt_size a + 1) h.0)
        (joins (stmt_code nl env (pc + expr_size c + 1) a) _ (stmt_slots a env (pc + expr_size c + 1) h.1)
        (tt, stmt_slots b env (pc + expr_size c + 1 + stmt_size a + 1) h.2))
    stmt_slots (stmt.while p c a) env pc h =
        let from = pc + (expr_size c + 1) in
        let end = from + stmt_size a + 0 + 1 in
        joins (test_code nl pc c from end) _ (test_slots c pc from end h.0)
        (joins (stmt_code nl (in_loop env (from + stmt_size a) end) from a) _ (stmt_slots a
        (in_loop env (from + stmt_size a) end) from h.1) (tt, tt))
    stmt_slots (stmt.do_while p a c) env pc h =
        let from = pc + 1 + (expr_size c + 1) in
        let end = from + stmt_size a + 0 + 1 in (
          tt,
          joins (test_code nl (pc + 1) c from end) _ (test_slots c (pc + 1) from end h.0)
              (joins (stmt_code nl (in_loop env (from + stmt_size a) end) from a) _ (stmt_slots a
              (in_loop env (from + stmt_size a) end) from h.1) (tt, tt)),
        )
    stmt_slots (stmt.for p rs u c w a) env pc h =
        let head = for_head pc rs u in
        let go = head + test_size c in
        let again = head + test_size c + stmt_size a in
        let end = head + test_size c + stmt_size a + option_size w + 1 in
        joins (unset_code p rs) _ (unset_slots p rs)
        (joins (declare_code nl (pc + length rs) rs) _ (declare_slots rs (pc + length rs) h.0)
        (joins (option_code nl (pc + length rs + declare_size rs) u) _ (option_slots u
        (pc + length rs + declare_size rs) h.1)
        (joins (tested_code nl head c go end) _ (tested_slots c head go end h.2)
        (joins (stmt_code nl (in_loop env again end) go a) _ (stmt_slots a (in_loop env again end) go h.4)
        (joins (option_code nl again w) _ (option_slots w again h.3) (tt, tt))))))
    stmt_slots (stmt.switch p v (stmt.block q ss r)) env pc h =
        let count = length (block_locals (listed ss)) in
        let first = pc + expr_size v + count + 2 * length (block_cases (listed ss)) + 1 in
        let inner = in_switch env (first + stmts_size ss) in
        joins (value_code nl pc v) _ (value_slots v pc h.1)
        (joins (unset_code p (block_locals (listed ss))) _ (unset_slots p (block_locals (listed ss)))
        (joins (case_code p (temp_of nl 0 v) (temp nl 1 0) (pc + expr_size v + count)
        (list_cases first (listed ss))) _ (case_slots p (temp_of nl 0 v) (temp nl 1 0)
        (list_cases first (listed ss)) (pc + expr_size v + count))
        (tt, stmts_slots ss (in_block inner first (listed ss)) first h.2)))
    stmt_slots (stmt.switch p v a) env pc h =
        joins (value_code nl pc v) _ (value_slots v pc h.1) (
          tt,
          stmt_slots a (in_switch env
              (pc + expr_size v + 1 + stmt_size a)) (pc + expr_size v + 1) h.2,
        )
    stmt_slots (stmt.case p i a) env pc h = stmt_slots a env pc h.1
    stmt_slots (stmt.default p a) env pc h = stmt_slots a env pc h
    stmt_slots (stmt.label p l a) env pc h = stmt_slots a env pc h
    stmt_slots (stmt.goto p l) env pc h = (tt, tt)
    stmt_slots (stmt.break p) env pc h = (tt, tt)
    stmt_slots (stmt.continue p) env pc h = (tt, tt)
    stmt_slots (stmt.return p k v) env pc h = return_slots p k v pc h.1

    stmts_slots : (ss : stmt.Actions) (env : Env) (pc : ℕ) → AreStmtsTyped file vars ss
        → AreOf file.items (stmts_code nl env pc ss)
    stmts_slots stmt.no_actions env pc h = tt
    stmts_slots (stmt.action_and a ss) env pc h = joins (stmt_code nl env pc a) _ (stmt_slots a env pc h.0)
        (stmts_slots ss env (pc + stmt_size a) h.1)

  end_slots : (p : Pos) (v : Bool) → AreOf file.items (end_code p v)
  end_slots p true = (tt, tt)
  end_slots p false = (tt, tt)

  pub at_slot : (ls : List Line) → AreOf file.items ls → (i : ℕ) (l : Line) → slice_get ls i ≡ Some l
      → IsSlotOf file.items (place_of l.instr)
  at_slot [] h i l e = absurd (cc)
  at_slot (x ∷ ls) h zero l e =
      let same : x ≡ l = cc in subst (λ (y : Line). IsSlotOf file.items (place_of y.instr)) same h.0
  at_slot (x ∷ ls) h (suc i) l e = at_slot ls h.1 i l e

-- the instructions of a function of the file
pub body_slots : (file : Known) (vars : List Param) (f : ResolvedFunction) → IsStmtTyped file vars f.body
    → AreOf file.items (body_code f)
body_slots file vars f h =
    joins file vars f.locals (stmt_code f.locals (everywhere (stmt_size f.body)) 0 f.body) _
    (stmt_slots file vars f.locals f.body (everywhere (stmt_size f.body)) 0 h)
    (end_slots file vars f.locals (closing_brace f.body) (is_void f.result))

-- two functions of a file name each slot with one kind
pub codes-agree : (f g : ResolvedFunction) → AgreeIfTyped f g
codes-agree f g items statics callees h k i j l m e n =
    let one = known items statics callees f in
    let other = known items statics callees g in
    agree items (place_of l.instr) (place_of m.instr)
    (at_slot one (var_kinds f) f.locals (body_code f) (body_slots one (var_kinds f) f h) i l e)
    (at_slot other (var_kinds g) g.locals (body_code g) (body_slots other (var_kinds g) g k) j m n)
