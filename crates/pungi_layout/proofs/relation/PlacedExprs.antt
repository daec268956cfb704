-- The instructions of an expression stand in the code as the relation says.
use Rattle.std.proofs.Common.{◌≡◌, ℕ, suc, ◌+◌, ◌*◌, ◌<◌, ◌≤◌, List, [], ◌∷◌, ◌++◌, length, map, refl, sym, subst}
use Rattle.std.proofs.Common.{arith, Bool, true, false, pos, if◌then◌else◌}
use Rattle.std.specs.Prelude.{eqb}
use Rattle.pungi_base.specs.declared.kind.Kind.{Kind}
use Rattle.pungi_base.specs.declared.pos.Pos.{Pos}
use Rattle.pungi_api.specs.declared.param.Param.{Param}
use Rattle.pungi_types.specs.declared.kind.ValueKind.{ValueKind}
use Rattle.pungi_resolved.specs.Values as expr
use Rattle.pungi_meaning.specs.declared.op.Op.TheVariants as ops
use Rattle.pungi_meaning.specs.Values.{wide}
use Rattle.pungi_meaning.specs.Todo.{listed_values}
use Rattle.pungi_code.specs.declared.atom.Atom.TheVariants as atom
use Rattle.pungi_code.specs.declared.code.Line.{Line}
use Rattle.pungi_code.specs.declared.instr.Instr.TheVariants.{Set, Arith, Fit, Call}
use Rattle.pungi_types.specs.Operators.{is_void}
use Rattle.pungi_layout.specs.code.CallKinds.{call_params}
use Rattle.pungi_layout.specs.code.Parts.{is_minus}
use Rattle.pungi_layout.specs.code.FirstTokens.{first_token}
use Rattle.pungi_layout.specs.code.Sizes.{expr_size, place_size, values_size, fit_size}
use Rattle.pungi_layout.specs.code.Temporaries.{column, temp, value_column, temp_of, operand, fitting_column}
use Rattle.pungi_layout.specs.code.Temporaries.{front_column, tail, arg_var, arg_vars}
use Rattle.pungi_layout.specs.code.ExprCode.{line, to_var, var, fit_code, old_code, store_code, above, stored_var}
use Rattle.pungi_layout.specs.code.ExprCode.{counted_var, base_var, sign_code, sign_var, step_code, expr_code}
use Rattle.pungi_layout.specs.code.ExprCode.{base_code, args_code}
use Rattle.pungi_layout.specs.code.Sound.{IsSound, IsPlaceSound, AreSound}
use Rattle.pungi_layout.specs.code.Levels.{expr_levels, place_levels, values_levels}
use Rattle.pungi_layout.proofs.code.ExprLengths.{fit_long, old_long, expr_long, base_long, args_long}
use Rattle.pungi_layout.proofs.relation.Waiting.{One, is_same, level}
use Rattle.pungi_layout.proofs.relation.Relation.{Stands, IsTemp, FitAt, OldAt, StoreAt, PutAt, StepAt, ExprAt, BaseAt}
use Rattle.pungi_layout.proofs.relation.Relation.{ArgsAt}
use Rattle.pungi_layout.proofs.relation.Standing.{HasAt, has_front, has_cut}
use Rattle.pungi_layout.proofs.code.LevelLemmas.{some_levels, above_low, above_less}
use Rattle.pungi_layout.proofs.relation.Columns.{column_low, if_low, value_low, above_is, result_is}
use Rattle.pungi_layout.proofs.relation.PlacedCalls.{row_placed, unless_null_placed, outputs_placed}

module _ (code : List Line) (nl room : ℕ) where
  pub temp_at : (d c n : ℕ) → c < 5 → 1 ≤ n → nl + 5 * (d + n) ≤ room → IsTemp code nl room d (temp nl d c)
  temp_at d c n low some le = (omega arith, omega (arith, low), omega (arith, low, some, le))

  pub operand_at : (want : ℕ) (v : expr.Value) (d : ℕ) → nl + 5 * (d + expr_levels v) ≤ room
      → IsTemp code nl room d (operand nl d want v)
  operand_at want v d le = temp_at d (fitting_column want (value_column v)) (expr_levels v)
      (if_low (eqb want 3) 3 (value_column v) (omega arith) (value_low v)) (some_levels v) le

  pub value_at : (v : expr.Value) (d : ℕ) → nl + 5 * (d + expr_levels v) ≤ room → IsTemp code nl room d (temp_of nl d v)
  value_at v d le = temp_at d (value_column v) (expr_levels v) (value_low v) (some_levels v) le

  up_temp : (d t : ℕ) → IsTemp code nl room (d + 1) t → IsTemp code nl room (suc d) t
  up_temp d t h = let e : d + 1 ≡ suc d = omega arith in subst (λ x. IsTemp code nl room x t) e h

  up_expr : (d t pc : ℕ) (v : expr.Value) → ExprAt code nl room (d + 1) t pc v → ExprAt code nl room (suc d) t pc v
  up_expr d t pc v h = let e : d + 1 ≡ suc d = omega arith in subst (λ x. ExprAt code nl room x t pc v) e h

  old_placed : (kind : ValueKind) (place : expr.Place) (t b pc : ℕ) → IsPlaceSound nl place
      → HasAt code pc (old_code kind place t b) → OldAt code nl room kind place t b pc
  old_placed kind (expr.local_place p x) t b pc s h = (s, h.0)
  old_placed kind (expr.global_place p n) t b pc s h = h.0
  old_placed kind (expr.field_place p base tag field) t b pc s h = h.0
  old_placed kind expr.no_place t b pc s h = absurd s

  -- .. a value that stands where a place's value is stored from
  store_placed : (kind counted : ValueKind) (place : expr.Place) (d t b pc : ℕ) → IsPlaceSound nl place
      → HasAt code pc (store_code kind place t b (stored_var nl place d kind))
      → StoreAt code nl room kind place t b (stored_var nl place d kind) pc
  store_placed kind counted (expr.local_place p x) d t b pc s h = (s, (p, h.0), (p, h.1.0))
  store_placed kind counted (expr.global_place p n) d t b pc s h = (h.0, (p, h.1.0))
  store_placed kind counted (expr.field_place p base tag field) d t b pc s h = (h.0, (p, h.1.0))
  store_placed kind counted expr.no_place d t b pc s h = absurd s

  level_at : (place : expr.Place) (d c : ℕ) → c < 5 → nl + 5 * (above place d + 1) ≤ room
      → IsTemp code nl room (level place d) (temp nl (above place d) c)
  level_at place d c low le = subst (λ x. IsTemp code nl room x (temp nl (above place d) c)) (above_is place d)
      (temp_at (above place d) c 1 low (omega arith) le)

  stored_at : (kind : ValueKind) (place : expr.Place) (d t : ℕ) → nl + 5 * (above place d + 1) ≤ room
      → IsTemp code nl room (level place d) (stored_var nl place d kind)
  stored_at kind place d t le = level_at place d (column kind) (column_low kind) le

  fit_placed : (same : Bool) (p : Pos) (kind : ValueKind) (s x pc : ℕ)
      → HasAt code pc (if same then [] else line p (Fit (to_var s) kind (var (if same then s else x))) ∷ [])
      → FitAt code nl room same p kind s (if same then s else x) pc
  fit_placed true p kind s x pc h = refl
  fit_placed false p kind s x pc h = h.0

  if_temp : (same : Bool) (d s x : ℕ) → IsTemp code nl room d s → IsTemp code nl room d x
      → IsTemp code nl room d (if same then s else x)
  if_temp true d s x h g = h
  if_temp false d s x h g = g

  put_placed : (p : Pos) (kind counted : ValueKind) (place : expr.Place) (d t b pc : ℕ) → IsTemp code nl room d t
      → nl + 5 * (above place d + 1) ≤ room → IsPlaceSound nl place
      → HasAt code pc (fit_code p kind counted (stored_var nl place d kind) (counted_var nl place d kind counted)
      ++ store_code kind place t b (stored_var nl place d kind))
      → PutAt code nl room p kind counted place d t b (counted_var nl place d kind counted) pc
  put_placed p kind counted place d t b pc at le so h =
      let s = stored_var nl place d kind in
      let x = temp nl (above place d) (column counted) in
      let ats = stored_at kind place d t le in
      let g = has_cut code pc (fit_size kind counted) (fit_code p kind counted s
      (counted_var nl place d kind counted)) (store_code kind place t b s) (fit_long (is_same kind counted)
      (line p (Fit (to_var s) kind (var (counted_var nl place d kind counted))))) h in (
        s,
        if_temp (is_same kind counted) (level place d) s x ats (level_at place d (column counted)
            (column_low counted) le),
        ats,
        fit_placed (is_same kind counted) p kind s x pc g.0,
        store_placed kind
            counted place d t b (pc + fit_size kind counted) so g.1,
      )

  step_placed : (p : Pos) (m : Kind) (kind : ValueKind) (place : expr.Place) (d t pc : ℕ) → IsTemp code nl room d t
      → nl + 5 * (above place d + 1) ≤ room → IsPlaceSound nl place → HasAt code pc (step_code nl d t p m kind place)
      → StepAt code nl room p m kind place d t (base_var nl place d) (temp nl (above place d) (column kind)) pc
  step_placed p m kind place d t pc at le so h = (
    counted_var nl place d kind (wide kind),
    level_at place d (column kind) (column_low kind) le,
    h.0,
    put_placed
        p kind (wide kind) place d t (base_var nl place d) (pc + 1) at le so h.1,
  )

  sign_placed : (minus : Bool) (p : Pos) (kind : ValueKind) (v : expr.Value) (d t pc : ℕ)
      → IsTemp code nl room d (temp_of nl d v) → ((t' : ℕ) → length (expr_code nl d t' pc v) ≡ expr_size v)
      → IsTemp code nl room d t → ((t' : ℕ) → IsTemp code nl room d t' → HasAt code pc (expr_code nl d t' pc v)
      → ExprAt code nl room d t' pc v) → HasAt code pc (expr_code nl d (sign_var minus t (temp_of nl d v)) pc v
      ++ sign_code minus p kind t (temp_of nl d v))
      → One minus ((x : ℕ) × IsTemp code nl room d x × ExprAt code nl room d x pc v
      × Stands code nl room (pc + expr_size v) p (Arith (to_var t) kind ops.Sub (atom.Int (pos 0)) (var x)))
      (ExprAt code nl room d t pc v)
  sign_placed true p kind v d t pc at long att next h =
      let g = has_cut code pc (expr_size v) (expr_code nl d (temp_of nl d v) pc v) _ (long (temp_of nl d v)) h in
      (temp_of nl d v, at, next (temp_of nl d v) at g.0, g.1.0)
  sign_placed false p kind v d t pc at long att next h = next t att (has_front code pc (expr_code nl d t pc v) [] h)

  mutual
    pub expr_placed : (v : expr.Value) (d t pc : ℕ) → nl + 5 * (d + expr_levels v) ≤ room → IsTemp code nl room d t
        → IsSound nl v → HasAt code pc (expr_code nl d t pc v) → ExprAt code nl room d t pc v
    expr_placed (expr.constant p n) d t pc le at s h = (p, h.0)
    expr_placed (expr.text_of p ns) d t pc le at s h = (p, h.0)
    expr_placed (expr.null_of p) d t pc le at s h = (p, h.0)
    expr_placed (expr.static_of p n) d t pc le at s h = (p, h.0)
    expr_placed (expr.module_of p n) d t pc le at s h = (p, h.0)
    expr_placed (expr.read p kind (expr.local_place q x)) d t pc le at s h = (s, h.0)
    expr_placed (expr.read p kind (expr.global_place q n)) d t pc le at s h = h.0
    expr_placed (expr.read p kind (expr.field_place q base tag field)) d t pc le at s h =
        let x = temp_of nl d base in
        let g = has_cut code pc (expr_size base) (expr_code nl d x pc base) _ (expr_long base nl d x pc) h in
        let le' : nl + 5 * (d + expr_levels base) ≤ room = omega (arith, le) in
        (x, s.0, value_at base d le', expr_placed base d x pc le' (value_at base d le') s.1 g.0, g.1.0)
    expr_placed (expr.read p kind expr.no_place) d t pc le at s h = absurd s
    expr_placed (expr.inner p v) d t pc le at s h = expr_placed v d t pc (omega (arith, le)) at s h
    expr_placed (expr.signed p m kind v) d t pc le at s h =
        let le' : nl + 5 * (d + expr_levels v) ≤ room = omega (arith, le) in (
          s.0,
          sign_placed (is_minus m) p kind v d t pc (value_at v d le') (λ t'. expr_long v nl d t' pc) at
              (λ t' at' g. expr_placed v d t' pc le' at' s.1 g) h,
        )
    expr_placed (expr.negated p v) d t pc le at s h =
        let x = temp_of nl (d + 1) v in
        let le' : nl + 5 * (d + 1 + expr_levels v) ≤ room = omega (arith, le) in
        let ax = value_at v (d + 1) le' in
        let g = has_cut code (pc + 1) (expr_size v) (expr_code nl (d + 1) x (pc + 1) v) _
        (expr_long v nl (d + 1) x (pc + 1)) h.1 in (
          x,
          (p, h.0),
          s.0,
          up_temp d x ax,
          up_expr d x (pc + 1) v (expr_placed v (d + 1) x (pc + 1) le' ax s.1 g.0),
          (p, g.1.0),
          (p, g.1.1.0),
        )
    expr_placed (expr.stepped p false m kind place) d t pc le at s h =
        let b = base_var nl place d in
        let o = temp nl (above place d) (column kind) in
        let low : nl + 5 * (above place d + 1) ≤ room = omega (arith, le, above_low place d 1) in
        let g = has_cut code pc (place_size place) (base_code nl d pc place) _ (base_long place nl d pc) h in
        let f = has_cut code (pc + place_size place) 1 (old_code kind place o b) _ (old_long nl kind place o b) g.1 in (
          b,
          o,
          base_placed place 1 d pc (omega (arith, le)) s g.0,
          old_placed kind place o b (pc + place_size place) s
              f.0,
          step_placed p m kind place d t (pc + place_size place + 1) at low s f.1,
        )
    expr_placed (expr.stepped p true m kind place) d t pc le at s h =
        let e1 : d + 1 ≡ suc d = omega arith in
        let b = base_var nl place (d + 1) in
        let o = temp nl (above place (d + 1)) (column kind) in
        let x = temp nl (d + 1) (column kind) in
        let low : nl + 5 * (above place (d + 1) + 1) ≤ room = omega (arith, le, above_low place (d + 1) 1) in
        let ax = temp_at (d + 1) (column kind) 1 (column_low kind) (omega arith)
        (omega (arith, low, above_less place (d + 1))) in
        let g = has_cut code (pc + 1) (place_size place) (base_code nl (d + 1) (pc + 1) place) _
        (base_long place nl (d + 1) (pc + 1)) h.1 in
        let f = has_cut code (pc + 1 + place_size place) 1 (old_code kind place o b) _ (old_long nl kind place o b)
        g.1 in
        let e : pc + 1 + place_size place + 1 + 1 ≡ pc + 1 + place_size place + 2 = omega arith in
        let st = step_placed p m kind place (d + 1) x (pc + 1 + place_size place + 1 + 1) ax low s f.1.1 in (
          b,
          o,
          x,
          (p, h.0),
          subst (λ n. BaseAt code nl room n b (pc + 1) place) e1
              (base_placed place 1 (d + 1) (pc + 1) (omega (arith, le)) s g.0),
          old_placed kind place o b
              (pc + 1 + place_size place) s f.0,
          (p, f.1.0),
          up_temp d x ax,
          subst (λ n. StepAt code nl room p m kind
              place n x b o (pc + 1 + place_size place + 2)) e1 (subst (λ n. StepAt code nl room p m kind place (d + 1)
              x b o n) e st),
        )
    expr_placed (expr.emptied p kind place) d t pc le at s h =
        let e1 : d + 1 ≡ suc d = omega arith in
        let b = base_var nl place (d + 1) in
        let o = stored_var nl place (d + 1) kind in
        let x = temp nl (d + 1) (column kind) in
        let old = pc + 1 + place_size place in
        let low : nl + 5 * (above place (d + 1) + 1) ≤ room = omega (arith, le, above_low place (d + 1) 1) in
        let ax = temp_at (d + 1) (column kind) 1 (column_low kind) (omega arith)
        (omega (arith, low, above_less place (d + 1))) in
        let g = has_cut code (pc + 1) (place_size place) (base_code nl (d + 1) (pc + 1) place) _
        (base_long place nl (d + 1) (pc + 1)) h.1 in
        let f = has_cut code old 1 (old_code kind place o b) _ (old_long nl kind place o b) g.1 in
        let e2 : old + 1 + 1 ≡ old + 2 = omega arith in
        let e3 : old + 1 + 1 + 1 ≡ old + 3 = omega arith in (
          b,
          o,
          x,
          (p, h.0),
          subst (λ n. BaseAt code nl room n b (pc + 1) place) e1
              (base_placed place 1 (d + 1) (pc + 1) (omega (arith, le)) s g.0),
          subst (λ n. IsTemp code nl room (level place n) o) e1 (stored_at kind place (d + 1) t low),
          old_placed kind place o b old s f.0,
          (p, f.1.0),
          (p, subst (λ n. Stands code nl room n p (Set (to_var o) atom.Null)) e2 f.1.1.0),
          up_temp d x ax,
          subst (λ n. StoreAt code nl room kind place x b o n) e3
              (store_placed kind kind place (d + 1) x b (old + 1 + 1 + 1) s f.1.1.1),
        )
    expr_placed (expr.computed p m kind a b) d t pc le at s h =
        let x = temp_of nl d a in
        let y = temp_of nl (d + 1) b in
        let la : nl + 5 * (d + expr_levels a) ≤ room = omega (arith, le) in
        let lb : nl + 5 * (d + 1 + expr_levels b) ≤ room = omega (arith, le, some_levels a) in
        let g = has_cut code pc (expr_size a) (expr_code nl d x pc a) _ (expr_long a nl d x pc) h in
        let f = has_cut code (pc + expr_size a) (expr_size b) (expr_code nl (d + 1) y (pc + expr_size a) b) _
        (expr_long b nl (d + 1) y (pc + expr_size a)) g.1 in (
          x,
          y,
          s.0,
          value_at a d la,
          expr_placed a d x pc la (value_at a d la) s.1 g.0,
          s.2,
          up_temp d y
              (value_at b (d + 1) lb),
          up_expr d y (pc + expr_size a) b (expr_placed b (d + 1) y (pc + expr_size a) lb
              (value_at b (d + 1) lb) s.3 f.0),
          f.1.0,
        )
    expr_placed (expr.compared p m a b) d t pc le at s h =
        let x = operand nl d (value_column b) a in
        let y = operand nl (d + 1) (value_column a) b in
        let la : nl + 5 * (d + expr_levels a) ≤ room = omega (arith, le) in
        let lb : nl + 5 * (d + 1 + expr_levels b) ≤ room = omega (arith, le, some_levels a) in
        let g = has_cut code pc (expr_size a) (expr_code nl d x pc a) _ (expr_long a nl d x pc) h in
        let f = has_cut code (pc + expr_size a) (expr_size b) (expr_code nl (d + 1) y (pc + expr_size a) b) _
        (expr_long b nl (d + 1) y (pc + expr_size a)) g.1 in (
          x,
          y,
          s.0,
          operand_at (value_column b) a d la,
          expr_placed a d x pc la (operand_at (value_column b) a d la)
              s.1 g.0,
          s.2,
          up_temp d y (operand_at (value_column a) b (d + 1) lb),
          up_expr d y (pc + expr_size a) b
              (expr_placed b (d + 1) y (pc + expr_size a) lb (operand_at (value_column a) b (d + 1) lb) s.3 f.0),
          f.1.0,
        )
    expr_placed (expr.joined_by p m a b) d t pc le at s h =
        let x = temp_of nl (d + 1) a in
        let y = temp_of nl (d + 1) b in
        let la : nl + 5 * (d + 1 + expr_levels a) ≤ room = omega (arith, le) in
        let lb : nl + 5 * (d + 1 + expr_levels b) ≤ room = omega (arith, le) in
        let pb = pc + 1 + expr_size a + 1 in
        let g = has_cut code (pc + 1) (expr_size a) (expr_code nl (d + 1) x (pc + 1) a) _
        (expr_long a nl (d + 1) x (pc + 1)) h.1 in
        let f = has_cut code pb (expr_size b) (expr_code nl (d + 1) y pb b) _ (expr_long b nl (d + 1) y pb) g.1.1 in (
          x,
          y,
          (p, h.0),
          s.0,
          up_temp d x (value_at a (d + 1) la),
          up_expr d x (pc + 1) a
              (expr_placed a (d + 1) x (pc + 1) la (value_at a (d + 1) la) s.1 g.0),
          (first_token a, g.1.0),
          s.2,
          up_temp d y
              (value_at b (d + 1) lb),
          up_expr d y pb b (expr_placed b (d + 1) y pb lb (value_at b (d + 1) lb) s.3 f.0),
          ((first_token b, f.1.0), (p, f.1.1.0)),
        )
    expr_placed (expr.stored p kind place v) d t pc le at s h =
        let b = base_var nl place d in
        let x = stored_var nl place d kind in
        let low : nl + 5 * (above place d + 1) ≤ room =
        omega (arith, le, above_low place d (expr_levels v), some_levels v) in
        let lv : nl + 5 * (above place d + expr_levels v) ≤ room =
        omega (arith, le, above_low place d (expr_levels v)) in
        let ax = stored_at kind place d t low in
        let e = above_is place d in
        let g = has_cut code pc (place_size place) (base_code nl d pc place) _ (base_long place nl d pc) h in
        let f = has_cut code (pc + place_size place) (expr_size v) (expr_code nl (above place d) x
        (pc + place_size place) v) _ (expr_long v nl (above place d) x (pc + place_size place)) g.1 in (
          b,
          x,
          base_placed place (expr_levels v) d pc le s.0 g.0,
          s.1,
          ax,
          subst
              (λ n. ExprAt code nl room n x (pc + place_size place) v) e (expr_placed v (above place d) x
              (pc + place_size place) lv (subst (λ n. IsTemp code nl room n x) (sym e) ax) s.2 f.0),
          store_placed kind
              kind place d t b (pc + place_size place + expr_size v) s.0 f.1,
        )
    expr_placed (expr.updated p m counted kind place v) d t pc le at s h =
        let b = base_var nl place d in
        let o = temp nl (above place d) (column kind) in
        let y = temp_of nl (above place d + 1) v in
        let low : nl + 5 * (above place d + 1) ≤ room =
        omega (arith, le, above_low place d (expr_levels v + 1)) in
        let lv : nl + 5 * (above place d + 1 + expr_levels v) ≤ room =
        omega (arith, le, above_low place d (expr_levels v + 1)) in
        let e : above place d + 1 ≡ suc (level place d) = omega (arith, above_is place d) in
        let g = has_cut code pc (place_size place) (base_code nl d pc place) _ (base_long place nl d pc) h in
        let f = has_cut code (pc + place_size place) 1 (old_code kind place o b) _ (old_long nl kind place o b) g.1 in
        let pv = pc + place_size place + 1 in
        let q = has_cut code pv (expr_size v) (expr_code nl (above place d + 1) y pv v) _
        (expr_long v nl (above place d + 1) y pv) f.1 in (
          b,
          o,
          y,
          counted_var nl place d kind counted,
          base_placed place (expr_levels v + 1) d pc le s.0 g.0,
          level_at
              place d (column kind) (column_low kind) low,
          old_placed kind place o b (pc + place_size place) s.0 f.0,
          s.1,
          subst (λ n. IsTemp code nl room n y) e (value_at v (above place d + 1) lv),
          subst
              (λ n. ExprAt code nl room n y pv v) e (expr_placed v (above place d + 1) y pv lv
              (value_at v (above place d + 1) lv) s.2 q.0),
          q.1.0,
          put_placed p kind counted place d t b
              (pv + expr_size v + 1) at low s.0 q.1.1,
        )
    expr_placed (expr.chosen p c a b) d t pc le at s h =
        let x = temp_of nl d c in
        let lc : nl + 5 * (d + expr_levels c) ≤ room = omega (arith, le) in
        let pa = pc + expr_size c + 1 in
        let pb = pa + expr_size a + 1 in
        let g = has_cut code pc (expr_size c) (expr_code nl d x pc c) _ (expr_long c nl d x pc) h in
        let f = has_cut code pa (expr_size a) (expr_code nl d t pa a) _ (expr_long a nl d t pa) g.1.1 in (
          x,
          s.0,
          value_at c d lc,
          expr_placed c d x pc lc (value_at c d lc) s.1 g.0,
          (first_token c, g.1.0),
          s.2,
          expr_placed a
              d t pa (omega (arith, le)) at s.3 f.0,
          (p, f.1.0),
          s.4,
          expr_placed b d t pb (omega (arith, le)) at s.5
              f.1.1,
        )
    expr_placed (expr.converted p kind v) d t pc le at s h =
        let x = temp_of nl d v in
        let lv : nl + 5 * (d + expr_levels v) ≤ room = omega (arith, le) in
        let g = has_cut code pc (expr_size v) (expr_code nl d x pc v) _ (expr_long v nl d x pc) h in
        (x, s.0, value_at v d lv, expr_placed v d x pc lv (value_at v d lv) s.1 g.0, g.1.0)
    expr_placed (expr.cast_of p v) d t pc le at s h = expr_placed v d t pc (omega (arith, le)) at s h
    expr_placed (expr.dropped p v) d t pc le at s h = expr_placed v d t pc (omega (arith, le)) at s h
    expr_placed (expr.called p f vs) d t pc le at s h =
        let ts = arg_vars nl d (call_params f) (listed_values vs) in
        let g = has_cut code pc (values_size vs) (args_code nl d pc (call_params f) vs) _
        (args_long vs nl d pc (call_params f)) h in (
          ts,
          args_placed vs d pc (call_params f) (omega (arith, le)) s g.0,
          (
            subst (λ o. Stands code nl room (pc + values_size vs) p (Call o f.number (map var ts)))
                (result_is (is_void f.result) t) g.1.0,
            omega arith,
          ),
        )
    expr_placed (expr.called_row p n sig vs) d t pc le at s h =
        let ts = arg_vars nl d sig.params (listed_values vs) in
        let g = has_cut code pc (values_size vs) (args_code nl d pc sig.params vs) _
        (args_long vs nl d pc sig.params) h in (
          ts,
          args_placed vs d pc sig.params (omega (arith, le)) s g.0,
          (row_placed code nl room p sig t ts (pc + values_size vs) g.1.0, omega arith),
        )
    expr_placed (expr.called_unless_null p n sig vs) d t pc le at s h =
        let ts = arg_vars nl d sig.params (listed_values vs) in
        let g = has_cut code pc (values_size vs) (args_code nl d pc sig.params vs) _
        (args_long vs nl d pc sig.params) h in (
          ts,
          args_placed vs d pc sig.params (omega (arith, le)) s.0 g.0,
          unless_null_placed code nl room d t p (pc + values_size vs) _ sig (listed_values vs) (omega arith) s.1 g.1,
        )
    expr_placed (expr.called_with_outputs p n sig vs steps) d t pc le at s h =
        let ts = arg_vars nl d sig.params (listed_values vs) in
        let g = has_cut code pc (values_size vs) (args_code nl d pc sig.params vs) _
        (args_long vs nl d pc sig.params) h in
        let pr = pc + values_size vs in
        let e : d + 1 ≡ suc d = omega arith in (
          ts,
          args_placed vs d pc sig.params (omega (arith, le)) s.0 g.0,
          (
            temp nl d 0,
            s.2,
            temp_at d 0 1 (omega arith) (omega arith) (omega (arith, le)),
            row_placed code nl room p sig (temp nl d 0) ts pr g.1.0,
            outputs_placed code nl room d t p (pr + 1) _ steps (omega arith) s.1
                (up_temp d (temp nl (d + 1) 0) (temp_at (d + 1) 0 1 (omega arith) (omega arith) (omega (arith, le))))
                g.1.1,
          ),
        )
    expr_placed (expr.nonsense p) d t pc le at s h = h.0

    base_placed : (place : expr.Place) (n d pc : ℕ) → nl + 5 * (d + place_levels place n) ≤ room
        → IsPlaceSound nl place
        → HasAt code pc (base_code nl d pc place) → BaseAt code nl room d (base_var nl place d) pc place
    base_placed (expr.local_place p x) n d pc le s h = tt
    base_placed (expr.global_place p w) n d pc le s h = tt
    base_placed (expr.field_place p base tag field) n d pc le s h =
        let lb : nl + 5 * (d + expr_levels base) ≤ room = omega (arith, le) in
        (s.0, value_at base d lb, expr_placed base d (temp_of nl d base) pc lb (value_at base d lb) s.1 h)
    base_placed expr.no_place n d pc le s h = absurd s

    args_placed : (vs : expr.Values) (d pc : ℕ) (ps : List Param) → nl + 5 * (d + values_levels vs) ≤ room
        → AreSound nl vs → HasAt code pc (args_code nl d pc ps vs)
        → ArgsAt code nl room d (arg_vars nl d ps (listed_values vs)) pc vs
    args_placed expr.no_values d pc ps le s h = refl
    args_placed (expr.value_and v vs) d pc ps le s h =
        let x = arg_var nl d ps v in
        let lv : nl + 5 * (d + expr_levels v) ≤ room = omega (arith, le) in
        let e : d + 1 ≡ suc d = omega arith in
        let at = operand_at (front_column ps) v d lv in
        let g = has_cut code pc (expr_size v) (expr_code nl d x pc v) _ (expr_long v nl d x pc) h in (
          s.0,
          at,
          expr_placed v d x pc lv at s.1 g.0,
          subst (λ n. ArgsAt code nl room n
              (arg_vars nl (d + 1) (tail ps) (listed_values vs)) (pc + expr_size v) vs) e
              (args_placed vs (d + 1) (pc + expr_size v) (tail ps) (omega (arith, le, some_levels v)) s.2 g.1),
        )
