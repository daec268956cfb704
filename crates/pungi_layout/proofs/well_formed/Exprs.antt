-- The instructions of an expression of the kinds that it needs name what is there, and of the kind that they need.
use Rattle.std.proofs.Common.{◌≡◌, ℕ, ◌+◌, ◌<◌, ◌≤◌, pos, arith, Bool, true, false, List, [], ◌∷◌, length, refl}
use Rattle.std.specs.Prelude.{not, ◌^◌}
use Rattle.pungi_base.specs.declared.pos.Pos.{Pos}
use Rattle.pungi_api.specs.declared.param.Param.{Param}
use Rattle.pungi_api.specs.declared.param.Param.TheVariants as param
use Rattle.pungi_types.specs.declared.kind.ValueKind.{ValueKind}
use Rattle.pungi_resolved.specs.Values as expr
use Rattle.pungi_meaning.specs.declared.op.Op.TheVariants as ops
use Rattle.pungi_meaning.specs.Values.{op_of, cmp_of, slot_kind}
use Rattle.pungi_meaning.specs.Exprs.{is_and}
use Rattle.pungi_meaning.specs.Todo.{listed_values}
use Rattle.pungi_code.specs.declared.atom.Atom.TheVariants as atom
use Rattle.pungi_code.specs.declared.code.Code.{Code}
use Rattle.pungi_code.specs.WellFormed.{is_number, is_order, counts_in}
use Rattle.pungi_layout.specs.code.CallKinds.{call_params}
use Rattle.pungi_layout.specs.code.Parts.{is_minus}
use Rattle.pungi_layout.specs.code.Sizes.{expr_size, place_size, values_size}
use Rattle.pungi_layout.specs.code.Temporaries.{column, temp, value_column, temp_of, operand, arg_var}
use Rattle.pungi_layout.specs.code.ExprCode.{var, bit, branch_on, fit_code, old_code, above, stored_var, counted_var}
use Rattle.pungi_layout.specs.code.ExprCode.{base_var, sign_code, sign_var, row_code, expr_code, base_code, args_code}
use Rattle.pungi_layout.specs.code.Levels.{expr_levels, place_levels, values_levels}
use Rattle.pungi_layout.specs.kinds.Typed.{Known, is_counted, is_null, Goes, GoesIn, IsHeld, IsTyped, IsPlaceTyped}
use Rattle.pungi_layout.specs.kinds.Typed.{AreTyped}
use Rattle.pungi_layout.proofs.well_formed.Instructions.{column_kind, counted_slot, counted_integer, counted_low}
use Rattle.pungi_layout.proofs.well_formed.Instructions.{slot_wide, wide_goes, counts_goes, integer_goes, bit_fits}
use Rattle.pungi_layout.proofs.well_formed.Instructions.{constant_goes, text_goes, null_goes, static_goes, slot_goes}
use Rattle.pungi_layout.proofs.well_formed.Instructions.{static_there, bit_there}
use Rattle.pungi_layout.proofs.well_formed.Instructions.{object_goes, object_slot, var_atom, number_atom, set_fine}
use Rattle.pungi_layout.proofs.well_formed.Instructions.{arith_fine, fit_fine, compare_fine, jump_fine, is_tested}
use Rattle.pungi_layout.proofs.well_formed.Instructions.{branch_fine, tested_fine, IsInstrFine, AreFine, fine_append}
use Rattle.pungi_layout.proofs.well_formed.Columns.{slot_number, value_low, chosen_goes}
use Rattle.pungi_layout.proofs.code.LevelLemmas.{some_levels, above_low, above_less}
use Rattle.pungi_layout.proofs.well_formed.Operands.{kind_held, own_held, own_in, number_held, old_fine, put_fine}
use Rattle.pungi_layout.proofs.well_formed.Operands.{counted_held, converted_fine, step_fine, operands}
use Rattle.pungi_layout.proofs.well_formed.Calls.{argument, api_fine, call_fine, unless_null_fine, outputs_fine}

-- the places of the parts of an expression are in front of its end
module _ (file : Known) (code : Code) (nl n : ℕ) (temps : (d c : ℕ) → d < n → c ≤ 4
    → IsHeld code.vars (temp nl d c) (column_kind c)) (few : n ≤ 2 ^ 14) where
  -- .. branches
  wanted_fine : (on : Bool) (x : ℕ) (k : Param) (l m : ℕ) → IsHeld code.vars x k → is_tested code k ≡ true
      → l < length code.instrs → m < length code.instrs → IsInstrFine file code (branch_on on x l m)
  wanted_fine true x k l m h e f g = branch_fine file code x k l m h e f g
  wanted_fine false x k l m h e f g = branch_fine file code x k m l h e g f

  sign_fine : (minus : Bool) (p : Pos) (kind : ValueKind) (t x : ℕ) (k : Param) → IsHeld code.vars t k
      → counts_in kind k ≡ true → is_number code.vars (var x) ≡ true → AreFine file code (sign_code minus p kind t x)
  sign_fine true p kind t x k h c e = (
    arith_fine file code t k kind ops.Sub (atom.Int (pos 0)) (var x) h c refl e refl,
    tt,
  )
  sign_fine false p kind t x k h c e = tt

  -- the variable of a value in front of a sign, and what it may hold
  record Signed (minus : Bool) (d t : ℕ) (v : expr.Value) : Type 0 where
    kind : Param
    held : IsHeld code.vars (sign_var minus t (temp_of nl d v)) kind
    goes : GoesIn kind v

  signed_var : (minus : Bool) (d t : ℕ) (kind : ValueKind) (k : Param) (v : expr.Value) → d < n
      → IsHeld code.vars t k → is_counted kind ≡ true → Goes k (column kind) false → GoesIn (slot_kind kind) v
      → Signed minus d t v
  signed_var true d t kind k v lt ht c g s = record {
    kind = column_kind (value_column v);
    held = own_held file code nl n temps few d v lt;
    goes = own_in file code nl n temps few v;
  }
  signed_var false d t kind k v lt ht c g s =
      record {
        kind = k;
        held = ht;
        goes = slot_goes kind k (value_column v) (is_null v) c g s
            (slot_number kind (value_column v) (is_null v) c s);
      }

  mutual
    pub expr_fine : (v : expr.Value) (d t pc : ℕ) (k : Param) → d + expr_levels v ≤ n
        → pc + expr_size v < length code.instrs → IsHeld code.vars t k → GoesIn k v → IsTyped file code.vars v
        → AreFine file code (expr_code nl d t pc v)
    expr_fine (expr.constant p i) d t pc k le at ht g h = (
      set_fine file code t k (atom.Int i) ht
          (constant_goes code.vars k i h g) refl,
      tt,
    )
    expr_fine (expr.text_of p ns) d t pc k le at ht g h = (
      set_fine file code t k atom.Text ht
          (text_goes code.vars k g) refl,
      tt,
    )
    expr_fine (expr.null_of p) d t pc k le at ht g h = (
      set_fine file code t k atom.Null ht
          (null_goes code.vars k true g) refl,
      tt,
    )
    expr_fine (expr.static_of p i) d t pc k le at ht g h = (
      set_fine file code t k (atom.Static i) ht
          (static_goes code.vars k i g) (static_there file.statics i h),
      tt,
    )
    expr_fine (expr.module_of p w) d t pc k le at ht g h = (
      set_fine file code t k atom.Text ht
          (text_goes code.vars k g) refl,
      tt,
    )
    expr_fine (expr.read p kind place) d t pc k le at ht g h =
        fine_append file code (base_code nl d pc place) _ (base_fine place 1 d pc kind le (omega (arith, at)) h)
        (old_fine file code nl n temps few kind place t d k h (omega (arith, le, above_low place d 1)) ht
        (wide_goes kind k g))
    expr_fine (expr.inner p v) d t pc k le at ht g h = expr_fine v d t pc k (omega (arith, le)) at ht g h
    expr_fine (expr.signed p m kind v) d t pc k le at ht g h =
        let o = some_levels v in
        let lt : d < n = omega (arith, le, o) in
        let x = signed_var (is_minus m) d t kind k v lt ht h.0 g h.1 in
        let c = counts_goes kind k h.0 g in
        fine_append file code (expr_code nl d (sign_var (is_minus m) t (temp_of nl d v)) pc v) _
        (expr_fine v d (sign_var (is_minus m) t (temp_of nl d v)) pc x.kind (omega (arith, le)) (omega (arith, at))
        x.held x.goes h.2)
        (sign_fine (is_minus m) p kind t (temp_of nl d v) k ht c (number_held file code nl n temps few d v lt
        (slot_number kind (value_column v) (is_null v) h.0 h.1)))
    expr_fine (expr.negated p v) d t pc k le at ht g h =
        let o = some_levels v in
        let lt : d + 1 < n = omega (arith, le, o) in
        let i = integer_goes k 0 (omega arith) g in
        let hx = own_held file code nl n temps few (d + 1) v lt in (
          set_fine file code t k (bit true) ht (bit_fits code.vars k true i) refl,
          fine_append file code (expr_code nl (d + 1) (temp_of nl (d + 1) v) (pc + 1) v) _
              (expr_fine v (d + 1) (temp_of nl (d + 1) v) (pc + 1) (column_kind (value_column v))
              (omega (arith, le)) (omega (arith, at)) hx (own_in file code nl n temps few v) h) (
                branch_fine file code (temp_of nl (d + 1) v) (column_kind (value_column v)) (pc + 1 + expr_size v + 1)
                    (pc + 1 + expr_size v + 2) hx (tested_fine code (value_column v) (value_low v))
                    (omega (arith, at)) (omega (arith, at)),
                (set_fine file code t k (bit false) ht (bit_fits code.vars k false i) refl, tt),
              ),
        )
    expr_fine (expr.stepped p false m kind place) d t pc k le at ht g h =
        let lt : above place d < n = omega (arith, le, above_low place d 1) in
        fine_append file code (base_code nl d pc place) _ (base_fine place 1 d pc kind (omega (arith, le))
        (omega (arith, at)) h.1)
        (fine_append file code (old_code kind place (temp nl (above place d) (column kind)) (base_var nl place d)) _
        (old_fine file code nl n temps few kind place (temp nl (above place d) (column kind)) d (slot_kind kind) h.1 lt
        (kind_held file code nl n temps few (above place d) kind lt) (slot_wide kind))
        (step_fine file code nl n temps few d t k p m kind place h.0 h.1 lt ht (wide_goes kind k g)))
    expr_fine (expr.stepped p true m kind place) d t pc k le at ht g h =
        let e = d + 1 in
        let lt : above place e < n = omega (arith, le, above_low place e 1) in
        let le' : e < n = omega (arith, lt, above_less place e) in
        let w = wide_goes kind k g in
        let i = integer_goes k (column kind) (counted_low kind h.0) g in
        let s = temp nl (above place e) (column kind) in
        let hs = kind_held file code nl n temps few (above place e) kind lt in (
          set_fine file code t k (bit false) ht (bit_fits code.vars k false i) refl,
          fine_append file code (base_code nl e (pc + 1) place) _ (base_fine place 1 e (pc + 1) kind (omega (arith, le))
              (omega (arith, at)) h.1)
              (fine_append file code (old_code kind place s (base_var nl place e)) _
              (old_fine file code nl n temps few kind place s e
              (slot_kind kind) h.1 lt hs (slot_wide kind)) (
                set_fine file code t k (var s) ht (var_atom code s (slot_kind kind) k hs w) refl,
                step_fine file code nl n temps few e (temp nl e (column kind)) (slot_kind kind) p m kind place h.0 h.1
                    lt (kind_held file code nl n temps few e kind le') (slot_wide kind),
              )),
        )
    expr_fine (expr.emptied p kind place) d t pc k le at ht g h =
        let e = d + 1 in
        let lt : above place e < n = omega (arith, le, above_low place e 1) in
        let le' : e < n = omega (arith, lt, above_less place e) in
        let w = wide_goes kind k g in
        let s = stored_var nl place e kind in
        let x = temp nl e (column kind) in
        let hs = kind_held file code nl n temps few (above place e) kind lt in (
          set_fine file code t k atom.Null ht (object_goes code.vars kind k h.0 g) refl,
          fine_append file code (base_code nl e (pc + 1) place) _ (base_fine place 1 e (pc + 1) kind (omega (arith, le))
              (omega (arith, at)) h.1)
              (fine_append file code (old_code kind place s (base_var nl place e)) _
              (old_fine file code nl n temps few kind place s e (slot_kind kind) h.1 lt hs (slot_wide kind)) (
                set_fine file code t k (var s) ht (var_atom code s (slot_kind kind) k hs w) refl,
                (
                  set_fine file code s (slot_kind kind) atom.Null hs (object_slot code.vars kind h.0) refl,
                  put_fine file code nl n temps few kind place x e s (slot_kind kind) h.1 lt hs
                      (kind_held file code nl n temps few e kind le') (slot_wide kind),
                ),
              )),
        )
    expr_fine (expr.computed p m kind a b) d t pc k le at ht g h =
        let oa = some_levels a in
        let ob = some_levels b in
        let la : d < n = omega (arith, le, oa) in
        let lb : d + 1 < n = omega (arith, le, oa, ob) in
        fine_append file code (expr_code nl d (temp_of nl d a) pc a) _
        (expr_fine a d (temp_of nl d a) pc (column_kind (value_column a)) (omega (arith, le)) (omega (arith, at))
        (own_held file code nl n temps few d a la) (own_in file code nl n temps few a) h.2)
        (fine_append file code (expr_code nl (d + 1) (temp_of nl (d + 1) b) (pc + expr_size a) b) _
        (expr_fine b (d + 1) (temp_of nl (d + 1) b) (pc + expr_size a) (column_kind (value_column b))
        (omega (arith, le, oa)) (omega (arith, at)) (own_held file code nl n temps few (d + 1) b lb)
        (own_in file code nl n temps few b) h.4) (
          arith_fine file code t k kind (op_of m) (var (temp_of nl d a)) (var (temp_of nl (d + 1) b)) ht
              (counts_goes kind k h.0 g) (number_held file code nl n temps few d a la h.1)
              (number_held file code nl n temps few (d + 1) b lb h.3) refl,
          tt,
        ))
    expr_fine (expr.compared p m a b) d t pc k le at ht g h =
        let oa = some_levels a in
        let ob = some_levels b in
        let la : d < n = omega (arith, le, oa) in
        let lb : d + 1 < n = omega (arith, le, oa, ob) in
        let x = operands file code nl n temps few d (d + 1) a b (is_order (cmp_of m)) la lb h.0 in
        fine_append file code (expr_code nl d (operand nl d (value_column b) a) pc a) _
        (expr_fine a d (operand nl d (value_column b) a) pc x.left_kind (omega (arith, le)) (omega (arith, at))
        x.left_held x.left_goes h.1)
        (fine_append file code (expr_code nl (d + 1) (operand nl (d + 1) (value_column a) b) (pc + expr_size a) b) _
        (expr_fine b (d + 1) (operand nl (d + 1) (value_column a) b) (pc + expr_size a) x.right_kind
        (omega (arith, le, oa)) (omega (arith, at)) x.right_held x.right_goes h.2) (
          compare_fine file code t k (cmp_of m) (var (operand nl d (value_column b) a))
              (var (operand nl (d + 1) (value_column a) b)) ht (integer_goes k 0 (omega arith) g) x.fine refl,
          tt,
        ))
    expr_fine (expr.joined_by p m a b) d t pc k le at ht g h =
        let oa = some_levels a in
        let ob = some_levels b in
        let e = d + 1 in
        let la : e < n = omega (arith, le, oa, ob) in
        let i = integer_goes k 0 (omega arith) g in
        let end = pc + 1 + expr_size a + 1 + expr_size b + 2 in (
          set_fine file code t k (bit (not (is_and m))) ht (bit_fits code.vars k (not (is_and m)) i)
              (bit_there file.statics (not (is_and m))),
          fine_append file code (expr_code nl e (temp_of nl e a) (pc + 1) a) _
              (expr_fine a e (temp_of nl e a) (pc + 1) (column_kind (value_column a)) (omega (arith, le, ob))
              (omega (arith, at)) (own_held file code nl n temps few e a la) (own_in file code nl n temps few a) h.0) (
                wanted_fine (is_and m) (temp_of nl e a) (column_kind (value_column a)) (pc + 1 + expr_size a + 1)
                    end (own_held file code nl n temps few e a la) (tested_fine code (value_column a) (value_low a))
                    (omega (arith, at))
                    (omega (arith, at)),
                fine_append file code (expr_code nl e (temp_of nl e b) (pc + 1 + expr_size a + 1) b) _
                    (expr_fine b e (temp_of nl e b) (pc + 1 + expr_size a + 1) (column_kind (value_column b))
                    (omega (arith, le, oa)) (omega (arith, at)) (own_held file code nl n temps few e b la)
                    (own_in file code nl n temps few b) h.1) (
                      wanted_fine (is_and m) (temp_of nl e b) (column_kind (value_column b))
                          (pc + 1 + expr_size a + 1 + expr_size b + 1) end (own_held file code nl n temps few e b la)
                          (tested_fine code
                          (value_column b) (value_low b)) (omega (arith, at)) (omega (arith, at)),
                      (
                        set_fine file code t k (bit (is_and m)) ht (bit_fits code.vars k (is_and m) i)
                            (bit_there file.statics (is_and m)),
                        tt,
                      ),
                    ),
              ),
        )
    expr_fine (expr.stored p kind place v) d t pc k le at ht g h =
        let deeper = above_low place d (expr_levels v) in
        let lt : above place d < n = omega (arith, le, deeper, some_levels v) in
        let hs = kind_held file code nl n temps few (above place d) kind lt in
        fine_append file code (base_code nl d pc place) _ (base_fine place (expr_levels v) d pc kind le
        (omega (arith, at)) h.0)
        (fine_append file code (expr_code nl (above place d) (stored_var nl place d kind) (pc + place_size place) v) _
        (expr_fine v (above place d) (stored_var nl place d kind) (pc + place_size place) (slot_kind kind)
        (omega (arith, le, deeper)) (omega (arith, at)) hs h.1 h.2)
        (put_fine file code nl n temps few kind place t d (stored_var nl place d kind) k h.0 lt hs ht
        (wide_goes kind k g)))
    expr_fine (expr.updated p m counted kind place v) d t pc k le at ht g h =
        let o = some_levels v in
        let deeper = above_low place d (expr_levels v + 1) in
        let lt : above place d < n = omega (arith, le, deeper) in
        let hs = kind_held file code nl n temps few (above place d) kind lt in
        let lv : above place d + 1 < n = omega (arith, le, o, deeper) in
        let hc = counted_held file code nl n temps few place d t kind counted lt in
        fine_append file code (base_code nl d pc place) _ (base_fine place (expr_levels v + 1) d pc kind le
        (omega (arith, at)) h.2)
        (fine_append file code (old_code kind place (temp nl (above place d) (column kind)) (base_var nl place d)) _
        (old_fine file code nl n temps few kind place (temp nl (above place d) (column kind)) d (slot_kind kind) h.2 lt
        hs (slot_wide kind))
        (fine_append file code (expr_code nl (above place d + 1) (temp_of nl (above place d + 1) v)
        (pc + place_size place + 1) v) _
        (expr_fine v (above place d + 1) (temp_of nl (above place d + 1) v) (pc + place_size place + 1)
        (column_kind (value_column v)) (omega (arith, le, deeper)) (omega (arith, at))
        (own_held file code nl n temps few (above place d + 1) v lv) (own_in file code nl n temps few v) h.4) (
          arith_fine file code (counted_var nl place d kind counted) (slot_kind counted) counted (op_of m)
              (var (temp nl (above place d) (column kind))) (var (temp_of nl (above place d + 1) v)) hc
              (counted_slot counted h.0)
              (number_atom code (temp nl (above place d) (column kind)) (slot_kind kind) hs
              (counted_integer kind h.1)) (number_held file code nl n temps few (above place d + 1) v lv h.3) refl,
          fine_append file code (fit_code p kind counted (stored_var nl place d kind)
              (counted_var nl place d kind counted)) _
              (converted_fine file code nl n temps few p kind counted (stored_var nl place d kind)
              (counted_var nl place d kind counted) h.1
              h.0 hs hc)
              (put_fine file code nl n temps few kind place t d (stored_var nl place d kind) k h.2 lt
              hs ht
              (wide_goes kind k g)),
        )))
    expr_fine (expr.chosen p c a b) d t pc k le at ht g h =
        let o = some_levels c in
        let lc : d < n = omega (arith, le, o) in
        let hc = own_held file code nl n temps few d c lc in
        let x = chosen_goes k a b h.1 g in
        fine_append file code (expr_code nl d (temp_of nl d c) pc c) _
        (expr_fine c d (temp_of nl d c) pc (column_kind (value_column c)) (omega (arith, le)) (omega (arith, at)) hc
        (own_in file code nl n temps few c) h.0) (
          branch_fine file code (temp_of nl d c) (column_kind (value_column c)) (pc + expr_size c + 1)
              (pc + expr_size c + 1 + expr_size a + 1) hc (tested_fine code (value_column c) (value_low c))
              (omega (arith, at)) (omega (arith, at)),
          fine_append file code (expr_code nl d t (pc + expr_size c + 1) a) _ (expr_fine a d t (pc + expr_size c + 1) k
              (omega (arith, le)) (omega (arith, at)) ht x.0 h.2) (
                jump_fine file code (pc + expr_size c + 1 + expr_size a + 1 + expr_size b) (omega (arith, at)),
                expr_fine b d t (pc + expr_size c + 1 + expr_size a + 1) k (omega (arith, le)) (omega (arith, at)) ht
                    x.1 h.3,
              ),
        )
    expr_fine (expr.converted p kind v) d t pc k le at ht g h =
        let o = some_levels v in
        let lt : d < n = omega (arith, le, o) in
        fine_append file code (expr_code nl d (temp_of nl d v) pc v) _
        (expr_fine v d (temp_of nl d v) pc (column_kind (value_column v)) (omega (arith, le)) (omega (arith, at))
        (own_held file code nl n temps few d v lt) (own_in file code nl n temps few v) h.2) (
          fit_fine file code t k kind (var (temp_of nl d v)) ht (counts_goes kind k h.0 g)
              (number_held file code nl n temps few d v lt h.1) refl,
          tt,
        )
    expr_fine (expr.cast_of p v) d t pc k le at ht g h = expr_fine v d t pc k (omega (arith, le)) at ht g h
    expr_fine (expr.dropped p v) d t pc k le at ht g h = expr_fine v d t pc k (omega (arith, le)) at ht g h
    expr_fine (expr.called p w vs) d t pc k le at ht g h = fine_append file code
        (args_code nl d pc (call_params w) vs) _
        (args_fine vs d pc (call_params w) (omega (arith, le)) (omega (arith, at)) h.2)
        (call_fine file code nl n temps few w vs d t k p h.0 h.1 h.2 (omega (arith, le)) ht g)
    expr_fine (expr.called_row p w sig vs) d t pc k le at ht g h = fine_append file code
        (args_code nl d pc sig.params vs) _
        (args_fine vs d pc sig.params (omega (arith, le)) (omega (arith, at)) h.1)
        (api_fine file code nl n temps few sig vs d t k p h.0 h.1 (omega (arith, le)) ht g)
    expr_fine (expr.called_unless_null p w sig vs) d t pc k le at ht g h = fine_append file code
        (args_code nl d pc sig.params vs) _
        (args_fine vs d pc sig.params (omega (arith, le)) (omega (arith, at)) h.3)
        (unless_null_fine file code nl n temps few sig vs d t k p (pc + values_size vs) h.0 h.1 h.2 h.3
        (omega (arith, le)) (omega (arith, at)) ht g)
    expr_fine (expr.called_with_outputs p w sig vs steps) d t pc k le at ht g h =
        let x = temp nl d 0 in
        let hx = temps d 0 (omega (arith, le)) (omega arith) in
        let hy = temps (d + 1) 0 (omega (arith, le)) (omega arith) in
        let q = pc + values_size vs + 1 in
        fine_append file code (args_code nl d pc sig.params vs) _
        (args_fine vs d pc sig.params (omega (arith, le)) (omega (arith, at)) h.3)
        (fine_append file code (row_code nl d x p sig (listed_values vs)) _
        (api_fine file code nl n temps few sig vs d x param.Int p h.0 h.3 (omega (arith, le)) hx h.1)
        (outputs_fine file code nl n temps few steps d t k p q hx hy (omega (arith, at)) h.4 ht
        (integer_goes k 0 (omega arith) g)))
    expr_fine (expr.nonsense p) d t pc k le at ht g h = ((refl, refl, refl), tt)

    base_fine : (place : expr.Place) (m d pc : ℕ) (kind : ValueKind) → d + place_levels place m ≤ n
        → pc + place_size place < length code.instrs → IsPlaceTyped file code.vars kind place
        → AreFine file code (base_code nl d pc place)
    base_fine (expr.local_place p x) m d pc kind le at h = tt
    base_fine (expr.global_place p w) m d pc kind le at h = tt
    base_fine (expr.field_place p base tag field) m d pc kind le at h =
        let o = some_levels base in
        let lt : d < n = omega (arith, le, o) in
        expr_fine base d (temp_of nl d base) pc (column_kind (value_column base)) (omega (arith, le)) at
        (own_held file code nl n temps few d base lt) (own_in file code nl n temps few base) h.3
    base_fine expr.no_place m d pc kind le at h = tt

    args_fine : (vs : expr.Values) (d pc : ℕ) (ps : List Param) → d + values_levels vs ≤ n
        → pc + values_size vs < length code.instrs → AreTyped file code.vars ps vs
        → AreFine file code (args_code nl d pc ps vs)
    args_fine expr.no_values d pc ps le at h = tt
    args_fine (expr.value_and v vs) d pc [] le at h = absurd h
    args_fine (expr.value_and v vs) d pc (p ∷ ps) le at h =
        let o = some_levels v in
        let x = argument file code nl n temps few d p ps v (omega (arith, le, o)) h.0 in
        fine_append file code (expr_code nl d (arg_var nl d (p ∷ ps) v) pc v) _
        (expr_fine v d (arg_var nl d (p ∷ ps) v) pc x.kind (omega (arith, le)) (omega (arith, at)) x.held x.goes h.1)
        (args_fine vs (d + 1) (pc + expr_size v) ps (omega (arith, le, o)) (omega (arith, at)) h.2)
