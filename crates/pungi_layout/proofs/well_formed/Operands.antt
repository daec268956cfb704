-- The instructions that read and write places, and those of two operands, name what is there, and of the kind that
-- they need.
use Rattle.std.proofs.Common.{◌≡◌, ℕ, ◌<◌, ◌≤◌, inl, inr, pos, arith, Bool, true, false, [], ◌∷◌, Some, refl, sym}
use Rattle.std.proofs.Common.{subst}
use Rattle.std.specs.Prelude.{◌^◌, if◌then◌else◌}
use Rattle.pungi_base.specs.declared.kind.Kind.{Kind}
use Rattle.pungi_base.specs.declared.pos.Pos.{Pos}
use Rattle.pungi_api.specs.declared.param.Param.{Param}
use Rattle.pungi_api.specs.declared.param.Param.TheVariants as param
use Rattle.pungi_types.specs.declared.kind.ValueKind.{ValueKind}
use Rattle.pungi_resolved.specs.Values as expr
use Rattle.pungi_types.specs.Operators.{is_same_kind}
use Rattle.pungi_meaning.specs.Values.{wide, slot_kind}
use Rattle.pungi_meaning.specs.Exprs.{step_op}
use Rattle.pungi_code.specs.declared.atom.Atom.TheVariants as atom
use Rattle.pungi_code.specs.declared.code.Code.{Code}
use Rattle.pungi_code.specs.declared.instr.Instr.TheVariants.{Fit}
use Rattle.pungi_code.specs.declared.place.Place.TheVariants.{Global, Field}
use Rattle.pungi_code.specs.WellFormed.{is_wide, is_number}
use Rattle.pungi_layout.specs.code.Temporaries.{column, temp, value_column, temp_of, fitting_column, operand}
use Rattle.pungi_layout.specs.code.ExprCode.{line, to_var, var, fit_code, old_code, store_code, above, stored_var}
use Rattle.pungi_layout.specs.code.ExprCode.{counted_var, base_var, step_code}
use Rattle.pungi_layout.specs.kinds.Typed.{Known, is_counted, is_null, IsNumber, IsText, IsObject, GoesIn, Alike}
use Rattle.pungi_layout.specs.kinds.Typed.{are_numbers, are_objects, are_texts, AreComparable, IsHeld, IsPlaceTyped}
use Rattle.pungi_layout.proofs.well_formed.Instructions.{column_kind, column_slot, column_low, counted_slot}
use Rattle.pungi_layout.proofs.well_formed.Instructions.{counted_integer, same_slot, slot_wide, number_kind, own_goes}
use Rattle.pungi_layout.proofs.well_formed.Instructions.{var_atom, number_atom, set_fine, arith_fine, fit_fine}
use Rattle.pungi_layout.proofs.well_formed.Instructions.{are_compared, load_fine, store_fine, global_fine, field_fine}
use Rattle.pungi_layout.proofs.well_formed.Instructions.{numbers_compared, objects_compared, texts_compared, AreFine}
use Rattle.pungi_layout.proofs.well_formed.Instructions.{fine_append}
use Rattle.pungi_layout.proofs.well_formed.Columns.{wide_counted, beside_object, value_low, null_column, low_fit}

-- the places of the parts of an expression are in front of its end
module _ (file : Known) (code : Code) (nl n : ℕ) (temps : (d c : ℕ) → d < n → c ≤ 4
    → IsHeld code.vars (temp nl d c) (column_kind c)) (few : n ≤ 2 ^ 14) where
  -- .. variables
  -- the variable of a value of this kind
  pub kind_held : (d : ℕ) (kind : ValueKind) → d < n → IsHeld code.vars (temp nl d (column kind)) (slot_kind kind)
  kind_held d kind lt = subst (λ k. IsHeld code.vars (temp nl d (column kind)) k) (column_slot kind)
      (temps d (column kind) lt (column_low kind))

  pub own_held : (d : ℕ) (v : expr.Value) → d < n → IsHeld code.vars (temp_of nl d v) (column_kind (value_column v))
  own_held d v lt = temps d (value_column v) lt (value_low v)

  pub own_in : (v : expr.Value) → GoesIn (column_kind (value_column v)) v
  own_in v = own_goes (value_column v) (is_null v) (value_low v)

  pub number_held : (d : ℕ) (v : expr.Value) → d < n → IsNumber v → is_number code.vars (var (temp_of nl d v)) ≡ true
  number_held d v lt h = number_atom code (temp_of nl d v) (column_kind (value_column v)) (own_held d v lt)
      (number_kind (value_column v) h)

  pub object_held : (d : ℕ) (v : expr.Value) → d < n → IsObject v → IsHeld code.vars (temp_of nl d v) param.ObjectOrNull
  object_held d v lt e = subst (λ c. IsHeld code.vars (temp nl d c) param.ObjectOrNull) (sym e)
      (temps d 4 lt (omega arith))

  -- .. places
  pub old_fine : (kind : ValueKind) (place : expr.Place) (t d : ℕ) (k : Param) → IsPlaceTyped file code.vars kind place
      → above place d < n → IsHeld code.vars t k → is_wide (slot_kind kind) k ≡ true
      → AreFine file code (old_code kind place t (base_var nl place d))
  old_fine kind (expr.local_place p x) t d k h lt ht w = (
    set_fine file code t k (var x) ht
        (var_atom code x (slot_kind kind) k h.1 w) refl,
    tt,
  )
  old_fine kind (expr.global_place p m) t d k h lt ht w = (
    load_fine file code t k (Global m (slot_kind kind)) ht
        (global_fine code m kind) w refl,
    tt,
  )
  old_fine kind (expr.field_place p base tag field) t d k h lt ht w =
      let b = object_held d base (omega (arith, lt)) h.2 in (
        load_fine file code t k (Field (var (temp_of nl d base)) tag field (slot_kind kind)) ht
            (field_fine code (temp_of nl d base) tag field kind b) w refl,
        tt,
      )
  old_fine kind expr.no_place t d k h lt ht w = absurd h

  pub put_fine : (kind : ValueKind) (place : expr.Place) (t d s : ℕ) (k : Param)
      → IsPlaceTyped file code.vars kind place → above place d < n → IsHeld code.vars s (slot_kind kind)
      → IsHeld code.vars t k
      → is_wide (slot_kind kind) k ≡ true → AreFine file code (store_code kind place t (base_var nl place d) s)
  put_fine kind (expr.local_place p x) t d s k h lt hs ht w = (
    set_fine file code x (slot_kind kind) (var s) h.1 (var_atom code s (slot_kind kind) (slot_kind kind) hs
        (slot_wide kind)) refl,
    (set_fine file code t k (var s) ht (var_atom code s (slot_kind kind) k hs w) refl, tt),
  )
  put_fine kind (expr.global_place p m) t d s k h lt hs ht w = (
    store_fine file code (Global m (slot_kind kind)) (var s) (global_fine code m kind)
        (var_atom code s (slot_kind kind) (slot_kind kind) hs (slot_wide kind)) refl,
    (set_fine file code t k (var s) ht (var_atom code s (slot_kind kind) k hs w) refl, tt),
  )
  put_fine kind (expr.field_place p base tag field) t d s k h lt hs ht w =
      let b = object_held d base (omega (arith, lt)) h.2 in (
        store_fine file code (Field (var (temp_of nl d base)) tag field (slot_kind kind)) (var s)
            (field_fine code (temp_of nl d base) tag field kind b) (var_atom code s (slot_kind kind) (slot_kind kind)
            hs (slot_wide kind)) refl,
        (set_fine file code t k (var s) ht (var_atom code s (slot_kind kind) k hs w) refl, tt),
      )
  put_fine kind expr.no_place t d s k h lt hs ht w = absurd h

  -- .. what is counted in another kind and converted
  pub counted_held : (place : expr.Place) (d t : ℕ) (kind counted : ValueKind) → above place d < n
      → IsHeld code.vars (counted_var nl place d kind counted) (slot_kind counted)
  counted_held place d t kind counted lt =
      elim (is_same_kind (Some kind) (Some counted)) as (λ b. (is_same_kind (Some kind) (Some counted) ≡ b)
      → IsHeld code.vars (if b then stored_var nl place d kind else temp nl (above place d) (column counted))
      (slot_kind counted)) [
        | true ↦ λ e. subst (λ k. IsHeld code.vars (temp nl (above place d) (column kind)) k)
            (same_slot kind counted e) (kind_held (above place d) kind lt)
        | false ↦ λ e. kind_held (above place d) counted lt
      ] refl

  pub converted_fine : (p : Pos) (kind counted : ValueKind) (s c : ℕ) → is_counted kind ≡ true
      → is_counted counted ≡ true → IsHeld code.vars s (slot_kind kind) → IsHeld code.vars c (slot_kind counted)
      → AreFine file code (fit_code p kind counted s c)
  converted_fine p kind counted s c f g hs hc =
      elim (is_same_kind (Some kind) (Some counted)) as (λ b. AreFine file code (if b then [] else line p
      (Fit (to_var s) kind (var c)) ∷ [])) [
        | true ↦ tt
        | false ↦ (
          fit_fine file code s (slot_kind kind) kind (var c) hs (counted_slot kind f)
              (number_atom code c (slot_kind counted) hc (counted_integer counted g)) refl,
          tt,
        )
      ]

  -- an operator in front of a place, whose old content stands in its variable
  pub step_fine : (d t : ℕ) (k : Param) (p : Pos) (m : Kind) (kind : ValueKind) (place : expr.Place)
      → is_counted kind ≡ true → IsPlaceTyped file code.vars kind place → above place d < n
      → IsHeld code.vars t k
      → is_wide (slot_kind kind) k ≡ true → AreFine file code (step_code nl d t p m kind place)
  step_fine d t k p m kind place c h lt ht w =
      let wc = wide_counted kind c in
      let hc = counted_held place d t kind (wide kind) lt in
      let hs = kind_held (above place d) kind lt in (
        arith_fine file code (counted_var nl place d kind (wide kind)) (slot_kind (wide kind)) (wide kind) (step_op m)
            (var (temp nl (above place d) (column kind))) (atom.Int (pos 1)) hc (counted_slot (wide kind) wc)
            (number_atom code (temp nl (above place d) (column kind)) (slot_kind kind) hs (counted_integer kind c))
            refl refl,
        fine_append file code (fit_code p kind (wide kind) (stored_var nl place d kind)
            (counted_var nl place d kind (wide kind))) _ (converted_fine p kind (wide kind)
            (stored_var nl place d kind) (counted_var nl place d kind (wide kind)) c wc hs hc)
            (put_fine kind place t d (stored_var nl place d kind) k h lt hs ht w),
      )

  -- .. operands of a comparison
  pub record Operands (d e : ℕ) (a b : expr.Value) (order : Bool) : Type 0 where
    pub left_kind : Param
    pub left_held : IsHeld code.vars (operand nl d (value_column b) a) left_kind
    pub left_goes : GoesIn left_kind a
    pub right_kind : Param
    pub right_held : IsHeld code.vars (operand nl e (value_column a) b) right_kind
    pub right_goes : GoesIn right_kind b
    pub fine : are_compared code order (var (operand nl d (value_column b) a)) (var (operand nl e (value_column a) b))
        ≡ true

  -- an operand in its own variable
  same_held : (d w : ℕ) (v : expr.Value) (k : Param) → fitting_column w (value_column v) ≡ value_column v
      → IsHeld code.vars (temp_of nl d v) k → IsHeld code.vars (operand nl d w v) k
  same_held d w v k e h = subst (λ c. IsHeld code.vars (temp nl d c) k) (sym e) h

  -- beside a text
  pub text_held : (d w : ℕ) (v : expr.Value) → d < n → w ≡ 3 → IsHeld code.vars (operand nl d w v) param.TextOrNull
  text_held d w v lt e = subst (λ (x : ℕ). IsHeld code.vars (temp nl d (fitting_column x (value_column v)))
      param.TextOrNull) (sym e) (temps d 3 lt (omega arith))

  operands_numbers : (d e : ℕ) (a b : expr.Value) (order : Bool) → d < n → e < n → IsNumber a → IsNumber b
      → Operands d e a b order
  operands_numbers d e a b order ld le x y =
      let f = low_fit (value_column b) (value_column a) y in
      let g = low_fit (value_column a) (value_column b) x in
      let ha = same_held d (value_column b) a (column_kind (value_column a)) f (own_held d a ld) in
      let hb = same_held e (value_column a) b (column_kind (value_column b)) g (own_held e b le) in
      record {
        left_kind = column_kind (value_column a);
        left_held = ha;
        left_goes = own_in a;
        right_kind = column_kind (value_column b);
        right_held = hb;
        right_goes = own_in b;
        fine = numbers_compared code order (var (operand nl d (value_column b) a))
            (var (operand nl e (value_column a) b))
            (number_atom code (operand nl d (value_column b) a) (column_kind (value_column a)) ha
            (number_kind (value_column a) x))
            (number_atom code (operand nl e (value_column a) b) (column_kind (value_column b)) hb
            (number_kind (value_column b) y));
      }

  operands_objects : (d e : ℕ) (a b : expr.Value) → d < n → e < n → IsObject a → IsObject b → Operands d e a b false
  operands_objects d e a b ld le x y =
      let ha = same_held d (value_column b) a param.ObjectOrNull (beside_object (value_column b) (value_column a) y)
      (object_held d a ld x) in
      let hb = same_held e (value_column a) b param.ObjectOrNull (beside_object (value_column a) (value_column b) x)
      (object_held e b le y) in
      record {
        left_kind = param.ObjectOrNull;
        left_held = ha;
        left_goes = x;
        right_kind = param.ObjectOrNull;
        right_held = hb;
        right_goes = y;
        fine = objects_compared code (var (operand nl d (value_column b) a)) (var (operand nl e (value_column a) b))
            (var_atom code (operand nl d (value_column b) a) param.ObjectOrNull param.ObjectOrNull ha refl)
            (var_atom code (operand nl e (value_column a) b) param.ObjectOrNull param.ObjectOrNull hb refl);
      }

  -- a value of a column that is known
  pub known_held : (d : ℕ) (v : expr.Value) (c : ℕ) → d < n → value_column v ≡ c → c ≤ 4
      → IsHeld code.vars (temp_of nl d v) (column_kind c)
  known_held d v c lt e le = subst (λ (x : ℕ). IsHeld code.vars (temp nl d x) (column_kind c)) (sym e) (temps d c lt le)

  two_texts : (d e : ℕ) (a b : expr.Value) → IsText a → IsText b
      → IsHeld code.vars (operand nl d (value_column b) a) param.TextOrNull
      → IsHeld code.vars (operand nl e (value_column a) b) param.TextOrNull → Operands d e a b false
  two_texts d e a b x y ha hb = record {
    left_kind = param.TextOrNull;
    left_held = ha;
    left_goes = x;
    right_kind = param.TextOrNull;
    right_held = hb;
    right_goes = y;
    fine = texts_compared code (var (operand nl d (value_column b) a)) (var (operand nl e (value_column a) b))
        (var_atom code (operand nl d (value_column b) a) param.TextOrNull param.TextOrNull ha refl)
        (var_atom code (operand nl e (value_column a) b) param.TextOrNull param.TextOrNull hb refl);
  }

  operands_texts : (d e : ℕ) (a b : expr.Value) → d < n → e < n → IsText a → IsText b → Operands d e a b false
  operands_texts d e a b ld le (inl x) (inl y) =
      two_texts d e a b (inl x) (inl y) (text_held d (value_column b) a ld y) (text_held e (value_column a) b le x)
  operands_texts d e a b ld le (inl x) (inr y) =
      two_texts d e a b (inl x) (inr y)
      (same_held d (value_column b) a param.TextOrNull (beside_object (value_column b) (value_column a)
      (null_column b y)) (known_held d a 3 ld x (omega arith)))
      (text_held e (value_column a) b le x)
  operands_texts d e a b ld le (inr x) (inl y) =
      two_texts d e a b (inr x) (inl y) (text_held d (value_column b) a ld y)
      (same_held e (value_column a) b param.TextOrNull (beside_object (value_column a) (value_column b)
      (null_column a x)) (known_held e b 3 le y (omega arith)))
  operands_texts d e a b ld le (inr x) (inr y) = operands_objects d e a b ld le (null_column a x) (null_column b y)

  alike_operands : (d e : ℕ) (a b : expr.Value) → d < n → e < n → Alike a b → Operands d e a b false
  alike_operands d e a b ld le (are_numbers x y) = operands_numbers d e a b false ld le x y
  alike_operands d e a b ld le (are_objects x y) = operands_objects d e a b ld le x y
  alike_operands d e a b ld le (are_texts x y) = operands_texts d e a b ld le x y

  pub operands : (d e : ℕ) (a b : expr.Value) (order : Bool) → d < n → e < n → AreComparable order a b
      → Operands d e a b order
  operands d e a b true ld le h = operands_numbers d e a b true ld le h.0 h.1
  operands d e a b false ld le h = alike_operands d e a b ld le h
