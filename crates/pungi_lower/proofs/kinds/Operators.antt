-- An operator over operands of the kinds that the rules know.
use Rattle.std.proofs.Common.{◌≡◌, inl, inr, arith, Bool, true, false, List, Option, Some, None, refl, sym, subst}
use Rattle.std.specs.Prelude.{◌&&◌, ◌||◌, not, is_some, if◌then◌else◌}
use Rattle.pungi_base.specs.declared.kind.Kind.{Kind}
use Rattle.pungi_base.specs.declared.pos.Pos.{Pos}
use Rattle.pungi_base.specs.declared.punct.Punct.{Punct}
use Rattle.pungi_base.specs.declared.punct.Punct.TheVariants as puncts
use Rattle.pungi_api.specs.declared.param.Param.{Param}
use Rattle.pungi_types.specs.declared.kind.ValueKind.{ValueKind}
use Rattle.pungi_types.specs.declared.kind.ValueKind.TheVariants as kinds
use Rattle.pungi_types.specs.Operators.{is_int, is_integer, is_pointer, is_void, is_bits, is_arithmetic, is_order}
use Rattle.pungi_types.specs.Operators.{is_equality, is_bits_assign, is_arithmetic_assign, wider, fits, comparable}
use Rattle.pungi_types.specs.Operators.{joinable, joined_kind, both_known, has_same, is_same_kind}
use Rattle.pungi_types.specs.Exprs.{binary_kind, assign_kind, cond_kind, step_kind}
use Rattle.pungi_resolve.specs.Exprs.{convert, binary_value, assign_value, or_int}
use Rattle.pungi_resolved.specs.Values.{Value, Place, computed, compared, joined_by, stored, updated, chosen, cast_of}
use Rattle.pungi_resolved.specs.Values.{signed, stepped, negated}
use Rattle.pungi_meaning.specs.Values.{cmp_of}
use Rattle.pungi_code.specs.WellFormed as code
use Rattle.pungi_resolve.proofs.Clean.{and_true, and_left, and_right}
use Rattle.pungi_layout.specs.code.Temporaries.{value_column}
use Rattle.pungi_layout.specs.kinds.Typed.{Known, is_counted, is_kept, IsNumber, IsText, IsObject, Alike, are_numbers}
use Rattle.pungi_layout.specs.kinds.Typed.{are_objects, are_texts, IsPlaceTyped}
use Rattle.pungi_layout.proofs.well_formed.Columns.{null_column, joined_numbers, joined_is}
use Rattle.pungi_layout.specs.kinds.Typed.{AreComparable}
use Rattle.pungi_lower.proofs.kinds.Parts.{Kin, kin_number, kin_column, kin_if, Typed, convert_going}

-- .. kinds that were found
pub found : (c : Bool) (k : Option ValueKind) → is_some (if c then k else None) ≡ true → c ≡ true
found true k h = refl
found false k h = absurd (cc)

wider_counted : (a b : Option ValueKind) → is_counted (wider a b) ≡ true
wider_counted a b =
    elim (is_int a && is_int b) as (λ c. is_counted (if c then kinds.Int else kinds.Long) ≡ true)
    [ true ↦ refl | false ↦ refl ]

wider_kept : (a b : Option ValueKind) → is_kept (wider a b) ≡ true
wider_kept a b =
    elim (is_int a && is_int b) as (λ c. is_kept (if c then kinds.Int else kinds.Long) ≡ true)
    [ true ↦ refl | false ↦ refl ]

equality_order : (m : Punct) → is_equality m ≡ true → code.is_order (cmp_of m) ≡ false
equality_order puncts.Equal h = refl
equality_order puncts.NotEqual h = refl
equality_order _ h = absurd (cc)

-- beside a number stands a number
beside_number : (k : ValueKind) (kb : Option ValueKind) → is_counted k ≡ true → joinable (Some k) kb ≡ true
    → is_integer kb ≡ true
beside_number kinds.Int (Some kinds.Int) c h = refl
beside_number kinds.Int (Some kinds.Long) c h = refl
beside_number kinds.Int (Some kinds.Size) c h = refl
beside_number kinds.Long (Some kinds.Int) c h = refl
beside_number kinds.Long (Some kinds.Long) c h = refl
beside_number kinds.Long (Some kinds.Size) c h = refl
beside_number kinds.Size (Some kinds.Int) c h = refl
beside_number kinds.Size (Some kinds.Long) c h = refl
beside_number kinds.Size (Some kinds.Size) c h = refl
beside_number _ _ c h = absurd (cc)

-- two operands that `==` takes, or `?:`
alike_if : (ka kb : Option ValueKind) (a b : Value) → joinable ka kb ≡ true → Kin ka a → Kin kb b → Alike a b
alike_if (Some kinds.Text) (Some kinds.Text) a b h x y = are_texts x y
alike_if (Some kinds.Text) (Some kinds.Null) a b h x y = are_texts x (inr y)
alike_if (Some kinds.Null) (Some kinds.Text) a b h x y = are_texts (inr x) y
alike_if (Some (kinds.Object s)) (Some (kinds.Object t)) a b h x y = are_objects x y
alike_if (Some (kinds.Object s)) (Some kinds.Null) a b h x y = are_objects x (null_column b y)
alike_if (Some kinds.Null) (Some (kinds.Object s)) a b h x y = are_objects (null_column a x) y
alike_if (Some kinds.Null) (Some kinds.Null) a b h x y = are_objects (null_column a x) (null_column b y)
alike_if (Some kinds.Int) kb a b h x y =
    are_numbers (kin_number (Some kinds.Int) a refl x) (kin_number kb b (beside_number kinds.Int kb refl h) y)
alike_if (Some kinds.Long) kb a b h x y =
    are_numbers (kin_number (Some kinds.Long) a refl x) (kin_number kb b (beside_number kinds.Long kb refl h) y)
alike_if (Some kinds.Size) kb a b h x y =
    are_numbers (kin_number (Some kinds.Size) a refl x) (kin_number kb b (beside_number kinds.Size kb refl h) y)
alike_if _ _ a b h x y = absurd (cc)

comparable_joinable : (ka kb : Option ValueKind) → comparable ka kb ≡ true → joinable ka kb ≡ true
comparable_joinable ka kb h = rw h refl

-- `?:` over two numbers
numbers_joined : (ka kb : ValueKind) (p : Pos) (c a b : Value) → is_counted ka ≡ true → is_counted kb ≡ true
    → Kin (Some ka) a → Kin (Some kb) b → Kin (Some (wider (Some ka) (Some kb))) (chosen p c a b)
numbers_joined kinds.Int kinds.Int p c a b f g x y = joined_is _ _ 0 0 x y
numbers_joined kinds.Int kinds.Long p c a b f g x y =
    (joined_numbers (value_column a) (value_column b) (omega (arith, x)) (omega (arith, y))).0
numbers_joined kinds.Int kinds.Size p c a b f g x y =
    (joined_numbers (value_column a) (value_column b) (omega (arith, x)) (omega (arith, y))).0
numbers_joined kinds.Long kinds.Int p c a b f g x y =
    (joined_numbers (value_column a) (value_column b) (omega (arith, x)) (omega (arith, y))).0
numbers_joined kinds.Long kinds.Long p c a b f g x y =
    (joined_numbers (value_column a) (value_column b) (omega (arith, x)) (omega (arith, y))).0
numbers_joined kinds.Long kinds.Size p c a b f g x y =
    (joined_numbers (value_column a) (value_column b) (omega (arith, x)) (omega (arith, y))).0
numbers_joined kinds.Size kinds.Int p c a b f g x y =
    (joined_numbers (value_column a) (value_column b) (omega (arith, x)) (omega (arith, y))).0
numbers_joined kinds.Size kinds.Long p c a b f g x y =
    (joined_numbers (value_column a) (value_column b) (omega (arith, x)) (omega (arith, y))).0
numbers_joined kinds.Size kinds.Size p c a b f g x y =
    (joined_numbers (value_column a) (value_column b) (omega (arith, x)) (omega (arith, y))).0
numbers_joined _ _ p c a b f g x y = absurd (cc)

texts_joined : (p : Pos) (c a b : Value) → IsText a → IsText b → IsText (chosen p c a b)
texts_joined p c a b (inl x) (inl y) = inl (joined_is _ _ 3 3 x y)
texts_joined p c a b (inl x) (inr y) = inl (joined_is _ _ 3 4 x (null_column b y))
texts_joined p c a b (inr x) (inl y) = inl (joined_is _ _ 4 3 (null_column a x) y)
texts_joined p c a b (inr x) (inr y) = inr (and_true _ _ x y)

objects_joined : (p : Pos) (c a b : Value) → IsObject a → IsObject b → IsObject (chosen p c a b)
objects_joined p c a b x y = joined_is _ _ 4 4 x y

kin_joined : (ka kb : Option ValueKind) (p : Pos) (c a b : Value) → joinable ka kb ≡ true → Kin ka a → Kin kb b
    → Kin (joined_kind ka kb) (chosen p c a b)
kin_joined (Some kinds.Text) (Some kinds.Text) p c a b h x y = texts_joined p c a b x y
kin_joined (Some kinds.Text) (Some kinds.Null) p c a b h x y = texts_joined p c a b x (inr y)
kin_joined (Some kinds.Null) (Some kinds.Text) p c a b h x y = texts_joined p c a b (inr x) y
kin_joined (Some (kinds.Object s)) (Some (kinds.Object t)) p c a b h x y =
    elim (has_same s t) as (λ i. Kin (if i then Some (kinds.Object s) else Some (kinds.Object None))
    (chosen p c a b)) [ true ↦ objects_joined p c a b x y | false ↦ objects_joined p c a b x y ]
kin_joined (Some (kinds.Object s)) (Some kinds.Null) p c a b h x y = objects_joined p c a b x (null_column b y)
kin_joined (Some kinds.Null) (Some (kinds.Object s)) p c a b h x y = objects_joined p c a b (null_column a x) y
kin_joined (Some kinds.Null) (Some kinds.Null) p c a b h x y = and_true _ _ x y
kin_joined (Some kinds.Int) (Some kinds.Int) p c a b h x y = numbers_joined kinds.Int kinds.Int p c a b refl refl x y
kin_joined (Some kinds.Int) (Some kinds.Long) p c a b h x y = numbers_joined kinds.Int kinds.Long p c a b refl refl x y
kin_joined (Some kinds.Int) (Some kinds.Size) p c a b h x y = numbers_joined kinds.Int kinds.Size p c a b refl refl x y
kin_joined (Some kinds.Long) (Some kinds.Int) p c a b h x y = numbers_joined kinds.Long kinds.Int p c a b refl refl x y
kin_joined (Some kinds.Long) (Some kinds.Long) p c a b h x y =
    numbers_joined kinds.Long kinds.Long p c a b refl refl x y
kin_joined (Some kinds.Long) (Some kinds.Size) p c a b h x y =
    numbers_joined kinds.Long kinds.Size p c a b refl refl x y
kin_joined (Some kinds.Size) (Some kinds.Int) p c a b h x y = numbers_joined kinds.Size kinds.Int p c a b refl refl x y
kin_joined (Some kinds.Size) (Some kinds.Long) p c a b h x y =
    numbers_joined kinds.Size kinds.Long p c a b refl refl x y
kin_joined (Some kinds.Size) (Some kinds.Size) p c a b h x y =
    numbers_joined kinds.Size kinds.Size p c a b refl refl x y
kin_joined _ _ p c a b h x y = absurd (cc)

-- .. a cast that converts nothing
pub kin_cast : (p : Pos) (to from : Option ValueKind) (v : Value) → fits to from ≡ true
    → (is_integer to && not (is_same_kind to from)) ≡ false → Kin from v → Kin to (cast_of p v)
kin_cast p (Some kinds.Int) (Some kinds.Int) v h e x = x
kin_cast p (Some kinds.Long) (Some kinds.Long) v h e x = x
kin_cast p (Some kinds.Size) (Some kinds.Size) v h e x = x
kin_cast p (Some kinds.Text) (Some kinds.Text) v h e x = x
kin_cast p (Some kinds.Text) (Some kinds.Null) v h e x = inr x
kin_cast p (Some (kinds.Object s)) (Some (kinds.Object t)) v h e x = x
kin_cast p (Some (kinds.Object s)) (Some kinds.Null) v h e x = null_column v x
kin_cast p _ _ v h e x = absurd (cc)

-- .. a cast to another kind of numbers
pub cast_numbers : (to from : Option ValueKind) → fits to from ≡ true
    → (is_integer to && not (is_same_kind to from)) ≡ true → (is_integer to ≡ true) × (is_integer from ≡ true)
cast_numbers (Some kinds.Int) (Some kinds.Long) h e = (refl, refl)
cast_numbers (Some kinds.Int) (Some kinds.Size) h e = (refl, refl)
cast_numbers (Some kinds.Long) (Some kinds.Int) h e = (refl, refl)
cast_numbers (Some kinds.Long) (Some kinds.Size) h e = (refl, refl)
cast_numbers (Some kinds.Size) (Some kinds.Int) h e = (refl, refl)
cast_numbers (Some kinds.Size) (Some kinds.Long) h e = (refl, refl)
cast_numbers _ _ h e = absurd (cc)

pub number_column : (k : ValueKind) → is_integer (Some k) ≡ true → is_counted k ≡ true
number_column kinds.Int h = refl
number_column kinds.Long h = refl
number_column kinds.Size h = refl
number_column _ h = absurd (cc)

pub counted_kept : (k : ValueKind) → is_counted k ≡ true → is_kept k ≡ true
counted_kept kinds.Int h = refl
counted_kept kinds.Long h = refl
counted_kept kinds.Size h = refl
counted_kept _ h = absurd (cc)

numbers_comparable : (order : Bool) (a b : Value) → IsNumber a → IsNumber b → AreComparable order a b
numbers_comparable true a b x y = (x, y)
numbers_comparable false a b x y = are_numbers x y

module _ (file : Known) (vars : List Param) where
  -- a place whose kind is known
  abbrev pub IsPlaceOf : Option ValueKind → Place → Type 0
  IsPlaceOf None s = Unit {0}
  IsPlaceOf (Some k) s = IsPlaceTyped file vars k s

  -- .. by what the operator is
  abbrev binary_kind_by : Bool → Bool → Bool → Bool → Option ValueKind → Option ValueKind → Option ValueKind
  binary_kind_by bits sums order equal a b =
      (if bits then None else
      (if sums then (if is_integer a && is_integer b then Some (wider a b) else None) else
      (if order then (if is_integer a && is_integer b then Some kinds.Int else None) else
      (if equal then (if comparable a b then Some kinds.Int else None) else
      (if (is_integer a || is_pointer a) && (is_integer b || is_pointer b) then Some kinds.Int else None)))))

  abbrev binary_value_by : Bool → Bool → Bool → Pos → Punct → Option ValueKind → Value → Value → Value
  binary_value_by sums order equal p m k a b = (if sums then computed p m (or_int k) a b else
      (if order || equal then compared p m a b else joined_by p m a b))

  binary_by : (bits sums order equal : Bool) (p : Pos) (m : Punct) (ka kb : Option ValueKind) (a b : Value)
      → (equal ≡ true → code.is_order (cmp_of m) ≡ false)
      → is_some (binary_kind_by bits sums order equal ka kb) ≡ true
      → Typed file vars ka a → Typed file vars kb b
      → Typed file vars (binary_kind_by bits sums order equal ka kb) (binary_value_by sums order equal p m
      (binary_kind_by bits sums order equal ka kb) a b)
  binary_by true sums order equal p m ka kb a b o h x y = absurd (cc)
  binary_by false true order equal p m ka kb a b o h x y =
      elim (is_integer ka && is_integer kb) as (λ c. ((is_integer ka && is_integer kb) ≡ c)
      → is_some (if c then Some (wider ka kb) else None) ≡ true
      → Typed file vars (if c then Some (wider ka kb) else None) (computed p m
      (or_int (if c then Some (wider ka kb) else None)) a b)) [
        | true ↦ λ e k. record {
          typed = (
            wider_counted ka kb,
            kin_number ka a (and_left (is_integer ka) (is_integer kb) e) x.kin,
            x.typed,
            kin_number kb b (and_right (is_integer ka) (is_integer kb) e) y.kin,
            y.typed,
          );
          kin = kin_column (wider ka kb) (computed p m (wider ka kb) a b) (wider_kept ka kb) refl;
        }
        | false ↦ λ e k. absurd (cc)
      ] refl h
  binary_by false false true equal p m ka kb a b o h x y =
      elim (is_integer ka && is_integer kb) as (λ c. ((is_integer ka && is_integer kb) ≡ c)
      → is_some (if c then Some kinds.Int else None) ≡ true
      → Typed file vars (if c then Some kinds.Int else None) (compared p m a b)) [
        | true ↦ λ e k. record {
          typed = (
            numbers_comparable (code.is_order (cmp_of m)) a b
                (kin_number ka a (and_left (is_integer ka) (is_integer kb) e) x.kin)
                (kin_number kb b (and_right (is_integer ka) (is_integer kb) e) y.kin),
            x.typed,
            y.typed,
          );
          kin = refl;
        }
        | false ↦ λ e k. absurd (cc)
      ] refl h
  binary_by false false false true p m ka kb a b o h x y =
      elim (comparable ka kb) as (λ c. (comparable ka kb ≡ c) → is_some (if c then Some kinds.Int else None) ≡ true
      → Typed file vars (if c then Some kinds.Int else None) (compared p m a b)) [
        | true ↦ λ e k. record {
          typed = (
            subst (λ (q : Bool). AreComparable q a b) (sym (o refl))
                (alike_if ka kb a b (comparable_joinable ka kb e) x.kin y.kin),
            x.typed,
            y.typed,
          );
          kin = refl;
        }
        | false ↦ λ e k. absurd (cc)
      ] refl h
  binary_by false false false false p m ka kb a b o h x y = record {
    typed = (x.typed, y.typed);
    kin = kin_if ((is_integer ka || is_pointer ka) && (is_integer kb || is_pointer kb)) (Some kinds.Int)
        (joined_by p m a b) refl;
  }

  pub binary_typed : (p : Pos) (m : Punct) (ka kb : Option ValueKind) (a b : Value)
      → is_some (binary_kind m ka kb) ≡ true → Typed file vars ka a → Typed file vars kb b
      → Typed file vars (binary_kind m ka kb) (binary_value p m (binary_kind m ka kb) a b)
  binary_typed p m ka kb a b h x y = binary_by (is_bits m) (is_arithmetic m) (is_order m) (is_equality m) p m ka kb
      a b (equality_order m) h x y

  -- .. assignments
  update_typed : (p : Pos) (m : Punct) (ka kb : Option ValueKind) (s : Place) (v : Value) → is_integer ka ≡ true
      → is_integer kb ≡ true → IsPlaceOf ka s → Typed file vars kb v
      → Typed file vars ka (updated p m (wider ka kb) (or_int ka) s v)
  update_typed p m None kb s v i j t x = absurd (cc)
  update_typed p m (Some k) kb s v i j t x =
      let c = number_column k i in
      record {
        typed = (wider_counted (Some k) kb, c, t, kin_number kb v j x.kin, x.typed);
        kin = kin_column k (updated p m (wider (Some k) kb) k s v) (counted_kept k c) refl;
      }

  store_typed : (p : Pos) (ka kb : Option ValueKind) (s : Place) (v : Value) → fits ka kb ≡ true
      → IsPlaceOf ka s → Typed file vars kb v → Typed file vars ka (stored p (or_int ka) s (convert p ka kb v))
  store_typed p None kb s v f t x = absurd (cc)
  store_typed p (Some k) kb s v f t x =
      let g = convert_going file vars p (Some k) kb v f x in
      record {
        typed = (t, g.goes.1, g.typed);
        kin = kin_column k (stored p k s (convert p (Some k) kb v)) g.goes.0 refl;
      }

  abbrev assign_kind_by : Bool → Bool → Bool → Option ValueKind → Option ValueKind → Option ValueKind
  assign_kind_by bits sums place a b = (if bits then None else (if sums then
      (if place && (is_integer a && is_integer b) then a else None) else (if place && fits a b then a else None)))

  abbrev assign_value_by : Bool → Pos → Punct → Option ValueKind → Option ValueKind → Place → Value → Value
  assign_value_by sums p m k from s v = (if sums then updated p m (wider k from) (or_int k) s v else stored p
      (or_int k) s (convert p k from v))

  assign_by : (bits sums place : Bool) (p : Pos) (m : Punct) (ka kb : Option ValueKind) (s : Place) (v : Value)
      → is_some (assign_kind_by bits sums place ka kb) ≡ true → IsPlaceOf ka s
      → Typed file vars kb v
      → Typed file vars (assign_kind_by bits sums place ka kb) (assign_value_by sums p m ka kb s v)
  assign_by true sums place p m ka kb s v h t x = absurd (cc)
  assign_by false true place p m ka kb s v h t x =
      let c = found (place && (is_integer ka && is_integer kb)) ka h in
      let r = and_right place (is_integer ka && is_integer kb) c in
      let u = update_typed p m ka kb s v (and_left (is_integer ka) (is_integer kb) r)
      (and_right (is_integer ka) (is_integer kb) r) t x in
      record {
        typed = u.typed;
        kin = kin_if (place && (is_integer ka && is_integer kb)) ka
            (updated p m (wider ka kb) (or_int ka) s v) u.kin;
      }
  assign_by false false place p m ka kb s v h t x =
      let c = found (place && fits ka kb) ka h in
      let u = store_typed p ka kb s v (and_right place (fits ka kb) c) t x in
      record {
        typed = u.typed;
        kin = kin_if (place
            && fits ka kb) ka (stored p (or_int ka) s (convert p ka kb v)) u.kin;
      }

  pub assign_typed : (p : Pos) (m : Punct) (place : Bool) (ka kb : Option ValueKind) (s : Place) (v : Value)
      → is_some (assign_kind m place ka kb) ≡ true → IsPlaceOf ka s → Typed file vars kb v
      → Typed file vars (assign_kind m place ka kb) (assign_value p m ka kb s v)
  assign_typed p m place ka kb s v h t x = assign_by (is_bits_assign m) (is_arithmetic_assign m) place p m ka kb s v
      h t x

  -- .. steps and signs
  pub step_typed : (p : Pos) (b : Bool) (m : Kind) (place : Bool) (k : Option ValueKind) (s : Place)
      → is_some (step_kind place k) ≡ true → IsPlaceOf k s
      → Typed file vars (step_kind place k) (stepped p b m (or_int k) s)
  step_typed p b m place None s h t = absurd (none_stepped place h)
    where
      none_stepped : (c : Bool) → is_some (step_kind c None) ≡ true → ⊥
      none_stepped true h = cc
      none_stepped false h = cc
  step_typed p b m place (Some k) s h t =
      let c = number_column k (and_right place (is_integer (Some k)) (found (place && is_integer (Some k)) (Some k)
      h)) in
      record {
        typed = (c, t);
        kin = kin_if (place && is_integer (Some k)) (Some k) (stepped p b m k s)
            (kin_column k (stepped p b m k s) (counted_kept k c) refl);
      }

  pub sign_typed : (p : Pos) (m : Kind) (k : Option ValueKind) (v : Value)
      → is_some (if is_integer k then Some (wider k k) else None) ≡ true → Typed file vars k v
      → Typed file vars (if is_integer k then Some (wider k k) else None) (signed p m
      (if is_int k then kinds.Int else kinds.Long) v)
  sign_typed p m (Some kinds.Int) v h x = record { typed = (refl, x.kin, x.typed); kin = refl }
  sign_typed p m (Some kinds.Long) v h x = record {
    typed = (refl, omega (arith, x.kin), x.typed);
    kin = omega arith;
  }
  sign_typed p m (Some kinds.Size) v h x = record {
    typed = (refl, omega (arith, x.kin), x.typed);
    kin = omega arith;
  }
  sign_typed p m _ v h x = absurd (cc)

  pub negation_typed : (p : Pos) (k : Option ValueKind) (v : Value) → Typed file vars k v
      → Typed file vars (if is_integer k || is_pointer k then Some kinds.Int else None) (negated p v)
  negation_typed p k v x = record {
    typed = x.typed;
    kin = kin_if (is_integer k || is_pointer k)
        (Some kinds.Int) (negated p v) refl;
  }

  -- .. `?:`
  pub cond_typed : (p : Pos) (kc ka kb : Option ValueKind) (c a b : Value) → is_some (cond_kind kc ka kb) ≡ true
      → Typed file vars kc c → Typed file vars ka a → Typed file vars kb b
      → Typed file vars (cond_kind kc ka kb) (chosen p c a b)
  cond_typed p kc ka kb c a b h x y z =
      let j = and_right (both_known ka kb) (joinable ka kb) (and_right (is_some kc && not (is_void kc))
      (both_known ka kb && joinable ka kb) (found ((is_some kc && not (is_void kc))
      && (both_known ka kb && joinable ka kb)) (joined_kind ka kb) h)) in
      record {
        typed = (x.typed, alike_if ka kb a b j y.kin z.kin, y.typed, z.typed);
        kin = kin_if ((is_some kc && not (is_void kc)) && (both_known ka kb && joinable ka kb)) (joined_kind ka kb)
            (chosen p c a b) (kin_joined ka kb p c a b j y.kin z.kin);
      }
