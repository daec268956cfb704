-- The kinds of values as the rules know them, and what follows for the tree.
use Rattle.std.proofs.Common.{◌≡◌, ℕ, ◌≤◌, inl, inr, arith, Bool, true, false, List, Option, Some, None, refl}
use Rattle.std.specs.Prelude.{if◌then◌else◌}
use Rattle.pungi_base.specs.declared.pos.Pos.{Pos}
use Rattle.pungi_tree.specs.Syntax.{Item}
use Rattle.pungi_api.specs.declared.param.Param.{Param}
use Rattle.pungi_types.specs.declared.kind.ValueKind.{ValueKind}
use Rattle.pungi_types.specs.declared.kind.ValueKind.TheVariants as kinds
use Rattle.pungi_types.specs.Names.{statics_in}
use Rattle.pungi_types.specs.Operators.{is_integer, fits}
use Rattle.pungi_resolve.specs.Exprs.{convert}
use Rattle.pungi_resolved.specs.Values.{Value, converted}
use Rattle.pungi_meaning.specs.Values.{slot_kind}
use Rattle.pungi_code.specs.WellFormed.{CallKinds}
use Rattle.pungi_layout.specs.code.Temporaries.{column, value_column}
use Rattle.pungi_layout.specs.kinds.Typed.{Known, is_counted, is_kept, is_null, IsNumber, IsText, IsObject, GoesIn}
use Rattle.pungi_layout.specs.kinds.Typed.{IsTyped}
use Rattle.pungi_layout.proofs.well_formed.Columns.{null_column}

-- a value is of a kind that the rules know
abbrev pub Kin : Option ValueKind → Value → Type 0
Kin (Some kinds.Int) v = value_column v ≡ 0
Kin (Some kinds.Long) v = value_column v ≤ 1
Kin (Some kinds.Size) v = value_column v ≡ 2
Kin (Some kinds.Text) v = IsText v
Kin (Some (kinds.Object s)) v = IsObject v
Kin (Some kinds.Null) v = is_null v ≡ true
Kin _ v = Unit {0}

pub kin_number : (k : Option ValueKind) (v : Value) → is_integer k ≡ true → Kin k v → IsNumber v
kin_number (Some kinds.Int) v h g = omega (arith, g)
kin_number (Some kinds.Long) v h g = omega (arith, g)
kin_number (Some kinds.Size) v h g = omega (arith, g)
kin_number _ v h g = absurd (cc)

-- a value in the column of its kind
pub kin_column : (k : ValueKind) (v : Value) → is_kept k ≡ true → value_column v ≡ column k → Kin (Some k) v
kin_column kinds.Int v h e = e
kin_column kinds.Long v h e = omega (arith, e)
kin_column kinds.Size v h e = e
kin_column kinds.Text v h e = inl e
kin_column (kinds.Object s) v h e = e
kin_column _ v h e = absurd (cc)

pub kin_if : (c : Bool) (k : Option ValueKind) (v : Value) → Kin k v → Kin (if c then k else None) v
kin_if true k v h = h
kin_if false k v h = tt

pub kin_unless : (c : Bool) (k : Option ValueKind) (v : Value) → Kin k v → Kin (if c then None else k) v
kin_unless true k v h = tt
kin_unless false k v h = h

-- .. what may be assigned
-- a place of this kind may hold a value
abbrev pub GoesTo : Option ValueKind → Value → Type 0
GoesTo None v = ⊥
GoesTo (Some k) v = (is_kept k ≡ true) × GoesIn (slot_kind k) v

pub fits_goes : (p : Pos) (to from : Option ValueKind) (v : Value) → fits to from ≡ true → Kin from v
    → GoesTo to (convert p to from v)
fits_goes p (Some kinds.Int) (Some kinds.Int) v h g = (refl, g)
fits_goes p (Some kinds.Int) (Some kinds.Long) v h g = (refl, refl)
fits_goes p (Some kinds.Int) (Some kinds.Size) v h g = (refl, refl)
fits_goes p (Some kinds.Long) (Some kinds.Int) v h g = (refl, omega arith)
fits_goes p (Some kinds.Long) (Some kinds.Long) v h g = (refl, omega (arith, g))
fits_goes p (Some kinds.Long) (Some kinds.Size) v h g = (refl, omega arith)
fits_goes p (Some kinds.Size) (Some kinds.Int) v h g = (refl, omega arith)
fits_goes p (Some kinds.Size) (Some kinds.Long) v h g = (refl, omega arith)
fits_goes p (Some kinds.Size) (Some kinds.Size) v h g = (refl, omega (arith, g))
fits_goes p (Some kinds.Text) (Some kinds.Text) v h g = (refl, g)
fits_goes p (Some kinds.Text) (Some kinds.Null) v h g = (refl, inr g)
fits_goes p (Some (kinds.Object s)) (Some (kinds.Object t)) v h g = (refl, g)
fits_goes p (Some (kinds.Object s)) (Some kinds.Null) v h g = (refl, null_column v g)
fits_goes p _ _ v h g = absurd (cc)

-- .. what is known around a function's statements, beside the items of its file
pub record Around : Type 0 where
  pub callees : ℕ → CallKinds
  pub result : Option ValueKind

abbrev pub in_file : Around → List Item → Known
in_file a items =
    record { items = items; statics = statics_in items; callees = a.callees; result = a.result }

-- as many static objects are there as the items of the file say
abbrev pub HasStatics : Known → Type 0
HasStatics file = file.statics ≡ statics_in file.items

module _ (file : Known) (vars : List Param) where
  -- a value that is typed and of its kind
  pub record Typed (k : Option ValueKind) (v : Value) : Type 0 where
    pub typed : IsTyped file vars v
    pub kin : Kin k v

  -- a value that goes to a place of this kind
  pub record Going (to : Option ValueKind) (v : Value) : Type 0 where
    pub typed : IsTyped file vars v
    pub goes : GoesTo to v

  converted_typed : (p : Pos) (k from : ValueKind) (v : Value) → is_counted k ≡ true → is_integer (Some from) ≡ true
      → Typed (Some from) v → IsTyped file vars (converted p k v)
  converted_typed p k from v c i t = (c, kin_number (Some from) v i t.kin, t.typed)

  pub convert_typed : (p : Pos) (to from : Option ValueKind) (v : Value) → fits to from ≡ true → Typed from v
      → IsTyped file vars (convert p to from v)
  convert_typed p (Some kinds.Int) (Some kinds.Int) v h t = t.typed
  convert_typed p (Some kinds.Int) (Some kinds.Long) v h t = converted_typed p kinds.Int kinds.Long v refl refl t
  convert_typed p (Some kinds.Int) (Some kinds.Size) v h t = converted_typed p kinds.Int kinds.Size v refl refl t
  convert_typed p (Some kinds.Long) (Some kinds.Int) v h t = converted_typed p kinds.Long kinds.Int v refl refl t
  convert_typed p (Some kinds.Long) (Some kinds.Long) v h t = t.typed
  convert_typed p (Some kinds.Long) (Some kinds.Size) v h t = converted_typed p kinds.Long kinds.Size v refl refl t
  convert_typed p (Some kinds.Size) (Some kinds.Int) v h t = converted_typed p kinds.Size kinds.Int v refl refl t
  convert_typed p (Some kinds.Size) (Some kinds.Long) v h t = converted_typed p kinds.Size kinds.Long v refl refl t
  convert_typed p (Some kinds.Size) (Some kinds.Size) v h t = t.typed
  convert_typed p (Some kinds.Text) (Some kinds.Text) v h t = t.typed
  convert_typed p (Some kinds.Text) (Some kinds.Null) v h t = t.typed
  convert_typed p (Some (kinds.Object s)) (Some (kinds.Object u)) v h t = t.typed
  convert_typed p (Some (kinds.Object s)) (Some kinds.Null) v h t = t.typed
  convert_typed p _ _ v h t = absurd (cc)

  pub convert_going : (p : Pos) (to from : Option ValueKind) (v : Value) → fits to from ≡ true → Typed from v
      → Going to (convert p to from v)
  convert_going p to from v h t = record {
    typed = convert_typed p to from v h t;
    goes = fits_goes p to from v h t.kin;
  }
