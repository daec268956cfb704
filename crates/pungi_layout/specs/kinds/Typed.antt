-- Resolved trees whose parts are of the kinds that they need (C11 6.5, 6.8), where the locals hold these kinds.
--   Known                           what is known around a statement: the items of the file, how many static objects
--                                   there are, the kinds of the codes of its functions by their numbers, and the kind
--                                   of the function's result
--   is_counted k, is_kept k         kinds of numbers; those that a place has
--   is_given k                      those that a function may have as its result
--   is_null v                       nothing but NULL
--   IsNumber, IsText, IsObject v    what a value is; NULL is a text, too
--   Goes k c n, GoesIn k v          a value may stand in a variable of this kind: by its column, and whether it is NULL
--   Alike a b                       two values that `==` may compare, and `?:` join: are_numbers, are_objects,
--                                   are_texts
--   AreComparable order a b         so, and numbers where the order is compared
--   IsHeld vars x k                 a variable is there and holds this
--   IsArgument p v                  a value may be passed for a parameter
--   AreWritable vars steps          what comes after a call that writes variables
--   IsTyped file vars v, IsPlaceTyped, AreTyped    an expression, a place for a kind, arguments
--   IsOptionTyped, IsInitial, IsDeclaredTyped, AreDeclaredTyped  one that may be missing, a first value, declared
--                                                                locals
--   IsReturned file vars k v                       a returned value of this kind, or none
--   IsStmtTyped file vars a, AreStmtsTyped         statements
use Rattle.std.specs.Prelude.{◌≡◌, ℕ, ◌<◌, ◌≤◌, ◌⊎◌, Bool, true, false, ◌&&◌, ◌||◌, List, [], ◌∷◌, length, Option, Some}
use Rattle.std.specs.Prelude.{None}
use Rattle.pungi_tree.specs.Syntax.{Item}
use Rattle.pungi_api.specs.Rows.{fits_int}
use Rattle.pungi_api.specs.Signatures.{is_signature, null_signature}
use Rattle.pungi_api.specs.declared.answer.Answer.TheVariants as answer
use Rattle.pungi_api.specs.declared.call_answer.CallAnswer.TheVariants.{Of}
use Rattle.pungi_api.specs.declared.param.Param.{Param}
use Rattle.pungi_api.specs.declared.param.Param.TheVariants as param
use Rattle.pungi_types.specs.declared.kind.ValueKind.{ValueKind}
use Rattle.pungi_types.specs.declared.kind.ValueKind.TheVariants as kinds
use Rattle.pungi_types.specs.Kinds.{struct_fields, field_in_some}
use Rattle.pungi_types.specs.Names.{global_kind}
use Rattle.pungi_types.specs.Calls.{answer_kind}
use Rattle.pungi_types.specs.Operators.{is_object, is_void}
use Rattle.pungi_resolved.specs.declared.output_step.OutputStep.{OutputStep}
use Rattle.pungi_resolved.specs.declared.output_step.OutputStep.TheVariants.{Ends, Writes}
use Rattle.pungi_resolved.specs.Values as expr
use Rattle.pungi_resolved.specs.Actions as stmt
use Rattle.pungi_meaning.specs.Values.{cmp_of, slot_kind}
use Rattle.pungi_code.specs.WellFormed.{CallKinds, var_kind, is_constant, is_order}
use Rattle.pungi_layout.specs.code.CallKinds.{call_params, returned_kind}
use Rattle.pungi_layout.specs.code.ExprCode.{to_var}
use Rattle.pungi_layout.specs.code.Parts.{has_call_value}
use Rattle.pungi_layout.specs.code.Temporaries.{value_column, call_column}

pub record Known : Type 0 where
  pub items : List Item
  pub statics : ℕ
  pub callees : ℕ → CallKinds
  pub result : Option ValueKind

abbrev pub is_counted : ValueKind → Bool
is_counted kinds.Int = true
is_counted kinds.Long = true
is_counted kinds.Size = true
is_counted k = false

abbrev pub is_kept : ValueKind → Bool
is_kept kinds.Null = false
is_kept kinds.Void = false
is_kept k = true

abbrev pub is_given : Option ValueKind → Bool
is_given None = false
is_given (Some k) = is_kept k || is_void (Some k)

abbrev pub is_null : expr.Value → Bool
is_null (expr.null_of p) = true
is_null (expr.inner p v) = is_null v
is_null (expr.cast_of p v) = is_null v
is_null (expr.dropped p v) = is_null v
is_null (expr.chosen p c a b) = is_null a && is_null b
is_null v = false

abbrev pub IsNumber : expr.Value → Type 0
IsNumber v = value_column v ≤ 2

abbrev pub IsText : expr.Value → Type 0
IsText v = (value_column v ≡ 3) ⊎ (is_null v ≡ true)

abbrev pub IsObject : expr.Value → Type 0
IsObject v = value_column v ≡ 4

-- an `int` stands in a wider variable, too
abbrev pub Goes : Param → ℕ → Bool → Type 0
Goes param.Int c n = c ≡ 0
Goes param.Long c n = c ≤ 2
Goes param.Size c n = c ≤ 2
Goes param.TextOrNull c n = (c ≡ 3) ⊎ (n ≡ true)
Goes param.ObjectOrNull c n = c ≡ 4
Goes k c n = ⊥

abbrev pub GoesIn : Param → expr.Value → Type 0
GoesIn k v = Goes k (value_column v) (is_null v)

pub data Alike (a b : expr.Value) : Type 0 where
  are_numbers : IsNumber a → IsNumber b → Alike a b
  are_objects : IsObject a → IsObject b → Alike a b
  are_texts : IsText a → IsText b → Alike a b

abbrev pub AreComparable : Bool → expr.Value → expr.Value → Type 0
AreComparable true a b = IsNumber a × IsNumber b
AreComparable false a b = Alike a b

abbrev pub IsHeld : List Param → ℕ → Param → Type 0
IsHeld vars x k = (x < length vars) × (var_kind vars (to_var x) ≡ k)

abbrev pub IsArgument : Param → expr.Value → Type 0
IsArgument param.Int v = value_column v ≡ 0
IsArgument param.Long v = value_column v ≤ 2
IsArgument param.Size v = value_column v ≤ 2
IsArgument param.Text v = IsText v
IsArgument param.TextOrNull v = IsText v
IsArgument param.ModuleDef v = value_column v ≡ 3
IsArgument k v = IsObject v

-- what a call ends with, and the locals that it writes
abbrev pub AreWritable : List Param → List OutputStep → Type 0
AreWritable vars [] = Unit {0}
AreWritable vars (Ends n gives ∷ steps) = (is_constant n ≡ true) × AreWritable vars steps
AreWritable vars (Writes x a ∷ steps) =
    IsHeld vars x (slot_kind (answer_kind a)) × (fits_int a ≡ true) × AreWritable vars steps

abbrev mutual
  pub IsTyped : Known → List Param → expr.Value → Type 0
  IsTyped file vars (expr.constant p n) = is_constant n ≡ true
  IsTyped file vars (expr.static_of p n) = n < file.statics
  IsTyped file vars (expr.read p kind place) = IsPlaceTyped file vars kind place
  IsTyped file vars (expr.inner p v) = IsTyped file vars v
  IsTyped file vars (expr.signed p m kind v) = (is_counted kind ≡ true) × GoesIn (slot_kind kind) v
      × IsTyped file vars v
  IsTyped file vars (expr.negated p v) = IsTyped file vars v
  IsTyped file vars (expr.stepped p is_postfix m kind place) = (is_counted kind ≡ true)
      × IsPlaceTyped file vars kind place
  IsTyped file vars (expr.emptied p kind place) = (is_object (Some kind) ≡ true) × IsPlaceTyped file vars kind place
  IsTyped file vars (expr.computed p m kind a b) = (is_counted kind ≡ true) × IsNumber a × IsTyped file vars a
      × IsNumber b × IsTyped file vars b
  IsTyped file vars (expr.compared p m a b) = AreComparable (is_order (cmp_of m)) a b × IsTyped file vars a
      × IsTyped file vars b
  IsTyped file vars (expr.joined_by p m a b) = IsTyped file vars a × IsTyped file vars b
  IsTyped file vars (expr.stored p kind place v) = IsPlaceTyped file vars kind place × GoesIn (slot_kind kind) v
      × IsTyped file vars v
  IsTyped file vars (expr.updated p m counted kind place v) =
      (is_counted counted ≡ true) × (is_counted kind ≡ true) × IsPlaceTyped file vars kind place × IsNumber v
      × IsTyped file vars v
  IsTyped file vars (expr.chosen p c a b) = IsTyped file vars c × Alike a b × IsTyped file vars a × IsTyped file vars b
  IsTyped file vars (expr.converted p kind v) = (is_counted kind ≡ true) × IsNumber v × IsTyped file vars v
  IsTyped file vars (expr.cast_of p v) = IsTyped file vars v
  IsTyped file vars (expr.dropped p v) = IsTyped file vars v
  IsTyped file vars (expr.called p f vs) =
      (file.callees f.number ≡ Some (call_params f, returned_kind f.result)) × (is_given f.result ≡ true)
      × AreTyped file vars (call_params f) vs
  IsTyped file vars (expr.called_row p n g vs) = (is_signature g ≡ true) × AreTyped file vars g.params vs
  IsTyped file vars (expr.called_unless_null p n g vs) = (is_signature g ≡ true)
      × (is_signature (null_signature g) ≡ true) × (g.answer ≡ Of answer.New) × AreTyped file vars g.params vs
  IsTyped file vars (expr.called_with_outputs p n g vs steps) = (is_signature g ≡ true) × (call_column g.answer ≡ 0)
      × (has_call_value g.answer ≡ true) × AreTyped file vars g.params vs × AreWritable vars steps
  IsTyped file vars v = Unit {0}

  -- a global has the kind of its first declaration, and a field that of the first of its name in the struct
  pub IsPlaceTyped : Known → List Param → ValueKind → expr.Place → Type 0
  IsPlaceTyped file vars kind (expr.local_place p x) = (is_kept kind ≡ true) × IsHeld vars x (slot_kind kind)
  IsPlaceTyped file vars kind (expr.global_place p n) = (is_kept kind ≡ true) × (global_kind file.items n.0 ≡ Some kind)
  IsPlaceTyped file vars kind (expr.field_place p base tag field) =
      (is_kept kind ≡ true) × (field_in_some file.items (struct_fields file.items tag.0) field.0 ≡ Some kind)
      × IsObject base × IsTyped file vars base
  IsPlaceTyped file vars kind expr.no_place = ⊥

  pub AreTyped : Known → List Param → List Param → expr.Values → Type 0
  AreTyped file vars [] expr.no_values = Unit {0}
  AreTyped file vars (p ∷ ps) (expr.value_and v vs) = IsArgument p v × IsTyped file vars v × AreTyped file vars ps vs
  AreTyped file vars ps vs = ⊥

-- ---- statements

abbrev pub IsOptionTyped : Known → List Param → Option expr.Value → Type 0
IsOptionTyped file vars None = Unit {0}
IsOptionTyped file vars (Some v) = IsTyped file vars v

-- the first value of a local of this kind
abbrev pub IsInitial : Known → List Param → ValueKind → Option expr.Value → Type 0
IsInitial file vars kind None = Unit {0}
IsInitial file vars kind (Some v) = GoesIn (slot_kind kind) v × IsTyped file vars v

abbrev pub IsDeclaredTyped : Known → List Param → ℕ → Option ValueKind → Option expr.Value → Type 0
IsDeclaredTyped file vars x None v = ⊥
IsDeclaredTyped file vars x (Some kind) v =
    (is_kept kind ≡ true) × IsHeld vars x (slot_kind kind) × IsInitial file vars kind v

abbrev pub AreDeclaredTyped : Known → List Param → List stmt.DeclaredLocal → Type 0
AreDeclaredTyped file vars [] = Unit {0}
AreDeclaredTyped file vars (r ∷ rs) = IsDeclaredTyped file vars r.number r.kind r.value × AreDeclaredTyped file vars rs

-- what a function returns whose result is of this kind
abbrev pub IsReturned : Known → List Param → Option ValueKind → Option expr.Value → Type 0
IsReturned file vars k None = is_void k ≡ true
IsReturned file vars None (Some v) = ⊥
IsReturned file vars (Some k) (Some v) = (is_kept k ≡ true) × IsInitial file vars k (Some v)

abbrev mutual
  pub IsStmtTyped : Known → List Param → stmt.Action → Type 0
  IsStmtTyped file vars (stmt.block p ss q) = AreStmtsTyped file vars ss
  IsStmtTyped file vars (stmt.declare p rs) = AreDeclaredTyped file vars rs
  IsStmtTyped file vars (stmt.do_expr p v) = IsOptionTyped file vars v
  IsStmtTyped file vars (stmt.if_only p c a) = IsTyped file vars c × IsStmtTyped file vars a
  IsStmtTyped file vars (stmt.if_else p c a b) = IsTyped file vars c × IsStmtTyped file vars a × IsStmtTyped file vars b
  IsStmtTyped file vars (stmt.while p c a) = IsTyped file vars c × IsStmtTyped file vars a
  IsStmtTyped file vars (stmt.do_while p a c) = IsTyped file vars c × IsStmtTyped file vars a
  IsStmtTyped file vars (stmt.for p rs u c w a) =
      AreDeclaredTyped file vars rs × IsOptionTyped file vars u × IsOptionTyped file vars c
      × IsOptionTyped file vars w × IsStmtTyped file vars a
  IsStmtTyped file vars (stmt.switch p v a) = IsNumber v × IsTyped file vars v × IsStmtTyped file vars a
  IsStmtTyped file vars (stmt.case p n a) = (is_constant n ≡ true) × IsStmtTyped file vars a
  IsStmtTyped file vars (stmt.default p a) = IsStmtTyped file vars a
  IsStmtTyped file vars (stmt.label p l a) = IsStmtTyped file vars a
  IsStmtTyped file vars (stmt.return p k v) = (k ≡ file.result) × IsReturned file vars k v
  IsStmtTyped file vars a = Unit {0}

  pub AreStmtsTyped : Known → List Param → stmt.Actions → Type 0
  AreStmtsTyped file vars stmt.no_actions = Unit {0}
  AreStmtsTyped file vars (stmt.action_and a ss) = IsStmtTyped file vars a × AreStmtsTyped file vars ss
