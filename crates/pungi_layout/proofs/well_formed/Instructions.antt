-- What instructions need of their variables.
use Rattle.std.proofs.Common.{◌≡◌, ◌∙◌, ℕ, zero, suc, ◌<◌, ◌≤◌, ◌⊎◌, inl, inr, ℤ, pos, negsuc, arith, Bool, true, false}
use Rattle.std.proofs.Common.{List, [], ◌∷◌, ◌++◌, length, map, Some, refl, ap}
use Rattle.std.specs.Prelude.{◌&&◌, ◌||◌, nat_lt, nat_le, if◌then◌else◌}
use Rattle.std.specs.List.{list_all}
use Rattle.std.proofs.lemmas.Bool.Decides.{nat_tests}
use Rattle.pungi_api.specs.declared.param.Param.{Param}
use Rattle.pungi_api.specs.declared.param.Param.TheVariants as param
use Rattle.pungi_types.specs.declared.kind.ValueKind.{ValueKind}
use Rattle.pungi_types.specs.declared.kind.ValueKind.TheVariants as kinds
use Rattle.pungi_types.specs.Operators.{is_same_kind, is_object}
use Rattle.pungi_meaning.specs.declared.op.Op.{Op}
use Rattle.pungi_meaning.specs.declared.cmp.Cmp.{Cmp}
use Rattle.pungi_meaning.specs.Values.{fits, slot_kind}
use Rattle.pungi_code.specs.declared.atom.Atom.{Atom}
use Rattle.pungi_code.specs.declared.atom.Atom.TheVariants as atom
use Rattle.pungi_code.specs.declared.code.Code.{Code}
use Rattle.pungi_code.specs.declared.code.Line.{Line}
use Rattle.pungi_code.specs.declared.instr.Instr.{Instr}
use Rattle.pungi_code.specs.declared.instr.Instr.TheVariants.{Set, Arith, Fit, Compare, Load, Store, Jump, Branch}
use Rattle.pungi_base.specs.declared.names.Name.{Name}
use Rattle.pungi_code.specs.declared.place.Place.{Place}
use Rattle.pungi_code.specs.declared.place.Place.TheVariants.{Global, Field}
use Rattle.pungi_code.specs.WellFormed.{var_kind, is_integer, is_wide, is_constant, atom_is, is_number, is_condition}
use Rattle.pungi_code.specs.WellFormed.{are_alike, is_order, counts_in, is_slot_kind, is_place, place_kind, is_label}
use Rattle.pungi_code.specs.WellFormed.{is_sound_among, returns_well, atoms_of, is_there}
use Rattle.pungi_layout.proofs.well_formed.Both.{and_true}
use Rattle.pungi_layout.specs.code.ExprCode.{to_var, var, at_label, bit}
use Rattle.pungi_layout.specs.code.Temporaries.{column}
use Rattle.pungi_layout.specs.kinds.Typed.{Known, is_counted, Goes, IsHeld}

-- what the variables of a column hold
abbrev pub column_kind : ℕ → Param
column_kind zero = param.Int
column_kind (suc zero) = param.Long
column_kind (suc (suc zero)) = param.Size
column_kind (suc (suc (suc zero))) = param.TextOrNull
column_kind (suc (suc (suc (suc c)))) = param.ObjectOrNull

pub column_slot : (kind : ValueKind) → column_kind (column kind) ≡ slot_kind kind
column_slot kinds.Int = refl
column_slot kinds.Long = refl
column_slot kinds.Size = refl
column_slot kinds.Text = refl
column_slot (kinds.Object tag) = refl
column_slot kinds.Null = refl
column_slot kinds.Void = refl

pub column_low : (kind : ValueKind) → column kind ≤ 4
column_low kinds.Int = omega arith
column_low kinds.Long = omega arith
column_low kinds.Size = omega arith
column_low kinds.Text = omega arith
column_low (kinds.Object tag) = omega arith
column_low kinds.Null = omega arith
column_low kinds.Void = omega arith

pub or_true_left : (a b : Bool) → a ≡ true → (a || b) ≡ true
or_true_left true b e = refl
or_true_left false b e = absurd (cc)

pub or_true_right : (a b : Bool) → b ≡ true → (a || b) ≡ true
or_true_right true b e = refl
or_true_right false b e = e

pub lt_true : (m n : ℕ) → m < n → nat_lt m n ≡ true
lt_true m n h = grind (arith, nat_tests)

pub le_true : (m n : ℕ) → m ≤ n → nat_le m n ≡ true
le_true m n h = grind (arith, nat_tests)

-- .. kinds
pub slot_is : (kind : ValueKind) → is_slot_kind (slot_kind kind) ≡ true
slot_is kinds.Int = refl
slot_is kinds.Long = refl
slot_is kinds.Size = refl
slot_is kinds.Text = refl
slot_is (kinds.Object tag) = refl
slot_is kinds.Null = refl
slot_is kinds.Void = refl

pub slot_wide : (kind : ValueKind) → is_wide (slot_kind kind) (slot_kind kind) ≡ true
slot_wide kinds.Int = refl
slot_wide kinds.Long = refl
slot_wide kinds.Size = refl
slot_wide kinds.Text = refl
slot_wide (kinds.Object tag) = refl
slot_wide kinds.Null = refl
slot_wide kinds.Void = refl

pub counted_slot : (kind : ValueKind) → is_counted kind ≡ true → counts_in kind (slot_kind kind) ≡ true
counted_slot kinds.Int h = refl
counted_slot kinds.Long h = refl
counted_slot kinds.Size h = refl
counted_slot _ h = absurd (cc)

pub counted_integer : (kind : ValueKind) → is_counted kind ≡ true → is_integer (slot_kind kind) ≡ true
counted_integer kinds.Int h = refl
counted_integer kinds.Long h = refl
counted_integer kinds.Size h = refl
counted_integer _ h = absurd (cc)

pub counted_low : (kind : ValueKind) → is_counted kind ≡ true → column kind ≤ 2
counted_low kinds.Int h = omega arith
counted_low kinds.Long h = omega arith
counted_low kinds.Size h = omega arith
counted_low _ h = absurd (cc)

pub same_slot : (a b : ValueKind) → is_same_kind (Some a) (Some b) ≡ true → slot_kind a ≡ slot_kind b
same_slot kinds.Int kinds.Int h = refl
same_slot kinds.Long kinds.Long h = refl
same_slot kinds.Size kinds.Size h = refl
same_slot _ _ h = absurd (cc)

pub integer_wide : (k : Param) → is_integer k ≡ true → is_wide k param.Long ≡ true
integer_wide param.Int h = refl
integer_wide param.Long h = refl
integer_wide param.Size h = refl
integer_wide _ h = absurd (cc)

pub number_kind : (c : ℕ) → c ≤ 2 → is_integer (column_kind c) ≡ true
number_kind zero h = refl
number_kind (suc zero) h = refl
number_kind (suc (suc zero)) h = refl
number_kind (suc (suc (suc c))) h = absurd (omega (arith, h))

-- .. what a variable of a kind may hold
pub own_goes : (c : ℕ) (n : Bool) → c ≤ 4 → Goes (column_kind c) c n
own_goes zero n h = refl
own_goes (suc zero) n h = omega arith
own_goes (suc (suc zero)) n h = omega arith
own_goes (suc (suc (suc zero))) n h = inl refl
own_goes (suc (suc (suc (suc zero)))) n h = refl
own_goes (suc (suc (suc (suc (suc c))))) n h = absurd (omega (arith, h))

pub text_only : (c : ℕ) → (c ≡ 3) ⊎ (false ≡ true) → c ≡ 3
text_only c (inl e) = e
text_only c (inr e) = absurd (cc)

wide_int : (kind : ValueKind) → column kind ≡ 0 → is_wide (slot_kind kind) param.Int ≡ true
wide_int kinds.Int h = refl
wide_int _ h = absurd (omega (arith, h))

wide_long : (kind : ValueKind) → column kind ≤ 2 → is_wide (slot_kind kind) param.Long ≡ true
wide_long kinds.Int h = refl
wide_long kinds.Long h = refl
wide_long kinds.Size h = refl
wide_long _ h = absurd (omega (arith, h))

wide_size : (kind : ValueKind) → column kind ≤ 2 → is_wide (slot_kind kind) param.Size ≡ true
wide_size kinds.Int h = refl
wide_size kinds.Long h = refl
wide_size kinds.Size h = refl
wide_size _ h = absurd (omega (arith, h))

wide_text : (kind : ValueKind) → column kind ≡ 3 → is_wide (slot_kind kind) param.TextOrNull ≡ true
wide_text kinds.Text h = refl
wide_text _ h = absurd (omega (arith, h))

wide_object : (kind : ValueKind) → column kind ≡ 4 → is_wide (slot_kind kind) param.ObjectOrNull ≡ true
wide_object kinds.Int h = absurd (omega (arith, h))
wide_object kinds.Long h = absurd (omega (arith, h))
wide_object kinds.Size h = absurd (omega (arith, h))
wide_object kinds.Text h = absurd (omega (arith, h))
wide_object _ h = refl

pub wide_goes : (kind : ValueKind) (k : Param) → Goes k (column kind) false → is_wide (slot_kind kind) k ≡ true
wide_goes kind param.Int g = wide_int kind g
wide_goes kind param.Long g = wide_long kind g
wide_goes kind param.Size g = wide_size kind g
wide_goes kind param.TextOrNull g = wide_text kind (text_only (column kind) g)
wide_goes kind param.ObjectOrNull g = wide_object kind g
wide_goes kind _ g = absurd g

pub counts_goes : (kind : ValueKind) (k : Param) → is_counted kind ≡ true → Goes k (column kind) false
    → counts_in kind k ≡ true
counts_goes kinds.Int param.Int c g = refl
counts_goes kinds.Int param.Long c g = refl
counts_goes kinds.Int param.Size c g = refl
counts_goes kinds.Long param.Long c g = refl
counts_goes kinds.Long param.Size c g = refl
counts_goes kinds.Size param.Long c g = refl
counts_goes kinds.Size param.Size c g = refl
counts_goes kinds.Long param.Int c g = absurd (omega (arith, g))
counts_goes kinds.Size param.Int c g = absurd (omega (arith, g))
counts_goes kind param.TextOrNull c g =
    let t = text_only (column kind) g in
    let l = counted_low kind c in
    absurd (omega (arith, t, l))
counts_goes kind param.ObjectOrNull c g = let l = counted_low kind c in absurd (omega (arith, g, l))
counts_goes kind param.Object c g = absurd g
counts_goes kind param.Text c g = absurd g
counts_goes kind param.ModuleDef c g = absurd g
counts_goes kind _ c g = absurd (cc)

pub integer_goes : (k : Param) (c : ℕ) → c ≤ 2 → Goes k c false → is_integer k ≡ true
integer_goes param.Int c h g = refl
integer_goes param.Long c h g = refl
integer_goes param.Size c h g = refl
integer_goes param.TextOrNull c h (inl e) = absurd (omega (arith, h, e))
integer_goes param.TextOrNull c h (inr e) = absurd (cc)
integer_goes param.ObjectOrNull c h e = absurd (omega (arith, h, e))
integer_goes _ c h g = absurd g

pub bit_fits : (vars : List Param) (k : Param) (b : Bool) → is_integer k ≡ true → atom_is vars k (bit b) ≡ true
bit_fits vars param.Int true h = refl
bit_fits vars param.Int false h = refl
bit_fits vars param.Long true h = refl
bit_fits vars param.Long false h = refl
bit_fits vars param.Size true h = refl
bit_fits vars param.Size false h = refl
bit_fits vars _ b h = absurd (cc)

-- .. static objects that are there, and atoms that are none
pub static_there : (n i : ℕ) → i < n → list_all (is_there n) (atom.Static i ∷ []) ≡ true
static_there n i h = and_true _ _ (lt_true i n h) refl

pub bit_there : (n : ℕ) (b : Bool) → list_all (is_there n) (bit b ∷ []) ≡ true
bit_there n true = refl
bit_there n false = refl

pub vars_there : (n : ℕ) (xs : List ℕ) → list_all (is_there n) (map var xs) ≡ true
vars_there n [] = refl
vars_there n (x ∷ xs) = vars_there n xs

at_most_one : (b : Bool) → (if b then 0 else 1) ≤ 1
at_most_one true = omega arith
at_most_one false = omega arith

constant_long : (i : ℤ) → is_constant i ≡ true → fits kinds.Long i ≡ true
constant_long (pos n) h = h
constant_long (negsuc n) h = grind (arith, nat_tests)

pub constant_number : (vars : List Param) (i : ℤ) → is_constant i ≡ true → is_number vars (atom.Int i) ≡ true
constant_number vars i h = and_true _ _ (constant_long i h) h

pub constant_goes : (vars : List Param) (k : Param) (i : ℤ) → is_constant i ≡ true
    → Goes k (if fits kinds.Int i then 0 else 1) false → atom_is vars k (atom.Int i) ≡ true
constant_goes vars param.Int i f g =
    and_true _ _ (elim (fits kinds.Int i) as (λ b. (fits kinds.Int i ≡ b) → Goes param.Int (if b then 0 else 1) false
    → fits kinds.Int i ≡ true) [
      | true ↦ λ e h. e
      | false ↦ λ e h. absurd (omega (arith, h))
    ] refl g) f
constant_goes vars param.Long i f g = constant_number vars i f
constant_goes vars param.Size i f g = constant_number vars i f
constant_goes vars param.TextOrNull i f g =
    let t = text_only (if fits kinds.Int i then 0 else 1) g in
    let l = at_most_one (fits kinds.Int i) in
    absurd (omega (arith, t, l))
constant_goes vars param.ObjectOrNull i f g = let l = at_most_one (fits kinds.Int i) in absurd (omega (arith, g, l))
constant_goes vars _ i f g = absurd g

pub text_goes : (vars : List Param) (k : Param) → Goes k 3 false → atom_is vars k atom.Text ≡ true
text_goes vars param.Int g = absurd (omega (arith, g))
text_goes vars param.Long g = absurd (omega (arith, g))
text_goes vars param.Size g = absurd (omega (arith, g))
text_goes vars param.TextOrNull g = refl
text_goes vars param.ObjectOrNull g = absurd (omega (arith, g))
text_goes vars _ g = absurd g

pub null_goes : (vars : List Param) (k : Param) (b : Bool) → Goes k 4 b → atom_is vars k atom.Null ≡ true
null_goes vars param.Int b g = absurd (omega (arith, g))
null_goes vars param.Long b g = absurd (omega (arith, g))
null_goes vars param.Size b g = absurd (omega (arith, g))
null_goes vars param.TextOrNull b g = refl
null_goes vars param.ObjectOrNull b g = refl
null_goes vars _ b g = absurd g

-- .. where an object may stand
pub object_goes : (vars : List Param) (kind : ValueKind) (k : Param) → is_object (Some kind) ≡ true
    → Goes k (column kind) false → atom_is vars k atom.Null ≡ true
object_goes vars (kinds.Object tag) k h g = null_goes vars k false g
object_goes vars _ k h g = absurd (cc)

pub object_slot : (vars : List Param) (kind : ValueKind) → is_object (Some kind) ≡ true
    → atom_is vars (slot_kind kind) atom.Null ≡ true
object_slot vars (kinds.Object tag) h = refl
object_slot vars _ h = absurd (cc)

pub static_goes : (vars : List Param) (k : Param) (i : ℕ) → Goes k 4 false → atom_is vars k (atom.Static i) ≡ true
static_goes vars param.Int i g = absurd (omega (arith, g))
static_goes vars param.Long i g = absurd (omega (arith, g))
static_goes vars param.Size i g = absurd (omega (arith, g))
static_goes vars param.TextOrNull i g = let t = text_only 4 g in absurd (omega (arith, t))
static_goes vars param.ObjectOrNull i g = refl
static_goes vars _ i g = absurd g

-- a value of this kind goes where that of the column goes
pub slot_goes : (kind : ValueKind) (k : Param) (c : ℕ) (n : Bool) → is_counted kind ≡ true
    → Goes k (column kind) false → Goes (slot_kind kind) c n → c ≤ 2 → Goes k c n
slot_goes kinds.Int param.Int c n h g s l = s
slot_goes kinds.Long param.Int c n h g s l = absurd (omega (arith, g))
slot_goes kinds.Size param.Int c n h g s l = absurd (omega (arith, g))
slot_goes kind param.Long c n h g s l = l
slot_goes kind param.Size c n h g s l = l
slot_goes kind param.TextOrNull c n h g s l =
    let t = text_only (column kind) g in
    let m = counted_low kind h in
    absurd (omega (arith, t, m))
slot_goes kind param.ObjectOrNull c n h g s l = let m = counted_low kind h in absurd (omega (arith, g, m))
slot_goes kind param.Object c n h g s l = absurd g
slot_goes kind param.Text c n h g s l = absurd g
slot_goes kind param.ModuleDef c n h g s l = absurd g
slot_goes kind param.Int c n h g s l = absurd (cc)

-- .. variables, places and labels
module _ (code : Code) where
  pub var_fine : (x : ℕ) (k : Param) → IsHeld code.vars x k → (b : Param → Bool) → b k ≡ true
      → (nat_lt x (length code.vars) && b (var_kind code.vars (to_var x))) ≡ true
  var_fine x k h b e = and_true _ _ (lt_true x (length code.vars) h.0) (ap b h.1 ∙ e)

  pub var_atom : (x : ℕ) (k l : Param) → IsHeld code.vars x k → is_wide k l ≡ true → atom_is code.vars l (var x) ≡ true
  var_atom x k l h e = var_fine x k h (λ q. is_wide q l) e

  pub number_atom : (x : ℕ) (k : Param) → IsHeld code.vars x k → is_integer k ≡ true
      → is_number code.vars (var x) ≡ true
  number_atom x k h e = var_atom x k param.Long h (integer_wide k e)

  -- the operands of a comparison
  abbrev pub are_compared : Bool → Atom → Atom → Bool
  are_compared order a b = if order then is_number code.vars a && is_number code.vars b else are_alike code.vars a b

  pub global_fine : (n : Name) (kind : ValueKind)
      → is_place code.vars (Global n (slot_kind kind)) (slot_kind kind) ≡ true
  global_fine n kind = and_true _ _ (slot_is kind) (and_true _ _ (slot_wide kind) (slot_wide kind))

  pub field_fine : (b : ℕ) (tag field : Name) (kind : ValueKind) → IsHeld code.vars b param.ObjectOrNull
      → is_place code.vars (Field (var b) tag field (slot_kind kind)) (slot_kind kind) ≡ true
  field_fine b tag field kind h = and_true _ _ (var_atom b param.ObjectOrNull param.ObjectOrNull h refl)
      (and_true _ _ (slot_is kind) (and_true _ _ (slot_wide kind) (slot_wide kind)))

  pub label_fine : (l : ℕ) → l < length code.instrs → is_label code (at_label l) ≡ true
  label_fine l h = lt_true l (length code.instrs) h

  abbrev pub is_tested : Param → Bool
  is_tested k = is_wide k param.Long || (is_wide k param.ObjectOrNull || is_wide k param.TextOrNull)

  pub condition_fine : (x : ℕ) (k : Param) → IsHeld code.vars x k → is_tested k ≡ true
      → is_condition code.vars (var x) ≡ true
  condition_fine x k h e =
      ap (λ (i : Bool). (i && is_wide (var_kind code.vars (to_var x)) param.Long)
      || ((i && is_wide (var_kind code.vars (to_var x)) param.ObjectOrNull)
      || (i && is_wide (var_kind code.vars (to_var x)) param.TextOrNull))) (lt_true x (length code.vars) h.0)
      ∙ ap is_tested h.1 ∙ e

  pub tested_fine : (c : ℕ) → c ≤ 4 → is_tested (column_kind c) ≡ true
  tested_fine zero h = refl
  tested_fine (suc zero) h = refl
  tested_fine (suc (suc zero)) h = refl
  tested_fine (suc (suc (suc zero))) h = refl
  tested_fine (suc (suc (suc (suc c)))) h = refl

  -- .. comparisons
  pub numbers_compared : (order : Bool) (a b : Atom) → is_number code.vars a ≡ true → is_number code.vars b ≡ true
      → are_compared order a b ≡ true
  numbers_compared true a b f g = and_true _ _ f g
  numbers_compared false a b f g = or_true_left _ _ (and_true _ _ f g)

  pub objects_compared : (a b : Atom) → atom_is code.vars param.ObjectOrNull a ≡ true
      → atom_is code.vars param.ObjectOrNull b ≡ true → are_compared false a b ≡ true
  objects_compared a b f g = or_true_right (is_number code.vars a && is_number code.vars b) _
      (or_true_left _ _ (and_true _ _ f g))

  pub texts_compared : (a b : Atom) → atom_is code.vars param.TextOrNull a ≡ true
      → atom_is code.vars param.TextOrNull b ≡ true → are_compared false a b ≡ true
  texts_compared a b f g =
      or_true_right (is_number code.vars a && is_number code.vars b) _ (or_true_right
      (atom_is code.vars param.ObjectOrNull a && atom_is code.vars param.ObjectOrNull b) _ (and_true _ _ f g))

-- .. instructions
module _ (file : Known) (code : Code) where
  -- the static objects that it names are there
  abbrev pub AreThere : Instr → Type 0
  AreThere i = list_all (is_there file.statics) (atoms_of i) ≡ true

  -- it is sound, returns what the function returns, and names static objects that are there
  abbrev pub IsInstrFine : Instr → Type 0
  IsInstrFine i = (is_sound_among file.callees code i ≡ true) × (returns_well code i ≡ true) × AreThere i

  pub set_fine : (x : ℕ) (k : Param) (a : Atom) → IsHeld code.vars x k → atom_is code.vars k a ≡ true
      → AreThere (Set (to_var x) a) → IsInstrFine (Set (to_var x) a)
  set_fine x k a h e t = (var_fine code x k h (λ q. atom_is code.vars q a) e, refl, t)

  pub arith_fine : (x : ℕ) (k : Param) (kind : ValueKind) (o : Op) (a b : Atom) → IsHeld code.vars x k
      → counts_in kind k ≡ true → is_number code.vars a ≡ true → is_number code.vars b ≡ true
      → AreThere (Arith (to_var x) kind o a b) → IsInstrFine (Arith (to_var x) kind o a b)
  arith_fine x k kind o a b h c f g t = (
    var_fine code x k h (λ q. counts_in kind q
        && (is_number code.vars a && is_number code.vars b)) (and_true _ _ c (and_true _ _ f g)),
    refl,
    t,
  )

  pub fit_fine : (x : ℕ) (k : Param) (kind : ValueKind) (a : Atom) → IsHeld code.vars x k → counts_in kind k ≡ true
      → is_number code.vars a ≡ true → AreThere (Fit (to_var x) kind a) → IsInstrFine (Fit (to_var x) kind a)
  fit_fine x k kind a h c f t = (
    var_fine code x k h (λ q. counts_in kind q && is_number code.vars a) (and_true _ _ c f),
    refl,
    t,
  )

  pub compare_fine : (x : ℕ) (k : Param) (c : Cmp) (a b : Atom) → IsHeld code.vars x k → is_integer k ≡ true
      → are_compared code (is_order c) a b ≡ true → AreThere (Compare (to_var x) c a b)
      → IsInstrFine (Compare (to_var x) c a b)
  compare_fine x k c a b h i e t = (
    var_fine code x k h (λ q. is_integer q && are_compared code (is_order c) a b) (and_true _ _ i e),
    refl,
    t,
  )

  pub load_fine : (x : ℕ) (k : Param) (place : Place) → IsHeld code.vars x k
      → is_place code.vars place (place_kind place) ≡ true → is_wide (place_kind place) k ≡ true
      → AreThere (Load (to_var x) place) → IsInstrFine (Load (to_var x) place)
  load_fine x k place h p e t = (
    var_fine code x k h (λ q. is_place code.vars place (place_kind place)
        && is_wide (place_kind place) q) (and_true _ _ p e),
    refl,
    t,
  )

  pub store_fine : (place : Place) (a : Atom) → is_place code.vars place (place_kind place) ≡ true
      → atom_is code.vars (place_kind place) a ≡ true → AreThere (Store place a) → IsInstrFine (Store place a)
  store_fine place a p e t = (and_true _ _ p e, refl, t)

  pub jump_fine : (l : ℕ) → l < length code.instrs → IsInstrFine (Jump (at_label l))
  jump_fine l h = (label_fine code l h, refl, refl)

  pub branch_fine : (x : ℕ) (k : Param) (l m : ℕ) → IsHeld code.vars x k → is_tested code k ≡ true
      → l < length code.instrs → m < length code.instrs → IsInstrFine (Branch (var x) (at_label l) (at_label m))
  branch_fine x k l m h e f g = (
    and_true _ _ (condition_fine code x k h e) (and_true _ _ (label_fine code l f) (label_fine code m g)),
    refl,
    refl,
  )

  -- .. lists of instructions
  abbrev pub AreFine : List Line → Type 0
  AreFine [] = Unit {0}
  AreFine (l ∷ ls) = IsInstrFine l.instr × AreFine ls

  pub fine_append : (a b : List Line) → AreFine a → AreFine b → AreFine (a ++ b)
  fine_append [] b f g = g
  fine_append (l ∷ a) b f g = (f.0, fine_append a b f.1 g)
