-- Codes whose instructions name what is there, and of the kind that they need.
--   is_var vars x, var_kind vars x  a variable is there; what it holds
--   is_integer, is_object, is_text k    kinds of numbers, objects and texts
--   is_wide a b                     each value of the first kind is one of the second
--   number_fits k n                 a number is one of this kind
--   is_constant n                   it is at most 2^63 - 1 in absolute value, as the constants of C are (C11 6.4.4.1)
--   atom_is vars k a                an atom is a value of this kind
--   is_number, is_condition vars a  an atom is a number; it is a number or a pointer
--   are_alike vars a b              two atoms may be compared for being equal
--   is_order c                      a comparison that only numbers have
--   counts_in k x                   a variable of a parameter's kind counts in a kind of integers
--   is_slot_kind k, place_kind place    a slot may be of this kind; the kind of a place
--   is_place vars place k           a place is a slot of this kind, of an object
--   is_argument vars p a, are_arguments    an atom may be passed for a parameter
--   answer_param a, returned_param a    what a call returns, by its row's answer; by its own
--   is_answer vars g x              the variable that an answer goes to, where there is one, may hold it
--   is_label code l                 a label is a place of the code
--   CallKinds                       the kinds of the parameters of a code, and that of its result, if any
--   fits_result vars k x            the variable that a result goes to, where there is one, may hold it
--   fits_call vars k x as           so it is with a code of these kinds and the arguments of a call
--   is_sound_among callees code i     an instruction names variables, labels and kinds that are there, in a file whose
--                                   functions have codes of these kinds
--   is_sound code i                 so does one of a code that calls none
--   atoms_in place, atom_in a, atoms_of i    the atoms of a place, of what may be missing, of an instruction
--   is_there n a                    a static object is one of the first so many; any other atom is there
--   has_statics n code              each static object that a code names is one of the first so many
--   leads_on i                      the instruction after this one may come next
--   targets i                       the labels that an instruction names
--   is_head heads l                 a label is a loop's head
--   goes_back heads place i         each label that leads back is a loop's head
--   are_ordered heads               the labels of the heads rise, so that each is there once
--   IsWellFormedAmong callees code    so are all instructions of a code, and the sizes are within the limits
--   IsWellFormed code               so is a code that calls none
--   is_returned vars k a, returns_well code i   a return has a value of the kind of the code's result, or none
--   kinds_of codes n                the kinds of the code of a function, by its number
--   place_of i                      what an instruction reads or writes beside variables
--   is_same_slot p q                a global of one name; a field of one name of structs of one tag
--   HaveOneKind p q, AgreeOnKinds a b    such have one kind, where both are there; all those of two codes
--   AreWellFormed codes             so are all codes of a file, their heads are ordered, and each slot has one kind in all
--                                   of them
--   IsAlone codes f                 so is a function of a file that calls none of it
use Rattle.std.specs.Prelude.{◌≡◌, ℕ, ◌+◌, ◌<◌, ◌≤◌, ◌^◌, ◌-◌, ◌==◌, nat_lt, nat_le, ℤ, pos, negsuc, Bool, true}
use Rattle.std.specs.Prelude.{false, ◌&&◌, ◌||◌, not, List, [], ◌∷◌, length, take, get_or, slice_get, Option, Some}
use Rattle.std.specs.Prelude.{None, is_none, option_map, if◌then◌else◌}
use Rattle.std.specs.List.{list_any, list_all}
use Rattle.pungi_api.specs.declared.param.Param.{Param}
use Rattle.pungi_api.specs.declared.param.Param.TheVariants as param
use Rattle.pungi_api.specs.declared.answer.Answer.{Answer}
use Rattle.pungi_api.specs.declared.answer.Answer.TheVariants as answer
use Rattle.pungi_api.specs.declared.call_answer.CallAnswer.{CallAnswer}
use Rattle.pungi_api.specs.declared.call_answer.CallAnswer.TheVariants.{Of, Argument}
use Rattle.pungi_api.specs.declared.signature.Signature.{Signature}
use Rattle.pungi_api.specs.Signatures.{is_signature}
use Rattle.pungi_types.specs.Limits.{most_functions, most_locals, most_statics}
use Rattle.pungi_types.specs.declared.kind.ValueKind.{ValueKind}
use Rattle.pungi_types.specs.declared.kind.ValueKind.TheVariants as kinds
use Rattle.pungi_meaning.specs.declared.cmp.Cmp.{Cmp}
use Rattle.pungi_meaning.specs.declared.cmp.Cmp.TheVariants as cmps
use Rattle.pungi_world.specs.Choices.{is_between}
use Rattle.pungi_meaning.specs.Values.{fits}
use Rattle.pungi_code.specs.declared.atom.Atom.{Atom}
use Rattle.pungi_code.specs.declared.atom.Atom.TheVariants as atom
use Rattle.pungi_code.specs.declared.atom.Var.{Var}
use Rattle.pungi_code.specs.declared.code.Code.{Code}
use Rattle.pungi_code.specs.declared.code.Codes.{Codes}
use Rattle.pungi_code.specs.declared.code.Head.{Head}
use Rattle.pungi_code.specs.declared.code.Line.{Line}
use Rattle.pungi_code.specs.declared.instr.Instr.{Instr}
use Rattle.pungi_code.specs.declared.instr.Instr.TheVariants.{Set, Arith, Fit, Compare, Load, Store, Api, Call, Unset}
use Rattle.pungi_code.specs.declared.instr.Instr.TheVariants.{Jump, Branch, Return, Fall}
use Rattle.pungi_code.specs.declared.instr.Label.{Label}
use Rattle.pungi_code.specs.Frames.{code_numbered}
use Rattle.pungi_code.specs.Limits.{most_arguments, most_instructions, most_variables}
use Rattle.pungi_code.specs.declared.place.Place.{Place}
use Rattle.pungi_code.specs.declared.place.Place.TheVariants.{Global, Field}

-- ---- kinds

abbrev pub var_kind : List Param → Var → Param
var_kind vars x = get_or vars x.0 param.ModuleDef

abbrev pub is_integer : Param → Bool
is_integer param.Int = true
is_integer param.Long = true
is_integer param.Size = true
is_integer k = false

abbrev pub is_object : Param → Bool
is_object param.ObjectOrNull = true
is_object k = false

abbrev pub is_text : Param → Bool
is_text param.TextOrNull = true
is_text k = false

abbrev pub is_wide : Param → Param → Bool
is_wide param.Int b = is_integer b
is_wide a param.Int = false
is_wide a b = (is_integer a && is_integer b) || ((is_object a && is_object b) || (is_text a && is_text b))

abbrev pub number_fits : Param → ℤ → Bool
number_fits param.Int n = fits kinds.Int n
number_fits param.Long n = fits kinds.Long n
number_fits param.Size n = fits kinds.Size n
number_fits k n = false

abbrev pub is_constant : ℤ → Bool
is_constant n = is_between (negsuc (2 ^ 63 - 2)) (pos (2 ^ 63 - 1)) n

abbrev pub atom_is : List Param → Param → Atom → Bool
atom_is vars k (atom.Var x) = nat_lt x.0 (length vars) && is_wide (var_kind vars x) k
atom_is vars k (atom.Int n) = number_fits k n && is_constant n
atom_is vars k atom.Null = is_object k || is_text k
atom_is vars k atom.Text = is_text k
atom_is vars k (atom.Static n) = is_object k

abbrev pub is_number : List Param → Atom → Bool
is_number vars a = atom_is vars param.Long a

abbrev pub is_condition : List Param → Atom → Bool
is_condition vars a = is_number vars a || (atom_is vars param.ObjectOrNull a || atom_is vars param.TextOrNull a)

abbrev pub are_alike : List Param → Atom → Atom → Bool
are_alike vars a b =
    (is_number vars a && is_number vars b) || ((atom_is vars param.ObjectOrNull a
    && atom_is vars param.ObjectOrNull b) || (atom_is vars param.TextOrNull a && atom_is vars param.TextOrNull b))

abbrev pub is_order : Cmp → Bool
is_order cmps.Equal = false
is_order cmps.NotEqual = false
is_order c = true

abbrev pub counts_in : ValueKind → Param → Bool
counts_in kinds.Int param.Int = true
counts_in kinds.Int param.Long = true
counts_in kinds.Int param.Size = true
counts_in kinds.Long k = is_integer k && not (is_wide k param.Int)
counts_in kinds.Size k = is_integer k && not (is_wide k param.Int)
counts_in v k = false

-- ---- instructions

abbrev pub is_var : List Param → Var → Bool
is_var vars x = nat_lt x.0 (length vars)

abbrev pub is_slot_kind : Param → Bool
is_slot_kind k = is_integer k || (is_object k || is_text k)

abbrev pub is_place : List Param → Place → Param → Bool
is_place vars (Global n k) kind = is_slot_kind k && (is_wide k kind && is_wide kind k)
is_place vars (Field base tag field k) kind =
    atom_is vars param.ObjectOrNull base && (is_slot_kind k && (is_wide k kind && is_wide kind k))

abbrev pub place_kind : Place → Param
place_kind (Global n k) = k
place_kind (Field base tag field k) = k

abbrev pub is_argument : List Param → Param → Atom → Bool
is_argument vars param.Object a = atom_is vars param.ObjectOrNull a
is_argument vars param.Text a = atom_is vars param.TextOrNull a
is_argument vars param.ModuleDef a = atom_is vars param.TextOrNull a
is_argument vars k a = atom_is vars k a

abbrev pub are_arguments : List Param → List Param → List Atom → Bool
are_arguments vars [] [] = true
are_arguments vars [] (a ∷ as') = false
are_arguments vars (p ∷ ps) [] = false
are_arguments vars (p ∷ ps) (a ∷ as') = is_argument vars p a && are_arguments vars ps as'

abbrev pub answer_param : Answer → Param
answer_param answer.Status = param.Int
answer_param answer.Truth = param.Int
answer_param answer.Int = param.Int
answer_param answer.Long = param.Long
answer_param answer.Size = param.Size
answer_param answer.Text = param.TextOrNull
answer_param answer.Found = param.Int
answer_param (answer.Converted failures least most) = param.Int
answer_param answer.AnySize = param.Size
answer_param answer.Flag = param.Int
answer_param answer.TextSure = param.TextOrNull
answer_param a = param.ObjectOrNull

abbrev pub returned_param : CallAnswer → Param
returned_param (Of a) = answer_param a
returned_param Argument = param.ObjectOrNull

abbrev pub is_answer : List Param → Signature → Option Var → Bool
is_answer vars g None = true
is_answer vars g (Some x) = is_var vars x && is_wide (returned_param g.answer) (var_kind vars x)

abbrev pub is_label : Code → Label → Bool
is_label code l = nat_lt l.0 (length code.instrs)

abbrev pub CallKinds : Type 0
CallKinds = Option (List Param × Option Param)

abbrev pub fits_result : List Param → Option Param → Option Var → Bool
fits_result vars k None = true
fits_result vars None (Some x) = false
fits_result vars (Some k) (Some x) = is_var vars x && is_wide k (var_kind vars x)

abbrev pub fits_call : List Param → CallKinds → Option Var → List Atom → Bool
fits_call vars None x as' = false
fits_call vars (Some k) x as' = fits_result vars k.1 x && (are_arguments vars k.0 as'
    && nat_le (length as') most_arguments)

-- callees are the kinds of the codes of a file, by the numbers of their functions
abbrev pub is_sound_among : (ℕ → CallKinds) → Code → Instr → Bool
is_sound_among callees code (Set x a) = is_var code.vars x && atom_is code.vars (var_kind code.vars x) a
is_sound_among callees code (Arith x kind o a b) =
    is_var code.vars x && (counts_in kind (var_kind code.vars x)
    && (is_number code.vars a && is_number code.vars b))
is_sound_among callees code (Fit x kind a) =
    is_var code.vars x && (counts_in kind (var_kind code.vars x) && is_number code.vars a)
is_sound_among callees code (Compare x c a b) =
    is_var code.vars x && (is_integer (var_kind code.vars x)
    && (if is_order c then is_number code.vars a && is_number code.vars b else are_alike code.vars a b))
is_sound_among callees code (Load x place) =
    is_var code.vars x && (is_place code.vars place (place_kind place)
    && is_wide (place_kind place) (var_kind code.vars x))
is_sound_among callees code (Store place a) =
    is_place code.vars place (place_kind place) && atom_is code.vars (place_kind place) a
is_sound_among callees code (Api x g as') =
    is_answer code.vars g x && (are_arguments code.vars g.params as'
    && (nat_le (length as') most_arguments && is_signature g))
is_sound_among callees code (Call x f as') = fits_call code.vars (callees f) x as'
is_sound_among callees code (Unset x) = is_var code.vars x
is_sound_among callees code (Jump to) = is_label code to
is_sound_among callees code (Branch a this other) =
    is_condition code.vars a && (is_label code this && is_label code other)
is_sound_among callees code (Return None) = true
is_sound_among callees code (Return (Some a)) = is_condition code.vars a
is_sound_among callees code Fall = true

abbrev pub is_sound : Code → Instr → Bool
is_sound code i = is_sound_among (λ n. None) code i

abbrev pub atoms_in : Place → List Atom
atoms_in (Global n kind) = []
atoms_in (Field base tag field kind) = base ∷ []

abbrev pub atom_in : Option Atom → List Atom
atom_in None = []
atom_in (Some a) = a ∷ []

abbrev pub atoms_of : Instr → List Atom
atoms_of (Set x a) = a ∷ []
atoms_of (Arith x kind o a b) = a ∷ b ∷ []
atoms_of (Fit x kind a) = a ∷ []
atoms_of (Compare x c a b) = a ∷ b ∷ []
atoms_of (Load x place) = atoms_in place
atoms_of (Store place a) = a ∷ atoms_in place
atoms_of (Api x g as') = as'
atoms_of (Call x f as') = as'
atoms_of (Unset x) = []
atoms_of (Jump to) = []
atoms_of (Branch a this other) = a ∷ []
atoms_of (Return a) = atom_in a
atoms_of Fall = []

abbrev pub is_there : ℕ → Atom → Bool
is_there n (atom.Static k) = nat_lt k n
is_there n (atom.Var x) = true
is_there n (atom.Int i) = true
is_there n atom.Null = true
is_there n atom.Text = true

abbrev pub has_statics : ℕ → Code → Bool
has_statics n code = list_all (λ (line : Line). list_all (is_there n) (atoms_of line.instr)) code.instrs

abbrev pub leads_on : Instr → Bool
leads_on (Jump to) = false
leads_on (Branch a this other) = false
leads_on (Return a) = false
leads_on Fall = false
leads_on i = true

abbrev pub targets : Instr → List Label
targets (Jump to) = to ∷ []
targets (Branch a this other) = this ∷ other ∷ []
targets i = []

abbrev pub is_head : List Head → Label → Bool
is_head heads l = list_any (λ h. nat_le h.label.0 l.0 && nat_le l.0 h.label.0) heads

abbrev pub goes_back : List Head → ℕ → Instr → Bool
goes_back heads place i = list_all (λ l. nat_lt place l.0 || is_head heads l) (targets i)

abbrev pub are_ordered : List Head → Bool
are_ordered [] = true
are_ordered (h ∷ heads) = list_all (λ k. nat_lt h.label.0 k.label.0) heads && are_ordered heads

-- ---- codes

pub record IsWellFormedAmong (callees : ℕ → CallKinds) (code : Code) : Type 0 where
  pub params : code.params ≤ most_locals
  pub among : code.params ≤ code.locals
  pub locals : code.locals ≤ length code.vars
  pub vars : length code.vars ≤ most_variables
  pub few : length code.instrs ≤ most_instructions
  pub kinds : list_all is_slot_kind code.vars ≡ true
  pub sound : (place : ℕ) (line : Line) → slice_get code.instrs place ≡ Some line
      → is_sound_among callees code line.instr ≡ true
  pub last : (place : ℕ) (line : Line) → slice_get code.instrs place ≡ Some line → leads_on line.instr ≡ true
      → place + 1 < length code.instrs
  pub back : (place : ℕ) (line : Line) → slice_get code.instrs place ≡ Some line
      → goes_back code.heads place line.instr ≡ true

abbrev pub IsWellFormed : Code → Type 0
IsWellFormed code = IsWellFormedAmong (λ n. None) code

abbrev pub is_returned : List Param → Option Param → Option Atom → Bool
is_returned vars k None = is_none k
is_returned vars None (Some a) = false
is_returned vars (Some k) (Some a) = atom_is vars k a

abbrev pub returns_well : Code → Instr → Bool
returns_well code (Return a) = is_returned code.vars code.result a
returns_well code i = true

-- ---- all codes of a file

abbrev pub place_of : Instr → Option Place
place_of (Load x place) = Some place
place_of (Store place a) = Some place
place_of i = None

abbrev pub is_same_slot : Place → Place → Bool
is_same_slot (Global n k) (Global m l) = n.0 == m.0
is_same_slot (Field base tag field k) (Field other struct name l) = tag.0 == struct.0 && field.0 == name.0
is_same_slot p q = false

abbrev pub HaveOneKind : Option Place → Option Place → Type 0
HaveOneKind (Some p) (Some q) = is_same_slot p q ≡ true → place_kind p ≡ place_kind q
HaveOneKind p q = Unit {0}

abbrev pub AgreeOnKinds : Code → Code → Type 0
AgreeOnKinds a b =
    (i j : ℕ) (l m : Line) → slice_get a.instrs i ≡ Some l → slice_get b.instrs j ≡ Some m
    → HaveOneKind (place_of l.instr) (place_of m.instr)

abbrev pub kinds_of : Codes → ℕ → CallKinds
kinds_of codes n = option_map (λ c. (take c.params c.vars, c.result)) (code_numbered codes.codes n)

pub record AreWellFormed (codes : Codes) : Type 0 where
  pub each : (f : ℕ) (code : Code) → slice_get codes.codes f ≡ Some (Some code)
      → IsWellFormedAmong (kinds_of codes) code
  pub returns : (f : ℕ) (code : Code) (place : ℕ) (line : Line) → slice_get codes.codes f ≡ Some (Some code)
      → slice_get code.instrs place ≡ Some line → returns_well code line.instr ≡ true
  pub kinds : (f g : ℕ) (a b : Code) → slice_get codes.codes f ≡ Some (Some a)
      → slice_get codes.codes g ≡ Some (Some b) → AgreeOnKinds a b
  pub there : (f : ℕ) (code : Code) → slice_get codes.codes f ≡ Some (Some code)
      → has_statics codes.statics code ≡ true
  pub ordered : (f : ℕ) (code : Code) → slice_get codes.codes f ≡ Some (Some code) → are_ordered code.heads ≡ true
  pub names : length codes.names ≡ length codes.codes
  pub few : length codes.codes ≤ most_functions
  pub statics : codes.statics ≤ most_statics

pub record IsAlone (codes : Codes) (f : ℕ) : Type 0 where
  pub each : (code : Code) → slice_get codes.codes f ≡ Some (Some code) → IsWellFormed code
  pub kinds : (a b : Code) → slice_get codes.codes f ≡ Some (Some a) → slice_get codes.codes f ≡ Some (Some b)
      → AgreeOnKinds a b
  pub there : (code : Code) → slice_get codes.codes f ≡ Some (Some code) → has_statics codes.statics code ≡ true
  pub names : length codes.names ≡ length codes.codes
  pub few : length codes.codes ≤ most_functions
  pub statics : codes.statics ≤ most_statics
