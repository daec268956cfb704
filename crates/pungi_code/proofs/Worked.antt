-- What the definitions say of small codes, by computing: how each run ends, and what it does before. The codes are
-- written by hand for the functions beside them, and the expected ends come from a reading of those.
use Rattle.std.proofs.Common.{◌≡◌, refl, ℕ, List, [], ◌∷◌, ◌++◌, Option, Some, None, pos, negsuc, ℤ}
use Rattle.pungi_base.specs.declared.choice.Choice.{Choice}
use Rattle.pungi_base.specs.declared.choice.Choice.TheVariants as choice
use Rattle.pungi_base.specs.declared.names.Name.{Name}
use Rattle.pungi_base.specs.declared.pos.Pos.{Pos}
use Rattle.pungi_base.specs.declared.value.Value.{Value}
use Rattle.pungi_base.specs.declared.value.Value.TheVariants as value
use Rattle.pungi_api.specs.declared.answer.Answer.TheVariants as answer
use Rattle.pungi_api.specs.declared.param.Param.{Param}
use Rattle.pungi_api.specs.declared.param.Param.TheVariants as param
use Rattle.pungi_api.specs.declared.row.Form.TheVariants as form
use Rattle.pungi_api.specs.declared.row.Row.{Row}
use Rattle.pungi_api.specs.declared.special.Special.TheVariants as special
use Rattle.pungi_api.specs.declared.take.Take.TheVariants as take
use Rattle.pungi_api.specs.Signatures.{signature_of}
use Rattle.pungi_api.specs.Terms.{counting_all}
use Rattle.pungi_types.specs.declared.kind.ValueKind.TheVariants as kinds
use Rattle.pungi_world.specs.declared.slot.Slot.TheVariants as slot
use Rattle.pungi_world.specs.World.{account_of}
use Rattle.pungi_meaning.specs.declared.op.Op.TheVariants as ops
use Rattle.pungi_meaning.specs.declared.cmp.Cmp.TheVariants as cmps
use Rattle.pungi_meaning.specs.Todo.{Computed, Fitted, Compared, Loaded, Stored, Entered}
use Rattle.pungi_meaning.specs.Run.{Run, End, Returned, Stopped, NeedsChoice, OutOfFuel, nowhere}
use Rattle.pungi_code.specs.declared.atom.Atom.{Atom}
use Rattle.pungi_code.specs.declared.atom.Atom.TheVariants as atom
use Rattle.pungi_code.specs.declared.atom.Var.{Var}
use Rattle.pungi_code.specs.declared.code.Code.{Code}
use Rattle.pungi_code.specs.declared.code.Line.{Line}
use Rattle.pungi_code.specs.declared.instr.Instr.{Instr}
use Rattle.pungi_code.specs.declared.instr.Instr.TheVariants.{Set, Arith, Fit, Compare, Load, Store, Api, Call, Unset}
use Rattle.pungi_code.specs.declared.instr.Instr.TheVariants.{Jump, Branch, Return, Fall}
use Rattle.pungi_code.specs.declared.instr.Label.{Label}
use Rattle.pungi_code.specs.declared.place.Place.TheVariants.{Field}
use Rattle.pungi_code.specs.Run.{run_of_code}

abbrev at : ℕ → Pos
at c = record { line = 1; col = c }

abbrev name : ℕ → Name
name n = record { 0 = n }

abbrev v : ℕ → Var
v n = record { 0 = n }

abbrev var : ℕ → Atom
var n = atom.Var (v n)

abbrev number : ℕ → Atom
number n = atom.Int (pos n)

abbrev to : ℕ → Label
to n = record { 0 = n }

abbrev line : ℕ → Instr → Line
line c i = record { pos = at c; instr = i }

data Told : Type 0 where
  gives : Option Value → Pos → List Pos → Told
  stops : Pos → Told
  wants : Told
  goes_on : Told

abbrev told : End → Told
told (Returned w x p used) = gives x p used
told (Stopped p) = stops p
told NeedsChoice = wants
told OutOfFuel = goes_on

abbrev change_of : ℕ → End → ℤ
change_of object (Returned w x p used) = (account_of w object).change
change_of object e = pos 0

abbrev code_of : List Line → List Param → Option Param → Code
code_of lines vars result =
    record
    { instrs = lines; vars = vars; params = 1; locals = 1; result = result; heads = []; terms = counting_all }

-- a run with this argument, over 26 objects, of the last code of a file
abbrev run_among : List (Option Code) → Code → Value → List Choice → ℕ → Run
run_among codes code x choices fuel =
    run_of_code (codes ++ Some code ∷ []) (Some code) (record { objects = 26; args = x ∷ [] }) choices fuel

abbrev run_with : Code → Value → List Choice → ℕ → Run
run_with code x choices fuel = run_among [] code x choices fuel

-- ---- numbers

-- int f(int n) { return n + 1; }
abbrev next : Code
next =
    code_of (line 25 (Arith (v 1) kinds.Int ops.Add (var 0) (atom.Int (pos 1))) ∷ line 16 (Return (Some (var 1)))
    ∷ []) (param.Int ∷ param.Int ∷ []) (Some param.Int)

next_of_5 : told (run_with next (value.Int (pos 5)) [] 2).end ≡ gives (Some (value.Int (pos 6))) (at 16) []
next_of_5 = refl

next_does : (run_with next (value.Int (pos 5)) [] 2).ops
    ≡ Computed (at 25) ops.Add kinds.Int (value.Int (pos 5)) (value.Int (pos 1)) ∷ []
next_does = refl

next_past_the_range : told (run_with next (value.Int (pos 2147483647)) [] 2).end ≡ stops (at 25)
next_past_the_range = refl

next_without_fuel : told (run_with next (value.Int (pos 5)) [] 1).end ≡ goes_on
next_without_fuel = refl

-- int f(long n) { int i; i = n; return i < 3; }
abbrev narrow : Code
narrow =
    code_of (line 24 (Unset (v 1)) ∷ line 29 (Fit (v 2) kinds.Int (var 0)) ∷ line 29 (Set (v 1) (var 2))
    ∷ line 43 (Compare (v 3) cmps.Less (var 1) (atom.Int (pos 3))) ∷ line 34 (Return (Some (var 3))) ∷ [])
    (param.Long ∷ param.Int ∷ param.Int ∷ param.Int ∷ []) (Some param.Int)

narrow_does : (run_with narrow (value.Int (pos 2)) [] 9).ops
    ≡ Fitted (at 29) kinds.Int (value.Int (pos 2))
    ∷ Compared (at 43) cmps.Less (value.Int (pos 2)) (value.Int (pos 3)) ∷ []
narrow_does = refl

narrow_of_4 : told (run_with narrow (value.Int (pos 4)) [] 9).end ≡ gives (Some (value.Int (pos 0))) (at 34) []
narrow_of_4 = refl

narrow_past_the_range : told (run_with narrow (value.Int (pos 2147483648)) [] 9).end ≡ stops (at 29)
narrow_past_the_range = refl

-- int f(int n) { int s = 0; while (n) { s = s + n; n = n - 1; } return s; }
abbrev summing : Code
summing =
    code_of (line 24 (Set (v 1) (atom.Int (pos 0))) ∷ line 27 (Branch (var 0) (to 2) (to 5))
    ∷ line 45 (Arith (v 1) kinds.Int ops.Add (var 1) (var 0))
    ∷ line 56 (Arith (v 0) kinds.Int ops.Sub (var 0) (atom.Int (pos 1))) ∷ line 27 (Jump (to 1))
    ∷ line 63 (Return (Some (var 1))) ∷ []) (param.Int ∷ param.Int ∷ []) (Some param.Int)

sum_of_3 : told (run_with summing (value.Int (pos 3)) [] 100).end ≡ gives (Some (value.Int (pos 6))) (at 63) []
sum_of_3 = refl

sum_does : (run_with summing (value.Int (pos 1)) [] 100).ops
    ≡ Computed (at 45) ops.Add kinds.Int (value.Int (pos 0)) (value.Int (pos 1))
    ∷ Computed (at 56) ops.Sub kinds.Int (value.Int (pos 1)) (value.Int (pos 1)) ∷ []
sum_does = refl

sum_without_end : told (run_with summing (value.Int (negsuc 0)) [] 200).end ≡ goes_on
sum_without_end = refl

-- ---- ends

-- int f(int n) { int i; return i; }
abbrev unset : Code
unset =
    code_of (line 20 (Unset (v 1)) ∷ line 30 (Return (Some (var 1))) ∷ []) (param.Int ∷ param.Int ∷ []) (Some param.Int)

unset_stops : told (run_with unset (value.Int (pos 1)) [] 9).end ≡ stops (at 30)
unset_stops = refl

-- int f(int n) { if (n) return 1; }
abbrev falling : Code
falling =
    code_of (line 16 (Branch (var 0) (to 1) (to 2)) ∷ line 23 (Return (Some (atom.Int (pos 1)))) ∷ line 33 Fall
    ∷ []) (param.Int ∷ []) (Some param.Int)

falls : told (run_with falling (value.Int (pos 0)) [] 9).end ≡ stops (at 33)
falls = refl

returns_early : told (run_with falling (value.Int (pos 7)) [] 9).end ≡ gives (Some (value.Int (pos 1))) (at 23) []
returns_early = refl

nothing_stands_there : told (run_with (code_of [] (param.Int ∷ []) None) (value.Int (pos 7)) [] 9).end ≡ stops nowhere
nothing_stands_there = refl

no_code : told (run_of_code [] None (record { objects = 26; args = [] }) [] 9).end ≡ stops nowhere
no_code = refl

-- ---- calls

-- int twice(int n) { return n + n; }
abbrev twice : Code
twice =
    code_of (line 29 (Arith (v 1) kinds.Int ops.Add (var 0) (var 0)) ∷ line 20 (Return (Some (var 1))) ∷ [])
    (param.Int ∷ param.Int ∷ []) (Some param.Int)

-- int f(int n) { return twice(n) + 1; }
abbrev odd : Code
odd =
    code_of (line 23 (Call (Some (v 1)) 0 (var 0 ∷ [])) ∷ line 32 (Arith (v 2) kinds.Int ops.Add (var 1) (number 1))
    ∷ line 16 (Return (Some (var 2))) ∷ []) (param.Int ∷ param.Int ∷ param.Int ∷ []) (Some param.Int)

odd_of_5 : told (run_among (Some twice ∷ []) odd (value.Int (pos 5)) [] 5).end
    ≡ gives (Some (value.Int (pos 11))) (at 16) []
odd_of_5 = refl

odd_does : (run_among (Some twice ∷ []) odd (value.Int (pos 5)) [] 5).ops
    ≡ Entered (at 23) 0 (value.Int (pos 5) ∷ [])
    ∷ Computed (at 29) ops.Add kinds.Int (value.Int (pos 5)) (value.Int (pos 5))
    ∷ Computed (at 32) ops.Add kinds.Int (value.Int (pos 10)) (value.Int (pos 1)) ∷ []
odd_does = refl

odd_without_fuel : told (run_among (Some twice ∷ []) odd (value.Int (pos 5)) [] 4).end ≡ goes_on
odd_without_fuel = refl

odd_past_the_range : told (run_among (Some twice ∷ []) odd (value.Int (pos 2147483647)) [] 5).end ≡ stops (at 29)
odd_past_the_range = refl

calls_no_code : told (run_among (None ∷ []) odd (value.Int (pos 5)) [] 5).end ≡ stops (at 23)
calls_no_code = refl

-- void nothing(int n) { }
abbrev nothing : Code
nothing = code_of (line 23 (Return None) ∷ []) (param.Int ∷ []) None

wants_a_result : told (run_among (Some nothing ∷ []) odd (value.Int (pos 5)) [] 5).end ≡ stops (at 23)
wants_a_result = refl

-- int sum(int n) { if (n) return n + sum(n - 1); return 0; }
abbrev adding : Code
adding =
    code_of (line 18 (Branch (var 0) (to 1) (to 5))
    ∷ line 42 (Arith (v 1) kinds.Int ops.Sub (var 0) (atom.Int (pos 1))) ∷ line 36 (Call (Some (v 2)) 0 (var 1 ∷ []))
    ∷ line 34 (Arith (v 3) kinds.Int ops.Add (var 0) (var 2)) ∷ line 25 (Return (Some (var 3)))
    ∷ line 48 (Return (Some (atom.Int (pos 0)))) ∷ []) (param.Int ∷ param.Int ∷ param.Int ∷ param.Int ∷ [])
    (Some param.Int)

calls_itself : told (run_with adding (value.Int (pos 3)) [] 100).end ≡ gives (Some (value.Int (pos 6))) (at 25) []
calls_itself = refl

calls_itself_once : (run_with adding (value.Int (pos 1)) [] 100).ops
    ≡ Computed (at 42) ops.Sub kinds.Int (value.Int (pos 1)) (value.Int (pos 1))
    ∷ Entered (at 36) 0 (value.Int (pos 0) ∷ [])
    ∷ Computed (at 34) ops.Add kinds.Int (value.Int (pos 1)) (value.Int (pos 0)) ∷ []
calls_itself_once = refl

calls_itself_without_end : told (run_with adding (value.Int (negsuc 0)) [] 200).end ≡ goes_on
calls_itself_without_end = refl

-- ---- the world

abbrev from_long : Row
from_long = record { form = form.Plain; params = param.Long ∷ []; takes = take.Never ∷ []; answer = answer.New }

abbrev inc_ref : Row
inc_ref = record { form = form.Special special.IncRef; params = []; takes = []; answer = answer.Null }

-- PyObject *f(PyObject *x) { return PyLong_FromLong(1); }
abbrev making : Code
making =
    code_of (line 35 (Api (Some (v 1)) (signature_of from_long (param.Long ∷ [])) (atom.Int (pos 1) ∷ []))
    ∷ line 28 (Return (Some (var 1))) ∷ []) (param.ObjectOrNull ∷ param.ObjectOrNull ∷ []) (Some param.ObjectOrNull)

makes_none : told (run_with making value.Null (choice.Null ∷ []) 9).end ≡ gives (Some value.Null) (at 28) (at 35 ∷ [])
makes_none = refl

makes_one : told (run_with making value.Null (choice.Object 26 ∷ []) 9).end
    ≡ gives (Some (value.Object 26)) (at 28) (at 35 ∷ [])
makes_one = refl

makes_by_a_choice : told (run_with making value.Null [] 9).end ≡ wants
makes_by_a_choice = refl

-- void f(PyObject *x) { Py_INCREF(x); }
abbrev counting : Code
counting =
    code_of (line 23 (Api None (signature_of inc_ref (param.ObjectOrNull ∷ [])) (var 0 ∷ []))
    ∷ line 37 (Return None) ∷ []) (param.ObjectOrNull ∷ []) None

counts : told (run_with counting (value.Object 25) [] 9).end ≡ gives None (at 37) []
counts = refl

counts_one : change_of 25 (run_with counting (value.Object 25) [] 9).end ≡ pos 1
counts_one = refl

counts_no_null : told (run_with counting value.Null [] 9).end ≡ stops (at 23)
counts_no_null = refl

abbrev new_ref : Row
new_ref = record { form = form.Special special.NewRef; params = []; takes = []; answer = answer.Null }

-- PyObject *f(PyObject *x) { return Py_NewRef(x); }
abbrev sharing : Code
sharing =
    code_of (line 35 (Api (Some (v 1)) (signature_of new_ref (param.ObjectOrNull ∷ [])) (var 0 ∷ []))
    ∷ line 28 (Return (Some (var 1))) ∷ []) (param.ObjectOrNull ∷ param.ObjectOrNull ∷ []) (Some param.ObjectOrNull)

answers_its_argument : told (run_with sharing (value.Object 25) [] 9).end ≡ gives (Some (value.Object 25)) (at 28) []
answers_its_argument = refl

shares_one : change_of 25 (run_with sharing (value.Object 25) [] 9).end ≡ pos 1
shares_one = refl

shares_no_null : told (run_with sharing value.Null [] 9).end ≡ stops (at 35)
shares_no_null = refl

-- void f(Box *x) { x->first = x->second; }
abbrev moving : Code
moving =
    code_of (line 30 (Load (v 1) (Field (var 0) (name 400) (name 402) param.ObjectOrNull))
    ∷ line 19 (Store (Field (var 0) (name 400) (name 401) param.ObjectOrNull) (var 1)) ∷ line 40 (Return None) ∷ [])
    (param.ObjectOrNull ∷ param.ObjectOrNull ∷ []) None

moves_one : told (run_with moving (value.Object 24) (choice.Object 25 ∷ choice.Null ∷ []) 9).end
    ≡ gives None (at 40) (at 30 ∷ at 19 ∷ [])
moves_one = refl

moves_what_is_there : (run_with moving (value.Object 24) (choice.Object 25 ∷ choice.Null ∷ []) 9).ops
    ≡ Loaded (at 30) (slot.Field 24 (name 400) (name 402)) (Some (value.Object 25))
    ∷ Stored (at 19) (slot.Field 24 (name 400) (name 401)) (value.Object 25) ∷ []
moves_what_is_there = refl

moves_no_null : told (run_with moving value.Null [] 9).end ≡ stops (at 30)
moves_no_null = refl
