-- Calls of the API: outcomes, counts, what is taken over, answers.
use Rattle.std.proofs.Common.{◌≡◌, refl, pos, negsuc, List, [], ◌∷◌, Option, None, Some}
use Rattle.pungi_api.specs.declared.answer.Answer.TheVariants as answer
use Rattle.pungi_api.specs.declared.call_answer.CallAnswer.{CallAnswer}
use Rattle.pungi_api.specs.declared.call_answer.CallAnswer.TheVariants.{Of, Argument}
use Rattle.pungi_api.specs.declared.own_effect.OwnEffect.{OwnEffect}
use Rattle.pungi_api.specs.declared.own_effect.OwnEffect.TheVariants.{IncRef, DecRef}
use Rattle.pungi_api.specs.declared.param.Param.{Param}
use Rattle.pungi_api.specs.declared.param.Param.TheVariants as param
use Rattle.pungi_api.specs.declared.signature.Signature.{Signature}
use Rattle.pungi_api.specs.declared.take.Take.{Take}
use Rattle.pungi_api.specs.declared.take.Take.TheVariants as take
use Rattle.pungi_code.specs.declared.code.Code.{Code}
use Rattle.pungi_code.specs.declared.instr.Instr.TheVariants.{Api, Return}
use Rattle.pungi_shape.specs.declared.holding.Holding.{Holding}
use Rattle.pungi_shape.specs.declared.holding.Holding.TheVariants.{Dead, Null, Number, Token}
use Rattle.pungi_shape.specs.declared.shape.Shape.{Shape}
use Rattle.pungi_shape.specs.Places.{at_entry}
use Rattle.pungi_shape.proofs.worked.Notation.{var, v, int, line, code_of, plain, place, edges_at, sends, owes}
use Rattle.pungi_shape.proofs.worked.Notation.{frees_one, c}

abbrev signature : Option OwnEffect → List Param → List Take → CallAnswer → Signature
signature own ps ts a = record { own = own; params = ps; takes = ts; answer = a }

-- ---- a new object

-- PyObject *f(void) { return PyLong_FromLong(1); }
abbrev making : Code
making =
    code_of (line (Api (Some (v 0)) (signature None (param.Long ∷ []) (take.Never ∷ []) (Of answer.New))
    (int 1 ∷ []))
    ∷ line (Return (Some (var 0))) ∷ []) (param.ObjectOrNull ∷ []) 0 0

-- what the call returns is no holder before it is written, and there is no other
enters_the_call : edges_at making (at_entry (plain [] (Dead ∷ []))) ≡ sends (1 ∷ 0 ∷ 0 ∷ 0 ∷ []) (c 0 ∷ []) ∷ []
enters_the_call = refl

-- NULL is the outcome 0, an object the outcome 1
two_outcomes : edges_at making (place 0 0 0 (plain [] (Dead ∷ [])))
    ≡ sends (1 ∷ 0 ∷ 1 ∷ 0 ∷ []) (c 0 ∷ []) ∷ sends (1 ∷ 0 ∷ 1 ∷ 1 ∷ []) (c 0 ∷ []) ∷ []
two_outcomes = refl

-- the return's first part is not left out: the shape changes, since the returned value holds what the variable held
answers_null : edges_at making (place 0 1 0 (plain [] (Dead ∷ []))) ≡ sends (1 ∷ 1 ∷ 0 ∷ 0 ∷ 1 ∷ []) (c 0 ∷ []) ∷ []
answers_null = refl

-- a token of its own with balance 1, which is once the leading coordinate
answers_an_object : edges_at making (place 0 1 1 (plain [] (Dead ∷ [])))
    ≡ sends (1 ∷ 1 ∷ 0 ∷ 0 ∷ 7 ∷ 0 ∷ []) (c 0 ∷ c 0 ∷ []) ∷ []
answers_an_object = refl

abbrev returning : Holding → Shape
returning h = record (plain [] (h ∷ [])) { vars = Dead ∷ []; returned = h }

leaves_with_null : edges_at making (place 1 1 0 (returning Null)) ≡ sends (2 ∷ 1 ∷ []) (c 0 ∷ []) ∷ []
leaves_with_null = refl

-- the balance of the returned object has to be 1
leaves_with_an_object : edges_at making (place 1 1 0 (returning (Token 0)))
    ≡ owes ((negsuc 0 ∷ pos 1 ∷ []) ∷ []) (2 ∷ 7 ∷ []) (c 0 ∷ c 1 ∷ []) ∷ []
leaves_with_an_object = refl

-- ---- an answer that nothing uses

-- void f(void) { PyList_New(0); }
abbrev leaking : Code
leaking =
    code_of (line (Api None (signature None (param.Size ∷ []) (take.Never ∷ []) (Of answer.New)) (int 0 ∷ []))
    ∷ line (Return None) ∷ []) [] 0 0

-- the object is dropped at once: its balance 1 has to be 0
drops_its_answer : edges_at leaking (place 0 1 1 (plain [] []))
    ≡ owes ((pos 1 ∷ []) ∷ []) (1 ∷ 1 ∷ 1 ∷ 0 ∷ []) (c 0 ∷ []) ∷ []
drops_its_answer = refl

-- ---- counts

-- void f(PyObject *x) { Py_INCREF(x); Py_DECREF(x); }
abbrev counting : Code
counting =
    code_of (line (Api None (signature (Some IncRef) (param.Object ∷ []) (take.Never ∷ []) (Of answer.Void))
    (var 0 ∷ []))
    ∷ line (Api None (signature (Some DecRef) (param.Object ∷ []) (take.Never ∷ []) (Of answer.Void)) (var 0 ∷ []))
    ∷ line (Return None) ∷ []) (param.ObjectOrNull ∷ []) 1 1

abbrev an_object : Shape
an_object = plain (Token 0 ∷ []) (Token 0 ∷ [])

raises : edges_at counting (place 0 0 0 an_object)
    ≡ sends (1 ∷ 0 ∷ 1 ∷ 0 ∷ 7 ∷ 7 ∷ 0 ∷ []) (c 0 ∷ ((0, pos 1) ∷ (1, pos 1) ∷ []) ∷ []) ∷ []
raises = refl

-- the last part is never left out
goes_on : edges_at counting (place 0 1 0 an_object)
    ≡ sends (1 ∷ 1 ∷ 0 ∷ 0 ∷ 7 ∷ 7 ∷ 0 ∷ []) (c 0 ∷ c 1 ∷ []) ∷ []
goes_on = refl

lowers : edges_at counting (place 1 0 0 an_object)
    ≡ sends (1 ∷ 1 ∷ 1 ∷ 0 ∷ 7 ∷ 7 ∷ 0 ∷ []) (c 0 ∷ ((0, negsuc 0) ∷ (1, pos 1) ∷ []) ∷ []) ∷ []
lowers = refl

stops_on_null : edges_at counting (place 0 0 0 (plain (Null ∷ []) (Null ∷ []))) ≡ []
stops_on_null = refl

-- void f(PyObject *x) { Py_XINCREF(x); }: nothing happens on NULL, so that part is left out
abbrev counting_none : Code
counting_none =
    code_of (line (Api None (signature (Some IncRef) (param.ObjectOrNull ∷ []) (take.Never ∷ []) (Of answer.Void))
    (var 0 ∷ [])) ∷ line (Return None) ∷ []) (param.ObjectOrNull ∷ []) 1 1

left_out_on_null : edges_at counting_none (at_entry (plain (Null ∷ []) (Null ∷ [])))
    ≡ sends (1 ∷ 0 ∷ 1 ∷ 0 ∷ 1 ∷ 1 ∷ []) (c 0 ∷ []) ∷ []
left_out_on_null = refl

-- PyObject *f(PyObject *x) { return Py_NewRef(x); }: the call returns its argument
abbrev sharing : Code
sharing =
    code_of (line (Api (Some (v 1)) (signature (Some IncRef) (param.Object ∷ []) (take.Never ∷ []) Argument)
    (var 0 ∷ [])) ∷ line (Return (Some (var 1))) ∷ []) (param.ObjectOrNull ∷ param.ObjectOrNull ∷ []) 1 1

shares : edges_at sharing (place 0 1 0 (plain (Token 0 ∷ []) (Token 0 ∷ Dead ∷ [])))
    ≡ sends (1 ∷ 1 ∷ 0 ∷ 0 ∷ 7 ∷ 7 ∷ 7 ∷ 0 ∷ []) (c 0 ∷ c 1 ∷ []) ∷ []
shares = refl

-- ---- what is taken over

-- int f(PyObject *l, PyObject *x) { return PyList_SetItem(l, 0, x); }, whose item is taken over also on failure; and
-- the same with an item that is taken over on success alone
abbrev setting : Take → Code
setting t =
    code_of (line (Api (Some (v 2)) (signature None (param.Object ∷ param.Size ∷ param.Object ∷ [])
    (take.Never ∷ take.Never ∷ t ∷ []) (Of answer.Status)) (var 0 ∷ int 0 ∷ var 1 ∷ []))
    ∷ line (Return (Some (var 2))) ∷ []) (param.ObjectOrNull ∷ param.ObjectOrNull ∷ param.Int ∷ []) 2 2

abbrev two_objects : Holding → Shape
two_objects h = plain (Token 0 ∷ Token 1 ∷ []) (Token 0 ∷ Token 1 ∷ h ∷ [])

taken_always : edges_at (setting take.Always) (place 0 0 0 (two_objects Dead))
    ≡ sends (1 ∷ 0 ∷ 1 ∷ 0 ∷ 7 ∷ 8 ∷ 7 ∷ 8 ∷ 0 ∷ 0 ∷ []) (c 0 ∷ c 1 ∷ ((0, negsuc 0) ∷ (2, pos 1) ∷ []) ∷ [])
    ∷ sends (1 ∷ 0 ∷ 1 ∷ 1 ∷ 7 ∷ 8 ∷ 7 ∷ 8 ∷ 0 ∷ 0 ∷ []) (c 0 ∷ c 1 ∷ ((0, negsuc 0) ∷ (2, pos 1) ∷ []) ∷ []) ∷ []
taken_always = refl

-- 0 is the outcome 0, and -1 the outcome 1
taken_on_success : edges_at (setting take.OnSuccess) (place 0 0 0 (two_objects Dead))
    ≡ sends (1 ∷ 0 ∷ 1 ∷ 0 ∷ 7 ∷ 8 ∷ 7 ∷ 8 ∷ 0 ∷ 0 ∷ []) (c 0 ∷ c 1 ∷ ((0, negsuc 0) ∷ (2, pos 1) ∷ []) ∷ [])
    ∷ sends (1 ∷ 0 ∷ 1 ∷ 1 ∷ 7 ∷ 8 ∷ 7 ∷ 8 ∷ 0 ∷ 0 ∷ []) (c 0 ∷ c 1 ∷ c 2 ∷ []) ∷ []
taken_on_success = refl

answers_failure : edges_at (setting take.Always) (place 0 1 1 (two_objects Dead))
    ≡ sends (1 ∷ 1 ∷ 0 ∷ 0 ∷ 7 ∷ 8 ∷ 7 ∷ 8 ∷ 3 ∷ 0 ∷ 0 ∷ [])
    (c 0 ∷ ((0, negsuc 0) ∷ []) ∷ c 1 ∷ c 2 ∷ []) ∷ []
answers_failure = refl

-- PyList_SET_ITEM(l, 0, PyLong_FromLong(1)), at the second call: the item is read no more after its first part, which
-- drops it. Its balance is then less by 1, and has to be 0
abbrev placing : Code
placing =
    code_of (line (Api None (signature None (param.Object ∷ param.Size ∷ param.Object ∷ [])
    (take.Never ∷ take.Never ∷ take.Always ∷ []) (Of answer.Void)) (var 0 ∷ int 0 ∷ var 1 ∷ []))
    ∷ line (Return None) ∷ []) (param.ObjectOrNull ∷ param.ObjectOrNull ∷ []) 1 1

drops_what_is_taken : edges_at placing (place 0 0 0 (plain (Token 0 ∷ []) (Token 0 ∷ Token 1 ∷ [])))
    ≡ owes ((negsuc 0 ∷ pos 0 ∷ pos 1 ∷ []) ∷ []) (1 ∷ 0 ∷ 1 ∷ 0 ∷ 7 ∷ 7 ∷ 0 ∷ []) (c 0 ∷ c 1 ∷ []) ∷ []
drops_what_is_taken = refl

-- ---- a number of which nothing is known

-- long f(PyObject *x) { return PyLong_AsLong(x); }
abbrev counted : Code
counted =
    code_of (line (Api (Some (v 1)) (signature None (param.Object ∷ []) (take.Never ∷ []) (Of answer.Long))
    (var 0 ∷ []))
    ∷ line (Return (Some (var 1))) ∷ []) (param.ObjectOrNull ∷ param.Long ∷ []) 1 1

-- there is one outcome, and nothing changes before the answer
straight_to_the_answer : edges_at counted (at_entry (plain (Token 0 ∷ []) (Token 0 ∷ Dead ∷ [])))
    ≡ sends (1 ∷ 0 ∷ 1 ∷ 0 ∷ 7 ∷ 7 ∷ 0 ∷ []) (c 0 ∷ [] ∷ []) ∷ []
straight_to_the_answer = refl

zero_first : edges_at counted (place 0 1 0 (plain (Token 0 ∷ []) (Token 0 ∷ Dead ∷ [])))
    ≡ sends (1 ∷ 0 ∷ 2 ∷ 0 ∷ 7 ∷ 7 ∷ 6 ∷ 0 ∷ []) (c 0 ∷ [] ∷ c 1 ∷ []) ∷ []
zero_first = refl

then_any : edges_at counted (place 0 2 0 (plain (Token 0 ∷ []) (Token 0 ∷ Number ∷ [])))
    ≡ frees_one (1 ∷ 1 ∷ 0 ∷ 0 ∷ 7 ∷ 7 ∷ 6 ∷ 0 ∷ []) 1 ∷ []
then_any = refl

-- NULL may not be passed: the first part has no case, and isn't left out
null_stops : edges_at counted (at_entry (plain (Null ∷ []) (Null ∷ Dead ∷ [])))
    ≡ sends (1 ∷ 0 ∷ 0 ∷ 0 ∷ 1 ∷ 1 ∷ []) (c 0 ∷ []) ∷ []
null_stops = refl

-- where nothing uses the number, none is freed
abbrev uncounted : Code
uncounted =
    code_of (line (Api None (signature None (param.Object ∷ []) (take.Never ∷ []) (Of answer.Long)) (var 0 ∷ []))
    ∷ line (Return None) ∷ []) (param.ObjectOrNull ∷ []) 1 1

none_to_free : edges_at uncounted (place 0 1 0 an_object)
    ≡ sends (1 ∷ 1 ∷ 0 ∷ 0 ∷ 7 ∷ 7 ∷ 0 ∷ []) (c 0 ∷ c 1 ∷ []) ∷ []
none_to_free = refl

-- ---- answers of calls that also write variables

-- int f(void) { return g(); }, where g is such a call
abbrev answering : CallAnswer → Code
answering a =
    code_of (line (Api (Some (v 0)) (signature None [] [] a) []) ∷ line (Return (Some (var 0))) ∷ [])
    (param.Int ∷ []) 0 0

-- 1 is the outcome 0, and 0 the outcome 1
found_or_not : edges_at (answering (Of answer.Found)) (place 0 0 0 (plain [] (Dead ∷ [])))
    ≡ sends (1 ∷ 0 ∷ 1 ∷ 0 ∷ []) (c 0 ∷ []) ∷ sends (1 ∷ 0 ∷ 1 ∷ 1 ∷ []) (c 0 ∷ []) ∷ []
found_or_not = refl

answers_found : edges_at (answering (Of answer.Found)) (place 0 1 0 (plain [] (Dead ∷ [])))
    ≡ sends (1 ∷ 1 ∷ 0 ∷ 0 ∷ 5 ∷ []) (c 0 ∷ c 0 ∷ []) ∷ []
answers_found = refl

answers_not_found : edges_at (answering (Of answer.Found)) (place 0 1 1 (plain [] (Dead ∷ [])))
    ≡ sends (1 ∷ 1 ∷ 0 ∷ 0 ∷ 4 ∷ []) (c 0 ∷ [] ∷ []) ∷ []
answers_not_found = refl

-- how many units were converted isn't known
answers_converted : edges_at (answering (Of (answer.Converted 2 1 2))) (place 0 1 0 (plain [] (Dead ∷ [])))
    ≡ sends (1 ∷ 0 ∷ 2 ∷ 0 ∷ 6 ∷ []) (c 0 ∷ [] ∷ []) ∷ []
answers_converted = refl

-- a text that is never NULL: there is one outcome
answers_a_text : edges_at (answering (Of answer.TextSure)) (place 0 1 0 (plain [] (Dead ∷ [])))
    ≡ sends (1 ∷ 1 ∷ 0 ∷ 0 ∷ 2 ∷ []) (c 0 ∷ []) ∷ []
answers_a_text = refl
