-- Objects that a call makes: the call's answer, a field that is read before it is written, and the object lost.
use Rattle.std.proofs.Common.{◌≡◌, refl, pos, negsuc, List, [], ◌∷◌, None, Some, true, false}
use Rattle.pungi_api.specs.declared.param.Param.TheVariants as param
use Rattle.pungi_api.specs.Signatures.{made_signature}
use Rattle.pungi_code.specs.declared.code.Code.{Code}
use Rattle.pungi_code.specs.declared.instr.Instr.TheVariants.{Api, Load, Return}
use Rattle.pungi_code.specs.declared.place.Place.TheVariants as places
use Rattle.pungi_shape.specs.declared.holding.Holding.TheVariants.{Unset, Token}
use Rattle.pungi_shape.specs.declared.shape.Shape.{Shape}
use Rattle.pungi_shape.specs.declared.tracked.Spot.TheVariants.{Field}
use Rattle.pungi_shape.specs.declared.tracked.Tracked.{Tracked}
use Rattle.pungi_shape.proofs.worked.Notation.{var, v, name, line, code_of, plain, place, edges_at, sends, owes, c}

-- void f(PyTypeObject *t) { Box *b; PyObject *x; b = PyObject_New(Box, t); x = b->first; }
abbrev making : Code
making =
    code_of (line (Api (Some (v 1)) made_signature (var 0 ∷ []))
    ∷ line (Load (v 2) (places.Field (var 1) (name 400) (name 401) param.ObjectOrNull))
    ∷ line (Return None) ∷ []) (param.ObjectOrNull ∷ param.ObjectOrNull ∷ param.ObjectOrNull ∷ []) 1 3

abbrev before : Shape
before = plain (Token 0 ∷ []) (Token 0 ∷ Unset ∷ Unset ∷ [])

abbrev made_with : List Tracked → Shape
made_with slots =
    record (plain (Token 0 ∷ []) (Token 0 ∷ Token 1 ∷ Unset ∷ [])) { slots = slots; made = false ∷ true ∷ [] }

-- NULL is the outcome 0, an object the outcome 1
two_outcomes : edges_at making (place 0 0 0 before)
    ≡ sends (1 ∷ 0 ∷ 1 ∷ 0 ∷ 7 ∷ 7 ∷ 0 ∷ 0 ∷ 0 ∷ []) (c 0 ∷ c 1 ∷ [])
    ∷ sends (1 ∷ 0 ∷ 1 ∷ 1 ∷ 7 ∷ 7 ∷ 0 ∷ 0 ∷ 0 ∷ []) (c 0 ∷ c 1 ∷ []) ∷ []
two_outcomes = refl

-- a token of its own that is made, with balance 1. No other token may have the field: that part is left out
makes_an_object : edges_at making (place 0 1 1 before)
    ≡ sends (1 ∷ 1 ∷ 1 ∷ 0 ∷ 7 ∷ 7 ∷ 8 ∷ 0 ∷ 0 ∷ 1 ∷ []) (c 0 ∷ c 1 ∷ c 0 ∷ []) ∷ []
makes_an_object = refl

-- its field is unset at first, and to read it stops
unset_at_first : edges_at making (place 1 1 0 (made_with []))
    ≡ sends (1 ∷ 1 ∷ 2 ∷ 0 ∷ 7 ∷ 7 ∷ 8 ∷ 0 ∷ 1 ∷ 1 ∷ 400 ∷ 401 ∷ 0 ∷ 0 ∷ 1 ∷ []) (c 0 ∷ c 1 ∷ c 2 ∷ []) ∷ []
unset_at_first = refl

read_before_it_is_written : edges_at making
    (place 1 2 0 (made_with ((record { spot = Field 1 (name 400) (name 401); held = Unset }) ∷ []))) ≡ []
read_before_it_is_written = refl

-- where the function returns, nothing holds the object any more: its balance has to be 0
lost : edges_at making (place 2 0 0 (made_with []))
    ≡ owes ((pos 0 ∷ pos 0 ∷ pos 1 ∷ []) ∷ []) (1 ∷ 2 ∷ 1 ∷ 0 ∷ 7 ∷ 0 ∷ 0 ∷ 0 ∷ 0 ∷ []) (c 0 ∷ c 1 ∷ []) ∷ []
lost = refl

-- void f(PyTypeObject *t) { PyObject_New(Box, t); }: it is lost at once, with balance 1
abbrev dropping : Code
dropping =
    code_of (line (Api None made_signature (var 0 ∷ [])) ∷ line (Return None) ∷ []) (param.ObjectOrNull ∷ []) 1 1

lost_at_once : edges_at dropping (place 0 1 1 (plain (Token 0 ∷ []) (Token 0 ∷ [])))
    ≡ owes ((pos 1 ∷ pos 0 ∷ []) ∷ []) (1 ∷ 1 ∷ 0 ∷ 0 ∷ 7 ∷ 7 ∷ 0 ∷ []) (c 0 ∷ c 1 ∷ []) ∷ []
lost_at_once = refl

-- PyObject *f(PyTypeObject *t) { return PyObject_New(Box, t); }: the balance of what is returned has to be 1
abbrev returning : Code
returning =
    code_of (line (Api (Some (v 1)) made_signature (var 0 ∷ [])) ∷ line (Return (Some (var 1))) ∷ [])
    (param.ObjectOrNull ∷ param.ObjectOrNull ∷ []) 1 2

abbrev leaving : Shape
leaving =
    record (plain (Token 0 ∷ []) (Unset ∷ Unset ∷ [])) { returned = Token 1; made = false ∷ false ∷ [] }

leaves_with_it : edges_at returning (place 1 1 0 leaving)
    ≡ owes ((pos 0 ∷ pos 1 ∷ pos 0 ∷ []) ∷ (negsuc 0 ∷ pos 0 ∷ pos 1 ∷ []) ∷ []) (2 ∷ 7 ∷ 8 ∷ [])
    (c 0 ∷ c 1 ∷ c 2 ∷ []) ∷ []
leaves_with_it = refl
