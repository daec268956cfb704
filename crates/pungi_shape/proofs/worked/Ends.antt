-- Returns, what stops, and what is unset.
use Rattle.std.proofs.Common.{◌≡◌, refl, pos, negsuc, List, [], ◌∷◌, None, Some}
use Rattle.pungi_api.specs.declared.param.Param.TheVariants as param
use Rattle.pungi_code.specs.declared.atom.Atom.TheVariants as atom
use Rattle.pungi_code.specs.declared.code.Code.{Code}
use Rattle.pungi_code.specs.declared.instr.Instr.TheVariants.{Return, Fall, Jump, Unset as Forget}
use Rattle.pungi_shape.specs.declared.holding.Holding.{Holding}
use Rattle.pungi_shape.specs.declared.holding.Holding.TheVariants.{Dead, Unset, Null, Text, Number, Token}
use Rattle.pungi_shape.specs.declared.shape.Shape.{Shape}
use Rattle.pungi_shape.specs.Places.{at_entry}
use Rattle.pungi_shape.proofs.worked.Notation.{entries}
use Rattle.pungi_shape.proofs.worked.Notation.{var, v, int, label, line, code_of, plain, place, edges_at, sends, owes}
use Rattle.pungi_shape.proofs.worked.Notation.{c}

-- PyObject *f(PyObject *x) { return x; }
abbrev giving : Code
giving = code_of (line (Return (Some (var 0))) ∷ []) (param.ObjectOrNull ∷ []) 1 1

abbrev returns : List Holding → List Holding → Holding → Shape
returns hs vs h = record (plain hs vs) { returned = h }

-- x is forgotten, and what it held is held by the returned value
gives_first : edges_at giving (place 0 0 0 (plain (Token 0 ∷ []) (Token 0 ∷ [])))
    ≡ sends (1 ∷ 0 ∷ 1 ∷ 0 ∷ 7 ∷ 0 ∷ 7 ∷ 0 ∷ []) (c 0 ∷ c 1 ∷ []) ∷ []
gives_first = refl

-- the exit class: x at entry and the returned value are one object. Its balance less 1 has to be 0
gives_then : edges_at giving (place 0 1 0 (returns (Token 0 ∷ []) (Unset ∷ []) (Token 0)))
    ≡ owes ((negsuc 0 ∷ pos 1 ∷ []) ∷ []) (2 ∷ 7 ∷ 7 ∷ []) (c 0 ∷ c 1 ∷ []) ∷ []
gives_then = refl

-- void f(PyObject *x, PyObject *y) { PyObject *p = ..; }: what p alone held is dropped, and has to be 0
abbrev ending : Code
ending =
    code_of (line (Return None) ∷ []) (param.ObjectOrNull ∷ param.ObjectOrNull ∷ param.ObjectOrNull ∷ []) 2 3

drops_a_local : edges_at ending (place 0 0 0 (plain (Token 0 ∷ Token 1 ∷ []) (Token 0 ∷ Null ∷ Token 2 ∷ [])))
    ≡ owes ((pos 0 ∷ pos 0 ∷ pos 0 ∷ pos 1 ∷ []) ∷ []) (1 ∷ 0 ∷ 1 ∷ 0 ∷ 7 ∷ 8 ∷ 0 ∷ 0 ∷ 0 ∷ 0 ∷ 0 ∷ [])
    (c 0 ∷ c 1 ∷ c 2 ∷ []) ∷ []
drops_a_local = refl

-- the balance of each object at entry has to be 0
owes_nothing : edges_at ending (place 0 1 0 (plain (Token 0 ∷ Token 1 ∷ []) (Unset ∷ Unset ∷ Unset ∷ [])))
    ≡ owes ((pos 0 ∷ pos 1 ∷ pos 0 ∷ []) ∷ (pos 0 ∷ pos 0 ∷ pos 1 ∷ []) ∷ []) (2 ∷ 7 ∷ 8 ∷ [])
    (c 0 ∷ c 1 ∷ c 2 ∷ []) ∷ []
owes_nothing = refl

-- PyObject *f(void) { return <static 0>; }: the exit class has the static object and the returned value
abbrev giving_a_static : Code
giving_a_static = code_of (line (Return (Some (atom.Static 0))) ∷ []) [] 0 0

abbrev the_static : Holding → Shape
the_static h = record (plain [] (Token 0 ∷ [])) { vars = []; statics = (0, Token 0) ∷ []; returned = h }

gives_a_static : edges_at giving_a_static (place 0 0 0 (the_static Dead))
    ≡ sends (1 ∷ 0 ∷ 1 ∷ 0 ∷ 7 ∷ 7 ∷ 0 ∷ []) (c 0 ∷ c 1 ∷ []) ∷ []
gives_a_static = refl

a_static_owes_one : edges_at giving_a_static (place 0 1 0 (the_static (Token 0)))
    ≡ owes ((negsuc 0 ∷ pos 1 ∷ []) ∷ []) (2 ∷ 7 ∷ 7 ∷ []) (c 0 ∷ c 1 ∷ []) ∷ []
a_static_owes_one = refl

-- int f(long n) { return 5; }: the returned number stands before n at entry
abbrev giving_five : Code
giving_five = code_of (line (Return (Some (int 5))) ∷ []) (param.Long ∷ []) 1 1

gives_five : edges_at giving_five (place 0 0 0 (plain (Number ∷ []) (Number ∷ [])))
    ≡ sends (1 ∷ 0 ∷ 1 ∷ 0 ∷ 6 ∷ 0 ∷ 6 ∷ []) (c 0 ∷ ((0, pos 5) ∷ []) ∷ c 2 ∷ []) ∷ []
gives_five = refl

-- void f(void) { }: the first part changes nothing and is left out
abbrev idle : Code
idle = code_of (line (Return None) ∷ []) [] 0 0

straight_out : edges_at idle (at_entry (plain [] [])) ≡ sends (1 ∷ 0 ∷ 1 ∷ 0 ∷ []) (c 0 ∷ []) ∷ []
straight_out = refl

-- int f(void) { int i; return i; }
abbrev unset : Code
unset = code_of (line (Forget (v 0)) ∷ line (Return (Some (var 0))) ∷ []) (param.Int ∷ []) 0 1

unset_goes_on : edges_at unset (place 0 0 0 (plain [] (Unset ∷ []))) ≡ sends (1 ∷ 1 ∷ 0 ∷ 0 ∷ 0 ∷ []) (c 0 ∷ []) ∷ []
unset_goes_on = refl

unset_stops : edges_at unset (place 1 0 0 (plain [] (Unset ∷ []))) ≡ []
unset_stops = refl

-- int f(const char *t) { for (;;) ; }, and the end of a function that isn't void
abbrev turning : Code
turning = code_of (line (Jump (label 0)) ∷ line Fall ∷ []) (param.TextOrNull ∷ []) 1 1

texts_at_entry : entries turning ≡ plain (Null ∷ []) (Null ∷ []) ∷ plain (Text ∷ []) (Text ∷ []) ∷ []
texts_at_entry = refl

turns : edges_at turning (place 0 0 0 (plain (Text ∷ []) (Text ∷ [])))
    ≡ sends (1 ∷ 0 ∷ 0 ∷ 0 ∷ 2 ∷ 2 ∷ []) (c 0 ∷ []) ∷ []
turns = refl

falls : edges_at turning (place 1 0 0 (plain (Text ∷ []) (Text ∷ []))) ≡ []
falls = refl
