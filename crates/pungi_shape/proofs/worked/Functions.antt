-- Calls of functions of the file: what is forgotten, which exits there may be, and what is taken over from them.
use Rattle.std.proofs.Common.{◌≡◌, refl, ℕ, ℤ, pos, negsuc, true, false, List, [], ◌∷◌, map, None, Some}
use Rattle.pungi_api.specs.declared.answer.Answer.TheVariants as answer
use Rattle.pungi_api.specs.declared.call_answer.CallAnswer.TheVariants.{Of}
use Rattle.pungi_api.specs.declared.own_effect.OwnEffect.{OwnEffect}
use Rattle.pungi_api.specs.declared.own_effect.OwnEffect.TheVariants.{IncRef, DecRef}
use Rattle.pungi_api.specs.declared.param.Param.TheVariants as param
use Rattle.pungi_api.specs.declared.take.Take.TheVariants as take
use Rattle.pungi_domain.specs.declared.action.Action.TheVariants as actions
use Rattle.pungi_domain.specs.declared.affine_edge.AffineEdge.{AffineEdge}
use Rattle.pungi_domain.specs.declared.target.Target.TheVariants as target
use Rattle.pungi_code.specs.declared.atom.Atom.{Atom}
use Rattle.pungi_code.specs.declared.atom.Atom.TheVariants as atom
use Rattle.pungi_code.specs.declared.code.Code.{Code}
use Rattle.pungi_code.specs.declared.code.Codes.{Codes}
use Rattle.pungi_code.specs.declared.instr.Instr.{Instr}
use Rattle.pungi_code.specs.declared.instr.Instr.TheVariants.{Set, Api, Call, Return}
use Rattle.pungi_shape.specs.declared.holding.Holding.{Holding}
use Rattle.pungi_shape.specs.declared.holding.Holding.TheVariants.{Unset, Null, Number, Token}
use Rattle.pungi_shape.specs.declared.shape.Shape.{Shape}
use Rattle.pungi_shape.specs.declared.tracked.Spot.TheVariants.{Field}
use Rattle.pungi_shape.specs.Shapes.{exit_of}
use Rattle.pungi_shape.specs.Named.{functions_from, statics_of}
use Rattle.pungi_shape.specs.Places.{Place, at_entry, after_call}
use Rattle.pungi_shape.specs.Edges.{call_edges}
use Rattle.pungi_shape.specs.Programs.{equation, program_of}
use Rattle.pungi_shape.proofs.worked.Notation.{name, v, var, int, line, code_of, plain, place, EdgeView}
use Rattle.pungi_shape.proofs.worked.Notation.{view_of, edges_at, by, sends_where, owes, c}

-- ---- two functions

abbrev count_of : OwnEffect → Instr
count_of own = Api None (record {
  own = Some own;
  params = param.Object ∷ [];
  takes = take.Never ∷ [];
  answer = Of answer.Void;
}) (var 0 ∷ [])

-- void give(PyObject *x) { Py_DECREF(x); }
abbrev give : Code
give = code_of (line (count_of DecRef) ∷ line (Return None) ∷ []) (param.ObjectOrNull ∷ []) 1 1

-- void f(PyObject *x) { Py_INCREF(x); give(x); }
abbrev f : Code
f =
    code_of (line (count_of IncRef) ∷ line (Call None 0 (var 0 ∷ [])) ∷ line (Return None) ∷ [])
    (param.ObjectOrNull ∷ []) 1 1

abbrev null : Shape
null = plain (Null ∷ []) (Null ∷ [])

abbrev object : Shape
object = plain (Token 0 ∷ []) (Token 0 ∷ [])

abbrev end : Shape
end = plain (Token 0 ∷ []) (Unset ∷ [])

-- with NULL it stops: there is one exit class, of an object at entry
abbrev given : Shape
given = exit_of end

abbrev places_of_f : List Place
places_of_f =
    at_entry null ∷ at_entry object ∷ place 0 0 0 null ∷ place 0 0 0 object ∷ place 0 1 0 object ∷ place 1 1 0 object
    ∷ after_call (record { instr = 1; done = 2; class = 0 }) object given ∷ place 2 0 0 object ∷ place 2 1 0 end ∷ []

abbrev exits_of : ℕ → List Shape
exits_of g = given ∷ []

abbrev to : ℕ → ℕ → List (List (ℕ × ℤ)) → AffineEdge
to k l rows = record { from = k; to = target.Place l; guard = []; action = by rows; duties = [] }

-- the exit's leading coordinate and balance stand behind the leading coordinate and the balance of x; the exit's
-- balance is added to that of x, where the leading coordinates agree
edges_of_f : (program_of f exits_of places_of_f (given ∷ [])).edges
    ≡ to 0 2 (c 0 ∷ []) ∷ to 1 3 (c 0 ∷ [] ∷ [])
    ∷ to 3 4 (c 0 ∷ ((0, pos 1) ∷ (1, pos 1) ∷ []) ∷ []) ∷ to 4 5 (c 0 ∷ c 1 ∷ [])
    ∷ (record {
      from = 5;
      to = target.Place 6;
      guard = [];
      action = actions.Call 0 0 (2 ∷ 3 ∷ []);
      duties = [];
    })
    ∷ (record {
      from = 6;
      to = target.Place 7;
      guard = equation (negsuc 0 ∷ pos 0 ∷ pos 1 ∷ pos 0 ∷ []) ∷ [];
      action = by (c 0 ∷ ((1, pos 1) ∷ (3, pos 1) ∷ []) ∷ []);
      duties = [];
    })
    ∷ to 7 8 (c 0 ∷ c 1 ∷ [])
    ∷ (record {
      from = 8;
      to = target.Exit 0;
      guard = [];
      action = by (c 0 ∷ c 1 ∷ []);
      duties = equation (pos 0 ∷ pos 1 ∷ []) ∷ [];
    }) ∷ []
edges_of_f = refl

widths_of_f : (program_of f exits_of places_of_f (given ∷ [])).widths
    ≡ 1 ∷ 1 ∷ 1 ∷ 2 ∷ 2 ∷ 2 ∷ 4 ∷ 2 ∷ 2 ∷ []
widths_of_f = refl

-- ---- what is forgotten

-- a field of x is tracked, and x is made: both are forgotten, and what the field held is dropped
abbrev tracked_and_made : Shape
tracked_and_made =
    record object {
      slots = (record { spot = Field 0 (name 400) (name 401); held = Token 1 }) ∷ [];
      made = true ∷ false ∷ [];
    }

forgets : edges_at f (place 1 0 0 tracked_and_made)
    ≡ owes ((pos 0 ∷ pos 0 ∷ pos 1 ∷ []) ∷ []) (1 ∷ 1 ∷ 1 ∷ 0 ∷ 7 ∷ 7 ∷ 0 ∷ []) (c 0 ∷ c 1 ∷ []) ∷ []
forgets = refl

-- ---- exits with more to say

-- PyObject *r = pick(x, y, 5); in a function of x and y, where pick is function 3
abbrev picking : List Atom → Code
picking as' =
    code_of (line (Call (Some (v 2)) 3 as') ∷ line (Return None) ∷ [])
    (param.ObjectOrNull ∷ param.ObjectOrNull ∷ param.ObjectOrNull ∷ []) 2 3

abbrev both : Code
both = picking (var 0 ∷ var 1 ∷ int 5 ∷ [])

abbrev two : Shape
two = plain (Token 0 ∷ Token 1 ∷ []) (Token 0 ∷ Token 1 ∷ Unset ∷ [])

abbrev exit_class : List Holding → Holding → Shape
exit_class hs h = exit_of (record (plain hs []) { returned = h })

abbrev calls_to : Code → Shape → Shape → List EdgeView
calls_to code s e = map view_of (call_edges code (place 0 1 0 s) 3 e)

abbrev comes_back : Code → Shape → Shape → List EdgeView
comes_back code s e = edges_at code (after_call (record { instr = 0; done = 2; class = 0 }) s e)

-- a and b were one object, which it returned. So x and y are one, and r is that
abbrev one_object : Shape
one_object = exit_class (Token 0 ∷ Token 0 ∷ Number ∷ []) (Token 0)

-- leading, x, y; leading, n at entry, the one object
calls_one : calls_to both two one_object
    ≡ (record {
      to = 1 ∷ 0 ∷ 2 ∷ 0 ∷ 7 ∷ 7 ∷ 6 ∷ 7 ∷ 7 ∷ 8 ∷ 7 ∷ 8 ∷ 0 ∷ 0 ∷ 0 ∷ [];
      guard = [];
      action = actions.Call 3 0 (3 ∷ 4 ∷ 5 ∷ []);
      duties = [];
    }) ∷ []
calls_one = refl

-- the number at entry is 5
comes_back_with_one : comes_back both two one_object
    ≡ sends_where ((negsuc 0 ∷ pos 0 ∷ pos 0 ∷ pos 1 ∷ pos 0 ∷ pos 0 ∷ [])
    ∷ (negsuc 4 ∷ pos 0 ∷ pos 0 ∷ pos 0 ∷ pos 1 ∷ pos 0 ∷ []) ∷ [])
    (1 ∷ 1 ∷ 0 ∷ 0 ∷ 7 ∷ 7 ∷ 7 ∷ 7 ∷ 7 ∷ 0 ∷ []) (c 0 ∷ ((1, pos 1) ∷ (2, pos 1) ∷ (5, pos 1) ∷ []) ∷ []) ∷ []
comes_back_with_one = refl

-- a and b needn't be one, and it returned another object
abbrev another : Shape
another = exit_class (Token 0 ∷ Token 1 ∷ Number ∷ []) (Token 2)

comes_back_with_another : comes_back both two another
    ≡ sends_where ((negsuc 0 ∷ pos 0 ∷ pos 0 ∷ pos 1 ∷ pos 0 ∷ pos 0 ∷ pos 0 ∷ pos 0 ∷ [])
    ∷ (negsuc 4 ∷ pos 0 ∷ pos 0 ∷ pos 0 ∷ pos 1 ∷ pos 0 ∷ pos 0 ∷ pos 0 ∷ []) ∷ [])
    (1 ∷ 1 ∷ 0 ∷ 0 ∷ 7 ∷ 8 ∷ 7 ∷ 8 ∷ 9 ∷ 0 ∷ 0 ∷ 0 ∷ [])
    (c 0 ∷ ((1, pos 1) ∷ (5, pos 1) ∷ []) ∷ ((2, pos 1) ∷ (6, pos 1) ∷ []) ∷ c 7 ∷ []) ∷ []
comes_back_with_another = refl

-- it returned NULL, and b was NULL: y isn't
abbrev no_object : Shape
no_object = exit_class (Token 0 ∷ Null ∷ Number ∷ []) Null

not_this_exit : calls_to both two no_object ≡ []
not_this_exit = refl

comes_back_with_null : comes_back (picking (var 0 ∷ atom.Null ∷ int 5 ∷ [])) two no_object
    ≡ sends_where ((negsuc 0 ∷ pos 0 ∷ pos 0 ∷ pos 1 ∷ pos 0 ∷ pos 0 ∷ [])
    ∷ (negsuc 4 ∷ pos 0 ∷ pos 0 ∷ pos 0 ∷ pos 1 ∷ pos 0 ∷ []) ∷ [])
    (1 ∷ 1 ∷ 0 ∷ 0 ∷ 7 ∷ 8 ∷ 7 ∷ 8 ∷ 1 ∷ 0 ∷ 0 ∷ []) (c 0 ∷ ((1, pos 1) ∷ (5, pos 1) ∷ []) ∷ c 2 ∷ []) ∷ []
comes_back_with_null = refl

-- two static objects aren't one
abbrev statics : Shape
statics =
    record (plain [] (Token 0 ∷ Token 1 ∷ [])) {
      vars = Unset ∷ Unset ∷ Unset ∷ [];
      statics = (0, Token 0) ∷ (1, Token 1) ∷ [];
    }

two_statics_differ : calls_to (picking (atom.Static 0 ∷ atom.Static 1 ∷ int 5 ∷ [])) statics one_object ≡ []
two_statics_differ = refl

-- the same object may be passed twice, where the exit class needs two that may be one: both balances are its own
passes_one_twice : comes_back (picking (var 0 ∷ var 0 ∷ int 5 ∷ [])) two another
    ≡ sends_where ((negsuc 0 ∷ pos 0 ∷ pos 0 ∷ pos 1 ∷ pos 0 ∷ pos 0 ∷ pos 0 ∷ pos 0 ∷ [])
    ∷ (negsuc 4 ∷ pos 0 ∷ pos 0 ∷ pos 0 ∷ pos 1 ∷ pos 0 ∷ pos 0 ∷ pos 0 ∷ []) ∷ [])
    (1 ∷ 1 ∷ 0 ∷ 0 ∷ 7 ∷ 8 ∷ 7 ∷ 8 ∷ 9 ∷ 0 ∷ 0 ∷ 0 ∷ [])
    (c 0 ∷ ((1, pos 1) ∷ (5, pos 1) ∷ (6, pos 1) ∷ []) ∷ c 2 ∷ c 7 ∷ []) ∷ []
passes_one_twice = refl

-- the callee names a static object and returned it with a number at entry; the result is the caller's token of it
abbrev with_static : Shape
with_static = record (exit_class (Null ∷ Null ∷ Number ∷ []) (Token 0)) { statics = (1, Token 0) ∷ [] }

comes_back_with_a_static : comes_back (picking (atom.Null ∷ atom.Null ∷ int 5 ∷ [])) statics with_static
    ≡ sends_where ((negsuc 0 ∷ pos 0 ∷ pos 0 ∷ pos 1 ∷ pos 0 ∷ pos 0 ∷ [])
    ∷ (negsuc 4 ∷ pos 0 ∷ pos 0 ∷ pos 0 ∷ pos 1 ∷ pos 0 ∷ []) ∷ [])
    (1 ∷ 1 ∷ 0 ∷ 0 ∷ 0 ∷ 0 ∷ 7 ∷ 8 ∷ 7 ∷ 0 ∷ 0 ∷ []) (c 0 ∷ ((2, pos 1) ∷ (5, pos 1) ∷ []) ∷ c 1 ∷ []) ∷ []
comes_back_with_a_static = refl

-- ---- what is named

abbrev file : Codes
file =
    record {
      codes = Some give ∷ Some f ∷ Some (code_of (line (Set (v 0) (atom.Static 7)) ∷ line (Call None 1 (var 0 ∷ []))
          ∷ line (Return (Some (atom.Static 3))) ∷ []) (param.ObjectOrNull ∷ []) 0 1) ∷ [];
      statics = 24;
      names = name 300 ∷ name 301 ∷ name 302 ∷ [];
    }

chain_of_calls : functions_from file 2 ≡ 0 ∷ 1 ∷ 2 ∷ []
chain_of_calls = refl

statics_in_order : statics_of file 2 ≡ 3 ∷ 7 ∷ []
statics_in_order = refl
