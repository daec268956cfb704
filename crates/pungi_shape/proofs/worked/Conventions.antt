-- Returns under other terms: what is owed where a reference is lent or taken over, and where an object isn't counted.
use Rattle.std.proofs.Common.{◌≡◌, refl, pos, negsuc, true, [], ◌∷◌, None, Some}
use Rattle.pungi_api.specs.declared.param.Param.TheVariants as param
use Rattle.pungi_api.specs.declared.profile.Profile.TheVariants.{Python311, Python312}
use Rattle.pungi_api.specs.declared.terms.Terms.{Terms}
use Rattle.pungi_api.specs.Terms.{nothing_declared}
use Rattle.pungi_code.specs.declared.atom.Atom.TheVariants as atom
use Rattle.pungi_code.specs.declared.code.Code.{Code}
use Rattle.pungi_code.specs.declared.instr.Instr.TheVariants.{Return}
use Rattle.pungi_shape.specs.declared.holding.Holding.TheVariants.{Unset, Token}
use Rattle.pungi_shape.specs.declared.shape.Shape.{Shape}
use Rattle.pungi_shape.proofs.worked.Notation.{var, line, code_under, plain, place, edges_at, owes, sends, c}

abbrev lending : Terms
lending = record { profile = Python311; convention = record { borrowed = true; taken = [] } }

abbrev taking_last : Terms
taking_last = record { profile = Python311; convention = record nothing_declared { taken = 1 ∷ [] } }

abbrev uncounted : Terms
uncounted = record { profile = Python312; convention = nothing_declared }

-- PyObject *f(PyObject *x) { return x; }, whose result is borrowed: the balance of x has to be 0
abbrev giving : Terms → Code
giving terms = code_under terms (line (Return (Some (var 0))) ∷ []) (param.ObjectOrNull ∷ []) 1 1

abbrev given : Shape
given = record (plain (Token 0 ∷ []) (Unset ∷ [])) { returned = Token 0 }

lends_it : edges_at (giving lending) (place 0 1 0 given)
    ≡ owes ((pos 0 ∷ pos 1 ∷ []) ∷ []) (2 ∷ 7 ∷ 7 ∷ []) (c 0 ∷ c 1 ∷ []) ∷ []
lends_it = refl

-- void f(PyObject *x, PyObject *y) { }, which takes over the reference of y: one of y is to be released
abbrev ending : Code
ending = code_under taking_last (line (Return None) ∷ []) (param.ObjectOrNull ∷ param.ObjectOrNull ∷ []) 2 2

owes_a_release : edges_at ending (place 0 1 0 (plain (Token 0 ∷ Token 1 ∷ []) (Unset ∷ Unset ∷ [])))
    ≡ owes ((pos 0 ∷ pos 1 ∷ pos 0 ∷ []) ∷ (pos 1 ∷ pos 0 ∷ pos 1 ∷ []) ∷ []) (2 ∷ 7 ∷ 8 ∷ [])
    (c 0 ∷ c 1 ∷ c 2 ∷ []) ∷ []
owes_a_release = refl

-- x and y are known to be one object
owes_one_release : edges_at ending (place 0 1 0 (plain (Token 0 ∷ Token 0 ∷ []) (Unset ∷ Unset ∷ [])))
    ≡ owes ((pos 1 ∷ pos 1 ∷ []) ∷ []) (2 ∷ 7 ∷ 7 ∷ []) (c 0 ∷ c 1 ∷ []) ∷ []
owes_one_release = refl

-- PyObject *f(void) { return <static n>; }: nothing is owed of `Py_None`; of the fourth a reference is
abbrev giving_a_static : Terms → Code
giving_a_static terms = code_under terms (line (Return (Some (atom.Static 0))) ∷ []) [] 0 0

abbrev the_static : Shape
the_static = record (plain [] (Token 0 ∷ [])) { vars = []; statics = (0, Token 0) ∷ []; returned = Token 0 }

owes_no_none : edges_at (giving_a_static uncounted) (place 0 1 0 the_static)
    ≡ sends (2 ∷ 7 ∷ 7 ∷ []) (c 0 ∷ c 1 ∷ []) ∷ []
owes_no_none = refl

abbrev the_fourth : Shape
the_fourth = record the_static { statics = (3, Token 0) ∷ [] }

owes_the_fourth : edges_at (giving_a_static uncounted) (place 0 1 0 the_fourth)
    ≡ owes ((negsuc 0 ∷ pos 1 ∷ []) ∷ []) (2 ∷ 7 ∷ 7 ∷ []) (c 0 ∷ c 1 ∷ []) ∷ []
owes_the_fourth = refl
