-- Copies, and variables that hold something else.
use Rattle.std.proofs.Common.{◌≡◌, refl, ℕ, pos, negsuc, List, [], ◌∷◌, ◌++◌, None}
use Rattle.pungi_api.specs.declared.param.Param.TheVariants as param
use Rattle.pungi_code.specs.declared.atom.Atom.TheVariants as atom
use Rattle.pungi_code.specs.declared.code.Code.{Code}
use Rattle.pungi_code.specs.declared.instr.Instr.TheVariants.{Set, Return, Unset as Forget}
use Rattle.pungi_shape.specs.declared.holding.Holding.{Holding}
use Rattle.pungi_shape.specs.declared.holding.Holding.TheVariants.{Unset, Null, Known, Number, Token}
use Rattle.pungi_shape.specs.declared.shape.Shape.{Shape}
use Rattle.pungi_shape.specs.Places.{at_entry}
use Rattle.pungi_shape.proofs.worked.Notation.{entries}
use Rattle.pungi_shape.proofs.worked.Notation.{var, v, int, line, code_of, plain, place, edges_at, sends, owes, c}

-- void f(PyObject *x) { PyObject *y; y = x; y = NULL; }
abbrev copying : Code
copying =
    code_of (line (Set (v 1) (var 0)) ∷ line (Set (v 1) atom.Null) ∷ line (Return None) ∷ [])
    (param.ObjectOrNull ∷ param.ObjectOrNull ∷ []) 1 2

-- x at entry, x, y: NULL or an object for x, y unset; no token, or one that isn't made
two_entries : entries copying
    ≡ plain (Null ∷ []) (Null ∷ Unset ∷ []) ∷ plain (Token 0 ∷ []) (Token 0 ∷ Unset ∷ []) ∷ []
two_entries = refl

-- the leading coordinate, and a balance that is 0
an_object_enters : edges_at copying (at_entry (plain (Token 0 ∷ []) (Token 0 ∷ Unset ∷ [])))
    ≡ sends (1 ∷ 0 ∷ 0 ∷ 0 ∷ 7 ∷ 7 ∷ 0 ∷ 0 ∷ []) (c 0 ∷ [] ∷ []) ∷ []
an_object_enters = refl

-- y holds the token of x; the vectors stay
copies_an_object : edges_at copying (place 0 0 0 (plain (Token 0 ∷ []) (Token 0 ∷ Unset ∷ [])))
    ≡ sends (1 ∷ 1 ∷ 0 ∷ 0 ∷ 7 ∷ 7 ∷ 7 ∷ 0 ∷ []) (c 0 ∷ c 1 ∷ []) ∷ []
copies_an_object = refl

copies_null : edges_at copying (place 0 0 0 (plain (Null ∷ []) (Null ∷ Unset ∷ [])))
    ≡ sends (1 ∷ 1 ∷ 0 ∷ 0 ∷ 1 ∷ 1 ∷ 1 ∷ []) (c 0 ∷ []) ∷ []
copies_null = refl

-- x still holds the token, and so nothing is dropped
overwrites_a_copy : edges_at copying (place 1 0 0 (plain (Token 0 ∷ []) (Token 0 ∷ Token 0 ∷ [])))
    ≡ sends (1 ∷ 2 ∷ 0 ∷ 0 ∷ 7 ∷ 7 ∷ 1 ∷ 0 ∷ []) (c 0 ∷ c 1 ∷ []) ∷ []
overwrites_a_copy = refl

-- y held a token that nothing else holds: it is dropped, and its balance has to be 0. The token of x has number 0
overwrites_the_last : edges_at copying (place 1 0 0 (plain (Token 0 ∷ []) (Token 0 ∷ Token 1 ∷ [])))
    ≡ owes ((pos 0 ∷ pos 0 ∷ pos 1 ∷ []) ∷ []) (1 ∷ 2 ∷ 0 ∷ 0 ∷ 7 ∷ 7 ∷ 1 ∷ 0 ∷ []) (c 0 ∷ c 1 ∷ []) ∷ []
overwrites_the_last = refl

-- a static object, and locals p and q: p = q; q = the static object;
abbrev moving : Code
moving =
    code_of (line (Set (v 0) (var 1)) ∷ line (Set (v 1) (atom.Static 3)) ∷ line (Return None) ∷ [])
    (param.ObjectOrNull ∷ param.ObjectOrNull ∷ []) 0 2

abbrev with_static : List Holding → ℕ → Shape
with_static vs t = record (plain [] (vs ++ Token t ∷ [])) { vars = vs; statics = (3, Token t) ∷ [] }

-- the static object is a holder, whatever else holds it
one_entry : entries moving ≡ with_static (Unset ∷ Unset ∷ []) 0 ∷ []
one_entry = refl

-- the token 0 is dropped, and that of the static object is the first now
moves_up : edges_at moving (place 0 0 0 (with_static (Token 0 ∷ Null ∷ []) 1))
    ≡ owes ((pos 0 ∷ pos 1 ∷ pos 0 ∷ []) ∷ []) (1 ∷ 1 ∷ 0 ∷ 0 ∷ 1 ∷ 1 ∷ 7 ∷ 0 ∷ []) (c 0 ∷ c 2 ∷ []) ∷ []
moves_up = refl

-- q holds it, and stands before it
holds_a_static : edges_at moving (place 1 0 0 (with_static (Null ∷ Null ∷ []) 0))
    ≡ sends (1 ∷ 2 ∷ 0 ∷ 0 ∷ 1 ∷ 7 ∷ 7 ∷ 0 ∷ []) (c 0 ∷ c 1 ∷ []) ∷ []
holds_a_static = refl

-- the static object's token is never dropped, and each keeps its balance where their order changes
changes_places : edges_at moving (place 1 0 0 (with_static (Null ∷ Token 0 ∷ []) 1))
    ≡ owes ((pos 0 ∷ pos 1 ∷ pos 0 ∷ []) ∷ []) (1 ∷ 2 ∷ 0 ∷ 0 ∷ 1 ∷ 7 ∷ 7 ∷ 0 ∷ []) (c 0 ∷ c 2 ∷ []) ∷ []
changes_places = refl

-- void f(long n) { long m; m = n; m = 1; m = -5; }
abbrev numbers : Code
numbers =
    code_of (line (Set (v 1) (var 0)) ∷ line (Set (v 1) (int 1)) ∷ line (Set (v 1) (atom.Int (negsuc 4)))
    ∷ line (Forget (v 1)) ∷ line (Return None) ∷ []) (param.Long ∷ param.Long ∷ []) 1 2

-- vectors at the entry have the leading coordinate and n at entry; then n as well, which stands before it
a_number_enters : edges_at numbers (at_entry (plain (Number ∷ []) (Number ∷ Unset ∷ [])))
    ≡ sends (1 ∷ 0 ∷ 0 ∷ 0 ∷ 6 ∷ 6 ∷ 0 ∷ []) (c 0 ∷ c 1 ∷ c 1 ∷ []) ∷ []
a_number_enters = refl

-- m comes between n and n at entry
copies_a_number : edges_at numbers (place 0 0 0 (plain (Number ∷ []) (Number ∷ Unset ∷ [])))
    ≡ sends (1 ∷ 1 ∷ 0 ∷ 0 ∷ 6 ∷ 6 ∷ 6 ∷ []) (c 0 ∷ c 1 ∷ c 1 ∷ c 2 ∷ []) ∷ []
copies_a_number = refl

-- 1 is known, and is once the leading coordinate
copies_one : edges_at numbers (place 1 0 0 (plain (Number ∷ []) (Number ∷ Number ∷ [])))
    ≡ sends (1 ∷ 2 ∷ 0 ∷ 0 ∷ 6 ∷ 6 ∷ 5 ∷ []) (c 0 ∷ c 1 ∷ c 0 ∷ c 3 ∷ []) ∷ []
copies_one = refl

-- -5 isn't one of the known numbers
copies_another : edges_at numbers (place 2 0 0 (plain (Number ∷ []) (Number ∷ Known (pos 1) ∷ [])))
    ≡ sends (1 ∷ 3 ∷ 0 ∷ 0 ∷ 6 ∷ 6 ∷ 6 ∷ []) (c 0 ∷ c 1 ∷ ((0, negsuc 4) ∷ []) ∷ c 3 ∷ []) ∷ []
copies_another = refl

-- what is unset has no coordinate
unsets_a_number : edges_at numbers (place 3 0 0 (plain (Number ∷ []) (Number ∷ Number ∷ [])))
    ≡ sends (1 ∷ 4 ∷ 0 ∷ 0 ∷ 6 ∷ 6 ∷ 0 ∷ []) (c 0 ∷ c 1 ∷ c 3 ∷ []) ∷ []
unsets_a_number = refl
