-- Fields and globals: which slot it is, its first touch, loads and stores.
use Rattle.std.proofs.Common.{◌≡◌, refl, ℕ, pos, negsuc, Bool, List, [], ◌∷◌, None, true, false}
use Rattle.pungi_api.specs.declared.param.Param.{Param}
use Rattle.pungi_api.specs.declared.param.Param.TheVariants as param
use Rattle.pungi_code.specs.declared.atom.Atom.TheVariants as atom
use Rattle.pungi_code.specs.declared.code.Code.{Code}
use Rattle.pungi_code.specs.declared.instr.Instr.TheVariants.{Load, Store, Set, Return}
use Rattle.pungi_code.specs.declared.place.Place.TheVariants as places
use Rattle.pungi_code.specs.declared.place.Place.{Place as SlotPlace}
use Rattle.pungi_shape.specs.declared.holding.Holding.{Holding}
use Rattle.pungi_shape.specs.declared.holding.Holding.TheVariants.{Unset, Null, Number, Token}
use Rattle.pungi_shape.specs.declared.shape.Shape.{Shape}
use Rattle.pungi_shape.specs.declared.tracked.Spot.TheVariants.{Global, Field}
use Rattle.pungi_shape.specs.declared.tracked.Tracked.{Tracked}
use Rattle.pungi_shape.specs.Places.{at_entry}
use Rattle.pungi_shape.proofs.worked.Notation.{var, v, name, line, code_of, plain, place, edges_at, sends, owes}
use Rattle.pungi_shape.proofs.worked.Notation.{frees_one, c}

-- the field `first` of a struct, of an object and of other kinds
abbrev first : ℕ → Param → SlotPlace
first x kind = places.Field (var x) (name 400) (name 401) kind

abbrev slot_of : ℕ → Holding → Tracked
slot_of t h = record { spot = Field t (name 400) (name 401); held = h }

-- s and x are objects, with these slots and these tokens beside theirs
abbrev two_with : List Tracked → List Bool → Shape
two_with slots more =
    record (plain (Token 0 ∷ Token 1 ∷ []) (Token 0 ∷ Token 1 ∷ [])) { slots = slots; made = false ∷ false ∷ more }

-- ---- a store

-- void f(Box *s, PyObject *x) { s->first = x; }
abbrev storing : Code
storing =
    code_of (line (Store (first 0 param.ObjectOrNull) (var 1)) ∷ line (Return None) ∷ [])
    (param.ObjectOrNull ∷ param.ObjectOrNull ∷ []) 2 2

-- no field of that name is tracked: there is one case, which changes nothing, and that part is left out
straight_to_the_touch : edges_at storing (at_entry (two_with [] []))
    ≡ sends (1 ∷ 0 ∷ 1 ∷ 0 ∷ 7 ∷ 8 ∷ 7 ∷ 8 ∷ 0 ∷ 0 ∷ []) (c 0 ∷ [] ∷ [] ∷ []) ∷ []
straight_to_the_touch = refl

-- it held NULL, or an object of its own that is owed nothing
touches : edges_at storing (place 0 1 0 (two_with [] []))
    ≡ sends (1 ∷ 0 ∷ 2 ∷ 0 ∷ 7 ∷ 8 ∷ 7 ∷ 8 ∷ 1 ∷ 0 ∷ 400 ∷ 401 ∷ 1 ∷ 0 ∷ 0 ∷ []) (c 0 ∷ c 1 ∷ c 2 ∷ [])
    ∷ sends (1 ∷ 0 ∷ 2 ∷ 0 ∷ 7 ∷ 8 ∷ 7 ∷ 8 ∷ 1 ∷ 0 ∷ 400 ∷ 401 ∷ 9 ∷ 0 ∷ 0 ∷ 0 ∷ []) (c 0 ∷ c 1 ∷ c 2 ∷ [] ∷ [])
    ∷ []
touches = refl

-- the balance of x falls by 1
stores_over_null : edges_at storing (place 0 2 0 (two_with (slot_of 0 Null ∷ []) []))
    ≡ sends (1 ∷ 1 ∷ 0 ∷ 0 ∷ 7 ∷ 8 ∷ 7 ∷ 8 ∷ 1 ∷ 0 ∷ 400 ∷ 401 ∷ 8 ∷ 0 ∷ 0 ∷ [])
    (c 0 ∷ c 1 ∷ ((0, negsuc 0) ∷ (2, pos 1) ∷ []) ∷ []) ∷ []
stores_over_null = refl

-- and that of the old content rises by 1. Nothing holds it now, and so it has to be 0
stores_over_an_object : edges_at storing (place 0 2 0 (two_with (slot_of 0 (Token 2) ∷ []) (false ∷ [])))
    ≡ owes ((pos 1 ∷ pos 0 ∷ pos 0 ∷ pos 1 ∷ []) ∷ [])
    (1 ∷ 1 ∷ 0 ∷ 0 ∷ 7 ∷ 8 ∷ 7 ∷ 8 ∷ 1 ∷ 0 ∷ 400 ∷ 401 ∷ 8 ∷ 0 ∷ 0 ∷ [])
    (c 0 ∷ c 1 ∷ ((0, negsuc 0) ∷ (2, pos 1) ∷ []) ∷ []) ∷ []
stores_over_an_object = refl

-- the same object again: nothing changes
stores_itself : edges_at storing (place 0 2 0 (two_with (slot_of 0 (Token 1) ∷ []) []))
    ≡ sends (1 ∷ 1 ∷ 0 ∷ 0 ∷ 7 ∷ 8 ∷ 7 ∷ 8 ∷ 1 ∷ 0 ∷ 400 ∷ 401 ∷ 8 ∷ 0 ∷ 0 ∷ []) (c 0 ∷ c 1 ∷ c 2 ∷ []) ∷ []
stores_itself = refl

-- the return forgets s, x and the slot
forgets_the_slot : edges_at storing (place 1 0 0 (two_with (slot_of 0 (Token 1) ∷ []) []))
    ≡ sends (1 ∷ 1 ∷ 1 ∷ 0 ∷ 7 ∷ 8 ∷ 0 ∷ 0 ∷ 0 ∷ 0 ∷ []) (c 0 ∷ c 1 ∷ c 2 ∷ []) ∷ []
forgets_the_slot = refl

-- through NULL the store stops
through_null : edges_at storing (place 0 0 0 (plain (Null ∷ Token 0 ∷ []) (Null ∷ Token 0 ∷ []))) ≡ []
through_null = refl

-- ---- loads

-- void f(Box *s, Box *t) { PyObject *p; .. p = t->first; }
abbrev loading : Code
loading =
    code_of (line (Load (v 2) (first 1 param.ObjectOrNull)) ∷ line (Return None) ∷ [])
    (param.ObjectOrNull ∷ param.ObjectOrNull ∷ param.ObjectOrNull ∷ []) 2 3

abbrev three_with : List Tracked → List Bool → Shape
three_with slots more = record (two_with slots more) { vars = Token 0 ∷ Token 1 ∷ Unset ∷ [] }

-- the field of s is tracked and holds NULL. t may be s: then it is found, and touched already. Or it isn't
may_be_one : edges_at loading (place 0 0 0 (three_with (slot_of 0 Null ∷ []) []))
    ≡ sends (1 ∷ 0 ∷ 2 ∷ 0 ∷ 7 ∷ 7 ∷ 7 ∷ 7 ∷ 0 ∷ 1 ∷ 0 ∷ 400 ∷ 401 ∷ 1 ∷ 0 ∷ [])
    (c 0 ∷ ((1, pos 1) ∷ (2, pos 1) ∷ []) ∷ [])
    ∷ sends (1 ∷ 0 ∷ 1 ∷ 0 ∷ 7 ∷ 8 ∷ 7 ∷ 8 ∷ 0 ∷ 1 ∷ 0 ∷ 400 ∷ 401 ∷ 1 ∷ 0 ∷ 0 ∷ []) (c 0 ∷ c 1 ∷ c 2 ∷ []) ∷ []
may_be_one = refl

-- the field of t itself is tracked: there is nothing else that it may be
is_its_own : edges_at loading (at_entry (three_with (slot_of 0 Null ∷ slot_of 1 Null ∷ []) []))
    ≡ sends (1 ∷ 0 ∷ 2 ∷ 0 ∷ 7 ∷ 8 ∷ 7 ∷ 8 ∷ 0 ∷ 1 ∷ 0 ∷ 400 ∷ 401 ∷ 1 ∷ 1 ∷ 1 ∷ 400 ∷ 401 ∷ 1 ∷ 0 ∷ 0 ∷ [])
    (c 0 ∷ [] ∷ [] ∷ []) ∷ []
is_its_own = refl

-- p holds what the field holds, and stands before the slot
loads_an_object : edges_at loading (place 0 2 0 (three_with (slot_of 1 (Token 2) ∷ []) (false ∷ [])))
    ≡ sends (1 ∷ 1 ∷ 0 ∷ 0 ∷ 7 ∷ 8 ∷ 7 ∷ 8 ∷ 9 ∷ 1 ∷ 1 ∷ 400 ∷ 401 ∷ 9 ∷ 0 ∷ 0 ∷ 0 ∷ []) (c 0 ∷ c 1 ∷ c 2 ∷ c 3 ∷ [])
    ∷ []
loads_an_object = refl

-- fields of made objects are unset at first, and to read them stops
abbrev made_with : List Tracked → Shape
made_with slots =
    record (plain [] (Null ∷ Token 0 ∷ [])) { vars = Null ∷ Token 0 ∷ Unset ∷ []; slots = slots; made = true ∷ [] }

unset_at_first : edges_at loading (place 0 1 0 (made_with []))
    ≡ sends (1 ∷ 0 ∷ 2 ∷ 0 ∷ 1 ∷ 7 ∷ 0 ∷ 1 ∷ 0 ∷ 400 ∷ 401 ∷ 0 ∷ 1 ∷ []) (c 0 ∷ c 1 ∷ []) ∷ []
unset_at_first = refl

stops_where_unset : edges_at loading (place 0 2 0 (made_with (slot_of 0 Unset ∷ []))) ≡ []
stops_where_unset = refl

-- t may be a made object, in p, whose field isn't tracked yet; then t is made
abbrev one_is_made : Shape
one_is_made =
    record (plain (Token 0 ∷ []) (Token 0 ∷ Token 1 ∷ [])) {
      entry = [];
      vars = Null ∷ Token 0 ∷ Token 1 ∷ [];
      made = false ∷ true ∷ [];
    }

may_be_made : edges_at loading (place 0 0 0 one_is_made)
    ≡ sends (1 ∷ 0 ∷ 1 ∷ 0 ∷ 1 ∷ 7 ∷ 7 ∷ 1 ∷ []) (c 0 ∷ ((1, pos 1) ∷ (2, pos 1) ∷ []) ∷ [])
    ∷ sends (1 ∷ 0 ∷ 1 ∷ 0 ∷ 1 ∷ 7 ∷ 8 ∷ 0 ∷ 1 ∷ []) (c 0 ∷ c 1 ∷ c 2 ∷ []) ∷ []
may_be_made = refl

-- ---- texts and numbers

-- texts aren't tracked: NULL or not; any number
abbrev loading_of : Param → Code
loading_of kind =
    code_of (line (Load (v 1) (first 0 kind)) ∷ line (Return None) ∷ []) (param.ObjectOrNull ∷ kind ∷ []) 1 2

abbrev one_object : Holding → Shape
one_object h = plain (Token 0 ∷ []) (Token 0 ∷ h ∷ [])

loads_a_text : edges_at (loading_of param.TextOrNull) (place 0 2 0 (one_object Unset))
    ≡ sends (1 ∷ 1 ∷ 0 ∷ 0 ∷ 7 ∷ 7 ∷ 1 ∷ 0 ∷ []) (c 0 ∷ c 1 ∷ [])
    ∷ sends (1 ∷ 1 ∷ 0 ∷ 0 ∷ 7 ∷ 7 ∷ 2 ∷ 0 ∷ []) (c 0 ∷ c 1 ∷ []) ∷ []
loads_a_text = refl

straight_to_the_number : edges_at (loading_of param.Int) (at_entry (one_object Unset))
    ≡ sends (1 ∷ 0 ∷ 2 ∷ 0 ∷ 7 ∷ 7 ∷ 0 ∷ 0 ∷ []) (c 0 ∷ [] ∷ []) ∷ []
straight_to_the_number = refl

loads_zero_first : edges_at (loading_of param.Int) (place 0 2 0 (one_object Unset))
    ≡ sends (1 ∷ 0 ∷ 3 ∷ 0 ∷ 7 ∷ 7 ∷ 6 ∷ 0 ∷ []) (c 0 ∷ [] ∷ c 1 ∷ []) ∷ []
loads_zero_first = refl

loads_any : edges_at (loading_of param.Int) (place 0 3 0 (one_object Number))
    ≡ frees_one (1 ∷ 1 ∷ 0 ∷ 0 ∷ 7 ∷ 7 ∷ 6 ∷ 0 ∷ []) 1 ∷ []
loads_any = refl

-- ---- globals, and the order of slots

-- static PyObject *g, *h; void f(Box *s) { PyObject *p; p = h; .. }, where g and s->first are tracked
abbrev globals : Code
globals =
    code_of (line (Load (v 1) (places.Global (name 500) param.ObjectOrNull)) ∷ line (Set (v 0) atom.Null)
    ∷ line (Return None) ∷ []) (param.ObjectOrNull ∷ param.ObjectOrNull ∷ []) 0 2

abbrev global_of : ℕ → Holding → Tracked
global_of n h = record { spot = Global (name n); held = h }

abbrev with_slots : List Holding → List Tracked → List Bool → Shape
with_slots vs slots made = record (plain [] []) { vars = vs; slots = slots; made = made }

-- h comes between g and the field: its token stands before that of the field, which becomes 3
touches_a_global : edges_at globals (place 0 1 0 (with_slots (Token 0 ∷ Unset ∷ [])
    (global_of 499 (Token 1) ∷ slot_of 0 (Token 2) ∷ []) (false ∷ false ∷ false ∷ [])))
    ≡ sends (1 ∷ 0 ∷ 2 ∷ 0 ∷ 7 ∷ 0 ∷ 0 ∷ 499 ∷ 8 ∷ 0 ∷ 500 ∷ 1 ∷ 1 ∷ 0 ∷ 400 ∷ 401 ∷ 9 ∷ 0 ∷ 0 ∷ 0 ∷ [])
    (c 0 ∷ c 1 ∷ c 2 ∷ c 3 ∷ [])
    ∷ sends (1 ∷ 0 ∷ 2 ∷ 0 ∷ 7 ∷ 0 ∷ 0 ∷ 499 ∷ 8 ∷ 0 ∷ 500 ∷ 9 ∷ 1 ∷ 0 ∷ 400 ∷ 401 ∷ 10 ∷ 0 ∷ 0 ∷ 0 ∷ 0 ∷ [])
    (c 0 ∷ c 1 ∷ c 2 ∷ [] ∷ c 3 ∷ []) ∷ []
touches_a_global = refl

-- s = NULL: nothing holds the object of the field any more, so that the field is tracked no more, and what it held is
-- dropped. The global is kept
forgets_a_field : edges_at globals (place 1 0 0 (with_slots (Token 0 ∷ Null ∷ [])
    (global_of 500 (Token 1) ∷ slot_of 0 (Token 2) ∷ []) (false ∷ false ∷ false ∷ [])))
    ≡ owes ((pos 0 ∷ pos 1 ∷ pos 0 ∷ pos 0 ∷ []) ∷ (pos 0 ∷ pos 0 ∷ pos 0 ∷ pos 1 ∷ []) ∷ [])
    (1 ∷ 2 ∷ 0 ∷ 0 ∷ 1 ∷ 1 ∷ 0 ∷ 500 ∷ 7 ∷ 0 ∷ []) (c 0 ∷ c 2 ∷ []) ∷ []
forgets_a_field = refl
