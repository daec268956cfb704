-- Comparisons of objects, and what is the same.
use Rattle.std.proofs.Common.{◌≡◌, refl, pos, [], ◌∷◌, None, Some, true, false}
use Rattle.pungi_api.specs.declared.param.Param.TheVariants as param
use Rattle.pungi_meaning.specs.declared.cmp.Cmp.TheVariants as cmps
use Rattle.pungi_code.specs.declared.atom.Atom.TheVariants as atom
use Rattle.pungi_code.specs.declared.code.Code.{Code}
use Rattle.pungi_code.specs.declared.instr.Instr.TheVariants.{Branch, Compare, Return}
use Rattle.pungi_shape.specs.declared.holding.Holding.TheVariants.{Dead, Null, Token}
use Rattle.pungi_shape.specs.declared.shape.Shape.{Shape}
use Rattle.pungi_shape.specs.declared.tracked.Spot.TheVariants.{Field}
use Rattle.pungi_shape.proofs.worked.Notation.{entries}
use Rattle.pungi_shape.proofs.worked.Notation.{var, v, label, name, line, code_of, plain, place, edges_at, sends}
use Rattle.pungi_shape.proofs.worked.Notation.{c}

-- int f(PyObject *x, PyObject *y) { return x == y; }
abbrev comparing : Code
comparing =
    code_of (line (Compare (v 2) cmps.Equal (var 0) (var 1)) ∷ line (Return (Some (var 2))) ∷ [])
    (param.ObjectOrNull ∷ param.ObjectOrNull ∷ param.Int ∷ []) 2 2

-- each of x and y is NULL or an object; two objects have a token each, though they may be one
four_entries : entries comparing
    ≡ plain (Null ∷ Null ∷ []) (Null ∷ Null ∷ Dead ∷ [])
    ∷ plain (Null ∷ Token 0 ∷ []) (Null ∷ Token 0 ∷ Dead ∷ [])
    ∷ plain (Token 0 ∷ Null ∷ []) (Token 0 ∷ Null ∷ Dead ∷ [])
    ∷ plain (Token 0 ∷ Token 1 ∷ []) (Token 0 ∷ Token 1 ∷ Dead ∷ []) ∷ []
four_entries = refl

-- leading, balance of x, balance of y. One object: its balance is the sum of both; or two. The result comes before
-- the balances
one_or_two : edges_at comparing (place 0 0 0 (plain (Token 0 ∷ Token 1 ∷ []) (Token 0 ∷ Token 1 ∷ Dead ∷ [])))
    ≡ sends (1 ∷ 1 ∷ 0 ∷ 0 ∷ 7 ∷ 7 ∷ 7 ∷ 7 ∷ 5 ∷ 0 ∷ []) (c 0 ∷ c 0 ∷ ((1, pos 1) ∷ (2, pos 1) ∷ []) ∷ [])
    ∷ sends (1 ∷ 1 ∷ 0 ∷ 0 ∷ 7 ∷ 8 ∷ 7 ∷ 8 ∷ 4 ∷ 0 ∷ 0 ∷ []) (c 0 ∷ [] ∷ c 1 ∷ c 2 ∷ []) ∷ []
one_or_two = refl

-- they hold one token: the same alone
one_token : edges_at comparing (place 0 0 0 (plain (Token 0 ∷ Token 0 ∷ []) (Token 0 ∷ Token 0 ∷ Dead ∷ [])))
    ≡ sends (1 ∷ 1 ∷ 0 ∷ 0 ∷ 7 ∷ 7 ∷ 7 ∷ 7 ∷ 5 ∷ 0 ∷ []) (c 0 ∷ c 0 ∷ c 1 ∷ []) ∷ []
one_token = refl

null_and_object : edges_at comparing (place 0 0 0 (plain (Null ∷ Token 0 ∷ []) (Null ∷ Token 0 ∷ Dead ∷ [])))
    ≡ sends (1 ∷ 1 ∷ 0 ∷ 0 ∷ 1 ∷ 7 ∷ 1 ∷ 7 ∷ 4 ∷ 0 ∷ []) (c 0 ∷ [] ∷ c 1 ∷ []) ∷ []
null_and_object = refl

two_nulls : edges_at comparing (place 0 0 0 (plain (Null ∷ Null ∷ []) (Null ∷ Null ∷ Dead ∷ [])))
    ≡ sends (1 ∷ 1 ∷ 0 ∷ 0 ∷ 1 ∷ 1 ∷ 1 ∷ 1 ∷ 5 ∷ []) (c 0 ∷ c 0 ∷ []) ∷ []
two_nulls = refl

-- x and y are made objects: they differ
abbrev made_shape : Shape
made_shape = record (plain [] (Token 0 ∷ Token 1 ∷ Dead ∷ [])) { made = true ∷ true ∷ [] }

made_ones_differ : edges_at comparing (place 0 0 0 made_shape)
    ≡ sends (1 ∷ 1 ∷ 0 ∷ 0 ∷ 7 ∷ 8 ∷ 4 ∷ 1 ∷ 1 ∷ []) (c 0 ∷ [] ∷ c 1 ∷ c 2 ∷ []) ∷ []
made_ones_differ = refl

-- one of two is made, and no field of the other is tracked: they may be one, and then that is made
abbrev one_made : Shape
one_made = record (plain [] (Token 0 ∷ Token 1 ∷ Dead ∷ [])) { made = false ∷ true ∷ [] }

may_be_the_made_one : edges_at comparing (place 0 0 0 one_made)
    ≡ sends (1 ∷ 1 ∷ 0 ∷ 0 ∷ 7 ∷ 7 ∷ 5 ∷ 1 ∷ []) (c 0 ∷ c 0 ∷ ((1, pos 1) ∷ (2, pos 1) ∷ []) ∷ [])
    ∷ sends (1 ∷ 1 ∷ 0 ∷ 0 ∷ 7 ∷ 8 ∷ 4 ∷ 0 ∷ 1 ∷ []) (c 0 ∷ [] ∷ c 1 ∷ c 2 ∷ []) ∷ []
may_be_the_made_one = refl

-- a field of the other is tracked, which wasn't unset at first: they differ
abbrev made_and_base : Shape
made_and_base =
    record one_made { slots = (record { spot = Field 0 (name 400) (name 401); held = Null }) ∷ [] }

not_the_base : edges_at comparing (place 0 0 0 made_and_base)
    ≡ sends (1 ∷ 1 ∷ 0 ∷ 0 ∷ 7 ∷ 8 ∷ 4 ∷ 1 ∷ 0 ∷ 400 ∷ 401 ∷ 1 ∷ 0 ∷ 1 ∷ []) (c 0 ∷ [] ∷ c 1 ∷ c 2 ∷ []) ∷ []
not_the_base = refl

-- int f(void) { return <static 0> == <static 1>; }
abbrev statics : Code
statics =
    code_of (line (Compare (v 0) cmps.Equal (atom.Static 1) (atom.Static 0)) ∷ line (Return (Some (var 0))) ∷ [])
    (param.Int ∷ []) 0 0

abbrev two_statics : Shape
two_statics =
    record (plain [] (Token 0 ∷ Token 1 ∷ [])) { vars = Dead ∷ []; statics = (0, Token 0) ∷ (1, Token 1) ∷ [] }

statics_enter : entries statics ≡ two_statics ∷ []
statics_enter = refl

statics_differ : edges_at statics (place 0 0 0 two_statics)
    ≡ sends (1 ∷ 1 ∷ 0 ∷ 0 ∷ 4 ∷ 7 ∷ 8 ∷ 0 ∷ 0 ∷ []) (c 0 ∷ [] ∷ c 1 ∷ c 2 ∷ []) ∷ []
statics_differ = refl

-- if (x) ..: by the shape; a text that isn't NULL as an object
abbrev asking : Code
asking = code_of (line (Branch (var 0) (label 1) (label 2)) ∷ line (Return None) ∷ line (Return None) ∷ [])
    (param.ObjectOrNull ∷ []) 1 1

an_object_is_true : edges_at asking (place 0 0 0 (plain (Token 0 ∷ []) (Token 0 ∷ [])))
    ≡ sends (1 ∷ 1 ∷ 0 ∷ 0 ∷ 7 ∷ 7 ∷ 0 ∷ []) (c 0 ∷ c 1 ∷ []) ∷ []
an_object_is_true = refl

null_is_false : edges_at asking (place 0 0 0 (plain (Null ∷ []) (Null ∷ [])))
    ≡ sends (1 ∷ 2 ∷ 0 ∷ 0 ∷ 1 ∷ 1 ∷ []) (c 0 ∷ []) ∷ []
null_is_false = refl
