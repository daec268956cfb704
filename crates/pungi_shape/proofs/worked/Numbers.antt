-- Arithmetic, conversions, comparisons of numbers and conditions.
use Rattle.std.proofs.Common.{◌≡◌, refl, ℕ, ℤ, pos, negsuc, List, [], ◌∷◌, None, Some}
use Rattle.pungi_api.specs.declared.param.Param.TheVariants as param
use Rattle.pungi_types.specs.declared.kind.ValueKind.TheVariants as kinds
use Rattle.pungi_meaning.specs.declared.cmp.Cmp.TheVariants as cmps
use Rattle.pungi_meaning.specs.declared.op.Op.TheVariants as ops
use Rattle.pungi_code.specs.declared.code.Code.{Code}
use Rattle.pungi_code.specs.declared.instr.Instr.{Instr}
use Rattle.pungi_code.specs.declared.instr.Instr.TheVariants.{Arith, Fit, Compare, Branch, Return}
use Rattle.pungi_shape.specs.declared.holding.Holding.{Holding}
use Rattle.pungi_shape.specs.declared.holding.Holding.TheVariants.{Dead, Unset, Known, Number}
use Rattle.pungi_shape.specs.Places.{Place}
use Rattle.pungi_shape.proofs.worked.Notation.{var, v, int, label, line, code_of, plain, place, EdgeView}
use Rattle.pungi_shape.proofs.worked.Notation.{edges_at, sends}
use Rattle.pungi_shape.proofs.worked.Notation.{sends_where, frees_one, c}

-- int f(int n, int m) { return n + m < 3; }
abbrev adding : Code
adding =
    code_of (line (Arith (v 2) kinds.Int ops.Add (var 0) (var 1))
    ∷ line (Compare (v 3) cmps.Less (var 2) (int 3)) ∷ line (Return (Some (var 3))) ∷ [])
    (param.Int ∷ param.Int ∷ param.Int ∷ param.Int ∷ []) 2 2

abbrev two : List Holding
two = Number ∷ Number ∷ []

-- leading, n, m, n at entry, m at entry; then the sum stands behind m
adds : edges_at adding (place 0 0 0 (plain two (Number ∷ Number ∷ Dead ∷ Dead ∷ [])))
    ≡ sends (1 ∷ 1 ∷ 0 ∷ 0 ∷ 6 ∷ 6 ∷ 6 ∷ 6 ∷ 6 ∷ [])
    (c 0 ∷ c 1 ∷ c 2 ∷ ((1, pos 1) ∷ (2, pos 1) ∷ []) ∷ c 3 ∷ c 4 ∷ []) ∷ []
adds = refl

-- less: 1; equal, where the sum less 3 is 0: 0; greater: 0. The sum is read no more
compares : edges_at adding (place 1 0 0 (plain two (Number ∷ Number ∷ Number ∷ Dead ∷ [])))
    ≡ sends (1 ∷ 2 ∷ 0 ∷ 0 ∷ 6 ∷ 6 ∷ 6 ∷ 6 ∷ 5 ∷ []) (c 0 ∷ c 1 ∷ c 2 ∷ c 0 ∷ c 4 ∷ c 5 ∷ [])
    ∷ sends_where ((negsuc 2 ∷ pos 0 ∷ pos 0 ∷ pos 1 ∷ pos 0 ∷ pos 0 ∷ []) ∷ [])
    (1 ∷ 2 ∷ 0 ∷ 0 ∷ 6 ∷ 6 ∷ 6 ∷ 6 ∷ 4 ∷ []) (c 0 ∷ c 1 ∷ c 2 ∷ [] ∷ c 4 ∷ c 5 ∷ [])
    ∷ sends (1 ∷ 2 ∷ 0 ∷ 0 ∷ 6 ∷ 6 ∷ 6 ∷ 6 ∷ 4 ∷ []) (c 0 ∷ c 1 ∷ c 2 ∷ [] ∷ c 4 ∷ c 5 ∷ []) ∷ []
compares = refl

-- the number that is returned stands before the numbers at entry; n and m are forgotten
returns_a_number : edges_at adding (place 2 0 0 (plain two (Number ∷ Number ∷ Dead ∷ Known (pos 1) ∷ [])))
    ≡ sends (1 ∷ 2 ∷ 1 ∷ 0 ∷ 6 ∷ 6 ∷ 0 ∷ 0 ∷ 5 ∷ []) (c 0 ∷ c 3 ∷ c 4 ∷ c 5 ∷ []) ∷ []
returns_a_number = refl

-- ---- one instruction on a local m, with the parameter n

abbrev one : Instr → Code
one i = code_of (line i ∷ line (Return None) ∷ []) (param.Int ∷ param.Int ∷ []) 1 2

abbrev from : ℕ → Holding → Holding → Place
from n h k = place 0 n 0 (plain (Number ∷ []) (h ∷ k ∷ []))

-- where m was unset before: leading, n, n at entry; after it leading, n, m, n at entry
abbrev gives : Holding → List (ℕ × ℤ) → List EdgeView
gives h row = sends (1 ∷ 1 ∷ 0 ∷ 0 ∷ 6 ∷ 6 ∷ 6 ∷ []) (c 0 ∷ c 1 ∷ row ∷ c 2 ∷ []) ∷ []

doubles : edges_at (one (Arith (v 1) kinds.Int ops.Add (var 0) (var 0))) (from 0 Number Unset)
    ≡ gives Number ((1, pos 2) ∷ [])
doubles = refl

cancels : edges_at (one (Arith (v 1) kinds.Int ops.Sub (var 0) (var 0))) (from 0 Number Unset) ≡ gives Number []
cancels = refl

subtracts_from_ten : edges_at (one (Arith (v 1) kinds.Int ops.Sub (int 10) (var 0))) (from 0 Number Unset)
    ≡ gives Number ((0, pos 10) ∷ (1, negsuc 0) ∷ [])
subtracts_from_ten = refl

multiplies : edges_at (one (Arith (v 1) kinds.Int ops.Mul (int 1048576) (var 0))) (from 0 Number Unset)
    ≡ gives Number ((1, pos 1048576) ∷ [])
multiplies = refl

-- 5 is no known number, and so nothing is known of 5 - 4 but its form
of_two_constants : edges_at (one (Arith (v 1) kinds.Int ops.Sub (int 5) (int 4))) (from 0 Number Unset)
    ≡ gives Number (c 0)
of_two_constants = refl

known_of_two : edges_at (one (Arith (v 1) kinds.Int ops.Sub (int 1) (int 1))) (from 0 Number Unset)
    ≡ sends (1 ∷ 1 ∷ 0 ∷ 0 ∷ 6 ∷ 6 ∷ 4 ∷ []) (c 0 ∷ c 1 ∷ [] ∷ c 2 ∷ []) ∷ []
known_of_two = refl

-- constants past the range of int
too_large : edges_at (one (Arith (v 1) kinds.Int ops.Add (int 2147483647) (int 1))) (from 0 Number Unset) ≡ []
too_large = refl

does_not_fit : edges_at (one (Fit (v 1) kinds.Int (int 2147483648))) (from 0 Number Unset) ≡ []
does_not_fit = refl

converts : edges_at (one (Fit (v 1) kinds.Int (var 0))) (from 0 Number Unset) ≡ gives Number (c 1)
converts = refl

-- a product of variables is any number: it is 0 first, and then freed. So is one with a constant over 2^20
times_a_variable : edges_at (one (Arith (v 1) kinds.Int ops.Mul (var 0) (var 0))) (from 0 Number Unset)
    ≡ sends (1 ∷ 0 ∷ 1 ∷ 0 ∷ 6 ∷ 6 ∷ 6 ∷ []) (c 0 ∷ c 1 ∷ [] ∷ c 2 ∷ []) ∷ []
times_a_variable = refl

times_too_much : edges_at (one (Arith (v 1) kinds.Int ops.Mul (int 1048577) (var 0))) (from 0 Number Unset)
    ≡ sends (1 ∷ 0 ∷ 1 ∷ 0 ∷ 6 ∷ 6 ∷ 6 ∷ []) (c 0 ∷ c 1 ∷ [] ∷ c 2 ∷ []) ∷ []
times_too_much = refl

-- m is coordinate 2
any_number : edges_at (one (Arith (v 1) kinds.Int ops.Mul (var 0) (var 0))) (from 1 Number Number)
    ≡ frees_one (1 ∷ 1 ∷ 0 ∷ 0 ∷ 6 ∷ 6 ∷ 6 ∷ []) 2 ∷ []
any_number = refl

-- the quotient of known numbers is known, and its coordinate is freed as well
divides : edges_at (one (Arith (v 1) kinds.Int ops.Div (var 0) (int 1))) (from 0 (Known (negsuc 0)) Unset)
    ≡ sends (1 ∷ 0 ∷ 1 ∷ 0 ∷ 6 ∷ 3 ∷ 3 ∷ []) (c 0 ∷ c 1 ∷ [] ∷ c 2 ∷ []) ∷ []
divides = refl

unset_is_not_read : edges_at (one (Arith (v 1) kinds.Int ops.Add (var 0) (int 1))) (from 0 Unset Unset) ≡ []
unset_is_not_read = refl

-- ---- known numbers in comparisons

-- 1 and 0, known: greater alone
knows_both : edges_at (one (Compare (v 1) cmps.Less (var 0) (var 1))) (from 0 (Known (pos 1)) (Known (pos 0)))
    ≡ sends (1 ∷ 1 ∷ 0 ∷ 0 ∷ 6 ∷ 5 ∷ 4 ∷ []) (c 0 ∷ c 1 ∷ [] ∷ c 3 ∷ []) ∷ []
knows_both = refl

-- a constant and a known number
knows_one : edges_at (one (Compare (v 1) cmps.Greater (int 7) (var 0))) (from 0 (Known (pos 1)) Unset)
    ≡ sends (1 ∷ 1 ∷ 0 ∷ 0 ∷ 6 ∷ 5 ∷ 5 ∷ []) (c 0 ∷ c 1 ∷ c 0 ∷ c 2 ∷ []) ∷ []
knows_one = refl

-- both are 0: they are equal, under the equation that they are; n is coordinate 1
equal_known : edges_at (one (Compare (v 1) cmps.Equal (var 0) (int 0))) (from 0 (Known (pos 0)) Unset)
    ≡ sends_where ((pos 0 ∷ pos 1 ∷ pos 0 ∷ []) ∷ []) (1 ∷ 1 ∷ 0 ∷ 0 ∷ 6 ∷ 4 ∷ 5 ∷ [])
    (c 0 ∷ c 1 ∷ c 0 ∷ c 2 ∷ []) ∷ []
equal_known = refl

-- ---- conditions

-- while (n) ..: less and greater than 0 lead to the body, 0 past it
abbrev looping : Code
looping = code_of (line (Branch (var 0) (label 1) (label 2)) ∷ line (Return None) ∷ line (Return None) ∷ [])
    (param.Int ∷ []) 1 1

-- both edges to the body are one in the program
branches : edges_at looping (place 0 0 0 (plain (Number ∷ []) (Number ∷ [])))
    ≡ sends (1 ∷ 1 ∷ 0 ∷ 0 ∷ 6 ∷ 6 ∷ []) (c 0 ∷ c 1 ∷ c 2 ∷ [])
    ∷ sends_where ((pos 0 ∷ pos 1 ∷ pos 0 ∷ []) ∷ []) (1 ∷ 2 ∷ 0 ∷ 0 ∷ 6 ∷ 6 ∷ []) (c 0 ∷ c 1 ∷ c 2 ∷ [])
    ∷ sends (1 ∷ 1 ∷ 0 ∷ 0 ∷ 6 ∷ 6 ∷ []) (c 0 ∷ c 1 ∷ c 2 ∷ []) ∷ []
branches = refl
