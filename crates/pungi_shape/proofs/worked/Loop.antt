-- void f(PyObject *x, int n) { int i; for (i = 0; i < n; i++) { Py_INCREF(x); Py_DECREF(x); } }
-- The whole program. x is NULL or an object; the program under NULL ends at the first call. Of i it is known at the
-- loop's head that it is 0, that it is 1, or nothing; so each place of the loop stands three times where x is an
-- object.
use Rattle.std.proofs.Common.{◌≡◌, refl, ℕ, ℤ, pos, negsuc, true, List, [], ◌∷◌, ◌++◌, None, map}
use Rattle.std.specs.List.{range_with_len}
use Rattle.std.specs.FinMap.{is_sorted}
use Rattle.pungi_api.specs.declared.answer.Answer.TheVariants as answer
use Rattle.pungi_api.specs.declared.call_answer.CallAnswer.TheVariants.{Of}
use Rattle.pungi_api.specs.declared.own_effect.OwnEffect.{OwnEffect}
use Rattle.pungi_api.specs.declared.own_effect.OwnEffect.TheVariants.{IncRef, DecRef}
use Rattle.pungi_api.specs.declared.param.Param.TheVariants as param
use Rattle.pungi_api.specs.declared.take.Take.TheVariants as take
use Rattle.pungi_types.specs.declared.kind.ValueKind.TheVariants as kinds
use Rattle.pungi_meaning.specs.declared.cmp.Cmp.TheVariants as cmps
use Rattle.pungi_meaning.specs.declared.op.Op.TheVariants as ops
use Rattle.pungi_domain.specs.declared.affine_edge.AffineEdge.{AffineEdge}
use Rattle.pungi_domain.specs.declared.target.Target.TheVariants as target
use Rattle.pungi_code.specs.declared.code.Code.{Code}
use Rattle.pungi_code.specs.declared.instr.Instr.{Instr}
use Rattle.pungi_code.specs.declared.instr.Instr.TheVariants.{Set, Arith, Compare, Api, Jump, Branch, Return}
use Rattle.pungi_code.specs.declared.instr.Instr.TheVariants.{Unset as Forget}
use Rattle.std.specs.Prelude.{Some}
use Rattle.pungi_shape.specs.declared.holding.Holding.{Holding}
use Rattle.pungi_shape.specs.declared.holding.Holding.TheVariants.{Dead, Unset, Null, Known, Number, Token}
use Rattle.pungi_shape.specs.declared.shape.Shape.{Shape}
use Rattle.pungi_shape.specs.Shapes.{exit_of}
use Rattle.pungi_shape.specs.Places.{Place, at_entry, place_cmp}
use Rattle.pungi_shape.specs.Programs.{equation, program_of}
use Rattle.pungi_shape.proofs.worked.Notation.{no_exits, reached}
use Rattle.pungi_shape.proofs.worked.Notation.{entries}
use Rattle.pungi_shape.proofs.worked.Notation.{var, v, int, label, line_at, code_of, plain, place, Row, by, c}

abbrev count_of : OwnEffect → Instr
count_of own = Api None (record {
  own = Some own;
  params = param.Object ∷ [];
  takes = take.Never ∷ [];
  answer = Of answer.Void;
}) (var 0 ∷ [])

abbrev loop : Code
loop =
    code_of (line_at 34 (Forget (v 2)) ∷ line_at 44 (Set (v 2) (int 0))
    ∷ line_at 51 (Compare (v 3) cmps.Less (var 2) (var 1)) ∷ line_at 37 (Branch (var 3) (label 4) (label 8))
    ∷ line_at 63 (count_of IncRef) ∷ line_at 77 (count_of DecRef)
    ∷ line_at 57 (Arith (v 2) kinds.Int ops.Add (var 2) (int 1)) ∷ line_at 37 (Jump (label 2))
    ∷ line_at 93 (Return None) ∷ []) (param.ObjectOrNull ∷ param.Int ∷ param.Int ∷ param.Int ∷ []) 2 3

-- ---- places

-- x, i, and the variable of the comparison
abbrev shape : Holding → Holding → Holding → Shape
shape x i t = plain (x ∷ Number ∷ []) (x ∷ Number ∷ i ∷ t ∷ [])

-- x is NULL; x is an object
abbrev null : Holding → Holding → Shape
null i t = shape Null i t

abbrev object : Holding → Holding → Shape
object i t = shape (Token 0) i t

abbrev zero' : Holding
zero' = Known (pos 0)

abbrev one : Holding
one = Known (pos 1)

abbrev end_of : Holding → Shape
end_of x = plain (x ∷ Number ∷ []) (Unset ∷ Unset ∷ Unset ∷ Dead ∷ [])

-- where x is an object: i is 0, 1, any
abbrev all_turns : ℕ → ℕ → List Place
all_turns pc n =
    place pc n 0 (object zero' Dead) ∷ place pc n 0 (object one Dead) ∷ place pc n 0 (object Number Dead) ∷ []

abbrev places : List Place
places =
    at_entry (null Unset Dead) ∷ at_entry (object Unset Dead)
    ∷ place 0 0 0 (null Unset Dead) ∷ place 0 0 0 (object Unset Dead)
    ∷ place 1 0 0 (null Unset Dead) ∷ place 1 0 0 (object Unset Dead)
    ∷ place 2 0 0 (null zero' Dead) ∷ (all_turns 2 0
    ++ place 3 0 0 (null zero' zero') ∷ place 3 0 0 (null zero' one)
    ∷ place 3 0 0 (object zero' zero') ∷ place 3 0 0 (object zero' one)
    ∷ place 3 0 0 (object one zero') ∷ place 3 0 0 (object one one)
    ∷ place 3 0 0 (object Number zero') ∷ place 3 0 0 (object Number one)
    ∷ place 4 0 0 (null zero' Dead) ∷ (all_turns 4 0 ++ (all_turns 4 1 ++ (all_turns 5 0 ++ (all_turns 5 1
    ++ (all_turns 6 0
    ++ place 7 0 0 (object one Dead) ∷ place 7 0 0 (object Number Dead)
    ∷ place 8 0 0 (null zero' Dead) ∷ (all_turns 8 0
    ++ place 8 1 0 (end_of Null) ∷ place 8 1 0 (end_of (Token 0)) ∷ [])))))))

abbrev exits : List Shape
exits = exit_of (end_of Null) ∷ exit_of (end_of (Token 0)) ∷ []

they_stand_in_order : is_sorted {X = ℕ} place_cmp (map (λ q. (q, 0)) places) ≡ true
they_stand_in_order = refl

they_are_reached : reached loop 60 ≡ places
they_are_reached = refl

entries_are_first : entries loop ≡ null Unset Dead ∷ object Unset Dead ∷ []
entries_are_first = refl

-- ---- edges

abbrev to : ℕ → ℕ → List Row → AffineEdge
to k l rows = record { from = k; to = target.Place l; guard = []; action = by rows; duties = [] }

abbrev to_where : List ℤ → ℕ → ℕ → List Row → AffineEdge
to_where e k l rows =
    record { from = k; to = target.Place l; guard = equation e ∷ []; action = by rows; duties = [] }

abbrev same : ℕ → List Row
same w = map c (range_with_len 0 w)

-- where x is an object, at the loop's head: leading, n, i, n at entry, balance of x; with the comparison's variable
-- behind i
abbrev to_head : ℕ → ℕ → ℕ → List AffineEdge
to_head k ends turns =
    to k ends (c 0 ∷ c 1 ∷ c 2 ∷ [] ∷ c 3 ∷ c 4 ∷ [])
    ∷ to_where (pos 0 ∷ negsuc 0 ∷ pos 1 ∷ pos 0 ∷ pos 0 ∷ []) k ends (c 0 ∷ c 1 ∷ c 2 ∷ [] ∷ c 3 ∷ c 4 ∷ [])
    ∷ to k turns (c 0 ∷ c 1 ∷ c 2 ∷ c 0 ∷ c 3 ∷ c 4 ∷ []) ∷ []

abbrev past_head : ℕ → ℕ → ℕ → ℕ → List AffineEdge
past_head k end l turn =
    to_where (pos 0 ∷ pos 0 ∷ pos 0 ∷ pos 1 ∷ pos 0 ∷ pos 0 ∷ []) k end (c 0 ∷ c 1 ∷ c 2 ∷ c 4 ∷ c 5 ∷ [])
    ∷ to l turn (c 0 ∷ c 1 ∷ c 2 ∷ c 4 ∷ c 5 ∷ []) ∷ []

abbrev raised : ℕ → ℕ → AffineEdge
raised k l = to k l (c 0 ∷ c 1 ∷ c 2 ∷ c 3 ∷ ((0, pos 1) ∷ (4, pos 1) ∷ []) ∷ [])

abbrev lowered : ℕ → ℕ → AffineEdge
lowered k l = to k l (c 0 ∷ c 1 ∷ c 2 ∷ c 3 ∷ ((0, negsuc 0) ∷ (4, pos 1) ∷ []) ∷ [])

abbrev counted : ℕ → ℕ → AffineEdge
counted k l = to k l (c 0 ∷ c 1 ∷ ((0, pos 1) ∷ (2, pos 1) ∷ []) ∷ c 3 ∷ c 4 ∷ [])

abbrev left : ℕ → AffineEdge
left k = to k 41 (c 0 ∷ c 3 ∷ c 4 ∷ [])

abbrev edges : List AffineEdge
edges =
    -- the entries; int i
    to 0 2 (c 0 ∷ c 1 ∷ c 1 ∷ []) ∷ to 1 3 (c 0 ∷ c 1 ∷ c 1 ∷ [] ∷ [])
    ∷ to 2 4 (same 3) ∷ to 3 5 (same 4)
    -- i = 0
    ∷ to 4 6 (c 0 ∷ c 1 ∷ [] ∷ c 2 ∷ []) ∷ to 5 7 (c 0 ∷ c 1 ∷ [] ∷ c 2 ∷ c 3 ∷ [])
    -- i < n
    ∷ to 6 10 (c 0 ∷ c 1 ∷ c 2 ∷ [] ∷ c 3 ∷ [])
    ∷ to_where (pos 0 ∷ negsuc 0 ∷ pos 1 ∷ pos 0 ∷ []) 6 10 (c 0 ∷ c 1 ∷ c 2 ∷ [] ∷ c 3 ∷ [])
    ∷ to 6 11 (c 0 ∷ c 1 ∷ c 2 ∷ c 0 ∷ c 3 ∷ [])
    ∷ (to_head 7 12 13 ++ (to_head 8 14 15 ++ (to_head 9 16 17
    -- the branch
    ++ to_where (pos 0 ∷ pos 0 ∷ pos 0 ∷ pos 1 ∷ pos 0 ∷ []) 10 36 (c 0 ∷ c 1 ∷ c 2 ∷ c 4 ∷ [])
    ∷ to 11 18 (c 0 ∷ c 1 ∷ c 2 ∷ c 4 ∷ [])
    ∷ (past_head 12 37 13 19 ++ (past_head 14 38 15 20 ++ (past_head 16 39 17 21
    -- Py_INCREF(x), Py_DECREF(x)
    ++ raised 19 22 ∷ raised 20 23 ∷ raised 21 24
    ∷ to 22 25 (same 5) ∷ to 23 26 (same 5) ∷ to 24 27 (same 5)
    ∷ lowered 25 28 ∷ lowered 26 29 ∷ lowered 27 30
    ∷ to 28 31 (same 5) ∷ to 29 32 (same 5) ∷ to 30 33 (same 5)
    -- i++; back to the head
    ∷ counted 31 34 ∷ counted 32 35 ∷ counted 33 35
    ∷ to 34 8 (same 5) ∷ to 35 9 (same 5)
    -- the end
    ∷ to 36 40 (c 0 ∷ c 3 ∷ []) ∷ left 37 ∷ left 38 ∷ left 39
    ∷ (record { from = 40; to = target.Exit 0; guard = []; action = by (same 2); duties = [] })
    ∷ (record {
      from = 41;
      to = target.Exit 1;
      guard = [];
      action = by (same 3);
      duties = equation (pos 0 ∷ pos 0 ∷ pos 1 ∷ []) ∷ [];
    }) ∷ []))))))

its_edges : (program_of loop no_exits places exits).edges ≡ edges
its_edges = refl

its_widths : (program_of loop no_exits places exits).widths
    ≡ 2 ∷ 2 ∷ 3 ∷ 4 ∷ 3 ∷ 4 ∷ 4 ∷ 5 ∷ 5 ∷ 5 ∷ 5 ∷ 5 ∷ 6 ∷ 6 ∷ 6 ∷ 6 ∷ 6 ∷ 6 ∷ 4 ∷ 5 ∷ 5 ∷ 5 ∷ 5 ∷ 5 ∷ 5 ∷ 5 ∷ 5 ∷ 5
    ∷ 5 ∷ 5 ∷ 5 ∷ 5 ∷ 5 ∷ 5 ∷ 5 ∷ 5 ∷ 4 ∷ 5 ∷ 5 ∷ 5 ∷ 2 ∷ 3 ∷ []
its_widths = refl

its_exits : (program_of loop no_exits places exits).exits ≡ 2 ∷ 3 ∷ []
its_exits = refl

its_entries : (program_of loop no_exits places exits).entries ≡ 0 ∷ 1 ∷ []
its_entries = refl

its_positions : map (λ p. p.col) (program_of loop no_exits places exits).at
    ≡ 34 ∷ 34 ∷ 34 ∷ 34 ∷ 44 ∷ 44 ∷ 51 ∷ 51 ∷ 51 ∷ 51 ∷ 37 ∷ 37 ∷ 37 ∷ 37 ∷ 37 ∷ 37 ∷ 37 ∷ 37
    ∷ 63 ∷ 63 ∷ 63 ∷ 63 ∷ 63 ∷ 63 ∷ 63 ∷ 77 ∷ 77 ∷ 77 ∷ 77 ∷ 77 ∷ 77 ∷ 57 ∷ 57 ∷ 57 ∷ 37 ∷ 37
    ∷ 93 ∷ 93 ∷ 93 ∷ 93 ∷ 93 ∷ 93 ∷ []
its_positions = refl
