-- The affine program of a function: its places are those that are reached from the entries, and its edges are theirs.
--   Leads code q g          an edge leads from a place to a goal
--   CallsBy code q f x g    a call leads there, after which the function f left by the exit class x
--   IsFound codes f g       a place or exit class of a function is found: an entry; where an edge leads from a place
--                           that is; and where it calls a function and that leaves by an exit class that is
--   exit_cmp x y            exit classes in the order of their lists of numbers
--   Rises cmp xs            each stands before all later ones
--   ArePlaces codes f ps    these are the places that are found, in order
--   AreExits codes f xs     these are the exit classes, in order
--   place_number ps q, exit_number xs x    the number of a place, of an exit class
--   target_of ps xs g       the target of an edge
--   equation f, equations fs    the equation that a form is 0
--   action_of exits c       the action of an edge: a row of a matrix lists the factors other than 0
--   with_numbers ps xs exits k e    the edge with numbers for its places, from place k
--   pair_cmp, rows_cmp, equation_cmp, equations_cmp, action_cmp, target_cmp    the orders of the parts of an edge:
--                           lists item by item, a prefix first; places before exits; maps, then freed coordinates, then
--                           calls
--   edge_cmp d e            edges of one source, by their targets, guards, actions and duties
--   put_edges es, edges_in_order es    edges in that order, each once: with nothing beside them; alone
--   calls_from code exits q    the edges of a place by which a function is called, for each of that function's exit
--                           classes
--   all_edges code exits q    all edges of a place
--   edges_of code exits ps xs    the edges of these places, in the order of their sources
--   pos_in o, pos_of code q    where the instruction of a place stands in the text
--   is_entry q              a place at an entry
--   program_of code exits ps xs    the program with these places and exit classes, where those of other functions are
--                           given
--   IsProgram codes f p     the program of a function
--   HasManyPlaces, HasWidePlace codes f    more than 8,192 places are found; one with more than 256 coordinates is
--   IsTooLarge codes f      one of both, of the function or of one that it reaches by calls
use Rattle.std.specs.Prelude.{◌≡◌, ◌⊎◌, ℕ, ◌<◌, ℤ, Bool, true, false, List, [], ◌∷◌, ◌++◌, length, map}
use Rattle.std.specs.Prelude.{slice_get, Option}
use Rattle.std.specs.Prelude.{Some, None}
use Rattle.std.specs.List.{All, AllPairs, IsAmong, count_by, enumerate_from, flat_map, position_or_len, range_with_len}
use Rattle.std.specs.Ordering.{int_cmp, nat_cmp, is_eq, ordering_then}
use Rattle.std.specs.declared.cmp.Ordering.{Ordering}
use Rattle.std.specs.declared.cmp.Ordering.TheVariants.{Less, Greater}
use Rattle.std.specs.Cmp.Lexicographic.{slice_cmp}
use Rattle.std.specs.FinMap.{put}
use Rattle.pungi_base.specs.declared.pos.Pos.{Pos}
use Rattle.pungi_domain.specs.declared.action.Action.{Action}
use Rattle.pungi_domain.specs.declared.action.Action.TheVariants.{Map, Free, Call}
use Rattle.pungi_domain.specs.declared.affine_edge.AffineEdge.{AffineEdge}
use Rattle.pungi_domain.specs.declared.affine_program.AffineProgram.{AffineProgram}
use Rattle.pungi_domain.specs.declared.equation.Equation.{Equation}
use Rattle.pungi_domain.specs.declared.target.Target.{Target}
use Rattle.pungi_domain.specs.declared.target.Target.TheVariants as target
use Rattle.pungi_meaning.specs.Run.{nowhere}
use Rattle.pungi_code.specs.declared.code.Code.{Code}
use Rattle.pungi_code.specs.declared.code.Codes.{Codes}
use Rattle.pungi_code.specs.Run.{code_at}
use Rattle.pungi_code.specs.declared.code.Line.{Line}
use Rattle.pungi_shape.specs.declared.shape.Shape.{Shape}
use Rattle.pungi_shape.specs.Forms.{Form, factors}
use Rattle.pungi_shape.specs.Shapes.{numbers_of_shape, width_of}
use Rattle.pungi_shape.specs.Liveness.{instr_at}
use Rattle.pungi_shape.specs.Named.{callee_of, callees_of, functions_from, statics_of}
use Rattle.pungi_shape.specs.Places.{Place, at_entry, place_cmp, is_place, instr_in, width_at, entry_shapes}
use Rattle.pungi_shape.specs.Edges.{Goal, to_place, to_exit, Change, by_map, by_any, by_exit, Edge}
use Rattle.pungi_shape.specs.Edges.{call_edges, edges_from}
use Rattle.pungi_shape.specs.Limits.{most_places, most_coordinates}

-- ---- what is found

pub record Leads (code : Code) (q : Place) (g : Goal) : Type 0 where
  pub edge : Edge
  pub is_there : IsAmong (edges_from code q) edge
  pub goal : edge.goal ≡ g

pub record CallsBy (code : Code) (q : Place) (f : ℕ) (x : Shape) (g : Goal) : Type 0 where
  pub edge : Edge
  pub is_there : IsAmong (call_edges code q f x) edge
  pub goal : edge.goal ≡ g

pub data IsFound (codes : Codes) : ℕ → Goal → Type 0 where
  enters : (f : ℕ) (code : Code) (s : Shape) → code_at codes f ≡ Some code
      → IsAmong (entry_shapes (statics_of codes f) code) s → IsFound codes f (to_place (at_entry s))
  goes : (f : ℕ) (code : Code) (q : Place) (g : Goal) → code_at codes f ≡ Some code → IsFound codes f (to_place q)
      → Leads code q g → IsFound codes f g
  calls : (f h : ℕ) (code : Code) (q : Place) (x : Shape) (g : Goal) → code_at codes f ≡ Some code
      → IsFound codes f (to_place q) → IsFound codes h (to_exit x) → CallsBy code q h x g → IsFound codes f g

-- ---- order

abbrev pub exit_cmp : Shape → Shape → Ordering
exit_cmp x y = slice_cmp nat_cmp (numbers_of_shape x) (numbers_of_shape y)

abbrev pub Rises : {A : Type 0} → (A → A → Ordering) → List A → Type 0
Rises cmp xs = AllPairs (λ x y. cmp x y ≡ Less) xs

pub record ArePlaces (codes : Codes) (f : ℕ) (ps : List Place) : Type 0 where
  pub rise : Rises place_cmp ps
  pub found : All (λ q. IsFound codes f (to_place q)) ps
  pub all : (q : Place) → IsFound codes f (to_place q) → IsAmong ps q

pub record AreExits (codes : Codes) (f : ℕ) (xs : List Shape) : Type 0 where
  pub rise : Rises exit_cmp xs
  pub found : All (λ x. IsFound codes f (to_exit x)) xs
  pub all : (x : Shape) → IsFound codes f (to_exit x) → IsAmong xs x

-- ---- numbers for places

abbrev pub place_number : List Place → Place → ℕ
place_number ps q = position_or_len (is_place q) ps

abbrev pub exit_number : List Shape → Shape → ℕ
exit_number xs x = position_or_len (λ y. is_eq (exit_cmp x y)) xs

abbrev pub target_of : List Place → List Shape → Goal → Target
target_of ps xs (to_place q) = target.Place (place_number ps q)
target_of ps xs (to_exit x) = target.Exit (exit_number xs x)

abbrev pub equation : Form → Equation
equation f = record { coefficients = f }

abbrev pub equations : List Form → List Equation
equations fs = map equation fs

abbrev pub action_of : (ℕ → List Shape) → Change → Action
action_of exits (by_map rows) = Map (record { rows = map factors rows })
action_of exits (by_any c) = Free c
action_of exits (by_exit f x onto) = Call f (exit_number (exits f) x) onto

abbrev pub with_numbers : List Place → List Shape → (ℕ → List Shape) → ℕ → Edge → AffineEdge
with_numbers ps xs exits k e = record {
  from = k;
  to = target_of ps xs e.goal;
  guard = equations e.guard;
  action = action_of exits e.change;
  duties = equations e.duties;
}

-- ---- the order of edges

abbrev pub pair_cmp : ℕ × ℤ → ℕ × ℤ → Ordering
pair_cmp p q = ordering_then (nat_cmp p.0 q.0) (int_cmp p.1 q.1)

abbrev pub rows_cmp : List (List (ℕ × ℤ)) → List (List (ℕ × ℤ)) → Ordering
rows_cmp rows others = slice_cmp (slice_cmp pair_cmp) rows others

abbrev pub equation_cmp : Equation → Equation → Ordering
equation_cmp e f = slice_cmp int_cmp e.coefficients f.coefficients

abbrev pub equations_cmp : List Equation → List Equation → Ordering
equations_cmp es fs = slice_cmp equation_cmp es fs

abbrev pub action_cmp : Action → Action → Ordering
action_cmp (Map m) (Map n) = rows_cmp m.rows n.rows
action_cmp (Map m) (Free c) = Less
action_cmp (Map m) (Call f class onto) = Less
action_cmp (Free c) (Map m) = Greater
action_cmp (Free c) (Free d) = nat_cmp c d
action_cmp (Free c) (Call f class onto) = Less
action_cmp (Call f class onto) (Map m) = Greater
action_cmp (Call f class onto) (Free c) = Greater
action_cmp (Call f class onto) (Call g other there) =
    ordering_then (nat_cmp f g) (ordering_then (nat_cmp class other) (slice_cmp nat_cmp onto there))

abbrev pub target_cmp : Target → Target → Ordering
target_cmp (target.Place k) (target.Place l) = nat_cmp k l
target_cmp (target.Place k) (target.Exit l) = Less
target_cmp (target.Exit k) (target.Place l) = Greater
target_cmp (target.Exit k) (target.Exit l) = nat_cmp k l

abbrev pub edge_cmp : AffineEdge → AffineEdge → Ordering
edge_cmp d e =
    ordering_then (target_cmp d.to e.to) (ordering_then (equations_cmp d.guard e.guard)
    (ordering_then (action_cmp d.action e.action) (equations_cmp d.duties e.duties)))

abbrev pub put_edges : List AffineEdge → List (AffineEdge × Unit {0})
put_edges [] = []
put_edges (e ∷ es) = put edge_cmp e tt (put_edges es)

abbrev pub edges_in_order : List AffineEdge → List AffineEdge
edges_in_order es = map (λ e. e.0) (put_edges es)

-- ---- the program

abbrev pub calls_from : Code → (ℕ → List Shape) → Place → List Edge
calls_from code exits q =
    flat_map (λ f. flat_map (call_edges code q f) (exits f)) (callee_of (instr_at code (instr_in q)))

abbrev pub all_edges : Code → (ℕ → List Shape) → Place → List Edge
all_edges code exits q = edges_from code q ++ calls_from code exits q

abbrev pub edges_of : Code → (ℕ → List Shape) → List Place → List Shape → List AffineEdge
edges_of code exits ps xs =
    flat_map (λ q. edges_in_order (map (with_numbers ps xs exits q.0) (all_edges code exits q.1))) (enumerate_from 0 ps)

abbrev pub pos_in : Option Line → Pos
pos_in None = nowhere
pos_in (Some line) = line.pos

abbrev pub pos_of : Code → Place → Pos
pos_of code q = pos_in (slice_get code.instrs (instr_in q))

abbrev pub is_entry : Place → Bool
is_entry (at_entry s) = true
is_entry q = false

abbrev pub program_of : Code → (ℕ → List Shape) → List Place → List Shape → AffineProgram
program_of code exits ps xs = record {
  widths = map width_at ps;
  at = map (pos_of code) ps;
  exits = map width_of xs;
  edges = edges_of code exits ps xs;
  entries = range_with_len 0 (count_by is_entry ps);
}

pub record IsProgram (codes : Codes) (f : ℕ) (p : AffineProgram) : Type 0 where
  pub code : Code
  pub is_code : code_at codes f ≡ Some code
  pub places : List Place
  pub are_places : ArePlaces codes f places
  pub exits : List Shape
  pub are_exits : AreExits codes f exits
  pub others : ℕ → List Shape
  pub are_others : All (λ g. AreExits codes g (others g)) (callees_of codes f)
  pub program : p ≡ program_of code others places exits

-- ---- programs that are too large

pub record HasManyPlaces (codes : Codes) (f : ℕ) : Type 0 where
  pub places : List Place
  pub rise : Rises place_cmp places
  pub found : All (λ q. IsFound codes f (to_place q)) places
  pub many : most_places < length places

pub record HasWidePlace (codes : Codes) (f : ℕ) : Type 0 where
  pub place : Place
  pub found : IsFound codes f (to_place place)
  pub wide : most_coordinates < width_at place

pub record IsTooLarge (codes : Codes) (f : ℕ) : Type 0 where
  pub function : ℕ
  pub is_called : IsAmong (functions_from codes f) function
  pub large : HasManyPlaces codes function ⊎ HasWidePlace codes function
