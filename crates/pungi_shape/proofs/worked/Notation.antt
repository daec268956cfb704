-- How codes, places and edges are written in the worked codes.
--   v n, var n, int n, label n, name n    a variable, an atom that is one, a constant, a label, a name
--   line_at c i, line i     an instruction, at a column of the text; anywhere
--   code_under terms is vars params locals    a code under these terms
--   code_of is vars params locals    a code where each object is counted and nothing is declared
--   plain hs vs             a shape without static objects, returned value and slots, in which no token is made
--   place pc n k s          a place at a point
--   entries code            the shapes at its entries
--   short_holding h         one number for what is held: 0 for unset, 1 for NULL, 2 for a text, 3 to 5 for -1, 0 and 1,
--                           6 for another number, 7 + t for the token t; none for what isn't a holder
--   short_tracked r, short_shape s, short_place q    the numbers of a slot, of a shape and of a place, with these
--   EdgeView, view_with exits e, view_of e    an edge: the numbers of the place that it leads to, with 0 in front at an
--                           entry, 1 at a point and 2 for an exit class; guard, action and duties. Exit classes of
--                           other functions have their numbers in lists
--   goal_numbers g, no_exits f    these numbers; no such lists
--   edges_at code q         the edges of a place
--   Row, by rows            a row of a matrix; the map of such rows
--   sends, sends_where, owes, frees_one    an edge with a map alone; with a guard; with duties; one that frees a
--                           coordinate
--   c k                     the row of one coordinate
--   next_of g, left code q qs seen, explore code n qs seen, reached code n    the places that are reached from the
--                           entries in so many steps, in order
use Rattle.std.specs.Prelude.{ℕ, ◌+◌, ℤ, pos, negsuc, false, List, [], ◌∷◌, ◌++◌, length, map, replicate}
use Rattle.std.specs.List.{flat_map, list_any}
use Rattle.std.specs.FinMap.{put}
use Rattle.std.specs.Prelude.{zero, suc, None, if◌then◌else◌}
use Rattle.pungi_base.specs.declared.names.Name.{Name}
use Rattle.pungi_api.specs.declared.param.Param.{Param}
use Rattle.pungi_api.specs.declared.terms.Terms.{Terms}
use Rattle.pungi_api.specs.Terms.{counting_all}
use Rattle.pungi_domain.specs.declared.action.Action.{Action}
use Rattle.pungi_domain.specs.declared.action.Action.TheVariants.{Map, Free}
use Rattle.pungi_code.specs.declared.atom.Atom.{Atom}
use Rattle.pungi_code.specs.declared.atom.Atom.TheVariants as atom
use Rattle.pungi_code.specs.declared.atom.Var.{Var}
use Rattle.pungi_code.specs.declared.code.Code.{Code}
use Rattle.pungi_code.specs.declared.code.Line.{Line}
use Rattle.pungi_code.specs.declared.instr.Instr.{Instr}
use Rattle.pungi_code.specs.declared.instr.Label.{Label}
use Rattle.pungi_shape.specs.declared.holding.Holding.{Holding}
use Rattle.pungi_shape.specs.declared.holding.Holding.TheVariants.{Dead, Unset, Null, Text, Known, Number, Token}
use Rattle.pungi_shape.specs.declared.shape.Shape.{Shape}
use Rattle.pungi_shape.specs.declared.tracked.Tracked.{Tracked}
use Rattle.pungi_shape.specs.Forms.{one_if}
use Rattle.pungi_shape.specs.Shapes.{before_slots, distinct, numbers_of_spot, tokens_in}
use Rattle.pungi_shape.specs.Places.{Place, after_call, at_entry, at_point, entry_shapes, is_place, numbers_of_point}
use Rattle.pungi_shape.specs.Places.{place_cmp}
use Rattle.pungi_shape.specs.Edges.{Goal, to_place, to_exit, Edge, edges_from}
use Rattle.pungi_shape.specs.Named.{named_statics}
use Rattle.pungi_shape.specs.Programs.{action_of}

-- ---- codes

abbrev pub v : ℕ → Var
v n = record { 0 = n }

abbrev pub var : ℕ → Atom
var n = atom.Var (v n)

abbrev pub int : ℕ → Atom
int n = atom.Int (pos n)

abbrev pub label : ℕ → Label
label n = record { 0 = n }

abbrev pub name : ℕ → Name
name n = record { 0 = n }

-- the positions don't matter, but those of the loop
abbrev pub line_at : ℕ → Instr → Line
line_at c i = record { pos = record { line = 1; col = c }; instr = i }

abbrev pub line : Instr → Line
line i = line_at 1 i

abbrev pub code_under : Terms → List Line → List Param → ℕ → ℕ → Code
code_under terms lines vars params locals = record {
  instrs = lines;
  vars = vars;
  params = params;
  locals = locals;
  result = None;
  heads = [];
  terms = terms;
}

abbrev pub code_of : List Line → List Param → ℕ → ℕ → Code
code_of lines vars params locals = code_under counting_all lines vars params locals

-- ---- places

abbrev pub plain : List Holding → List Holding → Shape
plain hs vs = record {
  entry = hs;
  vars = vs;
  statics = [];
  returned = Dead;
  slots = [];
  made = replicate (length (distinct (tokens_in (hs ++ vs)))) false;
}

abbrev pub place : ℕ → ℕ → ℕ → Shape → Place
place pc n k s = at_point (record { instr = pc; done = n; class = k }) s

abbrev pub entries : Code → List Shape
entries code = entry_shapes (named_statics code) code

-- ---- numbers

abbrev pub short_holding : Holding → List ℕ
short_holding Dead = []
short_holding Unset = 0 ∷ []
short_holding Null = 1 ∷ []
short_holding Text = 2 ∷ []
short_holding (Known (negsuc n)) = 3 ∷ []
short_holding (Known (pos n)) = (4 + n) ∷ []
short_holding Number = 6 ∷ []
short_holding (Token t) = (7 + t) ∷ []

abbrev pub short_tracked : Tracked → List ℕ
short_tracked r = numbers_of_spot r.spot ++ short_holding r.held

abbrev pub short_shape : Shape → List ℕ
short_shape s = flat_map short_holding (before_slots s) ++ (flat_map short_tracked s.slots ++ map one_if s.made)

abbrev pub short_place : Place → List ℕ
short_place (at_entry s) = 0 ∷ short_shape s
short_place (at_point p s) = numbers_of_point p ++ short_shape s
short_place (after_call p s e) = numbers_of_point p ++ (short_shape e ++ short_shape s)

-- ---- edges

pub record EdgeView : Type 0 where
  pub to : List ℕ
  pub guard : List (List ℤ)
  pub action : Action
  pub duties : List (List ℤ)

abbrev pub goal_numbers : Goal → List ℕ
goal_numbers (to_place q) = short_place q
goal_numbers (to_exit x) = 2 ∷ short_shape x

abbrev pub no_exits : ℕ → List Shape
no_exits f = []

abbrev pub view_with : (ℕ → List Shape) → Edge → EdgeView
view_with exits e =
    record { to = goal_numbers e.goal; guard = e.guard; action = action_of exits e.change; duties = e.duties }

abbrev pub view_of : Edge → EdgeView
view_of e = view_with no_exits e

abbrev pub edges_at : Code → Place → List EdgeView
edges_at code q = map view_of (edges_from code q)

abbrev pub Row : Type 0
Row = List (ℕ × ℤ)

abbrev pub by : List Row → Action
by rows = Map (record { rows = rows })

abbrev pub sends : List ℕ → List Row → EdgeView
sends to rows = record { to = to; guard = []; action = by rows; duties = [] }

abbrev pub sends_where : List (List ℤ) → List ℕ → List Row → EdgeView
sends_where guard to rows = record { to = to; guard = guard; action = by rows; duties = [] }

abbrev pub owes : List (List ℤ) → List ℕ → List Row → EdgeView
owes duties to rows = record { to = to; guard = []; action = by rows; duties = duties }

abbrev pub frees_one : List ℕ → ℕ → EdgeView
frees_one to c = record { to = to; guard = []; action = Free c; duties = [] }

abbrev pub c : ℕ → Row
c k = (k, pos 1) ∷ []

-- ---- what is reached

abbrev pub next_of : Goal → List Place
next_of (to_place q) = q ∷ []
next_of (to_exit x) = []

abbrev pub left : Code → Place → List Place → List (Place × Unit {0}) → List Place
left code q qs seen =
    if list_any (λ e. is_place q e.0) seen then qs else flat_map (λ e. next_of e.goal) (edges_from code q) ++ qs

abbrev pub explore : Code → ℕ → List Place → List (Place × Unit {0}) → List (Place × Unit {0})
explore code zero qs seen = seen
explore code (suc n) [] seen = seen
explore code (suc n) (q ∷ qs) seen = explore code n (left code q qs seen) (put place_cmp q tt seen)

abbrev pub reached : Code → ℕ → List Place
reached code n = map (λ e. e.0) (explore code n (map at_entry (entries code)) [])
