-- What a state notes of numbers, as constraints between nodes.
--   number_where_free m           the number of a token with this mark, where no bound is noted
--   is_integer m                  a token with this mark stands for some number of a range
--   place_of_node n x             the place of a node, where there are n tokens: the results of computations come last
--   IsThere ms x, AreThere ms l   a node is no token but one of these that stands for some number of a range; so are
--                                 both of a bound
--   constraint_of n l             a bound that is noted
--   constraints_of_mark t m, constraints_from t ms    what the mark of a token says of a number of a range, and those of
--                                 it and the next ones
--   constraints_of s              all that a state says of numbers
--   numbers_in m                  the numbers of a model
--   numbers_tried c               the numbers of a candidate
--   AreMarksMet ms ns             the numbers of tokens are those that their marks allow
--   IsSolution n ks values        values of n nodes that meet constraints, with node 0 at 0
--   number_for m z                the number of a token with this mark, where z is the value of its node
--   numbers_from a ms values      the numbers of the tokens from one on
--   IsInRange m z, AreInMarks ms values    a value is in the range of a mark; so are those of the nodes after the first
--   HasNoTableWith s ls           no values of the tokens fit a state and meet these bounds too
--   IsIn n k                      a constraint is between the first n nodes, and its bound is small
use Rattle.std.specs.Prelude.{◌≡◌, ℕ, ◌<◌, ◌+◌, ℤ, pos, ◌-ℤ◌, Bool, true, false, List, [], ◌∷◌, ◌++◌, length, map, get_or}
use Rattle.pungi_diff.specs.declared.constraint.Constraint.{Constraint}
use Rattle.pungi_diff.specs.Constraint.{at, IsStep, Solves}
use Rattle.pungi_symbol.specs.declared.states.limit.Limit.{Limit}
use Rattle.pungi_symbol.specs.declared.states.node.Node.{Node}
use Rattle.pungi_symbol.specs.declared.states.node.Node.TheVariants as nodes
use Rattle.pungi_symbol.specs.declared.states.mark.Mark.{Mark}
use Rattle.pungi_symbol.specs.declared.states.mark.Mark.TheVariants.{Pointer, TextPointer, IsNull, IsObject, IsText}
use Rattle.pungi_symbol.specs.declared.states.mark.Mark.TheVariants.{IsNumber, IsConverted, Integer}
use Rattle.pungi_symbol.specs.declared.states.state.State.{State}
use Rattle.pungi_symbol.specs.states.Terms.{low_of, high_of}
use Rattle.pungi_symbol.specs.states.Known.{count}
use Rattle.pungi_symbol.specs.declared.runs.model.Model.{Model}
use Rattle.pungi_symbol.specs.declared.runs.candidate.Candidate.{Candidate}
use Rattle.pungi_world.specs.Choices.{is_between}
use Rattle.pungi_symbol.specs.states.Terms.{Table}
use Rattle.pungi_symbol.specs.runs.Fits.{AreMet, FitsState}
use Rattle.pungi_symbol.specs.runs.Paths.{Numbers, IsInMark}

abbrev pub number_where_free : Mark → ℤ
number_where_free Pointer = pos 0
number_where_free TextPointer = pos 0
number_where_free IsNull = pos 0
number_where_free IsObject = pos 0
number_where_free IsText = pos 0
number_where_free (IsNumber m) = m
number_where_free (IsConverted m) = m
number_where_free (Integer r) = pos 0

abbrev pub is_integer : Mark → Bool
is_integer Pointer = false
is_integer TextPointer = false
is_integer IsNull = false
is_integer IsObject = false
is_integer IsText = false
is_integer (IsNumber m) = false
is_integer (IsConverted m) = false
is_integer (Integer r) = true

abbrev pub place_of_node : ℕ → Node → ℕ
place_of_node n nodes.Zero = 0
place_of_node n (nodes.Token t) = t + 1
place_of_node n (nodes.Computed j) = n + 1 + j

abbrev pub IsThere : List Mark → Node → Type 0
IsThere ms nodes.Zero = Unit {0}
IsThere ms (nodes.Token t) = (t < length ms) × (is_integer (get_or ms t IsNull) ≡ true)
IsThere ms (nodes.Computed j) = Unit {0}

abbrev pub AreThere : List Mark → Limit → Type 0
AreThere ms l = IsThere ms l.x × IsThere ms l.y

abbrev pub constraint_of : ℕ → Limit → Constraint
constraint_of n l = record { x = place_of_node n l.x; y = place_of_node n l.y; c = l.c }

abbrev pub constraints_of_mark : ℕ → Mark → List Constraint
constraints_of_mark t Pointer = []
constraints_of_mark t TextPointer = []
constraints_of_mark t IsNull = []
constraints_of_mark t IsObject = []
constraints_of_mark t IsText = []
constraints_of_mark t (IsNumber m) = []
constraints_of_mark t (IsConverted m) = []
constraints_of_mark t (Integer r) =
    (record { x = t + 1; y = 0; c = high_of r }) ∷ (record { x = 0; y = t + 1; c = pos 0 -ℤ low_of r }) ∷ []

abbrev pub constraints_from : ℕ → List Mark → List Constraint
constraints_from t [] = []
constraints_from t (m ∷ ms) = constraints_of_mark t m ++ constraints_from (t + 1) ms

abbrev pub constraints_of : State → List Constraint
constraints_of s = constraints_from 0 s.known.marks ++ map (constraint_of (count s.known)) s.limits

abbrev pub IsIn : ℕ → Constraint → Type 0
IsIn n k = ((k.x < n) × (k.y < n)) × IsStep k

abbrev pub numbers_in : Model → Numbers
numbers_in m = record { tokens = m.tokens.items; computed = m.computed.items }

abbrev pub numbers_tried : Candidate → Numbers
numbers_tried c = record { tokens = c.tokens.items; computed = c.computed.items }

abbrev pub AreMarksMet : List Mark → List ℤ → Type 0
AreMarksMet ms ns = (t : ℕ) → t < length ms → IsInMark (get_or ms t IsNull) (get_or ns t (pos 0))

pub record IsSolution (n : ℕ) (ks : List Constraint) (values : List ℤ) : Type 0 where
  pub all_nodes : length values ≡ n
  pub solves : Solves (at values) ks
  pub zero : at values 0 ≡ pos 0

abbrev pub number_for : Mark → ℤ → ℤ
number_for Pointer z = pos 0
number_for TextPointer z = pos 0
number_for IsNull z = pos 0
number_for IsObject z = pos 0
number_for IsText z = pos 0
number_for (IsNumber m) z = m
number_for (IsConverted m) z = m
number_for (Integer r) z = z

abbrev pub numbers_from : ℕ → List Mark → List ℤ → List ℤ
numbers_from a [] values = []
numbers_from a (m ∷ ms) values = number_for m (at values (a + 1)) ∷ numbers_from (a + 1) ms values

abbrev pub IsInRange : Mark → ℤ → Type 0
IsInRange Pointer z = Unit {0}
IsInRange TextPointer z = Unit {0}
IsInRange IsNull z = Unit {0}
IsInRange IsObject z = Unit {0}
IsInRange IsText z = Unit {0}
IsInRange (IsNumber m) z = Unit {0}
IsInRange (IsConverted m) z = Unit {0}
IsInRange (Integer r) z = is_between (low_of r) (high_of r) z ≡ true

abbrev pub AreInMarks : List Mark → List ℤ → Type 0
AreInMarks ms values = (t : ℕ) → t < length ms → IsInRange (get_or ms t IsNull) (at values (t + 1))

abbrev pub HasNoTableWith : State → List Limit → Type 0
HasNoTableWith s ls = (table : Table) → FitsState table s → AreMet table ls → ⊥
