-- Numbers of the tokens of a state that meet what it notes, from values that meet its constraints.
use Rattle.std.proofs.Common.{◌≡◌, ℕ, zero, suc, ◌+◌, ◌<◌, ◌≤◌, ℤ, pos, ◌-ℤ◌, ◌≤ℤ◌, List, [], ◌∷◌, ◌++◌, length}
use Rattle.std.proofs.Common.{◌-◌, ◌+ℤ◌, get_or, map, take, drop, Bool, true, false, refl, sym, ap, ◌∙◌, subst, arith}
use Rattle.std.specs.Prelude.{All, ◌&&◌, int_le, nat_lt}
use Rattle.std.proofs.lemmas.Int.{ints}
use Rattle.std.proofs.lemmas.Bool.Decides.{nat_tests}
use Rattle.std.proofs.lemmas.Bool.{lt-ltb, ltb-true}
use Rattle.std.proofs.lemmas.List.{append_assoc, get_or-drop}
use Rattle.std.proofs.lemmas.List.Elements.{All-append, All-map}
use Rattle.std.proofs.Math.ListN.{length-map}
use Rattle.pungi_base.specs.declared.value.Value.{Value}
use Rattle.pungi_base.specs.declared.value.Value.TheVariants as value
use Rattle.pungi_diff.specs.declared.constraint.Constraint.{Constraint}
use Rattle.pungi_diff.specs.Constraint.{Meets, Solves}
use Rattle.pungi_diff.specs.Constraint.{at as value_at}
use Rattle.pungi_diff.specs.Round.{HasNoSolution, GoesRound}
use Rattle.pungi_diff.proofs.RoundLemmas.{no_round}
use Rattle.pungi_world.specs.Choices.{is_between}
use Rattle.pungi_meaning.specs.Values.{number_of}
use Rattle.pungi_symbol.specs.declared.states.limit.Limit.{Limit}
use Rattle.pungi_symbol.specs.declared.states.integer_range.IntegerRange.{IntegerRange}
use Rattle.pungi_symbol.specs.declared.states.integer_range.IntegerRange.TheVariants as ranges
use Rattle.pungi_symbol.specs.declared.states.mark.Mark.{Mark}
use Rattle.pungi_symbol.specs.declared.states.mark.Mark.TheVariants.{Pointer, TextPointer, IsNull, IsObject, IsText}
use Rattle.pungi_symbol.specs.declared.states.mark.Mark.TheVariants.{IsNumber, IsConverted, Integer}
use Rattle.pungi_symbol.specs.declared.states.node.Node.{Node}
use Rattle.pungi_symbol.specs.declared.states.node.Node.TheVariants as nodes
use Rattle.pungi_symbol.specs.declared.states.state.State.{State}
use Rattle.pungi_symbol.specs.states.Terms.{Table, at, computed_at, is_mark, node_value, low_of, high_of}
use Rattle.pungi_symbol.specs.states.Known.{count, mark_of}
use Rattle.pungi_symbol.specs.runs.Fits.{AreMet, FitsState}
use Rattle.pungi_symbol.specs.runs.Paths.{IsInMark, IsMetBy, IsModel, HasNoTable, Numbers, node_at}
use Rattle.pungi_symbol.specs.runs.Numbers.{number_where_free, number_for, numbers_from, is_integer, constraint_of}
use Rattle.pungi_symbol.specs.runs.Numbers.{constraints_of_mark, constraints_from, constraints_of, IsSolution}
use Rattle.pungi_symbol.specs.runs.Numbers.{place_of_node, AreInMarks, IsInRange, IsThere, AreThere}
use Rattle.pungi_symbol.specs.runs.Numbers.{HasNoTableWith}
use Rattle.pungi_symbol.proofs.questions.Arguments.{drop_here}

-- ---- a number that a mark allows

int_le_says : (a b : ℤ) → int_le a b ≡ true → a ≤ℤ b
int_le_says a b e = omega (arith, ints, e)

int_le_true : (a b : ℤ) → a ≤ℤ b → int_le a b ≡ true
int_le_true a b h = by (int_le a b) refl
  where
    by : (t : Bool) → int_le a b ≡ t → t ≡ true
    by true e = refl
    by false e = absurd (omega (arith, ints, h, e))

two_true : (a b : Bool) → (a && b) ≡ true → (a ≡ true) × (b ≡ true)
two_true true b h = (refl, h)
two_true false b h = absurd (let bad : false ≡ true = h in cc)

both_true : (a b : Bool) → a ≡ true → b ≡ true → (a && b) ≡ true
both_true a b e f = ap (λ z. z && b) e ∙ f

between_says : (low high n : ℤ) → is_between low high n ≡ true → (low ≤ℤ n) × (n ≤ℤ high)
between_says low high n e =
    let r = two_true (int_le low n) (int_le n high) e in (int_le_says low n r.0, int_le_says n high r.1)

between_true : (low high n : ℤ) → low ≤ℤ n → n ≤ℤ high → is_between low high n ≡ true
between_true low high n a b =
    both_true (int_le low n) (int_le n high) (int_le_true low n a) (int_le_true n high b)

-- the value of a token that stands for some number of a range is within it
range_within : (r : IntegerRange) (v : Value) → is_mark (Integer r) v ≡ true
    → (low_of r ≤ℤ number_of v) × (number_of v ≤ℤ high_of r)
range_within r value.Null e = absurd (cc)
range_within r (value.Object k) e = absurd (cc)
range_within r (value.Int n) e = between_says (low_of r) (high_of r) n e
range_within r value.Text e = absurd (cc)

in_mark : (m : Mark) (z : ℤ) → IsInRange m z → IsInMark m (number_for m z)
in_mark Pointer z h = refl
in_mark TextPointer z h = refl
in_mark IsNull z h = refl
in_mark IsObject z h = refl
in_mark IsText z h = refl
in_mark (IsNumber m) z h = refl
in_mark (IsConverted m) z h = refl
in_mark (Integer r) z h = h

integer_number : (m : Mark) (z : ℤ) → is_integer m ≡ true → number_for m z ≡ z
integer_number Pointer z e = absurd (cc)
integer_number TextPointer z e = absurd (cc)
integer_number IsNull z e = absurd (cc)
integer_number IsObject z e = absurd (cc)
integer_number IsText z e = absurd (cc)
integer_number (IsNumber m) z e = absurd (cc)
integer_number (IsConverted m) z e = absurd (cc)
integer_number (Integer r) z e = refl

free_in_mark : (m : Mark) → IsInMark m (number_where_free m)
free_in_mark Pointer = refl
free_in_mark TextPointer = refl
free_in_mark IsNull = refl
free_in_mark IsObject = refl
free_in_mark IsText = refl
free_in_mark (IsNumber m) = refl
free_in_mark (IsConverted m) = refl
free_in_mark (Integer ranges.Int) = refl
free_in_mark (Integer ranges.Long) = refl
free_in_mark (Integer ranges.SizeOrError) = refl
free_in_mark (Integer ranges.Flag) = refl

-- ---- nothing is noted

pub free_model : (s : State) (ns : Numbers) → ns.tokens ≡ map number_where_free s.known.marks → s.limits ≡ []
    → IsModel s ns
free_model s ns is none = record {
  all = ap length is ∙ length-map s.known.marks number_where_free;
  marks = λ t lt. subst (IsInMark (mark_of s.known t)) (sym (ap (λ l. get_or l t (pos 0)) is
      ∙ at_free s.known.marks t lt)) (free_in_mark (mark_of s.known t));
  limits = subst (All (IsMetBy ns)) (sym none) (λ k d lt. absurd (omega (arith, lt)));
}
  where
    at_free : (ms : List Mark) (t : ℕ) → t < length ms
        → get_or (map number_where_free ms) t (pos 0) ≡ number_where_free (get_or ms t IsNull)
    at_free [] t lt = absurd (omega (arith, lt))
    at_free (m ∷ ms) zero lt = refl
    at_free (m ∷ ms) (suc t) lt = at_free ms t (omega (arith, lt))

-- ---- values of the tokens that fit meet the constraints

two_meet : (v : ℕ → ℤ) (k j : Constraint) (ks : List Constraint) → Meets v k → Meets v j → Solves v ks
    → Solves v (k ∷ j ∷ ks)
two_meet v k j ks a b h zero d lt = a
two_meet v k j ks a b h (suc zero) d lt = b
two_meet v k j ks a b h (suc (suc i)) d lt = h i d (omega (arith, lt))

-- the number at a place: 0, then those of the tokens, then those of the computations
abbrev later : Bool → Table → ℕ → ℕ → ℤ
later true table n p = number_of (at table p)
later false table n p = computed_at table (p - n)

abbrev place_value : Table → ℕ → ℕ → ℤ
place_value table n zero = pos 0
place_value table n (suc p) = later (nat_lt p n) table n p

token_place : (table : Table) (n t : ℕ) → t < n → place_value table n (t + 1) ≡ number_of (at table t)
token_place table n t lt =
    let next : t + 1 ≡ suc t = omega arith in
    ap (place_value table n) next ∙ ap (λ b. later b table n t) (lt-ltb t n lt)

computed_place : (table : Table) (n j : ℕ) → place_value table n (n + 1 + j) ≡ computed_at table j
computed_place table n j =
    let next : n + 1 + j ≡ suc (n + j) = omega arith in
    let back : n + j - n ≡ j = omega arith in
    ap (place_value table n) next ∙ ap (λ b. later b table n (n + j)) (past (nat_lt (n + j) n) refl)
    ∙ ap (computed_at table) back
  where
    past : (b : Bool) → nat_lt (n + j) n ≡ b → nat_lt (n + j) n ≡ false
    past true e = absurd (let lt = ltb-true (n + j) n e in omega (arith, lt))
    past false e = e

node_place : (table : Table) (ms : List Mark) (x : Node) → IsThere ms x
    → place_value table (length ms) (place_of_node (length ms) x) ≡ node_value table x
node_place table ms nodes.Zero h = refl
node_place table ms (nodes.Token t) h = token_place table (length ms) t h.0
node_place table ms (nodes.Computed j) h = computed_place table (length ms) j

marks_meet : (table : Table) (n a : ℕ) (ms : List Mark) → a + length ms ≤ n
    → ((t : ℕ) → t < length ms → is_mark (get_or ms t IsNull) (at table (a + t)) ≡ true)
    → Solves (place_value table n) (constraints_from a ms)
marks_meet table n a [] le h = λ k d lt. absurd (omega (arith, lt))
marks_meet table n a (m ∷ ms) le h =
    with_mark m (subst (λ z. is_mark m (at table z) ≡ true) (omega arith) (h 0 (omega arith)))
    (marks_meet table n (a + 1) ms (omega (arith, le)) (λ t lt. subst (λ z. is_mark (get_or ms t IsNull) (at table z)
    ≡ true) (omega arith) (h (suc t) (omega (arith, lt)))))
  where
    with_mark : (m : Mark) → is_mark m (at table a) ≡ true → Solves (place_value table n) (constraints_from (a + 1) ms)
        → Solves (place_value table n) (constraints_of_mark a m ++ constraints_from (a + 1) ms)
    with_mark Pointer e rest = rest
    with_mark TextPointer e rest = rest
    with_mark IsNull e rest = rest
    with_mark IsObject e rest = rest
    with_mark IsText e rest = rest
    with_mark (IsNumber k) e rest = rest
    with_mark (IsConverted k) e rest = rest
    with_mark (Integer r) e rest =
        let w = range_within r (at table a) e in
        let node = token_place table n a (omega (arith, le)) in
        let one = w.0 in
        let two = w.1 in
        two_meet (place_value table n) (record { x = a + 1; y = 0; c = high_of r })
        (record { x = 0; y = a + 1; c = pos 0 -ℤ low_of r }) (constraints_from (a + 1) ms)
        (omega (arith, ints, two, node)) (omega (arith, ints, one, node)) rest

limit_meets : (table : Table) (ms : List Mark) (l : Limit) → AreThere ms l
    → node_value table l.x ≤ℤ (node_value table l.y +ℤ l.c)
    → Meets (place_value table (length ms)) (constraint_of (length ms) l)
limit_meets table ms l there h =
    let a = node_place table ms l.x there.0 in
    let b = node_place table ms l.y there.1 in
    omega (arith, ints, h, a, b)

limits_meet : (s : State) (table : Table) (ls : List Limit) → All (AreThere s.known.marks) ls → AreMet table ls
    → Solves (place_value table (count s.known)) (map (constraint_of (count s.known)) ls)
limits_meet s table ls there met =
    let n = count s.known in
    All-map (Meets (place_value table n)) (constraint_of n) ls (λ i d lt.
    limit_meets table s.known.marks (get_or ls i d) (there i d lt) (met i d lt))

fits_meet : (s : State) (table : Table) → All (AreThere s.known.marks) s.limits → FitsState table s
    → Solves (place_value table (count s.known)) (constraints_of s)
fits_meet s table there f =
    let n = count s.known in
    All-append (Meets (place_value table n)) (constraints_from 0 s.known.marks)
    (map (constraint_of n) s.limits) (marks_meet table n 0 s.known.marks (omega arith) (λ t lt. subst (λ z. is_mark
    (get_or s.known.marks t IsNull) (at table z) ≡ true)
    (let e : t ≡ 0 + t = omega arith in e) (f.notes.marks t lt)))
    (limits_meet s table s.limits there f.limits)

pub no_table : (s : State) (more : List Limit) (ks : List Constraint)
    → ks ≡ constraints_of s ++ map (constraint_of (count s.known)) more → All (AreThere s.known.marks) s.limits
    → All (AreThere s.known.marks) more → HasNoSolution ks → HasNoTableWith s more
no_table s more ks e there added none table f met =
    let v = place_value table (count s.known) in
    none v (subst (Solves v) (sym e) (All-append (Meets v) (constraints_of s)
    (map (constraint_of (count s.known)) more) (fits_meet s table there f) (limits_meet s table more added met)))

-- no bounds are met by all
pub no_table_at_all : (s : State) → HasNoTableWith s [] → HasNoTable s
no_table_at_all s none table f = none table f (λ i d lt. absurd (omega (arith, lt)))

-- a round among the first ones
pub round_forbids : (ks : List Constraint) (i : ℕ) (d k : Constraint) (cycle : List Constraint) → i < length ks
    → k ≡ get_or ks i d → GoesRound (take i ks) k cycle → HasNoSolution ks
round_forbids ks i d k cycle lt e g v h = no_round v (take i ks) k
    (λ j z jl. subst (Meets v) (sym (at_front ks i d k j z lt e jl)) (h j z (omega
    (arith, lt, in_front ks i k j lt jl))))
    cycle g
  where
    in_front : (ks : List Constraint) (i : ℕ) (k : Constraint) (j : ℕ) → i < length ks
        → j < length (take i ks ++ k ∷ []) → j ≤ i
    in_front [] i k j lt jl = absurd (omega (arith, lt))
    in_front (x ∷ ks) zero k j lt jl = omega (arith, jl)
    in_front (x ∷ ks) (suc i) k zero lt jl = omega arith
    in_front (x ∷ ks) (suc i) k (suc j) lt jl =
        let r = in_front ks i k j (omega (arith, lt)) (omega (arith, jl)) in omega (arith, r)

    at_front : (ks : List Constraint) (i : ℕ) (d k : Constraint) (j : ℕ) (z : Constraint) → i < length ks
        → k ≡ get_or ks i d → j < length (take i ks ++ k ∷ [])
        → get_or (take i ks ++ k ∷ []) j z ≡ get_or ks j z
    at_front [] i d k j z lt e jl = absurd (omega (arith, lt))
    at_front (x ∷ ks) zero d k zero z lt e jl = e
    at_front (x ∷ ks) zero d k (suc j) z lt e jl = absurd (omega (arith, jl))
    at_front (x ∷ ks) (suc i) d k zero z lt e jl = refl
    at_front (x ∷ ks) (suc i) d k (suc j) z lt e jl = at_front ks i d k j z (omega (arith, lt)) e (omega (arith, jl))

-- ---- values that meet the constraints

left_solves : (v : ℕ → ℤ) (ks js : List Constraint) → Solves v (ks ++ js) → Solves v ks × Solves v js
left_solves v [] js h = (λ k d lt. absurd (omega (arith, lt)), h)
left_solves v (k ∷ ks) js h =
    let r = left_solves v ks js (λ i d lt. h (suc i) d (omega (arith, lt))) in (
      λ i d lt. first i d lt (h 0 d (omega arith)) (r.0),
      r.1,
    )
  where
    first : (i : ℕ) (d : Constraint) → i < length (k ∷ ks) → Meets v k → Solves v ks → Meets v (get_or (k ∷ ks) i d)
    first zero d lt a b = a
    first (suc i) d lt a b = b i d (omega (arith, lt))

from_mark : (v : ℕ → ℤ) (a : ℕ) (m : Mark) (ks : List Constraint) → v 0 ≡ pos 0
    → Solves v (constraints_of_mark a m ++ ks) → IsInRange m (v (a + 1)) × Solves v ks
from_mark v a Pointer ks zero_is h = (tt, h)
from_mark v a TextPointer ks zero_is h = (tt, h)
from_mark v a IsNull ks zero_is h = (tt, h)
from_mark v a IsObject ks zero_is h = (tt, h)
from_mark v a IsText ks zero_is h = (tt, h)
from_mark v a (IsNumber m) ks zero_is h = (tt, h)
from_mark v a (IsConverted m) ks zero_is h = (tt, h)
from_mark v a (Integer r) ks zero_is h =
    let k : Constraint = record { x = a + 1; y = 0; c = high_of r } in
    let j : Constraint = record { x = 0; y = a + 1; c = pos 0 -ℤ low_of r } in
    let high : Meets v k = h 0 k (omega arith) in
    let low : Meets v j = h 1 j (omega arith) in (
      between_true (low_of r) (high_of r) (v (a + 1)) (omega (arith, ints, low, zero_is))
          (omega (arith, ints, high, zero_is)),
      λ i d l. h (suc (suc i)) d (omega (arith, l)),
    )

from_within : (v : ℕ → ℤ) (a : ℕ) (ms : List Mark) → v 0 ≡ pos 0 → Solves v (constraints_from a ms)
    → (t : ℕ) → t < length ms → IsInRange (get_or ms t IsNull) (v ((a + t) + 1))
from_within v a [] zero_is h t lt = absurd (omega (arith, lt))
from_within v a (m ∷ ms) zero_is h zero lt =
    let e : (a + 0) + 1 ≡ a + 1 = omega arith in
    subst (λ z. IsInRange m (v z)) (sym e) (from_mark v a m (constraints_from (a + 1) ms) zero_is h).0
from_within v a (m ∷ ms) zero_is h (suc t) lt =
    subst (λ z. IsInRange (get_or ms t IsNull) (v z)) (omega arith)
    (from_within v (a + 1) ms zero_is (from_mark v a m (constraints_from (a + 1) ms) zero_is h).1 t (omega (arith, lt)))

pub solution_in_marks : (s : State) (js : List Constraint) (n : ℕ) (values : List ℤ)
    → IsSolution n (constraints_of s ++ js) values → AreInMarks s.known.marks values
solution_in_marks s js n values r t lt =
    let own = (left_solves (value_at values) (constraints_of s) js r.solves).0 in
    subst (λ z. IsInRange (get_or s.known.marks t IsNull) (value_at values z)) (let h : (0 + t) + 1
    ≡ t + 1 = omega arith in h)
    (from_within (value_at values) 0 s.known.marks r.zero (left_solves (value_at values)
    (constraints_from 0 s.known.marks) (map (constraint_of (count s.known)) s.limits) own).0 t lt)

length_numbers : (a : ℕ) (ms : List Mark) (values : List ℤ) → length (numbers_from a ms values) ≡ length ms
length_numbers a [] values = refl
length_numbers a (m ∷ ms) values = ap suc (length_numbers (a + 1) ms values)

number_at : (a : ℕ) (ms : List Mark) (values : List ℤ) (t : ℕ) → t < length ms
    → get_or (numbers_from a ms values) t (pos 0) ≡ number_for (get_or ms t IsNull) (value_at values ((a + t) + 1))
number_at a [] values t lt = absurd (omega (arith, lt))
number_at a (m ∷ ms) values zero lt =
    let e : a + 1 ≡ (a + 0) + 1 = omega arith in ap (λ z. number_for m (value_at values z)) e
number_at a (m ∷ ms) values (suc t) lt =
    let e : ((a + 1) + t) + 1 ≡ (a + suc t) + 1 = omega arith in
    number_at (a + 1) ms values t (omega (arith, lt))
    ∙ ap (λ z. number_for (get_or ms t IsNull) (value_at values z)) e

-- numbers by such values
module _ (s : State) (js : List Constraint) (size : ℕ) (values : List ℤ) (ns : Numbers)
    (r : IsSolution size (constraints_of s ++ js) values) (tokens : ns.tokens ≡ numbers_from 0 s.known.marks values)
    (computed : ns.computed ≡ drop (count s.known + 1) values) where
  number_is : (t : ℕ) → t < count s.known
      → get_or ns.tokens t (pos 0) ≡ number_for (mark_of s.known t) (value_at values (t + 1))
  number_is t lt =
      let e : (0 + t) + 1 ≡ t + 1 = omega arith in
      ap (λ l. get_or l t (pos 0)) tokens ∙ number_at 0 s.known.marks values t lt
      ∙ ap (λ z. number_for (mark_of s.known t) (value_at values z)) e

  node_is : (x : Node) → IsThere s.known.marks x → node_at ns x ≡ value_at values (place_of_node (count s.known) x)
  node_is nodes.Zero h = sym r.zero
  node_is (nodes.Token t) h =
      number_is t h.0 ∙ integer_number (mark_of s.known t) (value_at values (t + 1)) h.1
  node_is (nodes.Computed j) h =
      ap (λ l. get_or l j (pos 0)) computed ∙ get_or-drop (count s.known + 1) values j (pos 0)

  unmap : (ls : List Limit) → Solves (value_at values) (map (constraint_of (count s.known)) ls) → (i : ℕ) (d : Limit)
      → i < length ls → Meets (value_at values) (constraint_of (count s.known) (get_or ls i d))
  unmap [] h i d lt = absurd (omega (arith, lt))
  unmap (l ∷ ls) h zero d lt = h 0 (constraint_of (count s.known) d) (omega arith)
  unmap (l ∷ ls) h (suc i) d lt = unmap ls (λ j z jl. h (suc j) z (omega (arith, jl))) i d (omega (arith, lt))

  met_by : (ls : List Limit) → All (AreThere s.known.marks) ls
      → Solves (value_at values) (map (constraint_of (count s.known)) ls) → All (IsMetBy ns) ls
  met_by ls there solves i d lt =
      let l = get_or ls i d in
      let h = unmap ls solves i d lt in
      let a = node_is l.x (there i d lt).0 in
      let b = node_is l.y (there i d lt).1 in
      omega (arith, ints, h, a, b)

  pub solution_model : All (AreThere s.known.marks) s.limits → IsModel s ns
  solution_model there =
      let own = (left_solves (value_at values) (constraints_of s) js r.solves).0 in
      record {
        all = ap length tokens ∙ length_numbers 0 s.known.marks values;
        marks = λ t lt. subst (IsInMark (mark_of s.known t)) (sym (number_is t lt)) (in_mark (mark_of s.known t)
            (value_at values (t + 1)) (solution_in_marks s js size values r t lt));
        limits = met_by s.limits there (left_solves (value_at values) (constraints_from 0 s.known.marks)
            (map (constraint_of (count s.known)) s.limits) own).1;
      }

  -- the bounds that the other constraints say are met too
  pub solution_more : (more : List Limit) → js ≡ map (constraint_of (count s.known)) more
      → All (AreThere s.known.marks) more → All (IsMetBy ns) more
  solution_more more is there =
      met_by more there (subst (Solves (value_at values)) is
      (left_solves (value_at values) (constraints_of s) js r.solves).1)

-- ---- one after another

pub limit_step : (n : ℕ) (ls : List Limit) (so_far : List Constraint) (i : ℕ) (d : Limit) → i < length ls
    → (so_far ++ constraint_of n (get_or ls i d) ∷ []) ++ map (constraint_of n) (drop (i + 1) ls)
    ≡ so_far ++ map (constraint_of n) (drop i ls)
limit_step n ls so_far i d lt =
    append_assoc so_far (constraint_of n (get_or ls i d) ∷ []) (map (constraint_of n) (drop (i + 1) ls))
    ∙ sym (ap (λ l. so_far ++ map (constraint_of n) l) (drop_here ls i d lt))

pub one_more_there : (ms : List Mark) (ls : List Limit) (i : ℕ)
    → ((j : ℕ) (d : Limit) → j < i → AreThere ms (get_or ls j d)) → (e : Limit) → i < length ls
    → AreThere ms (get_or ls i e) → (j : ℕ) (d : Limit) → j < i + 1 → AreThere ms (get_or ls j d)
one_more_there ms ls i so_far z there here j d lt = by (nat_lt j i) refl
  where
    any : (xs : List Limit) (k : ℕ) → k < length xs → get_or xs k z ≡ get_or xs k d
    any [] k h = absurd (omega (arith, h))
    any (x ∷ xs) zero h = refl
    any (x ∷ xs) (suc k) h = any xs k (omega (arith, h))

    by : (b : Bool) → nat_lt j i ≡ b → AreThere ms (get_or ls j d)
    by true e = so_far j d (ltb-true j i e)
    by false e =
        let ge : i ≤ j = grind (arith, nat_tests, e) in
        let same : i ≡ j = omega (arith, ge, lt) in
        subst (λ y. AreThere ms (get_or ls y d)) same (subst (AreThere ms) (any ls i there) here)

pub mark_step : (ms : List Mark) (so_far : List Constraint) (t : ℕ) (d : Mark) → t < length ms
    → (so_far ++ constraints_of_mark t (get_or ms t d)) ++ constraints_from (t + 1) (drop (t + 1) ms)
    ≡ so_far ++ constraints_from t (drop t ms)
mark_step ms so_far t d lt =
    append_assoc so_far (constraints_of_mark t (get_or ms t d)) (constraints_from (t + 1) (drop (t + 1) ms))
    ∙ sym (ap (λ l. so_far ++ constraints_from t l) (drop_here ms t d lt))

pub number_step : (ms : List Mark) (values so_far : List ℤ) (t : ℕ) (d : Mark) (z : ℤ) → t < length ms
    → z ≡ number_for (get_or ms t d) (value_at values (t + 1))
    → (so_far ++ z ∷ []) ++ numbers_from (t + 1) (drop (t + 1) ms) values
    ≡ so_far ++ numbers_from t (drop t ms) values
number_step ms values so_far t d z lt is =
    append_assoc so_far (z ∷ []) (numbers_from (t + 1) (drop (t + 1) ms) values)
    ∙ ap (λ y. so_far ++ y ∷ numbers_from (t + 1) (drop (t + 1) ms) values) is
    ∙ sym (ap (λ l. so_far ++ numbers_from t l values) (drop_here ms t d lt))
