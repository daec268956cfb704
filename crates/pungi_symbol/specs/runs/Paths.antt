-- Runs of a code, paths of states, and how they belong together.
--   value_in c, returned_value    the value of a content; what a function returns
--   argument_count code           how many arguments a code takes
--   known_at, start_state, start_states    what is known at the start of a function, its first state, and the list of
--                                          it
--   values_of, table_of           the values of the tokens of a run: the static objects, the arguments, the choices;
--                                 and the results of its computations that are no sums
--   Asked                         the trace of a run, the newest answer first
--   Path                          a path of states, by its answers, the newest first
--   run_for                       how a run of so many instructions ends
--   led_of                        where a run of a state is, and what is held there
--   EndsFrom                      a run of that many instructions or more ends as the run from there on
--   IsAt                          a run is, after so many instructions, where a state says
--   Meets                         a run is, after so many instructions, in a state at the end of a path with its trace
--   IsFreeRun                     a run is in a state, if a computation that is no sum may give any number
--   IsBlocked                     a run comes to where its path isn't followed, and is in a state there
--   IsShort code n                a run of so many instructions is one that is followed, where the code has a loop
--   IsPlaceOf p hs                a place is that of one of these loop heads
--   IsCovered                     each run meets a state, as long as it needs no choice that isn't there and its path
--                                 is followed
--   GoesBack                      values of the tokens that fit a next state fit the state before, and give that answer
--   Numbers                       numbers for the tokens, and for the results of the computations that are no sums
--   node_at, sum_at ns            the number at a node, and a sum, where these are the numbers
--   IsInMark m n                  a token with this mark may stand for this number; what is no number counts as 0
--   IsMetBy ns l                  the numbers meet a bound
--   IsModel s ns                  they meet all that a state notes of numbers
--   no_computation, computation k j    what stands where there is no computation; a computation
--   gives, AreComputed k ns       what its operator gives; the numbers are what the operators give
--   HasNoTable s                  no values of the tokens fit a state
--   object_number n made c, own_numbers s    the number of the object of a class; those of the tokens of a state
--   own_value, own_values, canon, own_table    the values of the tokens of a state where all that may differ differs,
--                                 and the numbers are these; the same with the computed numbers
--   AreApart                      tokens that weren't merged are different objects
--   conversion_of n               the choice by which an argument parser ends so
--   number_choice m n             the choice by which a token with this mark is this number
--   choice_of m v                 the choice by which a token with this mark has a value
--   choices_of ms vs              the choices by which tokens with these marks have these values
--   own_choices                   those by which the tokens of a state have their own values
--   end_of                        how a state ends
--   returned_object, is_class     the token that is returned, where it is an object; whether a token stands for it
--   owned_object terms k x        the same, where its reference goes to the caller
--   may_be_object m               a token with this mark is an object, or may be one
--   is_taken_as, taken_count code s t    how many parameters whose reference is taken over are objects for which this
--                                 token stands
--   wanted, IsLevelState          what is owed to the object of a token where a function returns, under the terms of
--                                 its code; each balance that is counted is that
use Rattle.std.specs.Prelude.{◌≡◌, ℕ, ◌+◌, ◌-◌, ◌<◌, ◌≤◌, ◌==◌, ℤ, pos, negsuc, ◌+ℤ◌, ◌≤ℤ◌, ◌⊎◌, Bool, true, false}
use Rattle.std.specs.Prelude.{List}
use Rattle.std.specs.Prelude.{[], ◌∷◌, ◌++◌, length, map, take, replicate, get_or, slice_get, Option, Some, None, All}
use Rattle.std.specs.Prelude.{if◌then◌else◌, ◌-ℤ◌, ◌&&◌, nat_lt, count_by}
use Rattle.std.specs.List.{range_with_len}
use Rattle.pungi_base.specs.declared.choice.Choice.{Choice}
use Rattle.pungi_base.specs.declared.choice.Choice.TheVariants as choice
use Rattle.pungi_base.specs.declared.entry.Entry.{Entry}
use Rattle.pungi_base.specs.declared.pos.Pos.{Pos}
use Rattle.pungi_base.specs.declared.value.Value.{Value}
use Rattle.pungi_base.specs.declared.value.Value.TheVariants as value
use Rattle.pungi_api.specs.declared.terms.Terms.{Terms}
use Rattle.pungi_world.specs.declared.content.Content.{Content}
use Rattle.pungi_world.specs.declared.content.Content.TheVariants as content
use Rattle.pungi_world.specs.Choices.{value_of, is_between}
use Rattle.pungi_world.specs.Escapes.{IsCounted}
use Rattle.pungi_types.specs.declared.kind.ValueKind.TheVariants as kinds
use Rattle.pungi_meaning.specs.declared.op.Op.TheVariants as ops
use Rattle.pungi_meaning.specs.Values.{arithmetic}
use Rattle.pungi_meaning.specs.Run as run
use Rattle.pungi_code.specs.declared.code.Code.{Code}
use Rattle.pungi_code.specs.declared.code.Head.{Head}
use Rattle.pungi_code.specs.declared.code.Line.{Line}
use Rattle.pungi_code.specs.Entries.{code_fits}
use Rattle.pungi_code.specs.declared.registers.After.TheVariants as after
use Rattle.pungi_code.specs.Machine.{Reaches}
use Rattle.pungi_code.specs.Registers.{Regs}
use Rattle.pungi_code.specs.Run.{exec, start}
use Rattle.pungi_symbol.specs.declared.answers.decision.Decision.{Decision}
use Rattle.pungi_symbol.specs.declared.answers.decision.Decision.TheVariants.{Quiet}
use Rattle.pungi_symbol.specs.declared.states.known.Known.{Known}
use Rattle.pungi_symbol.specs.declared.states.known.Status.{Status}
use Rattle.pungi_symbol.specs.declared.states.known.Status.TheVariants as status
use Rattle.pungi_symbol.specs.declared.states.limit.Limit.{Limit}
use Rattle.pungi_symbol.specs.declared.states.obstacle.Obstacle.{Obstacle}
use Rattle.pungi_symbol.specs.declared.states.computation.Computation.{Computation}
use Rattle.pungi_symbol.specs.declared.states.node.Node.{Node}
use Rattle.pungi_symbol.specs.declared.states.node.Node.TheVariants as nodes
use Rattle.pungi_symbol.specs.declared.states.sum.Sum.{Sum as SumOf}
use Rattle.pungi_symbol.specs.declared.states.mark.Mark.{Mark}
use Rattle.pungi_symbol.specs.declared.states.mark.Mark.TheVariants.{Pointer, TextPointer, IsNull, IsObject, IsText}
use Rattle.pungi_symbol.specs.declared.states.mark.Mark.TheVariants.{IsNumber, IsConverted, Integer}
use Rattle.pungi_symbol.specs.declared.states.spot.Progress.TheVariants.{Looking}
use Rattle.pungi_symbol.specs.declared.states.state.State.{State}
use Rattle.pungi_symbol.specs.declared.states.sym_end.SymEnd.{SymEnd}
use Rattle.pungi_symbol.specs.declared.states.sym_end.SymEnd.TheVariants as ends
use Rattle.pungi_symbol.specs.declared.states.term.Term.{Term}
use Rattle.pungi_symbol.specs.declared.states.term.Term.TheVariants.{Unset, Token}
use Rattle.pungi_symbol.specs.states.Terms.{Table, value_at, content_of, low_of, high_of}
use Rattle.pungi_symbol.specs.states.Known.{count, mark_of, object_of}
use Rattle.pungi_symbol.specs.states.NumberPlaces.{no_places}
use Rattle.pungi_symbol.specs.states.Turns.{most_steps, first_turns}
use Rattle.pungi_symbol.specs.questions.NextQuestion.{ask, content_mark, zero_sum}
use Rattle.pungi_symbol.specs.answers.KnownAfter.{go}
use Rattle.pungi_symbol.specs.answers.SymbolicState.{class_of, balance_at, can, apply}
use Rattle.pungi_symbol.specs.runs.Fits.{FitsState}
use Rattle.pungi_symbol.specs.runs.OneInstruction.{Led, machine_at}
use Rattle.pungi_symbol.specs.runs.RunInState.{answer, Lies}

abbrev pub value_in : Content → Option Value
value_in content.Unset = None
value_in (content.Holds v) = Some v

abbrev pub returned_value : Table → Option Term → Option Value
returned_value table None = None
returned_value table (Some x) = value_in (content_of table x)

-- ---- the start of a function

abbrev pub argument_count : Code → ℕ
argument_count code = length (take code.params code.vars)

abbrev pub known_at : ℕ → ℕ → Code → Known
known_at statics f code = record {
  function = f;
  pc = 0;
  vars = map Token (range_with_len statics (argument_count code))
      ++ replicate (length code.vars - argument_count code) Unset;
  slots = [];
  made = [];
  marks = replicate statics IsObject ++ map content_mark (take code.params code.vars);
  progress = Looking 0;
  status = status.Going;
  turns = first_turns code.heads;
  computed = [];
  places = no_places;
}

abbrev pub start_state : ℕ → ℕ → Code → State
start_state statics f code = record {
  known = known_at statics f code;
  limits = [];
  statics = statics;
  classes = range_with_len 0 (statics + argument_count code);
  balances = replicate (statics + argument_count code) (pos 0);
  others = [];
}

abbrev pub start_states : ℕ → ℕ → Option Code → List (Decision × State)
start_states statics f None = []
start_states statics f (Some code) = (Quiet, start_state statics f code) ∷ []

abbrev pub values_of : ℕ → Entry → List Choice → List Value
values_of statics entry choices = map value.Object (range_with_len 0 statics) ++ (entry.args ++ map value_of choices)

abbrev pub table_of : ℕ → Entry → List Choice → List ℤ → Table
table_of statics entry choices computed = record { values = values_of statics entry choices; computed = computed }

-- ---- traces and paths

pub data Asked (code : List Line) (table : Table) (first : Known) : List Decision → Known → Type 0 where
  asked_here : Asked code table first [] first
  asked_on : (ds : List Decision) (k : Known) → Asked code table first ds k → k.status ≡ status.Going
      → Asked code table first (answer table k (ask code k)
      ∷ ds) (go (slice_get code k.pc) k (ask code k) (answer table k (ask code k)))

pub data Path (code : List Line) (first : State) : List Decision → State → Type 0 where
  path_here : Path code first [] first
  path_on : (ds : List Decision) (s : State) (d : Decision) → Path code first ds s → can s (ask code s.known) d ≡ true
      → Path code first (d ∷ ds) (apply (slice_get code s.known.pc) (ask code s.known) d s)

-- ---- runs

abbrev pub run_for : Code → Entry → List Choice → ℕ → run.End
run_for code entry choices n = (exec choices code.instrs n 0 (start code entry)).end

abbrev pub led_of : Table → Regs → ℕ → Status → Led
led_of table m pc status.Going = (after.Goes pc, m)
led_of table m pc (status.Returned p x) = (after.Leaves p (returned_value table x), m)
led_of table m pc (status.Stopped p) = (after.Stops p, m)
led_of table m pc (status.Blocked o p) = (after.Goes pc, m)

abbrev pub EndsFrom : Code → Entry → List Choice → ℕ → Led → Type 0
EndsFrom code entry choices n led =
    (fuel : ℕ) → run_for code entry choices (n + fuel) ≡ (Reaches (exec choices code.instrs fuel) led.0 led.1).end

pub record IsAt (code : Code) (entry : Entry) (choices : List Choice) (n : ℕ) (table : Table) (m : Regs) (pc : ℕ)
    (z : Status) : Type 0 where
  pub machine : machine_at choices code.instrs n (start code entry) ≡ led_of table m pc z
  pub ends : EndsFrom code entry choices n (led_of table m pc z)

-- each instruction asks at least once; the computed numbers are the run's own
pub record Meets (statics f : ℕ) (code : Code) (entry : Entry) (choices : List Choice) (n : ℕ) (ds : List Decision)
    (s : State) : Type 0 where
  pub computed : List ℤ
  pub path : Path code.instrs (start_state statics f code) ds s
  pub asked : Asked code.instrs (table_of statics entry choices computed) (known_at statics f code) ds s.known
  pub m : Regs
  pub lies : Lies code.instrs (table_of statics entry choices computed) (statics + argument_count code) m s
  pub enough : s.known.status ≡ status.Going → n ≤ length ds
  pub is_at : IsAt code entry choices n (table_of statics entry choices computed) m s.known.pc s.known.status

-- ---- runs in which a computation that is no sum may give any number

pub record IsFreeRun (statics f : ℕ) (code : Code) (entry : Entry) (choices : List Choice) (computed : List ℤ)
    (ds : List Decision) (s : State) : Type 0 where
  pub fits_code : code_fits statics code entry ≡ true
  pub path : Path code.instrs (start_state statics f code) ds s
  pub fits : FitsState (table_of statics entry choices computed) s
  pub enough : count s.known ≤ statics + argument_count code + length choices

pub record IsBlocked (statics f : ℕ) (code : Code) (entry : Entry) (choices : List Choice) : Type 0 where
  pub steps : ℕ
  pub decisions : List Decision
  pub s : State
  pub obstacle : Obstacle
  pub place : Pos
  pub meets : Meets statics f code entry choices steps decisions s
  pub blocked : s.known.status ≡ status.Blocked obstacle place

-- a run through a code with loops that is followed has at most 16,384 instructions and a return
abbrev pub IsShort : Code → ℕ → Type 0
IsShort code n = (length code.heads ≡ 0) ⊎ (n ≤ most_steps + 1)

abbrev pub IsPlaceOf : Pos → List Head → Type 0
IsPlaceOf p [] = ⊥
IsPlaceOf p (h ∷ hs) = (h.pos ≡ p) ⊎ IsPlaceOf p hs

abbrev pub IsCovered : ℕ → ℕ → Code → Type 0
IsCovered statics f code = (entry : Entry) (choices : List Choice) (n : ℕ) → code_fits statics code entry ≡ true
    → (run_for code entry choices n ≡ run.NeedsChoice)
    ⊎ (((ds : List Decision) × ((s : State) × Meets statics f code entry choices n ds s))
    ⊎ IsBlocked statics f code entry choices)

abbrev pub GoesBack : List Line → State → Decision × State → Type 0
GoesBack code s p =
    (table : Table) → FitsState table p.1 → FitsState table s × (answer table s.known (ask code s.known) ≡ p.0)

-- ---- a run for a state

-- numbers for the tokens, and for the results of the computations that are no sums
pub record Numbers : Type 0 where
  pub tokens : List ℤ
  pub computed : List ℤ

abbrev pub node_at : Numbers → Node → ℤ
node_at ns nodes.Zero = pos 0
node_at ns (nodes.Token t) = get_or ns.tokens t (pos 0)
node_at ns (nodes.Computed j) = get_or ns.computed j (pos 0)

abbrev pub sum_at : Numbers → SumOf → ℤ
sum_at ns s = node_at ns s.node +ℤ s.plus

abbrev pub IsInMark : Mark → ℤ → Type 0
IsInMark Pointer n = n ≡ pos 0
IsInMark TextPointer n = n ≡ pos 0
IsInMark IsNull n = n ≡ pos 0
IsInMark IsObject n = n ≡ pos 0
IsInMark IsText n = n ≡ pos 0
IsInMark (IsNumber m) n = n ≡ m
IsInMark (IsConverted m) n = n ≡ m
IsInMark (Integer r) n = is_between (low_of r) (high_of r) n ≡ true

abbrev pub IsMetBy : Numbers → Limit → Type 0
IsMetBy ns l = node_at ns l.x ≤ℤ (node_at ns l.y +ℤ l.c)

pub record IsModel (s : State) (ns : Numbers) : Type 0 where
  pub all : length ns.tokens ≡ count s.known
  pub marks : (t : ℕ) → t < count s.known → IsInMark (mark_of s.known t) (get_or ns.tokens t (pos 0))
  pub limits : All (IsMetBy ns) s.limits

abbrev pub no_computation : Computation
no_computation = record { kind = kinds.Long; op = ops.Add; a = zero_sum; b = zero_sum }

abbrev pub computation : Known → ℕ → Computation
computation k j = get_or k.computed j no_computation

abbrev pub gives : Numbers → Computation → Option ℤ
gives ns c = arithmetic c.op c.kind (sum_at ns c.a) (sum_at ns c.b)

-- the numbers of computations are those that the operators give
abbrev pub AreComputed : Known → Numbers → Type 0
AreComputed k ns = (j : ℕ) → j < length k.computed → gives ns (computation k j) ≡ Some (get_or ns.computed j (pos 0))

abbrev pub HasNoTable : State → Type 0
HasNoTable s = (table : Table) → FitsState table s → ⊥

abbrev pub own_value : Mark → ℕ → ℤ → Value
own_value Pointer c n = value.Object c
own_value TextPointer c n = value.Text
own_value IsNull c n = value.Null
own_value IsObject c n = value.Object c
own_value IsText c n = value.Text
own_value (IsNumber m) c n = value.Int m
own_value (IsConverted m) c n = value.Int m
own_value (Integer r) c n = value.Int n

abbrev pub own_values : List Mark → List ℕ → List ℤ → List Value
own_values [] cs ns = []
own_values (m ∷ ms) [] ns = []
own_values (m ∷ ms) (c ∷ cs) [] = []
own_values (m ∷ ms) (c ∷ cs) (n ∷ ns) = own_value m c n ∷ own_values ms cs ns

-- of n objects at entry; those that were made come after these, in the order of their making
abbrev pub object_number : ℕ → List ℕ → ℕ → ℕ
object_number n [] c = c
object_number n (m ∷ made) c = if m == c then n else object_number (n + 1) made c

abbrev pub own_numbers : State → List ℕ
own_numbers s = map (object_number (count s.known) s.known.made) s.classes

abbrev pub canon : State → List ℤ → List Value
canon s ns = own_values s.known.marks (own_numbers s) ns

abbrev pub own_table : State → Numbers → Table
own_table s ns = record { values = canon s ns.tokens; computed = ns.computed }

abbrev pub AreApart : State → List Value → Type 0
AreApart s values =
    (t u o : ℕ) → t < count s.known → u < count s.known → value_at values t ≡ value.Object o
    → value_at values u ≡ value.Object o
    → class_of s.classes t ≡ class_of s.classes u

-- an argument parser that failed after k units gives -1 - k
abbrev pub conversion_of : ℤ → Choice
conversion_of (pos k) = choice.Given k
conversion_of (negsuc k) = choice.Failed k

abbrev pub number_choice : Mark → ℤ → Choice
number_choice (IsConverted m) n = conversion_of n
number_choice m n = choice.Int n

abbrev pub choice_of : Mark → Value → Choice
choice_of m value.Null = choice.Null
choice_of m (value.Object k) = choice.Object k
choice_of m (value.Int n) = number_choice m n
choice_of m value.Text = choice.Text

abbrev pub choices_of : List Mark → List Value → List Choice
choices_of [] vs = []
choices_of (m ∷ ms) [] = []
choices_of (m ∷ ms) (v ∷ vs) = choice_of m v ∷ choices_of ms vs

abbrev pub own_choices : State → List ℤ → List Choice
own_choices s ns = choices_of s.known.marks (canon s ns)

-- ---- balance

abbrev pub end_of : Status → SymEnd
end_of status.Going = ends.Going
end_of (status.Returned p x) = ends.Returned p
end_of (status.Stopped p) = ends.Stopped p
end_of (status.Blocked o p) = ends.Blocked o p

abbrev pub returned_object : Known → Option Term → Option ℕ
returned_object k None = None
returned_object k (Some x) = object_of k x

abbrev pub is_class : List ℕ → Option ℕ → ℕ → Bool
is_class classes None t = false
is_class classes (Some u) t = class_of classes u == t

abbrev pub owned_object : Terms → Known → Option Term → Option ℕ
owned_object terms k x = if terms.convention.borrowed then None else returned_object k x

abbrev pub may_be_object : Mark → Bool
may_be_object Pointer = true
may_be_object IsObject = true
may_be_object m = false

-- arguments stand after the static objects
abbrev pub is_taken_as : Code → State → ℕ → ℕ → Bool
is_taken_as code s t p =
    nat_lt p (argument_count code)
    && (may_be_object (mark_of s.known (s.statics + p)) && class_of s.classes (s.statics + p) == t)

abbrev pub taken_count : Code → State → ℕ → ℕ
taken_count code s t = count_by (is_taken_as code s t) code.terms.convention.taken

abbrev pub wanted : Code → State → Option Term → ℕ → ℤ
wanted code s x t =
    (if is_class s.classes (owned_object code.terms s.known x) t then pos 1 else pos 0) -ℤ pos (taken_count code s t)

abbrev pub IsLevelState : Code → State → Option Term → Type 0
IsLevelState code s x =
    (t : ℕ) → IsCounted code.terms t → t < count s.known → balance_at s.balances t ≡ wanted code s x t
