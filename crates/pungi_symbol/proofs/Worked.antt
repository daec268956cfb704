-- The definitions by computing, on small codes.
use Rattle.std.proofs.Common.{◌≡◌, ℕ, pos, negsuc, List, [], ◌∷◌, map, refl, inl, None, Some, true, false}
use Rattle.std.specs.Prelude.{slice_get}
use Rattle.pungi_base.specs.declared.pos.Pos.{Pos}
use Rattle.pungi_api.specs.Signatures.{made_signature}
use Rattle.pungi_api.specs.Terms.{counting_all}
use Rattle.pungi_api.specs.declared.profile.Profile.TheVariants.{Python311}
use Rattle.pungi_api.specs.declared.answer.Answer.TheVariants as answer
use Rattle.pungi_api.specs.declared.param.Param.{Param}
use Rattle.pungi_api.specs.declared.param.Param.TheVariants as param
use Rattle.pungi_api.specs.declared.call_answer.CallAnswer.TheVariants.{Of, Argument}
use Rattle.pungi_api.specs.declared.own_effect.OwnEffect.TheVariants.{IncRef}
use Rattle.pungi_api.specs.declared.take.Take.TheVariants as take
use Rattle.std.specs.declared.cmp.Ordering.TheVariants.{Less, Equal, Greater}
use Rattle.pungi_types.specs.declared.kind.ValueKind.TheVariants as kinds
use Rattle.pungi_meaning.specs.declared.cmp.Cmp.TheVariants as cmps
use Rattle.pungi_meaning.specs.declared.op.Op.TheVariants as ops
use Rattle.pungi_code.specs.declared.atom.Atom.{Atom}
use Rattle.pungi_code.specs.declared.atom.Atom.TheVariants as atom
use Rattle.pungi_code.specs.declared.atom.Var.{Var}
use Rattle.pungi_code.specs.declared.code.Code.{Code}
use Rattle.pungi_code.specs.declared.code.Head.{Head}
use Rattle.pungi_code.specs.declared.code.Line.{Line}
use Rattle.pungi_code.specs.declared.instr.Instr.{Instr}
use Rattle.pungi_code.specs.declared.instr.Instr.TheVariants.{Arith, Compare, Store, Api, Return, Branch, Jump}
use Rattle.pungi_code.specs.declared.place.Place.{Place}
use Rattle.pungi_code.specs.declared.place.Place.TheVariants as places
use Rattle.pungi_symbol.specs.declared.answers.decision.Decision.{Decision}
use Rattle.pungi_symbol.specs.declared.answers.decision.Decision.TheVariants.{Quiet, Outcome, Order, Same as IsSame}
use Rattle.pungi_symbol.specs.declared.states.mark.Mark.TheVariants as marks
use Rattle.pungi_symbol.specs.declared.questions.question.Question.TheVariants.{Null as AsksNull, Overwrites, Answers}
use Rattle.pungi_symbol.specs.declared.questions.question.Question.TheVariants.{Does, Same, Orders, Range, Computes}
use Rattle.pungi_symbol.specs.declared.questions.question.Question.TheVariants.{Turn}
use Rattle.pungi_symbol.specs.declared.questions.question.Question.TheVariants.{Returns}
use Rattle.pungi_symbol.specs.declared.states.known.Status.TheVariants as status
use Rattle.pungi_symbol.specs.declared.states.obstacle.Obstacle.TheVariants as obstacle
use Rattle.pungi_symbol.specs.declared.states.node.Node.TheVariants as nodes
use Rattle.pungi_symbol.specs.declared.states.spot.Spot.TheVariants.{Field}
use Rattle.pungi_symbol.specs.declared.states.state.State.{State}
use Rattle.pungi_symbol.specs.declared.states.term.Term.TheVariants.{Token, Sum, Unset}
use Rattle.pungi_symbol.specs.declared.states.turns.Turns.{Turns}
use Rattle.pungi_symbol.specs.states.Turns.{is_bounded, blocked_at, first_turns}
use Rattle.pungi_symbol.specs.questions.NextQuestion.{ask}
use Rattle.pungi_symbol.specs.answers.KnownAfter.{number_place}
use Rattle.pungi_symbol.specs.answers.SymbolicState.{apply, successors}
use Rattle.pungi_symbol.specs.runs.Paths.{start_state, wanted, IsPlaceOf}

abbrev Here : Pos
Here = record { line = 1; col = 1 }

abbrev At : ℕ → Var
At x = record { 0 = x }

abbrev Var' : ℕ → Atom
Var' x = atom.Var (At x)

abbrev One : Instr → List Param → Code
One i vars = record {
  instrs = (record { pos = Here; instr = i }) ∷ [];
  vars = vars;
  params = 2;
  locals = 2;
  result = None;
  heads = [];
  terms = counting_all;
}

abbrev Two : List Param
Two = param.ObjectOrNull ∷ param.ObjectOrNull ∷ param.Int ∷ []

abbrev Answers' : List Line → State → List Decision
Answers' code s = map (λ p. p.0) (successors code s)

abbrev Next : List Line → Decision → State → State
Next code d s = apply (slice_get code s.known.pc) (ask code s.known) d s

-- a static object is returned: it owes a reference that was never taken
abbrev Gives : Code
Gives = One (Return (Some (atom.Static 0))) Two

returns_it : ask Gives.instrs (start_state 1 0 Gives).known ≡ Returns (Some (Token 0))
returns_it = refl

owes_one : wanted Gives (start_state 1 0 Gives) (Some (Token 0)) 0 ≡ pos 1
owes_one = refl

-- the same function lends it, and takes over the reference of its first argument
abbrev Lends : Code
Lends = record Gives {
  terms = record { profile = Python311; convention = record { borrowed = true; taken = 0 ∷ [] } };
}

owes_none : wanted Lends (start_state 1 0 Lends) (Some (Token 0)) 0 ≡ pos 0
owes_none = refl

takes_one : wanted Lends (start_state 1 0 Lends) (Some (Token 0)) 1 ≡ negsuc 0
takes_one = refl

borrows_the_other : wanted Lends (start_state 1 0 Lends) (Some (Token 0)) 2 ≡ pos 0
borrows_the_other = refl

-- two arguments are compared: NULL of the left, NULL of the right, same or other
abbrev Compares : Code
Compares = One (Compare (At 2) cmps.Equal (Var' 0) (Var' 1)) Two

abbrev S0 : State
S0 = start_state 0 0 Compares

abbrev S1 : State
S1 = Next Compares.instrs (Outcome 1) S0

abbrev S2 : State
S2 = Next Compares.instrs (Outcome 1) S1

left_first : ask Compares.instrs S0.known ≡ AsksNull 0
left_first = refl

null_or_not : Answers' Compares.instrs S0 ≡ Outcome 0 ∷ Outcome 1 ∷ []
null_or_not = refl

right_then : ask Compares.instrs S1.known ≡ AsksNull 1
right_then = refl

both_objects : ask Compares.instrs S2.known ≡ Same 0 1
both_objects = refl

same_or_other : Answers' Compares.instrs S2 ≡ IsSame false ∷ IsSame true ∷ []
same_or_other = refl

merged_into_the_older : (Next Compares.instrs (IsSame true) S2).classes ≡ 0 ∷ 0 ∷ []
merged_into_the_older = refl

-- two static objects are compared: they differ
abbrev Statics : Code
Statics = One (Compare (At 2) cmps.Equal (atom.Static 0) (atom.Static 1)) Two

statics_differ : Answers' Statics.instrs (start_state 2 0 Statics) ≡ IsSame false ∷ []
statics_differ = refl

-- an item is taken over also where the call fails
abbrev Sets : Code
Sets = One (Api (Some (At 2)) (record {
  own = None;
  params = param.Object ∷ param.Object ∷ [];
  takes = take.Never ∷ take.Always ∷ [];
  answer = Of answer.Status;
}) (Var' 0 ∷ Var' 1 ∷ [])) Two

abbrev Asked2 : State
Asked2 = Next Sets.instrs (Outcome 1) (Next Sets.instrs (Outcome 1) (start_state 0 0 Sets))

asks_the_answer : ask Sets.instrs Asked2.known ≡ Answers answer.Status
asks_the_answer = refl

taken_on_failure : (Next Sets.instrs (Outcome 1) Asked2).balances ≡ pos 0 ∷ negsuc 0 ∷ pos 0 ∷ []
taken_on_failure = refl

taken_on_success : (Next Sets.instrs (Outcome 0) Asked2).balances ≡ pos 0 ∷ negsuc 0 ∷ pos 0 ∷ []
taken_on_success = refl

-- Py_NewRef: its argument is counted and returned, and nothing is asked but whether it is NULL
abbrev Shares : Code
Shares = One (Api (Some (At 1)) (record {
  own = Some IncRef;
  params = param.Object ∷ [];
  takes = take.Never ∷ [];
  answer = Argument;
}) (Var' 0 ∷ [])) Two

abbrev Shared1 : State
Shared1 = Next Shares.instrs (Outcome 1) (start_state 0 0 Shares)

an_object_first : ask Shares.instrs (start_state 0 0 Shares).known ≡ AsksNull 0
an_object_first = refl

then_nothing : ask Shares.instrs Shared1.known ≡ Does Quiet
then_nothing = refl

counts_its_argument : (Next Shares.instrs Quiet Shared1).balances ≡ pos 1 ∷ pos 0 ∷ []
counts_its_argument = refl

returns_its_argument : (Next Shares.instrs Quiet Shared1).known.vars ≡ Token 0 ∷ Token 0 ∷ Unset ∷ []
returns_its_argument = refl

-- a field is written for the first time: what was there owes a reference no more
abbrev Puts : Code
Puts = One (Store (places.Field (Var' 0) (record { 0 = 7 }) (record { 0 = 8 }) param.ObjectOrNull) (Var' 1)) Two

abbrev Put2 : State
Put2 = Next Puts.instrs (Outcome 1) (Next Puts.instrs (Outcome 1) (start_state 0 0 Puts))

stored_first : ask Puts.instrs (start_state 0 0 Puts).known ≡ AsksNull 1
stored_first = refl

touches : ask Puts.instrs Put2.known ≡ Overwrites marks.Pointer
touches = refl

counts_what_was_there : (Next Puts.instrs (Outcome 1) Put2).balances ≡ pos 0 ∷ negsuc 0 ∷ pos 1 ∷ []
counts_what_was_there = refl

null_owes_nothing : (Next Puts.instrs (Outcome 0) Put2).balances ≡ pos 0 ∷ negsuc 0 ∷ pos 0 ∷ []
null_owes_nothing = refl

-- an object is made: it is another than each that was there, a slot of it holds nothing, and nothing is asked of it
abbrev Slot : Place
Slot = places.Field (Var' 2) (record { 0 = 7 }) (record { 0 = 8 }) param.ObjectOrNull

abbrev Makes : Code
Makes = record {
  instrs = (record { pos = Here; instr = Api (Some (At 2)) made_signature (Var' 0 ∷ []) })
      ∷ (record { pos = Here; instr = Store Slot (Var' 1) })
      ∷ (record { pos = Here; instr = Compare (At 1) cmps.Equal (Var' 2) (Var' 0) }) ∷ [];
  vars = param.ObjectOrNull ∷ param.ObjectOrNull ∷ param.ObjectOrNull ∷ [];
  params = 2;
  locals = 2;
  result = None;
  heads = [];
  terms = counting_all;
}

-- the type isn't NULL, the object is made, and it isn't NULL that is stored
abbrev Made1 : State
Made1 = Next Makes.instrs (Outcome 1) (start_state 0 0 Makes)

abbrev Made2 : State
Made2 = Next Makes.instrs (Outcome 1) (Next Makes.instrs (Outcome 1) Made1)

asks_whether_it_was_made : ask Makes.instrs Made1.known ≡ Answers answer.Made
asks_whether_it_was_made = refl

notes_its_token : Made2.known.made ≡ 2 ∷ []
notes_its_token = refl

owes_the_new_reference : Made2.balances ≡ pos 0 ∷ pos 0 ∷ pos 1 ∷ []
owes_the_new_reference = refl

only_itself : Answers' Makes.instrs Made2 ≡ IsSame true ∷ []
only_itself = refl

abbrev Made3 : State
Made3 = Next Makes.instrs (IsSame true) Made2

asks_no_content : ask Makes.instrs Made3.known ≡ Does Quiet
asks_no_content = refl

held_nothing : (Next Makes.instrs Quiet Made3).known.slots
    ≡ (record { spot = Field 2 (record { 0 = 7 }) (record { 0 = 8 }); at_entry = Unset; held = Token 1 }) ∷ []
held_nothing = refl

other_than_its_type : Answers' Makes.instrs (Next Makes.instrs Quiet Made3) ≡ IsSame false ∷ []
other_than_its_type = refl

-- two integer arguments are compared: three answers, and each says how far they are apart
abbrev Integers : List Param
Integers = param.Int ∷ param.Int ∷ param.Int ∷ []

abbrev Less' : Code
Less' = One (Compare (At 2) cmps.Less (Var' 0) (Var' 1)) Integers

abbrev N0 : State
N0 = start_state 0 0 Less'

how_they_compare : ask Less'.instrs N0.known ≡ Orders (record { node = nodes.Token 0; plus = pos 0 })
    (record { node = nodes.Token 1; plus = pos 0 })
how_they_compare = refl

three_orders : Answers' Less'.instrs N0 ≡ Order Less ∷ Order Equal ∷ Order Greater ∷ []
three_orders = refl

less_by_one : (Next Less'.instrs (Order Less) N0).limits
    ≡ (record { x = nodes.Token 0; y = nodes.Token 1; c = negsuc 0 }) ∷ []
less_by_one = refl

equal_both_ways : (Next Less'.instrs (Order Equal) N0).limits
    ≡ (record { x = nodes.Token 0; y = nodes.Token 1; c = pos 0 })
    ∷ (record { x = nodes.Token 1; y = nodes.Token 0; c = pos 0 }) ∷ []
equal_both_ways = refl

-- a number and a constant: below the range, within it or above it
abbrev Adds : Code
Adds = One (Arith (At 2) kinds.Int ops.Add (Var' 0) (atom.Int (pos 1))) Integers

where_it_lies : ask Adds.instrs (start_state 0 0 Adds).known ≡ Range kinds.Int
    (record { node = nodes.Token 0; plus = pos 1 })
where_it_lies = refl

sum_within : (Next Adds.instrs (Outcome 1) (start_state 0 0 Adds)).known.vars
    ≡ Token 0 ∷ Token 1 ∷ Sum (record { node = nodes.Token 0; plus = pos 1 }) ∷ []
sum_within = refl

too_great_stops : (Next Adds.instrs (Outcome 2) (start_state 0 0 Adds)).known.status ≡ status.Stopped Here
too_great_stops = refl

-- a product goes on with a number of its own
abbrev Times : Code
Times = One (Arith (At 2) kinds.Int ops.Mul (Var' 0) (Var' 1)) Integers

asks_for_the_product : ask Times.instrs (start_state 0 0 Times).known ≡ Computes kinds.Int ops.Mul
    (record { node = nodes.Token 0; plus = pos 0 }) (record { node = nodes.Token 1; plus = pos 0 })
asks_for_the_product = refl

three_products : Answers' Times.instrs (start_state 0 0 Times) ≡ Outcome 0 ∷ Outcome 1 ∷ Outcome 2 ∷ []
three_products = refl

followed : (Next Times.instrs (Outcome 1) (start_state 0 0 Times)).known.vars
    ≡ Token 0 ∷ Token 1 ∷ Sum (record { node = nodes.Computed 0; plus = pos 0 }) ∷ []
followed = refl

-- a number is doubled and compared with 7: the path is reported by the place of the comparison
abbrev Later : Pos
Later = record { line = 2; col = 9 }

abbrev Doubles : Code
Doubles = record {
  instrs = (record { pos = Here; instr = Arith (At 2) kinds.Int ops.Mul (Var' 0) (atom.Int (pos 2)) })
      ∷ (record { pos = Later; instr = Compare (At 1) cmps.Equal (Var' 2) (atom.Int (pos 7)) }) ∷ [];
  vars = Integers;
  params = 2;
  locals = 2;
  result = None;
  heads = [];
  terms = counting_all;
}

abbrev Doubled : State
Doubled = Next Doubles.instrs (Outcome 1) (start_state 0 0 Doubles)

by_the_computation : number_place Doubled.known ≡ Some Here
by_the_computation = refl

compares_the_double : ask Doubles.instrs Doubled.known ≡ Orders (record { node = nodes.Computed 0; plus = pos 0 })
    (record { node = nodes.Zero; plus = pos 7 })
compares_the_double = refl

by_the_comparison : number_place (Next Doubles.instrs (Order Equal) Doubled).known ≡ Some Later
by_the_comparison = refl

-- a loop: as long as a number differs from 0 nothing is done
abbrev There : Pos
There = record { line = 2; col = 5 }

abbrev Loop : Head
Loop = record { label = record { 0 = 0 }; pos = There }

abbrev Rounds : Code
Rounds = record {
  instrs = (record { pos = Here; instr = Branch (Var' 0) (record { 0 = 1 }) (record { 0 = 2 }) })
      ∷ (record { pos = Here; instr = Jump (record { 0 = 0 }) }) ∷ (record { pos = Here; instr = Return None }) ∷ [];
  vars = Integers;
  params = 2;
  locals = 2;
  result = None;
  heads = Loop ∷ [];
  terms = counting_all;
}

abbrev AtLoop : State
AtLoop = start_state 0 0 Rounds

-- the head is counted, the number is greater than 0, and the body goes back
abbrev Round : State → State
Round s = Next Rounds.instrs Quiet (Next Rounds.instrs (Order Greater) (Next Rounds.instrs Quiet s))

comes_to_a_head : ask Rounds.instrs AtLoop.known ≡ Turn
comes_to_a_head = refl

goes_on_alone : Answers' Rounds.instrs AtLoop ≡ Quiet ∷ []
goes_on_alone = refl

then_asks : ask Rounds.instrs (Next Rounds.instrs Quiet AtLoop).known ≡ Orders
    (record { node = nodes.Token 0; plus = pos 0 })
    (record { node = nodes.Zero; plus = pos 0 })
then_asks = refl

body_is_no_head : ask Rounds.instrs (Next Rounds.instrs (Order Greater) (Next Rounds.instrs Quiet AtLoop)).known
    ≡ Does Quiet
body_is_no_head = refl

counts_both : (Round AtLoop).known.turns
    ≡ record { heads = (record { label = 0; pos = There; times = 1 }) ∷ []; steps = 2; last = There; arriving = true }
counts_both = refl

-- the head is reached a third time
cut_at_the_head : (Next Rounds.instrs Quiet (Round (Round AtLoop))).known.status ≡ status.Blocked obstacle.Loop There
cut_at_the_head = refl

pub place_of_the_head : IsPlaceOf There Rounds.heads
place_of_the_head = inl refl

-- a path may leave the loop when it reaches the head for the second time, and is then followed
leaves_the_loop : (Next Rounds.instrs Quiet (Next Rounds.instrs (Order Equal) (Next Rounds.instrs Quiet
    (Round AtLoop)))).known.status ≡ status.Returned Here None
leaves_the_loop = refl

-- where a code has no head nothing is cut; where it has one, a path of 16,384 instructions is
without_a_head : (t : Turns) (pc : ℕ) → is_bounded (record t { heads = [] }) pc ≡ false
without_a_head t pc = refl

long_path : is_bounded (record (first_turns (Loop ∷ [])) { steps = 16384; arriving = false }) 7 ≡ true
long_path = refl

cut_at_the_last_head : blocked_at (record (first_turns (Loop ∷ [])) { steps = 16384; arriving = false }) 7 ≡ Some There
cut_at_the_last_head = refl

not_yet_long : is_bounded (record (first_turns (Loop ∷ [])) { steps = 16383; arriving = false }) 7 ≡ false
not_yet_long = refl
