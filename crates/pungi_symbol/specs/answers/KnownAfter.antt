-- What is known after an answer.
--   go_on, go_to, put            the next instruction, the instruction at a label, a variable that holds something else
--   arrive m k                   one more token, of which this is known
--   made_by a m t, arrive_answer a m k    the token of the object that a call makes; one more token, of what a call
--                                returns
--   number_of_outcome d, says_same d    the number of an answer; whether it says that two tokens are the same
--   truth_term b                 what a comparison gives
--   compares, compares_same      a comparison of terms, as far as they are known; of two objects
--   says_order d, order_number o    how two numbers compare, by an answer; two numbers that compare so are this and 0
--   holds_order c o              a comparison of two numbers that compare so
--   ordered i o k                what a comparison or a branch does then
--   computed i x k               the result of an instruction is this sum
--   number_there                 the result of arithmetic
--   comparison_var, comparison_term    the variable of a comparison, and what it holds where two objects were compared
--   put_answer x o k             a variable gets the answer of a call, where there is one
--   answer_of_row, answer_of_call    the answer that a call which asks nothing has by its row; the answer of any such
--                                call
--   term_with m t                the answer of a call, of which this is known
--   call_var                     the variable of a call
--   store_at, made_slot          a slot holds something else; a slot of an object that was made, which held nothing
--   stored_in f spot c slots, store_found f spot c k    the slots after a store into the one that was found, if one
--                              was; what is known then
--   touched_slot, touch          a slot at its first touch
--   load_first, store_first      a load or a store that touches its slot first
--   does k i                     an instruction's work is done
--   with_comparison p a b k      a comparison at this place: one of a computed number that is no sum is noted
--   next_computed k, with_computation p c k    the next result of a computation that is no sum; that computation
--   ranged line s n k            an instruction computes this sum, or its result is out of range
--   number_place_by, number_place k    the place by which a path is reported that has a computation which is no sum
--   turned o k                   a loop's head is counted, or the path isn't followed for a loop at this place
--   perform_line, place_of_line, instr_of    the instruction and the place of the next line, if there is one
--   go line k q d                what is known after the answer to a question
use Rattle.std.specs.Prelude.{ℕ, ◌+◌, ◌==◌, ℤ, pos, negsuc, Bool, false, ◌||◌, List, [], ◌∷◌, ◌++◌, length, slice_set}
use Rattle.std.specs.Prelude.{Option, Some}
use Rattle.std.specs.Prelude.{None, if◌then◌else◌}
use Rattle.std.specs.declared.cmp.Ordering.{Ordering}
use Rattle.std.specs.declared.cmp.Ordering.TheVariants.{Less, Equal, Greater}
use Rattle.pungi_base.specs.declared.pos.Pos.{Pos}
use Rattle.pungi_base.specs.declared.value.Value.TheVariants as value
use Rattle.pungi_api.specs.declared.answer.Answer.{Answer}
use Rattle.pungi_api.specs.declared.answer.Answer.TheVariants as answer
use Rattle.pungi_api.specs.declared.call_answer.CallAnswer.{CallAnswer}
use Rattle.pungi_api.specs.declared.call_answer.CallAnswer.TheVariants.{Of, Argument}
use Rattle.pungi_meaning.specs.declared.cmp.Cmp.{Cmp}
use Rattle.pungi_meaning.specs.Run.{nowhere}
use Rattle.pungi_meaning.specs.Values.{is_true, truth, holds, arithmetic, number_of}
use Rattle.pungi_code.specs.declared.atom.Var.{Var}
use Rattle.pungi_code.specs.declared.code.Line.{Line}
use Rattle.pungi_code.specs.declared.instr.Instr.{Instr}
use Rattle.pungi_code.specs.declared.instr.Instr.TheVariants.{Set, Arith, Fit, Compare, Load, Store, Api, Call}
use Rattle.pungi_code.specs.declared.instr.Instr.TheVariants.{Unset as Forget, Jump, Branch, Return, Fall}
use Rattle.pungi_symbol.specs.declared.answers.decision.Decision.{Decision}
use Rattle.pungi_symbol.specs.declared.answers.decision.Decision.TheVariants.{Quiet, Outcome, Order, Same as IsSame}
use Rattle.pungi_symbol.specs.declared.states.known.Known.{Known}
use Rattle.pungi_symbol.specs.declared.states.known.Status.TheVariants as status
use Rattle.pungi_symbol.specs.declared.states.mark.Mark.{Mark}
use Rattle.pungi_symbol.specs.declared.states.mark.Mark.TheVariants.{Pointer, TextPointer, IsNull, IsObject, IsText}
use Rattle.pungi_symbol.specs.declared.states.mark.Mark.TheVariants.{IsNumber, IsConverted, Integer}
use Rattle.pungi_symbol.specs.declared.states.computation.Computation.{Computation}
use Rattle.pungi_symbol.specs.declared.states.node.Node.TheVariants as nodes
use Rattle.pungi_symbol.specs.declared.states.obstacle.Obstacle.TheVariants as obstacle
use Rattle.pungi_symbol.specs.declared.questions.found_slot.Finding.{Finding}
use Rattle.pungi_symbol.specs.declared.questions.found_slot.Finding.TheVariants.{At, OfMade}
use Rattle.pungi_symbol.specs.declared.questions.question.Question.{Question}
use Rattle.pungi_symbol.specs.declared.questions.question.Question.TheVariants.{Does, Touches, Overwrites}
use Rattle.pungi_symbol.specs.declared.questions.question.Question.TheVariants.{Null as AsksNull, Base, Answers, Same}
use Rattle.pungi_symbol.specs.declared.questions.question.Question.TheVariants.{Orders, Range, Computes, Unplain, Turn}
use Rattle.pungi_symbol.specs.declared.questions.question.Question.TheVariants.{Returns, Stops, Over}
use Rattle.pungi_symbol.specs.declared.states.spot.Progress.TheVariants.{Looking, Found}
use Rattle.pungi_symbol.specs.declared.states.spot.Spot.{Spot}
use Rattle.pungi_symbol.specs.declared.states.spot.Touched.{Touched}
use Rattle.pungi_symbol.specs.declared.states.sum.Sum.{Sum as SumOf}
use Rattle.pungi_symbol.specs.declared.states.term.Term.{Term}
use Rattle.pungi_symbol.specs.declared.states.term.Term.TheVariants.{Unset, Null, Text, Number, Token, Sum}
use Rattle.pungi_symbol.specs.states.Terms.{outcomes_of_mark, outcomes_of_answer, mark_at}
use Rattle.pungi_symbol.specs.states.Known.{count, mark_of, term_of, known_value, number, slot_note, find, held_in}
use Rattle.pungi_symbol.specs.states.Known.{spot_of}
use Rattle.pungi_symbol.specs.states.Terms.{is_computed}
use Rattle.pungi_symbol.specs.states.NumberPlaces.{with_computed, with_compared, place_among}
use Rattle.pungi_symbol.specs.states.Turns.{blocked_at, entered, stepped}
use Rattle.pungi_symbol.specs.questions.NextQuestion.{first_term, terms_of}

abbrev pub go_on : Known → Known
go_on k = record k { pc = k.pc + 1; progress = Looking 0; turns = stepped k.turns }

abbrev pub go_to : ℕ → Known → Known
go_to l k = record k { pc = l; progress = Looking 0; turns = stepped k.turns }

abbrev pub put : ℕ → Term → Known → Known
put x c k = record k { vars = slice_set k.vars x c }

abbrev pub arrive : Mark → Known → Known
arrive m k = record k { marks = k.marks ++ m ∷ [] }

abbrev pub made_by : Answer → Mark → ℕ → List ℕ
made_by answer.Made IsObject t = t ∷ []
made_by a m t = []

abbrev pub arrive_answer : Answer → Mark → Known → Known
arrive_answer a m k = record (arrive m k) { made = k.made ++ made_by a m (count k) }

abbrev pub number_of_outcome : Decision → ℕ
number_of_outcome (Outcome k) = k
number_of_outcome Quiet = 0
number_of_outcome (Order o) = 0
number_of_outcome (IsSame b) = 0

abbrev pub says_same : Decision → Bool
says_same (IsSame b) = b
says_same (Outcome k) = false
says_same Quiet = false
says_same (Order o) = false

abbrev pub says_order : Decision → Ordering
says_order (Order o) = o
says_order (Outcome k) = Equal
says_order Quiet = Equal
says_order (IsSame b) = Equal

-- ---- numbers

abbrev pub order_number : Ordering → ℤ
order_number Less = negsuc 0
order_number Equal = pos 0
order_number Greater = pos 1

abbrev pub holds_order : Cmp → Ordering → Bool
holds_order c o = holds c (value.Int (order_number o)) (value.Int (pos 0))

abbrev pub truth_term : Bool → Term
truth_term b = Number (number_of (truth b))

abbrev pub compares : Known → Cmp → Term → Term → Bool
compares k c x y = holds c (known_value k x) (known_value k y)

abbrev pub compares_same : Cmp → Bool → Bool
compares_same c same = holds c (value.Object 0) (value.Object (if same then 0 else 1))

abbrev pub number_there : Option ℤ → ℤ
number_there (Some n) = n
number_there None = pos 0

abbrev pub comparison_var : Instr → ℕ
comparison_var (Compare x c a b) = x.0
comparison_var i = 0

abbrev pub comparison_term : Bool → Instr → Term
comparison_term same (Compare x c a b) = truth_term (compares_same c same)
comparison_term same i = Unset

-- ---- calls

abbrev pub put_answer : Option Var → Option Term → Known → Known
put_answer None o k = k
put_answer (Some x) None k = k
put_answer (Some x) (Some c) k = put x.0 c k

abbrev pub answer_of_row : Answer → Option Term
answer_of_row answer.Void = None
answer_of_row a = Some Null

abbrev pub answer_of_call : CallAnswer → Term → Option Term
answer_of_call (Of a) x = answer_of_row a
answer_of_call Argument x = Some x

abbrev pub term_with : Mark → ℕ → Term
term_with Pointer t = Token t
term_with TextPointer t = Token t
term_with IsNull t = Null
term_with IsObject t = Token t
term_with IsText t = Text
term_with (IsNumber n) t = Number n
term_with (IsConverted n) t = Number n
term_with (Integer r) t = Token t

abbrev pub call_var : Instr → Option Var
call_var (Api x g as') = x
call_var i = None

-- ---- slots

abbrev pub store_at : ℕ → Term → Known → Known
store_at i c k = record k { slots = slice_set k.slots i (record (slot_note k.slots i) { held = c }) }

abbrev pub made_slot : Spot → Term → Touched
made_slot s held = record { spot = s; at_entry = Unset; held = held }

abbrev pub stored_in : Finding → Spot → Term → List Touched → List Touched
stored_in OfMade s c slots = slots ++ made_slot s c ∷ []
stored_in (At i) s c slots = slice_set slots i (record (slot_note slots i) { held = c })
stored_in f s c slots = slots

abbrev pub store_found : Finding → Spot → Term → Known → Known
store_found f s c k = record k { slots = stored_in f s c k.slots }

abbrev pub touched_slot : Known → Spot → Term → Touched
touched_slot k s held = record { spot = s; at_entry = Token (count k); held = held }

abbrev pub touch : Spot → Term → Known → Known
touch s held k = record k { slots = k.slots ++ touched_slot k s held ∷ [] }

-- a slot is touched for the first time: it is loaded, or written
abbrev pub load_first : Instr → Mark → Known → Known
load_first (Load x place) m k =
    go_on (put x.0 (Token (count k)) (arrive m (touch (spot_of k place) (Token (count k)) k)))
load_first i m k = arrive m k

abbrev pub store_first : Instr → Mark → Known → Known
store_first (Store place a) m k = go_on (arrive m (touch (spot_of k place) (term_of k a) k))
store_first i m k = arrive m k

-- ---- instructions

abbrev pub does : Known → Instr → Known
does k (Set x a) = go_on (put x.0 (term_of k a) k)
does k (Arith x kind o a b) =
    go_on (put x.0 (Number (number_there (arithmetic o kind (number k (term_of k a)) (number k (term_of k b))))) k)
does k (Fit x kind a) = go_on (put x.0 (Number (number k (term_of k a))) k)
does k (Compare x c a b) = go_on (put x.0 (truth_term (compares k c (term_of k a) (term_of k b))) k)
does k (Load x place) = go_on (put x.0 (held_in k (find k place)) k)
does k (Store place a) = go_on (store_found (find k place) (spot_of k place) (term_of k a) k)
does k (Api x g as') = go_on (put_answer x (answer_of_call g.answer (first_term (terms_of k as'))) k)
does k (Call x f as') = k
does k (Forget x) = go_on (put x.0 Unset k)
does k (Jump l) = go_to l.0 k
does k (Branch a this other) = go_to (if is_true (known_value k (term_of k a)) then this.0 else other.0) k
does k (Return a) = k
does k Fall = k

abbrev pub ordered : Instr → Ordering → Known → Known
ordered (Compare x c a b) o k = go_on (put x.0 (truth_term (holds_order c o)) k)
ordered (Branch a this other) o k = go_to (if is_true (value.Int (order_number o)) then this.0 else other.0) k
ordered i o k = k

abbrev pub computed : Instr → SumOf → Known → Known
computed (Arith x kind o a b) s k = go_on (put x.0 (Sum s) k)
computed (Fit x kind a) s k = go_on (put x.0 (Sum s) k)
computed i s k = k

abbrev pub turned : Option Pos → Known → Known
turned None k = record k { turns = entered k.turns k.pc }
turned (Some p) k = record k { status = status.Blocked obstacle.Loop p }

abbrev pub perform_line : Option Line → (Instr → Known) → Known → Known
perform_line None f k = k
perform_line (Some line) f k = f line.instr

abbrev pub place_of_line : Option Line → Pos
place_of_line None = nowhere
place_of_line (Some line) = line.pos

abbrev pub instr_of : Option Line → Instr
instr_of None = Fall
instr_of (Some line) = line.instr

-- ---- numbers that aren't known

abbrev pub with_comparison : Pos → SumOf → SumOf → Known → Known
with_comparison p a b k =
    if is_computed a.node || is_computed b.node then record k { places = with_compared k.places p } else k

abbrev pub next_computed : Known → SumOf
next_computed k = record { node = nodes.Computed (length k.computed); plus = pos 0 }

abbrev pub with_computation : Pos → Computation → Known → Known
with_computation p c k = record k { computed = k.computed ++ c ∷ []; places = with_computed k.places p }

-- the result is within the range, or it isn't
abbrev pub ranged : Option Line → SumOf → ℕ → Known → Known
ranged line s n k =
    if n == 1 then computed (instr_of line) s k else record k { status = status.Stopped (place_of_line line) }

abbrev pub number_place_by : List Computation → Known → Option Pos
number_place_by [] k = None
number_place_by (c ∷ cs) k = Some (place_among k.places)

abbrev pub number_place : Known → Option Pos
number_place k = number_place_by k.computed k

abbrev pub go : Option Line → Known → Question → Decision → Known
go line k (Does d') d = perform_line line (λ i. does k i) k
go line k (Touches m) d = load_first (instr_of line) m k
go line k (Overwrites m) d = store_first (instr_of line) (mark_at (outcomes_of_mark m) (number_of_outcome d)) k
go line k (AsksNull t) d =
    record k { marks = slice_set k.marks t (mark_at (outcomes_of_mark (mark_of k t)) (number_of_outcome d)) }
go line k (Base t u i) d = record k { progress = if says_same d then Found i else Looking (i + 1) }
go line k (Answers a) d =
    go_on (put_answer (call_var (instr_of line)) (Some (term_with (mark_at (outcomes_of_answer a)
    (number_of_outcome d)) (count k))) (arrive_answer a (mark_at (outcomes_of_answer a) (number_of_outcome d)) k))
go line k (Same t u) d = go_on (put (comparison_var (instr_of line)) (comparison_term (says_same d) (instr_of line)) k)
go line k (Orders a b) d = ordered (instr_of line) (says_order d) (with_comparison (place_of_line line) a b k)
go line k (Range kind a) d = ranged line a (number_of_outcome d) k
go line k (Computes kind o a b) d =
    ranged line (next_computed k) (number_of_outcome d) (with_computation (place_of_line line)
    (record { kind = kind; op = o; a = a; b = b }) k)
go line k Unplain d = record k { status = status.Blocked obstacle.Number (place_of_line line) }
go line k Turn d = turned (blocked_at k.turns k.pc) k
go line k (Returns x) d = record k { status = status.Returned (place_of_line line) x }
go line k (Stops d') d = record k { status = status.Stopped (place_of_line line) }
go line k Over d = k
