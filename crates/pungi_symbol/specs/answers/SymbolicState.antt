-- Symbolic states: what they note, and what they become.
--   class_of, balance_at    the token that stands for a token; what its object is owed
--   is_part, are_one             a pair parts two classes; two tokens are noted as one object
--   is_among ns n                a number is one of these
--   is_of_class classes c x, is_content slots classes c    a term is a token of a class; a slot held one at entry
--   is_new_to k classes c d      an object was made after the other was there, or the other is what a slot held at
--                                entry
--   are_other                    two tokens are noted as different objects
--   is_order, is_decision, is_outcome    two orders, two answers are the same; an answer is one of the first so many
--   can_be, can_same        a question still has this answer: as notes have it, of two tokens
--   is_any_order d, can_order a b d    an answer says how numbers compare; how these may compare
--   range_place kind n      whether a number is below the range of a kind, within it or above it: 0, 1 or 2
--   can_range kind a d      whether a sum may be so
--   can                     a question still has this answer
--   add_to, add_term        a number is added to the balance of a token's object; of a term's
--   lower                   it falls by 1 for each of these terms
--   taken_terms, terms_taken_by    the arguments that a call takes over
--   own_weigh, weigh        the balances after a call with this effect of its own, or with none; after an instruction
--   owed_for, owed_for_answer    the balance of a token that comes in
--   stored_term             what a store writes
--   redirect, gather, merge two tokens become one: their class, their balance, the state
--   merge_two               the older token stands for both
--   low_limit, high_limit kind    the bounds of the range of a kind
--   order_limits a b o      what it says of two numbers that they compare so
--   range_limits kind a k   what it says of a number that it is below the range of a kind, within it or above it
--   limited ls s            a state that notes more of numbers
--   apply_same, join, take_answer, follow, apply    the state after an answer
--   numbered n, answers_of q    the first so many numbered answers; the answers to a question, in the order in which
--                           the states after them stand
--   after_if, successors    the states after the answers that the next question still has
--   after_left              the state after an answer that is left over, if there is one
use Rattle.std.specs.Prelude.{ℕ, zero, suc, ◌-◌, ◌^◌, ◌==◌, nat_lt, int_lt, ℤ, pos, negsuc, ◌+ℤ◌, ◌-ℤ◌, Bool, true}
use Rattle.std.specs.Prelude.{false, not, ◌&&◌, ◌||◌, List, [], ◌∷◌}
use Rattle.std.specs.Prelude.{◌++◌, length, get_or, slice_get, slice_set, map, Option, Some, None, if◌then◌else◌}
use Rattle.std.specs.List.{list_any, flat_map, range_with_len}
use Rattle.std.specs.Ordering.{int_cmp}
use Rattle.std.specs.declared.cmp.Ordering.{Ordering}
use Rattle.std.specs.declared.cmp.Ordering.TheVariants.{Less, Equal, Greater}
use Rattle.pungi_api.specs.declared.answer.Answer.{Answer}
use Rattle.pungi_api.specs.declared.answer.Answer.TheVariants as answer
use Rattle.pungi_api.specs.declared.own_effect.OwnEffect.{OwnEffect}
use Rattle.pungi_api.specs.declared.own_effect.OwnEffect.TheVariants.{IncRef, DecRef}
use Rattle.pungi_api.specs.declared.take.Take.{Take}
use Rattle.pungi_types.specs.declared.kind.ValueKind.{ValueKind}
use Rattle.pungi_world.specs.Calls.{is_success, is_taken}
use Rattle.pungi_meaning.specs.Values.{bits, fits}
use Rattle.pungi_code.specs.declared.code.Line.{Line}
use Rattle.pungi_code.specs.declared.instr.Instr.{Instr}
use Rattle.pungi_code.specs.declared.instr.Instr.TheVariants.{Store, Api}
use Rattle.pungi_symbol.specs.declared.answers.decision.Decision.{Decision}
use Rattle.pungi_symbol.specs.declared.answers.decision.Decision.TheVariants.{Quiet, Outcome, Order, Same as IsSame}
use Rattle.pungi_symbol.specs.declared.states.known.Known.{Known}
use Rattle.pungi_symbol.specs.declared.states.mark.Mark.{Mark}
use Rattle.pungi_symbol.specs.declared.states.mark.Mark.TheVariants.{Pointer, TextPointer, IsNull, IsObject, IsText}
use Rattle.pungi_symbol.specs.declared.states.mark.Mark.TheVariants.{IsNumber, IsConverted, Integer}
use Rattle.pungi_symbol.specs.declared.questions.question.Question.{Question}
use Rattle.pungi_symbol.specs.declared.questions.question.Question.TheVariants.{Does, Touches, Overwrites}
use Rattle.pungi_symbol.specs.declared.questions.question.Question.TheVariants.{Null as AsksNull, Base, Answers, Same}
use Rattle.pungi_symbol.specs.declared.questions.question.Question.TheVariants.{Orders, Range, Computes, Unplain, Turn}
use Rattle.pungi_symbol.specs.declared.questions.question.Question.TheVariants.{Returns, Stops, Over}
use Rattle.pungi_symbol.specs.declared.states.limit.Limit.{Limit}
use Rattle.pungi_symbol.specs.declared.states.spot.Touched.{Touched}
use Rattle.pungi_symbol.specs.declared.states.node.Node.TheVariants as nodes
use Rattle.pungi_symbol.specs.declared.states.state.Pair.{Pair}
use Rattle.pungi_symbol.specs.declared.states.state.State.{State}
use Rattle.pungi_symbol.specs.declared.states.sum.Sum.{Sum}
use Rattle.pungi_symbol.specs.declared.states.term.Term.{Term}
use Rattle.pungi_symbol.specs.declared.states.term.Term.TheVariants.{Token}
use Rattle.pungi_symbol.specs.states.Terms.{outcomes_of_mark, outcomes_of_answer, mark_at, value_of_mark}
use Rattle.pungi_symbol.specs.states.Terms.{is_zero_node, is_same_node}
use Rattle.pungi_symbol.specs.states.Known.{count, mark_of, term_of, object_of, find, held_in}
use Rattle.pungi_symbol.specs.questions.NextQuestion.{ask, first_term, terms_of}
use Rattle.pungi_symbol.specs.answers.KnownAfter.{go, number_of_outcome, says_same, says_order, instr_of}
use Rattle.pungi_symbol.specs.answers.KnownAfter.{next_computed}

abbrev pub class_of : List ℕ → ℕ → ℕ
class_of classes t = get_or classes t 0

abbrev pub balance_at : List ℤ → ℕ → ℤ
balance_at balances t = get_or balances t (pos 0)

-- ---- which answers are left

-- whether a pair says that the tokens of these classes differ
abbrev pub is_part : List ℕ → ℕ → ℕ → Pair → Bool
is_part classes c d p =
    ((class_of classes p.a == c) && (class_of classes p.b == d))
    || ((class_of classes p.a == d) && (class_of classes p.b == c))

abbrev pub are_one : List ℕ → ℕ → ℕ → Bool
are_one classes t u = class_of classes t == class_of classes u

abbrev pub is_among : List ℕ → ℕ → Bool
is_among ns n = list_any (λ m. m == n) ns

abbrev pub is_of_class : List ℕ → ℕ → Term → Bool
is_of_class classes c (Token t) = class_of classes t == c
is_of_class classes c x = false

abbrev pub is_content : List Touched → List ℕ → ℕ → Bool
is_content slots classes c = list_any (λ s. is_of_class classes c s.at_entry) slots

-- no slot held at entry an object that was made
abbrev pub is_new_to : Known → List ℕ → ℕ → ℕ → Bool
is_new_to k classes c d = is_among k.made d && (nat_lt c d || is_content k.slots classes c)

-- two static objects differ
abbrev pub are_other : ℕ → Known → List ℕ → List Pair → ℕ → ℕ → Bool
are_other statics k classes others t u =
    (nat_lt (class_of classes t) statics && nat_lt (class_of classes u) statics)
    || ((is_new_to k classes (class_of classes t) (class_of classes u)
    || is_new_to k classes (class_of classes u) (class_of classes t))
    || list_any (is_part classes (class_of classes t) (class_of classes u)) others)

abbrev pub is_order : Ordering → Ordering → Bool
is_order Less Less = true
is_order Equal Equal = true
is_order Greater Greater = true
is_order a b = false

abbrev pub is_decision : Decision → Decision → Bool
is_decision Quiet Quiet = true
is_decision (Outcome j) (Outcome k) = j == k
is_decision (Order a) (Order b) = is_order a b
is_decision (IsSame true) (IsSame true) = true
is_decision (IsSame false) (IsSame false) = true
is_decision a b = false

abbrev pub is_outcome : ℕ → Decision → Bool
is_outcome n (Outcome k) = nat_lt k n
is_outcome n Quiet = false
is_outcome n (Order o) = false
is_outcome n (IsSame b) = false

abbrev pub can_be : Bool → Bool → Decision → Bool
can_be one other (IsSame true) = one || not other
can_be one other (IsSame false) = not one
can_be one other Quiet = false
can_be one other (Outcome k) = false
can_be one other (Order o) = false

abbrev pub can_same : State → ℕ → ℕ → Decision → Bool
can_same s t u d = can_be (are_one s.classes t u) (are_other s.statics s.known s.classes s.others t u) d

abbrev pub is_any_order : Decision → Bool
is_any_order (Order o) = true
is_any_order Quiet = false
is_any_order (Outcome k) = false
is_any_order (IsSame b) = false

abbrev pub can_order : Sum → Sum → Decision → Bool
can_order a b d =
    if is_same_node a.node b.node then is_decision (Order (int_cmp a.plus b.plus)) d else is_any_order d

abbrev pub range_place : ValueKind → ℤ → ℕ
range_place kind n = if fits kind n then 1 else (if int_lt n (pos 0) then 0 else 2)

abbrev pub can_range : ValueKind → Sum → Decision → Bool
can_range kind a d = if is_zero_node a.node then is_decision (Outcome (range_place kind a.plus)) d else is_outcome 3 d

abbrev pub can : State → Question → Decision → Bool
can s (Does d') d = is_decision d' d
can s (Touches m) d = is_decision Quiet d
can s (Overwrites m) d = is_outcome (length (outcomes_of_mark m)) d
can s (AsksNull t) d = is_outcome (length (outcomes_of_mark (mark_of s.known t))) d
can s (Base t u i) d = can_same s t u d
can s (Answers a) d = is_outcome (length (outcomes_of_answer a)) d
can s (Same t u) d = can_same s t u d
can s (Orders a b) d = can_order a b d
can s (Range kind a) d = can_range kind a d
can s (Computes kind o a b) d = is_outcome 3 d
can s Unplain d = is_decision Quiet d
can s Turn d = is_decision Quiet d
can s (Returns x) d = is_decision Quiet d
can s (Stops d') d = is_decision d' d
can s Over d = false

-- ---- balances

abbrev pub add_to : List ℕ → Option ℕ → ℤ → List ℤ → List ℤ
add_to classes None d balances = balances
add_to classes (Some t) d balances =
    slice_set balances (class_of classes t) (balance_at balances (class_of classes t) +ℤ d)

abbrev pub add_term : List ℕ → Known → Term → ℤ → List ℤ → List ℤ
add_term classes k x d balances = add_to classes (object_of k x) d balances

abbrev pub lower : List ℕ → Known → List Term → List ℤ → List ℤ
lower classes k [] balances = balances
lower classes k (x ∷ xs) balances = lower classes k xs (add_term classes k x (negsuc 0) balances)

-- the arguments that a call takes over
abbrev pub taken_terms : Bool → List Take → List Term → List Term
taken_terms success [] xs = []
taken_terms success (t ∷ ts) [] = []
taken_terms success (t ∷ ts) (x ∷ xs) =
    if is_taken success t then x ∷ taken_terms success ts xs else taken_terms success ts xs

abbrev pub terms_taken_by : Bool → Instr → Known → List Term
terms_taken_by success (Api x g as') k = taken_terms success g.takes (terms_of k as')
terms_taken_by success i k = []

abbrev pub own_weigh : List ℕ → Known → Option OwnEffect → List Take → List Term → List ℤ → List ℤ
own_weigh classes k None ts xs balances = lower classes k (taken_terms false ts xs) balances
own_weigh classes k (Some IncRef) ts xs balances = add_term classes k (first_term xs) (pos 1) balances
own_weigh classes k (Some DecRef) ts xs balances = add_term classes k (first_term xs) (negsuc 0) balances

abbrev pub weigh : List ℕ → Known → Instr → List ℤ → List ℤ
weigh classes k (Store place a) balances =
    add_term classes k (term_of k a) (negsuc 0) (add_term classes k (held_in k (find k place)) (pos 1) balances)
weigh classes k (Api x g as') balances = own_weigh classes k g.own g.takes (terms_of k as') balances
weigh classes k i balances = balances

abbrev pub owed_for : Mark → ℤ
owed_for IsObject = pos 1
owed_for Pointer = pos 0
owed_for TextPointer = pos 0
owed_for IsNull = pos 0
owed_for IsText = pos 0
owed_for (IsNumber n) = pos 0
owed_for (IsConverted n) = pos 0
owed_for (Integer r) = pos 0

abbrev pub owed_for_answer : Answer → Mark → ℤ
owed_for_answer answer.New m = owed_for m
owed_for_answer answer.Made m = owed_for m
owed_for_answer a m = pos 0

abbrev pub stored_term : Instr → Known → List Term
stored_term (Store place a) k = term_of k a ∷ []
stored_term i k = []

-- ---- answers

abbrev pub redirect : ℕ → ℕ → ℕ → ℕ
redirect c d e = if e == d then c else e

-- what stands at d goes to c
abbrev pub gather_at : ℕ → ℕ → List ℤ → List ℤ
gather_at c d balances = slice_set (slice_set balances c (balance_at balances c +ℤ balance_at balances d)) d (pos 0)

abbrev pub merge_classes : ℕ → ℕ → State → State
merge_classes c d s = record s { classes = map (redirect c d) s.classes; balances = gather_at c d s.balances }

-- the older token stands for both
abbrev pub merge_two : ℕ → ℕ → State → State
merge_two c d s = if nat_lt d c then merge_classes d c s else merge_classes c d s

abbrev pub apply_same : Bool → Bool → ℕ → ℕ → State → State
apply_same one true t u s = if one then s else merge_two (class_of s.classes t) (class_of s.classes u) s
apply_same one false t u s = record s { others = s.others ++ (record { a = t; b = u }) ∷ [] }

abbrev pub join : ℤ → List ℤ → State → State
join d balances s = record s { classes = s.classes ++ count s.known ∷ []; balances = balances ++ d ∷ [] }

abbrev pub take_answer : Instr → Answer → Mark → State → State
take_answer i a m s =
    join (owed_for_answer a m) (lower s.classes s.known (terms_taken_by (is_success a (Some (value_of_mark m))) i
    s.known) s.balances) s

-- ---- what answers say of numbers

abbrev pub low_limit : ValueKind → ℤ
low_limit kind = negsuc (2 ^ bits kind - 1)

abbrev pub high_limit : ValueKind → ℤ
high_limit kind = pos (2 ^ bits kind - 1)

abbrev pub order_limits : Sum → Sum → Ordering → List Limit
order_limits a b Less = (record { x = a.node; y = b.node; c = (b.plus -ℤ a.plus) -ℤ pos 1 }) ∷ []
order_limits a b Equal =
    (record { x = a.node; y = b.node; c = b.plus -ℤ a.plus })
    ∷ (record { x = b.node; y = a.node; c = a.plus -ℤ b.plus }) ∷ []
order_limits a b Greater = (record { x = b.node; y = a.node; c = (a.plus -ℤ b.plus) -ℤ pos 1 }) ∷ []

abbrev pub range_limits : ValueKind → Sum → ℕ → List Limit
range_limits kind a zero = (record { x = a.node; y = nodes.Zero; c = (low_limit kind -ℤ a.plus) -ℤ pos 1 }) ∷ []
range_limits kind a (suc zero) =
    (record { x = a.node; y = nodes.Zero; c = high_limit kind -ℤ a.plus })
    ∷ (record { x = nodes.Zero; y = a.node; c = a.plus -ℤ low_limit kind }) ∷ []
range_limits kind a (suc (suc n)) =
    (record { x = nodes.Zero; y = a.node; c = (a.plus -ℤ high_limit kind) -ℤ pos 1 }) ∷ []

abbrev pub limited : List Limit → State → State
limited ls s = record s { limits = s.limits ++ ls }

abbrev pub follow : Option Line → Question → Decision → State → State
follow line (Does d') d s = record s { balances = weigh s.classes s.known (instr_of line) s.balances }
follow line (Touches m) d s = join (pos 0) s.balances s
follow line (Overwrites m) d s =
    join (owed_for (mark_at (outcomes_of_mark m) (number_of_outcome d))) (lower s.classes s.known
    (stored_term (instr_of line) s.known) s.balances) s
follow line (AsksNull t) d s = s
follow line (Base t u i) d s = apply_same (are_one s.classes t u) (says_same d) t u s
follow line (Answers a) d s = take_answer (instr_of line) a (mark_at (outcomes_of_answer a) (number_of_outcome d)) s
follow line (Same t u) d s = apply_same (are_one s.classes t u) (says_same d) t u s
follow line (Orders a b) d s = limited (order_limits a b (says_order d)) s
follow line (Range kind a) d s = limited (range_limits kind a (number_of_outcome d)) s
follow line (Computes kind o a b) d s = limited (range_limits kind (next_computed s.known) (number_of_outcome d)) s
follow line Unplain d s = s
follow line Turn d s = s
follow line (Returns x) d s = s
follow line (Stops d') d s = s
follow line Over d s = s

abbrev pub apply : Option Line → Question → Decision → State → State
apply line q d s = record (follow line q d s) { known = go line s.known q d }

abbrev pub numbered : ℕ → List Decision
numbered n = map Outcome (range_with_len 0 n)

-- whether a token is NULL has two answers, and so has whether two tokens are one object; three say how numbers compare,
-- and three where a number lies
abbrev pub answers_of : Question → List Decision
answers_of (Does d) = d ∷ []
answers_of (Touches m) = Quiet ∷ []
answers_of (Overwrites m) = numbered 2
answers_of (AsksNull t) = numbered 2
answers_of (Base t u i) = IsSame false ∷ IsSame true ∷ []
answers_of (Answers a) = numbered (length (outcomes_of_answer a))
answers_of (Same t u) = IsSame false ∷ IsSame true ∷ []
answers_of (Orders a b) = Order Less ∷ Order Equal ∷ Order Greater ∷ []
answers_of (Range kind a) = numbered 3
answers_of (Computes kind o a b) = numbered 3
answers_of Unplain = Quiet ∷ []
answers_of Turn = Quiet ∷ []
answers_of (Returns x) = Quiet ∷ []
answers_of (Stops d) = d ∷ []
answers_of Over = []

abbrev pub after_if : Option Line → Question → State → Decision → List (Decision × State)
after_if line q s d = if can s q d then (d, apply line q d s) ∷ [] else []

abbrev pub after_left : Option Line → Question → State → Option Decision → List (Decision × State)
after_left line q s None = []
after_left line q s (Some d) = (d, apply line q d s) ∷ []

abbrev pub successors : List Line → State → List (Decision × State)
successors code s =
    flat_map (after_if (slice_get code s.known.pc) (ask code s.known) s) (answers_of (ask code s.known))
