-- What the next step of a run asks, from what is known (Python/C API Reference Manual 3.11; C11 6.5).
--   asks_set x q                   the step needs a set term
--   asks_known k x q, knows_mark   it needs to know whether a term is NULL
--   asks_thing k x q, needs_mark   it needs one that isn't NULL
--   asks_order, asks_same, asks_compare    it compares two numbers; two terms that are objects; two terms
--   asks_range r below, is_below, asks_fit    it computes a known number that may be out of range: below it, within it
--                                             or above it
--   small_sum s, sum_of o a b      a sum whose constant lies between -2^64 and 2^64; what an operator gives that is
--                                  such a sum
--   asks_result kind x             it converts what may be a number to this kind
--   asks_sum, asks_computed kind o x y    it computes a number of this kind, which may be a sum
--   asks_arith, asks_conversion    it computes a known number, or another one
--   asks_orders x y q              it compares two numbers, at least one of which isn't known
--   asks_pointers x y q            it compares what isn't two numbers; what isn't two pointers either isn't followed
--   zero_sum, asks_sign x q        the number 0 as a sum; the step needs to know whether a number is 0
--   content_mark kind              what is known of what a slot of a kind held at entry
--   asks_load, asks_store, asks_dropped    it reads a slot; it writes one; it needs to know whether what a slot held is
--                                          NULL
--   asks_all_set                   it is a call of set arguments
--   asks_param, asks_params        it is a call with this parameter; with these
--   asks_take, asks_takes          of a call that takes over such an argument; some of its arguments
--   asks_answer a                  of a row with this answer
--   asks_call_answer a             of a call with this answer
--   first_term                     the first argument of a call
--   asks_own own                   it is a call with this effect of its own, or with none
--   asks_signature g, terms_of     it is a call of such a signature; the terms of its arguments
--   asks_return                    it is a return
--   asks_instr k i, asks_line      what an instruction asks; what the next one asks, if there is one
--   asks_turn k q                  a loop's head is reached, or the path is as long as it may be; else this is asked
--   ask_while, ask code k          what is asked next, where the run isn't over
--   IsPlaced code k q              a question names a touched slot or a made object that is there, or is that of an
--                                  instruction
use Rattle.std.specs.Prelude.{ℕ, ◌+◌, ◌<◌, ◌-◌, ◌^◌, length, ℤ, pos, negsuc, ◌+ℤ◌, ◌-ℤ◌, Bool, ◌&&◌, not, int_lt, List}
use Rattle.std.specs.Prelude.{[], ◌∷◌, map, slice_get, Option, Some, None, if◌then◌else◌}
use Rattle.std.specs.Ordering.{int_cmp}
use Rattle.pungi_api.specs.declared.answer.Answer.{Answer}
use Rattle.pungi_api.specs.declared.answer.Answer.TheVariants as answer
use Rattle.pungi_api.specs.declared.call_answer.CallAnswer.{CallAnswer}
use Rattle.pungi_api.specs.declared.call_answer.CallAnswer.TheVariants.{Of, Argument}
use Rattle.pungi_api.specs.declared.own_effect.OwnEffect.{OwnEffect}
use Rattle.pungi_api.specs.declared.own_effect.OwnEffect.TheVariants.{IncRef, DecRef}
use Rattle.pungi_api.specs.declared.param.Param.{Param}
use Rattle.pungi_api.specs.declared.param.Param.TheVariants as param
use Rattle.pungi_api.specs.declared.signature.Signature.{Signature}
use Rattle.pungi_api.specs.declared.take.Take.{Take}
use Rattle.pungi_api.specs.declared.take.Take.TheVariants as take
use Rattle.pungi_types.specs.declared.kind.ValueKind.{ValueKind}
use Rattle.pungi_world.specs.Choices.{is_between}
use Rattle.pungi_meaning.specs.declared.op.Op.{Op}
use Rattle.pungi_meaning.specs.declared.op.Op.TheVariants as ops
use Rattle.pungi_meaning.specs.Values.{fits, arithmetic, result_of, is_undefined}
use Rattle.pungi_code.specs.declared.atom.Atom.{Atom}
use Rattle.pungi_code.specs.declared.code.Line.{Line}
use Rattle.pungi_code.specs.declared.instr.Instr.{Instr}
use Rattle.pungi_code.specs.declared.instr.Instr.TheVariants.{Set, Arith, Fit, Compare, Load, Store, Api, Call}
use Rattle.pungi_code.specs.declared.instr.Instr.TheVariants.{Unset as Forget, Jump, Branch, Return, Fall}
use Rattle.pungi_code.specs.WellFormed.{place_kind}
use Rattle.pungi_symbol.specs.declared.answers.decision.Decision.TheVariants.{Quiet, Outcome, Order}
use Rattle.pungi_symbol.specs.declared.questions.found_slot.Finding.{Finding}
use Rattle.pungi_symbol.specs.declared.questions.found_slot.Finding.TheVariants.{Waits, At, OfMade, Nowhere}
use Rattle.pungi_symbol.specs.declared.states.integer_range.IntegerRange.TheVariants as ranges
use Rattle.pungi_symbol.specs.declared.states.known.Known.{Known}
use Rattle.pungi_symbol.specs.declared.states.known.Status.{Status}
use Rattle.pungi_symbol.specs.declared.states.known.Status.TheVariants as status
use Rattle.pungi_symbol.specs.declared.states.node.Node.TheVariants as nodes
use Rattle.pungi_symbol.specs.declared.states.mark.Mark.{Mark}
use Rattle.pungi_symbol.specs.declared.states.mark.Mark.TheVariants.{Pointer, TextPointer, IsNull, IsObject, IsText}
use Rattle.pungi_symbol.specs.declared.states.mark.Mark.TheVariants.{IsNumber, IsConverted, Integer}
use Rattle.pungi_symbol.specs.declared.questions.question.Question.{Question}
use Rattle.pungi_symbol.specs.declared.questions.question.Question.TheVariants.{Does, Touches, Overwrites}
use Rattle.pungi_symbol.specs.declared.questions.question.Question.TheVariants.{Null as AsksNull, Base, Answers, Same}
use Rattle.pungi_symbol.specs.declared.questions.question.Question.TheVariants.{Orders, Range, Computes, Unplain, Turn}
use Rattle.pungi_symbol.specs.declared.questions.question.Question.TheVariants.{Returns, Stops, Over}
use Rattle.pungi_symbol.specs.declared.states.sum.Sum.{Sum as SumOf}
use Rattle.pungi_symbol.specs.declared.states.term.Term.{Term}
use Rattle.pungi_symbol.specs.declared.states.term.Term.TheVariants.{Unset, Null, Text, Number, Token, Sum}
use Rattle.pungi_symbol.specs.states.Known.{mark_of, term_of, object_of, number_in, sum_in, slot_note, find}
use Rattle.pungi_symbol.specs.states.Terms.{is_zero_node, is_same_node}
use Rattle.pungi_symbol.specs.states.Turns.{is_bounded}

abbrev pub asks_set : Term → Question → Question
asks_set Unset q = Stops Quiet
asks_set Null q = q
asks_set Text q = q
asks_set (Number n) q = q
asks_set (Token t) q = q
asks_set (Sum s) q = q

abbrev pub knows_mark : Mark → ℕ → Question → Question
knows_mark Pointer t q = AsksNull t
knows_mark TextPointer t q = AsksNull t
knows_mark IsNull t q = q
knows_mark IsObject t q = q
knows_mark IsText t q = q
knows_mark (IsNumber n) t q = q
knows_mark (IsConverted n) t q = q
knows_mark (Integer r) t q = q

abbrev pub asks_known : Known → Term → Question → Question
asks_known k Unset q = Stops Quiet
asks_known k Null q = q
asks_known k Text q = q
asks_known k (Number n) q = q
asks_known k (Token t) q = knows_mark (mark_of k t) t q
asks_known k (Sum s) q = q

abbrev pub needs_mark : Mark → ℕ → Question → Question
needs_mark Pointer t q = AsksNull t
needs_mark TextPointer t q = AsksNull t
needs_mark IsNull t q = Stops Quiet
needs_mark IsObject t q = q
needs_mark IsText t q = q
needs_mark (IsNumber n) t q = q
needs_mark (IsConverted n) t q = q
needs_mark (Integer r) t q = q

abbrev pub asks_thing : Known → Term → Question → Question
asks_thing k Unset q = Stops Quiet
asks_thing k Null q = Stops Quiet
asks_thing k Text q = q
asks_thing k (Number n) q = q
asks_thing k (Token t) q = needs_mark (mark_of k t) t q
asks_thing k (Sum s) q = q

-- ---- numbers and comparisons

abbrev pub asks_order : Option ℤ → Option ℤ → Question → Question
asks_order None n q = q
asks_order (Some m) None q = q
asks_order (Some m) (Some n) q = Does (Order (int_cmp m n))

abbrev pub asks_same : Option ℕ → Option ℕ → Question
asks_same None u = Does Quiet
asks_same (Some t) None = Does Quiet
asks_same (Some t) (Some u) = Same t u

abbrev pub asks_orders : Option SumOf → Option SumOf → Question → Question
asks_orders None y q = q
asks_orders (Some a) None q = q
asks_orders (Some a) (Some b) q = Orders a b

abbrev pub asks_pointers : Option SumOf → Option SumOf → Question → Question
asks_pointers None None q = q
asks_pointers None (Some b) q = Unplain
asks_pointers (Some a) y q = Unplain

abbrev pub asks_compare : Known → Term → Term → Question
asks_compare k a b =
    asks_order (number_in a) (number_in b) (asks_orders (sum_in k a) (sum_in k b) (asks_known k a (asks_known k b
    (asks_pointers (sum_in k a) (sum_in k b) (asks_same (object_of k a) (object_of k b))))))

-- below the range, within it, above it
abbrev pub asks_range : Option ℤ → Bool → Question
asks_range (Some r) below = Does (Outcome 1)
asks_range None below = Stops (Outcome (if below then 0 else 2))

abbrev pub is_below : Op → ℤ → ℤ → Bool
is_below o m n = not (is_undefined o n) && int_lt (result_of o m n) (pos 0)

abbrev pub asks_fit : ValueKind → ℤ → Question
asks_fit kind n = if fits kind n then Does (Outcome 1) else Stops (Outcome (if int_lt n (pos 0) then 0 else 2))

abbrev pub small_sum : SumOf → Option SumOf
small_sum s = if is_between (negsuc (2 ^ 64 - 2)) (pos (2 ^ 64 - 1)) s.plus then Some s else None

abbrev pub sum_of : Op → SumOf → SumOf → Option SumOf
sum_of ops.Add a b =
    if is_zero_node b.node then small_sum (record { node = a.node; plus = a.plus +ℤ b.plus }) else
    (if is_zero_node a.node then small_sum (record { node = b.node; plus = a.plus +ℤ b.plus }) else None)
sum_of ops.Sub a b =
    if is_zero_node b.node then small_sum (record { node = a.node; plus = a.plus -ℤ b.plus }) else
    (if is_same_node a.node b.node then small_sum (record { node = nodes.Zero; plus = a.plus -ℤ b.plus }) else None)
sum_of ops.Mul a b = None
sum_of ops.Div a b = None
sum_of ops.Rem a b = None

abbrev pub asks_result : ValueKind → Option SumOf → Question
asks_result kind None = Unplain
asks_result kind (Some s) = Range kind s

abbrev pub asks_sum : ValueKind → Op → SumOf → SumOf → Option SumOf → Question
asks_sum kind o a b None = Computes kind o a b
asks_sum kind o a b (Some s) = Range kind s

abbrev pub asks_computed : ValueKind → Op → Option SumOf → Option SumOf → Question
asks_computed kind o None y = Unplain
asks_computed kind o (Some a) None = Unplain
asks_computed kind o (Some a) (Some b) = asks_sum kind o a b (sum_of o a b)

abbrev pub asks_arith : Op → ValueKind → Option ℤ → Option ℤ → Question → Question
asks_arith o kind None y q = q
asks_arith o kind (Some m) None q = q
asks_arith o kind (Some m) (Some n) q = asks_range (arithmetic o kind m n) (is_below o m n)

abbrev pub asks_conversion : ValueKind → Option ℤ → Question → Question
asks_conversion kind None q = q
asks_conversion kind (Some n) q = asks_fit kind n

abbrev pub zero_sum : SumOf
zero_sum = record { node = nodes.Zero; plus = pos 0 }

abbrev pub asks_sign : Option SumOf → Question → Question
asks_sign None q = q
asks_sign (Some a) q = Orders a zero_sum

-- ---- slots

abbrev pub content_mark : Param → Mark
content_mark param.Object = Pointer
content_mark param.ObjectOrNull = Pointer
content_mark param.Text = TextPointer
content_mark param.TextOrNull = TextPointer
content_mark param.Int = Integer ranges.Int
content_mark param.Long = Integer ranges.Long
content_mark param.Size = Integer ranges.Long
content_mark param.ModuleDef = Pointer

abbrev pub asks_load : Known → Mark → Finding → Question
asks_load k m (Waits q) = q
asks_load k m (At i) = asks_set (slot_note k.slots i).held (Does Quiet)
asks_load k m OfMade = Stops Quiet
asks_load k m Nowhere = Touches m

-- what a slot held that wasn't set doesn't matter
abbrev pub asks_dropped : Known → Term → Question
asks_dropped k Unset = Does Quiet
asks_dropped k Null = Does Quiet
asks_dropped k Text = Does Quiet
asks_dropped k (Number n) = Does Quiet
asks_dropped k (Token t) = knows_mark (mark_of k t) t (Does Quiet)
asks_dropped k (Sum s) = Does Quiet

abbrev pub asks_store : Known → Mark → Finding → Question
asks_store k m (Waits q) = q
asks_store k m (At i) = asks_dropped k (slot_note k.slots i).held
asks_store k m OfMade = Does Quiet
asks_store k m Nowhere = Overwrites m

-- ---- calls

abbrev pub asks_all_set : List Term → Question → Question
asks_all_set [] q = q
asks_all_set (x ∷ xs) q = asks_set x (asks_all_set xs q)

abbrev pub asks_param : Known → Param → Term → Question → Question
asks_param k param.Object x q = asks_thing k x q
asks_param k param.Text x q = asks_thing k x q
asks_param k param.ObjectOrNull x q = q
asks_param k param.TextOrNull x q = q
asks_param k param.Int x q = q
asks_param k param.Long x q = q
asks_param k param.Size x q = q
asks_param k param.ModuleDef x q = q

abbrev pub asks_params : Known → List Param → List Term → Question → Question
asks_params k [] xs q = q
asks_params k (p ∷ ps) [] q = q
asks_params k (p ∷ ps) (x ∷ xs) q = asks_param k p x (asks_params k ps xs q)

abbrev pub asks_take : Known → Take → Term → Question → Question
asks_take k take.Never x q = q
asks_take k take.Always x q = asks_known k x q
asks_take k take.OnSuccess x q = asks_known k x q

abbrev pub asks_takes : Known → List Take → List Term → Question → Question
asks_takes k [] xs q = q
asks_takes k (t ∷ ts) [] q = q
asks_takes k (t ∷ ts) (x ∷ xs) q = asks_take k t x (asks_takes k ts xs q)

abbrev pub asks_answer : Answer → Question
asks_answer answer.Void = Does Quiet
asks_answer answer.Null = Does Quiet
asks_answer a = Answers a

abbrev pub asks_call_answer : CallAnswer → Question
asks_call_answer (Of a) = asks_answer a
asks_call_answer Argument = Does Quiet

abbrev pub first_term : List Term → Term
first_term [] = Null
first_term (x ∷ xs) = x

-- a call without an effect of its own takes over arguments; else the count of its first argument changes, or it stops
abbrev pub asks_own : Known → Option OwnEffect → List Take → List Term → Question → Question
asks_own k None ts xs q = asks_takes k ts xs q
asks_own k (Some IncRef) ts xs q = asks_known k (first_term xs) q
asks_own k (Some DecRef) ts xs q = asks_known k (first_term xs) q

abbrev pub asks_signature : Known → Signature → List Term → Question
asks_signature k g xs = asks_params k g.params xs (asks_own k g.own g.takes xs (asks_call_answer g.answer))

abbrev pub terms_of : Known → List Atom → List Term
terms_of k as' = map (term_of k) as'

-- ---- instructions

abbrev pub asks_return : Known → Option Atom → Question
asks_return k None = Returns None
asks_return k (Some a) = asks_known k (term_of k a) (Returns (Some (term_of k a)))

abbrev pub asks_instr : Known → Instr → Question
asks_instr k (Set x a) = asks_set (term_of k a) (Does Quiet)
asks_instr k (Arith x kind o a b) =
    asks_set (term_of k a) (asks_set (term_of k b) (asks_arith o kind (number_in (term_of k a))
    (number_in (term_of k b)) (asks_computed kind o (sum_in k (term_of k a)) (sum_in k (term_of k b)))))
asks_instr k (Fit x kind a) =
    asks_set (term_of k a) (asks_conversion kind (number_in (term_of k a)) (asks_result kind (sum_in k (term_of k a))))
asks_instr k (Compare x c a b) = asks_compare k (term_of k a) (term_of k b)
asks_instr k (Load x place) = asks_load k (content_mark (place_kind place)) (find k place)
asks_instr k (Store place a) =
    asks_known k (term_of k a) (asks_store k (content_mark (place_kind place)) (find k place))
asks_instr k (Api x g as') = asks_all_set (terms_of k as') (asks_signature k g (terms_of k as'))
asks_instr k (Call x f as') = Stops Quiet
asks_instr k (Forget x) = Does Quiet
asks_instr k (Jump to) = Does Quiet
asks_instr k (Branch a this other) =
    asks_order (number_in (term_of k a)) (Some (pos 0)) (asks_sign (sum_in k (term_of k a))
    (asks_known k (term_of k a) (Does Quiet)))
asks_instr k (Return a) = asks_return k a
asks_instr k Fall = Stops Quiet

abbrev pub asks_line : Known → Option Line → Question
asks_line k None = Stops Quiet
asks_line k (Some line) = asks_instr k line.instr

abbrev pub asks_turn : Known → Question → Question
asks_turn k q = if is_bounded k.turns k.pc then Turn else q

abbrev pub ask_while : Status → Question → Question
ask_while status.Going q = q
ask_while (status.Returned p x) q = Over
ask_while (status.Stopped p) q = Over
ask_while (status.Blocked o p) q = Over

abbrev pub ask : List Line → Known → Question
ask code k = ask_while k.status (asks_turn k (asks_line k (slice_get code k.pc)))

abbrev pub IsPlaced : List Line → Known → Question → Type 0
IsPlaced code k (Base t u i) = i < length k.slots + length k.made
IsPlaced code k (Answers a) = k.pc < length code
IsPlaced code k (Same t u) = k.pc < length code
IsPlaced code k (Does d) = Unit {0}
IsPlaced code k (Touches m) = Unit {0}
IsPlaced code k (Overwrites m) = Unit {0}
IsPlaced code k (AsksNull t) = Unit {0}
IsPlaced code k (Orders a b) = Unit {0}
IsPlaced code k (Range kind a) = Unit {0}
IsPlaced code k (Computes kind o a b) = Unit {0}
IsPlaced code k Unplain = Unit {0}
IsPlaced code k Turn = Unit {0}
IsPlaced code k (Returns x) = Unit {0}
IsPlaced code k (Stops d) = Unit {0}
IsPlaced code k Over = Unit {0}
