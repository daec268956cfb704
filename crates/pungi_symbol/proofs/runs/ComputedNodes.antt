-- The results of computations that a state names are among those of its path: so the numbers of other computations may
-- be any.
use Rattle.std.proofs.Common.{◌≡◌, ℕ, zero, suc, ◌+◌, ◌<◌, ◌≤◌, List, [], ◌∷◌, ◌++◌, length, Bool, true, false}
use Rattle.std.proofs.Common.{refl, sym, ap, ◌∙◌, subst, arith, Option, None, Some, cond, map, get_or, length-append}
use Rattle.std.specs.List.{range_with_len}
use Rattle.std.specs.Prelude.{◌-◌, replicate, slice_set, ◌==◌, ◌||◌, All, nat_lt}
use Rattle.std.specs.declared.cmp.Ordering.{Ordering}
use Rattle.std.specs.declared.cmp.Ordering.TheVariants as orders
use Rattle.std.proofs.lemmas.List.{append-nil}
use Rattle.std.proofs.lemmas.List.Elements.{All-append}
use Rattle.pungi_base.specs.declared.pos.Pos.{Pos}
use Rattle.pungi_api.specs.declared.answer.Answer.{Answer}
use Rattle.pungi_api.specs.declared.answer.Answer.TheVariants as answer
use Rattle.pungi_api.specs.declared.call_answer.CallAnswer.{CallAnswer}
use Rattle.pungi_api.specs.declared.call_answer.CallAnswer.TheVariants.{Of, Argument}
use Rattle.pungi_types.specs.declared.kind.ValueKind.{ValueKind}
use Rattle.pungi_code.specs.declared.atom.Atom.{Atom}
use Rattle.pungi_code.specs.declared.atom.Var.{Var}
use Rattle.pungi_code.specs.declared.code.Code.{Code}
use Rattle.pungi_code.specs.declared.code.Line.{Line}
use Rattle.pungi_code.specs.declared.instr.Instr.{Instr}
use Rattle.pungi_code.specs.declared.instr.Instr.TheVariants.{Set, Arith, Fit, Compare, Load, Store, Api, Call}
use Rattle.pungi_code.specs.declared.instr.Instr.TheVariants.{Unset as Forget, Jump, Branch, Return, Fall}
use Rattle.pungi_symbol.specs.declared.answers.decision.Decision.{Decision}
use Rattle.pungi_symbol.specs.declared.questions.found_slot.Finding.{Finding}
use Rattle.pungi_symbol.specs.declared.questions.found_slot.Finding.TheVariants.{Waits, At, OfMade, Nowhere}
use Rattle.pungi_symbol.specs.declared.questions.question.Question.{Question}
use Rattle.pungi_symbol.specs.declared.questions.question.Question.TheVariants.{Does, Touches, Overwrites}
use Rattle.pungi_symbol.specs.declared.questions.question.Question.TheVariants.{Null as AsksNull, Base, Answers, Same}
use Rattle.pungi_symbol.specs.declared.questions.question.Question.TheVariants.{Orders, Range, Computes, Unplain, Turn}
use Rattle.pungi_symbol.specs.declared.questions.question.Question.TheVariants.{Returns, Stops, Over}
use Rattle.pungi_symbol.specs.declared.states.computation.Computation.{Computation}
use Rattle.pungi_symbol.specs.declared.states.known.Known.{Known}
use Rattle.pungi_symbol.specs.declared.states.known.Status.TheVariants as status
use Rattle.pungi_symbol.specs.declared.states.limit.Limit.{Limit}
use Rattle.pungi_symbol.specs.declared.states.mark.Mark.{Mark}
use Rattle.pungi_symbol.specs.declared.states.mark.Mark.TheVariants.{Pointer, TextPointer, IsNull, IsObject, IsText}
use Rattle.pungi_symbol.specs.declared.states.mark.Mark.TheVariants.{IsNumber, IsConverted, Integer}
use Rattle.pungi_symbol.specs.declared.states.node.Node.{Node}
use Rattle.pungi_symbol.specs.declared.states.node.Node.TheVariants as nodes
use Rattle.pungi_symbol.specs.declared.states.spot.Spot.{Spot}
use Rattle.pungi_symbol.specs.declared.states.spot.Touched.{Touched}
use Rattle.pungi_symbol.specs.declared.states.state.State.{State}
use Rattle.pungi_symbol.specs.declared.states.sum.Sum.{Sum as SumOf}
use Rattle.pungi_symbol.specs.declared.states.term.Term.{Term}
use Rattle.pungi_symbol.specs.declared.states.term.Term.TheVariants.{Unset, Null, Text, Number, Token, Sum}
use Rattle.pungi_symbol.specs.states.Terms.{outcomes_of_mark, outcomes_of_answer}
use Rattle.pungi_symbol.specs.states.Terms.{mark_at, is_computed, NodeBelow}
use Rattle.pungi_symbol.specs.states.NumberPlaces.{with_compared}
use Rattle.pungi_symbol.specs.states.Known.{count, term_of, slot_note, no_slot, find, held_in, spot_of}
use Rattle.pungi_symbol.specs.states.Turns.{blocked_at}
use Rattle.pungi_symbol.specs.questions.NextQuestion.{first_term, terms_of}
use Rattle.pungi_symbol.specs.answers.KnownAfter.{go, go_on, put_answer, answer_of_row, answer_of_call, does}
use Rattle.pungi_symbol.specs.answers.KnownAfter.{load_first}
use Rattle.pungi_symbol.specs.answers.KnownAfter.{store_first, instr_of, term_with, call_var, comparison_var}
use Rattle.pungi_symbol.specs.answers.KnownAfter.{comparison_term, says_same, says_order, number_of_outcome, ordered}
use Rattle.pungi_symbol.specs.answers.KnownAfter.{computed, turned, with_comparison, with_computation, next_computed}
use Rattle.pungi_symbol.specs.answers.KnownAfter.{place_of_line, perform_line, touched_slot, store_at}
use Rattle.pungi_symbol.specs.answers.KnownAfter.{store_found, made_slot, arrive_answer}
use Rattle.pungi_symbol.specs.answers.SymbolicState.{apply, apply_same, are_one, class_of, merge_classes, order_limits}
use Rattle.pungi_symbol.specs.answers.SymbolicState.{range_limits}
use Rattle.pungi_symbol.specs.runs.Paths.{argument_count, start_state}
use Rattle.pungi_symbol.proofs.states.Terms.{set_each, end_each}
use Rattle.pungi_symbol.proofs.steps.Questions.{IsAsked, SumBelow, TermBelow, term_at}

abbrev pub LimitBelow : ℕ → Limit → Type 0
LimitBelow c l = NodeBelow c l.x × NodeBelow c l.y

abbrev pub SlotBelow : ℕ → Touched → Type 0
SlotBelow c s = TermBelow c s.held × TermBelow c s.at_entry

pub record Below (c : ℕ) (xs : List Term) (ss : List Touched) : Type 0 where
  pub vars : (x : ℕ) → TermBelow c (get_or xs x Unset)
  pub slots : (i : ℕ) → SlotBelow c (slot_note ss i)

abbrev pub KnownBelow : Known → Type 0
KnownBelow k = Below (length k.computed) k.vars k.slots

-- a step that computes nothing but sums
abbrev Kept : Known → Known → Type 0
Kept k k' = (k'.computed ≡ k.computed) × KnownBelow k'

abbrev pub StateBelow : State → Type 0
StateBelow s = KnownBelow s.known × All (LimitBelow (length s.known.computed)) s.limits

-- ---- more computations

node_more : (n m : ℕ) (x : Node) → n ≤ m → NodeBelow n x → NodeBelow m x
node_more n m nodes.Zero le h = tt
node_more n m (nodes.Token t) le h = tt
node_more n m (nodes.Computed j) le h = omega (arith, le, h)

term_more : (n m : ℕ) (x : Term) → n ≤ m → TermBelow n x → TermBelow m x
term_more n m Unset le h = tt
term_more n m Null le h = tt
term_more n m Text le h = tt
term_more n m (Number k) le h = tt
term_more n m (Token t) le h = tt
term_more n m (Sum s) le h = node_more n m s.node le h

more_below : (n m : ℕ) (vars : List Term) (slots : List Touched) → n ≤ m → Below n vars slots → Below m vars slots
more_below n m vars slots le h = record {
  vars = λ x. term_more n m (get_or vars x Unset) le (h.vars x);
  slots = λ i. (
    term_more n m (slot_note slots i).held le (h.slots i).0,
    term_more n m (slot_note slots i).at_entry le (h.slots i).1,
  );
}

-- ---- terms

put_below : (c : ℕ) (vars : List Term) (slots : List Touched) (x : ℕ) (t : Term) → TermBelow c t → Below c vars slots
    → Below c (slice_set vars x t) slots
put_below c vars slots x t h w = record { vars = set_each (TermBelow c) vars x t Unset w.vars h; slots = w.slots }

first_below : (k : Known) (as' : List Atom) → KnownBelow k → TermBelow (length k.computed) (first_term (terms_of k as'))
first_below k [] w = tt
first_below k (a ∷ as') w = term_at k a w.vars

abbrev OptionBelow : ℕ → Option Term → Type 0
OptionBelow c None = Unit {0}
OptionBelow c (Some x) = TermBelow c x

row_below : (c : ℕ) (a : Answer) → OptionBelow c (answer_of_row a)
row_below c answer.Void = tt
row_below c answer.Null = tt
row_below c answer.New = tt
row_below c answer.Made = tt
row_below c answer.Borrowed = tt
row_below c answer.BorrowedSure = tt
row_below c answer.Status = tt
row_below c answer.Truth = tt
row_below c answer.Size = tt
row_below c answer.Int = tt
row_below c answer.Long = tt
row_below c answer.Text = tt
row_below c answer.Found = tt
row_below c (answer.Converted failures least most) = tt
row_below c answer.AnySize = tt
row_below c answer.Flag = tt
row_below c answer.TextSure = tt

call_below : (c : ℕ) (a : CallAnswer) (x : Term) → TermBelow c x → OptionBelow c (answer_of_call a x)
call_below c (Of a) x h = row_below c a
call_below c Argument x h = h

with_below : (c : ℕ) (r : Mark) (n : ℕ) → TermBelow c (term_with r n)
with_below c Pointer n = tt
with_below c TextPointer n = tt
with_below c IsNull n = tt
with_below c IsObject n = tt
with_below c IsText n = tt
with_below c (IsNumber i) n = tt
with_below c (IsConverted i) n = tt
with_below c (Integer r) n = tt

answered_below : (k : Known) (x : Option Var) (o : Option Term) → OptionBelow (length k.computed) o → KnownBelow k
    → Kept k (go_on (put_answer x o k))
answered_below k None o h w = (refl, w)
answered_below k (Some x) None h w = (refl, w)
answered_below k (Some x) (Some t) h w = (refl, put_below (length k.computed) k.vars k.slots x.0 t h w)

compared_below : (c : ℕ) (b : Bool) (i : Instr) → TermBelow c (comparison_term b i)
compared_below c b (Set x a) = tt
compared_below c b (Arith x kind p a d) = tt
compared_below c b (Fit x kind a) = tt
compared_below c b (Compare x q a d) = tt
compared_below c b (Load x place) = tt
compared_below c b (Store place a) = tt
compared_below c b (Api x g as') = tt
compared_below c b (Call x f as') = tt
compared_below c b (Forget x) = tt
compared_below c b (Jump to) = tt
compared_below c b (Branch a this other) = tt
compared_below c b (Return o) = tt
compared_below c b Fall = tt

-- ---- instructions

held_below : (k : Known) (f : Finding) → KnownBelow k → TermBelow (length k.computed) (held_in k f)
held_below k (Waits q) w = tt
held_below k (At i) w = (w.slots i).0
held_below k OfMade w = tt
held_below k Nowhere w = tt

at_below : (k : Known) (i : ℕ) (t : Term) → TermBelow (length k.computed) t → KnownBelow k
    → Kept k (go_on (store_at i t k))
at_below k i t h w =
    let new : Touched = record (slot_note k.slots i) { held = t } in (
      refl,
      record {
        vars = w.vars;
        slots = set_each (SlotBelow (length k.computed)) k.slots i new no_slot w.slots (h, (w.slots i).1);
      },
    )

stored_below : (k : Known) (f : Finding) (s : Spot) (t : Term) → TermBelow (length k.computed) t → KnownBelow k
    → Kept k (go_on (store_found f s t k))
stored_below k (Waits q) s t h w = (refl, w)
stored_below k (At i) s t h w = at_below k i t h w
stored_below k OfMade s t h w = (
  refl,
  record {
    vars = w.vars;
    slots = end_each (SlotBelow (length k.computed)) k.slots (made_slot s t) no_slot (tt, tt) w.slots (h, tt);
  },
)
stored_below k Nowhere s t h w = (refl, w)

does_below : (k : Known) (i : Instr) → KnownBelow k → Kept k (does k i)
does_below k (Set x a) w = (refl, put_below (length k.computed) k.vars k.slots x.0 (term_of k a) (term_at k a w.vars) w)
does_below k (Arith x kind p a b) w = (refl, put_below (length k.computed) k.vars k.slots x.0 (Number _) tt w)
does_below k (Fit x kind a) w = (refl, put_below (length k.computed) k.vars k.slots x.0 (Number _) tt w)
does_below k (Compare x q a b) w = (refl, put_below (length k.computed) k.vars k.slots x.0 (Number _) tt w)
does_below k (Load x place) w = (
  refl,
  put_below (length k.computed) k.vars k.slots x.0 (held_in k (find k place)) (held_below k (find k place) w) w,
)
does_below k (Store place a) w =
    stored_below k (find k place) (spot_of k place) (term_of k a) (term_at k a w.vars) w
does_below k (Api x g as') w = answered_below k x (answer_of_call g.answer (first_term (terms_of k as')))
    (call_below (length k.computed) g.answer (first_term (terms_of k as')) (first_below k as' w)) w
does_below k (Call x f as') w = (refl, w)
does_below k (Forget x) w = (refl, put_below (length k.computed) k.vars k.slots x.0 Unset tt w)
does_below k (Jump to) w = (refl, w)
does_below k (Branch a this other) w = (refl, w)
does_below k (Return o) w = (refl, w)
does_below k Fall w = (refl, w)

line_below : (k : Known) (o : Option Line) → KnownBelow k → Kept k (perform_line o (λ i. does k i) k)
line_below k None w = (refl, w)
line_below k (Some line) w = does_below k line.instr w

touch_below : (k : Known) (s : Spot) (t : Term) → TermBelow (length k.computed) t → KnownBelow k
    → Below (length k.computed) k.vars (k.slots ++ touched_slot k s t ∷ [])
touch_below k s t h w = record {
  vars = w.vars;
  slots = end_each (SlotBelow (length k.computed)) k.slots (touched_slot k s t) no_slot (tt, tt) w.slots (h, tt);
}

load_below : (k : Known) (i : Instr) (r : Mark) → KnownBelow k → Kept k (load_first i r k)
load_below k (Set x a) r w = (refl, w)
load_below k (Arith x kind p a b) r w = (refl, w)
load_below k (Fit x kind a) r w = (refl, w)
load_below k (Compare x q a b) r w = (refl, w)
load_below k (Load x place) r w = (
  refl,
  put_below (length k.computed) k.vars _ x.0 (Token (count k)) tt
      (touch_below k (spot_of k place) (Token (count k)) tt w),
)
load_below k (Store place a) r w = (refl, w)
load_below k (Api x g as') r w = (refl, w)
load_below k (Call x f as') r w = (refl, w)
load_below k (Forget x) r w = (refl, w)
load_below k (Jump to) r w = (refl, w)
load_below k (Branch a this other) r w = (refl, w)
load_below k (Return o) r w = (refl, w)
load_below k Fall r w = (refl, w)

store_below : (k : Known) (i : Instr) (r : Mark) → KnownBelow k → Kept k (store_first i r k)
store_below k (Set x a) r w = (refl, w)
store_below k (Arith x kind p a b) r w = (refl, w)
store_below k (Fit x kind a) r w = (refl, w)
store_below k (Compare x q a b) r w = (refl, w)
store_below k (Load x place) r w = (refl, w)
store_below k (Store place a) r w = (refl, touch_below k (spot_of k place) (term_of k a) (term_at k a w.vars) w)
store_below k (Api x g as') r w = (refl, w)
store_below k (Call x f as') r w = (refl, w)
store_below k (Forget x) r w = (refl, w)
store_below k (Jump to) r w = (refl, w)
store_below k (Branch a this other) r w = (refl, w)
store_below k (Return o) r w = (refl, w)
store_below k Fall r w = (refl, w)

ordered_below : (k : Known) (i : Instr) (o : Ordering) → KnownBelow k → Kept k (ordered i o k)
ordered_below k (Set x a) o w = (refl, w)
ordered_below k (Arith x kind p a b) o w = (refl, w)
ordered_below k (Fit x kind a) o w = (refl, w)
ordered_below k (Compare x q a b) o w = (refl, put_below (length k.computed) k.vars k.slots x.0 (Number _) tt w)
ordered_below k (Load x place) o w = (refl, w)
ordered_below k (Store place a) o w = (refl, w)
ordered_below k (Api x g as') o w = (refl, w)
ordered_below k (Call x f as') o w = (refl, w)
ordered_below k (Forget x) o w = (refl, w)
ordered_below k (Jump to) o w = (refl, w)
ordered_below k (Branch a this other) o w = (refl, w)
ordered_below k (Return z) o w = (refl, w)
ordered_below k Fall o w = (refl, w)

computed_below : (k : Known) (i : Instr) (t : SumOf) → SumBelow (length k.computed) t → KnownBelow k
    → Kept k (computed i t k)
computed_below k (Set x a) t h w = (refl, w)
computed_below k (Arith x kind p a b) t h w = (refl, put_below (length k.computed) k.vars k.slots x.0 (Sum t) h w)
computed_below k (Fit x kind a) t h w = (refl, put_below (length k.computed) k.vars k.slots x.0 (Sum t) h w)
computed_below k (Compare x q a b) t h w = (refl, w)
computed_below k (Load x place) t h w = (refl, w)
computed_below k (Store place a) t h w = (refl, w)
computed_below k (Api x g as') t h w = (refl, w)
computed_below k (Call x f as') t h w = (refl, w)
computed_below k (Forget x) t h w = (refl, w)
computed_below k (Jump to) t h w = (refl, w)
computed_below k (Branch a this other) t h w = (refl, w)
computed_below k (Return o) t h w = (refl, w)
computed_below k Fall t h w = (refl, w)

ranged_below : (k : Known) (i : Instr) (t : SumOf) (p : Pos) (b : Bool) → SumBelow (length k.computed) t → KnownBelow k
    → Kept k (cond b (computed i t k) (record k { status = status.Stopped p }))
ranged_below k i t p true h w = computed_below k i t h w
ranged_below k i t p false h w = (refl, w)

turned_below : (k : Known) (o : Option Pos) → KnownBelow k → Kept k (turned o k)
turned_below k None w = (refl, w)
turned_below k (Some p) w = (refl, w)

with_comparison_below : (k : Known) (p : Pos) (a b : SumOf) → KnownBelow k → Kept k (with_comparison p a b k)
with_comparison_below k p a b w = by (is_computed a.node || is_computed b.node)
  where
    by : (t : Bool) → Kept k (cond t (record k { places = with_compared k.places p }) k)
    by true = (refl, w)
    by false = (refl, w)

-- ---- answers

abbrev pub added : Question → List Computation
added (Computes kind o a b) = (record { kind = kind; op = o; a = a; b = b }) ∷ []
added q = []

abbrev Grown : Question → Known → Known → Type 0
Grown q k k' = (k'.computed ≡ k.computed ++ added q) × KnownBelow k'

kept : (k k' : Known) → Kept k k' → (k'.computed ≡ k.computed ++ []) × KnownBelow k'
kept k k' r = (r.0 ∙ sym (append-nil k.computed), r.1)

pub go_below : (o : Option Line) (k : Known) (q : Question) (d : Decision) → IsAsked (instr_of o) k q → KnownBelow k
    → Grown q k (go o k q d)
go_below o k (Does d') d a w = kept k (go o k (Does d') d) (line_below k o w)
go_below o k (Touches r) d a w = kept k (go o k (Touches r) d) (load_below k (instr_of o) r w)
go_below o k (Overwrites r) d a w =
    kept k (go o k (Overwrites r) d) (store_below k (instr_of o) (mark_at (outcomes_of_mark r) (number_of_outcome d)) w)
go_below o k (AsksNull t) d a w = kept k (go o k (AsksNull t) d) (refl, w)
go_below o k (Base t u j) d a w = kept k (go o k (Base t u j) d) (refl, w)
go_below o k (Answers x) d a w =
    let r = mark_at (outcomes_of_answer x) (number_of_outcome d) in
    kept k (go o k (Answers x) d)
    (answered_below (arrive_answer x r k) (call_var (instr_of o)) (Some (term_with r (count k)))
    (with_below (length k.computed) r (count k)) w)
go_below o k (Same t u) d a w =
    kept k (go o k (Same t u) d) (
      refl,
      put_below (length k.computed) k.vars k.slots (comparison_var (instr_of o))
          (comparison_term (says_same d) (instr_of o)) (compared_below (length k.computed) (says_same d)
          (instr_of o)) w,
    )
go_below o k (Orders x y) d a w =
    let p = place_of_line o in
    let g = with_comparison_below k p x y w in
    let r = ordered_below (with_comparison p x y k) (instr_of o) (says_order d) g.1 in
    kept k (go o k (Orders x y) d) (r.0 ∙ g.0, r.1)
go_below o k (Range kind x) d a w =
    kept k (go o k (Range kind x) d) (ranged_below k (instr_of o) x (place_of_line o) (number_of_outcome d == 1)
    (a w.vars) w)
go_below o k (Computes kind p x y) d a w =
    let c : Computation = record { kind = kind; op = p; a = x; b = y } in
    let k' = with_computation (place_of_line o) c k in
    let many : length (k.computed ++ c ∷ []) ≡ length k.computed + 1 = length-append k.computed (c ∷ []) in
    let w' : KnownBelow k' = more_below (length k.computed) (length (k.computed ++ c ∷ [])) k.vars k.slots
    (omega (arith, many)) w in
    let last : length k.computed < length (k.computed ++ c ∷ []) = omega (arith, many) in
    ranged_below k' (instr_of o) (next_computed k) (place_of_line o) (number_of_outcome d == 1) last w'
go_below o k Unplain d a w = kept k (go o k Unplain d) (refl, w)
go_below o k Turn d a w = kept k (go o k Turn d) (turned_below k (blocked_at k.turns k.pc) w)
go_below o k (Returns x) d a w = kept k (go o k (Returns x) d) (refl, w)
go_below o k (Stops d') d a w = kept k (go o k (Stops d') d) (refl, w)
go_below o k Over d a w = kept k (go o k Over d) (refl, w)

one_limit : (P : Limit → Type 0) (l : Limit) → P l → All P (l ∷ [])
one_limit P l h zero d lt = h
one_limit P l h (suc i) d lt = absurd (omega (arith, lt))

two_limits : (P : Limit → Type 0) (l m : Limit) → P l → P m → All P (l ∷ m ∷ [])
two_limits P l m h g zero d lt = h
two_limits P l m h g (suc zero) d lt = g
two_limits P l m h g (suc (suc i)) d lt = absurd (omega (arith, lt))

order_below : (c : ℕ) (a b : SumOf) (o : Ordering) → SumBelow c a → SumBelow c b
    → All (LimitBelow c) (order_limits a b o)
order_below c a b orders.Less h g = one_limit (LimitBelow c) _ (h, g)
order_below c a b orders.Equal h g = two_limits (LimitBelow c) _ _ (h, g) (g, h)
order_below c a b orders.Greater h g = one_limit (LimitBelow c) _ (g, h)

range_below : (c : ℕ) (kind : ValueKind) (a : SumOf) (n : ℕ) → SumBelow c a → All (LimitBelow c) (range_limits kind a n)
range_below c kind a zero h = one_limit (LimitBelow c) _ (h, tt)
range_below c kind a (suc zero) h = two_limits (LimitBelow c) _ _ (h, tt) (tt, h)
range_below c kind a (suc (suc n)) h = one_limit (LimitBelow c) _ (tt, h)

merged_limits : (b : Bool) (c d : ℕ) (s : State)
    → (cond b (merge_classes d c s) (merge_classes c d s)).limits ≡ s.limits
merged_limits true c d s = refl
merged_limits false c d s = refl

same_limits : (one b : Bool) (t u : ℕ) (s : State) → (apply_same one b t u s).limits ≡ s.limits
same_limits true true t u s = refl
same_limits false true t u s =
    merged_limits (nat_lt (class_of s.classes u) (class_of s.classes t)) (class_of s.classes t)
    (class_of s.classes u) s
same_limits true false t u s = refl
same_limits false false t u s = refl

-- the limits that an answer adds
pub more_limits : (o : Option Line) (q : Question) (d : Decision) (s : State) → IsAsked (instr_of o) s.known q
    → StateBelow s → (c : ℕ) → length s.known.computed ≤ c → c ≡ length s.known.computed + length (added q)
    → All (LimitBelow c) s.limits → All (LimitBelow c) (apply o q d s).limits
more_limits o (Does d') d s a w c le is h = h
more_limits o (Touches r) d s a w c le is h = h
more_limits o (Overwrites r) d s a w c le is h = h
more_limits o (AsksNull t) d s a w c le is h = h
more_limits o (Base t u j) d s a w c le is h =
    subst (All (LimitBelow c)) (sym (same_limits (are_one s.classes t u) (says_same d) t u s)) h
more_limits o (Answers x) d s a w c le is h = h
more_limits o (Same t u) d s a w c le is h =
    subst (All (LimitBelow c)) (sym (same_limits (are_one s.classes t u) (says_same d) t u s)) h
more_limits o (Orders x y) d s a w c le is h =
    let r = a w.0.vars in
    All-append (LimitBelow c) s.limits (order_limits x y (says_order d)) h (order_below c x y (says_order d)
    (node_more (length s.known.computed) c x.node le r.0) (node_more (length s.known.computed) c y.node le r.1))
more_limits o (Range kind x) d s a w c le is h =
    All-append (LimitBelow c) s.limits (range_limits kind x (number_of_outcome d)) h
    (range_below c kind x (number_of_outcome d) (node_more (length s.known.computed) c x.node le (a w.0.vars)))
more_limits o (Computes kind p x y) d s a w c le is h =
    let next = next_computed s.known in
    let last : length s.known.computed < c = omega (arith, is) in
    All-append (LimitBelow c) s.limits (range_limits kind next (number_of_outcome d)) h
    (range_below c kind next (number_of_outcome d) last)
more_limits o Unplain d s a w c le is h = h
more_limits o Turn d s a w c le is h = h
more_limits o (Returns x) d s a w c le is h = h
more_limits o (Stops d') d s a w c le is h = h
more_limits o Over d s a w c le is h = h

pub apply_below : (o : Option Line) (q : Question) (d : Decision) (s : State) → IsAsked (instr_of o) s.known q
    → StateBelow s → StateBelow (apply o q d s)
apply_below o q d s a w =
    let r = go_below o s.known q d a w.0 in
    let c = length (go o s.known q d).computed in
    let is : c ≡ length s.known.computed + length (added q) = ap length r.0
    ∙ length-append s.known.computed (added q) in
    let le : length s.known.computed ≤ c = omega (arith, is) in (
      r.1,
      more_limits o q d s a w c le is (λ i e lt. let l = w.1 i e lt in let m = get_or s.limits i e in (
        node_more (length s.known.computed) c m.x le l.0,
        node_more (length s.known.computed) c m.y le l.1,
      )),
    )

-- ---- the start

first_terms : (n a k x : ℕ) → TermBelow 0 (get_or (map Token (range_with_len a n) ++ replicate k Unset) x Unset)
first_terms zero a zero zero = tt
first_terms zero a zero (suc x) = tt
first_terms zero a (suc k) zero = tt
first_terms zero a (suc k) (suc x) = first_terms zero a k x
first_terms (suc n) a k zero = tt
first_terms (suc n) a k (suc x) = first_terms n (a + 1) k x

no_slots : (i : ℕ) → SlotBelow 0 (slot_note [] i)
no_slots zero = (tt, tt)
no_slots (suc i) = (tt, tt)

pub start_below : (statics f : ℕ) (code : Code) → StateBelow (start_state statics f code)
start_below statics f code = (
  record {
    vars = first_terms (argument_count code) statics (length code.vars - argument_count code);
    slots = no_slots;
  },
  λ i d lt. absurd (omega (arith, lt)),
)
