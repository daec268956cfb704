-- One step back: values of the tokens that fit the state after an answer fit the state before, and give that answer.
use Rattle.std.proofs.Common.{◌≡◌, ℕ, zero, suc, ◌<◌, ℤ, List, [], ◌∷◌, ◌++◌, length, Bool, true, false}
use Rattle.std.proofs.Common.{refl, sym, ap, ◌∙◌, subst, arith, Option, None, Some, cond, get_or}
use Rattle.std.proofs.Math.Seq.{get_or-append_seam}
use Rattle.pungi_base.specs.declared.choice.Choice.{Choice}
use Rattle.pungi_base.specs.declared.value.Value.{Value}
use Rattle.pungi_base.specs.declared.value.Value.TheVariants as value
use Rattle.pungi_code.specs.declared.code.Line.{Line}
use Rattle.pungi_code.specs.declared.instr.Instr.{Instr}
use Rattle.pungi_symbol.specs.declared.answers.decision.Decision.{Decision}
use Rattle.pungi_symbol.specs.declared.answers.decision.Decision.TheVariants.{Quiet, Outcome, Order, Same as IsSame}
use Rattle.pungi_symbol.specs.declared.states.known.Known.{Known}
use Rattle.pungi_symbol.specs.declared.states.mark.Mark.{Mark}
use Rattle.pungi_symbol.specs.declared.states.mark.Mark.TheVariants.{Pointer, TextPointer, IsNull, IsObject, IsText}
use Rattle.pungi_symbol.specs.declared.states.mark.Mark.TheVariants.{IsNumber, IsConverted, Integer}
use Rattle.pungi_symbol.specs.declared.questions.question.Question.{Question}
use Rattle.pungi_symbol.specs.declared.questions.question.Question.TheVariants.{Does, Touches, Overwrites}
use Rattle.pungi_symbol.specs.declared.questions.question.Question.TheVariants.{Null as AsksNull, Base, Answers, Same}
use Rattle.pungi_symbol.specs.declared.questions.question.Question.TheVariants.{Orders, Range, Computes, Unplain, Turn}
use Rattle.pungi_symbol.specs.declared.questions.question.Question.TheVariants.{Returns, Stops, Over}
use Rattle.pungi_symbol.specs.declared.states.state.State.{State}
use Rattle.pungi_symbol.specs.states.Terms.{Table, at, is_mark, computed_at, sum_value}
use Rattle.pungi_symbol.specs.states.Terms.{is_zero_node, is_same_node, is_computed}
use Rattle.pungi_symbol.specs.states.NumberPlaces.{with_compared}
use Rattle.pungi_symbol.specs.runs.Fits.{FitsState, IsSound}
use Rattle.pungi_symbol.specs.runs.RunInState.{answer}
use Rattle.std.specs.declared.cmp.Ordering.{Ordering}
use Rattle.std.specs.declared.cmp.Ordering.TheVariants as orders
use Rattle.std.proofs.lemmas.Bool.{eqb-true}
use Rattle.std.proofs.lemmas.Bool.Decides.{nat_tests}
use Rattle.std.specs.Prelude.{nat_lt, ◌==◌, ◌||◌}
use Rattle.std.proofs.lemmas.Int.{ints}
use Rattle.std.specs.Ordering.{int_cmp}
use Rattle.pungi_base.specs.declared.pos.Pos.{Pos}
use Rattle.pungi_types.specs.declared.kind.ValueKind.{ValueKind}
use Rattle.pungi_symbol.specs.declared.states.known.Status.TheVariants as status
use Rattle.pungi_symbol.specs.declared.states.sum.Sum.{Sum}
use Rattle.pungi_code.specs.declared.instr.Instr.TheVariants.{Set, Arith, Fit, Compare, Load, Store, Api, Call}
use Rattle.pungi_code.specs.declared.instr.Instr.TheVariants.{Unset as Forget, Jump, Branch, Return, Fall}
use Rattle.pungi_symbol.specs.states.Terms.{outcomes_of_mark, outcomes_of_answer, mark_at, place_of}
use Rattle.pungi_symbol.specs.states.Known.{count, mark_of}
use Rattle.pungi_symbol.specs.questions.NextQuestion.{first_term, terms_of}
use Rattle.pungi_symbol.specs.answers.KnownAfter.{made_by, arrive_answer, answer_of_call, term_with, does, load_first}
use Rattle.pungi_symbol.specs.answers.KnownAfter.{store_first}
use Rattle.pungi_symbol.specs.answers.KnownAfter.{perform_line, instr_of, call_var, says_same, number_of_outcome}
use Rattle.pungi_symbol.specs.answers.KnownAfter.{says_order, place_of_line, ordered, computed, turned}
use Rattle.pungi_symbol.specs.answers.KnownAfter.{with_comparison, with_computation, next_computed}
use Rattle.pungi_symbol.specs.states.Turns.{blocked_at}
use Rattle.pungi_symbol.specs.answers.SymbolicState.{can, can_same, are_one, apply, apply_same, is_decision, is_order}
use Rattle.pungi_symbol.specs.answers.SymbolicState.{is_outcome, is_any_order, can_order, can_range, range_place}
use Rattle.pungi_symbol.specs.answers.SymbolicState.{order_limits, range_limits}
use Rattle.pungi_symbol.specs.runs.Fits.{Fits, AreMet}
use Rattle.pungi_meaning.specs.Values.{is_equal}
use Rattle.pungi_world.specs.declared.world.World.{World}
use Rattle.pungi_world.specs.Choices.{value_of}
use Rattle.pungi_symbol.specs.runs.Paths.{choice_of, number_choice}
use Rattle.pungi_symbol.proofs.steps.ChoicesForAnswers.{Suits, IsComing}
use Rattle.pungi_symbol.proofs.answers.Made.{made_back}
use Rattle.pungi_symbol.proofs.steps.MadeBack.{NewIn, answered_new, line_new, load_new, store_new, ordered_new}
use Rattle.pungi_symbol.proofs.steps.MadeBack.{compared_new, ranged_new, turned_new}
use Rattle.pungi_symbol.proofs.states.Contents.{has_answers, open_answers}
use Rattle.pungi_symbol.proofs.answers.Apart.{AreApart, place_back, mark_apart, answer_apart}
use Rattle.pungi_symbol.proofs.answers.Fits.{mark_back, arrives_back}
use Rattle.pungi_symbol.proofs.answers.LimitsMet.{earlier_met, later_met, met_order, met_range, place_few}
use Rattle.pungi_symbol.proofs.states.Terms.{open_below, object_is_below}
use Rattle.pungi_symbol.proofs.answers.SameObject.{way_is, way_back}
use Rattle.pungi_symbol.proofs.steps.Comparisons.{way_statics, way_limits}
use Rattle.pungi_symbol.proofs.steps.Questions.{IsAsked}
use Rattle.pungi_symbol.proofs.steps.SoundAfter.{answered_marks, decided}

-- ---- decisions

order_says : (a b : Ordering) → is_order a b ≡ true → a ≡ b
order_says orders.Less orders.Less e = refl
order_says orders.Equal orders.Equal e = refl
order_says orders.Greater orders.Greater e = refl
order_says orders.Less orders.Equal e = absurd (let bad : false ≡ true = e in cc)
order_says orders.Less orders.Greater e = absurd (let bad : false ≡ true = e in cc)
order_says orders.Equal orders.Less e = absurd (let bad : false ≡ true = e in cc)
order_says orders.Equal orders.Greater e = absurd (let bad : false ≡ true = e in cc)
order_says orders.Greater orders.Less e = absurd (let bad : false ≡ true = e in cc)
order_says orders.Greater orders.Equal e = absurd (let bad : false ≡ true = e in cc)

no_way : {X : Type 0} → false ≡ true → X
no_way e = absurd (cc)

pub decision_says : (a b : Decision) → is_decision a b ≡ true → a ≡ b
decision_says Quiet Quiet e = refl
decision_says Quiet (Outcome k) e = no_way e
decision_says Quiet (Order o) e = no_way e
decision_says Quiet (IsSame b) e = no_way e
decision_says (Outcome j) Quiet e = no_way e
decision_says (Outcome j) (Outcome k) e = ap Outcome (eqb-true j k e)
decision_says (Outcome j) (Order o) e = no_way e
decision_says (Outcome j) (IsSame b) e = no_way e
decision_says (Order a) Quiet e = no_way e
decision_says (Order a) (Outcome k) e = no_way e
decision_says (Order a) (Order b) e = ap Order (order_says a b e)
decision_says (Order a) (IsSame b) e = no_way e
decision_says (IsSame true) (IsSame true) e = refl
decision_says (IsSame true) (IsSame false) e = no_way e
decision_says (IsSame false) (IsSame true) e = no_way e
decision_says (IsSame false) (IsSame false) e = refl
decision_says (IsSame true) Quiet e = no_way e
decision_says (IsSame true) (Outcome k) e = no_way e
decision_says (IsSame true) (Order o) e = no_way e
decision_says (IsSame false) Quiet e = no_way e
decision_says (IsSame false) (Outcome k) e = no_way e
decision_says (IsSame false) (Order o) e = no_way e

lt_says : (k n : ℕ) → nat_lt k n ≡ true → k < n
lt_says k n e = grind (arith, nat_tests)

pub outcome_says : (n : ℕ) (d : Decision) → is_outcome n d ≡ true
    → (d ≡ Outcome (number_of_outcome d)) × (number_of_outcome d < n)
outcome_says n Quiet e = no_way e
outcome_says n (Outcome k) e = (refl, lt_says k n e)
outcome_says n (Order o) e = no_way e
outcome_says n (IsSame b) e = no_way e

-- an answer says more than the mark before it
pub weaker : (r : Mark) (k : ℕ) (v : Value) → has_answers r ≡ true → k < length (outcomes_of_mark r)
    → is_mark (mark_at (outcomes_of_mark r) k) v ≡ true → is_mark r v ≡ true
weaker Pointer zero value.Null o lt h = refl
weaker Pointer zero (value.Object k) o lt h = refl
weaker Pointer zero (value.Int n) o lt h = h
weaker Pointer zero value.Text o lt h = h
weaker Pointer (suc zero) value.Null o lt h = refl
weaker Pointer (suc zero) (value.Object k) o lt h = refl
weaker Pointer (suc zero) (value.Int n) o lt h = h
weaker Pointer (suc zero) value.Text o lt h = h
weaker Pointer (suc (suc k)) v o lt h = absurd (omega (arith, lt))
weaker TextPointer zero value.Null o lt h = refl
weaker TextPointer zero (value.Object k) o lt h = h
weaker TextPointer zero (value.Int n) o lt h = h
weaker TextPointer zero value.Text o lt h = refl
weaker TextPointer (suc zero) value.Null o lt h = refl
weaker TextPointer (suc zero) (value.Object k) o lt h = h
weaker TextPointer (suc zero) (value.Int n) o lt h = h
weaker TextPointer (suc zero) value.Text o lt h = refl
weaker TextPointer (suc (suc k)) v o lt h = absurd (omega (arith, lt))
weaker IsNull k v o lt h = no_way o
weaker IsObject k v o lt h = no_way o
weaker IsText k v o lt h = no_way o
weaker (IsNumber n) k v o lt h = no_way o
weaker (IsConverted n) k v o lt h = no_way o
weaker (Integer r) zero v o lt h = h
weaker (Integer r) (suc k) v o lt h = absurd (omega (arith, lt))

number_outcome : (r : Mark) (k : ℕ) (n : ℤ) → has_answers r ≡ true → k < length (outcomes_of_mark r)
    → number_choice (mark_at (outcomes_of_mark r) k) n ≡ number_choice r n
number_outcome Pointer zero n o lt = refl
number_outcome Pointer (suc zero) n o lt = refl
number_outcome Pointer (suc (suc k)) n o lt = absurd (omega (arith, lt))
number_outcome TextPointer zero n o lt = refl
number_outcome TextPointer (suc zero) n o lt = refl
number_outcome TextPointer (suc (suc k)) n o lt = absurd (omega (arith, lt))
number_outcome IsNull k n o lt = no_way o
number_outcome IsObject k n o lt = no_way o
number_outcome IsText k n o lt = no_way o
number_outcome (IsNumber m) k n o lt = no_way o
number_outcome (IsConverted m) k n o lt = no_way o
number_outcome (Integer r) zero n o lt = refl
number_outcome (Integer r) (suc k) n o lt = absurd (omega (arith, lt))

-- a token that an answer is about has its value by the same choice
pub outcome_choice : (r : Mark) (k : ℕ) (v : Value) → has_answers r ≡ true → k < length (outcomes_of_mark r)
    → choice_of (mark_at (outcomes_of_mark r) k) v ≡ choice_of r v
outcome_choice r k value.Null o lt = refl
outcome_choice r k (value.Object i) o lt = refl
outcome_choice r k (value.Int n) o lt = number_outcome r k n o lt
outcome_choice r k value.Text o lt = refl

-- ---- marks after an answer

pub does_marks : (k : Known) (i : Instr) → (does k i).marks ≡ k.marks
does_marks k (Set x a) = refl
does_marks k (Arith x kind o a b) = refl
does_marks k (Fit x kind a) = refl
does_marks k (Compare x c a b) = refl
does_marks k (Load x place) = refl
does_marks k (Store place a) = refl
does_marks k (Api x g as') = answered_marks k x (answer_of_call g.answer (first_term (terms_of k as')))
does_marks k (Call x f as') = refl
does_marks k (Forget x) = refl
does_marks k (Jump to) = refl
does_marks k (Branch a this other) = refl
does_marks k (Return o) = refl
does_marks k Fall = refl

pub line_marks : (k : Known) (o : Option Line) → (perform_line o (λ i. does k i) k).marks ≡ k.marks
line_marks k None = refl
line_marks k (Some line) = does_marks k line.instr

pub load_marks : (i : Instr) (r : Mark) (k : Known) → (load_first i r k).marks ≡ k.marks ++ r ∷ []
load_marks (Set x a) r k = refl
load_marks (Arith x kind o a b) r k = refl
load_marks (Fit x kind a) r k = refl
load_marks (Compare x c a b) r k = refl
load_marks (Load x place) r k = refl
load_marks (Store place a) r k = refl
load_marks (Api x shape as') r k = refl
load_marks (Call x f as') r k = refl
load_marks (Forget x) r k = refl
load_marks (Jump to) r k = refl
load_marks (Branch a this other) r k = refl
load_marks (Return o) r k = refl
load_marks Fall r k = refl

pub store_marks : (i : Instr) (r : Mark) (k : Known) → (store_first i r k).marks ≡ k.marks ++ r ∷ []
store_marks (Set x a) r k = refl
store_marks (Arith x kind o a b) r k = refl
store_marks (Fit x kind a) r k = refl
store_marks (Compare x c a b) r k = refl
store_marks (Load x place) r k = refl
store_marks (Store place a) r k = refl
store_marks (Api x shape as') r k = refl
store_marks (Call x f as') r k = refl
store_marks (Forget x) r k = refl
store_marks (Jump to) r k = refl
store_marks (Branch a this other) r k = refl
store_marks (Return o) r k = refl
store_marks Fall r k = refl

pub ordered_marks : (i : Instr) (o : Ordering) (k : Known) → (ordered i o k).marks ≡ k.marks
ordered_marks (Compare x c a b) o k = refl
ordered_marks (Branch a this other) o k = refl
ordered_marks (Set x a) o k = refl
ordered_marks (Arith x kind p a b) o k = refl
ordered_marks (Fit x kind a) o k = refl
ordered_marks (Load x place) o k = refl
ordered_marks (Store place a) o k = refl
ordered_marks (Api x shape as') o k = refl
ordered_marks (Call x f as') o k = refl
ordered_marks (Forget x) o k = refl
ordered_marks (Jump to) o k = refl
ordered_marks (Return a) o k = refl
ordered_marks Fall o k = refl

pub compared_marks : (p : Pos) (a b : Sum) (k : Known) → (with_comparison p a b k).marks ≡ k.marks
compared_marks p a b k = by (is_computed a.node || is_computed b.node)
  where
    by : (t : Bool) → (cond t (record k { places = with_compared k.places p }) k).marks ≡ k.marks
    by true = refl
    by false = refl

-- a comparison leaves the status and the heads
pub compared_same : (p : Pos) (a b : Sum) (k : Known) → ((with_comparison p a b k).status ≡ k.status)
    × ((with_comparison p a b k).turns ≡ k.turns)
compared_same p a b k = by (is_computed a.node || is_computed b.node)
  where
    by : (t : Bool) → ((cond t (record k { places = with_compared k.places p }) k).status ≡ k.status)
        × ((cond t (record k { places = with_compared k.places p }) k).turns ≡ k.turns)
    by true = (refl, refl)
    by false = (refl, refl)

pub computed_marks : (i : Instr) (a : Sum) (k : Known) → (computed i a k).marks ≡ k.marks
computed_marks (Arith x kind p b c) a k = refl
computed_marks (Fit x kind b) a k = refl
computed_marks (Compare x c b d) a k = refl
computed_marks (Branch b this other) a k = refl
computed_marks (Set x b) a k = refl
computed_marks (Load x place) a k = refl
computed_marks (Store place b) a k = refl
computed_marks (Api x shape as') a k = refl
computed_marks (Call x f as') a k = refl
computed_marks (Forget x) a k = refl
computed_marks (Jump to) a k = refl
computed_marks (Return b) a k = refl
computed_marks Fall a k = refl

pub ranged_marks : (i : Instr) (a : Sum) (p : Pos) (b : Bool) (k : Known)
    → (cond b (computed i a k) (record k { status = status.Stopped p })).marks ≡ k.marks
ranged_marks i a p true k = computed_marks i a k
ranged_marks i a p false k = refl

pub turned_marks : (o : Option Pos) (k : Known) → (turned o k).marks ≡ k.marks
turned_marks None k = refl
turned_marks (Some p) k = refl

order_known : (d : Decision) → is_any_order d ≡ true → d ≡ Order (says_order d)
order_known (Order o) e = refl
order_known Quiet e = no_way e
order_known (Outcome k) e = no_way e
order_known (IsSame b) e = no_way e

pub order_decided : (a b : Sum) (d : Decision) → can_order a b d ≡ true → d ≡ Order (says_order d)
order_decided a b d c = by (is_same_node a.node b.node) c
  where
    by : (t : Bool) → cond t (is_decision (Order (int_cmp a.plus b.plus)) d) (is_any_order d) ≡ true
        → d ≡ Order (says_order d)
    by true e = let is = decision_says (Order (int_cmp a.plus b.plus)) d e in
        sym is ∙ ap (λ z. Order (says_order z)) is
    by false e = order_known d e

pub range_decided : (kind : ValueKind) (a : Sum) (d : Decision) → can_range kind a d ≡ true
    → (d ≡ Outcome (number_of_outcome d)) × (number_of_outcome d < 3)
range_decided kind a d c = by (is_zero_node a.node) c
  where
    by : (t : Bool) → cond t (is_decision (Outcome (range_place kind a.plus)) d) (is_outcome 3 d) ≡ true
        → (d ≡ Outcome (number_of_outcome d)) × (number_of_outcome d < 3)
    by true e =
        let is = decision_says (Outcome (range_place kind a.plus)) d e in
        subst (λ z. (z ≡ Outcome (number_of_outcome z)) × (number_of_outcome z < 3)) is
        (refl, place_few kind a.plus)
    by false e = outcome_says 3 d e

module _ (table : Table) (s : State) (w : IsSound s) where
  abbrev FitsMarks : List Mark → Type 0
  FitsMarks ms = Fits table s.statics ms s.classes s.others

  abbrev FitsMore : List Mark → Type 0
  FitsMore ms = Fits table s.statics ms (s.classes ++ count s.known ∷ []) s.others

  abbrev Notes : Type 0
  Notes = FitsMarks s.known.marks

  more_back : (r : Mark) → FitsMore (s.known.marks ++ r ∷ []) → Notes × (is_mark r (at table (count s.known)) ≡ true)
  more_back r f = arrives_back table s.statics s.known.marks s.classes s.others r w.notes.classes_long f

  -- where no more limits are noted
  back_with : (q : Question) (d : Decision) → AreMet table s.limits → NewIn table s.known
      → Notes × (answer table s.known q ≡ d)
      → FitsState table s × (answer table s.known q ≡ d)
  back_with q d l n r = (record { notes = r.0; limits = l; new = n }, r.1)

  same_back : (t u : ℕ) (d : Decision) → mark_of s.known t ≡ IsObject → mark_of s.known u ≡ IsObject
      → can_same s t u d ≡ true
      → Fits table (apply_same (are_one s.classes t u) (says_same d) t u s).statics s.known.marks
      (apply_same (are_one s.classes t u) (says_same d) t u s).classes (apply_same (are_one s.classes t u)
      (says_same d) t u s).others
      → AreMet table (apply_same (are_one s.classes t u) (says_same d) t u s).limits → NewIn table s.known
      → FitsState table s × (IsSame (is_equal (at table t) (at table u)) ≡ d)
  same_back t u d mt mu c f l n =
      let b = says_same d in
      let is = decided s w t u d c in
      let way = way_is s t u b (subst (λ z. can_same s t u z ≡ true) is c) in
      let s' = apply_same (are_one s.classes t u) b t u s in
      let g = subst (λ n. Fits table n s.known.marks s'.classes s'.others) (way_statics s t u b s' way) f in
      let r = way_back s t u table w mt mu (object_is_below s.known.marks t mt) (object_is_below s.known.marks u mu)
      b s' way g in (
        record { notes = r.0; limits = subst (AreMet table) (way_limits s t u b s' way) l; new = n },
        ap IsSame r.1 ∙ sym is,
      )

  outcome_back : (ms : List Mark) (d : Decision) (v : Value) → AreApart ms → is_outcome (length ms) d ≡ true
      → is_mark (mark_at ms (number_of_outcome d)) v ≡ true → Outcome (place_of ms v) ≡ d
  outcome_back ms d v a c h = let o = outcome_says (length ms) d c in ap Outcome
      (place_back ms (number_of_outcome d) v a o.1 h) ∙ sym o.0

  pub apply_back : (o : Option Line) (q : Question) (d : Decision) → IsAsked (instr_of o) s.known q
      → can s q d ≡ true → FitsState table (apply o q d s) → FitsState table s × (answer table s.known q ≡ d)
  apply_back o (Does d') d a c f =
      back_with (Does d') d f.limits (line_new table s.known o f.new)
      (subst FitsMarks (line_marks s.known o) f.notes, decision_says d' d c)
  apply_back o (Touches r) d a c f =
      let g = more_back r (subst FitsMore (load_marks (instr_of o) r s.known) f.notes) in
      back_with (Touches r) d f.limits (load_new table (instr_of o) r s.known f.new) (g.0, decision_says Quiet d c)
  apply_back o (Overwrites r) d a c f =
      let r' = mark_at (outcomes_of_mark r) (number_of_outcome d) in
      let g = more_back r' (subst FitsMore (store_marks (instr_of o) r' s.known) f.notes) in
      back_with (Overwrites r) d f.limits (store_new table (instr_of o) r' s.known f.new)
      (g.0, outcome_back (outcomes_of_mark r) d (at table (count s.known)) (mark_apart r) c g.1)
  apply_back o (AsksNull t) d a c f =
      let old = mark_of s.known t in
      let said = outcome_says (length (outcomes_of_mark old)) d c in
      let g = mark_back table s.statics s.known.marks s.classes s.others t (mark_at (outcomes_of_mark old)
      (number_of_outcome d)) old (open_below s.known.marks t a) refl (λ h. weaker old (number_of_outcome d)
      (at table t) (open_answers old a) said.1 h) f.notes in
      back_with (AsksNull t) d f.limits f.new
      (g.0, outcome_back (outcomes_of_mark old) d (at table t) (mark_apart old) c g.1)
  apply_back o (Base t u j) d a c f = same_back t u d a.0 a.1 c f.notes f.limits f.new
  apply_back o (Answers x) d a c f =
      let r = mark_at (outcomes_of_answer x) (number_of_outcome d) in
      let k = arrive_answer x r s.known in
      let g = more_back r (subst FitsMore (answered_marks k (call_var (instr_of o))
      (Some (term_with r (count s.known)))) f.notes) in
      back_with (Answers x) d f.limits (made_back table s.known.made (made_by x r (count s.known)) s.known.slots
      (answered_new table k (call_var (instr_of o)) (Some (term_with r (count s.known))) f.new))
      (g.0, outcome_back (outcomes_of_answer x) d (at table (count s.known)) (answer_apart x) c g.1)
  apply_back o (Same t u) d a c f = same_back t u d a.0 a.1 c f.notes f.limits f.new
  apply_back o (Orders x y) d a c f =
      let ls = order_limits x y (says_order d) in (
        record {
          notes = subst FitsMarks (ordered_marks (instr_of o) (says_order d) (with_comparison (place_of_line o) x y
              s.known) ∙ compared_marks (place_of_line o) x y s.known) f.notes;
          limits = earlier_met table s.limits ls f.limits;
          new = compared_new table (place_of_line o) x y s.known (ordered_new table (instr_of o) (says_order d)
              (with_comparison (place_of_line o) x y s.known) f.new);
        },
        ap Order (met_order table x y (says_order d) (later_met table s.limits ls f.limits))
            ∙ sym (order_decided x y d c),
      )
  apply_back o (Range kind x) d a c f =
      let n = number_of_outcome d in
      let ls = range_limits kind x n in
      let is = range_decided kind x d c in (
        record {
          notes = subst FitsMarks (ranged_marks (instr_of o) x (place_of_line o) (n == 1) s.known) f.notes;
          limits = earlier_met table s.limits ls f.limits;
          new = ranged_new table (instr_of o) x (place_of_line o) (n == 1) s.known f.new;
        },
        ap Outcome (met_range table kind x n is.1 (later_met table s.limits ls f.limits)) ∙ sym is.0,
      )
  apply_back o (Computes kind p x y) d a c f =
      let n = number_of_outcome d in
      let next = next_computed s.known in
      let ls = range_limits kind next n in
      let is = outcome_says 3 d c in
      let k = with_computation (place_of_line o) (record { kind = kind; op = p; a = x; b = y }) s.known in
      let plain : computed_at table (length s.known.computed) ≡ sum_value table next = omega (arith, ints) in (
        record {
          notes = subst FitsMarks (ranged_marks (instr_of o) next (place_of_line o) (n == 1) k) f.notes;
          limits = earlier_met table s.limits ls f.limits;
          new = ranged_new table (instr_of o) next (place_of_line o) (n == 1) k f.new;
        },
        ap Outcome (ap (range_place kind) plain
            ∙ met_range table kind next n is.1 (later_met table s.limits ls f.limits)) ∙ sym is.0,
      )
  apply_back o Unplain d a c f = back_with Unplain d f.limits f.new (f.notes, decision_says Quiet d c)
  apply_back o Turn d a c f =
      back_with Turn d f.limits (turned_new table (blocked_at s.known.turns s.known.pc) s.known f.new)
      (subst FitsMarks (turned_marks (blocked_at s.known.turns s.known.pc) s.known) f.notes, decision_says Quiet d c)
  apply_back o (Returns x) d a c f = back_with (Returns x) d f.limits f.new (f.notes, decision_says Quiet d c)
  apply_back o (Stops d') d a c f = back_with (Stops d') d f.limits f.new (f.notes, decision_says d' d c)
  apply_back o Over d a c f = no_way c

  last_choice : (ms : List Mark) (r : Mark) (c : Choice) → ms ≡ s.known.marks ++ r ∷ []
      → choice_of (get_or ms (count s.known) IsNull) (value_of c) ≡ choice_of r (value_of c)
  last_choice ms r c e = ap (λ l. choice_of (get_or l (count s.known) IsNull) (value_of c)) e
      ∙ ap (λ m. choice_of m (value_of c)) (get_or-append_seam s.known.marks r [] IsNull)

  -- the token that came in is as the answer says, and its choice suits the question
  pub came_in : (o : Option Line) (q : Question) (d : Decision) (c : Choice) (accounts : World)
      → IsAsked (instr_of o) s.known q → can s q d ≡ true → FitsState table (apply o q d s)
      → at table (count s.known) ≡ value_of c → IsComing accounts q (value_of c)
      → c ≡ choice_of (mark_of (apply o q d s).known (count s.known)) (value_of c) → Suits accounts q c
  came_in o (Does d') d c n a ok f e b y = tt
  came_in o (Touches r) d c n a ok f e b y =
      let is = load_marks (instr_of o) r s.known in
      let g = more_back r (subst FitsMore is f.notes) in
      (ap (is_mark r) (sym e) ∙ g.1, b, y ∙ last_choice _ r c is)
  came_in o (Overwrites r) d c n a ok f e b y =
      let r' = mark_at (outcomes_of_mark r) (number_of_outcome d) in
      let said = outcome_says (length (outcomes_of_mark r)) d ok in
      let is = store_marks (instr_of o) r' s.known in
      let g = more_back r' (subst FitsMore is f.notes) in (
        weaker r (number_of_outcome d) (value_of c) a.1 said.1 (ap (is_mark r') (sym e) ∙ g.1),
        b,
        y ∙ last_choice _ r' c is ∙ outcome_choice r (number_of_outcome d) (value_of c) a.1 said.1,
      )
  came_in o (AsksNull t) d c n a ok f e b y = tt
  came_in o (Base t u j) d c n a ok f e b y = tt
  came_in o (Answers x) d c n a ok f e b y =
      let r = mark_at (outcomes_of_answer x) (number_of_outcome d) in
      let said = outcome_says (length (outcomes_of_answer x)) d ok in
      let k = arrive_answer x r s.known in
      let is = answered_marks k (call_var (instr_of o)) (Some (term_with r (count s.known))) in
      let g = more_back r (subst FitsMore is f.notes) in
      ((number_of_outcome d, said.1, ap (is_mark r) (sym e) ∙ g.1), b, y ∙ last_choice _ r c is)
  came_in o (Same t u) d c n a ok f e b y = tt
  came_in o (Orders x y) d c n a ok f e b z = tt
  came_in o (Range kind x) d c n a ok f e b z = tt
  came_in o (Computes kind p x y) d c n a ok f e b z = tt
  came_in o Unplain d c n a ok f e b z = tt
  came_in o Turn d c n a ok f e b z = tt
  came_in o (Returns x) d c n a ok f e b y = tt
  came_in o (Stops d') d c n a ok f e b y = tt
  came_in o Over d c n a ok f e b y = tt
