-- Each answer that a question still has is among those that stand for next states.
use Rattle.std.proofs.Common.{◌≡◌, ℕ, zero, suc, ◌+◌, ◌≤◌, ◌<◌, List, [], ◌∷◌, length, map, Bool, true, false, refl}
use Rattle.std.proofs.Common.{sym, ap, subst, arith, inl, inr, cond}
use Rattle.std.specs.Prelude.{int_lt, pos}
use Rattle.std.specs.Ordering.{int_cmp}
use Rattle.std.specs.Prelude.{slice_get}
use Rattle.std.specs.List.{range_with_len}
use Rattle.std.specs.declared.cmp.Ordering.{Ordering}
use Rattle.std.specs.declared.cmp.Ordering.TheVariants.{Less, Equal, Greater}
use Rattle.std.proofs.lemmas.Bool.Decides.{nat_tests}
use Rattle.pungi_meaning.specs.Values.{fits}
use Rattle.pungi_code.specs.declared.code.Line.{Line}
use Rattle.pungi_symbol.specs.declared.answers.decision.Decision.{Decision}
use Rattle.pungi_symbol.specs.declared.answers.decision.Decision.TheVariants.{Quiet, Outcome, Order, Same as IsSame}
use Rattle.pungi_symbol.specs.declared.states.mark.Mark.{Mark}
use Rattle.pungi_symbol.specs.declared.states.mark.Mark.TheVariants.{Pointer, TextPointer, IsNull, IsObject, IsText}
use Rattle.pungi_symbol.specs.declared.states.mark.Mark.TheVariants.{IsNumber, IsConverted, Integer}
use Rattle.pungi_symbol.specs.declared.questions.question.Question.{Question}
use Rattle.pungi_symbol.specs.declared.questions.question.Question.TheVariants.{Does, Touches, Overwrites}
use Rattle.pungi_symbol.specs.declared.questions.question.Question.TheVariants.{Null as AsksNull, Base, Answers, Same}
use Rattle.pungi_symbol.specs.declared.questions.question.Question.TheVariants.{Orders, Range, Computes, Unplain, Turn}
use Rattle.pungi_symbol.specs.declared.questions.question.Question.TheVariants.{Returns, Stops, Over}
use Rattle.pungi_symbol.specs.declared.states.state.State.{State}
use Rattle.pungi_symbol.specs.states.Terms.{outcomes_of_mark, outcomes_of_answer, is_zero_node, is_same_node}
use Rattle.pungi_symbol.specs.states.Known.{mark_of}
use Rattle.pungi_symbol.specs.questions.NextQuestion.{ask}
use Rattle.pungi_symbol.specs.answers.SymbolicState.{is_order, is_decision, is_outcome, can_be, are_one, are_other}
use Rattle.pungi_symbol.specs.answers.SymbolicState.{is_any_order}
use Rattle.pungi_symbol.specs.answers.SymbolicState.{can, apply, numbered, answers_of, after_if, successors}
use Rattle.pungi_explore.specs.Traces.{IsIn, states_after}
use Rattle.pungi_explore.proofs.Each.{Each, each_mapped, each_flat, each_if}

untrue : {P : Type 0} → false ≡ true → P
untrue e = absurd (cc)

same_order : (a b : Ordering) → is_order a b ≡ true → b ≡ a
same_order Less Less e = refl
same_order Less Equal e = untrue e
same_order Less Greater e = untrue e
same_order Equal Less e = untrue e
same_order Equal Equal e = refl
same_order Equal Greater e = untrue e
same_order Greater Less e = untrue e
same_order Greater Equal e = untrue e
same_order Greater Greater e = refl

-- the answer of a question that has but one
same_decision : (d' d : Decision) → is_decision d' d ≡ true → d ≡ d'
same_decision Quiet Quiet e = refl
same_decision Quiet (Outcome k) e = untrue e
same_decision Quiet (Order o) e = untrue e
same_decision Quiet (IsSame b) e = untrue e
same_decision (Outcome j) Quiet e = untrue e
same_decision (Outcome j) (Outcome k) e = let same : k ≡ j = grind (arith, nat_tests) in ap Outcome same
same_decision (Outcome j) (Order o) e = untrue e
same_decision (Outcome j) (IsSame b) e = untrue e
same_decision (Order a) Quiet e = untrue e
same_decision (Order a) (Outcome k) e = untrue e
same_decision (Order a) (Order o) e = ap Order (same_order a o e)
same_decision (Order a) (IsSame b) e = untrue e
same_decision (IsSame true) Quiet e = untrue e
same_decision (IsSame true) (Outcome k) e = untrue e
same_decision (IsSame true) (Order o) e = untrue e
same_decision (IsSame true) (IsSame true) e = refl
same_decision (IsSame true) (IsSame false) e = untrue e
same_decision (IsSame false) Quiet e = untrue e
same_decision (IsSame false) (Outcome k) e = untrue e
same_decision (IsSame false) (Order o) e = untrue e
same_decision (IsSame false) (IsSame true) e = untrue e
same_decision (IsSame false) (IsSame false) e = refl

only_one : (d' d : Decision) → is_decision d' d ≡ true → IsIn d (d' ∷ [])
only_one d' d e = inl (same_decision d' d e)

-- one of the numbered answers
numbered_from : (a n k j : ℕ) → a + k ≡ j → k < n → IsIn (Outcome j) (map Outcome (range_with_len a n))
numbered_from a zero k j e lt = absurd (omega (arith, lt))
numbered_from a (suc n) zero j e lt = let same : j ≡ a = omega (arith, e) in inl (ap Outcome same)
numbered_from a (suc n) (suc k) j e lt =
    let next : (a + 1) + k ≡ j = omega (arith, e) in
    let rest : k < n = omega (arith, lt) in
    inr (numbered_from (a + 1) n k j next rest)

one_of : (n m : ℕ) (d : Decision) → n ≤ m → is_outcome n d ≡ true → IsIn d (numbered m)
one_of n m (Outcome k) le e =
    let lt : k < m = grind (arith, nat_tests) in
    let same : 0 + k ≡ k = omega arith in
    numbered_from 0 m k k same lt
one_of n m Quiet le e = untrue e
one_of n m (Order o) le e = untrue e
one_of n m (IsSame b) le e = untrue e

same_or_other : (one other : Bool) (d : Decision) → can_be one other d ≡ true → IsIn d (IsSame false ∷ IsSame true ∷ [])
same_or_other one other (IsSame false) e = inl refl
same_or_other one other (IsSame true) e = inr (inl refl)
same_or_other one other Quiet e = untrue e
same_or_other one other (Outcome k) e = untrue e
same_or_other one other (Order o) e = untrue e

few_of_mark : (m : Mark) → length (outcomes_of_mark m) ≤ 2
few_of_mark Pointer = omega arith
few_of_mark TextPointer = omega arith
few_of_mark IsNull = omega arith
few_of_mark IsObject = omega arith
few_of_mark IsText = omega arith
few_of_mark (IsNumber n) = omega arith
few_of_mark (IsConverted n) = omega arith
few_of_mark (Integer r) = omega arith

-- one of the ways in which two numbers compare
any_order : (d : Decision) → is_any_order d ≡ true → IsIn d (Order Less ∷ Order Equal ∷ Order Greater ∷ [])
any_order (Order Less) e = inl refl
any_order (Order Equal) e = inr (inl refl)
any_order (Order Greater) e = inr (inr (inl refl))
any_order Quiet e = untrue e
any_order (Outcome k) e = untrue e
any_order (IsSame b) e = untrue e

order_in : (same : Bool) (o : Ordering) (d : Decision) → cond same (is_decision (Order o) d) (is_any_order d) ≡ true
    → IsIn d (Order Less ∷ Order Equal ∷ Order Greater ∷ [])
order_in true o d e = subst (λ x. IsIn x (Order Less ∷ Order Equal ∷ Order Greater ∷ [])) (sym
    (same_decision (Order o) d e)) (any_order (Order o) refl)
order_in false o d e = any_order d e

-- a number is below a range, within it or above it
place_few : (within below : Bool) → cond within 1 (cond below 0 2) < 3
place_few true below = omega arith
place_few false true = omega arith
place_few false false = omega arith

place_in : (zero_node within below : Bool) (d : Decision)
    → cond zero_node (is_decision (Outcome (cond within 1 (cond below 0 2))) d) (is_outcome 3 d) ≡ true
    → IsIn d (numbered 3)
place_in true within below d e =
    let k = cond within 1 (cond below 0 2) in
    subst (λ x. IsIn x (numbered 3)) (sym (same_decision (Outcome k) d e)) (numbered_from 0 3 k k (omega arith)
    (place_few within below))
place_in false within below d e = one_of 3 3 d (omega arith) e

in_answers : (s : State) (q : Question) (d : Decision) → can s q d ≡ true → IsIn d (answers_of q)
in_answers s (Does d') d e = only_one d' d e
in_answers s (Touches m) d e = only_one Quiet d e
in_answers s (Overwrites m) d e = one_of (length (outcomes_of_mark m)) 2 d (few_of_mark m) e
in_answers s (AsksNull t) d e =
    one_of (length (outcomes_of_mark (mark_of s.known t))) 2 d (few_of_mark (mark_of s.known t)) e
in_answers s (Base t u i) d e =
    same_or_other (are_one s.classes t u) (are_other s.statics s.known s.classes s.others t u) d e
in_answers s (Answers a) d e =
    let n = length (outcomes_of_answer a) in let le : n ≤ n = omega arith in one_of n n d le e
in_answers s (Same t u) d e =
    same_or_other (are_one s.classes t u) (are_other s.statics s.known s.classes s.others t u) d e
in_answers s (Orders a b) d e = order_in (is_same_node a.node b.node) (int_cmp a.plus b.plus) d e
in_answers s (Range kind a) d e =
    place_in (is_zero_node a.node) (fits kind a.plus) (int_lt a.plus (pos 0)) d e
in_answers s (Computes kind o a b) d e = one_of 3 3 d (omega arith) e
in_answers s Unplain d e = only_one Quiet d e
in_answers s Turn d e = only_one Quiet d e
in_answers s (Returns x) d e = only_one Quiet d e
in_answers s (Stops d') d e = only_one d' d e
in_answers s Over d e = untrue e

-- what holds of all answers with the states after them holds of each answer which the question still has
pub after_answer : (P : Decision × State → Type 0) (code : List Line) (s : State) → Each P (successors code s)
    → (d : Decision) → can s (ask code s.known) d ≡ true
    → P (d, apply (slice_get code s.known.pc) (ask code s.known) d s)
after_answer P code s all d c =
    let one = after_if (slice_get code s.known.pc) (ask code s.known) s in
    each_if P (can s (ask code s.known) d) (d, apply (slice_get code s.known.pc) (ask code s.known) d s)
    (each_flat P one d (answers_of (ask code s.known)) (in_answers s (ask code s.known) d c) all) c

-- what holds of all next states holds of that after each answer which the question still has
pub after_each : (P : State → Type 0) (code : List Line) (s : State) → Each P (states_after code s)
    → (d : Decision) → can s (ask code s.known) d ≡ true → P (apply (slice_get code s.known.pc) (ask code s.known) d s)
after_each P code s all d c =
    let pairs : Each (λ p. P p.1) (successors code s) = each_mapped P (λ p. p.1) (successors code s) all in
    after_answer (λ p. P p.1) code s pairs d c
