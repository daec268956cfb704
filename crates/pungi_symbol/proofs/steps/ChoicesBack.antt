-- The choice by which a token has its value: no answer about the token changes it.
use Rattle.std.proofs.Common.{◌≡◌, ◌==◌, ℕ, ◌<◌, List, [], ◌∷◌, ◌++◌, length, get_or, sym, ap, ◌∙◌}
use Rattle.std.proofs.Common.{true, arith, subst, inl, inr, Option, Some, length-append}
use Rattle.std.specs.Prelude.{slice_set}
use Rattle.std.proofs.lemmas.Bool.{cases_eq}
use Rattle.std.proofs.Math.ListN.{length-set, get_or-append}
use Rattle.std.proofs.lemmas.List.{get_or-set_same, get_or-set_other}
use Rattle.pungi_base.specs.declared.value.Value.{Value}
use Rattle.pungi_code.specs.declared.code.Line.{Line}
use Rattle.pungi_symbol.specs.declared.answers.decision.Decision.{Decision}
use Rattle.pungi_symbol.specs.declared.states.mark.Mark.{Mark}
use Rattle.pungi_symbol.specs.declared.states.mark.Mark.TheVariants.{IsNull}
use Rattle.pungi_symbol.specs.declared.questions.question.Question.{Question}
use Rattle.pungi_symbol.specs.declared.questions.question.Question.TheVariants.{Does, Touches, Overwrites}
use Rattle.pungi_symbol.specs.declared.questions.question.Question.TheVariants.{Null as AsksNull, Base, Answers, Same}
use Rattle.pungi_symbol.specs.declared.questions.question.Question.TheVariants.{Orders, Range, Computes, Unplain, Turn}
use Rattle.pungi_symbol.specs.declared.questions.question.Question.TheVariants.{Returns, Stops, Over}
use Rattle.pungi_symbol.specs.declared.states.state.State.{State}
use Rattle.pungi_symbol.specs.states.Terms.{outcomes_of_mark, outcomes_of_answer, mark_at}
use Rattle.pungi_symbol.specs.states.Known.{count, mark_of}
use Rattle.pungi_symbol.specs.states.Turns.{blocked_at}
use Rattle.pungi_symbol.specs.answers.KnownAfter.{arrive_answer, term_with, instr_of, call_var, number_of_outcome}
use Rattle.pungi_symbol.specs.answers.KnownAfter.{says_order}
use Rattle.pungi_symbol.specs.answers.KnownAfter.{place_of_line, with_comparison, with_computation, next_computed}
use Rattle.pungi_symbol.specs.answers.SymbolicState.{can, apply}
use Rattle.pungi_symbol.specs.runs.Paths.{choice_of}
use Rattle.pungi_symbol.proofs.states.Contents.{has_answers, open_answers}
use Rattle.pungi_symbol.proofs.steps.Questions.{IsAsked}
use Rattle.pungi_symbol.proofs.steps.SoundAfter.{answered_marks}
use Rattle.pungi_symbol.proofs.steps.StepBack.{outcome_says, outcome_choice, line_marks, load_marks, store_marks}
use Rattle.pungi_symbol.proofs.steps.StepBack.{ordered_marks, ranged_marks, turned_marks, compared_marks}

-- the tokens of one list of marks have their values by the same choices as those of another
abbrev pub AreAlike : List Mark → List Mark → Type 0
AreAlike last ms =
    (t : ℕ) → t < length ms → (v : Value) → choice_of (get_or last t IsNull) v ≡ choice_of (get_or ms t IsNull) v

module _ (last ms : List Mark) where
  same_alike : (more : List Mark) → more ≡ ms → AreAlike last more → AreAlike last ms
  same_alike more e h = subst (AreAlike last) e h

  more_alike : (more : List Mark) (r : Mark) → more ≡ ms ++ r ∷ [] → AreAlike last more → AreAlike last ms
  more_alike more r e h t lt v =
      let long = length-append ms (r ∷ []) in
      let g : AreAlike last (ms ++ r ∷ []) = subst (AreAlike last) e h in
      g t (omega (arith, lt, long)) v ∙ ap (λ m. choice_of m v) (get_or-append ms (r ∷ []) IsNull t lt)

  noted_alike : (u k : ℕ) → has_answers (get_or ms u IsNull) ≡ true
      → k < length (outcomes_of_mark (get_or ms u IsNull))
      → AreAlike last (slice_set ms u (mark_at (outcomes_of_mark (get_or ms u IsNull)) k)) → AreAlike last ms
  noted_alike u k o few h t lt v =
      let old = get_or ms u IsNull in
      let new = mark_at (outcomes_of_mark old) k in
      let long = length-set ms u new in
      h t (omega (arith, lt, long)) v ∙ elim (cases_eq t u) [
        | inl e ↦ ap (λ j. choice_of (get_or (slice_set ms u new) j IsNull) v) e
            ∙ ap (λ m. choice_of m v) (get_or-set_same ms u new IsNull (omega (arith, lt, e)))
            ∙ outcome_choice old k v o few
            ∙ ap (λ j. choice_of (get_or ms j IsNull) v) (sym e)
        | inr ne ↦ ap (λ m. choice_of m v) (get_or-set_other ms u t new IsNull ne)
      ]

-- the state before an answer
pub alike_back : (last : List Mark) (o : Option Line) (q : Question) (d : Decision) (s : State)
    → IsAsked (instr_of o) s.known q → can s q d ≡ true → AreAlike last (apply o q d s).known.marks
    → AreAlike last s.known.marks
alike_back last o (Does d') d s a c h = same_alike last s.known.marks _ (line_marks s.known o) h
alike_back last o (Touches r) d s a c h =
    more_alike last s.known.marks _ r (load_marks (instr_of o) r s.known) h
alike_back last o (Overwrites r) d s a c h =
    let r' = mark_at (outcomes_of_mark r) (number_of_outcome d) in
    more_alike last s.known.marks _ r' (store_marks (instr_of o) r' s.known) h
alike_back last o (AsksNull t) d s a c h =
    let old = mark_of s.known t in
    noted_alike last s.known.marks t (number_of_outcome d) (open_answers old a)
    (outcome_says (length (outcomes_of_mark old)) d c).1 h
alike_back last o (Base t u j) d s a c h = h
alike_back last o (Answers x) d s a c h =
    let r = mark_at (outcomes_of_answer x) (number_of_outcome d) in
    more_alike last s.known.marks _ r (answered_marks (arrive_answer x r s.known) (call_var (instr_of o))
    (Some (term_with r (count s.known)))) h
alike_back last o (Same t u) d s a c h = h
alike_back last o (Orders x y) d s a c h =
    same_alike last s.known.marks _ (ordered_marks (instr_of o) (says_order d) (with_comparison (place_of_line o) x y
    s.known) ∙ compared_marks (place_of_line o) x y s.known) h
alike_back last o (Range kind x) d s a c h =
    same_alike last s.known.marks _
    (ranged_marks (instr_of o) x (place_of_line o) (number_of_outcome d == 1) s.known) h
alike_back last o (Computes kind p x y) d s a c h =
    let k = with_computation (place_of_line o) (record { kind = kind; op = p; a = x; b = y }) s.known in
    same_alike last s.known.marks _
    (ranged_marks (instr_of o) (next_computed s.known) (place_of_line o) (number_of_outcome d == 1) k) h
alike_back last o Unplain d s a c h = h
alike_back last o Turn d s a c h =
    same_alike last s.known.marks _ (turned_marks (blocked_at s.known.turns s.known.pc) s.known) h
alike_back last o (Returns x) d s a c h = h
alike_back last o (Stops d') d s a c h = h
alike_back last o Over d s a c h = h
