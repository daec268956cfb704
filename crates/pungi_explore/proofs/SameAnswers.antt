-- Quiet adds nothing to a trace: paths to ends that have the same answers are the same.
use Rattle.std.proofs.Common.{◌≡◌, ℕ, zero, suc, ◌≤◌, List, [], ◌∷◌, ◌++◌, length, true, false, refl, sym, ap, ◌∙◌}
use Rattle.std.proofs.Common.{subst, arith, ◌⊎◌, inl, inr, cond, Bool}
use Rattle.std.specs.Prelude.{slice_get}
use Rattle.std.specs.Ordering.{int_cmp}
use Rattle.std.specs.declared.cmp.Ordering.{Ordering}
use Rattle.std.proofs.Common.{length-append}
use Rattle.std.proofs.lemmas.List.{append_cancel_right}
use Rattle.pungi_code.specs.declared.code.Line.{Line}
use Rattle.pungi_symbol.specs.declared.answers.decision.Decision.{Decision}
use Rattle.pungi_symbol.specs.declared.answers.decision.Decision.TheVariants.{Quiet, Outcome, Order, Same as IsSame}
use Rattle.pungi_symbol.specs.declared.questions.question.Question.{Question}
use Rattle.pungi_symbol.specs.declared.questions.question.Question.TheVariants.{Does, Touches, Overwrites}
use Rattle.pungi_symbol.specs.declared.questions.question.Question.TheVariants.{Null as AsksNull, Base, Answers, Same}
use Rattle.pungi_symbol.specs.declared.questions.question.Question.TheVariants.{Orders, Range, Computes, Unplain, Turn}
use Rattle.pungi_symbol.specs.declared.questions.question.Question.TheVariants.{Returns, Stops, Over}
use Rattle.pungi_symbol.specs.declared.states.state.State.{State}
use Rattle.pungi_symbol.specs.states.Terms.{is_zero_node, is_same_node}
use Rattle.pungi_symbol.specs.questions.NextQuestion.{ask}
use Rattle.pungi_symbol.specs.answers.SymbolicState.{is_decision, is_any_order, is_outcome, range_place, can, apply}
use Rattle.pungi_symbol.specs.runs.Paths.{Path}
use Rattle.pungi_explore.specs.Traces.{trace_in, HasEnded}
use Rattle.pungi_explore.proofs.Begins.{Told, Begins, stays, answers, begins, ended_asks}
use Rattle.pungi_explore.proofs.Many.{same_last}

untrue : {P : Type 0} → false ≡ true → P
untrue e = absurd (cc)

-- ---- a question that is answered by Quiet has no other answer

quiet_is : (d : Decision) → is_decision Quiet d ≡ true → d ≡ Quiet
quiet_is Quiet e = refl
quiet_is (Outcome k) e = untrue e
quiet_is (Order o) e = untrue e
quiet_is (IsSame b) e = untrue e

does_only : (d' d : Decision) → is_decision d' Quiet ≡ true → is_decision d' d ≡ true → d ≡ Quiet
does_only Quiet d h e = quiet_is d e
does_only (Outcome j) d h e = untrue h
does_only (Order o) d h e = untrue h
does_only (IsSame true) d h e = untrue h
does_only (IsSame false) d h e = untrue h

order_quiet : (same : Bool) (o : Ordering) (d : Decision)
    → cond same (is_decision (Order o) Quiet) (is_any_order Quiet) ≡ true → d ≡ Quiet
order_quiet true o d h = untrue h
order_quiet false o d h = untrue h

range_quiet : (zero_node : Bool) (k : ℕ) (d : Decision)
    → cond zero_node (is_decision (Outcome k) Quiet) (is_outcome 3 Quiet) ≡ true → d ≡ Quiet
range_quiet true k d h = untrue h
range_quiet false k d h = untrue h

quiet_only : (s : State) (q : Question) (d : Decision) → can s q Quiet ≡ true → can s q d ≡ true → d ≡ Quiet
quiet_only s (Does d') d h e = does_only d' d h e
quiet_only s (Touches m) d h e = quiet_is d e
quiet_only s (Overwrites m) d h e = untrue h
quiet_only s (AsksNull t) d h e = untrue h
quiet_only s (Base t u i) d h e = untrue h
quiet_only s (Answers a) d h e = untrue h
quiet_only s (Same t u) d h e = untrue h
quiet_only s (Orders a b) d h e = order_quiet (is_same_node a.node b.node) (int_cmp a.plus b.plus) d h
quiet_only s (Range kind a) d h e = range_quiet (is_zero_node a.node) (range_place kind a.plus) d h
quiet_only s (Computes kind o a b) d h e = untrue h
quiet_only s Unplain d h e = quiet_is d e
quiet_only s Turn d h e = quiet_is d e
quiet_only s (Returns x) d h e = quiet_is d e
quiet_only s (Stops d') d h e = does_only d' d h e
quiet_only s Over d h e = untrue h

-- ---- the answers of a path and of its first decision

first_added : (ds : Told) (d : Decision) → trace_in (ds ++ d ∷ []) ≡ trace_in ds ++ trace_in (d ∷ [])
first_added [] d = refl
first_added (Quiet ∷ ds) d = first_added ds d
first_added (Outcome k ∷ ds) d = ap (λ l. Outcome k ∷ l) (first_added ds d)
first_added (Order o ∷ ds) d = ap (λ l. Order o ∷ l) (first_added ds d)
first_added (IsSame b ∷ ds) d = ap (λ l. IsSame b ∷ l) (first_added ds d)

quiet_or_told : (d : Decision) → (d ≡ Quiet) ⊎ (trace_in (d ∷ []) ≡ d ∷ [])
quiet_or_told Quiet = inl refl
quiet_or_told (Outcome k) = inr refl
quiet_or_told (Order o) = inr refl
quiet_or_told (IsSame b) = inr refl

module _ (code : List Line) where
  same_first : (s : State) (ds es : Told) (d e : Decision) → can s (ask code s.known) d ≡ true
      → can s (ask code s.known) e ≡ true → trace_in ds ++ trace_in (d ∷ []) ≡ trace_in es ++ trace_in (e ∷ [])
      → (d ≡ Quiet) ⊎ (trace_in (d ∷ []) ≡ d ∷ []) → (e ≡ Quiet) ⊎ (trace_in (e ∷ []) ≡ e ∷ []) → d ≡ e
  same_first s ds es d e c c' same (inl q) o = q ∙ sym (quiet_only s (ask code s.known) e
      (subst (λ x. can s (ask code s.known) x ≡ true) q c) c')
  same_first s ds es d e c c' same (inr a) (inl q) = quiet_only s (ask code s.known) d
      (subst (λ x. can s (ask code s.known) x ≡ true) q c') c ∙ sym q
  same_first s ds es d e c c' same (inr a) (inr b) = same_last (trace_in ds) (trace_in es) d e
      (ap (λ l. trace_in ds ++ l) (sym a) ∙ same ∙ ap (λ l. trace_in es ++ l) b)

  same_from : (n : ℕ) (s : State) (ds es : Told) (l m : State) → length ds ≤ n → Begins code s ds l
      → Begins code s es m → HasEnded l → HasEnded m → trace_in ds ≡ trace_in es → ds ≡ es
  same_from n s _ _ _ _ le stays stays over ended same = refl
  same_from n s _ _ _ _ le stays (answers e es m c' p') over ended same = absurd
      (ended_asks code s e over c')
  same_from n s _ _ _ _ le (answers d ds l c p) stays over ended same = absurd
      (ended_asks code s d ended c)
  same_from zero s _ _ _ _ le (answers d ds l c p) (answers e es m c' p') over ended same = absurd
      (let long = length-append ds (d ∷ []) in omega (arith, le, long))
  same_from (suc n) s _ _ _ _ le (answers d ds l c p) (answers e es m c' p') over ended same =
      let both = sym (first_added ds d) ∙ same ∙ first_added es e in
      let one = same_first s ds es d e c c' both (quiet_or_told d) (quiet_or_told e) in
      let rest = append_cancel_right (trace_in ds) (trace_in es) (trace_in (d ∷ []))
      (both ∙ ap (λ x. trace_in es ++ trace_in (x ∷ [])) (sym one)) in
      let next = apply (slice_get code s.known.pc) (ask code s.known) d s in
      let path : Path code next es m = subst (λ x. Path code (apply (slice_get code s.known.pc) (ask code s.known) x
      s) es m) (sym one) p' in
      let long = length-append ds (d ∷ []) in
      let last = same_from n next ds es l m (omega (arith, le, long)) (begins code next ds l p)
      (begins code next es m path) over ended rest in
      ap (λ x. x ++ d ∷ []) last ∙ ap (λ x. es ++ x ∷ []) one

  pub same_path : (s : State) (ds es : Told) (l m : State) → Path code s ds l → Path code s es m → HasEnded l
      → HasEnded m → trace_in ds ≡ trace_in es → ds ≡ es
  same_path s ds es l m p p' over ended same = same_from (length ds) s ds es l m (omega arith)
      (begins code s ds l p) (begins code s es m p') over ended same
