-- A call of the API: a run and a state do the same.
use Rattle.std.proofs.Common.{◌≡◌, ℕ, ◌+◌, ◌≤◌, ℤ, pos, negsuc, List, [], ◌∷◌, ◌++◌, length, map, Bool, true}
use Rattle.std.proofs.Common.{false, refl, sym, ap, ◌∙◌, subst, arith, inl, inr, Option, None, Some, cond}
use Rattle.std.specs.Prelude.{slice_set, slice_get}
use Rattle.pungi_base.specs.declared.choice.Choice.{Choice}
use Rattle.pungi_base.specs.declared.pos.Pos.{Pos}
use Rattle.pungi_base.specs.declared.value.Value.{Value}
use Rattle.pungi_base.specs.declared.value.Value.TheVariants as value
use Rattle.pungi_world.specs.declared.content.Content.TheVariants as content
use Rattle.pungi_code.specs.declared.atom.Atom.{Atom}
use Rattle.pungi_code.specs.declared.atom.Var.{Var}
use Rattle.pungi_code.specs.declared.code.Line.{Line}
use Rattle.pungi_code.specs.declared.instr.Instr.{Instr}
use Rattle.pungi_code.specs.Registers.{Regs, put}
use Rattle.pungi_symbol.specs.declared.answers.decision.Decision.TheVariants.{Quiet, Outcome}
use Rattle.pungi_symbol.specs.declared.states.known.Status.TheVariants as status
use Rattle.pungi_symbol.specs.declared.states.mark.Mark.{Mark}
use Rattle.pungi_symbol.specs.declared.questions.question.Question.TheVariants.{Does, Answers}
use Rattle.pungi_symbol.specs.declared.states.state.State.{State}
use Rattle.pungi_symbol.specs.declared.states.term.Term.{Term}
use Rattle.pungi_symbol.specs.states.Terms.{Table, at, content_of, is_mark, value_of_mark}
use Rattle.pungi_symbol.specs.runs.Fits.{IsSound}
use Rattle.pungi_code.specs.WellFormed.{is_there}
use Rattle.pungi_symbol.specs.runs.RunInState.{Lies}
use Rattle.std.specs.Prelude.{replicate, ◌||◌, Result as Res, Ok, Err}
use Rattle.std.specs.List.{list_all}
use Rattle.std.proofs.Common.{length-append}
use Rattle.std.proofs.lemmas.List.{map-set}
use Rattle.std.proofs.lemmas.Int.{ints}
use Rattle.pungi_api.specs.declared.answer.Answer.{Answer}
use Rattle.pungi_api.specs.declared.answer.Answer.TheVariants as answer
use Rattle.pungi_api.specs.declared.call_answer.CallAnswer.{CallAnswer}
use Rattle.pungi_api.specs.declared.call_answer.CallAnswer.TheVariants.{Of, Argument}
use Rattle.pungi_api.specs.declared.own_effect.OwnEffect.{OwnEffect}
use Rattle.pungi_api.specs.declared.own_effect.OwnEffect.TheVariants.{IncRef, DecRef}
use Rattle.pungi_api.specs.declared.signature.Signature.{Signature}
use Rattle.pungi_world.specs.declared.effect.Effect.{Effect}
use Rattle.pungi_world.specs.declared.halt.Halt.{Halt}
use Rattle.pungi_world.specs.declared.halt.Halt.TheVariants as halt
use Rattle.pungi_world.specs.declared.world.World.{World}
use Rattle.pungi_world.specs.Calls.{stops, with_new_reference as world_answered, is_success, take_over, first_of}
use Rattle.pungi_world.specs.Calls.{with_answer, is_call_success, call_answer, own_world, call_effect}
use Rattle.pungi_world.specs.Choices.{value_of, answer_of}
use Rattle.pungi_world.specs.Counts.{count_value}
use Rattle.pungi_world.specs.Effects.{◌>>=◌, effect}
use Rattle.pungi_code.specs.declared.instr.Instr.TheVariants.{Api}
use Rattle.pungi_code.specs.Registers.{choices_left, put_answer as regs_answered, all_values}
use Rattle.pungi_symbol.specs.states.Terms.{outcomes_of_answer, place_of, mark_at}
use Rattle.pungi_symbol.specs.states.Known.{count}
use Rattle.pungi_symbol.specs.questions.NextQuestion.{asks_all_set, asks_known, asks_answer, asks_call_answer}
use Rattle.pungi_symbol.specs.questions.NextQuestion.{asks_own, asks_signature, first_term, terms_of}
use Rattle.pungi_symbol.specs.answers.KnownAfter.{go_on, put_answer, answer_of_call, term_with, made_by, arrive_answer}
use Rattle.std.proofs.lemmas.List.Folds.{list_any-append}
use Rattle.pungi_world.specs.World.{account_of}
use Rattle.pungi_symbol.specs.answers.SymbolicState.{join, lower, add_term, taken_terms, own_weigh, owed_for_answer}
use Rattle.pungi_api.specs.Signatures.{has_outcomes}
use Rattle.pungi_symbol.specs.runs.Fits.{named, is_the, IsBelow, AreNew}
use Rattle.pungi_symbol.specs.runs.RunInState.{owed, IsOf, is_this_made, IsWalked, state_in, slot_at_place, place_in}
use Rattle.pungi_symbol.specs.answers.KnownAfter.{instr_of}
use Rattle.pungi_world.specs.Choices.{choose}
use Rattle.pungi_symbol.specs.answers.SymbolicState.{is_outcome}
use Rattle.pungi_symbol.proofs.steps.Worlds.{IsNear, head_drop}
use Rattle.pungi_symbol.proofs.steps.ChoicesForAnswers.{not_refused}
use Rattle.pungi_symbol.proofs.steps.RunInState.{effort}
use Rattle.pungi_symbol.specs.runs.OneInstruction.{Led, on_values, on_effect, goes, leads, leads_at}
use Rattle.pungi_symbol.proofs.states.Contents.{unset, asks, passes, knowing_is, IsKnown, is_open, term_value}
use Rattle.pungi_symbol.proofs.states.NamedObjects.{part, named_end}
use Rattle.pungi_symbol.proofs.states.Claims.{at_term, at_terms, lowered_long, owing}
use Rattle.pungi_symbol.proofs.states.Terms.{open_below}
use Rattle.pungi_symbol.proofs.steps.Worlds.{counted_owed, counted_keeps}
use Rattle.pungi_symbol.proofs.steps.RunInState.{Moved, goes_on, Result, Linked, IsLine, atom_is, below_is, led_is}
use Rattle.pungi_symbol.proofs.steps.RunInState.{null_result, stops_result, marks}
use Rattle.pungi_symbol.proofs.steps.Loads.{arrive_lies, next_value}
use Rattle.pungi_symbol.proofs.steps.Rows.{AllSet, AllBelow, not_set, are_set, set_is, all_below, need_stops, need_asks}
use Rattle.pungi_symbol.proofs.steps.Rows.{need_passes, needs_is, take_asks, take_passes}
use Rattle.pungi_symbol.proofs.steps.Rows.{takes_is, KnownTaken, taken_known, taken_over_is, Answering, a_void}
use Rattle.pungi_symbol.proofs.steps.Rows.{a_null, a_choice, answering_is, chose, chose_none, chosen_is}
use Rattle.pungi_symbol.proofs.steps.AnswersOfChoices.{IsMadeNext, known_is, answered_is}
use Rattle.pungi_symbol.proofs.answers.Made.{made_new}
use Rattle.pungi_symbol.proofs.steps.CallAnswers.{AnswerIs, Sure, sure_is, first_holds, first_is, first_set}
use Rattle.pungi_symbol.proofs.steps.CallAnswers.{first_below, term_with_is, answer_world, of_term, of_terms, after_put}
use Rattle.pungi_symbol.proofs.steps.CallAnswers.{made_later}
use Rattle.pungi_symbol.proofs.steps.CallAnswers.{after_none}

module _ (choices : List Choice) (code : List Line) (table : Table) (base : ℕ) (m : Regs) (s : State)
    (going : s.known.status ≡ status.Going) (w : IsSound s) (l : Lies code table base m s) (p : Pos) where
  module _ (x : Option Var) (g : Signature) (as' : List Atom) where
    abbrev I : Instr
    I = Api x g as'

    abbrev Ts : List Term
    Ts = terms_of s.known as'

    abbrev Vs : List Value
    Vs = map (term_value table) Ts

    abbrev CallGo : Res (Effect × World) Halt → Led
    CallGo r = on_effect p r m (λ e r'. goes (s.known.pc + 1) (regs_answered x e.value r'))

    abbrev CallOn : List Value → Led
    CallOn vs = CallGo (call_effect m.world g vs (choices_left choices m))

    abbrev Used : ℕ → World → Regs
    Used n w' = record m { world = w'; used = m.used ++ replicate n p }

    -- without a choice
    moved_by : (z : Option Var) (o : Option Value) (t : Option Term) (m1 : Regs) (bs : List ℤ)
        → length m1.world.accounts ≡ length m.world.accounts → AnswerIs table o t
        → Lies code table base m1 (record s { balances = bs })
        → leads_at choices code s.known.pc m ≡ goes (s.known.pc + 1) (regs_answered z o m1)
        → Moved choices code table base s.known.pc s.known.turns (effort s.known) m (record s
        { balances = bs; known = go_on (put_answer z t s.known) })
    moved_by None o t m1 bs k a h e = goes_on m1 (omega (arith, k)) e going refl (after_none code table base s m1 bs h)
    moved_by (Some z) None None m1 bs k a h e =
        goes_on m1 (omega (arith, k)) e going refl (after_none code table base s m1 bs h)
    moved_by (Some z) None (Some c) m1 bs k a h e = absurd a
    moved_by (Some z) (Some v) None m1 bs k a h e = absurd a
    moved_by (Some z) (Some v) (Some c) m1 bs k a h e = goes_on (put z (content.Holds v) m1) (omega (arith, k)) e
        going refl (after_put code table base s m1 bs z c v a h)

    abbrev T1 : Option Term
    T1 = answer_of_call g.answer (first_term Ts)

    abbrev B1 : List ℤ
    B1 = own_weigh s.classes s.known g.own g.takes Ts s.balances

    done_result : (o : Option Value) (m1 : Regs) → length m1.world.accounts ≡ length m.world.accounts
        → IsLine choices code table base m s going w l p I → AnswerIs table o T1
        → Lies code table base m1 (record s { balances = B1 })
        → leads choices I p s.known.pc m ≡ goes (s.known.pc + 1) (regs_answered x o m1)
        → Result choices code table base m s going w l p I (Does Quiet)
    done_result o m1 k is a h e = inr (
      refl,
      moved_by x o T1 m1 B1 k a h (led_is choices code table base m s going w
          l p I is ∙ e),
    )

    module _ (is : IsLine choices code table base m s going w l p I) (all : all_values as' m.vars ≡ Some Vs)
        (set : AllSet Ts) (below : AllBelow (count s.known) Ts) where
      abbrev Left : List Choice
      Left = choices_left choices m

      -- what it does, where it has this effect of its own
      abbrev Effects : Bool → Option OwnEffect → Res (Effect × World) Halt
      Effects b own = cond b (Err halt.Stopped)
          (call_answer (length m.world.accounts) g.answer Vs Left
          >>= (λ r. Ok (effect r.0 r.1, own_world own g Vs m.world r.0)))

      call_led : (own : Option OwnEffect) → g.own ≡ own
          → leads choices I p s.known.pc m ≡ CallGo (Effects (stops g.params Vs) own)
      call_led own e = ap (λ o. on_values o p m CallOn) all ∙ ap (λ z. CallGo (Effects (stops g.params Vs) z)) e

      passing_led : (own : Option OwnEffect) → g.own ≡ own → stops g.params Vs ≡ false
          → leads choices I p s.known.pc m ≡ CallGo (Effects false own)
      passing_led own e f = call_led own e ∙ ap (λ b. CallGo (Effects b own)) f

      -- ---- effects of their own

      abbrev Tf : Term
      Tf = first_term Ts

      abbrev Vf : Value
      Vf = term_value table Tf

      -- the count of an argument changes
      counted_lies : (by : ℤ) (bs : List ℤ) → IsKnown s.known Tf → bs ≡ add_term s.classes s.known Tf by s.balances
          → Lies code table base (Used 0 (count_value m.world Vf by)) (record s { balances = bs })
      counted_lies by bs kn e =
          let kept = counted_keeps m.world Vf by in
          let b = first_below (count s.known) Ts below in
          record {
            fits = record { notes = l.fits.notes; limits = l.fits.limits; new = l.fits.new };
            vars = l.vars;
            slots = kept.slots ∙ l.slots;
            used = let a = length-append m.used (replicate 0 p) in let c = l.used in omega (arith, a, c);
            claims = λ o. (let a = counted_owed m.world Vf by o (of_term table (length m.world.accounts)
                (count s.known) l.below Tf b) in let c = at_term table s l.fits w o
                Tf by s.balances kn b w.notes.balances_long in let d = l.claims o in
                let f = ap (named o table.values) e in
                omega (arith, ints, a, c, d, f));
            below = λ t lt. subst (λ n. IsOf n (at table t)) (sym kept.accounts) (l.below t lt);
            made = λ o. kept.made o ∙ l.made o;
            walked = subst (λ y. IsWalked table s.known.made y s.known.progress (slot_at_place (place_in
                (instr_of (slice_get code s.known.pc))) m.vars)) (sym kept.slots) l.walked;
          }

      abbrev Counted : ℤ → Value → Option Value × ℕ → Res (Effect × World) Halt
      Counted by v r = Ok (effect r.0 r.1, count_value m.world v by)

      abbrev Sures : Type 0
      Sures = Sure table (length m.world.accounts) Ts g.answer

      count_result : (own : OwnEffect) (by : ℤ) → g.own ≡ Some own → stops g.params Vs ≡ false → Sures
          → Effects false (Some own)
          ≡ (call_answer (length m.world.accounts) g.answer Vs Left >>= Counted by (first_of Vs))
          → own_weigh s.classes s.known (Some own) g.takes Ts s.balances ≡ add_term s.classes s.known Tf by s.balances
          → IsKnown s.known Tf → Result choices code table base m s going w l p I (Does Quiet)
      count_result own by e f sure d h kn =
          done_result sure.answer (Used 0 (count_value m.world Vf by)) (counted_keeps m.world Vf by).accounts is
          sure.agrees (counted_lies by B1 kn (ap (λ z. own_weigh s.classes s.known z g.takes Ts s.balances) e ∙ h))
          (passing_led (Some own) e f
          ∙ ap CallGo (d ∙ ap (λ r. r >>= Counted by (first_of Vs)) (sure.returned Left)
          ∙ ap (λ v. Counted by v (sure.answer, 0)) (first_is table Ts)))

      know_result : (own : OwnEffect) (by : ℤ) → g.own ≡ Some own → stops g.params Vs ≡ false → Sures
          → Effects false (Some own)
          ≡ (call_answer (length m.world.accounts) g.answer Vs Left >>= Counted by (first_of Vs))
          → own_weigh s.classes s.known (Some own) g.takes Ts s.balances ≡ add_term s.classes s.known Tf by s.balances
          → Result choices code table base m s going w l p I (asks_known s.known Tf (asks_call_answer g.answer))
      know_result own by e f sure d h = elim (knowing_is s.known Tf (asks_call_answer g.answer)) [
        | unset u q ↦ absurd (first_set Ts set u)
        | asks t u o q ↦ subst (Result choices code table base m s going w l p I) (sym q)
            (null_result choices code table base m s going w l p I t (open_below s.known.marks t o) o)
        | passes kn q ↦ subst (Result choices code table base m s going w l p I) (sym (q ∙ sure.quiet))
            (count_result own by e f sure d h kn)
      ]

      -- ---- calls without an effect of their own

      abbrev Answered : CallAnswer → Option Value × ℕ → Res (Effect × World) Halt
      Answered a r = Ok (effect r.0 r.1, take_over (with_answer a m.world r.0) (is_call_success a r.0) g.takes Vs)

      plain_led : (a : CallAnswer) → g.answer ≡ a → g.own ≡ None → stops g.params Vs ≡ false
          → leads choices I p s.known.pc m
          ≡ CallGo (call_answer (length m.world.accounts) a Vs Left >>= Answered a)
      plain_led a h e f = passing_led None e f
          ∙ ap (λ z. CallGo (call_answer (length m.world.accounts) z Vs Left >>= Answered z)) h

      -- a call that uses no choice
      quiet_lies : KnownTaken s.known g.takes Ts → g.own ≡ None
          → Lies code table base (Used 0 (take_over m.world false g.takes Vs)) (record s { balances = B1 })
      quiet_lies kt e =
          let over = taken_over_is table m.world false g.takes Ts (of_terms table (length m.world.accounts)
          (count s.known) l.below (length m.world.accounts)
          (omega arith) Ts below) in
          let kept = over.0 in
          record {
            fits = record { notes = l.fits.notes; limits = l.fits.limits; new = l.fits.new };
            vars = l.vars;
            slots = kept.slots ∙ l.slots;
            used = let a = length-append m.used (replicate 0 p) in let c = l.used in omega (arith, a, c);
            claims = λ o. (
                let a = over.1 o in
                let c = at_terms table s l.fits w o (taken_terms false g.takes Ts) s.balances
                (taken_known s.known false g.takes Ts kt below) w.notes.balances_long in
                let d = l.claims o in
                let f = ap (λ z. named o table.values (own_weigh s.classes s.known z g.takes Ts s.balances)) e in
                omega (arith, ints, a, c, d, f));
            below = λ t lt. subst (λ n. IsOf n (at table t)) (sym kept.accounts) (l.below t lt);
            made = λ o. kept.made o ∙ l.made o;
            walked = subst (λ y. IsWalked table s.known.made y s.known.progress (slot_at_place (place_in
                (instr_of (slice_get code s.known.pc))) m.vars)) (sym kept.slots) l.walked;
          }

      quiet_result : (a : CallAnswer) (o : Option Value) → g.answer ≡ a → g.own ≡ None → stops g.params Vs ≡ false
          → KnownTaken s.known g.takes Ts → AnswerIs table o (answer_of_call a Tf)
          → (call_answer (length m.world.accounts) a Vs Left >>= Answered a)
          ≡ Ok (effect o 0, take_over m.world false g.takes Vs)
          → Result choices code table base m s going w l p I (Does Quiet)
      quiet_result a o h e f kt is_answer d =
          done_result o (Used 0 (take_over m.world false g.takes Vs)) (taken_over_is table m.world false
          g.takes Ts (of_terms table (length m.world.accounts) (count s.known) l.below (length m.world.accounts)
          (omega arith) Ts below)).0.accounts is
          (subst (λ z. AnswerIs table o (answer_of_call z Tf)) (sym h) is_answer) (quiet_lies kt e)
          (plain_led a h e f ∙ ap CallGo d)

      -- a call that uses a choice
      module _ (a : Answer) where
        abbrev Gone : Value → World
        Gone v = take_over (world_answered a m.world (Some v)) (is_success a (Some v)) g.takes Vs

        abbrev Bs : Mark → List ℤ
        Bs r = lower s.classes s.known (taken_terms (is_success a (Some (value_of_mark r))) g.takes Ts) s.balances

        abbrev MadeNow : Mark → List ℕ
        MadeNow r = s.known.made ++ made_by a r (count s.known)

        answer_moved : (z : Option Var) (v : Value) (r : Mark) → at table (count s.known) ≡ v → is_mark r v ≡ true
            → is_open r ≡ false → IsNear m.world v → IsMadeNext a (length m.world.accounts) v
            → is_success a (Some v) ≡ is_success a (Some (value_of_mark r)) → KnownTaken s.known g.takes Ts
            → leads_at choices code s.known.pc m ≡ goes (s.known.pc + 1) (regs_answered z (Some v) (Used 1 (Gone v)))
            → Moved choices code table base s.known.pc s.known.turns (effort s.known) m (record (join
            (owed_for_answer a r) (Bs r) s) {
              known = go_on (put_answer z
                  (Some (term_with r (count s.known))) (arrive_answer a r s.known));
            })
        answer_moved z v r vn marked shut near next success kt e =
            let n = count s.known in
            let aw = answer_world table n m.world a v r near marked shut vn in
            let w2 = world_answered a m.world (Some v) in
            let over = taken_over_is table w2 (is_success a (Some v)) g.takes Ts
            (of_terms table (length m.world.accounts) (count s.known) l.below (length w2.accounts) aw.more Ts below) in
            let kept = over.0 in
            let ka = kept.accounts in
            let known = taken_known s.known (is_success a (Some (value_of_mark r))) g.takes Ts kt below in
            let claim : (o : ℕ) → owed (Gone v) o ≡ named o table.values (Bs r ++ owed_for_answer a r ∷ []) = λ o.
            let c1 = over.1 o in
            let c2 = ap (λ b. owing o table (taken_terms b g.takes Ts)) success in
            let c3 = aw.owes o in
            let c4 = l.claims o in
            let c5 = at_terms table s l.fits w o (taken_terms (is_success a (Some (value_of_mark r))) g.takes
            Ts) s.balances known w.notes.balances_long in
            let long : length (Bs r) ≡ n = lowered_long table s l.fits w (taken_terms
            (is_success a (Some (value_of_mark r))) g.takes Ts) s.balances ∙ w.notes.balances_long in
            let c6 = named_end o table.values (Bs r) (owed_for_answer a r) in
            let c7 : part (is_the o (at table (length (Bs r)))) (owed_for_answer a r)
            ≡ part (is_the o v) (owed_for_answer a r) = ap (λ y. part (is_the o (at table y)) (owed_for_answer a r))
            long ∙ ap (λ y. part (is_the o y) (owed_for_answer a r)) vn in
            omega (arith, ints, c1, c2, c3, c4, c5, c6, c7) in
            let marked' : is_mark r (at table n) ≡ true = ap (is_mark r) vn ∙ marked in
            let of : IsOf (length (Gone v).accounts) (at table n) = subst (IsOf (length (Gone v).accounts)) (sym vn)
            (subst (λ y. IsOf y v) (sym ka) aw.there) in
            let more : length m.world.accounts ≤ length (Gone v).accounts = let b = aw.more in omega (arith, ka, b) in
            let slots : (Gone v).slots ≡ map (state_in table) s.known.slots = kept.slots ∙ aw.slots ∙ l.slots in
            let made : (o : ℕ) → (account_of (Gone v) o).made ≡ is_this_made table (MadeNow r) o = λ o.
            kept.made o ∙ aw.made o ∙ ap (λ b. b || is_this_made table (made_by a r n) o) (l.made o)
            ∙ sym (list_any-append (λ t. is_the o (at table t)) s.known.made (made_by a r n)) in
            let later = made_later (length m.world.accounts) n a r v next marked in
            let new : AreNew table (MadeNow r) s.known.slots = made_new table s.known.made (made_by a r n) s.known.slots
            (λ i t b lt q. let z = later i b in let last = z.0 in
            z.1 (at table t) (l.below t (omega (arith, lt, last))) (q ∙ ap (at table) last ∙ vn))
            (λ i j t b held q. let z = later i b in
            z.1 (at table t) (l.below t (subst (IsBelow n) held (w.terms.at_entry j))) (q ∙ ap (at table) z.0 ∙ vn))
            l.fits.new in
            by z v r marked' shut of more made new slots claim vn e
          where
            by : (z : Option Var) (v : Value) (r : Mark) → is_mark r (at table (count s.known)) ≡ true
                → is_open r ≡ false → IsOf (length (Gone v).accounts) (at table (count s.known))
                → length m.world.accounts ≤ length (Gone v).accounts
                → ((o : ℕ) → (account_of (Gone v) o).made ≡ is_this_made table (MadeNow r) o)
                → AreNew table (MadeNow r) s.known.slots
                → (Gone v).slots ≡ map (state_in table) s.known.slots
                → ((o : ℕ) → owed (Gone v) o ≡ named o table.values (Bs r ++ owed_for_answer a r ∷ []))
                → at table (count s.known) ≡ v
                → leads_at choices code s.known.pc m
                ≡ goes (s.known.pc + 1) (regs_answered z (Some v) (Used 1 (Gone v)))
                → Moved choices code table base s.known.pc s.known.turns (effort s.known) m (record (join
                (owed_for_answer a r) (Bs r) s) {
                  known = go_on (put_answer z
                      (Some (term_with r (count s.known))) (arrive_answer a r s.known));
                })
            by None v r marked shut of more made new slots claim vn e =
                goes_on (Used 1 (Gone v)) more e going refl (arrive_lies choices code table base m s going w l p
                (Used 1 (Gone v)) (s.known.pc + 1) s.known.vars s.known.slots (MadeNow r) r
                (owed_for_answer a r) (Bs r) (length-append m.used (replicate 1 p)) marked of more made new l.vars slots
                claim)
            by (Some y) v r marked shut of more made new slots claim vn e =
                goes_on (put y (content.Holds v) (Used 1 (Gone v))) more e going refl
                (arrive_lies choices code table base m s going w l p (put y (content.Holds v) (Used 1 (Gone v)))
                (s.known.pc + 1) (slice_set s.known.vars y.0 (term_with r (count s.known))) s.known.slots (MadeNow r) r
                (owed_for_answer a r) (Bs r) (length-append m.used (replicate 1 p)) marked of more made new
                (ap (λ vs. slice_set vs y.0 (content.Holds v)) l.vars
                ∙ ap (λ q. slice_set (map (content_of table) s.known.vars) y.0 (content.Holds q)) (sym vn)
                ∙ ap (slice_set (map (content_of table) s.known.vars) y.0) (sym (term_with_is table r (count s.known)
                marked shut)) ∙ sym (map-set (content_of table) s.known.vars y.0 (term_with r (count s.known))))
                slots claim)

        choice_result : Linked table base choices → g.answer ≡ Of a → g.own ≡ None
            → stops g.params Vs ≡ false → KnownTaken s.known g.takes Ts
            → ((n : ℕ) (cs : List Choice) → answer_of n a cs
            ≡ (choose n a cs >>= λ y. Ok (Some y, 1)))
            → Result choices code table base m s going w l p I (Answers a)
        choice_result linked h e f kt ans =
            let n = length m.world.accounts in
            let go : leads choices I p s.known.pc m ≡ CallGo (choose n a (choices_left choices m) >>=
            (λ y. Ok (Some y, 1)) >>= Answered (Of a)) = plain_led (Of a) h e f
            ∙ ap (λ r. CallGo (r >>= Answered (Of a))) (ans n (choices_left choices m)) in
            elim (chosen_is n a (choices_left choices m)) [
              | chose_none q ↦ inl (
                m,
                led_is choices code table base m s going w l p I is ∙ go
                    ∙ ap (λ r. CallGo (r >>= (λ y. Ok (Some y, 1)) >>= Answered (Of a))) q,
                λ c at h.
                    let d = head_drop choices (length m.used) c at in
                    not_refused m.world a c d.0 h (ap (choose n a) (sym d.1) ∙ q),
              )
              | chose c rest ec ok q ↦
                  let v = value_of c in
                  let vn : at table (count s.known) ≡ v = next_value choices code table base m s going w l p c rest
                  linked ec in
                  let told = known_is a n c ok in
                  let same : place_of (outcomes_of_answer a) (at table (count s.known))
                  ≡ place_of (outcomes_of_answer a) v = ap (place_of (outcomes_of_answer a)) vn in
                  inr (
                    subst (λ y. is_outcome (length (outcomes_of_answer a)) (Outcome y) ≡ true) (sym same) told.can,
                    answer_moved x v (mark_at (outcomes_of_answer a) (place_of (outcomes_of_answer a)
                        (at table (count s.known)))) vn
                        (subst (λ y. is_mark (mark_at (outcomes_of_answer a) y) v ≡ true) (sym same) told.marked)
                        (subst (λ y. is_open (mark_at (outcomes_of_answer a) y) ≡ false) (sym same) told.shut)
                        (told.near m.world refl) (answered_is a n c ok)
                        (subst (λ y. is_success a (Some v) ≡ is_success a (Some (value_of_mark (mark_at
                        (outcomes_of_answer a) y)))) (sym same) told.success) kt
                        (led_is choices code table base m s going w l p I is ∙ go
                        ∙ ap (λ r. CallGo (r >>= (λ y. Ok (Some y, 1)) >>= Answered (Of a))) q),
                  )
            ]

      answering_result : (a : Answer) → Linked table base choices → g.answer ≡ Of a
          → g.own ≡ None → stops g.params Vs ≡ false → KnownTaken s.known g.takes Ts → Answering a
          → Result choices code table base m s going w l p I (asks_answer a)
      answering_result a linked h e f kt (a_void q) = subst (Result choices code table base m s going w l p I)
          (sym (ap asks_answer q)) (quiet_result (Of answer.Void) None (h ∙ ap Of q) e f kt tt refl)
      answering_result a linked h e f kt (a_null q) = subst (Result choices code table base m s going w l p I)
          (sym (ap asks_answer q)) (quiet_result (Of answer.Null) (Some value.Null) (h ∙ ap Of q) e f kt refl refl)
      answering_result a linked h e f kt (a_choice q ans) = subst (Result choices code table base m s going w l
          p I) (sym q) (choice_result a linked h e f kt ans)

      call_answering_result : (a : CallAnswer) → Linked table base choices → g.answer ≡ a
          → g.own ≡ None → stops g.params Vs ≡ false → KnownTaken s.known g.takes Ts
          → Result choices code table base m s going w l p I (asks_call_answer a)
      call_answering_result (Of a) linked h e f kt = answering_result a linked h e f kt (answering_is a)
      call_answering_result Argument linked h e f kt =
          quiet_result Argument (Some (first_of Vs)) h e f kt (first_holds table Ts set) refl

      -- ---- all calls

      sures : (o : OwnEffect) → has_outcomes (Some o) g.answer ≡ true → Sures
      sures o small = sure_is table (length m.world.accounts) Ts set o g.answer small

      own_result : (own : Option OwnEffect) → Linked table base choices → has_outcomes own g.answer ≡ true
          → g.own ≡ own → stops g.params Vs ≡ false
          → Result choices code table base m s going w l p I (asks_own s.known own g.takes Ts
          (asks_call_answer g.answer))
      own_result None linked small e f = elim (takes_is s.known g.takes Ts (asks_call_answer g.answer) set) [
        | take_asks t r o ↦ subst (Result choices code table base m s going w l p I) (sym r)
            (null_result choices code table base m s going w l p I t (open_below s.known.marks t o) o)
        | take_passes r kt ↦ subst (Result choices code table base m s going w l p I) (sym r)
            (call_answering_result g.answer linked refl e f kt)
      ]
      own_result (Some IncRef) linked small e f = know_result IncRef (pos 1) e f (sures IncRef small) refl refl
      own_result (Some DecRef) linked small e f = know_result DecRef (negsuc 0) e f (sures DecRef small) refl refl

      signature_result : Linked table base choices → has_outcomes g.own g.answer ≡ true
          → Result choices code table base m s going w l p I (asks_signature s.known g Ts)
      signature_result linked small = elim (needs_is s.known table (marks choices code table base m s going w l p)
          g.params Ts (asks_own s.known g.own g.takes Ts (asks_call_answer g.answer)) set below) [
            | need_stops q f ↦ subst (Result choices code table base m s going w l p I) (sym q)
                (stops_result choices code table base m s going w l p I Quiet is (call_led g.own refl
                ∙ ap (λ b. CallGo (Effects b g.own)) f))
            | need_asks t q o ↦ subst (Result choices code table base m s going w l p I) (sym q)
                (null_result choices code table base m s going w l p I t (open_below s.known.marks t o) o)
            | need_passes q f ↦ subst (Result choices code table base m s going w l p I) (sym q)
                (own_result g.own linked small refl f)
          ]

    pub call_result : Linked table base choices → has_outcomes g.own g.answer ≡ true
        → list_all (is_there s.statics) as' ≡ true → IsLine choices code table base m s going w l p I
        → Result choices code table base m s going w l p I (asks_all_set Ts (asks_signature s.known g Ts))
    call_result linked small h is = elim (set_is table s.known s.statics m.vars
        (atom_is choices code table base m s going w l p) as' h) [
          | not_set f e ↦ subst (Result choices code table base m s going w l p I)
              (sym (f (asks_signature s.known g Ts))) (stops_result choices code table base m s going w l p
              I Quiet is (ap (λ o. on_values o p m CallOn) e))
          | are_set f e set ↦ subst (Result choices code table base m s going w l p I)
              (sym (f (asks_signature s.known g Ts))) (signature_result is e set
              (all_below s.known s.statics (below_is choices code table base m s going w l p) as' h) linked small)
        ]
