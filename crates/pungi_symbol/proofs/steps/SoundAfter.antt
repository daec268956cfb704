-- A sound state stays sound after an answer.
use Rattle.std.proofs.Common.{◌≡◌, ℕ, ◌<◌, ℤ, pos, negsuc, List, [], ◌∷◌, ◌++◌, length, Bool, true, false}
use Rattle.std.proofs.Common.{refl, sym, ap, ◌∙◌, subst, arith, Option, None, Some, cond}
use Rattle.std.proofs.Math.Seq.{get_or-append_seam}
use Rattle.std.proofs.lemmas.List.{append-nil}
use Rattle.std.specs.Prelude.{slice_set, ◌==◌, ◌||◌}
use Rattle.std.specs.declared.cmp.Ordering.{Ordering}
use Rattle.pungi_base.specs.declared.pos.Pos.{Pos}
use Rattle.pungi_code.specs.declared.atom.Atom.{Atom}
use Rattle.pungi_code.specs.declared.atom.Var.{Var}
use Rattle.pungi_code.specs.declared.code.Line.{Line}
use Rattle.pungi_code.specs.declared.instr.Instr.{Instr}
use Rattle.pungi_symbol.specs.declared.answers.decision.Decision.{Decision}
use Rattle.pungi_symbol.specs.declared.answers.decision.Decision.TheVariants.{Quiet, Outcome, Order, Same as IsSame}
use Rattle.pungi_symbol.specs.declared.states.known.Known.{Known}
use Rattle.pungi_symbol.specs.declared.states.known.Status.TheVariants as status
use Rattle.pungi_symbol.specs.declared.states.limit.Limit.{Limit}
use Rattle.pungi_symbol.specs.declared.states.mark.Mark.{Mark}
use Rattle.pungi_symbol.specs.declared.states.mark.Mark.TheVariants.{Pointer, TextPointer, IsNull, IsObject, IsText}
use Rattle.pungi_symbol.specs.declared.states.mark.Mark.TheVariants.{IsNumber, IsConverted, Integer}
use Rattle.pungi_symbol.specs.declared.questions.found_slot.Finding.{Finding}
use Rattle.pungi_symbol.specs.declared.questions.found_slot.Finding.TheVariants.{Waits, At, OfMade, Nowhere}
use Rattle.pungi_symbol.specs.declared.questions.question.Question.{Question}
use Rattle.pungi_symbol.specs.declared.questions.question.Question.TheVariants.{Does, Touches, Overwrites}
use Rattle.pungi_symbol.specs.declared.questions.question.Question.TheVariants.{Null as AsksNull, Base, Answers, Same}
use Rattle.pungi_symbol.specs.declared.questions.question.Question.TheVariants.{Orders, Range, Computes, Unplain, Turn}
use Rattle.pungi_symbol.specs.declared.questions.question.Question.TheVariants.{Returns, Stops, Over}
use Rattle.pungi_symbol.specs.declared.states.state.State.{State}
use Rattle.pungi_symbol.specs.declared.states.sum.Sum.{Sum as SumOf}
use Rattle.pungi_symbol.specs.declared.states.term.Term.{Term}
use Rattle.pungi_symbol.specs.declared.states.term.Term.TheVariants.{Unset, Number, Token, Sum}
use Rattle.pungi_symbol.specs.states.Terms.{value_of_mark}
use Rattle.pungi_symbol.specs.runs.Fits.{IsBelow, IsSound}
use Rattle.pungi_code.specs.WellFormed.{is_there}
use Rattle.std.specs.List.{list_all}
use Rattle.std.proofs.Common.{length-append}
use Rattle.pungi_api.specs.declared.answer.Answer.{Answer}
use Rattle.pungi_api.specs.declared.answer.Answer.TheVariants as answer
use Rattle.pungi_api.specs.declared.own_effect.OwnEffect.{OwnEffect}
use Rattle.pungi_api.specs.declared.own_effect.OwnEffect.TheVariants.{IncRef, DecRef}
use Rattle.pungi_api.specs.declared.take.Take.{Take}
use Rattle.pungi_world.specs.Calls.{is_success}
use Rattle.pungi_code.specs.declared.place.Place.{Place}
use Rattle.pungi_symbol.specs.declared.states.spot.Spot.{Spot}
use Rattle.pungi_symbol.specs.declared.states.spot.Touched.{Touched}
use Rattle.pungi_code.specs.declared.instr.Instr.TheVariants.{Set, Arith, Fit, Compare, Load, Store, Api, Call}
use Rattle.pungi_code.specs.declared.instr.Instr.TheVariants.{Unset as Forget, Jump, Branch, Return, Fall}
use Rattle.pungi_symbol.specs.states.Known.{count, mark_of, term_of, object_of, find, held_in, spot_of}
use Rattle.pungi_symbol.specs.states.Terms.{outcomes_of_mark, outcomes_of_answer, mark_at, is_computed}
use Rattle.pungi_symbol.specs.states.Turns.{blocked_at}
use Rattle.pungi_symbol.specs.questions.NextQuestion.{first_term, terms_of}
use Rattle.pungi_symbol.specs.answers.KnownAfter.{go_on, put as put_known, arrive, put_answer, answer_of_call}
use Rattle.pungi_symbol.specs.answers.KnownAfter.{made_by, arrive_answer, made_slot, store_found}
use Rattle.pungi_symbol.specs.answers.KnownAfter.{term_with, does, load_first}
use Rattle.pungi_symbol.specs.answers.KnownAfter.{store_first, touched_slot, comparison_var, comparison_term, instr_of}
use Rattle.pungi_symbol.specs.answers.KnownAfter.{call_var, says_same, says_order, number_of_outcome, place_of_line}
use Rattle.pungi_symbol.specs.answers.KnownAfter.{ordered, computed, truth_term, holds_order, turned}
use Rattle.pungi_symbol.specs.answers.KnownAfter.{with_comparison, with_computation, next_computed}
use Rattle.pungi_symbol.specs.states.NumberPlaces.{with_compared}
use Rattle.pungi_symbol.specs.answers.SymbolicState.{can, can_same, class_of, are_one, apply, apply_same, weigh}
use Rattle.pungi_symbol.specs.answers.SymbolicState.{own_weigh}
use Rattle.pungi_symbol.specs.answers.SymbolicState.{lower, taken_terms, terms_taken_by, add_term}
use Rattle.pungi_symbol.specs.answers.SymbolicState.{owed_for, owed_for_answer, stored_term, join, take_answer}
use Rattle.pungi_symbol.specs.answers.SymbolicState.{limited, order_limits, range_limits}
use Rattle.pungi_code.specs.WellFormed.{atoms_of, atoms_in}
use Rattle.pungi_symbol.specs.runs.Fits.{AreNotesSound, AreTermsSound, AreMadeSound, IsObjectSpot}
use Rattle.pungi_symbol.proofs.states.Terms.{below_more, put_terms, stored_terms, touched_terms, more_terms, null_terms}
use Rattle.pungi_symbol.proofs.states.Terms.{spot_more, atom_below, object_is_below, open_below}
use Rattle.pungi_symbol.proofs.answers.SoundNotes.{added_sound, null_sound, arrived_sound}
use Rattle.pungi_symbol.proofs.answers.SameObject.{way_is, way_sound, way_made}
use Rattle.pungi_symbol.proofs.answers.Made.{among_one, no_token, StoredSlots, slot_made, stored_made, null_made}
use Rattle.pungi_symbol.proofs.answers.Made.{arrived_made}
use Rattle.pungi_symbol.proofs.answers.Made.{made_more}
use Rattle.pungi_symbol.proofs.steps.Comparisons.{way_statics}
use Rattle.pungi_symbol.proofs.steps.Questions.{IsAsked, LoadOk, StoreOk}
use Rattle.pungi_symbol.proofs.steps.Seeks.{made_spot}
use Rattle.pungi_symbol.proofs.steps.Rows.{all_there}
use Rattle.pungi_symbol.proofs.steps.AnswerTerms.{object_in, first_below, call_below, term_with_below, zero_one}
use Rattle.pungi_symbol.proofs.steps.AnswerTerms.{zero_new, compared_below, answered_terms, answered_made, token_is}
use Rattle.pungi_symbol.proofs.steps.AnswerTerms.{made_as}

pub answered_marks : (k : Known) (x : Option Var) (o : Option Term) → (go_on (put_answer x o k)).marks ≡ k.marks
answered_marks k None o = refl
answered_marks k (Some x) None = refl
answered_marks k (Some x) (Some c) = refl

module _ (s : State) (w : IsSound s) where
  abbrev T : AreTermsSound s.known.marks s.known.vars s.known.slots
  T = w.terms

  abbrev pub SoundBalances : List ℤ → Type 0
  SoundBalances bs = AreNotesSound s.statics s.known.marks s.classes bs s.others

  added : (x : Term) (d : ℤ) (bs : List ℤ) → SoundBalances bs → SoundBalances (add_term s.classes s.known x d bs)
  added x d bs h = added_sound s.statics s.known.marks s.classes bs s.others h (object_of s.known x) d
      (object_in s.known x)

  lowers : (xs : List Term) (bs : List ℤ) → SoundBalances bs → SoundBalances (lower s.classes s.known xs bs)
  lowers [] bs h = h
  lowers (x ∷ xs) bs h = lowers xs (add_term s.classes s.known x (negsuc 0) bs) (added x (negsuc 0) bs h)

  own_weighs : (own : Option OwnEffect) (ts : List Take) (xs : List Term)
      → SoundBalances (own_weigh s.classes s.known own ts xs s.balances)
  own_weighs None ts xs = lowers (taken_terms false ts xs) s.balances w.notes
  own_weighs (Some IncRef) ts xs = added (first_term xs) (pos 1) s.balances w.notes
  own_weighs (Some DecRef) ts xs = added (first_term xs) (negsuc 0) s.balances w.notes

  atom_is_below : (a : Atom) → is_there s.statics a ≡ true → IsBelow (count s.known) (term_of s.known a)
  atom_is_below a h = atom_below s.known.marks s.known.vars s.known.slots T s.known s.statics a refl w.notes.statics h

  put_sound : (x : Var) (c : Term) → IsBelow (count s.known) c
      → IsSound (record s { known = go_on (put_known x.0 c s.known) })
  put_sound x c h = record {
    terms = put_terms s.known.marks s.known.vars s.known.slots T x.0 c h;
    notes = w.notes;
    made = w.made;
  }

  one_there : (a : Atom) → list_all (is_there s.statics) (a ∷ []) ≡ true → is_there s.statics a ≡ true
  one_there a h = (all_there s.statics a [] h).0

  held_below : (f : Finding) → IsBelow (count s.known) (held_in s.known f)
  held_below (Waits q) = tt
  held_below (At i) = T.held i
  held_below OfMade = tt
  held_below Nowhere = tt

  -- a store into the slot that was found
  abbrev AfterStore : Place → Atom → Finding → State
  AfterStore place a f = record s {
    balances = add_term s.classes s.known (term_of s.known a) (negsuc 0) (add_term s.classes s.known
        (held_in s.known f) (pos 1) s.balances);
    known = go_on (store_found f (spot_of s.known place) (term_of s.known a) s.known);
  }

  stored_notes : (a : Atom) (f : Finding) → SoundBalances (add_term s.classes s.known (term_of s.known a) (negsuc 0)
      (add_term s.classes s.known (held_in s.known f) (pos 1) s.balances))
  stored_notes a f = added (term_of s.known a) (negsuc 0) _ (added (held_in s.known f) (pos 1) s.balances w.notes)

  stored_in : (a : Atom) (i : ℕ) → IsBelow (count s.known) (term_of s.known a)
      → AreTermsSound s.known.marks s.known.vars (StoredSlots s.known.slots i (term_of s.known a))
  stored_in a i h = stored_terms s.known.marks s.known.vars s.known.slots T i (term_of s.known a) h

  made_in : (a : Atom) (i : ℕ) → AreMadeSound s.known.marks s.known.made (StoredSlots s.known.slots i
      (term_of s.known a)) s.classes
  made_in a i = stored_made s.known.marks s.known.made s.known.slots s.classes w.made i (term_of s.known a)

  stored_by : (place : Place) (a : Atom) (f : Finding) → IsBelow (count s.known) (term_of s.known a)
      → (f ≡ OfMade → IsObjectSpot s.known.marks (spot_of s.known place)) → IsSound (AfterStore place a f)
  stored_by place a (Waits q) h ok =
      record { terms = T; notes = stored_notes a (Waits q); made = w.made }
  stored_by place a (At i) h ok = record { terms = stored_in a i h; notes = stored_notes a (At i); made = made_in a i }
  stored_by place a OfMade h ok =
      let note = made_slot (spot_of s.known place) (term_of s.known a) in
      record {
        terms = touched_terms s.known.marks s.known.vars s.known.slots T note h tt (ok refl);
        notes = stored_notes a OfMade;
        made = slot_made s.known.marks s.known.made s.known.slots s.classes w.made note
            (λ m t b at same. no_token t at);
      }
  stored_by place a Nowhere h ok =
      record { terms = T; notes = stored_notes a Nowhere; made = w.made }

  does_sound : (i : Instr) → list_all (is_there s.statics) (atoms_of i) ≡ true
      → IsSound (record s { balances = weigh s.classes s.known i s.balances; known = does s.known i })
  does_sound (Set x a) h = put_sound x (term_of s.known a) (atom_is_below a (one_there a h))
  does_sound (Arith x kind o a b) h = put_sound x (Number _) tt
  does_sound (Fit x kind a) h = put_sound x (Number _) tt
  does_sound (Compare x c a b) h = put_sound x (Number _) tt
  does_sound (Load x place) h = put_sound x (held_in s.known (find s.known place)) (held_below (find s.known place))
  does_sound (Store place a) h = stored_by place a (find s.known place)
      (atom_is_below a (all_there s.statics a (atoms_in place) h).0)
      (made_spot s.known T.spots w.made.objects place)
  does_sound (Api x g as') h =
      let o = answer_of_call g.answer (first_term (terms_of s.known as')) in
      record {
        terms = answered_terms s.known x o T (call_below (count s.known) g.answer
            (first_term (terms_of s.known as')) (first_below s.statics s.known as' atom_is_below h));
        notes = subst (λ ms. AreNotesSound s.statics ms s.classes (own_weigh s.classes s.known g.own g.takes
            (terms_of s.known as') s.balances) s.others) (sym (answered_marks s.known x o))
            (own_weighs g.own g.takes (terms_of s.known as'));
        made = answered_made s.known x o s.classes w.made;
      }
  does_sound (Call x f as') h = w
  does_sound (Forget x) h = put_sound x Unset tt
  does_sound (Jump to) h = record { terms = T; notes = w.notes; made = w.made }
  does_sound (Branch a this other) h = record { terms = T; notes = w.notes; made = w.made }
  does_sound (Return o) h = w
  does_sound Fall h = w

  does_line : (o : Option Line) → list_all (is_there s.statics) (atoms_of (instr_of o)) ≡ true → (d d' : Decision)
      → IsSound (apply o (Does d') d s)
  does_line None h d d' = w
  does_line (Some line) h d d' = does_sound line.instr h

  arrived_terms : (r : Mark) → AreTermsSound (s.known.marks ++ r ∷ []) s.known.vars s.known.slots
  arrived_terms r = more_terms s.known.marks s.known.vars s.known.slots T r

  last_below : (r : Mark) → count s.known < length (s.known.marks ++ r ∷ [])
  last_below r = let e = length-append s.known.marks (r ∷ []) in omega (arith, e)

  arrived_below : (r : Mark) (x : Term) → IsBelow (count s.known) x → IsBelow (length (s.known.marks ++ r ∷ [])) x
  arrived_below r x h = below_more (count s.known) (length (s.known.marks ++ r ∷ [])) x
      (let e = last_below r in omega (arith, e)) h

  new_notes : (r : Mark) (d : ℤ) (bs : List ℤ) → SoundBalances bs → ((r ≡ IsObject → ⊥) → d ≡ pos 0)
      → AreNotesSound s.statics (s.known.marks ++ r ∷ []) (s.classes ++ count s.known ∷ []) (bs ++ d ∷ []) s.others
  new_notes r d bs h z = arrived_sound s.statics s.known.marks s.classes bs s.others h r d z

  abbrev MadeAfter : Mark → List ℕ → List Touched → Type 0
  MadeAfter r made slots = AreMadeSound (s.known.marks ++ r ∷ []) made slots (s.classes ++ count s.known ∷ [])

  arrived : (r : Mark) → MadeAfter r s.known.made s.known.slots
  arrived r = arrived_made s.known.marks s.known.made s.known.slots s.classes w.made w.notes.classes_long T.at_entry r

  -- a slot is touched: what it held at entry comes in
  touched_made : (r : Mark) (spot : Spot) (held : Term)
      → MadeAfter r s.known.made (s.known.slots ++ touched_slot s.known spot held ∷ [])
  touched_made r spot held =
      slot_made (s.known.marks ++ r ∷ []) s.known.made s.known.slots (s.classes ++ count s.known ∷ []) (arrived r)
      (touched_slot s.known spot held) (λ m t a at same.
      let n = count s.known in
      let is : n ≡ t = token_is n t at in
      let last : class_of (s.classes ++ n ∷ []) n ≡ n = ap (class_of (s.classes ++ n ∷ [])) (sym w.notes.classes_long)
      ∙ get_or-append_seam s.classes n [] 0 in
      let of : class_of (s.classes ++ n ∷ []) n ≡ m = ap (class_of (s.classes ++ n ∷ [])) is ∙ same in
      let lt = w.made.below m a in
      absurd (omega (arith, last, of, lt)))

  arrive_sound : (r : Mark) (d : ℤ) (bs : List ℤ) → SoundBalances bs → ((r ≡ IsObject → ⊥) → d ≡ pos 0)
      → IsSound (record (join d bs s) { known = arrive r s.known })
  arrive_sound r d bs h z = record { terms = arrived_terms r; notes = new_notes r d bs h z; made = arrived r }

  load_sound : (i : Instr) (r : Mark) → LoadOk i s.known
      → IsSound (record (join (pos 0) s.balances s) { known = load_first i r s.known })
  load_sound (Load x place) r ok =
      let ms = s.known.marks ++ r ∷ [] in
      let vars = slice_set s.known.vars x.0 (Token (count s.known)) in
      record {
        terms = touched_terms ms vars s.known.slots (put_terms ms s.known.vars s.known.slots (arrived_terms r) x.0
            (Token (count s.known)) (last_below r)) (touched_slot s.known (spot_of s.known place)
            (Token (count s.known)))
            (last_below r) (last_below r) (spot_more s.known.marks r (spot_of s.known place) ok);
        notes = new_notes r (pos 0) s.balances w.notes (λ _. refl);
        made = touched_made r (spot_of s.known place) (Token (count s.known));
      }
  load_sound (Set x a) r ok = arrive_sound r (pos 0) s.balances w.notes (λ _. refl)
  load_sound (Arith x kind o a b) r ok = arrive_sound r (pos 0) s.balances w.notes (λ _. refl)
  load_sound (Fit x kind a) r ok = arrive_sound r (pos 0) s.balances w.notes (λ _. refl)
  load_sound (Compare x c a b) r ok = arrive_sound r (pos 0) s.balances w.notes (λ _. refl)
  load_sound (Store place a) r ok = arrive_sound r (pos 0) s.balances w.notes (λ _. refl)
  load_sound (Api x shape as') r ok = arrive_sound r (pos 0) s.balances w.notes (λ _. refl)
  load_sound (Call x f as') r ok = arrive_sound r (pos 0) s.balances w.notes (λ _. refl)
  load_sound (Forget x) r ok = arrive_sound r (pos 0) s.balances w.notes (λ _. refl)
  load_sound (Jump to) r ok = arrive_sound r (pos 0) s.balances w.notes (λ _. refl)
  load_sound (Branch a this other) r ok = arrive_sound r (pos 0) s.balances w.notes (λ _. refl)
  load_sound (Return o) r ok = arrive_sound r (pos 0) s.balances w.notes (λ _. refl)
  load_sound Fall r ok = arrive_sound r (pos 0) s.balances w.notes (λ _. refl)

  abbrev Stored : Instr → List ℤ
  Stored i = lower s.classes s.known (stored_term i s.known) s.balances

  stored_sound : (i : Instr) (r : Mark) → IsSound (record (join (owed_for r) (Stored i) s) { known = arrive r s.known })
  stored_sound i r = arrive_sound r (owed_for r) (Stored i) (lowers (stored_term i s.known) s.balances w.notes)
      (zero_one r)

  store_sound : (i : Instr) (r : Mark) → StoreOk i s.known → list_all (is_there s.statics) (atoms_of i) ≡ true
      → IsSound (record (join (owed_for r) (Stored i) s) { known = store_first i r s.known })
  store_sound (Store place a) r ok h =
      record {
        terms = touched_terms (s.known.marks ++ r ∷ []) s.known.vars s.known.slots (arrived_terms r)
            (touched_slot s.known (spot_of s.known place) (term_of s.known a))
            (arrived_below r (term_of s.known a) (atom_is_below a (all_there s.statics a (atoms_in place) h).0))
            (last_below r) (spot_more s.known.marks r (spot_of s.known place) ok);
        notes = new_notes r (owed_for r) (Stored (Store place a)) (lowers (term_of s.known a ∷ []) s.balances
            w.notes) (zero_one r);
        made = touched_made r (spot_of s.known place) (term_of s.known a);
      }
  store_sound (Set x a) r ok h = stored_sound (Set x a) r
  store_sound (Arith x kind o a b) r ok h = stored_sound (Arith x kind o a b) r
  store_sound (Fit x kind a) r ok h = stored_sound (Fit x kind a) r
  store_sound (Compare x c a b) r ok h = stored_sound (Compare x c a b) r
  store_sound (Load x place) r ok h = stored_sound (Load x place) r
  store_sound (Api x shape as') r ok h = stored_sound (Api x shape as') r
  store_sound (Call x f as') r ok h = stored_sound (Call x f as') r
  store_sound (Forget x) r ok h = stored_sound (Forget x) r
  store_sound (Jump to) r ok h = stored_sound (Jump to) r
  store_sound (Branch a this other) r ok h = stored_sound (Branch a this other) r
  store_sound (Return o) r ok h = stored_sound (Return o) r
  store_sound Fall r ok h = stored_sound Fall r

  -- which of two answers is given
  pub decided : (t u : ℕ) (d : Decision) → can_same s t u d ≡ true → d ≡ IsSame (says_same d)
  decided t u Quiet c = absurd (let bad : false ≡ true = c in cc)
  decided t u (Outcome n) c = absurd (let bad : false ≡ true = c in cc)
  decided t u (Order o) c = absurd (let bad : false ≡ true = c in cc)
  decided t u (IsSame b) c = refl

  pub same_sound : (t u : ℕ) (d : Decision) (k' : Known) → mark_of s.known t ≡ IsObject
      → mark_of s.known u ≡ IsObject → can_same s t u d ≡ true → k'.marks ≡ s.known.marks
      → k'.made ≡ s.known.made → k'.slots ≡ s.known.slots → AreTermsSound k'.marks k'.vars k'.slots
      → IsSound (record (apply_same (are_one s.classes t u) (says_same d) t u s) { known = k' })
  same_sound t u d k' mt mu c e em es terms =
      let b = says_same d in
      let way = way_is s t u b (subst (λ z. can_same s t u z ≡ true) (decided t u d c) c) in
      let s' = apply_same (are_one s.classes t u) b t u s in
      let notes = way_sound s t u b s' w mt mu (object_is_below s.known.marks t mt)
      (object_is_below s.known.marks u mu) way in
      record {
        terms = terms;
        notes = subst (λ n. AreNotesSound n k'.marks s'.classes s'.balances s'.others)
            (sym (way_statics s t u b s' way)) (subst (λ ms. AreNotesSound s.statics ms s'.classes s'.balances
            s'.others) (sym e) notes);
        made = made_as s.known.marks k'.marks s.known.made k'.made s.known.slots k'.slots s'.classes e em es
            (way_made s t u b s' w way);
      }

  -- the token of an object that a call makes is one of those of made objects
  none_more : (r : Mark) → MadeAfter r (s.known.made ++ []) s.known.slots
  none_more r = subst (λ made. MadeAfter r made s.known.slots) (sym (append-nil s.known.made)) (arrived r)

  made_one : (r : Mark) → MadeAfter r (s.known.made ++ made_by answer.Made r (count s.known)) s.known.slots
  made_one Pointer = none_more Pointer
  made_one TextPointer = none_more TextPointer
  made_one IsNull = none_more IsNull
  made_one IsObject =
      made_more s.known.marks s.known.made s.known.slots s.classes w.made w.notes.classes_long T.at_entry
      (count s.known ∷ []) w.notes.class_older (λ m a. sym (among_one (count s.known) m a))
  made_one IsText = none_more IsText
  made_one (IsNumber i) = none_more (IsNumber i)
  made_one (IsConverted i) = none_more (IsConverted i)
  made_one (Integer i) = none_more (Integer i)

  made_after : (a : Answer) (r : Mark) → MadeAfter r (s.known.made ++ made_by a r (count s.known)) s.known.slots
  made_after answer.New r = none_more r
  made_after answer.Borrowed r = none_more r
  made_after answer.BorrowedSure r = none_more r
  made_after answer.Status r = none_more r
  made_after answer.Truth r = none_more r
  made_after answer.Size r = none_more r
  made_after answer.Int r = none_more r
  made_after answer.Long r = none_more r
  made_after answer.Text r = none_more r
  made_after answer.Void r = none_more r
  made_after answer.Null r = none_more r
  made_after answer.Found r = none_more r
  made_after (answer.Converted failures least most) r = none_more r
  made_after answer.AnySize r = none_more r
  made_after answer.Flag r = none_more r
  made_after answer.TextSure r = none_more r
  made_after answer.Made r = made_one r

  answers_sound : (i : Instr) (a : Answer) (r : Mark)
      → IsSound (record (take_answer i a r s) {
        known = go_on (put_answer (call_var i)
            (Some (term_with r (count s.known))) (arrive_answer a r s.known));
      })
  answers_sound i a r =
      let o = Some (term_with r (count s.known)) in
      let bs = lower s.classes s.known (terms_taken_by (is_success a (Some (value_of_mark r))) i s.known) s.balances in
      record {
        terms = answered_terms (arrive_answer a r s.known) (call_var i) o (arrived_terms r)
            (let e = length-append s.known.marks (r ∷ []) in subst (λ n. IsBelow n (term_with r (count s.known)))
            (sym e) (term_with_below r (count s.known)));
        notes = subst (λ ms. AreNotesSound s.statics ms (s.classes ++ count s.known ∷ [])
            (bs ++ owed_for_answer a r ∷ []) s.others) (sym (answered_marks (arrive_answer a r s.known) (call_var i) o))
            (new_notes r (owed_for_answer a r) bs (lowers (terms_taken_by (is_success a (Some (value_of_mark r))) i
            s.known) s.balances w.notes) (zero_new a r));
        made = answered_made (arrive_answer a r s.known) (call_var i) o (s.classes ++ count s.known ∷ [])
            (made_after a r);
      }

  -- a comparison or a branch of two numbers; the result of an operator
  abbrev TermsOf : Known → Type 0
  TermsOf k = AreTermsSound k.marks k.vars k.slots

  abbrev NotesOf : Known → Type 0
  NotesOf k = AreNotesSound s.statics k.marks s.classes s.balances s.others

  abbrev MadeOf : Known → Type 0
  MadeOf k = AreMadeSound k.marks k.made k.slots s.classes

  compared_sound : (p : Pos) (a b : SumOf) → TermsOf (with_comparison p a b s.known) × NotesOf (with_comparison p a b
      s.known) × MadeOf (with_comparison p a b s.known)
  compared_sound p a b = by (is_computed a.node || is_computed b.node)
    where
      by : (t : Bool) → TermsOf (cond t (record s.known { places = with_compared s.known.places p }) s.known)
          × NotesOf (cond t (record s.known { places = with_compared s.known.places p }) s.known)
          × MadeOf (cond t (record s.known { places = with_compared s.known.places p }) s.known)
      by true = (T, w.notes, w.made)
      by false = (T, w.notes, w.made)

  ordered_sound : (i : Instr) (o : Ordering) (ls : List Limit) (k : Known) → TermsOf k → NotesOf k → MadeOf k
      → IsSound (record (limited ls s) { known = ordered i o k })
  ordered_sound (Compare x c a b) o ls k t n h = record {
    terms = put_terms k.marks k.vars k.slots t x.0 (truth_term (holds_order c o)) tt;
    notes = n;
    made = h;
  }
  ordered_sound (Branch a this other) o ls k t n h = record { terms = t; notes = n; made = h }
  ordered_sound (Set x a) o ls k t n h = record { terms = t; notes = n; made = h }
  ordered_sound (Arith x kind p a b) o ls k t n h = record { terms = t; notes = n; made = h }
  ordered_sound (Fit x kind a) o ls k t n h = record { terms = t; notes = n; made = h }
  ordered_sound (Load x place) o ls k t n h = record { terms = t; notes = n; made = h }
  ordered_sound (Store place a) o ls k t n h = record { terms = t; notes = n; made = h }
  ordered_sound (Api x shape as') o ls k t n h = record { terms = t; notes = n; made = h }
  ordered_sound (Call x f as') o ls k t n h = record { terms = t; notes = n; made = h }
  ordered_sound (Forget x) o ls k t n h = record { terms = t; notes = n; made = h }
  ordered_sound (Jump to) o ls k t n h = record { terms = t; notes = n; made = h }
  ordered_sound (Return a) o ls k t n h = record { terms = t; notes = n; made = h }
  ordered_sound Fall o ls k t n h = record { terms = t; notes = n; made = h }

  computed_sound : (i : Instr) (a : SumOf) (ls : List Limit) (k : Known) → TermsOf k → NotesOf k → MadeOf k
      → IsSound (record (limited ls s) { known = computed i a k })
  computed_sound (Arith x kind p b c) a ls k t n h = record {
    terms = put_terms k.marks k.vars k.slots t x.0 (Sum a) tt;
    notes = n;
    made = h;
  }
  computed_sound (Fit x kind b) a ls k t n h = record {
    terms = put_terms k.marks k.vars k.slots t x.0 (Sum a) tt;
    notes = n;
    made = h;
  }
  computed_sound (Compare x c b d) a ls k t n h = record { terms = t; notes = n; made = h }
  computed_sound (Branch b this other) a ls k t n h = record { terms = t; notes = n; made = h }
  computed_sound (Set x b) a ls k t n h = record { terms = t; notes = n; made = h }
  computed_sound (Load x place) a ls k t n h = record { terms = t; notes = n; made = h }
  computed_sound (Store place b) a ls k t n h = record { terms = t; notes = n; made = h }
  computed_sound (Api x shape as') a ls k t n h = record { terms = t; notes = n; made = h }
  computed_sound (Call x f as') a ls k t n h = record { terms = t; notes = n; made = h }
  computed_sound (Forget x) a ls k t n h = record { terms = t; notes = n; made = h }
  computed_sound (Jump to) a ls k t n h = record { terms = t; notes = n; made = h }
  computed_sound (Return b) a ls k t n h = record { terms = t; notes = n; made = h }
  computed_sound Fall a ls k t n h = record { terms = t; notes = n; made = h }

  ranged_sound : (i : Instr) (a : SumOf) (ls : List Limit) (p : Pos) (b : Bool) (k : Known) → TermsOf k → NotesOf k
      → MadeOf k → IsSound (record (limited ls s) {
        known = cond b (computed i a k) (record k { status = status.Stopped p });
      })
  ranged_sound i a ls p true k t n h = computed_sound i a ls k t n h
  ranged_sound i a ls p false k t n h = record { terms = t; notes = n; made = h }

  turned_sound : (o : Option Pos) → IsSound (record s { known = turned o s.known })
  turned_sound None = record { terms = T; notes = w.notes; made = w.made }
  turned_sound (Some p) = record { terms = T; notes = w.notes; made = w.made }

  pub apply_sound : (o : Option Line) (q : Question) (d : Decision)
      → list_all (is_there s.statics) (atoms_of (instr_of o)) ≡ true → IsAsked (instr_of o) s.known q
      → can s q d ≡ true → IsSound (apply o q d s)
  apply_sound o (Does d') d h a c = does_line o h d d'
  apply_sound o (Touches r) d h a c = load_sound (instr_of o) r a.0
  apply_sound o (Overwrites r) d h a c = store_sound (instr_of o) (mark_at (outcomes_of_mark r)
      (number_of_outcome d)) a.0 h
  apply_sound o (AsksNull t) d h a c =
      let r = mark_at (outcomes_of_mark (mark_of s.known t)) (number_of_outcome d) in
      record {
        terms = null_terms s.known.marks s.known.vars s.known.slots T t r a;
        notes = null_sound s.statics s.known.marks s.classes s.balances s.others w.notes t r
            (open_below s.known.marks t a) a;
        made = null_made s.known.marks s.known.made s.known.slots s.classes w.made t r a;
      }
  apply_sound o (Base t u j) d h a c = same_sound t u d _ a.0 a.1 c refl refl refl T
  apply_sound o (Answers x) d h a c = answers_sound (instr_of o) x (mark_at (outcomes_of_answer x)
      (number_of_outcome d))
  apply_sound o (Same t u) d h a c = same_sound t u d _ a.0 a.1 c refl refl refl (put_terms s.known.marks s.known.vars
      s.known.slots T (comparison_var (instr_of o)) (comparison_term (says_same d) (instr_of o))
      (compared_below (count s.known) (says_same d) (instr_of o)))
  apply_sound o (Orders x y) d h a c =
      let k = with_comparison (place_of_line o) x y s.known in
      let g = compared_sound (place_of_line o) x y in
      ordered_sound (instr_of o) (says_order d) (order_limits x y (says_order d)) k g.0 g.1 g.2
  apply_sound o (Range kind x) d h a c = ranged_sound (instr_of o) x (range_limits kind x (number_of_outcome d))
      (place_of_line o) (number_of_outcome d == 1) s.known T w.notes w.made
  apply_sound o (Computes kind p x y) d h a c =
      let k = with_computation (place_of_line o) (record { kind = kind; op = p; a = x; b = y }) s.known in
      let next = next_computed s.known in
      ranged_sound (instr_of o) next (range_limits kind next (number_of_outcome d)) (place_of_line o)
      (number_of_outcome d == 1) k T w.notes w.made
  apply_sound o Unplain d h a c = record { terms = T; notes = w.notes; made = w.made }
  apply_sound o Turn d h a c = turned_sound (blocked_at s.known.turns s.known.pc)
  apply_sound o (Returns x) d h a c = record { terms = T; notes = w.notes; made = w.made }
  apply_sound o (Stops d') d h a c = record { terms = T; notes = w.notes; made = w.made }
  apply_sound o Over d h a c = w
