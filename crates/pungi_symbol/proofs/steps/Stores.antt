-- A store: a run and a state do the same.
use Rattle.std.proofs.Common.{◌≡◌, ℕ, ◌+◌, ◌<◌, ℤ, pos, negsuc, ◌+ℤ◌, List, [], ◌∷◌, ◌++◌, length, map, true}
use Rattle.std.proofs.Common.{false, refl, sym, ap, ◌∙◌, subst, arith, ◌⊎◌, inl, inr, None, Some}
use Rattle.std.specs.Prelude.{slice_set}
use Rattle.pungi_base.specs.declared.choice.Choice.{Choice}
use Rattle.pungi_base.specs.declared.pos.Pos.{Pos}
use Rattle.pungi_base.specs.declared.value.Value.{Value}
use Rattle.pungi_world.specs.declared.content.Content.TheVariants as content
use Rattle.pungi_code.specs.declared.atom.Atom.{Atom}
use Rattle.pungi_code.specs.declared.code.Line.{Line}
use Rattle.pungi_code.specs.Registers.{Regs}
use Rattle.pungi_symbol.specs.declared.answers.decision.Decision.TheVariants.{Quiet}
use Rattle.pungi_symbol.specs.declared.states.known.Status.TheVariants as status
use Rattle.pungi_symbol.specs.declared.states.mark.Mark.{Mark}
use Rattle.pungi_symbol.specs.declared.questions.question.Question.TheVariants.{Does, Overwrites}
use Rattle.pungi_symbol.specs.declared.states.state.State.{State}
use Rattle.pungi_symbol.specs.declared.states.term.Term.{Term}
use Rattle.pungi_symbol.specs.declared.states.term.Term.TheVariants.{Unset, Token}
use Rattle.pungi_symbol.specs.states.Terms.{Table, at, content_of, is_mark}
use Rattle.pungi_symbol.specs.runs.Fits.{IsBelow, IsSound}
use Rattle.pungi_code.specs.WellFormed.{is_slot_kind, is_there}
use Rattle.pungi_symbol.specs.runs.RunInState.{Lies}
use Rattle.std.specs.Prelude.{replicate, Result as Res, Ok}
use Rattle.std.specs.List.{list_all}
use Rattle.std.proofs.Common.{length-append}
use Rattle.std.proofs.Math.Seq.{set-append_seam}
use Rattle.std.proofs.lemmas.List.Quantifiers.{position-Some}
use Rattle.std.proofs.lemmas.List.{map-append, map-set}
use Rattle.std.proofs.lemmas.Int.{ints}
use Rattle.pungi_api.specs.declared.param.Param.{Param}
use Rattle.pungi_symbol.specs.states.Terms.{outcomes_of_mark, place_of, mark_at}
use Rattle.pungi_world.specs.declared.effect.Effect.{Effect}
use Rattle.pungi_world.specs.declared.halt.Halt.{Halt}
use Rattle.pungi_world.specs.declared.slot.Slot.{Slot}
use Rattle.pungi_world.specs.declared.slot.SlotState.{SlotState}
use Rattle.pungi_world.specs.declared.touch.Touch.{Touch}
use Rattle.pungi_world.specs.declared.world.World.{World}
use Rattle.pungi_world.specs.Choices.{value_of}
use Rattle.pungi_world.specs.Counts.{with_value}
use Rattle.pungi_world.specs.Effects.{◌>>=◌, effect}
use Rattle.pungi_world.specs.Escapes.{holds_object}
use Rattle.pungi_world.specs.Slots.{is_fresh, is_same, no_slot as no_state, with_slot, touch, touch_at, store_effect}
use Rattle.pungi_world.specs.Slots.{put_at as world_stored, place_of as slot_place}
use Rattle.pungi_code.specs.declared.instr.Instr.TheVariants.{Store}
use Rattle.pungi_code.specs.declared.place.Place.{Place}
use Rattle.pungi_code.specs.Perform.{slot_of}
use Rattle.pungi_code.specs.Registers.{choices_left}
use Rattle.pungi_code.specs.WellFormed.{place_kind}
use Rattle.pungi_symbol.specs.declared.states.spot.Touched.{Touched}
use Rattle.pungi_symbol.specs.declared.questions.found_slot.Finding.{Finding}
use Rattle.pungi_symbol.specs.declared.questions.found_slot.Finding.TheVariants.{At, OfMade}
use Rattle.pungi_symbol.specs.states.Known.{count, term_of, find, held_in, slot_note, spot_of}
use Rattle.pungi_symbol.specs.answers.KnownAfter.{go_on, made_slot, store_found}
use Rattle.pungi_symbol.specs.questions.NextQuestion.{asks_store, asks_dropped, asks_known, content_mark}
use Rattle.pungi_symbol.specs.answers.SymbolicState.{lower, add_term, owed_for}
use Rattle.pungi_code.specs.WellFormed.{atoms_in}
use Rattle.pungi_symbol.specs.runs.Fits.{named, is_the}
use Rattle.pungi_symbol.specs.runs.RunInState.{slot_in, state_in, IsOf}
use Rattle.pungi_symbol.specs.runs.OneInstruction.{Led, on_slot, on_effect, goes, leads}
use Rattle.pungi_symbol.proofs.states.Contents.{unset, asks, passes, knowing_is, known_set, IsKnown, is_open}
use Rattle.pungi_symbol.proofs.states.Contents.{term_value, holds_term}
use Rattle.pungi_symbol.proofs.states.NamedObjects.{part, named_end}
use Rattle.pungi_symbol.proofs.states.Claims.{at_term, at_terms, add_to_long, lowered_long}
use Rattle.pungi_symbol.proofs.steps.PlainInstructions.{unset_led, set_led}
use Rattle.pungi_symbol.proofs.steps.Loads.{slot_is, arrive_lies, new_slots, new_slot, unset_slot, next_value}
use Rattle.pungi_symbol.proofs.steps.Loads.{never_made}
use Rattle.pungi_symbol.proofs.answers.Made.{no_token, slot_new, stored_new}
use Rattle.pungi_symbol.proofs.states.Owed.{owed_slot, owed_stored}
use Rattle.pungi_symbol.proofs.steps.Worlds.{there, missing, found_is, touch_missing, touch_there, content_good}
use Rattle.pungi_symbol.proofs.steps.Worlds.{value_owed, value_more, value_there, value_made, head_drop}
use Rattle.pungi_symbol.proofs.steps.Worlds.{touch_fresh}
use Rattle.pungi_symbol.proofs.steps.ChoicesForAnswers.{not_missing}
use Rattle.pungi_world.specs.Slots.{find_content}
use Rattle.pungi_symbol.proofs.steps.RunInState.{Moved, goes_on, as_many, Result, Linked, IsLine, below_is, led_is}
use Rattle.pungi_symbol.proofs.steps.RunInState.{effort}
use Rattle.pungi_symbol.proofs.steps.RunInState.{null_result, null_outcome, outcome_closed, stops_result, walked_anew}
use Rattle.pungi_symbol.proofs.states.Terms.{open_below}
use Rattle.pungi_symbol.proofs.steps.SlotSearch.{sought, walked_is, Sought, seeks_stop, seeks_null, seeks_base}
use Rattle.pungi_symbol.proofs.steps.SlotSearch.{seeks_at, seeks_made, seeks_new, base_result}
use Rattle.pungi_symbol.proofs.steps.Dropped.{drop_asks, drop_known, drop_unset, dropping_is, one_part}
use Rattle.pungi_symbol.proofs.steps.Dropped.{content_answers}

module _ (choices : List Choice) (code : List Line) (table : Table) (base : ℕ) (m : Regs) (s : State)
    (going : s.known.status ≡ status.Going) (w : IsSound s) (l : Lies code table base m s) (p : Pos) where
  abbrev StoreGo : Res (Effect × World) Halt → Led
  StoreGo r = on_effect p r m (λ e r'. goes (s.known.pc + 1) r')

  abbrev StoreOn : Value → Slot → Param → Led
  StoreOn v z kind = StoreGo (store_effect m.world z kind v (choices_left choices m))

  abbrev Va : Atom → Value
  Va a = term_value table (term_of s.known a)

  store_led : (place : Place) (a : Atom) → is_there s.statics a ≡ true → (term_of s.known a ≡ Unset → ⊥)
      → leads choices (Store place a) p s.known.pc m ≡ on_slot (slot_of place m.vars) p m (StoreOn (Va a))
  store_led place a h ne = set_led choices code table base m s going w l p a _ h ne

  abbrev Stores : Value → Touch × World → Res (Effect × World) Halt
  Stores v t = Ok (effect None t.0.used, world_stored t.1 t.0.place v)

  store_at : (place : Place) (a : Atom) (z : Slot) (i : ℕ) → is_there s.statics a ≡ true
      → (term_of s.known a ≡ Unset → ⊥) → slot_of place m.vars ≡ Some (z, place_kind place)
      → slot_place m.world.slots z ≡ Some i
      → leads choices (Store place a) p s.known.pc m ≡ goes (s.known.pc + 1)
      (record m { world = world_stored m.world i (Va a); used = m.used ++ replicate 0 p })
  store_at place a z i h ne f g = store_led place a h ne ∙ ap (λ o. on_slot o p m (StoreOn (Va a))) f
      ∙ ap (λ r. StoreGo (r >>= Stores (Va a))) (ap (touch_at m.world z (place_kind place) (choices_left choices m))
      g)

  -- a number at what a slot held
  at_drop : (o : ℕ) (x : Term) (d : ℤ) (balances : List ℤ) → IsKnown s.known x ⊎ (x ≡ Unset)
      → IsBelow (count s.known) x → length balances ≡ count s.known
      → named o table.values (add_term s.classes s.known x d balances)
      ≡ named o table.values balances +ℤ part (holds_object (content_of table x) o) d
  at_drop o x d balances (inl k) b long = at_term table s l.fits w o x d balances k b long
      ∙ ap (λ c. named o table.values balances +ℤ part (holds_object c o) d) (sym (holds_term table x
      (known_set s.known x k)))
  at_drop o x d balances (inr u) b long = ap (λ y. named o table.values (add_term s.classes s.known y d balances)) u
      ∙ (omega (arith, ints)) ∙ ap (λ y. named o table.values balances +ℤ part (holds_object (content_of table y) o) d)
      (sym u)

  slots_stored : (i : ℕ) (a : Atom) → (term_of s.known a ≡ Unset → ⊥)
      → (world_stored m.world i (Va a)).slots ≡ map (state_in table) (slice_set s.known.slots i
      (record (slot_note s.known.slots i) { held = term_of s.known a }))
  slots_stored i a ne =
      ap (λ y. slice_set m.world.slots i (record y { held = content.Holds (Va a) }))
      (slot_is choices code table base m s going w l p i)
      ∙ ap (λ c. slice_set m.world.slots i (record (state_in table (slot_note s.known.slots i)) { held = c }))
      (sym (holds_term table (term_of s.known a) ne))
      ∙ ap (λ y. slice_set y i (state_in table (record (slot_note s.known.slots i) { held = term_of s.known a })))
      l.slots
      ∙ sym (map-set (state_in table) s.known.slots i (record (slot_note s.known.slots i) { held = term_of s.known a }))

  -- the state after a store into the slot that was found
  abbrev After : Place → Atom → Finding → State
  After place a f = record s {
    balances = add_term s.classes s.known (term_of s.known a) (negsuc 0) (add_term s.classes s.known
        (held_in s.known f) (pos 1) s.balances);
    known = go_on (store_found f (spot_of s.known place) (term_of s.known a) s.known);
  }

  abbrev GoesTo : State → Type 0
  GoesTo s' = Moved choices code table base s.known.pc s.known.turns (effort s.known) m s'

  at_known : (place : Place) (a : Atom) (z : Slot) (j : ℕ) → is_there s.statics a ≡ true
      → IsKnown s.known (term_of s.known a) → IsLine choices code table base m s going w l p (Store place a)
      → find s.known place ≡ At j → slot_of place m.vars ≡ Some (z, place_kind place)
      → slot_place m.world.slots z ≡ Some j
      → IsKnown s.known (slot_note s.known.slots j).held ⊎ ((slot_note s.known.slots j).held ≡ Unset)
      → Result choices code table base m s going w l p (Store place a) (Does Quiet)
  at_known place a z j h ka is e f g kh =
      let ne = known_set s.known (term_of s.known a) ka in
      let within : j < length m.world.slots = (position-Some (λ y. is_same y.slot z) m.world.slots j no_state g).0 in
      let old = add_term s.classes s.known (slot_note s.known.slots j).held (pos 1) s.balances in
      let m' : Regs = record m { world = world_stored m.world j (Va a); used = m.used ++ replicate 0 p } in
      inr (
        refl,
        subst (λ y. GoesTo (After place a y)) (sym e) (goes_on m' (as_many m)
            (led_is choices code table base m s going w l p (Store place a) is ∙ store_at place a z j h ne f g) going
            refl (record {
              fits = record {
                notes = l.fits.notes;
                limits = l.fits.limits;
                new = stored_new table s.known.made s.known.slots j (term_of s.known a) l.fits.new;
              };
              vars = l.vars;
              slots = slots_stored j a ne;
              used = let x = length-append m.used (replicate 0 p) in let y = l.used in omega (arith, x, y);
              claims = λ o.
                  let first = at_drop o (slot_note s.known.slots j).held (pos 1) s.balances kh (w.terms.held j)
                  w.notes.balances_long in
                  let long : length old ≡ count s.known = add_to_long table s l.fits w _ (pos 1) s.balances
                  ∙ w.notes.balances_long in
                  let second = at_term table s l.fits w o (term_of s.known a) (negsuc 0) old ka
                  (below_is choices code table base m s going w l p a h) long in
                  let is_now = owed_stored m.world j (Va a) o within in
                  let held = ap (λ y. part (holds_object y.held o) (pos 1)) (slot_is choices code table base m s going w
                  l p j) in
                  let was = l.claims o in
                  omega (arith, ints, first, second, is_now, held, was);
              below = λ t lt. l.below t lt;
              made = l.made;
              walked = walked_anew table _ m'.world.slots _;
            })),
      )

  -- a slot of an object that was made, at its first touch
  abbrev Unset1 : Slot → World
  Unset1 z = with_slot m.world z content.Unset

  abbrev Empty1 : Slot → SlotState
  Empty1 z = record { slot = z; at_entry = content.Unset; held = content.Unset }

  made_slots : (z : Slot) (y : Value) → (world_stored (Unset1 z) (length m.world.slots) y).slots
      ≡ m.world.slots ++ (record { slot = z; at_entry = content.Unset; held = content.Holds y }) ∷ []
  made_slots z y =
      ap (λ x. slice_set (Unset1 z).slots (length m.world.slots) (record x { held = content.Holds y }))
      (unset_slot choices code table base m s going w l p z)
      ∙ set-append_seam m.world.slots (Empty1 z) [] (record {
        slot = z;
        at_entry = content.Unset;
        held = content.Holds y;
      })

  made_result : (place : Place) (a : Atom) (z : Slot) → is_there s.statics a ≡ true
      → IsKnown s.known (term_of s.known a) → IsLine choices code table base m s going w l p (Store place a)
      → find s.known place ≡ OfMade → slot_of place m.vars ≡ Some (z, place_kind place)
      → slot_place m.world.slots z ≡ None → is_fresh m.world z ≡ true → z ≡ slot_in table (spot_of s.known place)
      → Result choices code table base m s going w l p (Store place a) (Does Quiet)
  made_result place a z h ka is e f g fr zs =
      let ne = known_set s.known (term_of s.known a) ka in
      let w' = world_stored (Unset1 z) (length m.world.slots) (Va a) in
      let m' : Regs = record m { world = w'; used = m.used ++ replicate 0 p } in
      let note = made_slot (spot_of s.known place) (term_of s.known a) in
      let same_state : (record { slot = z; at_entry = content.Unset; held = content.Holds (Va a) })
      ≡ state_in table note =
      ap (λ y. record { slot = y; at_entry = content.Unset; held = content.Holds (Va a) }) zs
      ∙ ap (λ y. record { slot = slot_in table (spot_of s.known place); at_entry = content.Unset; held = y })
      (sym (holds_term table (term_of s.known a) ne)) in
      inr (
        refl,
        subst (λ y. GoesTo (After place a y)) (sym e) (goes_on m' (as_many m)
            (led_is choices code table base m s going w l p (Store place a) is ∙ store_led place a h ne
            ∙ ap (λ o. on_slot o p m (StoreOn (Va a))) f
            ∙ ap (λ r. StoreGo (r >>= Stores (Va a)))
            (touch_fresh m.world z (place_kind place) (choices_left choices m) fr g)) going refl (record {
              fits = record {
                notes = l.fits.notes;
                limits = l.fits.limits;
                new = slot_new table s.known.made s.known.slots note (λ i t b at q. no_token t at) l.fits.new;
              };
              vars = l.vars;
              slots = made_slots z (Va a) ∙ ap (λ y. m.world.slots ++ y ∷ []) same_state
                  ∙ ap (λ y. y ++ state_in table note ∷ []) l.slots
                  ∙ sym (map-append (state_in table) s.known.slots (note ∷ []));
              used = let x = length-append m.used (replicate 0 p) in let y = l.used in omega (arith, x, y);
              claims = λ o.
                  let second = at_term table s l.fits w o (term_of s.known a) (negsuc 0) s.balances ka
                  (below_is choices code table base m s going w l p a h) w.notes.balances_long in
                  let within : length m.world.slots < length (Unset1 z).slots = let y = length-append m.world.slots
                  (Empty1 z ∷ []) in omega (arith, y) in
                  let is_now = owed_stored (Unset1 z) (length m.world.slots) (Va a) o within in
                  let held = ap (λ y. part (holds_object y.held o) (pos 1))
                  (unset_slot choices code table base m s going w l p z) in
                  let before = owed_slot m.world z content.Unset o ∙ l.claims o in
                  omega (arith, ints, second, is_now, held, before);
              below = λ t lt. l.below t lt;
              made = l.made;
              walked = walked_anew table _ m'.world.slots _;
            })),
      )

  at_result : (place : Place) (a : Atom) (z : Slot) (i : ℕ) → is_there s.statics a ≡ true
      → IsKnown s.known (term_of s.known a) → IsLine choices code table base m s going w l p (Store place a)
      → find s.known place ≡ At i → slot_of place m.vars ≡ Some (z, place_kind place)
      → slot_place m.world.slots z ≡ Some i
      → Result choices code table base m s going w l p (Store place a) (asks_dropped s.known
      (slot_note s.known.slots i).held)
  at_result place a z i h ka is e f g = elim (dropping_is s.known (slot_note s.known.slots i).held) [
    | drop_asks t q o ↦ subst (Result choices code table base m s going w l p (Store place a)) (sym q)
        (null_result choices code table base m s going w l p (Store place a) t (open_below s.known.marks t o) o)
    | drop_known q k ↦ subst (Result choices code table base m s going w l p (Store place a)) (sym q)
        (at_known place a z i h ka is e f g (inl k))
    | drop_unset q u ↦ subst (Result choices code table base m s going w l p (Store place a)) (sym q)
        (at_known place a z i h ka is e f g (inr u))
  ]

  abbrev Touched1 : Slot → Value → World
  Touched1 z v = with_slot (with_value m.world v) z (content.Holds v)

  abbrev New1 : Slot → Value → SlotState
  New1 z v = record { slot = z; at_entry = content.Holds v; held = content.Holds v }

  abbrev Stored1 : Slot → Value → Value → World
  Stored1 z v y = world_stored (Touched1 z v) (length m.world.slots) y

  stored_slots : (z : Slot) (v y : Value) → (Stored1 z v y).slots
      ≡ m.world.slots ++ (record { slot = z; at_entry = content.Holds v; held = content.Holds y }) ∷ []
  stored_slots z v y =
      ap (λ x. slice_set (Touched1 z v).slots (length m.world.slots) (record x { held = content.Holds y }))
      (new_slot choices code table base m s going w l p z v)
      ∙ ap (λ x. slice_set x (length m.world.slots) (record {
        slot = z;
        at_entry = content.Holds v;
        held
            = content.Holds y;
      })) (new_slots choices code table base m s going w l p z v)
      ∙ set-append_seam m.world.slots (New1 z v) [] (record {
        slot = z;
        at_entry = content.Holds v;
        held
            = content.Holds y;
      })

  store_new : (place : Place) (a : Atom) (z : Slot) (v : Value) → is_there s.statics a ≡ true
      → (term_of s.known a ≡ Unset → ⊥) → slot_of place m.vars ≡ Some (z, place_kind place)
      → touch m.world z (place_kind place) (choices_left choices m)
      ≡ Ok (record { place = length m.world.slots; used = 1 }, Touched1 z v)
      → leads choices (Store place a) p s.known.pc m ≡ goes (s.known.pc + 1)
      (record m { world = Stored1 z v (Va a); used = m.used ++ replicate 1 p })
  store_new place a z v h ne f t = store_led place a h ne ∙ ap (λ o. on_slot o p m (StoreOn (Va a))) f
      ∙ ap (λ r. StoreGo (r >>= Stores (Va a))) t

  overwrite_result : (place : Place) (a : Atom) (z : Slot) → Linked table base choices
      → is_slot_kind (place_kind place) ≡ true → is_there s.statics a ≡ true → IsKnown s.known (term_of s.known a)
      → IsLine choices code table base m s going w l p (Store place a)
      → slot_of place m.vars ≡ Some (z, place_kind place)
      → slot_place m.world.slots z ≡ None → is_fresh m.world z ≡ false → z ≡ slot_in table (spot_of s.known place)
      → Result choices code table base m s going w l p (Store place a) (Overwrites
      (content_mark (place_kind place)))
  overwrite_result place a z linked kind h ka is f g un zs =
      let ne = known_set s.known (term_of s.known a) ka in
      elim (found_is m.world (place_kind place) (choices_left choices m)) [
        | missing e ↦ inl (
          m,
          led_is choices code table base m s going w l p (Store place a) is ∙ store_led place a h ne
              ∙ ap (λ o. on_slot o p m (StoreOn (Va a))) f ∙ ap (λ r. StoreGo (r >>= Stores (Va a)))
              (touch_missing m.world z (place_kind place) (choices_left choices m) un g e),
          λ c at h.
              let d = head_drop choices (length m.used) c at in
              not_missing m.world (place_kind place) c d.0 kind h (ap (find_content m.world
              (place_kind place)) (sym d.1) ∙ e),
        )
        | there c rest e ok e' ↦
            let v = value_of c in
            let n = count s.known in
            let big = content_mark (place_kind place) in
            let vn : at table n ≡ v = next_value choices code table base m s going w l p c rest linked e in
            let good = content_good m.world (place_kind place) c kind ok in
            let marked : is_mark big (at table n) ≡ true = ap (is_mark big) vn ∙ good.0 in
            let out = null_outcome big (at table n) (content_answers (place_kind place)) marked in
            let r = mark_at (outcomes_of_mark big) (place_of (outcomes_of_mark big) (at table n)) in
            let shut : is_open r ≡ false = outcome_closed big (place_of (outcomes_of_mark big) (at table n)) in
            let w' = Stored1 z v (Va a) in
            let m' : Regs = record m { world = w'; used = m.used ++ replicate 1 p } in
            let note : Touched = record {
              spot = spot_of s.known place;
              at_entry = Token n;
              held = term_of s.known a;
            } in
            let same_state : (record { slot = z; at_entry = content.Holds v; held = content.Holds (Va a) })
            ≡ state_in table note =
            ap (λ y. record { slot = y; at_entry = content.Holds v; held = content.Holds (Va a) }) zs
            ∙ ap (λ y. record {
              slot = slot_in table (spot_of s.known place);
              at_entry = content.Holds y;
              held
                  = content.Holds (Va a);
            }) (sym vn)
            ∙ ap (λ y. record {
              slot = slot_in table (spot_of s.known place);
              at_entry = content.Holds (at table n);
              held = y;
            }) (sym (holds_term table (term_of s.known a) ne)) in
            let bs = lower s.classes s.known (term_of s.known a ∷ []) s.balances in
            inr (
              out.0,
              goes_on m' (value_more m.world v) (led_is choices code table base m s going w l p (Store place a) is
                  ∙ store_new place a z v h ne f (touch_there m.world z (place_kind place) (choices_left choices m) v
                  un g e')) going refl
                  (arrive_lies choices code table base m s going w l p m' (s.known.pc + 1) s.known.vars
                  (s.known.slots ++ note ∷ []) s.known.made r (owed_for r) bs
                  (length-append m.used (replicate 1 p)) out.1 (subst (IsOf (length (with_value m.world
                  v).accounts)) (sym vn) (value_there m.world v good.1)) (value_more m.world v)
                  (λ o. value_made m.world v o ∙ l.made o)
                  (slot_new table s.known.made s.known.slots note (never_made choices code table base m s going w l p
                  n v vn good.2) l.fits.new) l.vars
                  (stored_slots z v (Va a) ∙ ap (λ y. m.world.slots ++ y ∷ []) same_state
                  ∙ ap (λ y. y ++ state_in table note ∷ []) l.slots ∙ sym (map-append (state_in table)
                  s.known.slots (note ∷ [])))
                  (λ o.
                  let long : length bs ≡ count s.known = lowered_long table s l.fits w (term_of s.known a ∷ [])
                  s.balances ∙ w.notes.balances_long in
                  let ends = named_end o table.values bs (owed_for r) in
                  let last : part (is_the o (at table (length bs))) (owed_for r)
                  ≡ part (is_the o v) (pos 1) = ap (λ y. part (is_the o (at table y)) (owed_for r)) long
                  ∙ one_part o r (at table n) out.1 shut ∙ ap (λ y. part (is_the o y) (pos 1)) vn in
                  let lows = at_terms table s l.fits w o (term_of s.known a ∷ []) s.balances
                  (ka, below_is choices code table base m s going w l p a h, tt) w.notes.balances_long in
                  let within : length m.world.slots < length (Touched1 z v).slots = let x = ap length
                  (new_slots choices code table base m s going w l p z v) in let y = length-append m.world.slots
                  (New1 z v ∷ []) in omega (arith, x, y) in
                  let is_now = owed_stored (Touched1 z v) (length m.world.slots) (Va a) o within in
                  let held = ap (λ y. part (holds_object y.held o) (pos 1)) (new_slot choices code table base m s
                  going w l p z v) in
                  let before = owed_slot (with_value m.world v) z (content.Holds v) o ∙ value_owed m.world v o
                  ∙ l.claims o in
                  omega (arith, ints, ends, last, lows, is_now, held, before))),
            )
      ]

  abbrev Wm : Place → Mark
  Wm place = content_mark (place_kind place)

  store_by : (place : Place) (a : Atom) → Linked table base choices → is_slot_kind (place_kind place) ≡ true
      → is_there s.statics a ≡ true → IsKnown s.known (term_of s.known a)
      → IsLine choices code table base m s going w l p (Store place a)
      → Sought choices code table base m s going w l p place
      → Result choices code table base m s going w l p (Store place a) (asks_store s.known (Wm place)
      (find s.known place))
  store_by place a linked kind h ka is (seeks_stop e f) = subst (Result choices code table base m s going w l p
      (Store place a)) (sym (ap (asks_store s.known (Wm place)) e)) (stops_result choices code table base m s going w
      l p (Store place a) Quiet is (store_led place a h (known_set s.known (term_of s.known a) ka)
      ∙ ap (λ o. on_slot o p m (StoreOn (Va a))) f))
  store_by place a linked kind h ka is (seeks_null t e o) = subst (Result choices code table base m s going w l p
      (Store place a)) (sym (ap (asks_store s.known (Wm place)) e)) (null_result choices code table base m s going w l
      p (Store place a) t (open_below s.known.marks t o) o)
  store_by place a linked kind h ka is (seeks_base t u j z e mt mu f hit other before) = subst
      (Result choices code table base m s going w l p (Store place a)) (sym (ap (asks_store s.known (Wm place)) e))
      (base_result choices code table base m s going w l p (Store place a) place t u j z is refl mt mu f hit other
      before)
  store_by place a linked kind h ka is (seeks_at i z e f g) = subst (Result choices code table base m s going w l p
      (Store place a)) (sym (ap (asks_store s.known (Wm place)) e)) (at_result place a z i h ka is e f g)
  store_by place a linked kind h ka is (seeks_made z e f g fr zs) = subst
      (Result choices code table base m s going w l p (Store place a)) (sym (ap (asks_store s.known (Wm place)) e))
      (made_result place a z h ka is e f g fr zs)
  store_by place a linked kind h ka is (seeks_new z e f g un zs os) = subst
      (Result choices code table base m s going w l p (Store place a)) (sym (ap (asks_store s.known (Wm place)) e))
      (overwrite_result place a z linked kind h ka is f g un zs)

  pub store_result : (place : Place) (a : Atom) → Linked table base choices → is_slot_kind (place_kind place) ≡ true
      → is_there s.statics a ≡ true → list_all (is_there s.statics) (atoms_in place) ≡ true
      → IsLine choices code table base m s going w l p (Store place a)
      → Result choices code table base m s going w l p (Store place a) (asks_known s.known (term_of s.known a)
      (asks_store s.known (Wm place) (find s.known place)))
  store_result place a linked kind h hs is = elim (knowing_is s.known (term_of s.known a)
      (asks_store s.known (Wm place) (find s.known place))) [
        | unset e q ↦ subst (Result choices code table base m s going w l p (Store place a)) (sym q)
            (stops_result choices code table base m s going w l p (Store place a) Quiet is
            (unset_led choices code table base m s going w l p a _ h e))
        | asks t e o q ↦ subst (Result choices code table base m s going w l p (Store place a)) (sym q)
            (null_result choices code table base m s going w l p (Store place a) t (open_below s.known.marks t o) o)
        | passes ka q ↦ subst (Result choices code table base m s going w l p (Store place a)) (sym q)
            (store_by place a linked kind h ka is (sought choices code table base m s going w l p place hs
            (walked_is choices code table base m s going w l p (Store place a) place is refl)))
      ]
