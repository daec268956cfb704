-- A load: a run and a state do the same.
use Rattle.std.proofs.Common.{◌≡◌, ℕ, ◌+◌, ◌≤◌, ℤ, pos, List, [], ◌∷◌, ◌++◌, length, map, get_or, Bool, true, false}
use Rattle.std.proofs.Common.{refl, sym, ap, ◌∙◌, subst, arith, inl, inr, None, Some}
use Rattle.std.specs.Prelude.{slice_set}
use Rattle.pungi_base.specs.declared.choice.Choice.{Choice}
use Rattle.pungi_base.specs.declared.pos.Pos.{Pos}
use Rattle.pungi_base.specs.declared.value.Value.{Value}
use Rattle.pungi_world.specs.declared.content.Content.TheVariants as content
use Rattle.pungi_code.specs.declared.atom.Var.{Var}
use Rattle.pungi_code.specs.declared.code.Line.{Line}
use Rattle.pungi_code.specs.Registers.{Regs, put}
use Rattle.pungi_symbol.specs.declared.answers.decision.Decision.TheVariants.{Quiet}
use Rattle.pungi_symbol.specs.declared.states.known.Status.TheVariants as status
use Rattle.pungi_symbol.specs.declared.states.mark.Mark.{Mark}
use Rattle.pungi_symbol.specs.declared.states.mark.Mark.TheVariants.{IsObject}
use Rattle.pungi_base.specs.declared.value.Value.TheVariants as value
use Rattle.pungi_symbol.specs.declared.questions.question.Question.TheVariants.{Does, Touches}
use Rattle.pungi_symbol.specs.declared.states.state.State.{State}
use Rattle.pungi_symbol.specs.declared.states.term.Term.{Term}
use Rattle.pungi_symbol.specs.declared.states.term.Term.TheVariants.{Token}
use Rattle.pungi_symbol.specs.states.Terms.{Table, at, content_of, is_mark}
use Rattle.pungi_symbol.specs.runs.Fits.{IsSound}
use Rattle.pungi_code.specs.WellFormed.{is_slot_kind, is_there}
use Rattle.pungi_symbol.specs.runs.RunInState.{Lies}
use Rattle.std.specs.Prelude.{replicate, Result as Res, Ok}
use Rattle.std.specs.List.{list_all}
use Rattle.std.proofs.Common.{length-append}
use Rattle.std.proofs.Math.ListN.{get_or-map}
use Rattle.std.proofs.Math.Seq.{get_or-append_seam}
use Rattle.std.proofs.lemmas.List.{map-append, map-set}
use Rattle.std.proofs.lemmas.Int.{ints}
use Rattle.pungi_api.specs.declared.param.Param.{Param}
use Rattle.pungi_world.specs.declared.effect.Effect.{Effect}
use Rattle.pungi_world.specs.declared.halt.Halt.{Halt}
use Rattle.pungi_world.specs.declared.slot.Slot.{Slot}
use Rattle.pungi_world.specs.declared.touch.Touch.{Touch}
use Rattle.pungi_world.specs.declared.world.World.{World}
use Rattle.pungi_world.specs.Choices.{value_of}
use Rattle.pungi_world.specs.Counts.{with_value}
use Rattle.pungi_world.specs.Effects.{◌>>=◌}
use Rattle.pungi_world.specs.Slots.{slot_at, no_slot as no_state, with_slot, touch, touch_at, after_load, load_effect}
use Rattle.pungi_world.specs.Slots.{is_fresh, place_of as slot_place}
use Rattle.pungi_world.specs.World.{account_of}
use Rattle.pungi_code.specs.declared.instr.Instr.TheVariants.{Load}
use Rattle.pungi_code.specs.declared.place.Place.{Place}
use Rattle.pungi_code.specs.Perform.{slot_of}
use Rattle.pungi_code.specs.Registers.{choices_left, put_answer}
use Rattle.pungi_code.specs.WellFormed.{place_kind}
use Rattle.pungi_symbol.specs.declared.states.spot.Progress.TheVariants.{Looking}
use Rattle.pungi_symbol.specs.declared.states.spot.Touched.{Touched}
use Rattle.pungi_symbol.specs.declared.questions.found_slot.Finding.TheVariants.{At}
use Rattle.pungi_symbol.specs.states.Known.{count, find, held_in, no_slot, slot_note, spot_of}
use Rattle.pungi_symbol.specs.states.Turns.{stepped}
use Rattle.pungi_symbol.specs.questions.NextQuestion.{asks_load, content_mark, asks_set}
use Rattle.pungi_symbol.specs.answers.SymbolicState.{is_among, join}
use Rattle.pungi_code.specs.WellFormed.{atoms_in}
use Rattle.pungi_symbol.specs.runs.Fits.{AreNew, named, is_the}
use Rattle.pungi_symbol.specs.runs.RunInState.{slot_in, state_in, owed, is_this_made, IsOf}
use Rattle.pungi_symbol.specs.runs.OneInstruction.{Led, on_slot, on_effect, goes, leads}
use Rattle.pungi_symbol.proofs.states.Contents.{unset_s, set_s, setting_is, term_value, holds_term}
use Rattle.pungi_symbol.proofs.states.NamedObjects.{part, named_end}
use Rattle.pungi_symbol.proofs.answers.Fits.{arrives}
use Rattle.pungi_symbol.proofs.states.Owed.{owed_slot}
use Rattle.pungi_symbol.proofs.answers.Made.{slot_new, among_made}
use Rattle.pungi_symbol.proofs.steps.Worlds.{there, missing, found_is, touch_missing, touch_there, content_good}
use Rattle.pungi_symbol.proofs.steps.Worlds.{IsUnmade, touch_fresh}
use Rattle.pungi_symbol.proofs.steps.Worlds.{value_owed, value_slots, value_more, value_there, value_made, of_more}
use Rattle.pungi_symbol.proofs.steps.Worlds.{drop_head, head_drop}
use Rattle.pungi_symbol.proofs.steps.ChoicesForAnswers.{not_missing}
use Rattle.pungi_world.specs.Slots.{find_content}
use Rattle.pungi_symbol.proofs.steps.RunInState.{goes_on, as_many, Result, Linked, IsLine, led_is, null_result}
use Rattle.pungi_symbol.proofs.steps.RunInState.{stops_result, put_lies, walked_anew}
use Rattle.pungi_symbol.proofs.questions.Firsts.{below_or}
use Rattle.pungi_symbol.proofs.states.Terms.{open_below}
use Rattle.pungi_symbol.proofs.steps.SlotSearch.{sought, walked_is, Sought, seeks_stop, seeks_null, seeks_base}
use Rattle.pungi_symbol.proofs.steps.SlotSearch.{seeks_at, seeks_made, seeks_new, base_result}

part_zero : (b : Bool) → part b (pos 0) ≡ pos 0
part_zero true = refl
part_zero false = refl

module _ (choices : List Choice) (code : List Line) (table : Table) (base : ℕ) (m : Regs) (s : State)
    (going : s.known.status ≡ status.Going) (w : IsSound s) (l : Lies code table base m s) (p : Pos) where
  -- a slot that a run touched is the one that the state notes
  pub slot_is : (i : ℕ) → slot_at m.world i ≡ state_in table (slot_note s.known.slots i)
  slot_is i = ap (λ y. get_or y i no_state) l.slots ∙ get_or-map (state_in table) s.known.slots i no_slot

  -- other places of choices, as many
  pub used_lies : (us : List Pos) → length us ≡ length m.used → Lies code table base (record m { used = us }) s
  used_lies us e = record {
    fits = l.fits;
    vars = l.vars;
    slots = l.slots;
    used = ap (λ n. base + n) e ∙ l.used;
    claims = l.claims;
    below = l.below;
    made = l.made;
    walked = l.walked;
  }

  -- a token comes in, and the next instruction comes
  pub arrive_lies : (m' : Regs) (pc : ℕ) (vars : List Term) (slots : List Touched) (made : List ℕ) (r : Mark) (d : ℤ)
      (balances : List ℤ)
      → length m'.used ≡ length m.used + 1 → is_mark r (at table (count s.known)) ≡ true
      → IsOf (length m'.world.accounts) (at table (count s.known))
      → length m.world.accounts ≤ length m'.world.accounts
      → ((o : ℕ) → (account_of m'.world o).made ≡ is_this_made table made o) → AreNew table made slots
      → m'.vars ≡ map (content_of table) vars → m'.world.slots ≡ map (state_in table) slots
      → ((o : ℕ) → owed m'.world o ≡ named o table.values (balances ++ d ∷ []))
      → Lies code table base m' (record (join d balances s) {
        known = record s.known {
          pc = pc;
          vars = vars;
          slots = slots;
          made = made;
          marks = s.known.marks ++ r ∷ [];
          progress = Looking 0;
          turns = stepped s.known.turns;
        };
      })
  arrive_lies m' pc vars slots made r d balances eu er eb em um un ev es ec =
      let len : length (s.known.marks ++ r ∷ []) ≡ length s.known.marks + 1 = length-append s.known.marks (r ∷ []) in
      let lu = l.used in
      record {
        fits = record {
          notes = arrives table s.statics s.known.marks s.classes s.others r w.notes.classes_long er l.fits.notes;
          limits = l.fits.limits;
          new = un;
        };
        vars = ev;
        slots = es;
        used = omega (arith, eu, lu, len);
        claims = ec;
        below = λ t h. elim (below_or t (count s.known)) [
          | inl lt ↦ of_more (length m.world.accounts) (length m'.world.accounts) (at table t) em (l.below t lt)
          | inr ge ↦ let same : t ≡ count s.known = omega (arith, ge, h, len) in subst
              (λ z. IsOf (length m'.world.accounts) (at table z)) (sym same) eb
        ];
        made = um;
        walked = walked_anew table _ m'.world.slots _;
      }

  -- ---- loads

  abbrev LoadGo : Var → Res (Effect × World) Halt → Led
  LoadGo x r = on_effect p r m (λ e r'. goes (s.known.pc + 1) (put_answer (Some x) e.value r'))

  abbrev LoadOn : Var → Slot → Param → Led
  LoadOn x z kind = LoadGo x (load_effect m.world z kind (choices_left choices m))

  load_led : (x : Var) (place : Place) (z : Slot) → slot_of place m.vars ≡ Some (z, place_kind place)
      → leads choices (Load x place) p s.known.pc m ≡ LoadOn x z (place_kind place)
  load_led x place z f = ap (λ o. on_slot o p m (LoadOn x)) f

  abbrev Loads : Touch × World → Res (Effect × World) Halt
  Loads t = after_load (slot_at t.1 t.0.place).held t.0.used t.1

  load_at : (x : Var) (place : Place) (z : Slot) (i : ℕ) → slot_of place m.vars ≡ Some (z, place_kind place)
      → slot_place m.world.slots z ≡ Some i
      → leads choices (Load x place) p s.known.pc m ≡ LoadGo x (after_load (content_of table
      (slot_note s.known.slots i).held) 0 m.world)
  load_at x place z i f g = load_led x place z f ∙ ap (λ r. LoadGo x (r >>= Loads))
      (ap (touch_at m.world z (place_kind place) (choices_left choices m)) g)
      ∙ ap (λ y. LoadGo x (after_load y.held 0 m.world)) (slot_is i)

  at_result : (x : Var) (place : Place) (z : Slot) (i : ℕ)
      → IsLine choices code table base m s going w l p (Load x place) → find s.known place ≡ At i
      → slot_of place m.vars ≡ Some (z, place_kind place) → slot_place m.world.slots z ≡ Some i
      → Result choices code table base m s going w l p (Load x place) (asks_set (slot_note s.known.slots i).held
      (Does Quiet))
  at_result x place z i is e f g =
      let h = (slot_note s.known.slots i).held in
      elim (setting_is h (Does Quiet)) [
        | unset_s u q ↦ subst (Result choices code table base m s going w l p (Load x place)) (sym q)
            (stops_result choices code table base m s going w l p (Load x place) Quiet is
            (load_at x place z i f g ∙ ap (λ y. LoadGo x (after_load (content_of table y) 0 m.world)) u))
        | set_s ne q ↦ subst (Result choices code table base m s going w l p (Load x place)) (sym q) (
            let us = m.used ++ replicate 0 p in
            let same : length us ≡ length m.used = let a = length-append m.used (replicate 0 p) in omega (arith, a) in
            let held : content_of table (held_in s.known (find s.known place))
            ≡ content.Holds (term_value table h) = ap (λ y. content_of table (held_in s.known y)) e
            ∙ holds_term table h ne in
            inr (
              refl,
              goes_on (put x (content.Holds (term_value table h)) (record m { used = us })) (as_many m)
                  (led_is choices code table base m s going w l p (Load x place) is ∙ load_at x place z i f g
                  ∙ ap (λ c. LoadGo x (after_load c 0 m.world)) (holds_term table h ne)) going refl
                  (put_lies choices code table base (record m { used = us }) s going w (used_lies us same) p x
                  (held_in s.known (find s.known place)) (content.Holds (term_value table h)) (s.known.pc + 1)
                  held),
            ))
      ]

  abbrev Touched1 : Slot → Value → World
  Touched1 z v = with_slot (with_value m.world v) z (content.Holds v)

  -- the slots after a first touch
  pub new_slots : (z : Slot) (v : Value) → (Touched1 z v).slots
      ≡ m.world.slots ++ (record { slot = z; at_entry = content.Holds v; held = content.Holds v }) ∷ []
  new_slots z v = ap (λ y. y ++ (record { slot = z; at_entry = content.Holds v; held = content.Holds v }) ∷ [])
      (value_slots m.world v)

  pub new_slot : (z : Slot) (v : Value) → slot_at (Touched1 z v) (length m.world.slots)
      ≡ record { slot = z; at_entry = content.Holds v; held = content.Holds v }
  new_slot z v = ap (λ y. get_or y (length m.world.slots) no_state) (new_slots z v)
      ∙ get_or-append_seam m.world.slots (record { slot = z; at_entry = content.Holds v; held = content.Holds v }) []
      no_state

  -- the slot of an object that was made, at its first touch
  pub unset_slot : (z : Slot) → slot_at (with_slot m.world z content.Unset) (length m.world.slots)
      ≡ record { slot = z; at_entry = content.Unset; held = content.Unset }
  unset_slot z = get_or-append_seam m.world.slots (record { slot = z; at_entry = content.Unset; held = content.Unset })
      [] no_state

  -- the token that comes in with the first touch of a slot is of no object that was made
  pub never_made : (n : ℕ) (v : Value) → at table n ≡ v → IsUnmade m.world v → (i t : ℕ)
      → is_among s.known.made i ≡ true → Token n ≡ Token t → at table t ≡ at table i → ⊥
  never_made n v vn un i t a e same =
      let at_i : at table i ≡ v = sym same ∙ ap (at table) (sym (same_token n t e)) ∙ vn in
      let marked : is_mark IsObject (at table i) ≡ true = subst (λ r. is_mark r (at table i) ≡ true)
      (w.made.objects i a) (l.fits.notes.marks i (w.made.below i a)) in
      by v at_i un (subst (λ y. is_mark IsObject y ≡ true) at_i marked)
    where
      same_token : (a b : ℕ) → Token a ≡ Token b → a ≡ b
      same_token a b e = cc

      by : (v : Value) → at table i ≡ v → IsUnmade m.world v → is_mark IsObject v ≡ true → ⊥
      by value.Null e u h = absurd (let bad : false ≡ true = h in cc)
      by (value.Object k) e u h =
          let is : is_this_made table s.known.made k ≡ true = among_made table s.known.made i k a e in
          let bad : false ≡ true = sym u ∙ l.made k ∙ is in absurd (cc)
      by (value.Int k) e u h = absurd (let bad : false ≡ true = h in cc)
      by value.Text e u h = absurd (let bad : false ≡ true = h in cc)

  load_new : (x : Var) (place : Place) (z : Slot) (v : Value) → slot_of place m.vars ≡ Some (z, place_kind place)
      → touch m.world z (place_kind place) (choices_left choices m)
      ≡ Ok (record { place = length m.world.slots; used = 1 }, Touched1 z v)
      → leads choices (Load x place) p s.known.pc m ≡ goes (s.known.pc
      + 1) (put x (content.Holds v) (record m { world = Touched1 z v; used = m.used ++ replicate 1 p }))
  load_new x place z v f t = load_led x place z f ∙ ap (λ r. LoadGo x (r >>= Loads)) t
      ∙ ap (λ y. LoadGo x (after_load y.held 1 (Touched1 z v))) (new_slot z v)

  -- the token of the next choice
  pub next_value : (c : Choice) (rest : List Choice) → Linked table base choices → choices_left choices m ≡ c ∷ rest
      → at table (count s.known) ≡ value_of c
  next_value c rest linked e = ap (at table) (sym l.used)
      ∙ linked (length m.used) c (drop_head choices rest (length m.used) c e)

  touch_result : (x : Var) (place : Place) (z : Slot) → Linked table base choices
      → is_slot_kind (place_kind place) ≡ true → IsLine choices code table base m s going w l p (Load x place)
      → slot_of place m.vars ≡ Some (z, place_kind place) → slot_place m.world.slots z ≡ None
      → is_fresh m.world z ≡ false → z ≡ slot_in table (spot_of s.known place)
      → Result choices code table base m s going w l p (Load x place) (Touches (content_mark (place_kind place)))
  touch_result x place z linked kind is f g un zs =
      elim (found_is m.world (place_kind place) (choices_left choices m)) [
        | missing e ↦ inl (
          m,
          led_is choices code table base m s going w l p (Load x place) is ∙ load_led x place z f
              ∙ ap (λ r. LoadGo x (r >>= Loads)) (touch_missing m.world z (place_kind place) (choices_left choices m)
              un g e),
          λ c at h.
              let d = head_drop choices (length m.used) c at in
              not_missing m.world (place_kind place) c d.0 kind h (ap (find_content m.world (place_kind place))
              (sym d.1) ∙ e),
        )
        | there c rest e ok e' ↦
            let v = value_of c in
            let n = count s.known in
            let vn : at table n ≡ v = next_value c rest linked e in
            let good = content_good m.world (place_kind place) c kind ok in
            let m' : Regs = put x (content.Holds v) (record m { world = Touched1 z v; used = m.used ++ replicate 1 p }) in
            let note : Touched = record { spot = spot_of s.known place; at_entry = Token n; held = Token n } in
            let same_state : (record { slot = z; at_entry = content.Holds v; held = content.Holds v })
            ≡ state_in table note =
            ap (λ y. record { slot = y; at_entry = content.Holds v; held = content.Holds v }) zs
            ∙ ap (λ y. record {
              slot = slot_in table (spot_of s.known place);
              at_entry = content.Holds y;
              held
                  = content.Holds y;
            }) (sym vn) in
            inr (
              refl,
              goes_on m' (value_more m.world v) (led_is choices code table base m s going w l p (Load x place) is
                  ∙ load_new x place z v f (touch_there m.world z (place_kind place) (choices_left choices m) v un g
                  e')) going refl
                  (arrive_lies m' (s.known.pc + 1) (slice_set s.known.vars x.0 (Token n)) (s.known.slots ++ note ∷ [])
                  s.known.made (content_mark (place_kind place)) (pos 0) s.balances
                  (length-append m.used (replicate 1 p)) (ap (is_mark (content_mark (place_kind place))) vn ∙ good.0)
                  (subst (IsOf (length (with_value m.world v).accounts)) (sym vn) (value_there m.world v good.1))
                  (value_more m.world v)
                  (λ o. value_made m.world v o ∙ l.made o)
                  (slot_new table s.known.made s.known.slots note (never_made n v vn good.2) l.fits.new)
                  (ap (λ vs. slice_set vs x.0 (content.Holds v)) l.vars
                  ∙ ap (λ y. slice_set (map (content_of table) s.known.vars) x.0 (content.Holds y)) (sym vn)
                  ∙ sym (map-set (content_of table) s.known.vars x.0 (Token n)))
                  (new_slots z v ∙ ap (λ y. m.world.slots ++ y ∷ []) same_state
                  ∙ ap (λ y. y ++ state_in table note ∷ []) l.slots ∙ sym (map-append (state_in table) s.known.slots
                  (note ∷ [])))
                  (λ o. owed_slot (with_value m.world v) z (content.Holds v) o ∙ value_owed m.world v o ∙ l.claims o ∙ (
                  let a = named_end o table.values s.balances (pos 0) in
                  let b = part_zero (is_the o (at table (length s.balances))) in
                  omega (arith, ints, a, b)))),
            )
      ]

  abbrev Wm : Place → Mark
  Wm place = content_mark (place_kind place)

  load_by : (x : Var) (place : Place) → Linked table base choices → is_slot_kind (place_kind place) ≡ true
      → IsLine choices code table base m s going w l p (Load x place)
      → Sought choices code table base m s going w l p place
      → Result choices code table base m s going w l p (Load x place) (asks_load s.known (Wm place)
      (find s.known place))
  load_by x place linked kind is (seeks_stop e f) = subst (Result choices code table base m s going w l p
      (Load x place)) (sym (ap (asks_load s.known (Wm place)) e)) (stops_result choices code table base m s going w l
      p (Load x place) Quiet is (ap (λ o. on_slot o p m (LoadOn x)) f))
  load_by x place linked kind is (seeks_null t e o) = subst (Result choices code table base m s going w l p
      (Load x place)) (sym (ap (asks_load s.known (Wm place)) e)) (null_result choices code table base m s going w l p
      (Load x place) t (open_below s.known.marks t o) o)
  load_by x place linked kind is (seeks_base t u j z e mt mu f hit other before) = subst
      (Result choices code table base m s going w l p (Load x place)) (sym (ap (asks_load s.known (Wm place)) e))
      (base_result choices code table base m s going w l p (Load x place) place t u j z is refl mt mu f hit other
      before)
  load_by x place linked kind is (seeks_at i z e f g) = subst (Result choices code table base m s going w l p
      (Load x place)) (sym (ap (asks_load s.known (Wm place)) e)) (at_result x place z i is e f g)
  load_by x place linked kind is (seeks_made z e f g fr zs) = subst (Result choices code table base m s going w l p
      (Load x place)) (sym (ap (asks_load s.known (Wm place)) e)) (stops_result choices code table base m s going w l
      p (Load x place) Quiet is (load_led x place z f ∙ ap (λ r. LoadGo x (r >>= Loads))
      (touch_fresh m.world z (place_kind place) (choices_left choices m) fr g)
      ∙ ap (λ y. LoadGo x (after_load y.held 0 (with_slot m.world z content.Unset))) (unset_slot z)))
  load_by x place linked kind is (seeks_new z e f g un zs os) = subst (Result choices code table base m s going w l p
      (Load x place)) (sym (ap (asks_load s.known (Wm place)) e)) (touch_result x place z linked kind is f g un zs)

  pub load_result : (x : Var) (place : Place) → Linked table base choices → is_slot_kind (place_kind place) ≡ true
      → list_all (is_there s.statics) (atoms_in place) ≡ true
      → IsLine choices code table base m s going w l p (Load x place)
      → Result choices code table base m s going w l p (Load x place) (asks_load s.known (Wm place)
      (find s.known place))
  load_result x place linked kind h is = load_by x place linked kind is (sought choices code table base m s going w
      l p place h (walked_is choices code table base m s going w l p (Load x place) place is refl))
