-- Two tables that give a path's computations the same numbers: a run lies in a state by both.
use Rattle.std.proofs.Common.{◌≡◌, ℕ, suc, ◌-◌, ◌<◌, ℤ, pos, ◌+ℤ◌, List, [], ◌∷◌, length, map, take, get_or, refl, sym}
use Rattle.std.proofs.Common.{ap, ◌∙◌, arith, Bool, true, false, Option, None, Some}
use Rattle.std.specs.Prelude.{All, nat_lt, slice_get}
use Rattle.std.proofs.lemmas.Int.{ints}
use Rattle.pungi_base.specs.declared.value.Value.{Value}
use Rattle.pungi_base.specs.declared.value.Value.TheVariants as value
use Rattle.pungi_api.specs.declared.param.Param.{Param}
use Rattle.pungi_world.specs.declared.content.Content.TheVariants as content
use Rattle.pungi_world.specs.declared.slot.Slot.{Slot}
use Rattle.pungi_world.specs.declared.slot.Slot.TheVariants as slot
use Rattle.pungi_world.specs.declared.slot.SlotState.{SlotState}
use Rattle.pungi_code.specs.declared.code.Line.{Line}
use Rattle.pungi_code.specs.Registers.{Regs}
use Rattle.pungi_symbol.specs.declared.states.limit.Limit.{Limit}
use Rattle.pungi_symbol.specs.declared.states.node.Node.{Node}
use Rattle.pungi_symbol.specs.declared.states.node.Node.TheVariants as nodes
use Rattle.pungi_symbol.specs.declared.states.spot.Progress.{Progress}
use Rattle.pungi_symbol.specs.declared.states.spot.Progress.TheVariants.{Looking, Found}
use Rattle.pungi_symbol.specs.declared.states.spot.Spot.{Spot}
use Rattle.pungi_symbol.specs.declared.states.spot.Spot.TheVariants.{Global, Field}
use Rattle.pungi_symbol.specs.declared.states.spot.Touched.{Touched}
use Rattle.pungi_symbol.specs.declared.states.state.State.{State}
use Rattle.pungi_symbol.specs.declared.states.sum.Sum.{Sum as SumOf}
use Rattle.pungi_symbol.specs.declared.states.term.Term.{Term}
use Rattle.pungi_symbol.specs.declared.states.term.Term.TheVariants.{Unset, Null, Text, Number, Token, Sum}
use Rattle.pungi_symbol.specs.states.Terms.{Table, NodeBelow, node_value, sum_value, content_of}
use Rattle.pungi_symbol.specs.states.Known.{slot_note}
use Rattle.pungi_symbol.specs.runs.Fits.{IsMet}
use Rattle.pungi_symbol.specs.answers.KnownAfter.{instr_of}
use Rattle.pungi_symbol.specs.runs.RunInState.{Lies, IsFoundAt, IsWalked, is_made_slot, slot_in, state_in, place_in}
use Rattle.pungi_symbol.specs.runs.RunInState.{slot_at_place}
use Rattle.pungi_symbol.proofs.steps.Questions.{SumBelow, TermBelow}
use Rattle.pungi_symbol.proofs.runs.ComputedNodes.{LimitBelow, SlotBelow, Below}

module _ (values : List Value) (cs ds : List ℤ) (c : ℕ)
    (agree : (j : ℕ) → j < c → get_or cs j (pos 0) ≡ get_or ds j (pos 0)) where
  abbrev T : Table
  T = record { values = values; computed = cs }

  abbrev U : Table
  U = record { values = values; computed = ds }

  node_agrees : (x : Node) → NodeBelow c x → node_value T x ≡ node_value U x
  node_agrees nodes.Zero h = refl
  node_agrees (nodes.Token t) h = refl
  node_agrees (nodes.Computed j) h = agree j h

  pub sum_agrees : (a : SumOf) → SumBelow c a → sum_value T a ≡ sum_value U a
  sum_agrees a h = ap (λ z. z +ℤ a.plus) (node_agrees a.node h)

  term_agrees : (x : Term) → TermBelow c x → content_of T x ≡ content_of U x
  term_agrees Unset h = refl
  term_agrees Null h = refl
  term_agrees Text h = refl
  term_agrees (Number n) h = refl
  term_agrees (Token t) h = refl
  term_agrees (Sum s) h = ap (λ z. content.Holds (value.Int z)) (sum_agrees s h)

  terms_agree : (xs : List Term) → ((x : ℕ) → TermBelow c (get_or xs x Unset))
      → map (content_of T) xs ≡ map (content_of U) xs
  terms_agree [] h = refl
  terms_agree (x ∷ xs) h =
      ap (λ y. y ∷ map (content_of T) xs) (term_agrees x (h 0))
      ∙ ap (λ ys. content_of U x ∷ ys) (terms_agree xs (λ z. h (suc z)))

  spot_agrees : (s : Spot) → slot_in T s ≡ slot_in U s
  spot_agrees (Global n) = refl
  spot_agrees (Field t tag field) = refl

  slot_agrees : (s : Touched) → SlotBelow c s → state_in T s ≡ state_in U s
  slot_agrees s h =
      ap (λ z. record { slot = z; at_entry = content_of T s.at_entry; held = content_of T s.held }) (spot_agrees s.spot)
      ∙ ap (λ z. record { slot = slot_in U s.spot; at_entry = z; held = content_of T s.held })
      (term_agrees s.at_entry h.1)
      ∙ ap (λ z. record { slot = slot_in U s.spot; at_entry = content_of U s.at_entry; held = z })
      (term_agrees s.held h.0)

  slots_agree : (xs : List Touched) → ((i : ℕ) → SlotBelow c (slot_note xs i))
      → map (state_in T) xs ≡ map (state_in U) xs
  slots_agree [] h = refl
  slots_agree (x ∷ xs) h =
      ap (λ y. y ∷ map (state_in T) xs) (slot_agrees x (h 0))
      ∙ ap (λ ys. state_in U x ∷ ys) (slots_agree xs (λ z. h (suc z)))

  made_agrees : (made : List ℕ) (s : Slot) → is_made_slot T made s ≡ is_made_slot U made s
  made_agrees made (slot.Global n) = refl
  made_agrees made (slot.Field o tag field) = refl

  walked_agrees : (made : List ℕ) (slots : List SlotState) (p : Progress) (o : Option (Slot × Param))
      → IsWalked T made slots p o → IsWalked U made slots p o
  walked_agrees made slots (Looking k) None h = tt
  walked_agrees made slots (Looking k) (Some s) h =
      (h.0, sym (made_agrees (take (k - length slots) made) s.0) ∙ h.1)
  walked_agrees made slots (Found i) None h = tt
  walked_agrees made slots (Found i) (Some s) h = by (nat_lt i (length slots)) h
    where
      by : (b : Bool) → IsFoundAt b T made slots i s.0 → IsFoundAt b U made slots i s.0
      by true h = h
      by false h = (h.0, sym (made_agrees made s.0) ∙ h.1)

  limit_agrees : (l : Limit) → LimitBelow c l → IsMet T l → IsMet U l
  limit_agrees l h met =
      let a = node_agrees l.x h.0 in
      let b = node_agrees l.y h.1 in
      omega (arith, ints, a, b, met)

  pub lies_agrees : (code : List Line) (base : ℕ) (m : Regs) (s : State) → Below c s.known.vars s.known.slots
      → All (LimitBelow c) s.limits → Lies code T base m s → Lies code U base m s
  lies_agrees code base m s w below l = record {
    fits = record {
      notes = record {
        statics = l.fits.notes.statics;
        marks = l.fits.notes.marks;
        classes = l.fits.notes.classes;
        others = l.fits.notes.others;
      };
      limits = λ i d lt. limit_agrees (get_or s.limits i d) (below i d lt) (l.fits.limits i d lt);
      new = record { later = l.fits.new.later; outside = l.fits.new.outside };
    };
    vars = l.vars ∙ terms_agree s.known.vars w.vars;
    slots = l.slots ∙ slots_agree s.known.slots w.slots;
    used = l.used;
    claims = l.claims;
    below = l.below;
    made = l.made;
    walked = walked_agrees s.known.made m.world.slots s.known.progress
        (slot_at_place (place_in (instr_of (slice_get code s.known.pc))) m.vars) l.walked;
  }
