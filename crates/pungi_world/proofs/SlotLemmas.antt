-- How far the world after a load or a store is from the one before it.
use Rattle.std.proofs.Common.{◌≡◌, ℕ, zero, suc, ◌+◌, ◌<◌, ◌≤◌, Bool, true, false, not, cond, List, [], ◌∷◌, ◌++◌}
use Rattle.std.proofs.Common.{length, get_or, arith, Option, None, Some, Result, Ok, Err, refl, subst, ap, ◌∙◌}
use Rattle.std.proofs.Common.{inl, inr}
use Rattle.std.specs.Prelude.{slice_set, position, nat_lt, if◌then◌else◌}
use Rattle.std.specs.List.{position_or_len}
use Rattle.std.proofs.lemmas.Bool.{cases_lt}
use Rattle.std.proofs.lemmas.Bool.Decides.{nat_tests}
use Rattle.std.proofs.lemmas.List.{length-set, length-append, get_or_append_left}
use Rattle.std.proofs.lemmas.List.Sums.{prefix_len_passes}
use Rattle.std.proofs.Math.Seq.{get_or-append_seam}
use Rattle.pungi_base.specs.declared.value.Value.{Value}
use Rattle.pungi_base.specs.declared.choice.Choice.{Choice}
use Rattle.pungi_api.specs.declared.param.Param.{Param}
use Rattle.pungi_world.specs.declared.content.Content.{Content}
use Rattle.pungi_world.specs.declared.content.Content.TheVariants.{Unset, Holds}
use Rattle.pungi_world.specs.declared.slot.Slot.{Slot}
use Rattle.pungi_world.specs.declared.slot.SlotState.{SlotState}
use Rattle.pungi_world.specs.declared.touch.Touch.{Touch}
use Rattle.pungi_world.specs.declared.effect.Effect.{Effect}
use Rattle.pungi_world.specs.declared.halt.Halt.{Halt}
use Rattle.pungi_world.specs.declared.halt.Halt.TheVariants.{NeedsChoice}
use Rattle.pungi_world.specs.declared.world.World.{World}
use Rattle.pungi_world.specs.Counts.{with_value}
use Rattle.pungi_world.specs.Choices.{value_of}
use Rattle.pungi_world.specs.Effects.{◌>>=◌, effect}
use Rattle.pungi_world.specs.Slots.{is_same, place_of, no_slot, slot_at, is_fresh, is_content, find_content, enter}
use Rattle.pungi_world.specs.Slots.{with_content, with_slot, touch_at, touch, after_load, load_effect}
use Rattle.pungi_world.specs.Slots.{put_at, store_effect}
use Rattle.pungi_world.specs.Follows.{AreDistinct, Follows}
use Rattle.pungi_world.proofs.CountLemmas.{within_more}
use Rattle.pungi_world.proofs.FollowLemmas.{follows_then, follows_later, follows_self, follows_there, slots_there}

-- ---- a slot that wasn't touched

none_passes : (b : Bool) (i : ℕ) → cond b (Some i) None ≡ None → b ≡ false
none_passes true i e = absurd cc
none_passes false i e = refl

no_true : (b : Bool) → not b ≡ true → b ≡ false
no_true true e = absurd cc
no_true false e = refl

unplaced : (p : SlotState → Bool) (slots : List SlotState) → position p slots ≡ None → (k : ℕ) → k < length slots
    → p (get_or slots k no_slot) ≡ false
unplaced p slots e k lt =
    let far : nat_lt (position_or_len p slots) (length slots)
    ≡ false = none_passes (nat_lt (position_or_len p slots) (length slots)) (position_or_len p slots) e in
    let all : length slots ≤ position_or_len p slots = grind (arith, nat_tests) in
    no_true (p (get_or slots k no_slot)) (prefix_len_passes (λ x. not (p x)) slots k no_slot (omega arith))

distinct_push : (slots : List SlotState) (t : SlotState)
    → ((k : ℕ) → k < length slots → is_same (get_or slots k no_slot).slot t.slot ≡ false) → AreDistinct slots
    → AreDistinct (slots ++ t ∷ [])
distinct_push slots t fresh distinct i j less within =
    let long : length (slots ++ t ∷ []) ≡ length slots + 1 = length-append slots (t ∷ []) in
    elim (cases_lt j (length slots)) [
      | inl lt ↦
          let at_i : get_or (slots ++ t ∷ []) i no_slot ≡ get_or slots i no_slot = get_or_append_left slots (t ∷ [])
          no_slot i (omega arith) in
          let at_j : get_or (slots ++ t ∷ []) j no_slot ≡ get_or slots j no_slot = get_or_append_left slots (t ∷ [])
          no_slot j lt in
          ap (λ (s : SlotState). is_same s.slot (get_or (slots ++ t ∷ []) j no_slot).slot) at_i
          ∙ ap (λ (s : SlotState). is_same (get_or slots i no_slot).slot s.slot) at_j ∙ distinct i j less lt
      | inr past ↦
          let last : j ≡ length slots = omega arith in
          let at_i : get_or (slots ++ t ∷ []) i no_slot ≡ get_or slots i no_slot = get_or_append_left slots (t ∷ [])
          no_slot i (omega arith) in
          let at_j : get_or (slots ++ t ∷ []) j no_slot ≡ t = ap (λ (k : ℕ). get_or (slots ++ t ∷ []) k no_slot)
          last ∙ get_or-append_seam slots t [] no_slot in
          ap (λ (s : SlotState). is_same s.slot (get_or (slots ++ t ∷ []) j no_slot).slot) at_i
          ∙ ap (λ (s : SlotState). is_same (get_or slots i no_slot).slot s.slot) at_j ∙ fresh i (omega arith)
    ]

follows_slot : (w : World) (s : Slot) (x : Content) → place_of w.slots s ≡ None → Follows w (with_slot w s x) 0 1 0
follows_slot w s x none =
    let t : SlotState = record { slot = s; at_entry = x; held = x } in
    let long : length (w.slots ++ t ∷ []) ≡ length w.slots + 1 = length-append w.slots (t ∷ []) in
    record {
      more_objects = omega arith;
      few_objects = omega arith;
      more_slots = omega (arith, long);
      few_slots = omega (arith, long);
      within = λ most within. record {
        change = λ o. (within_more w most (most + 0) (omega arith) within).change o;
        handed = λ o. (within_more w most (most + 0) (omega arith) within).handed o;
      };
      distinct = distinct_push w.slots t (unplaced (λ u. is_same u.slot s) w.slots none);
    }

-- ---- what a slot held at entry

held_one : (w : World) (kind : Param) (choices : List Choice) (b : Bool) (c : Choice) (p : Content × ℕ)
    → (if b then (let A : Type 0 = Result (Content × ℕ) Halt in let x : A = Ok (Holds (value_of c), 1) in x) else
    Err NeedsChoice) ≡ Ok p → 1 ≤ p.1
held_one w kind choices true c p e =
    let q : Content × ℕ = (Holds (value_of c), 1) in let same : q ≡ p = cc in let one : 1
    ≡ p.1 = ap (λ (r : Content × ℕ). r.1) same in omega arith
held_one w kind choices false c p e = absurd cc

found_one : (w : World) (kind : Param) (choices : List Choice) (p : Content × ℕ)
    → find_content w kind choices ≡ Ok p → 1 ≤ p.1
found_one w kind [] p e = absurd cc
found_one w kind (c ∷ choices) p e = held_one w kind choices (is_content w kind c) c p e

follows_found : (w : World) (x : Content) (u : ℕ) → 1 ≤ u → Follows w (with_content w x) u 0 0
follows_found w Unset u le = follows_later w w 0 u 0 0 0 0 (omega arith) (omega arith) (omega arith) (follows_self w)
follows_found w (Holds x) u le =
    follows_later w (with_value w x) 1 u 0 0 0 0 le (omega arith) (omega arith) (follows_there w x)

abbrev nothing : Content × ℕ
nothing = (Unset, 0)

follows_unset : (w : World) (p : Content × ℕ)
    → (let A : Type 0 = Result (Content × ℕ) Halt in let x : A = Ok nothing in let y : A = Ok p in x ≡ y)
    → Follows w (with_content w p.0) p.1 0 0
follows_unset w p e =
    let same : nothing ≡ p = cc in
    let After : Content × ℕ → Type 0 = λ q. Follows w (with_content w q.0) q.1 0 0 in
    subst After same (follows_self w)

follows_entered : (b : Bool) (w : World) (kind : Param) (choices : List Choice) (p : Content × ℕ)
    → (if b then Ok nothing else find_content w kind choices) ≡ Ok p → Follows w (with_content w p.0) p.1 0 0
follows_entered true w kind choices p e = follows_unset w p e
follows_entered false w kind choices p e = follows_found w p.0 p.1 (found_one w kind choices p e)

slots_content : (w : World) (x : Content) → (with_content w x).slots ≡ w.slots
slots_content w Unset = refl
slots_content w (Holds x) = slots_there w x

-- ---- touches

abbrev touches : Touch → World → Result (Touch × World) Halt
touches t w = Ok (t, w)

same_touch : (t t' : Touch) (w w' : World) → touches t w ≡ touches t' w' → (t ≡ t') × (w ≡ w')
same_touch t t' w w' same =
    let p : Touch × World = (t, w) in
    let q : Touch × World = (t', w') in
    let is : p ≡ q = cc in
    (ap (λ (r : Touch × World). r.0) is, ap (λ (r : Touch × World). r.1) is)

abbrev Touches : World → Touch → World → Type 0
Touches w t w' = Follows w w' t.used 1 0

meant_touch : (w new new' : World) (t t' : Touch) → touches t new ≡ touches t' new' → Touches w t new
    → Touches w t' new'
meant_touch w new new' t t' same follows =
    let After : World → Type 0 = λ v. Touches w t v in
    let With : Touch → Type 0 = λ u. Touches w u new' in
    subst With (same_touch t t' new new' same).0 (subst After (same_touch t t' new new' same).1 follows)

abbrev entry_touch : World → Slot → Result (Content × ℕ) Halt → Result (Touch × World) Halt
entry_touch w s r = r >>= λ p. Ok (record { place = length w.slots; used = p.1 }, with_slot (with_content w p.0) s p.0)

follows_first : (w w' : World) (s : Slot) (kind : Param) (choices : List Choice) (t : Touch)
    (r : Result (Content × ℕ) Halt) → place_of w.slots s ≡ None → enter w s kind choices ≡ r
    → entry_touch w s r ≡ touches t w' → Touches w t w'
follows_first w w' s kind choices t (Err h) none is same = absurd cc
follows_first w w' s kind choices t (Ok p) none is same =
    let v : World = with_content w p.0 in
    let still : place_of v.slots s ≡ None = ap (λ (l : List SlotState). place_of l s) (slots_content w p.0) ∙ none in
    meant_touch w (with_slot v s p.0) w' (record { place = length w.slots; used = p.1 }) t same
    (follows_later w (with_slot v s p.0) (p.1 + 0) p.1 (0 + 1) 1 (0 + 0) 0 (omega arith) (omega arith) (omega arith)
    (follows_then w v (with_slot v s p.0) p.1 0 0 1 0 0 (follows_entered (is_fresh w s) w kind choices p is)
    (follows_slot v s p.0 still)))

follows_touched : (w w' : World) (s : Slot) (kind : Param) (choices : List Choice) (t : Touch) (place : Option ℕ)
    → place_of w.slots s ≡ place → touch_at w s kind choices place ≡ touches t w' → Touches w t w'
follows_touched w w' s kind choices t None is same =
    follows_first w w' s kind choices t (enter w s kind choices) is refl same
follows_touched w w' s kind choices t (Some i) is same =
    meant_touch w w w' (record { place = i; used = 0 }) t same (follows_later w w 0 0 0 1 0 0 (omega arith)
    (omega arith) (omega arith) (follows_self w))

-- ---- loads

abbrev ends : Effect → World → Result (Effect × World) Halt
ends e w = Ok (e, w)

same_end : (e e' : Effect) (w w' : World) → ends e w ≡ ends e' w' → (e ≡ e') × (w ≡ w')
same_end e e' w w' same =
    let p : Effect × World = (e, w) in
    let q : Effect × World = (e', w') in
    let is : p ≡ q = cc in
    (ap (λ (r : Effect × World). r.0) is, ap (λ (r : Effect × World). r.1) is)

meant_effect : (w new new' : World) (e e' : Effect) → ends e new ≡ ends e' new' → Follows w new e.used 1 0
    → Follows w new' e'.used 1 0
meant_effect w new new' e e' same follows =
    let After : World → Type 0 = λ v. Follows w v e.used 1 0 in
    let With : Effect → Type 0 = λ u. Follows w new' u.used 1 0 in
    subst With (same_end e e' new new' same).0 (subst After (same_end e e' new new' same).1 follows)

follows_loaded : (w v w' : World) (x : Content) (used : ℕ) (e : Effect) → Follows w v used 1 0
    → after_load x used v ≡ ends e w' → Follows w w' e.used 1 0
follows_loaded w v w' Unset used e follows same = absurd cc
follows_loaded w v w' (Holds x) used e follows same = meant_effect w v w' (effect (Some x) used) e same follows

abbrev load_of : Result (Touch × World) Halt → Result (Effect × World) Halt
load_of r = r >>= λ t. after_load (slot_at t.1 t.0.place).held t.0.used t.1

follows_load_of : (w w' : World) (s : Slot) (kind : Param) (choices : List Choice) (e : Effect)
    (r : Result (Touch × World) Halt) → touch w s kind choices ≡ r → load_of r ≡ ends e w' → Follows w w' e.used 1 0
follows_load_of w w' s kind choices e (Err h) is same = absurd cc
follows_load_of w w' s kind choices e (Ok t) is same =
    follows_loaded w t.1 w' (slot_at t.1 t.0.place).held t.0.used e (follows_touched w t.1 s kind choices t.0
    (place_of w.slots s) refl is) same

-- what a load keeps of a world
pub follows_load : (w w' : World) (s : Slot) (kind : Param) (choices : List Choice) (e : Effect)
    → load_effect w s kind choices ≡ Ok (e, w') → Follows w w' e.used 1 0
follows_load w w' s kind choices e is = follows_load_of w w' s kind choices e (touch w s kind choices) refl is

-- ---- stores

keeps_slots : (slots : List SlotState) (i : ℕ) (x : Content) (k : ℕ)
    → (get_or (slice_set slots i (record (get_or slots i no_slot) { held = x })) k no_slot).slot
    ≡ (get_or slots k no_slot).slot
keeps_slots [] i x k = refl
keeps_slots (t ∷ slots) zero x zero = refl
keeps_slots (t ∷ slots) zero x (suc k) = refl
keeps_slots (t ∷ slots) (suc i) x zero = refl
keeps_slots (t ∷ slots) (suc i) x (suc k) = keeps_slots slots i x k

follows_stored : (w : World) (i : ℕ) (x : Value) → Follows w (put_at w i x) 0 0 0
follows_stored w i x =
    let t : SlotState = record (slot_at w i) { held = Holds x } in
    let long : length (slice_set w.slots i t) ≡ length w.slots = length-set w.slots i t in
    record {
      more_objects = omega arith;
      few_objects = omega arith;
      more_slots = omega (arith, long);
      few_slots = omega (arith, long);
      within = λ most within. record {
        change = λ o. (within_more w most (most + 0) (omega arith) within).change o;
        handed = λ o. (within_more w most (most + 0) (omega arith) within).handed o;
      };
      distinct = λ d j k less lt.
          ap (λ (s : Slot). is_same s (get_or (slice_set w.slots i t) k no_slot).slot)
          (keeps_slots w.slots i (Holds x) j)
          ∙ ap (λ (s : Slot). is_same (get_or w.slots j no_slot).slot s) (keeps_slots w.slots i (Holds x) k)
          ∙ d j k less (omega (arith, long, lt));
    }

abbrev store_of : Value → Result (Touch × World) Halt → Result (Effect × World) Halt
store_of x r = r >>= λ t. Ok (effect None t.0.used, put_at t.1 t.0.place x)

follows_store_of : (w w' : World) (s : Slot) (kind : Param) (x : Value) (choices : List Choice) (e : Effect)
    (r : Result (Touch × World) Halt) → touch w s kind choices ≡ r → store_of x r ≡ ends e w'
    → Follows w w' e.used 1 0
follows_store_of w w' s kind x choices e (Err h) is same = absurd cc
follows_store_of w w' s kind x choices e (Ok t) is same =
    let v : World = put_at t.1 t.0.place x in
    meant_effect w v w' (effect None t.0.used) e same
    (follows_later w v (t.0.used + 0) t.0.used (1 + 0) 1 (0 + 0) 0 (omega arith) (omega arith) (omega arith)
    (follows_then w t.1 v t.0.used 0 1 0 0 0 (follows_touched w t.1 s kind choices t.0 (place_of w.slots s) refl is)
    (follows_stored t.1 t.0.place x)))

-- what a store keeps of a world
pub follows_store : (w w' : World) (s : Slot) (kind : Param) (x : Value) (choices : List Choice) (e : Effect)
    → store_effect w s kind x choices ≡ Ok (e, w') → Follows w w' e.used 1 0
follows_store w w' s kind x choices e is = follows_store_of w w' s kind x choices e (touch w s kind choices) refl is
