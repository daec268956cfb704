-- A slot that is read or written holds what is of the kind of each place that names it.
use Rattle.std.proofs.Common.{◌≡◌, ℕ, zero, suc, ◌+◌, ◌≤◌, ◌&&◌, Bool, true, false, List, [], ◌∷◌, ◌++◌}
use Rattle.std.proofs.Common.{Option, Some, None, Result, Ok, Err, length, get_or, refl, sym, ap, ◌∙◌, subst, arith}
use Rattle.std.proofs.Common.{eqb-true}
use Rattle.std.specs.Prelude.{pos, negsuc, ◌==◌, ◌-◌, ◌^◌, nat_le, not, slice_set, if◌then◌else◌}
use Rattle.std.proofs.lemmas.List.Quantifiers.{position-Some}
use Rattle.std.proofs.Math.Seq.{get_or-append_seam}
use Rattle.std.proofs.lemmas.Bool.Decides.{nat_tests}
use Rattle.pungi_base.specs.declared.choice.Choice.{Choice}
use Rattle.pungi_base.specs.declared.choice.Choice.TheVariants as choice
use Rattle.pungi_base.specs.declared.value.Value.{Value}
use Rattle.pungi_api.specs.declared.param.Param.{Param}
use Rattle.pungi_api.specs.declared.param.Param.TheVariants as param
use Rattle.pungi_world.specs.declared.content.Content.{Content}
use Rattle.pungi_world.specs.declared.content.Content.TheVariants.{Unset, Holds}
use Rattle.pungi_world.specs.declared.effect.Effect.{Effect}
use Rattle.pungi_world.specs.declared.halt.Halt.{Halt}
use Rattle.pungi_world.specs.declared.halt.Halt.TheVariants.{NeedsChoice}
use Rattle.pungi_world.specs.declared.slot.Slot.{Slot}
use Rattle.pungi_world.specs.declared.slot.Slot.TheVariants as slot
use Rattle.pungi_world.specs.declared.slot.SlotState.{SlotState}
use Rattle.pungi_world.specs.declared.touch.Touch.{Touch}
use Rattle.pungi_world.specs.declared.world.World.{World}
use Rattle.pungi_world.specs.Choices.{is_null, is_text, value_of}
use Rattle.pungi_world.specs.Effects.{◌>>=◌, effect}
use Rattle.pungi_world.specs.Slots.{after_load, enter, find_content, is_content, is_fresh, is_made}
use Rattle.pungi_world.specs.Slots.{is_old, is_same, load_effect, no_slot, place_of, put_at, slot_at, store_effect}
use Rattle.pungi_world.specs.Slots.{touch, touch_at, with_content, with_slot}
use Rattle.pungi_code.specs.declared.code.Codes.{Codes}
use Rattle.pungi_code.specs.declared.place.Place.{Place}
use Rattle.pungi_code.specs.declared.place.Place.TheVariants.{Global, Field}
use Rattle.pungi_code.specs.Entries.{holds_value}
use Rattle.pungi_code.specs.WellFormed.{is_slot_kind, place_kind}
use Rattle.pungi_layout.proofs.well_formed.Both.{and_true, and_left, and_right}
use Rattle.pungi_kinds.specs.Contents.{content_holds, IsPlaceOf, is_place_of, SlotHolds, SlotsHold}
use Rattle.pungi_kinds.proofs.ValueLemmas as lemma
use Rattle.pungi_kinds.proofs.WorldLemmas.{Grows, same, grows_same, grows_with, HoldsAfter, object_chosen, null_chosen}
use Rattle.pungi_kinds.proofs.WorldLemmas.{text_chosen, number_chosen}
use Rattle.pungi_kinds.proofs.CallLemmas.{same_ok}

-- ---- one slot by two names

pub eqb_same : (m n : ℕ) → m ≡ n → (m == n) ≡ true
eqb_same m n e = grind (arith, nat_tests)

-- what names a slot names each that is the same
pub names_same : (s t : Slot) (q : Place) → is_same t s ≡ true → is_place_of t q ≡ true → is_place_of s q ≡ true
names_same (slot.Global m) (slot.Global n) (Global o k) h e =
    let a = eqb-true n.0 m.0 h in
    let b = eqb-true o.0 n.0 e in
    eqb_same o.0 m.0 (omega arith)
names_same (slot.Field p u g) (slot.Field o t f) (Field base v x k) h e =
    let front = and_left (o == p && (t.0 == u.0)) (f.0 == g.0) h in
    let same_tag = and_right (o == p) (t.0 == u.0) front in
    let same_field = and_right (o == p && (t.0 == u.0)) (f.0 == g.0) h in
    let a = eqb-true t.0 u.0 same_tag in
    let b = eqb-true f.0 g.0 same_field in
    let c = eqb-true v.0 t.0 (and_left (v.0 == t.0) (x.0 == f.0) e) in
    let d = eqb-true x.0 f.0 (and_right (v.0 == t.0) (x.0 == f.0) e) in
    and_true (v.0 == u.0) (x.0 == g.0) (eqb_same v.0 u.0 (omega arith)) (eqb_same x.0 g.0 (omega arith))
names_same (slot.Global m) (slot.Field o t f) q h e = absurd (cc)
names_same (slot.Field p u g) (slot.Global n) q h e = absurd (cc)
names_same (slot.Global m) (slot.Global n) (Field base v x k) h e = absurd (cc)
names_same (slot.Field p u g) (slot.Field o t f) (Global n k) h e = absurd (cc)

same_self : (s : Slot) → is_same s s ≡ true
same_self (slot.Global m) = eqb_same m.0 m.0 refl
same_self (slot.Field o t f) =
    and_true (o == o && (t.0 == t.0)) (f.0 == f.0)
    (and_true (o == o) (t.0 == t.0) (eqb_same o o refl) (eqb_same t.0 t.0 refl)) (eqb_same f.0 f.0 refl)

eqb_turned : (m n : ℕ) → (m == n) ≡ true → (n == m) ≡ true
eqb_turned m n h = let e = eqb-true m n h in eqb_same n m (omega arith)

same_turned : (s t : Slot) → is_same s t ≡ true → is_same t s ≡ true
same_turned (slot.Global m) (slot.Global n) h = eqb_turned m.0 n.0 h
same_turned (slot.Field o t f) (slot.Field p u g) h =
    let front = and_left (o == p && (t.0 == u.0)) (f.0 == g.0) h in
    and_true (p == o && (u.0 == t.0)) (g.0 == f.0)
    (and_true (p == o) (u.0 == t.0) (eqb_turned o p (and_left (o == p) (t.0 == u.0) front))
    (eqb_turned t.0 u.0 (and_right (o == p) (t.0 == u.0) front)))
    (eqb_turned f.0 g.0 (and_right (o == p && (t.0 == u.0)) (f.0 == g.0) h))
same_turned (slot.Global m) (slot.Field p u g) h = absurd (cc)
same_turned (slot.Field o t f) (slot.Global n) h = absurd (cc)

-- ---- what a slot held at entry

-- the world after the first touch of a slot with this content
abbrev HoldsIn : World → Param → Content → Type 0
HoldsIn w k c = content_holds (length (with_content w c).accounts) k c ≡ true

old_chosen : (w : World) (c : Choice) → is_old w c ≡ true → HoldsAfter w param.ObjectOrNull (value_of c)
old_chosen w (choice.Object k) h =
    object_chosen w (choice.Object k) (and_left (nat_le k (length w.accounts)) (not (is_made w k)) h)
old_chosen w choice.Null h = absurd (cc)
old_chosen w (choice.Int z) h = absurd (cc)
old_chosen w choice.Text h = absurd (cc)
old_chosen w (choice.Given k) h = absurd (cc)
old_chosen w (choice.Failed k) h = absurd (cc)

content_chosen : (w : World) (k : Param) (c : Choice) → is_slot_kind k ≡ true → is_content w k c ≡ true
    → HoldsAfter w k (value_of c)
content_chosen w param.ObjectOrNull c s h =
    lemma.either (is_null c) (is_old w c) (null_chosen w param.ObjectOrNull c refl) (old_chosen w c) h
content_chosen w param.Int c s h =
    number_chosen w param.Int (negsuc (2 ^ 31 - 1)) (pos (2 ^ 31 - 1)) c (λ z e. e) h
content_chosen w param.Long c s h =
    number_chosen w param.Long (negsuc (2 ^ 63 - 1)) (pos (2 ^ 63 - 1)) c (λ z e. e) h
content_chosen w param.Size c s h =
    number_chosen w param.Size (negsuc (2 ^ 63 - 1)) (pos (2 ^ 63 - 1)) c (λ z e. e) h
content_chosen w param.TextOrNull c s h =
    lemma.either (is_null c) (is_text c) (null_chosen w param.TextOrNull c refl) (text_chosen w c) h
content_chosen w _ c s h = absurd (cc)

record IsEntered (w : World) (k : Param) (choices : List Choice) (r : Content × ℕ) : Type 0 where
  grows : Grows w (with_content w r.0) r.1
  used : r.1 ≤ length choices
  holds : HoldsIn w k r.0

found : (w : World) (k : Param) (choices : List Choice) (r : Content × ℕ) → is_slot_kind k ≡ true
    → find_content w k choices ≡ Ok r → IsEntered w k choices r
found w k [] r s e = absurd (cc)
found w k (c ∷ choices) r s e = by (is_content w k c) refl e
  where
    by : (b : Bool) → is_content w k c ≡ b → (if b then Ok (Holds (value_of c), 1) else Err NeedsChoice) ≡ Ok r
        → IsEntered w k (c ∷ choices) r
    by true h f =
        subst (λ q. IsEntered w k (c ∷ choices) q) (same_ok (Holds (value_of c), 1) r f) (record {
          grows = grows_with w (value_of c);
          used = omega arith;
          holds = content_chosen w k c s h;
        })
    by false h f = absurd (cc)

entered : (w : World) (s : Slot) (k : Param) (choices : List Choice) (r : Content × ℕ) → is_slot_kind k ≡ true
    → enter w s k choices ≡ Ok r → IsEntered w k choices r
entered w s k choices r i e = by (is_fresh w s) e
  where
    by : (b : Bool) → (if b then Ok (Unset, 0) else find_content w k choices) ≡ Ok r → IsEntered w k choices r
    by true f =
        subst (λ q. IsEntered w k choices q) (same_ok (Unset, 0) r f) (record {
          grows = grows_same w w 0 (same w);
          used = omega arith;
          holds = refl;
        })
    by false f = found w k choices r i f

-- ---- the slots that were touched

module _ (codes : Codes) where
  pub more_slot : (n m : ℕ) (s : Slot) (c : Content) → n ≤ m → SlotHolds codes n s c → SlotHolds codes m s c
  more_slot n m s c le h q of is = lemma.more_content n m (place_kind q) c le (h q of is)

  pub more_slots : (n m : ℕ) (slots : List SlotState) → n ≤ m → SlotsHold codes n slots → SlotsHold codes m slots
  more_slots n m [] le h = tt
  more_slots n m (t ∷ slots) le h = (more_slot n m t.slot t.held le h.0, more_slots n m slots le h.1)

  slot_read : (n : ℕ) (slots : List SlotState) (i : ℕ) → SlotsHold codes n slots
      → SlotHolds codes n (get_or slots i no_slot).slot (get_or slots i no_slot).held
  slot_read n [] i h = λ q of is. refl
  slot_read n (t ∷ slots) zero h = h.0
  slot_read n (t ∷ slots) (suc i) h = slot_read n slots i h.1

  slot_put : (n : ℕ) (slots : List SlotState) (i : ℕ) (t : SlotState) → SlotsHold codes n slots
      → SlotHolds codes n t.slot t.held → SlotsHold codes n (slice_set slots i t)
  slot_put n [] i t h k = tt
  slot_put n (u ∷ slots) zero t h k = (k, h.1)
  slot_put n (u ∷ slots) (suc i) t h k = (h.0, slot_put n slots i t h.1 k)

  slot_new : (n : ℕ) (slots : List SlotState) (t : SlotState) → SlotsHold codes n slots
      → SlotHolds codes n t.slot t.held → SlotsHold codes n (slots ++ t ∷ [])
  slot_new n [] t h k = (k, tt)
  slot_new n (u ∷ slots) t h k = (h.0, slot_new n slots t h.1 k)

  -- `one`: each place that names the slot is of one kind
  module _ (s : Slot) (kind : Param) (is_kind : is_slot_kind kind ≡ true)
      (one : (q : Place) → IsPlaceOf codes q → is_place_of s q ≡ true → place_kind q ≡ kind) where
    pub by_kind : (n : ℕ) (c : Content) → content_holds n kind c ≡ true → SlotHolds codes n s c
    by_kind n c h q of is = subst (λ k. content_holds n k c ≡ true) (sym (one q of is)) h

    -- so is each place that names it by another touch
    of_same : (n : ℕ) (t : Slot) (c : Content) → is_same t s ≡ true → SlotHolds codes n s c → SlotHolds codes n t c
    of_same n t c e h q of is = h q of (names_same s t q e is)

    record IsTouched (w : World) (choices : List Choice) (r : Touch × World) : Type 0 where
      least : length w.accounts ≤ length r.1.accounts
      most : length r.1.accounts ≤ length w.accounts + r.0.used
      used : r.0.used ≤ length choices
      slots : SlotsHold codes (length r.1.accounts) r.1.slots
      same : is_same (slot_at r.1 r.0.place).slot s ≡ true

    touched_first : (w : World) (choices : List Choice) (r : Content × ℕ) → SlotsHold codes (length w.accounts) w.slots
        → IsEntered w kind choices r
        → IsTouched w choices (record { place = length w.slots; used = r.1 }, with_slot (with_content w r.0) s r.0)
    touched_first w choices r h e =
        let v = with_content w r.0 in
        let t : SlotState = record { slot = s; at_entry = r.0; held = r.0 } in
        let old = more_slots (length w.accounts) (length v.accounts) w.slots e.grows.least h in
        let all = subst (λ slots. SlotsHold codes (length v.accounts) slots) (sym e.grows.slots) old in
        let last : get_or (v.slots ++ t ∷ []) (length w.slots) no_slot
        ≡ t = ap (λ (slots : List SlotState). get_or (v.slots ++ t ∷ []) (length slots) no_slot) (sym e.grows.slots)
        ∙ get_or-append_seam v.slots t [] no_slot in
        record {
          least = e.grows.least;
          most = e.grows.most;
          used = e.used;
          slots = slot_new (length v.accounts) v.slots t all (by_kind (length v.accounts) r.0 e.holds);
          same = subst (λ (u : SlotState). is_same u.slot s ≡ true) (sym last) (same_self s);
        }

    touched_at : (w : World) (choices : List Choice) (o : Option ℕ) (r : Touch × World) → place_of w.slots s ≡ o
        → SlotsHold codes (length w.accounts) w.slots → touch_at w s kind choices o ≡ Ok r → IsTouched w choices r
    touched_at w choices (Some i) r at h e =
        subst (λ q. IsTouched w choices q) (same_ok (record { place = i; used = 0 }, w) r e) (record {
          least = omega arith;
          most = omega arith;
          used = omega arith;
          slots = h;
          same = (position-Some (λ (t : SlotState). is_same t.slot s) w.slots i no_slot at).1;
        })
    touched_at w choices None r at h e = after (enter w s kind choices) refl e
      where
        after : (o : Result (Content × ℕ) Halt) → enter w s kind choices ≡ o
            → (o >>= λ q. Ok (record { place = length w.slots; used = q.1 }, with_slot (with_content w q.0) s q.0))
            ≡ Ok r
            → IsTouched w choices r
        after (Ok q) f k =
            subst (λ p. IsTouched w choices p)
            (same_ok (record { place = length w.slots; used = q.1 }, with_slot (with_content w q.0) s q.0) r k)
            (touched_first w choices q h (entered w s kind choices q is_kind f))
        after (Err x) f k = absurd (cc)

    touched : (w : World) (choices : List Choice) (r : Touch × World) → SlotsHold codes (length w.accounts) w.slots
        → touch w s kind choices ≡ Ok r → IsTouched w choices r
    touched w choices r h e = touched_at w choices (place_of w.slots s) r refl h e

    -- ---- loads and stores

    pub record IsLoaded (w : World) (choices : List Choice) (r : Effect × World) : Type 0 where
      pub least : length w.accounts ≤ length r.1.accounts
      pub most : length r.1.accounts ≤ length w.accounts + r.0.used
      pub used : r.0.used ≤ length choices
      pub slots : SlotsHold codes (length r.1.accounts) r.1.slots
      pub value : Value
      pub there : r.0.value ≡ Some value
      pub holds : SlotHolds codes (length r.1.accounts) s (Holds value)

    pub record IsStored (w : World) (choices : List Choice) (r : Effect × World) : Type 0 where
      pub least : length w.accounts ≤ length r.1.accounts
      pub most : length r.1.accounts ≤ length w.accounts + r.0.used
      pub used : r.0.used ≤ length choices
      pub slots : SlotsHold codes (length r.1.accounts) r.1.slots

    loaded_so : (w : World) (choices : List Choice) (t : Touch × World) (v : Value) → IsTouched w choices t
        → (slot_at t.1 t.0.place).held ≡ Holds v → IsLoaded w choices (effect (Some v) t.0.used, t.1)
    loaded_so w choices t v is e = record {
      least = is.least;
      most = is.most;
      used = is.used;
      slots = is.slots;
      value = v;
      there = refl;
      holds = λ q of named. subst (λ c. content_holds (length t.1.accounts) (place_kind q) c ≡ true) e
          (slot_read (length t.1.accounts) t.1.slots t.0.place is.slots q of
          (names_same (slot_at t.1 t.0.place).slot s q (same_turned (slot_at t.1 t.0.place).slot s is.same) named));
    }

    pub loaded : (w : World) (choices : List Choice) (r : Effect × World)
        → SlotsHold codes (length w.accounts) w.slots → load_effect w s kind choices ≡ Ok r → IsLoaded w choices r
    loaded w choices r h e = after (touch w s kind choices) refl e
      where
        read : (t : Touch × World) (c : Content) → IsTouched w choices t → (slot_at t.1 t.0.place).held ≡ c
            → after_load c t.0.used t.1 ≡ Ok r → IsLoaded w choices r
        read t Unset is f k = absurd (cc)
        read t (Holds v) is f k =
            subst (λ p. IsLoaded w choices p) (same_ok (effect (Some v) t.0.used, t.1) r k)
            (loaded_so w choices t v is f)

        after : (o : Result (Touch × World) Halt) → touch w s kind choices ≡ o
            → (o >>= λ t. after_load (slot_at t.1 t.0.place).held t.0.used t.1) ≡ Ok r → IsLoaded w choices r
        after (Ok t) f k = read t (slot_at t.1 t.0.place).held (touched w choices t h f) refl k
        after (Err x) f k = absurd (cc)

    stored_so : (w : World) (choices : List Choice) (t : Touch × World) (v : Value) → IsTouched w choices t
        → holds_value (length t.1.accounts) kind v ≡ true
        → IsStored w choices (effect None t.0.used, put_at t.1 t.0.place v)
    stored_so w choices t v is h =
        let old = slot_at t.1 t.0.place in
        record {
          least = is.least;
          most = is.most;
          used = is.used;
          slots = slot_put (length t.1.accounts) t.1.slots t.0.place (record old { held = Holds v }) is.slots
              (of_same (length t.1.accounts) old.slot (Holds v) is.same (by_kind (length t.1.accounts) (Holds v) h));
        }

    pub stored : (w : World) (v : Value) (choices : List Choice) (r : Effect × World)
        → SlotsHold codes (length w.accounts) w.slots → holds_value (length w.accounts) kind v ≡ true
        → store_effect w s kind v choices ≡ Ok r → IsStored w choices r
    stored w v choices r h held e = after (touch w s kind choices) refl e
      where
        after : (o : Result (Touch × World) Halt) → touch w s kind choices ≡ o
            → (o >>= λ t. Ok (effect None t.0.used, put_at t.1 t.0.place v)) ≡ Ok r → IsStored w choices r
        after (Ok t) f k =
            let is = touched w choices t h f in
            subst (λ p. IsStored w choices p) (same_ok (effect None t.0.used, put_at t.1 t.0.place v) r k)
            (stored_so w choices t v is (lemma.more_objects (length w.accounts) (length t.1.accounts) kind v is.least
            held))
        after (Err x) f k = absurd (cc)
