-- The kinds of touched slots.
--   SlotsSuit code w    each touched slot holds a value, one of the kind with which the code names it
--   AllSuit file w      so it is with each code of a file
--   KindOf code place   a place of the code
use Rattle.std.proofs.Common.{◌≡◌, ℕ, ◌+◌, ◌<◌, ◌≤◌, ◌≢◌, List, [], ◌∷◌, zero, suc, Bool, length, get_or, true, false}
use Rattle.std.proofs.Common.{refl}
use Rattle.std.proofs.Common.{sym, ap, ◌∙◌, subst, arith, inl, inr, Option, Some, None, length-append}
use Rattle.std.specs.Prelude.{slice_set, slice_get, ◌==◌, nat_lt}
use Rattle.std.proofs.lemmas.Bool.{cases_eq, cases_lt}
use Rattle.std.proofs.lemmas.Bool.Decides.{nat_tests}
use Rattle.std.proofs.lemmas.List.{get_or-set_same, get_or-set_other}
use Rattle.std.proofs.Math.ListN.{length-set}
use Rattle.pungi_base.specs.declared.value.Value.{Value}
use Rattle.pungi_base.specs.declared.value.Value.TheVariants as value
use Rattle.pungi_api.specs.declared.param.Param.{Param}
use Rattle.pungi_world.specs.declared.content.Content.{Content}
use Rattle.pungi_world.specs.declared.content.Content.TheVariants.{Holds}
use Rattle.pungi_world.specs.declared.slot.Slot.{Slot}
use Rattle.pungi_world.specs.declared.slot.Slot.TheVariants as slots
use Rattle.pungi_shape.specs.declared.tracked.Spot.TheVariants as spots
use Rattle.pungi_base.specs.declared.names.Name.{Name}
use Rattle.std.specs.List.{list_any}
use Rattle.pungi_world.specs.declared.slot.SlotState.{SlotState}
use Rattle.pungi_world.specs.declared.world.World.{World}
use Rattle.pungi_world.specs.Slots.{slot_at, no_slot, place_of, with_slot, put_at}
use Rattle.pungi_code.specs.declared.code.Code.{Code}
use Rattle.pungi_code.specs.declared.code.Line.{Line}
use Rattle.pungi_code.specs.declared.place.Place.{Place}
use Rattle.pungi_code.specs.declared.place.Place.TheVariants.{Global, Field}
use Rattle.pungi_code.specs.WellFormed.{is_object, place_kind, place_of as place_in, is_same_slot, HaveOneKind}
use Rattle.pungi_code.specs.WellFormed.{AgreeOnKinds}
use Rattle.pungi_shape.proofs.sound.Views.{suits, names_slot, names_spot, is_object_field, holds_objects, IsHeldSo}
use Rattle.pungi_shape.proofs.sound.Views.{SuitsSlot, IsSlotOf, SlotsThere}
use Rattle.pungi_shape.proofs.sound.worlds.Places.{slot_before, slot_new, placed}
use Rattle.pungi_shape.proofs.sound.Tests.{both_true, both_are, either_true, true_or, or_true, eqb_is}

abbrev pub SlotsSuit : Code → World → Type 0
SlotsSuit code w = (i : ℕ) → i < length w.slots → SuitsSlot code w i

abbrev pub AllSuit : (Code → Type 0) → World → Type 0
AllSuit file w = (c : Code) → file c → SlotsSuit c w

-- an instruction of the code has this place
pub record KindOf (code : Code) (place : Place) : Type 0 where
  pub pc : ℕ
  pub line : Line
  pub is_there : slice_get code.instrs pc ≡ Some line
  pub place_is : place_in line.instr ≡ Some place

-- ---- more objects

lt_more : (o n m : ℕ) → n ≤ m → nat_lt o n ≡ true → nat_lt o m ≡ true
lt_more o n m le e = grind (arith, nat_tests)

pub suits_more : (n m : ℕ) (k : Param) (v : Value) → n ≤ m → suits n k v ≡ true → suits m k v ≡ true
suits_more n m k (value.Int i) le e = e
suits_more n m k value.Null le e = e
suits_more n m k value.Text le e = e
suits_more n m k (value.Object o) le e =
    let two = both_true (is_object k) (nat_lt o n) e in
    both_are (is_object k) (nat_lt o m) two.0 (lt_more o n m le two.1)

pub held_more : (n m : ℕ) (k : Param) (c : Content) → n ≤ m → IsHeldSo n k c → IsHeldSo m k c
held_more n m k c le h = record {
  value = h.value;
  holds = h.holds;
  suits_kind = suits_more n m k h.value le h.suits_kind;
}

-- the same slots, and more objects
pub suit_more : (code : Code) (w w' : World) → w'.slots ≡ w.slots → length w.accounts ≤ length w'.accounts
    → SlotsSuit code w → SlotsSuit code w'
suit_more code w w' same le suit i lt pc line place at is names =
    let here : slot_at w' i ≡ slot_at w i = ap (λ (l : List SlotState). get_or l i no_slot) same in
    let within : i < length w.slots = subst (λ (l : List SlotState). i < length l) same lt in
    let h = suit i within pc line place at is (sym (ap (λ (t : SlotState). names_slot place t.slot) here) ∙ names) in
    subst (λ (t : SlotState). IsHeldSo (length w'.accounts) (place_kind place) t.held) (sym here)
    (held_more (length w.accounts) (length w'.accounts) (place_kind place) (slot_at w i).held le h)

pub all_more : (file : Code → Type 0) (w w' : World) → w'.slots ≡ w.slots → length w.accounts ≤ length w'.accounts
    → AllSuit file w → AllSuit file w'
all_more file w w' same le suit c in_file = suit_more c w w' same le (suit c in_file)

-- ---- the objects of touched slots

pub slot_of_more : (n m : ℕ) (z : Slot) → n ≤ m → IsSlotOf n z → IsSlotOf m z
slot_of_more n m (slots.Global g) le h = tt
slot_of_more n m (slots.Field o tag field) le h = omega (arith, le, h)

pub there_more : (w w' : World) → w'.slots ≡ w.slots → length w.accounts ≤ length w'.accounts → SlotsThere w
    → SlotsThere w'
there_more w w' same le there i lt =
    let h = there i (subst (λ (l : List SlotState). i < length l) same lt) in
    slot_of_more (length w.accounts) (length w'.accounts) (slot_at w' i).slot le
    (subst (λ (l : List SlotState). IsSlotOf (length w.accounts) (get_or l i no_slot).slot) (sym same) h)

pub there_pushed : (w : World) (z : Slot) (c : Content) → IsSlotOf (length w.accounts) z → SlotsThere w
    → SlotsThere (with_slot w z c)
there_pushed w z c of there i lt = elim (cases_lt i (length w.slots)) [
  | inl before ↦ subst (λ (t : SlotState). IsSlotOf (length w.accounts) t.slot) (sym (slot_before w z c i before))
      (there i before)
  | inr past ↦
      let l : length (with_slot w z c).slots ≡ length w.slots + 1 = length-append w.slots _ in
      let last : i ≡ length w.slots = omega (arith, l, lt, past) in
      subst (λ (k : ℕ). IsSlotOf (length w.accounts) (slot_at (with_slot w z c) k).slot) (sym last)
      (subst (λ (t : SlotState). IsSlotOf (length w.accounts) t.slot) (sym (slot_new w z c)) of)
]

pub there_put : (w : World) (i : ℕ) (x : Value) → SlotsThere w → SlotsThere (put_at w i x)
there_put w i x there j lt =
    let t : SlotState = record (slot_at w i) { held = Holds x } in
    let l : length (slice_set w.slots i t) ≡ length w.slots = length-set w.slots i t in
    let before = there j (omega (arith, lt, l)) in
    elim (cases_eq j i) [
      | inl same ↦
          let here : slot_at (put_at w i x) j ≡ t = ap (λ (k : ℕ). slot_at (put_at w i x) k) same
          ∙ get_or-set_same w.slots i t no_slot (omega (arith, lt, l, same)) in
          subst (λ (u : SlotState). IsSlotOf (length w.accounts) u.slot) (sym here)
          (subst (λ (k : ℕ). IsSlotOf (length w.accounts) (slot_at w k).slot) same before)
      | inr ne ↦
          let here : slot_at (put_at w i x) j ≡ slot_at w j = get_or-set_other w.slots i j t no_slot ne in
          subst (λ (u : SlotState). IsSlotOf (length w.accounts) u.slot) (sym here) before
    ]

pub there_at : (w : World) (q : Slot) (i : ℕ) → SlotsThere w → place_of w.slots q ≡ Some i
    → IsSlotOf (length w.accounts) q
there_at w q i there e =
    let p = placed w q i e in
    subst (IsSlotOf (length w.accounts)) p.1 (there i p.0)

-- ---- places of one slot have one kind

eqb_two : (a b c : ℕ) → (a == c) ≡ true → (b == c) ≡ true → (a == b) ≡ true
eqb_two a b c e f = subst (λ x. (a == x) ≡ true) (sym (eqb_is b c f)) e

same_places : (p q : Place) (z : Slot) → names_slot p z ≡ true → names_slot q z ≡ true → is_same_slot p q ≡ true
same_places (Global n k) (Global m l) (slots.Global g) e f = eqb_two n.0 m.0 g.0 e f
same_places (Global n k) (Global m l) (slots.Field o t g) e f = absurd (let bad : false ≡ true = e in cc)
same_places (Global n k) (Field b t g l) (slots.Global h) e f = absurd (let bad : false ≡ true = f in cc)
same_places (Global n k) (Field b t g l) (slots.Field o u h) e f = absurd (let bad : false ≡ true = e in cc)
same_places (Field b t g k) (Global m l) (slots.Global h) e f = absurd (let bad : false ≡ true = e in cc)
same_places (Field b t g k) (Global m l) (slots.Field o u h) e f = absurd (let bad : false ≡ true = f in cc)
same_places (Field b t g k) (Field c u h l) (slots.Global n) e f = absurd (let bad : false ≡ true = e in cc)
same_places (Field b t g k) (Field c u h l) (slots.Field o x y) e f =
    let one = both_true (t.0 == x.0) (g.0 == y.0) e in
    let two = both_true (u.0 == x.0) (h.0 == y.0) f in
    both_are (t.0 == u.0) (g.0 == h.0) (eqb_two t.0 u.0 x.0 one.0 two.0) (eqb_two g.0 h.0 y.0 one.1 two.1)

pub one_kind : (code other : Code) (p q : Place) (z : Slot) → AgreeOnKinds code other → KindOf code p → KindOf other q
    → names_slot p z ≡ true → names_slot q z ≡ true → place_kind p ≡ place_kind q
one_kind code other p q z agree a b e f =
    by (place_in a.line.instr) (place_in b.line.instr) a.place_is b.place_is
    (agree a.pc b.pc a.line b.line a.is_there b.is_there)
  where
    by : (x y : Option Place) → x ≡ Some p → y ≡ Some q → HaveOneKind x y → place_kind p ≡ place_kind q
    by None y g h one = absurd (let bad : None ≡ Some p = g in cc)
    by (Some r) None g h one = absurd (let bad : None ≡ Some q = h in cc)
    by (Some r) (Some s) g h one =
        let is_p : r ≡ p = cc in
        let is_q : s ≡ q = cc in
        ap place_kind (sym is_p)
        ∙ one (ap (λ x. is_same_slot x s) is_p ∙ ap (is_same_slot p) is_q ∙ same_places p q z e f)
        ∙ ap place_kind is_q

-- ---- fields of objects

field_named : (place : Place) (o : ℕ) (tag field : Name)
    → names_slot place (slots.Field o tag field) ≡ names_spot place (spots.Field 0 tag field)
field_named (Global n k) o tag field = refl
field_named (Field base t f k) o tag field = refl

-- a place that names it, and holds objects
pub record FieldPlace (code : Code) (tag field : Name) : Type 0 where
  pub place : Place
  pub of : KindOf code place
  pub object : is_object (place_kind place) ≡ true
  pub named : (o : ℕ) → names_slot place (slots.Field o tag field) ≡ true

field_of_line : (code : Code) (pc : ℕ) (line : Line) (tag field : Name) → slice_get code.instrs pc ≡ Some line
    → (o : Option Place) → place_in line.instr ≡ o → is_object_field tag field o ≡ true → FieldPlace code tag field
field_of_line code pc line tag field there None e is = absurd (let bad : false ≡ true = is in cc)
field_of_line code pc line tag field there (Some place) e is =
    let two = both_true (names_spot place (spots.Field 0 tag field)) (is_object (place_kind place)) is in
    record {
      place = place;
      of = record { pc = pc; line = line; is_there = there; place_is = e };
      object = two.1;
      named = λ o. field_named place o tag field ∙ two.0;
    }

some_line : (p : Line → Bool) (ls : List Line) → list_any p ls ≡ true
    → (pc : ℕ) × ((line : Line) × ((slice_get ls pc ≡ Some line) × (p line ≡ true)))
some_line p [] e = absurd (let bad : false ≡ true = e in cc)
some_line p (l ∷ ls) e = elim (either_true (p l) (list_any p ls) e) [
  | inl h ↦ (0, (l, (refl, h)))
  | inr h ↦ let r = some_line p ls h in (suc r.0, r.1)
]

line_some : (p : Line → Bool) (ls : List Line) (pc : ℕ) (line : Line) → slice_get ls pc ≡ Some line
    → p line ≡ true → list_any p ls ≡ true
line_some p [] pc line there e = absurd (let bad : None ≡ Some line = there in cc)
line_some p (l ∷ ls) zero line there e =
    let same : l ≡ line = cc in
    true_or (p l) (list_any p ls) (ap p same ∙ e)
line_some p (l ∷ ls) (suc pc) line there e = or_true (p l) (list_any p ls) (line_some p ls pc line there e)

pub field_place : (code : Code) (tag field : Name) → holds_objects code tag field ≡ true → FieldPlace code tag field
field_place code tag field e =
    let f = some_line (λ (line : Line). is_object_field tag field (place_in line.instr)) code.instrs e in
    field_of_line code f.0 f.1.0 tag field f.1.1.0 (place_in f.1.0.instr) refl f.1.1.1

pub field_held : (code : Code) (place : Place) (o : ℕ) (tag field : Name) → KindOf code place
    → is_object (place_kind place) ≡ true → names_slot place (slots.Field o tag field) ≡ true
    → holds_objects code tag field ≡ true
field_held code place o tag field of object named =
    line_some (λ (line : Line). is_object_field tag field (place_in line.instr)) code.instrs of.pc of.line of.is_there
    (ap (is_object_field tag field) of.place_is
    ∙ both_are (names_spot place (spots.Field 0 tag field)) (is_object (place_kind place))
    (sym (field_named place o tag field) ∙ named) object)

-- ---- one more slot, and a store

module _ (code other : Code) (agree : AgreeOnKinds code other) (place : Place) (of : KindOf code place) (z : Slot)
    (names : names_slot place z ≡ true) where
  -- what suits the kind of one place suits those of all that name the slot
  suits_all : (n : ℕ) (c : Content) → IsHeldSo n (place_kind place) c → (q : Place) → KindOf other q
      → names_slot q z ≡ true → IsHeldSo n (place_kind q) c
  suits_all n c h q is e = subst (λ k. IsHeldSo n k c) (one_kind code other place q z agree of is names e) h

  -- a slot that stood there holds what it held
  pub suit_before : (w : World) (c : Content) (i : ℕ) → i < length w.slots → SuitsSlot other w i
      → SuitsSlot other (with_slot w z c) i
  suit_before w c i before suit pc line q at is e =
      let here = slot_before w z c i before in
      let old = suit pc line q at is (sym (ap (λ (t : SlotState). names_slot q t.slot) here) ∙ e) in
      subst (λ (t : SlotState). IsHeldSo (length w.accounts) (place_kind q) t.held) (sym here) old

  -- all slots suit where this one does, and all others
  pub suit_all : (w : World) (i : ℕ) → (slot_at w i).slot ≡ z
      → IsHeldSo (length w.accounts) (place_kind place) (slot_at w i).held
      → ((j : ℕ) → j < length w.slots → j ≢ i → SuitsSlot other w j) → SlotsSuit other w
  suit_all w i is_z h others j lt pc line q at is e = elim (cases_eq j i) [
    | inl same ↦
        let named : names_slot q z ≡ true = sym (ap (names_slot q) is_z)
        ∙ ap (λ (k : ℕ). names_slot q (slot_at w k).slot) (sym same) ∙ e in
        subst (λ (k : ℕ). IsHeldSo (length w.accounts) (place_kind q) (slot_at w k).held) (sym same)
        (suits_all (length w.accounts) (slot_at w i).held h q
        (record { pc = pc; line = line; is_there = at; place_is = is }) named)
    | inr ne ↦ others j lt ne pc line q at is e
  ]

  pub suit_put : (w : World) (i : ℕ) (x : Value) → i < length w.slots → (slot_at w i).slot ≡ z
      → suits (length w.accounts) (place_kind place) x ≡ true
      → ((j : ℕ) → j < length w.slots → j ≢ i → SuitsSlot other w j) → SlotsSuit other (put_at w i x)
  suit_put w i x within is_z h suit j lt pc line q at is e =
      let t : SlotState = record (slot_at w i) { held = Holds x } in
      elim (cases_eq j i) [
        | inl same ↦
            let here : slot_at (put_at w i x) j ≡ t = ap (λ (k : ℕ). slot_at (put_at w i x) k) same
            ∙ get_or-set_same w.slots i t no_slot within in
            let named : names_slot q z ≡ true = sym (ap (names_slot q) is_z)
            ∙ sym (ap (λ (u : SlotState). names_slot q u.slot) here) ∙ e in
            subst (λ (u : SlotState). IsHeldSo (length w.accounts) (place_kind q) u.held) (sym here)
            (suits_all (length w.accounts) (Holds x) (record { value = x; holds = refl; suits_kind = h }) q
            (record { pc = pc; line = line; is_there = at; place_is = is }) named)
        | inr ne ↦
            let here : slot_at (put_at w i x) j ≡ slot_at w j = get_or-set_other w.slots i j t no_slot ne in
            let l : length (slice_set w.slots i t) ≡ length w.slots = length-set w.slots i t in
            let old = suit j (omega (arith, lt, l)) ne pc line q at is
            (sym (ap (λ (u : SlotState). names_slot q u.slot) here) ∙ e) in
            subst (λ (u : SlotState). IsHeldSo (length w.accounts) (place_kind q) u.held) (sym here) old
      ]
