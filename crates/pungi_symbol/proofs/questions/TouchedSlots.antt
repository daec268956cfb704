-- The search among the touched slots finds the slot that a run touches.
use Rattle.std.proofs.Common.{◌≡◌, ℕ, ◌+◌, ◌-◌, ◌<◌, List, length, get_or, map, take, drop, Bool, true, false, refl}
use Rattle.std.proofs.Common.{sym, ap, ◌∙◌, arith, inl, inr, Option, Some, None, min}
use Rattle.std.specs.Prelude.{position, ◌==◌, ◌&&◌}
use Rattle.std.proofs.Math.ListN.{length-map, get_or-map}
use Rattle.std.proofs.lemmas.List.{get_or-take, get_or-drop, length-take, length-drop}
use Rattle.std.proofs.lemmas.List.Quantifiers.{position-Some}
use Rattle.pungi_base.specs.declared.names.Name.{Name}
use Rattle.pungi_world.specs.declared.slot.Slot.TheVariants as slot
use Rattle.pungi_world.specs.declared.slot.SlotState.{SlotState}
use Rattle.pungi_world.specs.Slots.{is_same, place_of as slot_place}
use Rattle.pungi_symbol.specs.declared.states.spot.Spot.{Spot}
use Rattle.pungi_symbol.specs.declared.states.spot.Spot.TheVariants.{Global, Field}
use Rattle.pungi_symbol.specs.declared.states.spot.Touched.{Touched}
use Rattle.pungi_symbol.specs.states.Terms.{Table, at}
use Rattle.pungi_symbol.specs.states.Known.{no_slot, slot_note, is_global, is_field, base_of}
use Rattle.pungi_symbol.specs.runs.RunInState.{number_of_object, slot_in, state_in}
use Rattle.pungi_symbol.proofs.questions.Firsts.{position_is, position_none_is, none_before, below_or}

both : (a b c : Bool) → (b && c) ≡ true → (a && b && c) ≡ a
both true b c e = e
both false b c e = refl

none_of : (a b c : Bool) → (b && c) ≡ false → (a && b && c) ≡ false
none_of true b c e = e
none_of false b c e = refl

module _ (table : Table) (tag field : Name) (o : ℕ) where
  abbrev Target : SlotState → Bool
  Target s = is_same s.slot (slot.Field o tag field)

  abbrev IsIt : Touched → Bool
  IsIt s = is_field tag field s.spot

  spot_other : (s : Spot) → is_field tag field s ≡ false → is_same (slot_in table s) (slot.Field o tag field) ≡ false
  spot_other (Global n) e = refl
  spot_other (Field u t f) e = none_of (number_of_object (at table u) == o) (t.0 == tag.0) (f.0 == field.0) e

  spot_same : (s : Spot) → is_field tag field s ≡ true
      → is_same (slot_in table s) (slot.Field o tag field) ≡ (number_of_object (at table (base_of s)) == o)
  spot_same (Global n) e = absurd (let bad : false ≡ true = e in cc)
  spot_same (Field u t f) e = both (number_of_object (at table u) == o) (t.0 == tag.0) (f.0 == field.0) e

  module _ (ts : List Touched) where
    abbrev L : List SlotState
    L = map (state_in table) ts

    abbrev D : SlotState
    D = state_in table no_slot

    at_L : (k : ℕ) → get_or L k D ≡ state_in table (get_or ts k no_slot)
    at_L k = get_or-map (state_in table) ts k no_slot

    long : length L ≡ length ts
    long = length-map ts (state_in table)

    passed : (c : ℕ) → slot_place (take c L) (slot.Field o tag field) ≡ None → (k : ℕ) → k < c → k < length L
        → Target (get_or L k D) ≡ false
    passed c e k kc kl =
        let len : length (take c L) ≡ min c (length L) = length-take c L in
        let lt : k < length (take c L) = omega (arith, len, kc, kl) in
        ap Target (sym (get_or-take c L k D kc)) ∙ none_before Target (take c L) D e k lt

    off : (k : ℕ) → IsIt (get_or ts k no_slot) ≡ false → Target (get_or L k D) ≡ false
    off k e = ap Target (at_L k) ∙ spot_other (get_or ts k no_slot).spot e

    pub walk_none : (c : ℕ) → slot_place (take c L) (slot.Field o tag field) ≡ None
        → position IsIt (drop c ts) ≡ None → slot_place L (slot.Field o tag field) ≡ None
    walk_none c e n = position_none_is Target L D (λ k kl. elim (below_or k c) [
      | inl kc ↦ passed c e k kc kl
      | inr ck ↦
          let len : length (drop c ts) ≡ length ts - c = length-drop c ts in
          let ll = long in
          let lt : k - c < length (drop c ts) = omega (arith, len, ll, kl, ck) in
          let here : IsIt (get_or (drop c ts) (k - c) no_slot)
          ≡ false = none_before IsIt (drop c ts) no_slot n (k - c) lt in
          let back : c + (k - c) ≡ k = omega (arith, ck) in
          off k (ap (λ z. IsIt (get_or ts z no_slot)) (sym back) ∙ ap IsIt (sym (get_or-drop c ts (k - c) no_slot))
          ∙ here)
    ])

    module _ (c j : ℕ) (e : slot_place (take c L) (slot.Field o tag field) ≡ None)
        (found : position IsIt (drop c ts) ≡ Some j) where
      facts : (j < length (drop c ts)) × (IsIt (get_or (drop c ts) j no_slot) ≡ true)
          × ((k : ℕ) → k < j → IsIt (get_or (drop c ts) k no_slot) ≡ false)
      facts = position-Some IsIt (drop c ts) j no_slot found

      pub walk_within : c + j < length ts
      walk_within =
          let len : length (drop c ts) ≡ length ts - c = length-drop c ts in
          let lt : j < length (drop c ts) = facts.0 in
          omega (arith, len, lt)

      pub walk_field : IsIt (get_or ts (c + j) no_slot) ≡ true
      walk_field = ap IsIt (sym (get_or-drop c ts j no_slot)) ∙ facts.1

      earlier : (k : ℕ) → k < c + j → Target (get_or L k D) ≡ false
      earlier k lt =
          let w = walk_within in
          let ll = long in
          elim (below_or k c) [
            | inl kc ↦ passed c e k kc (omega (arith, lt, w, ll))
            | inr ck ↦
                let kj : k - c < j = omega (arith, lt, ck) in
                let here : IsIt (get_or (drop c ts) (k - c) no_slot) ≡ false = facts.2 (k - c) kj in
                let back : c + (k - c) ≡ k = omega (arith, ck) in
                off k (ap (λ z. IsIt (get_or ts z no_slot)) (sym back)
                ∙ ap IsIt (sym (get_or-drop c ts (k - c) no_slot)) ∙ here)
          ]

      at_it : Target (get_or L (c + j) D) ≡ (number_of_object (at table (base_of (slot_note ts (c + j)).spot)) == o)
      at_it = ap Target (at_L (c + j)) ∙ spot_same (slot_note ts (c + j)).spot walk_field

      pub walk_found : (number_of_object (at table (base_of (slot_note ts (c + j)).spot)) == o) ≡ true
          → slot_place L (slot.Field o tag field) ≡ Some (c + j)
      walk_found same = let w = walk_within in let ll = long in position_is Target L D (c + j)
          (omega (arith, w, ll)) (at_it ∙ same) earlier

      pub walk_on : (number_of_object (at table (base_of (slot_note ts (c + j)).spot)) == o) ≡ false
          → slot_place (take (c + j + 1) L) (slot.Field o tag field) ≡ None
      walk_on other = position_none_is Target (take (c + j + 1) L) D (λ k kl.
          let len : length (take (c + j + 1) L) ≡ min (c + j + 1) (length L) = length-take (c + j + 1) L in
          let kc : k < c + j + 1 = omega (arith, len, kl) in
          ap Target (get_or-take (c + j + 1) L k D kc) ∙ elim (below_or k (c + j)) [
            | inl lt ↦ earlier k lt
            | inr ge ↦ let same : k ≡ c + j = omega (arith, kc, ge) in ap (λ z. Target (get_or L z D)) same ∙ at_it
                ∙ other
          ])

-- globals
module _ (table : Table) (n : Name) (ts : List Touched) where
  abbrev G : SlotState → Bool
  G s = is_same s.slot (slot.Global n)

  spot_global : (s : Spot) → is_same (slot_in table s) (slot.Global n) ≡ is_global n s
  spot_global (Global m) = refl
  spot_global (Field u t f) = refl

  pub global_place : slot_place (map (state_in table) ts) (slot.Global n) ≡ position (λ s. is_global n s.spot) ts
  global_place = by (position (λ s. is_global n s.spot) ts) refl
    where
      ll : length (map (state_in table) ts) ≡ length ts
      ll = length-map ts (state_in table)

      same : (k : ℕ) → G (get_or (map (state_in table) ts) k (state_in table no_slot))
          ≡ is_global n (get_or ts k no_slot).spot
      same k = ap G (get_or-map (state_in table) ts k no_slot) ∙ spot_global (get_or ts k no_slot).spot

      by : (r : Option ℕ) → position (λ s. is_global n s.spot) ts ≡ r
          → slot_place (map (state_in table) ts) (slot.Global n) ≡ r
      by None e = position_none_is G (map (state_in table) ts) (state_in table no_slot)
          (λ k lt. same k ∙ none_before (λ s. is_global n s.spot) ts no_slot e k (omega (arith, lt, ll)))
      by (Some i) e =
          let f = position-Some (λ s. is_global n s.spot) ts i no_slot e in
          position_is G (map (state_in table) ts) (state_in table no_slot) i (let h = f.0 in omega (arith, h, ll))
          (same i ∙ f.1) (λ k lt. same k ∙ f.2 k lt)
