-- Where slots stand in a world, and what they hold.
--   found w s         what a slot holds, if it was touched
use Rattle.std.proofs.Common.{◌≡◌, ◌≢◌, ℕ, ◌+◌, ◌<◌, ◌≤◌, List, [], ◌∷◌, ◌++◌, length, get_or, Bool, true}
use Rattle.std.proofs.Common.{false, refl, sym, ap, ◌∙◌, arith, inl, inr, cond, Option, Some, None}
use Rattle.std.proofs.Common.{length-append, zero, suc}
use Rattle.std.specs.Prelude.{slice_set, position, nat_lt, ◌==◌, ◌&&◌}
use Rattle.std.specs.List.{position_or_len}
use Rattle.std.proofs.lemmas.Bool.{cases_lt}
use Rattle.std.proofs.lemmas.Bool.Decides.{nat_tests}
use Rattle.std.proofs.lemmas.List.{get_or_append_left, get_or-set_same, get_or-set_other}
use Rattle.std.proofs.lemmas.List.Folds.{position_or_len-set}
use Rattle.std.proofs.lemmas.List.Quantifiers.{position-Some}
use Rattle.std.proofs.lemmas.List.Sums.{position_or_len_is, fails_before_first}
use Rattle.std.proofs.Math.ListN.{length-set}
use Rattle.std.proofs.Math.Seq.{get_or-append_seam}
use Rattle.pungi_base.specs.declared.value.Value.{Value}
use Rattle.pungi_world.specs.declared.content.Content.{Content}
use Rattle.pungi_world.specs.declared.content.Content.TheVariants as content
use Rattle.pungi_world.specs.declared.slot.Slot.{Slot}
use Rattle.pungi_world.specs.declared.slot.Slot.TheVariants.{Global, Field}
use Rattle.pungi_world.specs.declared.slot.SlotState.{SlotState}
use Rattle.pungi_world.specs.declared.world.World.{World}
use Rattle.pungi_world.specs.Slots.{is_same, place_of, no_slot, slot_at, with_slot, put_at}
use Rattle.pungi_shape.specs.Described.{content_in}
use Rattle.pungi_shape.proofs.sound.Tests.{both_true, eqb_is, lt_true, name_is}
use Rattle.pungi_shape.proofs.sound.Tests.{eqb_self}

-- ---- the first place at which a test passes

lt_false : (a b : ℕ) → b ≤ a → nat_lt a b ≡ false
lt_false a b h = grind (arith, nat_tests)

module _ {X : Type 0} (p : X → Bool) (xs : List X) (d : X) where
  pub position_is : (i : ℕ) → i < length xs → p (get_or xs i d) ≡ true
      → ((k : ℕ) → k < i → p (get_or xs k d) ≡ false) → position p xs ≡ Some i
  position_is i lt here before =
      let e : position_or_len p xs ≡ i = position_or_len_is p xs i d (omega (arith, lt)) before (λ _. here) in
      ap (λ n. cond (nat_lt n (length xs)) (Some n) None) e ∙ ap (λ b. cond b (Some i) None) (lt_true i (length xs) lt)

  pub position_none_is : ((k : ℕ) → k < length xs → p (get_or xs k d) ≡ false) → position p xs ≡ None
  position_none_is before =
      let e : position_or_len p xs ≡ length xs = position_or_len_is p xs (length xs) d (omega arith) before
      (λ h. absurd (omega (arith, h))) in
      ap (λ n. cond (nat_lt n (length xs)) (Some n) None) e
      ∙ ap (λ b. cond b (Some (length xs)) None) (lt_false (length xs) (length xs) (omega arith))

  pub none_before : position p xs ≡ None → (k : ℕ) → k < length xs → p (get_or xs k d) ≡ false
  none_before e k lt = elim (cases_lt (position_or_len p xs) (length xs)) [
    | inl h ↦ absurd (let bad : Some (position_or_len p xs)
        ≡ None = sym (ap (λ b. cond b (Some (position_or_len p xs)) None) (lt_true (position_or_len p xs) (length xs)
        h)) ∙ e in cc)
    | inr h ↦ fails_before_first p xs k d (omega (arith, lt, h))
  ]

  pub position_set : (i : ℕ) (y : X) → p y ≡ p (get_or xs i d) → position p (slice_set xs i y) ≡ position p xs
  position_set i y e =
      ap (λ n. cond (nat_lt n (length (slice_set xs i y))) (Some n) None) (position_or_len-set p xs i y d e)
      ∙ ap (λ n. cond (nat_lt (position_or_len p xs) n) (Some (position_or_len p xs)) None) (length-set xs i y)

-- ---- which slots are one

pub same_is : (s t : Slot) → is_same s t ≡ true → s ≡ t
same_is (Global m) (Global n) e = ap Global (name_is m n e)
same_is (Global m) (Field p u g) e = absurd (let bad : false ≡ true = e in cc)
same_is (Field o t f) (Global n) e = absurd (let bad : false ≡ true = e in cc)
same_is (Field o t f) (Field p u g) e =
    let one = both_true (o == p && (t.0 == u.0)) (f.0 == g.0) e in
    let two = both_true (o == p) (t.0 == u.0) one.0 in
    ap (λ k. Field k t f) (eqb_is o p two.0) ∙ ap (λ z. Field p z f) (name_is t u two.1)
    ∙ ap (λ z. Field p u z) (name_is f g one.1)

pub same_self : (s : Slot) → is_same s s ≡ true
same_self (Global m) = eqb_self m.0
same_self (Field o t f) =
    ap (λ b. b && (t.0 == t.0) && (f.0 == f.0)) (eqb_self o) ∙ ap (λ b. b && (f.0 == f.0)) (eqb_self t.0)
    ∙ eqb_self f.0

pub other_is : (s t : Slot) → s ≢ t → is_same s t ≡ false
other_is s t ne = by (is_same s t) refl
  where
    by : (b : Bool) → is_same s t ≡ b → is_same s t ≡ false
    by true e = absurd (ne (same_is s t e))
    by false e = e

-- ---- what a slot holds

abbrev pub found : World → Slot → Option Content
found w s = content_in w (place_of w.slots s)

abbrev test : Slot → SlotState → Bool
test s t = is_same t.slot s

-- a slot at its place
pub placed : (w : World) (s : Slot) (i : ℕ) → place_of w.slots s ≡ Some i
    → (i < length w.slots) × ((slot_at w i).slot ≡ s)
placed w s i e =
    let f = position-Some (test s) w.slots i no_slot e in
    (f.0, same_is (slot_at w i).slot s f.1)

pub found_at : (w : World) (s : Slot) (i : ℕ) → place_of w.slots s ≡ Some i → found w s ≡ Some (slot_at w i).held
found_at w s i e = ap (content_in w) e

pub found_none : (w : World) (s : Slot) → place_of w.slots s ≡ None → found w s ≡ None
found_none w s e = ap (content_in w) e

-- a slot that holds something stands somewhere
pub found_some : (w : World) (s : Slot) (c : Content) → found w s ≡ Some c
    → (i : ℕ) × (place_of w.slots s ≡ Some i) × ((slot_at w i).held ≡ c)
found_some w s c e = by (place_of w.slots s) refl e
  where
    by : (r : Option ℕ) → place_of w.slots s ≡ r → content_in w r ≡ Some c
        → (i : ℕ) × (place_of w.slots s ≡ Some i) × ((slot_at w i).held ≡ c)
    by None f g = absurd (let bad : None ≡ Some c = g in cc)
    by (Some i) f g = (i, f, (let is : Some (slot_at w i).held ≡ Some c = g in cc))

-- what it is by its slots alone
pub found_same : (v w : World) (s : Slot) → v.slots ≡ w.slots → found v s ≡ found w s
found_same v w s e = ap (λ (l : List SlotState). by_slots l (place_of l s)) e
  where
    by_slots : List SlotState → Option ℕ → Option Content
    by_slots l None = None
    by_slots l (Some i) = Some (get_or l i no_slot).held

-- ---- one more slot

abbrev new_state : Slot → Content → SlotState
new_state s x = record { slot = s; at_entry = x; held = x }

module _ (w : World) (s : Slot) (x : Content) where
  abbrev later : List SlotState
  later = w.slots ++ new_state s x ∷ []

  long : length later ≡ length w.slots + 1
  long = length-append w.slots (new_state s x ∷ [])

  pub slot_before : (i : ℕ) → i < length w.slots → slot_at (with_slot w s x) i ≡ slot_at w i
  slot_before i lt = get_or_append_left w.slots (new_state s x ∷ []) no_slot i lt

  pub slot_new : slot_at (with_slot w s x) (length w.slots) ≡ new_state s x
  slot_new = get_or-append_seam w.slots (new_state s x) [] no_slot

  -- slots that were touched stay where they are
  pub pushed_place : (z : Slot) (i : ℕ) → place_of w.slots z ≡ Some i → place_of later z ≡ Some i
  pushed_place z i e =
      let f = position-Some (test z) w.slots i no_slot e in
      let g = f.0 in
      let l = long in
      position_is (test z) later no_slot i (omega (arith, g, l))
      (ap (λ t. test z t) (slot_before i f.0) ∙ f.1)
      (λ k lt. ap (λ t. test z t) (slot_before k (omega (arith, g, lt))) ∙ f.2 k lt)

  pub pushed_old : (z : Slot) (c : Content) → found w z ≡ Some c → found (with_slot w s x) z ≡ Some c
  pushed_old z c e =
      let f = found_some w z c e in
      let lt = (placed w z f.0 f.1).0 in
      found_at (with_slot w s x) z f.0 (pushed_place z f.0 f.1)
      ∙ ap (λ (t : SlotState). Some t.held) (slot_before f.0 lt) ∙ ap Some f.2

  -- the new one stands last
  pub pushed_new_place : place_of w.slots s ≡ None → place_of later s ≡ Some (length w.slots)
  pushed_new_place e =
      let l = long in
      position_is (test s) later no_slot (length w.slots) (omega (arith, l))
      (ap (λ t. test s t) slot_new ∙ same_self s)
      (λ k lt. ap (λ t. test s t) (slot_before k lt) ∙ none_before (test s) w.slots no_slot e k lt)

  pub pushed_new : place_of w.slots s ≡ None → found (with_slot w s x) s ≡ Some x
  pushed_new e =
      found_at (with_slot w s x) s (length w.slots) (pushed_new_place e)
      ∙ ap (λ (t : SlotState). Some t.held) slot_new

  -- one that wasn't touched isn't touched by that of another
  pub pushed_none : (z : Slot) → s ≢ z → place_of w.slots z ≡ None → place_of later z ≡ None
  pushed_none z ne e = position_none_is (test z) later no_slot each
    where
      each : (k : ℕ) → k < length later → test z (get_or later k no_slot) ≡ false
      each k lt = elim (cases_lt k (length w.slots)) [
        | inl h ↦ ap (λ t. test z t) (slot_before k h) ∙ none_before (test z) w.slots no_slot e k h
        | inr h ↦
            let l = long in
            let last : k ≡ length w.slots = omega (arith, l, lt, h) in
            ap (λ (n : ℕ). test z (get_or later n no_slot)) last ∙ ap (λ t. test z t) slot_new ∙ other_is s z ne
      ]

  pub pushed_other : (z : Slot) → s ≢ z → found (with_slot w s x) z ≡ found w z
  pushed_other z ne = by (place_of w.slots z) refl
    where
      by : (r : Option ℕ) → place_of w.slots z ≡ r → found (with_slot w s x) z ≡ found w z
      by None e = found_none (with_slot w s x) z (pushed_none z ne e) ∙ sym (found_none w z e)
      by (Some i) e =
          pushed_old z (slot_at w i).held (found_at w z i e) ∙ sym (found_at w z i e)

-- ---- a store

module _ (w : World) (i : ℕ) (x : Value) where
  abbrev put_state : SlotState
  put_state = record (slot_at w i) { held = content.Holds x }

  pub put_long : length (put_at w i x).slots ≡ length w.slots
  put_long = length-set w.slots i put_state

  pub put_place : (z : Slot) → place_of (put_at w i x).slots z ≡ place_of w.slots z
  put_place z = position_set (test z) w.slots no_slot i put_state refl

  pub put_here : i < length w.slots → (slot_at (put_at w i x) i).held ≡ content.Holds x
  put_here lt = ap (λ (t : SlotState). t.held) (get_or-set_same w.slots i put_state no_slot lt)

  pub put_there : (j : ℕ) → j ≢ i → slot_at (put_at w i x) j ≡ slot_at w j
  put_there j ne = get_or-set_other w.slots i j put_state no_slot ne

  pub put_found : (z : Slot) → place_of w.slots z ≡ Some i → found (put_at w i x) z ≡ Some (content.Holds x)
  put_found z e =
      found_at (put_at w i x) z i (put_place z ∙ e) ∙ ap Some (put_here (placed w z i e).0)

  pub put_other : (s z : Slot) → place_of w.slots s ≡ Some i → s ≢ z → found (put_at w i x) z ≡ found w z
  put_other s z e ne = by (place_of w.slots z) refl
    where
      by : (r : Option ℕ) → place_of w.slots z ≡ r → found (put_at w i x) z ≡ found w z
      by None f = found_none (put_at w i x) z (put_place z ∙ f) ∙ sym (found_none w z f)
      by (Some j) f =
          let apart : j ≢ i = λ h. ne (sym (placed w s i e).1 ∙ ap (λ n. (slot_at w n).slot) (sym h)
          ∙ (placed w z j f).1) in
          found_at (put_at w i x) z j (put_place z ∙ f) ∙ ap (λ (t : SlotState). Some t.held) (put_there j apart)
          ∙ sym (found_at w z j f)

-- a store over a store is the last one
set_twice : (l : List SlotState) (i : ℕ) (a b : SlotState) → slice_set (slice_set l i a) i b ≡ slice_set l i b
set_twice [] i a b = refl
set_twice (s ∷ l) zero a b = refl
set_twice (s ∷ l) (suc i) a b = ap (λ r. s ∷ r) (set_twice l i a b)

pub put_twice : (w : World) (i : ℕ) (x y : Value) → i < length w.slots → put_at (put_at w i x) i y ≡ put_at w i y
put_twice w i x y lt =
    let a : SlotState = record (slot_at w i) { held = content.Holds x } in
    let b : SlotState = record (slot_at w i) { held = content.Holds y } in
    ap (λ (t : SlotState). let u : World = record w {
      slots = slice_set (slice_set w.slots i a) i (record t { held = content.Holds y });
    } in u) (get_or-set_same w.slots i a no_slot lt)
    ∙ ap (λ (l : List SlotState). let u : World = record w { slots = l } in u) (set_twice w.slots i a b)
