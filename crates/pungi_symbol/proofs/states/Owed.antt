-- What an object is owed after a change of the world.
use Rattle.std.proofs.Common.{◌≡◌, ◌≢◌, ℕ, zero, suc, ◌+◌, ◌<◌, ◌≤◌, ℤ, pos, negsuc, ◌+ℤ◌, ◌-ℤ◌, List, [], ◌∷◌, ◌++◌}
use Rattle.std.proofs.Common.{length, get_or, Bool, true, false, refl, sym, ap, ◌∙◌, subst, arith, inl, inr, cond}
use Rattle.std.proofs.Common.{eq-eqb, length-append}
use Rattle.std.specs.Prelude.{slice_set, ◌==◌, ◌||◌}
use Rattle.std.proofs.lemmas.Int.{ints}
use Rattle.std.proofs.lemmas.Bool.{cases_eq}
use Rattle.std.proofs.lemmas.Bool.Decides.{eqb_tells}
use Rattle.std.proofs.lemmas.List.{get_or-set_same, get_or-set_other}
use Rattle.std.proofs.lemmas.List.Sums.{sum_by-set, sum_by-append}
use Rattle.pungi_base.specs.declared.value.Value.{Value}
use Rattle.pungi_world.specs.declared.account.Account.{Account}
use Rattle.pungi_world.specs.declared.content.Content.{Content}
use Rattle.pungi_world.specs.declared.content.Content.TheVariants as content
use Rattle.pungi_world.specs.declared.slot.Slot.{Slot}
use Rattle.pungi_world.specs.declared.slot.SlotState.{SlotState}
use Rattle.pungi_world.specs.declared.world.World.{World}
use Rattle.pungi_world.specs.Counts.{count, handed, made, with_object}
use Rattle.pungi_world.specs.Escapes.{is_this_object, holds_object, held_now, held_at_entry}
use Rattle.pungi_world.specs.Slots.{slot_at, no_slot, with_slot, put_at}
use Rattle.pungi_world.specs.World.{fresh_account, account_of}
use Rattle.pungi_symbol.specs.runs.RunInState.{owed}
use Rattle.pungi_symbol.proofs.states.NamedObjects.{part}

-- the same objects were made
abbrev pub AreSameMade : World → World → Type 0
AreSameMade w w' = (o : ℕ) → (account_of w' o).made ≡ (account_of w o).made

or_true : (b : Bool) → (b || true) ≡ true
or_true true = refl
or_true false = refl

or_false : (b : Bool) → (b || false) ≡ b
or_false true = refl
or_false false = refl

part_other : (k o : ℕ) (d : ℤ) → o ≢ k → part (k == o) d ≡ pos 0
part_other k o d ne = elim (eqb_tells k o) [
  | inl h ↦ absurd (ne (sym h.1))
  | inr h ↦ ap (λ b. part b d) h.0
]

part_same : (k o : ℕ) (d : ℤ) → o ≡ k → part (k == o) d ≡ d
part_same k o d e = ap (λ b. part b d) (eq-eqb k o (sym e))

-- an account is replaced
abbrev pub Replaced : World → ℕ → Account → World
Replaced w k a = record w { accounts = slice_set w.accounts k a }

up_change : (c h x y d p : ℤ) → p ≡ d → ((c +ℤ d -ℤ h -ℤ x) +ℤ y) ≡ ((c -ℤ h -ℤ x) +ℤ y) +ℤ p
up_change c h x y d p e = omega (arith, ints, e)

up_handed : (c h x y p : ℤ) → p ≡ negsuc 0 → ((c -ℤ (h +ℤ pos 1) -ℤ x) +ℤ y) ≡ ((c -ℤ h -ℤ x) +ℤ y) +ℤ p
up_handed c h x y p e = omega (arith, ints, e)

no_more : (z p : ℤ) → p ≡ pos 0 → z ≡ z +ℤ p
no_more z p e = omega (arith, ints, e)

abbrev OwedBy : World → Account → ℕ → ℤ
OwedBy w a o = (a.change -ℤ a.handed -ℤ pos (held_now w o)) +ℤ pos (held_at_entry w o)

pub owed_counted : (w : World) (k : ℕ) (by : ℤ) (o : ℕ) → k < length w.accounts
    → owed (count w k by) o ≡ owed w o +ℤ part (k == o) by
owed_counted w k by o lt =
    let a : Account = record (account_of w k) { change = (account_of w k).change +ℤ by } in
    elim (cases_eq o k) [
      | inl e ↦
          let here : account_of (count w k by) o ≡ a = ap (λ z. get_or (slice_set w.accounts k a) z fresh_account) e
          ∙ get_or-set_same w.accounts k a fresh_account lt in
          ap (λ z. OwedBy w z o) here
          ∙ up_change (account_of w k).change (account_of w k).handed (pos (held_now w o)) (pos (held_at_entry w o))
          by (part (k == o) by) (part_same k o by e)
          ∙ ap (λ z. OwedBy w (account_of w z) o +ℤ part (k == o) by) (sym e)
      | inr ne ↦
          let here : account_of (count w k by) o ≡ account_of w o = get_or-set_other w.accounts k o a fresh_account
          ne in
          ap (λ z. OwedBy w z o) here ∙ no_more (owed w o) (part (k == o) by) (part_other k o by ne)
    ]

pub owed_handed : (w : World) (k o : ℕ) → k < length w.accounts
    → owed (handed w k) o ≡ owed w o +ℤ part (k == o) (negsuc 0)
owed_handed w k o lt =
    let a : Account = record (account_of w k) { handed = (account_of w k).handed +ℤ pos 1 } in
    elim (cases_eq o k) [
      | inl e ↦
          let here : account_of (handed w k) o ≡ a = ap (λ z. get_or (slice_set w.accounts k a) z fresh_account) e
          ∙ get_or-set_same w.accounts k a fresh_account lt in
          ap (λ z. OwedBy w z o) here
          ∙ up_handed (account_of w k).change (account_of w k).handed (pos (held_now w o)) (pos (held_at_entry w o))
          (part (k == o) (negsuc 0)) (part_same k o (negsuc 0) e)
          ∙ ap (λ z. OwedBy w (account_of w z) o +ℤ part (k == o) (negsuc 0)) (sym e)
      | inr ne ↦
          let here : account_of (handed w k) o ≡ account_of w o = get_or-set_other w.accounts k o a fresh_account ne in
          ap (λ z. OwedBy w z o) here ∙ no_more (owed w o) (part (k == o) (negsuc 0)) (part_other k o (negsuc 0) ne)
    ]

-- an object is added
account_end : (l : List Account) (o : ℕ) → get_or (l ++ fresh_account ∷ []) o fresh_account ≡ get_or l o fresh_account
account_end [] zero = refl
account_end [] (suc o) = refl
account_end (a ∷ l) zero = refl
account_end (a ∷ l) (suc o) = account_end l o

abbrev pub Added : World → World
Added w = record w { accounts = w.accounts ++ fresh_account ∷ [] }

added_owed : (w : World) (b : Bool) (o : ℕ) → owed (cond b (Added w) w) o ≡ owed w o
added_owed w true o = ap (λ a. OwedBy w a o) (account_end w.accounts o)
added_owed w false o = refl

pub owed_object : (w : World) (k o : ℕ) → owed (with_object w k) o ≡ owed w o
owed_object w k o = added_owed w (k == length w.accounts) o

pub added_slots : (w : World) (b : Bool) → (cond b (Added w) w).slots ≡ w.slots
added_slots w true = refl
added_slots w false = refl

pub object_slots : (w : World) (k : ℕ) → (with_object w k).slots ≡ w.slots
object_slots w k = added_slots w (k == length w.accounts)

added_more : (w : World) (b : Bool) → length w.accounts ≤ length (cond b (Added w) w).accounts
added_more w true = let e = length-append w.accounts (fresh_account ∷ []) in omega (arith, e)
added_more w false = omega arith

pub object_more : (w : World) (k : ℕ) → length w.accounts ≤ length (with_object w k).accounts
object_more w k = added_more w (k == length w.accounts)

pub object_there : (w : World) (k : ℕ) → k ≤ length w.accounts → k < length (with_object w k).accounts
object_there w k le = elim (eqb_tells k (length w.accounts)) [
  | inl h ↦ subst (λ b. k < length (cond b (Added w) w).accounts) (sym h.0)
      (let e = length-append w.accounts (fresh_account ∷ []) in let z = h.1 in omega (arith, e, z))
  | inr h ↦ subst (λ b. k < length (cond b (Added w) w).accounts) (sym h.0) (let z = h.1 in omega (arith, z, le))
]

added_made : (w : World) (b : Bool) → AreSameMade w (cond b (Added w) w)
added_made w true o = ap (λ a. a.made) (account_end w.accounts o)
added_made w false o = refl

pub object_made : (w : World) (k : ℕ) → AreSameMade w (with_object w k)
object_made w k = added_made w (k == length w.accounts)

-- an account is replaced by one that was made where it was
pub replaced_made : (w : World) (k : ℕ) (a : Account) → a.made ≡ (account_of w k).made → AreSameMade w (Replaced w k a)
replaced_made w k a is o = each w.accounts k o is
  where
    each : (l : List Account) (k o : ℕ) → a.made ≡ (get_or l k fresh_account).made
        → (get_or (slice_set l k a) o fresh_account).made ≡ (get_or l o fresh_account).made
    each [] k o e = refl
    each (b ∷ l) zero zero e = e
    each (b ∷ l) zero (suc o) e = refl
    each (b ∷ l) (suc k) zero e = refl
    each (b ∷ l) (suc k) (suc o) e = each l k o e

-- an object is marked as made: what it is owed stays
pub marked_made : (w : World) (k o : ℕ) → k < length w.accounts
    → (account_of (made w k) o).made ≡ ((account_of w o).made || (k == o))
marked_made w k o lt =
    let a : Account = record (account_of w k) { made = true } in
    elim (cases_eq o k) [
      | inl e ↦
          ap (λ z. (get_or (slice_set w.accounts k a) z fresh_account).made) e
          ∙ ap (λ z. z.made) (get_or-set_same w.accounts k a fresh_account lt)
          ∙ sym (ap (λ b. (account_of w o).made || b) (eq-eqb k o (sym e)) ∙ or_true (account_of w o).made)
      | inr ne ↦
          ap (λ z. z.made) (get_or-set_other w.accounts k o a fresh_account ne)
          ∙ sym (ap (λ b. (account_of w o).made || b) (off ne) ∙ or_false (account_of w o).made)
    ]
  where
    off : o ≢ k → (k == o) ≡ false
    off ne = elim (eqb_tells k o) [ inl h ↦ absurd (ne (sym h.1)) | inr h ↦ h.0 ]

pub owed_marked : (w : World) (k o : ℕ) → k < length w.accounts → owed (made w k) o ≡ owed w o
owed_marked w k o lt =
    let a : Account = record (account_of w k) { made = true } in
    elim (cases_eq o k) [
      | inl e ↦
          let here : account_of (made w k) o ≡ a = ap (λ z. get_or (slice_set w.accounts k a) z fresh_account) e
          ∙ get_or-set_same w.accounts k a fresh_account lt in
          ap (λ z. OwedBy w z o) here ∙ ap (λ z. OwedBy w (account_of w z) o) (sym e)
      | inr ne ↦ ap (λ z. OwedBy w z o) (get_or-set_other w.accounts k o a fresh_account ne)
    ]

-- ---- slots

abbrev Ones : (SlotState → Bool) → SlotState → ℕ
Ones p s = cond (p s) 1 0

pos_sum : (a b : ℕ) → pos (a + b) ≡ pos a +ℤ pos b
pos_sum a b = omega (arith, ints)

both_more : (c h x y z n : ℤ) → n ≡ z → ((c -ℤ h -ℤ (x +ℤ n)) +ℤ (y +ℤ z)) ≡ ((c -ℤ h -ℤ x) +ℤ y)
both_more c h x y z n e = omega (arith, ints, e)

pub owed_slot : (w : World) (s : Slot) (x : Content) (o : ℕ) → owed (with_slot w s x) o ≡ owed w o
owed_slot w s x o =
    let new : SlotState = record { slot = s; at_entry = x; held = x } in
    let p = λ (t : SlotState). holds_object t.held o in
    let q = λ (t : SlotState). holds_object t.at_entry o in
    let now : held_now (with_slot w s x) o ≡ held_now w o
    + cond (holds_object x o) 1 0 = sum_by-append (Ones p) w.slots (new ∷ []) ∙ (omega arith) in
    let before : held_at_entry (with_slot w s x) o ≡ held_at_entry w o
    + cond (holds_object x o) 1 0 = sum_by-append (Ones q) w.slots (new ∷ []) ∙ (omega arith) in
    let c = (account_of w o).change in
    let h = (account_of w o).handed in
    let one = cond (holds_object x o) 1 0 in
    ap (λ z. (c -ℤ h -ℤ pos z) +ℤ pos (held_at_entry (with_slot w s x) o)) now
    ∙ ap (λ z. (c -ℤ h -ℤ pos (held_now w o + one)) +ℤ pos z) before
    ∙ (omega (arith, ints))

part_one : (b : Bool) → pos (cond b 1 0) ≡ part b (pos 1)
part_one true = refl
part_one false = refl

part_down : (b : Bool) → part b (negsuc 0) ≡ pos 0 -ℤ pos (cond b 1 0)
part_down true = refl
part_down false = refl

moved : (c h y : ℤ) (new old one next : ℕ) (up down : ℤ) → new + one ≡ old + next → pos one ≡ up
    → down ≡ pos 0 -ℤ pos next
    → ((c -ℤ h -ℤ pos new) +ℤ y) ≡ ((((c -ℤ h -ℤ pos old) +ℤ y) +ℤ up) +ℤ down)
moved c h y new old one next up down e f g = omega (arith, ints, e, f, g)

pub owed_stored : (w : World) (i : ℕ) (x : Value) (o : ℕ) → i < length w.slots
    → owed (put_at w i x) o ≡ (owed w o +ℤ part (holds_object (slot_at w i).held o) (pos 1)) +ℤ part
    (is_this_object x o) (negsuc 0)
owed_stored w i x o lt =
    let new : SlotState = record (slot_at w i) { held = content.Holds x } in
    let p = λ (t : SlotState). holds_object t.held o in
    let q = λ (t : SlotState). holds_object t.at_entry o in
    let now = sum_by-set (Ones p) w.slots i new no_slot lt in
    let before = sum_by-set (Ones q) w.slots i new no_slot lt in
    let same : held_at_entry (put_at w i x) o ≡ held_at_entry w o = omega (arith, before) in
    let c = (account_of w o).change in
    let h = (account_of w o).handed in
    ap (λ z. (c -ℤ h -ℤ pos (held_now (put_at w i x) o)) +ℤ pos z) same
    ∙ moved c h (pos (held_at_entry w o)) (held_now (put_at w i x) o) (held_now w o)
    (cond (holds_object (slot_at w i).held o) 1 0) (cond (is_this_object x o) 1 0)
    (part (holds_object (slot_at w i).held o) (pos 1)) (part (is_this_object x o) (negsuc 0)) now
    (part_one (holds_object (slot_at w i).held o)) (part_down (is_this_object x o))
