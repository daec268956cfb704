-- The debt of an object after a change of the world: by how much its count has changed, less the references to it that
-- escaped.
--   part b d          a part of a number: d, where something holds, and else 0
--   Added w           one more object
use Rattle.std.proofs.Common.{◌≡◌, ◌≢◌, ℕ, zero, suc, ◌+◌, ◌<◌, ℤ, pos, negsuc, ◌+ℤ◌, ◌-ℤ◌, List, [], ◌∷◌, ◌++◌}
use Rattle.std.proofs.Common.{length, get_or, Bool, true, false, refl, sym, ap, ◌∙◌, arith, inl, inr, cond}
use Rattle.std.proofs.Common.{eq-eqb}
use Rattle.std.specs.Prelude.{slice_set, ◌==◌, if◌then◌else◌}
use Rattle.std.proofs.lemmas.Int.{ints}
use Rattle.std.proofs.lemmas.Bool.{cases_eq}
use Rattle.std.proofs.lemmas.Bool.Decides.{eqb_tells}
use Rattle.std.proofs.lemmas.List.{get_or-set_same, get_or-set_other}
use Rattle.std.proofs.lemmas.List.Sums.{sum_by-set, sum_by-append}
use Rattle.pungi_base.specs.declared.value.Value.{Value}
use Rattle.pungi_world.specs.declared.account.Account.{Account}
use Rattle.pungi_world.specs.declared.content.Content.{Content}
use Rattle.pungi_world.specs.declared.content.Content.TheVariants as content
use Rattle.pungi_world.specs.declared.slot.Slot.{Slot}
use Rattle.pungi_world.specs.declared.slot.SlotState.{SlotState}
use Rattle.pungi_world.specs.declared.world.World.{World}
use Rattle.pungi_world.specs.Counts.{count, made, handed, with_object}
use Rattle.pungi_world.specs.Escapes.{is_this_object, holds_object, held_now, held_at_entry}
use Rattle.pungi_world.specs.Slots.{slot_at, no_slot, with_slot, put_at}
use Rattle.pungi_world.specs.World.{fresh_account, account_of}
use Rattle.pungi_shape.specs.Described.{debt}

abbrev pub part : Bool → ℤ → ℤ
part b d = if b then d else pos 0

pub part_other : (k o : ℕ) (d : ℤ) → o ≢ k → part (k == o) d ≡ pos 0
part_other k o d ne = elim (eqb_tells k o) [
  | inl h ↦ absurd (ne (sym h.1))
  | inr h ↦ ap (λ b. part b d) h.0
]

pub part_same : (k o : ℕ) (d : ℤ) → o ≡ k → part (k == o) d ≡ d
part_same k o d e = ap (λ b. part b d) (eq-eqb k o (sym e))

-- ---- accounts

abbrev debt_by : World → Account → ℕ → ℤ
debt_by w a o = a.change -ℤ (a.handed +ℤ pos (held_now w o) -ℤ pos (held_at_entry w o))

up_change : (c h x y d p : ℤ) → p ≡ d
    → (c +ℤ d -ℤ (h +ℤ x -ℤ y)) ≡ (c -ℤ (h +ℤ x -ℤ y)) +ℤ p
up_change c h x y d p e = omega (arith, ints, e)

up_handed : (c h x y p : ℤ) → p ≡ negsuc 0
    → (c -ℤ ((h +ℤ pos 1) +ℤ x -ℤ y)) ≡ (c -ℤ (h +ℤ x -ℤ y)) +ℤ p
up_handed c h x y p e = omega (arith, ints, e)

no_more : (z p : ℤ) → p ≡ pos 0 → z ≡ z +ℤ p
no_more z p e = omega (arith, ints, e)

pub debt_counted : (w : World) (k : ℕ) (by : ℤ) (o : ℕ) → k < length w.accounts
    → debt (count w k by) o ≡ debt w o +ℤ part (k == o) by
debt_counted w k by o lt =
    let a : Account = record (account_of w k) { change = (account_of w k).change +ℤ by } in
    elim (cases_eq o k) [
      | inl e ↦
          let here : account_of (count w k by) o ≡ a = ap (λ z. get_or (slice_set w.accounts k a) z fresh_account) e
          ∙ get_or-set_same w.accounts k a fresh_account lt in
          ap (λ z. debt_by w z o) here
          ∙ up_change (account_of w k).change (account_of w k).handed (pos (held_now w o)) (pos (held_at_entry w o))
          by (part (k == o) by) (part_same k o by e)
          ∙ ap (λ z. debt_by w (account_of w z) o +ℤ part (k == o) by) (sym e)
      | inr ne ↦
          let here : account_of (count w k by) o ≡ account_of w o = get_or-set_other w.accounts k o a fresh_account
          ne in
          ap (λ z. debt_by w z o) here ∙ no_more (debt w o) (part (k == o) by) (part_other k o by ne)
    ]

pub debt_handed : (w : World) (k o : ℕ) → k < length w.accounts
    → debt (handed w k) o ≡ debt w o +ℤ part (k == o) (negsuc 0)
debt_handed w k o lt =
    let a : Account = record (account_of w k) { handed = (account_of w k).handed +ℤ pos 1 } in
    elim (cases_eq o k) [
      | inl e ↦
          let here : account_of (handed w k) o ≡ a = ap (λ z. get_or (slice_set w.accounts k a) z fresh_account) e
          ∙ get_or-set_same w.accounts k a fresh_account lt in
          ap (λ z. debt_by w z o) here
          ∙ up_handed (account_of w k).change (account_of w k).handed (pos (held_now w o)) (pos (held_at_entry w o))
          (part (k == o) (negsuc 0)) (part_same k o (negsuc 0) e)
          ∙ ap (λ z. debt_by w (account_of w z) o +ℤ part (k == o) (negsuc 0)) (sym e)
      | inr ne ↦
          let here : account_of (handed w k) o ≡ account_of w o = get_or-set_other w.accounts k o a fresh_account ne in
          ap (λ z. debt_by w z o) here ∙ no_more (debt w o) (part (k == o) (negsuc 0)) (part_other k o (negsuc 0) ne)
    ]

pub debt_marked : (w : World) (k o : ℕ) → k < length w.accounts → debt (made w k) o ≡ debt w o
debt_marked w k o lt =
    let a : Account = record (account_of w k) { made = true } in
    elim (cases_eq o k) [
      | inl e ↦
          let here : account_of (made w k) o ≡ a = ap (λ z. get_or (slice_set w.accounts k a) z fresh_account) e
          ∙ get_or-set_same w.accounts k a fresh_account lt in
          ap (λ z. debt_by w z o) here ∙ ap (λ z. debt_by w (account_of w z) o) (sym e)
      | inr ne ↦
          let here : account_of (made w k) o ≡ account_of w o = get_or-set_other w.accounts k o a fresh_account ne in
          ap (λ z. debt_by w z o) here
    ]

-- ---- one more object

pub account_end : (l : List Account) (o : ℕ)
    → get_or (l ++ fresh_account ∷ []) o fresh_account ≡ get_or l o fresh_account
account_end [] zero = refl
account_end [] (suc o) = refl
account_end (a ∷ l) zero = refl
account_end (a ∷ l) (suc o) = account_end l o

abbrev pub Added : World → World
Added w = record w { accounts = w.accounts ++ fresh_account ∷ [] }

added_debt : (w : World) (b : Bool) (o : ℕ) → debt (cond b (Added w) w) o ≡ debt w o
added_debt w true o = ap (λ a. debt_by w a o) (account_end w.accounts o)
added_debt w false o = refl

pub debt_object : (w : World) (k o : ℕ) → debt (with_object w k) o ≡ debt w o
debt_object w k o = added_debt w (k == length w.accounts) o

-- ---- slots

abbrev ones : (SlotState → Bool) → SlotState → ℕ
ones p s = cond (p s) 1 0

both_more : (c h x y z n m : ℤ) → n ≡ x +ℤ z → m ≡ y +ℤ z
    → (c -ℤ (h +ℤ n -ℤ m)) ≡ (c -ℤ (h +ℤ x -ℤ y))
both_more c h x y z n m e f = omega (arith, ints, e, f)

pos_sum : (n a b : ℕ) → n ≡ a + b → pos n ≡ pos a +ℤ pos b
pos_sum n a b e = omega (arith, ints, e)

pub debt_slot : (w : World) (s : Slot) (x : Content) (o : ℕ) → debt (with_slot w s x) o ≡ debt w o
debt_slot w s x o =
    let new : SlotState = record { slot = s; at_entry = x; held = x } in
    let p = λ (t : SlotState). holds_object t.held o in
    let q = λ (t : SlotState). holds_object t.at_entry o in
    let one = cond (holds_object x o) 1 0 in
    let now : held_now (with_slot w s x) o ≡ held_now w o
    + one = sum_by-append (ones p) w.slots (new ∷ []) ∙ (omega arith) in
    let before : held_at_entry (with_slot w s x) o ≡ held_at_entry w o
    + one = sum_by-append (ones q) w.slots (new ∷ []) ∙ (omega arith) in
    both_more (account_of w o).change (account_of w o).handed (pos (held_now w o)) (pos (held_at_entry w o)) (pos one)
    (pos (held_now (with_slot w s x) o)) (pos (held_at_entry (with_slot w s x) o))
    (pos_sum (held_now (with_slot w s x) o) (held_now w o) one now)
    (pos_sum (held_at_entry (with_slot w s x) o) (held_at_entry w o) one before)

part_one : (b : Bool) → pos (cond b 1 0) ≡ part b (pos 1)
part_one true = refl
part_one false = refl

part_down : (b : Bool) → part b (negsuc 0) ≡ pos 0 -ℤ pos (cond b 1 0)
part_down true = refl
part_down false = refl

moved : (c h y : ℤ) (new old one next : ℕ) (up down : ℤ) → new + one ≡ old + next → pos one ≡ up
    → down ≡ pos 0 -ℤ pos next
    → (c -ℤ (h +ℤ pos new -ℤ y)) ≡ ((c -ℤ (h +ℤ pos old -ℤ y)) +ℤ up) +ℤ down
moved c h y new old one next up down e f g = omega (arith, ints, e, f, g)

pub debt_stored : (w : World) (i : ℕ) (x : Value) (o : ℕ) → i < length w.slots
    → debt (put_at w i x) o ≡ (debt w o +ℤ part (holds_object (slot_at w i).held o) (pos 1)) +ℤ part
    (is_this_object x o) (negsuc 0)
debt_stored w i x o lt =
    let new : SlotState = record (slot_at w i) { held = content.Holds x } in
    let p = λ (t : SlotState). holds_object t.held o in
    let q = λ (t : SlotState). holds_object t.at_entry o in
    let now = sum_by-set (ones p) w.slots i new no_slot lt in
    let before = sum_by-set (ones q) w.slots i new no_slot lt in
    let same : held_at_entry (put_at w i x) o ≡ held_at_entry w o = omega (arith, before) in
    let c = (account_of w o).change in
    let h = (account_of w o).handed in
    ap (λ z. c -ℤ (h +ℤ pos (held_now (put_at w i x) o) -ℤ pos z)) same
    ∙ moved c h (pos (held_at_entry w o)) (held_now (put_at w i x) o) (held_now w o)
    (cond (holds_object (slot_at w i).held o) 1 0) (cond (is_this_object x o) 1 0)
    (part (holds_object (slot_at w i).held o) (pos 1)) (part (is_this_object x o) (negsuc 0)) now
    (part_one (holds_object (slot_at w i).held o)) (part_down (is_this_object x o))
