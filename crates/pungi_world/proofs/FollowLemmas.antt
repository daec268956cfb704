-- How far the world after a step is from the one before it.
use Rattle.std.proofs.Common.{◌≡◌, ℕ, ◌+◌, ◌≤◌, Bool, true, false, List, [], ◌∷◌, ◌++◌, length, ◌==◌}
use Rattle.std.proofs.Common.{arith, refl, sym, subst, ap}
use Rattle.std.specs.Prelude.{ℤ, pos, ◌+ℤ◌, if◌then◌else◌}
use Rattle.std.proofs.lemmas.List.{length-set, length-append}
use Rattle.pungi_base.specs.declared.value.Value.{Value}
use Rattle.pungi_base.specs.declared.value.Value.TheVariants as value
use Rattle.pungi_world.specs.declared.slot.SlotState.{SlotState}
use Rattle.pungi_world.specs.declared.world.World.{World}
use Rattle.pungi_world.specs.World.{fresh_account, account_of}
use Rattle.pungi_world.specs.Counts.{with_value, count_value, mark_made, hand_over, IsWithin, AreWithin}
use Rattle.pungi_world.specs.Follows.{AreDistinct, Follows}
use Rattle.pungi_world.proofs.CountLemmas.{within_more, within_counted_value, within_marked, within_handed_over}
use Rattle.pungi_world.proofs.CountLemmas.{within_with_value}

-- ---- one step after another

pub follows_then : (a b c : World) (objects more slots others by further : ℕ) → Follows a b objects slots by
    → Follows b c more others further → Follows a c (objects + more) (slots + others) (by + further)
follows_then a b c objects more slots others by further first second = record {
  more_objects = omega (arith, first.more_objects, second.more_objects);
  few_objects = omega (arith, first.few_objects, second.few_objects);
  more_slots = omega (arith, first.more_slots, second.more_slots);
  few_slots = omega (arith, first.few_slots, second.few_slots);
  within = λ most within. within_more c (most + by + further) (most + (by + further)) (omega arith)
      (second.within (most + by) (first.within most within));
  distinct = λ d. second.distinct (first.distinct d);
}

pub follows_later : (a b : World) (objects more slots others by further : ℕ) → objects ≤ more → slots ≤ others
    → by ≤ further → Follows a b objects slots by → Follows a b more others further
follows_later a b objects more slots others by further le_objects le_slots le_by follows = record {
  more_objects = follows.more_objects;
  few_objects = omega (arith, follows.few_objects);
  more_slots = follows.more_slots;
  few_slots = omega (arith, follows.few_slots);
  within = λ most within. within_more b (most + by) (most + further) (omega arith) (follows.within most within);
  distinct = follows.distinct;
}

-- what leaves the slots alone
same_slots : (old new : World) (objects by : ℕ) → new.slots ≡ old.slots → length old.accounts ≤ length new.accounts
    → length new.accounts ≤ length old.accounts + objects
    → ((most : ℕ) → AreWithin most old → AreWithin (most + by) new) → Follows old new objects 0 by
same_slots old new objects by same more few within =
    let long : length new.slots ≡ length old.slots = ap length same in
    let Distinct : List SlotState → Type 0 = λ slots. AreDistinct slots in
    record {
      more_objects = more;
      few_objects = few;
      more_slots = omega (arith, long);
      few_slots = omega (arith, long);
      within = within;
      distinct = λ d. subst Distinct (sym same) d;
    }

pub follows_self : (w : World) → Follows w w 0 0 0
follows_self w =
    same_slots w w 0 0 refl (omega arith) (omega arith) (λ most within. within_more w most (most + 0) (omega arith)
    within)

-- ---- the steps

length_counted : (w : World) (x : Value) (by : ℤ) → length (count_value w x by).accounts ≡ length w.accounts
length_counted w (value.Object k) by =
    length-set w.accounts k (record (account_of w k) { change = (account_of w k).change +ℤ by })
length_counted w value.Null by = refl
length_counted w (value.Int n) by = refl
length_counted w value.Text by = refl

slots_counted : (w : World) (x : Value) (by : ℤ) → (count_value w x by).slots ≡ w.slots
slots_counted w (value.Object k) by = refl
slots_counted w value.Null by = refl
slots_counted w (value.Int n) by = refl
slots_counted w value.Text by = refl

pub follows_counted : (w : World) (x : Value) (by : ℤ) → IsWithin 1 by → Follows w (count_value w x by) 0 0 1
follows_counted w x by one =
    same_slots w (count_value w x by) 0 1 (slots_counted w x by) (omega (arith, length_counted w x by))
    (omega (arith, length_counted w x by)) (λ most within. within_counted_value w x most by one within)

length_marked : (w : World) (x : Value) → length (mark_made w x).accounts ≡ length w.accounts
length_marked w (value.Object k) = length-set w.accounts k (record (account_of w k) { made = true })
length_marked w value.Null = refl
length_marked w (value.Int n) = refl
length_marked w value.Text = refl

slots_marked : (w : World) (x : Value) → (mark_made w x).slots ≡ w.slots
slots_marked w (value.Object k) = refl
slots_marked w value.Null = refl
slots_marked w (value.Int n) = refl
slots_marked w value.Text = refl

pub follows_marked : (w : World) (x : Value) → Follows w (mark_made w x) 0 0 0
follows_marked w x =
    same_slots w (mark_made w x) 0 0 (slots_marked w x) (omega (arith, length_marked w x))
    (omega (arith, length_marked w x)) (λ most within. within_more (mark_made w x) most (most + 0) (omega arith)
    (within_marked w x most within))

length_handed : (w : World) (x : Value) → length (hand_over w x).accounts ≡ length w.accounts
length_handed w (value.Object k) =
    length-set w.accounts k (record (account_of w k) { handed = (account_of w k).handed +ℤ pos 1 })
length_handed w value.Null = refl
length_handed w (value.Int n) = refl
length_handed w value.Text = refl

slots_handed : (w : World) (x : Value) → (hand_over w x).slots ≡ w.slots
slots_handed w (value.Object k) = refl
slots_handed w value.Null = refl
slots_handed w (value.Int n) = refl
slots_handed w value.Text = refl

pub follows_handed : (w : World) (x : Value) → Follows w (hand_over w x) 0 0 1
follows_handed w x =
    same_slots w (hand_over w x) 0 1 (slots_handed w x) (omega (arith, length_handed w x))
    (omega (arith, length_handed w x)) (λ most within. within_handed_over w x most within)

pushed_many : (b : Bool) (w : World) → (length w.accounts
    ≤ length (if b then record w { accounts = w.accounts ++ fresh_account ∷ [] } else w).accounts)
    × (length (if b then record w { accounts = w.accounts ++ fresh_account ∷ [] } else w).accounts
    ≤ length w.accounts + 1)
pushed_many true w = (
  omega (arith, length-append w.accounts (fresh_account ∷ [])),
  omega (
    arith,
    length-append w.accounts
        (fresh_account ∷ []),
  ),
)
pushed_many false w = (omega arith, omega arith)

same_if_pushed : (b : Bool) (w : World) → (if b then record w { accounts = w.accounts ++ fresh_account ∷ [] } else
    w).slots ≡ w.slots
same_if_pushed true w = refl
same_if_pushed false w = refl

pub slots_there : (w : World) (x : Value) → (with_value w x).slots ≡ w.slots
slots_there w (value.Object k) = same_if_pushed (k == length w.accounts) w
slots_there w value.Null = refl
slots_there w (value.Int n) = refl
slots_there w value.Text = refl

pub follows_there : (w : World) (x : Value) → Follows w (with_value w x) 1 0 0
follows_there w (value.Object k) =
    same_slots w (with_value w (value.Object k)) 1 0 (same_if_pushed (k == length w.accounts) w)
    (pushed_many (k == length w.accounts) w).0 (pushed_many (k == length w.accounts) w).1
    (λ most within. within_more (with_value w (value.Object k)) most (most + 0) (omega arith)
    (within_with_value w (value.Object k) most within))
follows_there w value.Null = follows_later w w 0 1 0 0 0 0 (omega arith) (omega arith) (omega arith) (follows_self w)
follows_there w (value.Int n) = follows_later w w 0 1 0 0 0 0 (omega arith) (omega arith) (omega arith) (follows_self w)
follows_there w value.Text = follows_later w w 0 1 0 0 0 0 (omega arith) (omega arith) (omega arith) (follows_self w)
