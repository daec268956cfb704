-- The objects of values: which are there, and what is owed for them after a count, a reference that is handed over, and
-- an object that comes in.
--   IsOf n v, IsOfContent n c    the object of a value is among the first n; so is that of a content
--   IsNear n v        it is among them, or the next one
--   Keeps w w'        the objects and slots of a world are there in the next one, and what was made still is
use Rattle.std.proofs.Common.{◌≡◌, ℕ, zero, suc, ◌+◌, ◌<◌, ◌≤◌, ℤ, negsuc, ◌+ℤ◌, List, [], ◌∷◌, length, get_or, Bool}
use Rattle.std.proofs.Common.{true, false, refl, sym, ap, ◌∙◌, subst, arith, inl, inr, cond, length-append}
use Rattle.std.specs.Prelude.{slice_set, ◌==◌}
use Rattle.std.proofs.lemmas.Int.{ints}
use Rattle.std.proofs.lemmas.Bool.Decides.{eqb_tells}
use Rattle.std.proofs.lemmas.List.{get_or-set_same}
use Rattle.std.proofs.Math.ListN.{length-set}
use Rattle.pungi_base.specs.declared.value.Value.{Value}
use Rattle.pungi_base.specs.declared.value.Value.TheVariants as value
use Rattle.pungi_world.specs.declared.account.Account.{Account}
use Rattle.pungi_world.specs.declared.content.Content.{Content}
use Rattle.pungi_world.specs.declared.content.Content.TheVariants as content
use Rattle.pungi_world.specs.declared.world.World.{World}
use Rattle.pungi_world.specs.Counts.{with_object, with_value, count_value, mark_made, hand_over}
use Rattle.pungi_world.specs.Escapes.{is_this_object}
use Rattle.pungi_world.specs.World.{fresh_account, account_of}
use Rattle.pungi_shape.specs.Described.{debt}
use Rattle.pungi_shape.proofs.sound.worlds.Debts.{part, Added, account_end, debt_counted, debt_handed, debt_marked}
use Rattle.pungi_shape.proofs.sound.worlds.Debts.{debt_object}

abbrev pub IsOf : ℕ → Value → Type 0
IsOf n value.Null = Unit {0}
IsOf n (value.Object k) = k < n
IsOf n (value.Int m) = Unit {0}
IsOf n value.Text = Unit {0}

abbrev pub IsOfContent : ℕ → Content → Type 0
IsOfContent n content.Unset = Unit {0}
IsOfContent n (content.Holds v) = IsOf n v

abbrev pub IsNear : ℕ → Value → Type 0
IsNear n value.Null = Unit {0}
IsNear n (value.Object k) = k ≤ n
IsNear n (value.Int m) = Unit {0}
IsNear n value.Text = Unit {0}

pub of_more : (n m : ℕ) (v : Value) → n ≤ m → IsOf n v → IsOf m v
of_more n m value.Null le h = tt
of_more n m (value.Object k) le h = omega (arith, le, h)
of_more n m (value.Int i) le h = tt
of_more n m value.Text le h = tt

pub of_content_more : (n m : ℕ) (c : Content) → n ≤ m → IsOfContent n c → IsOfContent m c
of_content_more n m content.Unset le h = tt
of_content_more n m (content.Holds v) le h = of_more n m v le h

pub near_of : (n : ℕ) (v : Value) → IsOf n v → IsNear n v
near_of n value.Null h = tt
near_of n (value.Object k) h = omega (arith, h)
near_of n (value.Int i) h = tt
near_of n value.Text h = tt

pub record Keeps (w w' : World) : Type 0 where
  pub accounts : length w.accounts ≤ length w'.accounts
  pub slots : w'.slots ≡ w.slots
  pub made : (o : ℕ) → (account_of w o).made ≡ true → (account_of w' o).made ≡ true

pub keeps_self : (w : World) → Keeps w w
keeps_self w = record { accounts = omega arith; slots = refl; made = λ o h. h }

pub keeps_then : (a b c : World) → Keeps a b → Keeps b c → Keeps a c
keeps_then a b c f g = record {
  accounts = let x = f.accounts in let y = g.accounts in omega (arith, x, y);
  slots = g.slots ∙ f.slots;
  made = λ o h. g.made o (f.made o h);
}

-- ---- an object comes in

added_keeps : (w : World) (b : Bool) → Keeps w (cond b (Added w) w)
added_keeps w true = record {
  accounts = let e = length-append w.accounts (fresh_account ∷ []) in omega (arith, e);
  slots = refl;
  made = λ o h. ap (λ (a : Account). a.made) (account_end w.accounts o) ∙ h;
}
added_keeps w false = keeps_self w

pub object_keeps : (w : World) (k : ℕ) → Keeps w (with_object w k)
object_keeps w k = added_keeps w (k == length w.accounts)

pub object_there : (w : World) (k : ℕ) → k ≤ length w.accounts → k < length (with_object w k).accounts
object_there w k le = elim (eqb_tells k (length w.accounts)) [
  | inl h ↦ subst (λ b. k < length (cond b (Added w) w).accounts) (sym h.0)
      (let e = length-append w.accounts (fresh_account ∷ []) in let z = h.1 in omega (arith, e, z))
  | inr h ↦ subst (λ b. k < length (cond b (Added w) w).accounts) (sym h.0) (let z = h.1 in omega (arith, z, le))
]

-- there is at most one object more
pub object_few : (w : World) (k : ℕ) → length (with_object w k).accounts ≤ length w.accounts + 1
object_few w k = by (k == length w.accounts)
  where
    by : (b : Bool) → length (cond b (Added w) w).accounts ≤ length w.accounts + 1
    by true = let e = length-append w.accounts (fresh_account ∷ []) in omega (arith, e)
    by false = omega arith

-- an object that was there already changes nothing
pub object_same : (w : World) (k : ℕ) → k < length w.accounts → with_object w k ≡ w
object_same w k lt = elim (eqb_tells k (length w.accounts)) [
  | inl h ↦ absurd (let z = h.1 in omega (arith, z, lt))
  | inr h ↦ ap (λ b. cond b (Added w) w) h.0
]

pub value_debt : (w : World) (v : Value) (o : ℕ) → debt (with_value w v) o ≡ debt w o
value_debt w value.Null o = refl
value_debt w (value.Object k) o = debt_object w k o
value_debt w (value.Int n) o = refl
value_debt w value.Text o = refl

pub value_keeps : (w : World) (v : Value) → Keeps w (with_value w v)
value_keeps w value.Null = keeps_self w
value_keeps w (value.Object k) = object_keeps w k
value_keeps w (value.Int n) = keeps_self w
value_keeps w value.Text = keeps_self w

pub value_there : (w : World) (v : Value) → IsNear (length w.accounts) v → IsOf (length (with_value w v).accounts) v
value_there w value.Null h = tt
value_there w (value.Object k) h = object_there w k h
value_there w (value.Int n) h = tt
value_there w value.Text h = tt

pub value_same : (w : World) (v : Value) → IsOf (length w.accounts) v → with_value w v ≡ w
value_same w value.Null h = refl
value_same w (value.Object k) h = object_same w k h
value_same w (value.Int n) h = refl
value_same w value.Text h = refl

-- ---- a count changes; a reference is handed over

-- an account is replaced by one that is made if it was
replaced_keeps : (w : World) (k : ℕ) (a : Account) → ((account_of w k).made ≡ true → a.made ≡ true)
    → Keeps w (record w { accounts = slice_set w.accounts k a })
replaced_keeps w k a is = record {
  accounts = let e = length-set w.accounts k a in omega (arith, e);
  slots = refl;
  made = each w.accounts k is;
}
  where
    each : (l : List Account) (k : ℕ) → ((get_or l k fresh_account).made ≡ true → a.made ≡ true) → (o : ℕ)
        → (get_or l o fresh_account).made ≡ true → (get_or (slice_set l k a) o fresh_account).made ≡ true
    each [] k is o h = h
    each (b ∷ l) zero is zero h = is h
    each (b ∷ l) zero is (suc o) h = h
    each (b ∷ l) (suc k) is zero h = h
    each (b ∷ l) (suc k) is (suc o) h = each l k is o h

pub counted_keeps : (w : World) (v : Value) (by : ℤ) → Keeps w (count_value w v by)
counted_keeps w value.Null by = keeps_self w
counted_keeps w (value.Object k) by = replaced_keeps w k _ (λ h. h)
counted_keeps w (value.Int n) by = keeps_self w
counted_keeps w value.Text by = keeps_self w

pub handed_keeps : (w : World) (v : Value) → Keeps w (hand_over w v)
handed_keeps w value.Null = keeps_self w
handed_keeps w (value.Object k) = replaced_keeps w k _ (λ h. h)
handed_keeps w (value.Int n) = keeps_self w
handed_keeps w value.Text = keeps_self w

pub counted_long : (w : World) (v : Value) (by : ℤ) → length (count_value w v by).accounts ≡ length w.accounts
counted_long w value.Null by = refl
counted_long w (value.Object k) by = length-set w.accounts k _
counted_long w (value.Int n) by = refl
counted_long w value.Text by = refl

pub handed_long : (w : World) (v : Value) → length (hand_over w v).accounts ≡ length w.accounts
handed_long w value.Null = refl
handed_long w (value.Object k) = length-set w.accounts k _
handed_long w (value.Int n) = refl
handed_long w value.Text = refl

pub counted_debt : (w : World) (v : Value) (by : ℤ) (o : ℕ) → IsOf (length w.accounts) v
    → debt (count_value w v by) o ≡ debt w o +ℤ part (is_this_object v o) by
counted_debt w value.Null by o h = omega (arith, ints)
counted_debt w (value.Object k) by o h = debt_counted w k by o h
counted_debt w (value.Int n) by o h = omega (arith, ints)
counted_debt w value.Text by o h = omega (arith, ints)

pub handed_debt : (w : World) (v : Value) (o : ℕ) → IsOf (length w.accounts) v
    → debt (hand_over w v) o ≡ debt w o +ℤ part (is_this_object v o) (negsuc 0)
handed_debt w value.Null o h = omega (arith, ints)
handed_debt w (value.Object k) o h = debt_handed w k o h
handed_debt w (value.Int n) o h = omega (arith, ints)
handed_debt w value.Text o h = omega (arith, ints)

-- ---- an object is marked as made

pub marked_keeps : (w : World) (v : Value) → Keeps w (mark_made w v)
marked_keeps w value.Null = keeps_self w
marked_keeps w (value.Object k) = replaced_keeps w k _ (λ h. refl)
marked_keeps w (value.Int n) = keeps_self w
marked_keeps w value.Text = keeps_self w

pub marked_long : (w : World) (v : Value) → length (mark_made w v).accounts ≡ length w.accounts
marked_long w value.Null = refl
marked_long w (value.Object k) = length-set w.accounts k _
marked_long w (value.Int n) = refl
marked_long w value.Text = refl

pub marked_debt : (w : World) (v : Value) (o : ℕ) → IsOf (length w.accounts) v
    → debt (mark_made w v) o ≡ debt w o
marked_debt w value.Null o h = refl
marked_debt w (value.Object k) o h = debt_marked w k o h
marked_debt w (value.Int n) o h = refl
marked_debt w value.Text o h = refl

pub marked_is : (w : World) (k : ℕ) → k < length w.accounts → (account_of (mark_made w (value.Object k)) k).made ≡ true
marked_is w k lt = ap (λ (a : Account). a.made) (get_or-set_same w.accounts k _ fresh_account lt)
