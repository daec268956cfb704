-- How far counts are from 0.
use Rattle.std.proofs.Common.{ℕ, zero, suc, ◌+◌, ◌≤◌, Bool, true, false, List, [], ◌∷◌, ◌++◌, length, get_or}
use Rattle.std.proofs.Common.{◌==◌, arith}
use Rattle.std.specs.Prelude.{ℤ, pos, ◌+ℤ◌, slice_set, if◌then◌else◌}
use Rattle.std.proofs.lemmas.Int.{ints}
use Rattle.pungi_base.specs.declared.value.Value.{Value}
use Rattle.pungi_base.specs.declared.value.Value.TheVariants as value
use Rattle.pungi_world.specs.declared.account.Account.{Account}
use Rattle.pungi_world.specs.declared.world.World.{World}
use Rattle.pungi_world.specs.World.{fresh_account, account_of}
use Rattle.pungi_world.specs.Counts.{count, handed, made, with_value, count_value, mark_made, hand_over}
use Rattle.pungi_world.specs.Counts.{IsWithin, AreWithin}

-- what holds of every account, and of a new one, holds of every account after a write
pub each_set : (P : Account → Type 0) (l : List Account) (k : ℕ) (a : Account)
    → ((o : ℕ) → P (get_or l o fresh_account)) → P a → (o : ℕ) → P (get_or (slice_set l k a) o fresh_account)
each_set P [] k a all new o = all o
each_set P (x ∷ l) zero a all new zero = new
each_set P (x ∷ l) zero a all new (suc o) = all (suc o)
each_set P (x ∷ l) (suc k) a all new zero = all zero
each_set P (x ∷ l) (suc k) a all new (suc o) = each_set P l k a (λ n. all (suc n)) new o

-- the same where an account is added
pub each_push : (P : Account → Type 0) (l : List Account) → ((o : ℕ) → P (get_or l o fresh_account)) → (o : ℕ)
    → P (get_or (l ++ fresh_account ∷ []) o fresh_account)
each_push P [] all zero = all zero
each_push P [] all (suc o) = all o
each_push P (x ∷ l) all zero = all zero
each_push P (x ∷ l) all (suc o) = each_push P l (λ n. all (suc n)) o

near_more : (z : ℤ) (most more : ℕ) → most ≤ more → IsWithin most z → IsWithin more z
near_more z most more le near = (omega (arith, ints, near.0), omega (arith, ints, near.1))

near_sum : (z by : ℤ) (most : ℕ) → IsWithin most z → IsWithin 1 by → IsWithin (most + 1) (z +ℤ by)
near_sum z by most near one = (omega (arith, ints, near.0, one.0), omega (arith, ints, near.1, one.1))

near_one : IsWithin 1 (pos 1)
near_one = (omega (arith, ints), omega (arith, ints))

pub within_more : (w : World) (most more : ℕ) → most ≤ more → AreWithin most w → AreWithin more w
within_more w most more le within = record {
  change = λ o. near_more (account_of w o).change most more le (within.change o);
  handed = λ o. near_more (account_of w o).handed most more le (within.handed o);
}

abbrev changed : Account → ℤ → Account
changed a by = record a { change = a.change +ℤ by }

abbrev passed_on : Account → Account
passed_on a = record a { handed = a.handed +ℤ pos 1 }

pub within_counted : (w : World) (k most : ℕ) (by : ℤ) → IsWithin 1 by → AreWithin most w
    → AreWithin (most + 1) (count w k by)
within_counted w k most by one within = record {
  change = each_set (λ a. IsWithin (most + 1) a.change) w.accounts k (changed (account_of w k) by)
      (λ o. near_more (account_of w o).change most (most + 1) (omega arith) (within.change o))
      (near_sum (account_of w k).change by most (within.change k) one);
  handed = each_set (λ a. IsWithin (most + 1) a.handed) w.accounts k (changed (account_of w k) by)
      (λ o. near_more (account_of w o).handed most (most + 1) (omega arith) (within.handed o))
      (near_more (account_of w k).handed most (most + 1) (omega arith) (within.handed k));
}

pub within_handed : (w : World) (k most : ℕ) → AreWithin most w → AreWithin (most + 1) (handed w k)
within_handed w k most within = record {
  change = each_set (λ a. IsWithin (most + 1) a.change) w.accounts k (passed_on (account_of w k))
      (λ o. near_more (account_of w o).change most (most + 1) (omega arith) (within.change o))
      (near_more (account_of w k).change most (most + 1) (omega arith) (within.change k));
  handed = each_set (λ a. IsWithin (most + 1) a.handed) w.accounts k (passed_on (account_of w k))
      (λ o. near_more (account_of w o).handed most (most + 1) (omega arith) (within.handed o))
      (near_sum (account_of w k).handed (pos 1) most (within.handed k) near_one);
}

abbrev marked : Account → Account
marked a = record a { made = true }

-- a mark changes no count
within_made : (w : World) (k most : ℕ) → AreWithin most w → AreWithin most (made w k)
within_made w k most within = record {
  change = each_set (λ a. IsWithin most a.change) w.accounts k (marked (account_of w k)) within.change
      (within.change k);
  handed = each_set (λ a. IsWithin most a.handed) w.accounts k (marked (account_of w k)) within.handed
      (within.handed k);
}

pub within_marked : (w : World) (x : Value) (most : ℕ) → AreWithin most w → AreWithin most (mark_made w x)
within_marked w (value.Object k) most within = within_made w k most within
within_marked w value.Null most within = within
within_marked w (value.Int n) most within = within
within_marked w value.Text most within = within

pub within_counted_value : (w : World) (x : Value) (most : ℕ) (by : ℤ) → IsWithin 1 by → AreWithin most w
    → AreWithin (most + 1) (count_value w x by)
within_counted_value w (value.Object k) most by one within = within_counted w k most by one within
within_counted_value w value.Null most by one within = within_more w most (most + 1) (omega arith) within
within_counted_value w (value.Int n) most by one within = within_more w most (most + 1) (omega arith) within
within_counted_value w value.Text most by one within = within_more w most (most + 1) (omega arith) within

pub within_handed_over : (w : World) (x : Value) (most : ℕ) → AreWithin most w → AreWithin (most + 1) (hand_over w x)
within_handed_over w (value.Object k) most within = within_handed w k most within
within_handed_over w value.Null most within = within_more w most (most + 1) (omega arith) within
within_handed_over w (value.Int n) most within = within_more w most (most + 1) (omega arith) within
within_handed_over w value.Text most within = within_more w most (most + 1) (omega arith) within

within_pushed : (w : World) (most : ℕ) → AreWithin most w
    → AreWithin most (record w { accounts = w.accounts ++ fresh_account ∷ [] })
within_pushed w most within = record {
  change = each_push (λ a. IsWithin most a.change) w.accounts within.change;
  handed = each_push (λ a. IsWithin most a.handed) w.accounts within.handed;
}

within_if_pushed : (b : Bool) (w : World) (most : ℕ) → AreWithin most w
    → AreWithin most (if b then record w { accounts = w.accounts ++ fresh_account ∷ [] } else w)
within_if_pushed true w most within = within_pushed w most within
within_if_pushed false w most within = within

pub within_with_value : (w : World) (x : Value) (most : ℕ) → AreWithin most w → AreWithin most (with_value w x)
within_with_value w (value.Object k) most within = within_if_pushed (k == length w.accounts) w most within
within_with_value w value.Null most within = within
within_with_value w (value.Int n) most within = within
within_with_value w value.Text most within = within
