-- How counts and objects of a world change.
--   by_one way              a count rises or falls by one
--   count w object by       the reference count of an object changes by so much
--   with_object w object    an object is there: one of those that are, or the next one, which nothing has changed yet
--   with_value w value      the object of a value is there
--   count_value, hand_over w value       the count of the object of a value changes; a reference to it is handed over
--   made w object, mark_made w value     an object was made in this run; that of a value was
--   IsWithin most z         a number is at most this far from 0
--   AreWithin most w        so is each count of a world
use Rattle.std.specs.Prelude.{ℕ, ◌==◌, true, ℤ, pos, negsuc, neg_ℤ, ◌+ℤ◌, ◌≤ℤ◌, if◌then◌else◌, [], ◌∷◌, ◌++◌, length}
use Rattle.std.specs.Prelude.{slice_set}
use Rattle.pungi_base.specs.declared.value.Value.{Value}
use Rattle.pungi_base.specs.declared.value.Value.TheVariants as value
use Rattle.pungi_world.specs.declared.counts.Way.{Way}
use Rattle.pungi_world.specs.declared.counts.Way.TheVariants.{Up, Down}
use Rattle.pungi_world.specs.declared.world.World.{World}
use Rattle.pungi_world.specs.World.{fresh_account, account_of}

abbrev pub by_one : Way → ℤ
by_one Up = pos 1
by_one Down = negsuc 0

abbrev pub count : World → ℕ → ℤ → World
count w object by =
    record w {
      accounts = slice_set w.accounts object (record (account_of w object)
          { change = (account_of w object).change +ℤ by });
    }

abbrev pub handed : World → ℕ → World
handed w object =
    record w {
      accounts = slice_set w.accounts object (record (account_of w object)
          { handed = (account_of w object).handed +ℤ pos 1 });
    }

abbrev pub with_object : World → ℕ → World
with_object w object =
    if object == length w.accounts then record w { accounts = w.accounts ++ fresh_account ∷ [] } else w

abbrev pub with_value : World → Value → World
with_value w (value.Object k) = with_object w k
with_value w value.Null = w
with_value w (value.Int n) = w
with_value w value.Text = w

abbrev pub count_value : World → Value → ℤ → World
count_value w (value.Object k) by = count w k by
count_value w value.Null by = w
count_value w (value.Int n) by = w
count_value w value.Text by = w

abbrev pub made : World → ℕ → World
made w object =
    record w { accounts = slice_set w.accounts object (record (account_of w object) { made = true }) }

abbrev pub mark_made : World → Value → World
mark_made w (value.Object k) = made w k
mark_made w value.Null = w
mark_made w (value.Int n) = w
mark_made w value.Text = w

abbrev pub hand_over : World → Value → World
hand_over w (value.Object k) = handed w k
hand_over w value.Null = w
hand_over w (value.Int n) = w
hand_over w value.Text = w

abbrev pub IsWithin : ℕ → ℤ → Type 0
IsWithin most z = (neg_ℤ (pos most) ≤ℤ z) × (z ≤ℤ pos most)

pub record AreWithin (most : ℕ) (w : World) : Type 0 where
  pub change : (o : ℕ) → IsWithin most (account_of w o).change
  pub handed : (o : ℕ) → IsWithin most (account_of w o).handed
