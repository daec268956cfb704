-- The references that escaped in a run, and when a return is balanced (Li and Tan, ECOOP 2014; the list of escapes is
-- this project's own), under the terms by which a function is judged.
--   is_this_object value object     a value is this object
--   is_returned value object        it is what a function returns
--   holds_object content object     it is what a variable or slot holds
--   held_now, held_at_entry         how many touched slots hold the object now, and held it at entry
--   given_away w object             how many references were handed over, or are in slots that were not there at entry
--   owned_result terms value        the value whose reference goes to the caller: none where it is lent
--   is_argument, taken_at_entry terms entry object      how many parameters whose reference is taken over hold the
--                                   object at entry
--   escaped_of terms entry w object value      how many references to the object escaped where a run from this entry
--                                   returns this value; one that the function takes over counts as one less
--   IsLevel terms entry w value object      its count changed by exactly the references that escaped
--   IsCounted terms object          its count has to be right
--   IsBalanced terms entry w value          the count of every such object changed so
--   IsCountable w                   the numbers are so small that the code can count
use Rattle.std.specs.Prelude.{◌≡◌, ℕ, ◌<◌, ◌≤◌, ◌-◌, ◌^◌, ◌==◌, ℤ, pos, negsuc, ◌+ℤ◌, ◌-ℤ◌, ◌≤ℤ◌, Bool, false, length}
use Rattle.std.specs.Prelude.{count_by, slice_get, Option, None, Some, if◌then◌else◌}
use Rattle.pungi_base.specs.declared.entry.Entry.{Entry}
use Rattle.pungi_base.specs.declared.value.Value.{Value}
use Rattle.pungi_base.specs.declared.value.Value.TheVariants.{Null, Object, Int, Text}
use Rattle.pungi_api.specs.declared.terms.Terms.{Terms}
use Rattle.pungi_api.specs.Terms.{immortal_count}
use Rattle.pungi_world.specs.declared.content.Content.{Content}
use Rattle.pungi_world.specs.declared.content.Content.TheVariants.{Unset, Holds}
use Rattle.pungi_world.specs.declared.world.World.{World}
use Rattle.pungi_world.specs.World.{account_of}

abbrev pub is_this_object : Value → ℕ → Bool
is_this_object (Object k) object = k == object
is_this_object Null object = false
is_this_object (Int n) object = false
is_this_object Text object = false

abbrev pub is_returned : Option Value → ℕ → Bool
is_returned None object = false
is_returned (Some value) object = is_this_object value object

abbrev pub holds_object : Content → ℕ → Bool
holds_object Unset object = false
holds_object (Holds value) object = is_this_object value object

abbrev pub held_now : World → ℕ → ℕ
held_now w object = count_by (λ s. holds_object s.held object) w.slots

abbrev pub held_at_entry : World → ℕ → ℕ
held_at_entry w object = count_by (λ s. holds_object s.at_entry object) w.slots

abbrev pub given_away : World → ℕ → ℤ
given_away w object =
    (account_of w object).handed +ℤ pos (held_now w object) -ℤ pos (held_at_entry w object)

abbrev pub owned_result : Terms → Option Value → Option Value
owned_result terms value = if terms.convention.borrowed then None else value

abbrev pub is_argument : Entry → ℕ → ℕ → Bool
is_argument entry object place = is_returned (slice_get entry.args place) object

abbrev pub taken_at_entry : Terms → Entry → ℕ → ℕ
taken_at_entry terms entry object = count_by (is_argument entry object) terms.convention.taken

abbrev pub escaped_of : Terms → Entry → World → ℕ → Option Value → ℤ
escaped_of terms entry w object value =
    given_away w object +ℤ pos (if is_returned (owned_result terms value) object then 1 else 0) -ℤ
    pos (taken_at_entry terms entry object)

abbrev pub IsLevel : Terms → Entry → World → Option Value → ℕ → Type 0
IsLevel terms entry w value object = (account_of w object).change ≡ escaped_of terms entry w object value

abbrev pub IsCounted : Terms → ℕ → Type 0
IsCounted terms object = immortal_count terms.profile ≤ object

abbrev pub IsBalanced : Terms → Entry → World → Option Value → Type 0
IsBalanced terms entry w value =
    (object : ℕ) → IsCounted terms object → object < length w.accounts → IsLevel terms entry w value object

pub record IsCountable (w : World) : Type 0 where
  pub slots : length w.slots < 2 ^ 60
  pub accounts : length w.accounts < 2 ^ 32 - 1
  pub low : (object : ℕ) → negsuc (2 ^ 61 - 1) ≤ℤ (account_of w object).handed
  pub high : (object : ℕ) → (account_of w object).handed ≤ℤ pos (2 ^ 61)
