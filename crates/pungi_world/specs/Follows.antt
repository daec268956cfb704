-- How far a world is from one before it.
--   AreDistinct slots                    no slot was touched twice
--   Follows old new objects slots by     at most so many objects and so many slots are new, and each count is at most
--                                        so much further from 0; slots that were distinct still are
use Rattle.std.specs.Prelude.{◌≡◌, ℕ, ◌+◌, ◌<◌, ◌≤◌, false, List, length, get_or}
use Rattle.pungi_world.specs.declared.slot.SlotState.{SlotState}
use Rattle.pungi_world.specs.declared.world.World.{World}
use Rattle.pungi_world.specs.Counts.{AreWithin}
use Rattle.pungi_world.specs.Slots.{is_same, no_slot}

abbrev pub AreDistinct : List SlotState → Type 0
AreDistinct states =
    (i j : ℕ) → i < j → j < length states → is_same (get_or states i no_slot).slot (get_or states j no_slot).slot
    ≡ false

pub record Follows (old new : World) (objects slots by : ℕ) : Type 0 where
  pub more_objects : length old.accounts ≤ length new.accounts
  pub few_objects : length new.accounts ≤ length old.accounts + objects
  pub more_slots : length old.slots ≤ length new.slots
  pub few_slots : length new.slots ≤ length old.slots + slots
  pub within : (most : ℕ) → AreWithin most old → AreWithin (most + by) new
  pub distinct : AreDistinct old.slots → AreDistinct new.slots
