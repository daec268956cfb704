-- When a shape describes what is held between two instructions of a run.
--   Naming                  the object of each token
--   HoldsSo names h c       a variable or slot holds what the shape says of it
--   debt w o                by how much the count of an object has changed, less the references to it that escaped
--   slot_named names p      a slot of the world
--   content_in w o          what it holds, if it was touched
--   SlotHoldsSo names w r   it holds what the shape says of it
use Rattle.std.specs.Prelude.{◌≡◌, ℕ, ℤ, ◌-ℤ◌, Option, Some, None}
use Rattle.pungi_base.specs.declared.value.Value.TheVariants as value
use Rattle.pungi_world.specs.Escapes.{given_away}
use Rattle.pungi_world.specs.Slots.{place_of, slot_at}
use Rattle.pungi_world.specs.World.{account_of}
use Rattle.pungi_world.specs.declared.content.Content.{Content}
use Rattle.pungi_world.specs.declared.content.Content.TheVariants as content
use Rattle.pungi_world.specs.declared.slot.Slot.{Slot}
use Rattle.pungi_world.specs.declared.slot.Slot.TheVariants as slots
use Rattle.pungi_world.specs.declared.world.World.{World}
use Rattle.pungi_shape.specs.declared.holding.Holding.{Holding}
use Rattle.pungi_shape.specs.declared.holding.Holding.TheVariants.{Dead, Unset, Null, Text, Known, Number, Token}
use Rattle.pungi_shape.specs.declared.tracked.Spot.{Spot}
use Rattle.pungi_shape.specs.declared.tracked.Spot.TheVariants.{Global, Field}
use Rattle.pungi_shape.specs.declared.tracked.Tracked.{Tracked}

abbrev pub Naming : Type 0
Naming = ℕ → ℕ

abbrev pub HoldsSo : Naming → Holding → Content → Type 0
HoldsSo names Dead c = Unit {0}
HoldsSo names Unset c = c ≡ content.Unset
HoldsSo names Null c = c ≡ content.Holds value.Null
HoldsSo names Text c = c ≡ content.Holds value.Text
HoldsSo names (Known n) c = c ≡ content.Holds (value.Int n)
HoldsSo names Number c = (n : ℤ) × (c ≡ content.Holds (value.Int n))
HoldsSo names (Token t) c = c ≡ content.Holds (value.Object (names t))

abbrev pub debt : World → ℕ → ℤ
debt w o = (account_of w o).change -ℤ given_away w o

abbrev pub slot_named : Naming → Spot → Slot
slot_named names (Global n) = slots.Global n
slot_named names (Field b tag field) = slots.Field (names b) tag field

abbrev pub content_in : World → Option ℕ → Option Content
content_in w None = None
content_in w (Some i) = Some (slot_at w i).held

abbrev pub SlotHoldsSo : Naming → World → Tracked → Type 0
SlotHoldsSo names w r =
    (c : Content) × (content_in w (place_of w.slots (slot_named names r.spot)) ≡ Some c) × HoldsSo names r.held c
