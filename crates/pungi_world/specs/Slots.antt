-- Loads and stores (C11 6.5.16, 6.3.2.1). The first touch of a slot fixes what it held at entry.
--   is_same s t                 two slots are one
--   place_of slots s            the place of a slot among those that were touched
--   no_slot                     what stands where no slot is
--   slot_at w i                 the touched slot at a place
--   is_made w object            an object was made in this run
--   is_fresh w s                a slot belongs to a made object, and held nothing at entry
--   is_old w c                  a choice is an object that wasn't made in this run, or the next one
--   is_content w kind c         a choice may be what a slot of this kind held at entry
--   find_content w kind choices    what the next choice says that a slot held at entry
--   enter w s kind choices      what a slot held at entry, and how many choices that uses
--   with_content w x, with_slot w s x    the world with an object of this content, and with a slot that held it at
--                                        entry
--   first_touch w s kind choices the first touch of a slot, and the world after it
--   touch_at w s kind choices place      the touch of a slot that stands at this place, or at none
--   touch w s kind choices      the touch of a slot, and the world after it
--   GivesTouch result w meant   these are those that are meant; want of memory may always come
--   after_load x used w         what a load of this content returns
--   put_at w i x                the world after a store at a touched place
--   load_effect, store_effect   what a load does; what a store does
use Rattle.std.specs.Prelude.{◌≡◌, ℕ, ◌==◌, ◌-◌, ◌^◌, pos, negsuc, nat_le, Bool, false, ◌&&◌, ◌||◌, not, List, []}
use Rattle.std.specs.Prelude.{◌∷◌, ◌++◌, length, get_or, slice_set, position, Option, None, Some, Result, Ok, Err}
use Rattle.std.specs.Prelude.{if◌then◌else◌}
use Rattle.pungi_base.specs.declared.value.Value.{Value}
use Rattle.pungi_base.specs.declared.choice.Choice.{Choice}
use Rattle.pungi_base.specs.declared.choice.Choice.TheVariants as choice
use Rattle.pungi_api.specs.declared.param.Param.{Param}
use Rattle.pungi_api.specs.declared.param.Param.TheVariants as param
use Rattle.pungi_world.specs.declared.content.Content.{Content}
use Rattle.pungi_world.specs.declared.content.Content.TheVariants.{Unset, Holds}
use Rattle.pungi_world.specs.declared.slot.Slot.{Slot}
use Rattle.pungi_world.specs.declared.slot.Slot.TheVariants.{Global, Field}
use Rattle.pungi_world.specs.declared.slot.SlotState.{SlotState}
use Rattle.pungi_world.specs.declared.effect.Effect.{Effect}
use Rattle.pungi_world.specs.declared.halt.Halt.{Halt}
use Rattle.pungi_world.specs.declared.halt.Halt.TheVariants.{Stopped, NeedsChoice, Memory}
use Rattle.pungi_world.specs.declared.touch.Touch.{Touch}
use Rattle.pungi_world.specs.declared.world.World.{World}
use Rattle.pungi_world.specs.World.{account_of}
use Rattle.pungi_world.specs.Counts.{with_value}
use Rattle.pungi_world.specs.Choices.{is_null, is_text, is_number, value_of}
use Rattle.pungi_world.specs.Effects.{◌>>=◌, effect}

abbrev pub is_same : Slot → Slot → Bool
is_same (Global m) (Global n) = m.0 == n.0
is_same (Field o t f) (Field p u g) = o == p && (t.0 == u.0) && (f.0 == g.0)
is_same (Global m) (Field p u g) = false
is_same (Field o t f) (Global n) = false

abbrev pub place_of : List SlotState → Slot → Option ℕ
place_of slots s = position (λ t. is_same t.slot s) slots

abbrev pub no_slot : SlotState
no_slot = record { slot = Global (record { 0 = 0 }); at_entry = Unset; held = Unset }

abbrev pub slot_at : World → ℕ → SlotState
slot_at w i = get_or w.slots i no_slot

-- ---- what a slot held at entry

abbrev pub is_made : World → ℕ → Bool
is_made w object = (account_of w object).made

abbrev pub is_fresh : World → Slot → Bool
is_fresh w (Global n) = false
is_fresh w (Field object tag field) = is_made w object

abbrev pub is_old : World → Choice → Bool
is_old w (choice.Object k) = nat_le k (length w.accounts) && not (is_made w k)
is_old w c = false

-- a slot holds an object or NULL, a number of its kind, or a text or NULL
abbrev pub is_content : World → Param → Choice → Bool
is_content w param.Object c = is_null c || is_old w c
is_content w param.ObjectOrNull c = is_null c || is_old w c
is_content w param.Int c = is_number (negsuc (2 ^ 31 - 1)) (pos (2 ^ 31 - 1)) c
is_content w param.Long c = is_number (negsuc (2 ^ 63 - 1)) (pos (2 ^ 63 - 1)) c
is_content w param.Size c = is_number (negsuc (2 ^ 63 - 1)) (pos (2 ^ 63 - 1)) c
is_content w param.Text c = is_null c || is_text c
is_content w param.TextOrNull c = is_null c || is_text c
is_content w param.ModuleDef c = false

abbrev pub find_content : World → Param → List Choice → Result (Content × ℕ) Halt
find_content w kind [] = Err NeedsChoice
find_content w kind (c ∷ choices) = if is_content w kind c then Ok (Holds (value_of c), 1) else Err NeedsChoice

abbrev pub enter : World → Slot → Param → List Choice → Result (Content × ℕ) Halt
enter w s kind choices = if is_fresh w s then Ok (Unset, 0) else find_content w kind choices

-- ---- touching a slot

abbrev pub with_content : World → Content → World
with_content w Unset = w
with_content w (Holds x) = with_value w x

abbrev pub with_slot : World → Slot → Content → World
with_slot w s x = record w { slots = w.slots ++ (record { slot = s; at_entry = x; held = x }) ∷ [] }

abbrev pub first_touch : World → Slot → Param → List Choice → Result (Touch × World) Halt
first_touch w s kind choices =
    enter w s kind choices >>= λ r. Ok (
      record { place = length w.slots; used = r.1 },
      with_slot
          (with_content w r.0) s r.0,
    )

abbrev pub touch_at : World → Slot → Param → List Choice → Option ℕ → Result (Touch × World) Halt
touch_at w s kind choices (Some i) = Ok (record { place = i; used = 0 }, w)
touch_at w s kind choices None = first_touch w s kind choices

abbrev pub touch : World → Slot → Param → List Choice → Result (Touch × World) Halt
touch w s kind choices = touch_at w s kind choices (place_of w.slots s)

abbrev pub GivesTouch : Result Touch Halt → World → Result (Touch × World) Halt → Type 0
GivesTouch (Ok t) w meant = meant ≡ Ok (t, w)
GivesTouch (Err Stopped) w meant = meant ≡ Err Stopped
GivesTouch (Err NeedsChoice) w meant = meant ≡ Err NeedsChoice
GivesTouch (Err Memory) w meant = Unit {0}

-- ---- loads and stores

abbrev pub after_load : Content → ℕ → World → Result (Effect × World) Halt
after_load Unset used w = Err Stopped
after_load (Holds x) used w = Ok (effect (Some x) used, w)

abbrev pub load_effect : World → Slot → Param → List Choice → Result (Effect × World) Halt
load_effect w s kind choices = touch w s kind choices >>= λ t. after_load (slot_at t.1 t.0.place).held t.0.used t.1

abbrev pub put_at : World → ℕ → Value → World
put_at w i x = record w { slots = slice_set w.slots i (record (slot_at w i) { held = Holds x }) }

abbrev pub store_effect : World → Slot → Param → Value → List Choice → Result (Effect × World) Halt
store_effect w s kind x choices = touch w s kind choices >>= λ t. Ok (effect None t.0.used, put_at t.1 t.0.place x)
