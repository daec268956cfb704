-- What a run holds, as a scene sees it: between two instructions, and between the parts of one.
--   View                    the contents of the variables, the value that is being returned, the world, the debt of
--                           each object: by how much its count has changed since the entry, less the references to it
--                           that escaped since; which fields hold objects; and the entry from which it began
--   is_object_field t f o   a place, if there is one, is such a field of an object, and holds an object or NULL
--   holds_objects code t f  so is some place that the code names
--   Origin                  where a run begins: the entry, and the debt of each object there
--   view_of code origin m   what a machine of the code holds between two instructions, in a run that began so
--   suits n k v, Suits n k c    a variable or slot of a kind may hold a value, where there are n objects; it may have
--                           these contents
--   names_slot place s      an instruction's place may be this slot
--   names_spot place p      so may a slot of a shape
--   IsObjectSpot code p     the code holds objects there, where it names the slot of a shape
--   SuitsSlot code w i      a touched slot holds a value, one of the kind with which a code names it
--   IsSlotOf n z            the object of a slot is one of the first n
--   SlotsThere w            so it is with each touched slot, and the objects that are there
--   IsTyped file code o     variables and slots hold what their kinds allow, those of each code of a file, and no
--                           object that was there at the entry has gone
use Rattle.std.specs.Prelude.{◌≡◌, ℕ, ℤ, ◌-ℤ◌, ◌<◌, ◌≤◌, ◌==◌, nat_lt, Bool, true, false, ◌&&◌, ◌||◌, List, length}
use Rattle.std.specs.Prelude.{get_or}
use Rattle.std.specs.Prelude.{slice_get}
use Rattle.std.specs.Prelude.{Option, Some, None}
use Rattle.std.specs.List.{list_any}
use Rattle.pungi_base.specs.declared.entry.Entry.{Entry}
use Rattle.pungi_base.specs.declared.names.Name.{Name}
use Rattle.pungi_base.specs.declared.value.Value.{Value}
use Rattle.pungi_base.specs.declared.value.Value.TheVariants as value
use Rattle.pungi_api.specs.declared.param.Param.{Param}
use Rattle.pungi_api.specs.declared.param.Param.TheVariants as param
use Rattle.pungi_world.specs.declared.content.Content.{Content}
use Rattle.pungi_world.specs.declared.content.Content.TheVariants.{Unset, Holds}
use Rattle.pungi_world.specs.declared.slot.Slot.{Slot}
use Rattle.pungi_world.specs.declared.slot.Slot.TheVariants as slots
use Rattle.pungi_world.specs.declared.world.World.{World}
use Rattle.pungi_world.specs.Slots.{slot_at}
use Rattle.pungi_meaning.specs.Work.{content_at}
use Rattle.pungi_code.specs.declared.code.Code.{Code}
use Rattle.pungi_code.specs.declared.code.Line.{Line}
use Rattle.pungi_code.specs.declared.place.Place.{Place}
use Rattle.pungi_code.specs.declared.place.Place.TheVariants.{Global, Field}
use Rattle.pungi_code.specs.Registers.{Regs}
use Rattle.pungi_code.specs.WellFormed.{is_integer, is_object, is_text, place_kind, place_of}
use Rattle.pungi_shape.specs.declared.tracked.Spot.{Spot}
use Rattle.pungi_shape.specs.declared.tracked.Spot.TheVariants as spots
use Rattle.pungi_shape.specs.Described.{debt}

pub record View : Type 0 where
  pub vars : List Content
  pub returned : Content
  pub world : World
  pub debts : ℕ → ℤ
  pub fields : Name → Name → Bool
  pub entry : Entry

-- ---- kinds

abbrev pub suits : ℕ → Param → Value → Bool
suits n k (value.Int i) = is_integer k
suits n k value.Null = is_object k || is_text k
suits n k value.Text = is_text k
suits n k (value.Object o) = is_object k && nat_lt o n

abbrev pub Suits : ℕ → Param → Content → Type 0
Suits n k Unset = Unit {0}
Suits n k (Holds v) = suits n k v ≡ true

abbrev pub names_slot : Place → Slot → Bool
names_slot (Global n kind) (slots.Global m) = n.0 == m.0
names_slot (Field base tag field kind) (slots.Field o struct name) = (tag.0 == struct.0) && (field.0 == name.0)
names_slot place s = false

abbrev pub names_spot : Place → Spot → Bool
names_spot (Global n kind) (spots.Global m) = n.0 == m.0
names_spot (Field base tag field kind) (spots.Field b struct name) = (tag.0 == struct.0) && (field.0 == name.0)
names_spot place p = false

abbrev pub is_object_field : Name → Name → Option Place → Bool
is_object_field tag field None = false
is_object_field tag field (Some place) = names_spot place (spots.Field 0 tag field) && is_object (place_kind place)

abbrev pub holds_objects : Code → Name → Name → Bool
holds_objects code tag field =
    list_any (λ (line : Line). is_object_field tag field (place_of line.instr)) code.instrs

pub record Origin : Type 0 where
  pub entry : Entry
  pub debts : ℕ → ℤ

abbrev pub view_of : Code → Origin → Regs → View
view_of code origin m = record {
  vars = m.vars;
  returned = Unset;
  world = m.world;
  debts = λ k. debt m.world k -ℤ origin.debts k;
  fields = holds_objects code;
  entry = origin.entry;
}

-- only slots of objects are tracked
abbrev pub IsObjectSpot : Code → Spot → Type 0
IsObjectSpot code p =
    (pc : ℕ) (line : Line) (place : Place) → slice_get code.instrs pc ≡ Some line → place_of line.instr ≡ Some place
    → names_spot place p ≡ true → is_object (place_kind place) ≡ true

pub record IsHeldSo (n : ℕ) (k : Param) (c : Content) : Type 0 where
  pub value : Value
  pub holds : c ≡ Holds value
  pub suits_kind : suits n k value ≡ true

abbrev pub SuitsSlot : Code → World → ℕ → Type 0
SuitsSlot code w i =
    (pc : ℕ) (line : Line) (place : Place) → slice_get code.instrs pc ≡ Some line → place_of line.instr ≡ Some place
    → names_slot place (slot_at w i).slot ≡ true → IsHeldSo (length w.accounts) (place_kind place) (slot_at w i).held

abbrev pub IsSlotOf : ℕ → Slot → Type 0
IsSlotOf n (slots.Global m) = Unit {0}
IsSlotOf n (slots.Field o tag field) = o < n

abbrev pub SlotsThere : World → Type 0
SlotsThere w = (i : ℕ) → i < length w.slots → IsSlotOf (length w.accounts) (slot_at w i).slot

pub record IsTyped (file : Code → Type 0) (code : Code) (o : View) : Type 0 where
  pub count : length o.vars ≡ length code.vars
  pub vars : (x : ℕ) → Suits (length o.world.accounts) (get_or code.vars x param.ModuleDef) (content_at o.vars x)
  pub slots : (c : Code) → file c → (i : ℕ) → i < length o.world.slots → SuitsSlot c o.world i
  pub there : SlotsThere o.world
  pub grown : o.entry.objects ≤ length o.world.accounts
