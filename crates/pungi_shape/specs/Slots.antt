-- Loads and stores. Only slots of objects are tracked, from the first time that they are touched.
--   field_spot h tag field, spot_of s place    the slot that an instruction names, where its base is an object
--   is_spot p q             two slots are one
--   slot_at s p, is_tracked s p    the place of a slot among those that are tracked; it is tracked
--   may_be s b tag field c  the token c is another than b, and has such a field that is tracked or is made; and they
--                           aren't different objects for sure
--   same_objects s b tag field    the tokens that may be so
--   find_field h tag field s, find_slot place s    the scenes in which the slot is found: its base is one of these, or
--                           none of them. To reach through what is no object stops
--   track p h s            a slot is tracked, and holds this
--   is_of_made s p          a field of an object that was made in this run
--   first_contents p s, touch_at o s, touch_first place s    the scenes after the first touch of a slot: a field of a
--                           made object was unset, any other slot held NULL or an object. A slot that is tracked
--                           already isn't touched
--   no_slot, tracked_at s i    what stands where no slot is; the slot at a place
--   place_of_slot s o, holding_in s o, slot_holding s place    the place of a slot; what it holds
--   load_of, load_by_kind, load_cases    the cases of a load: of an object that a slot holds; of an object, an integer
--                           or else a text; of a place
--   put_slot h o s          a slot holds something else
--   store_object h place s, store_cases    what is stored escapes, and what the slot held escapes no longer; the case
--                           of a store
use Rattle.std.specs.Prelude.{ℕ, ◌==◌, pos, negsuc, Bool, true, false, ◌&&◌, ◌||◌, not, List, [], ◌∷◌, ◌++◌, length}
use Rattle.std.specs.Prelude.{map}
use Rattle.std.specs.Prelude.{get_or, slice_set, Option, Some, None, if◌then◌else◌}
use Rattle.std.specs.List.{filter, list_any, position, range_with_len}
use Rattle.pungi_base.specs.declared.names.Name.{Name}
use Rattle.pungi_code.specs.declared.atom.Atom.{Atom}
use Rattle.pungi_code.specs.declared.place.Place.{Place}
use Rattle.pungi_code.specs.declared.place.Place.TheVariants as places
use Rattle.pungi_code.specs.WellFormed.{is_integer, is_object, place_kind}
use Rattle.pungi_shape.specs.declared.holding.Holding.{Holding}
use Rattle.pungi_shape.specs.declared.holding.Holding.TheVariants.{Dead, Unset, Null, Text, Number, Token}
use Rattle.pungi_shape.specs.declared.shape.Shape.{Shape}
use Rattle.pungi_shape.specs.declared.tracked.Spot.{Spot}
use Rattle.pungi_shape.specs.declared.tracked.Spot.TheVariants.{Global, Field}
use Rattle.pungi_shape.specs.declared.tracked.Tracked.{Tracked}
use Rattle.pungi_shape.specs.Forms.{zero_form}
use Rattle.pungi_shape.specs.Scenes.{Scene, holding_of, with_var, add_to_holding, with_token, new_token, is_made, merge}
use Rattle.pungi_shape.specs.Cases.{Case, leads, frees}
use Rattle.pungi_shape.specs.Comparisons.{are_apart, are_one_field}

abbrev pub field_spot : Holding → Name → Name → Option Spot
field_spot (Token t) tag field = Some (Field t tag field)
field_spot h tag field = None

abbrev pub spot_of : Scene → Place → Option Spot
spot_of s (places.Global n kind) = Some (Global n)
spot_of s (places.Field base tag field kind) = field_spot (holding_of s base) tag field

abbrev pub is_spot : Spot → Spot → Bool
is_spot (Global m) (Global n) = m.0 == n.0
is_spot (Field b tag field) (Field d struct name) = (b == d) && are_one_field (Field b tag field) (Field d struct name)
is_spot p q = false

abbrev pub slot_at : Shape → Spot → Option ℕ
slot_at s p = position (λ r. is_spot r.spot p) s.slots

abbrev pub is_tracked : Shape → Spot → Bool
is_tracked s p = list_any (λ r. is_spot r.spot p) s.slots

-- ---- which slot it is

abbrev pub may_be : Shape → ℕ → Name → Name → ℕ → Bool
may_be s b tag field c =
    not (c == b) && ((is_tracked s (Field c tag field) || is_made s c) && not (are_apart s b c))

abbrev pub same_objects : Shape → ℕ → Name → Name → List ℕ
same_objects s b tag field = filter (may_be s b tag field) (range_with_len 0 (length s.made))

abbrev pub find_field : Holding → Name → Name → Scene → List Scene
find_field (Token b) tag field s = map (λ c. merge b c s) (same_objects s.shape b tag field) ++ s ∷ []
find_field h tag field s = []

abbrev pub find_slot : Place → Scene → List Scene
find_slot (places.Global n kind) s = s ∷ []
find_slot (places.Field base tag field kind) s = find_field (holding_of s base) tag field s

-- ---- the first touch

abbrev pub track : Spot → Holding → Scene → Scene
track p h s =
    record s { shape = record s.shape { slots = s.shape.slots ++ (record { spot = p; held = h }) ∷ [] } }

abbrev pub is_of_made : Shape → Spot → Bool
is_of_made s (Global n) = false
is_of_made s (Field b tag field) = is_made s b

abbrev pub first_contents : Spot → Scene → List Scene
first_contents p s =
    if is_of_made s.shape p then track p Unset s ∷ [] else
    track p Null s ∷ track p (Token (new_token s)) (with_token (zero_form s.width) false s) ∷ []

abbrev pub touch_at : Option Spot → Scene → List Scene
touch_at None s = []
touch_at (Some p) s = if is_tracked s.shape p then s ∷ [] else first_contents p s

abbrev pub touch_first : Place → Scene → List Scene
touch_first place s = if is_object (place_kind place) then touch_at (spot_of s place) s else s ∷ []

-- ---- loads and stores

abbrev pub no_slot : Tracked
no_slot = record { spot = Global (record { 0 = 0 }); held = Unset }

abbrev pub tracked_at : Shape → ℕ → Tracked
tracked_at s i = get_or s.slots i no_slot

abbrev pub place_of_slot : Shape → Option Spot → Option ℕ
place_of_slot s None = None
place_of_slot s (Some p) = slot_at s p

abbrev pub holding_in : Shape → Option ℕ → Holding
holding_in s None = Unset
holding_in s (Some i) = (tracked_at s i).held

abbrev pub load_of : ℕ → Holding → ℕ → Scene → List Case
load_of x Unset pc s = []
load_of x Dead pc s = []
load_of x h pc s = leads pc (with_var x h (zero_form s.width) s) ∷ []

abbrev pub slot_holding : Scene → Place → Holding
slot_holding s place = holding_in s.shape (place_of_slot s.shape (spot_of s place))

abbrev pub load_by_kind : Bool → Bool → ℕ → Place → ℕ → Scene → List Case
load_by_kind true integer x place pc s = load_of x (slot_holding s place) pc s
load_by_kind false true x place pc s = frees x pc (with_var x Number (zero_form s.width) s) ∷ []
load_by_kind false false x place pc s =
    leads pc (with_var x Null (zero_form s.width) s) ∷ leads pc (with_var x Text (zero_form s.width) s) ∷ []

abbrev pub load_cases : ℕ → Place → ℕ → Scene → List Case
load_cases x place pc s = load_by_kind (is_object (place_kind place)) (is_integer (place_kind place)) x place pc s

abbrev pub put_slot : Holding → Option ℕ → Scene → Scene
put_slot h None s = s
put_slot h (Some i) s =
    record s {
      shape = record s.shape {
        slots = slice_set s.shape.slots i (record (tracked_at s.shape i) { held = h });
      };
    }

abbrev pub store_object : Holding → Place → Scene → Scene
store_object h place s =
    put_slot h (place_of_slot s.shape (spot_of s place))
    (add_to_holding h (negsuc 0) (add_to_holding (slot_holding s place) (pos 1) s))

abbrev pub store_cases : Place → Atom → ℕ → Scene → List Case
store_cases place a pc s =
    leads pc (if is_object (place_kind place) then store_object (holding_of s a) place s else s) ∷ []
