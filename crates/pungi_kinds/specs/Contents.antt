-- Contents of variables and slots that are of their kind (C11 6.2.5, 6.5). A number is in the range of its kind, and an
-- object is one of those that are there.
--   content_holds n k c         a content is unset or a value of this kind, where there are n objects
--   contents_hold n ks cs       so are those of variables of these kinds, one for each
--   gives_result n k o          what a code returns is of this kind; nothing where there is no kind
--   are_two n k c d             two contents are of one kind
--   may_be_compared n o c d     two contents are numbers, objects or texts; numbers where the order is compared
--   argument_kind p             what a value is that is passed for a parameter: NULL where it may not be stops the call
--   arguments_hold n ps cs      contents are of the kinds of these parameters, one for each
--   IsPlaceOf codes place       some instruction of the codes of a file reads or writes a place
--   is_place_of s place         a place names a slot
--   IsSlotOf codes s            some place of the file names a slot
--   SlotHolds codes n s c       a content is of the kind of each place of the file that names a slot
--   SlotsHold codes n slots     so are those of the slots that were touched
use Rattle.std.specs.Prelude.{◌≡◌, ℕ, ◌==◌, Bool, true, false, ◌&&◌, ◌||◌, List, [], ◌∷◌, Option, Some, None, map}
use Rattle.std.specs.Prelude.{if◌then◌else◌, slice_get}
use Rattle.pungi_api.specs.declared.param.Param.{Param}
use Rattle.pungi_api.specs.declared.param.Param.TheVariants as param
use Rattle.pungi_world.specs.declared.content.Content.{Content}
use Rattle.pungi_world.specs.declared.content.Content.TheVariants.{Unset, Holds}
use Rattle.pungi_world.specs.declared.slot.Slot.{Slot}
use Rattle.pungi_world.specs.declared.slot.Slot.TheVariants as slot
use Rattle.pungi_world.specs.declared.slot.SlotState.{SlotState}
use Rattle.pungi_meaning.specs.declared.cmp.Cmp.{Cmp}
use Rattle.pungi_code.specs.declared.code.Code.{Code}
use Rattle.pungi_code.specs.declared.code.Codes.{Codes}
use Rattle.pungi_code.specs.declared.code.Line.{Line}
use Rattle.pungi_code.specs.declared.place.Place.{Place}
use Rattle.pungi_code.specs.declared.place.Place.TheVariants.{Global, Field}
use Rattle.pungi_code.specs.Entries.{holds_value}
use Rattle.pungi_code.specs.WellFormed.{is_order, place_kind, place_of}

abbrev pub content_holds : ℕ → Param → Content → Bool
content_holds n k Unset = true
content_holds n k (Holds v) = holds_value n k v

abbrev pub contents_hold : ℕ → List Param → List Content → Bool
contents_hold n [] [] = true
contents_hold n [] (c ∷ cs) = false
contents_hold n (k ∷ ks) [] = false
contents_hold n (k ∷ ks) (c ∷ cs) = content_holds n k c && contents_hold n ks cs

abbrev pub gives_result : ℕ → Option Param → Option Content → Bool
gives_result n None None = true
gives_result n None (Some c) = false
gives_result n (Some k) None = false
gives_result n (Some k) (Some c) = content_holds n k c

-- ---- comparisons

abbrev pub are_two : ℕ → Param → Content → Content → Bool
are_two n k c d = content_holds n k c && content_holds n k d

abbrev pub may_be_compared : ℕ → Cmp → Content → Content → Bool
may_be_compared n o c d =
    if is_order o then are_two n param.Long c d else
    are_two n param.Long c d || (are_two n param.ObjectOrNull c d || are_two n param.TextOrNull c d)

-- ---- arguments

abbrev pub argument_kind : Param → Param
argument_kind param.Object = param.ObjectOrNull
argument_kind param.Text = param.TextOrNull
argument_kind param.ModuleDef = param.TextOrNull
argument_kind k = k

abbrev pub arguments_hold : ℕ → List Param → List Content → Bool
arguments_hold n ps cs = contents_hold n (map argument_kind ps) cs

-- ---- slots

pub record IsPlaceOf (codes : Codes) (place : Place) : Type 0 where
  pub function : ℕ
  pub code : Code
  pub number : ℕ
  pub line : Line
  pub there : slice_get codes.codes function ≡ Some (Some code)
  pub at : slice_get code.instrs number ≡ Some line
  pub is : place_of line.instr ≡ Some place

abbrev pub is_place_of : Slot → Place → Bool
is_place_of (slot.Global m) (Global n k) = n.0 == m.0
is_place_of (slot.Field object tag field) (Field base struct name k) = struct.0 == tag.0 && name.0 == field.0
is_place_of s place = false

pub record IsSlotOf (codes : Codes) (s : Slot) : Type 0 where
  pub place : Place
  pub of : IsPlaceOf codes place
  pub named : is_place_of s place ≡ true

abbrev pub SlotHolds : Codes → ℕ → Slot → Content → Type 0
SlotHolds codes n s c =
    (place : Place) → IsPlaceOf codes place → is_place_of s place ≡ true → content_holds n (place_kind place) c ≡ true

abbrev pub SlotsHold : Codes → ℕ → List SlotState → Type 0
SlotsHold codes n [] = Unit {0}
SlotsHold codes n (t ∷ slots) = SlotHolds codes n t.slot t.held × SlotsHold codes n slots
