-- Parts of steps that keep the static objects.
--   Keeps s t               a scene has the same static objects
use Rattle.std.proofs.Common.{◌≡◌, ◌∙◌, ℕ, Bool, true, false, ℤ, pos, negsuc, List, [], ◌∷◌, map, Option, Some}
use Rattle.std.proofs.Common.{None, if◌then◌else◌, refl, ap}
use Rattle.std.specs.List.{All, slice_index_or}
use Rattle.std.proofs.lemmas.List.Elements.{All-append, All-cons, All-map, All-nil}
use Rattle.pungi_api.specs.declared.own_effect.OwnEffect.{OwnEffect}
use Rattle.pungi_api.specs.declared.own_effect.OwnEffect.TheVariants.{IncRef, DecRef}
use Rattle.pungi_api.specs.declared.signature.Signature.{Signature}
use Rattle.pungi_api.specs.declared.take.Take.{Take}
use Rattle.pungi_world.specs.Calls.{is_call_success, is_taken}
use Rattle.pungi_code.specs.declared.atom.Atom.{Atom}
use Rattle.pungi_code.specs.declared.atom.Var.{Var}
use Rattle.pungi_code.specs.declared.place.Place.{Place}
use Rattle.pungi_code.specs.declared.place.Place.TheVariants as places
use Rattle.pungi_code.specs.WellFormed.{is_object, place_kind}
use Rattle.pungi_shape.specs.declared.holding.Holding.{Holding}
use Rattle.pungi_shape.specs.declared.holding.Holding.TheVariants.{Dead, Unset, Null, Text, Known, Number, Token}
use Rattle.pungi_shape.specs.declared.tracked.Spot.{Spot}
use Rattle.pungi_shape.specs.Calls.{Outcome, does, first_holding, outcome_value, put_if, put_reference, take_over}
use Rattle.pungi_shape.specs.Forms.{Form, zero_form}
use Rattle.pungi_shape.specs.Reached.{names_in}
use Rattle.pungi_shape.specs.Scenes.{Scene, add_to_holding, holding_of, merge, new_token, redirect, with_token}
use Rattle.pungi_shape.specs.Shapes.{rename_holding}
use Rattle.pungi_shape.specs.Slots.{find_field, find_slot, first_contents, is_of_made, is_tracked, place_of_slot}
use Rattle.pungi_shape.specs.Slots.{put_slot, same_objects, slot_holding, spot_of, store_object, touch_at, touch_first}
use Rattle.pungi_shape.specs.Slots.{track}
use Rattle.pungi_shape.specs.Steps.{after_return}

abbrev pub Keeps : Scene → Scene → Type 0
Keeps s t = names_in t.shape ≡ names_in s.shape

pub names_renamed : (g : ℕ → ℕ) (ks : List (ℕ × Holding))
    → map (λ (k : ℕ × Holding). k.0) (map (λ (k : ℕ × Holding). (k.0, rename_holding g k.1)) ks)
    ≡ map (λ (k : ℕ × Holding). k.0) ks
names_renamed g [] = refl
names_renamed g (k ∷ ks) = ap (λ (l : List ℕ). k.0 ∷ l) (names_renamed g ks)

pub merge_keeps : (t u : ℕ) (s : Scene) → Keeps s (merge t u s)
merge_keeps t u s = names_renamed (redirect t u) s.shape.statics

add_keeps : (h : Holding) (m : ℤ) (s : Scene) → Keeps s (add_to_holding h m s)
add_keeps (Token t) m s = refl
add_keeps Dead m s = refl
add_keeps Unset m s = refl
add_keeps Null m s = refl
add_keeps Text m s = refl
add_keeps (Known k) m s = refl
add_keeps Number m s = refl

pub if_keeps : (b : Bool) (s t u : Scene) → Keeps s t → Keeps s u → Keeps s (if b then t else u)
if_keeps true s t u g h = g
if_keeps false s t u g h = h

take_keeps : (success : Bool) (ts : List Take) (hs : List Holding) (s : Scene) → Keeps s (take_over success ts hs s)
take_keeps success [] hs s = refl
take_keeps success (t ∷ ts) [] s = refl
take_keeps success (t ∷ ts) (h ∷ hs) s =
    take_keeps success ts hs (if is_taken success t then add_to_holding h (negsuc 0) s else s)
    ∙ if_keeps (is_taken success t) s (add_to_holding h (negsuc 0) s) s (add_keeps h (negsuc 0) s) refl

pub does_keeps : (own : Option OwnEffect) (g : Signature) (hs : List Holding) (o : Outcome) (s : Scene)
    → Keeps s (does own g hs o s)
does_keeps None g hs o s = take_keeps (is_call_success g.answer (outcome_value o)) g.takes hs s
does_keeps (Some IncRef) g hs o s = add_keeps (first_holding hs) (pos 1) s
does_keeps (Some DecRef) g hs o s = add_keeps (first_holding hs) (negsuc 0) s

pub put_keeps : (x : Option Var) (h : Holding) (f : Form) (s : Scene) → Keeps s (put_if x h f s)
put_keeps None h f s = refl
put_keeps (Some x) h f s = refl

pub reference_keeps : (x : Option Var) (m : ℤ) (made : Bool) (s : Scene)
    → Keeps s (put_reference x m made s)
reference_keeps None m made s = refl
reference_keeps (Some x) m made s = refl

pub return_keeps : (a : Option Atom) (s : Scene) → Keeps s (after_return a s)
return_keeps None s = refl
return_keeps (Some a) s = refl

slot_keeps : (h : Holding) (o : Option ℕ) (s : Scene) → Keeps s (put_slot h o s)
slot_keeps h None s = refl
slot_keeps h (Some i) s = refl

pub store_keeps : (h : Holding) (place : Place) (s : Scene) → Keeps s (store_object h place s)
store_keeps h place s =
    let t = add_to_holding (slot_holding s place) (pos 1) s in
    slot_keeps h (place_of_slot s.shape (spot_of s place)) (add_to_holding h (negsuc 0) t)
    ∙ add_keeps h (negsuc 0) t
    ∙ add_keeps (slot_holding s place) (pos 1) s

-- ---- slots

one_keeps : (s t : Scene) → Keeps s t → All (Keeps s) (t ∷ [])
one_keeps s t h = All-cons (Keeps s) t [] h (All-nil (Keeps s))

no_field : (s : Scene) → All (Keeps s) []
no_field s = All-nil (Keeps s)

field_keeps : (h : Holding) (tag field : _) (s : Scene) → All (Keeps s) (find_field h tag field s)
field_keeps (Token b) tag field s =
    All-append (Keeps s) (map (λ c. merge b c s) (same_objects s.shape b tag field)) (s ∷ [])
    (All-map (Keeps s) (λ c. merge b c s) (same_objects s.shape b tag field)
    (λ k d below. merge_keeps b (slice_index_or (same_objects s.shape b tag field) k d) s))
    (one_keeps s s refl)
field_keeps Dead tag field s = no_field s
field_keeps Unset tag field s = no_field s
field_keeps Null tag field s = no_field s
field_keeps Text tag field s = no_field s
field_keeps (Known k) tag field s = no_field s
field_keeps Number tag field s = no_field s

pub find_keeps : (place : Place) (s : Scene) → All (Keeps s) (find_slot place s)
find_keeps (places.Global n kind) s = one_keeps s s refl
find_keeps (places.Field base tag field kind) s = field_keeps (holding_of s base) tag field s

scenes_if : (s : Scene) (b : Bool) (ts us : List Scene) → All (Keeps s) ts → All (Keeps s) us
    → All (Keeps s) (if b then ts else us)
scenes_if s true ts us g h = g
scenes_if s false ts us g h = h

contents_keep : (p : Spot) (s : Scene) → All (Keeps s) (first_contents p s)
contents_keep p s =
    let known = track p Null s in
    let fresh = track p (Token (new_token s)) (with_token (zero_form s.width) false s) in
    scenes_if s (is_of_made s.shape p) (track p Unset s ∷ []) (known ∷ fresh ∷ []) (one_keeps s (track p Unset s) refl)
    (All-cons (Keeps s) known (fresh ∷ []) refl (one_keeps s fresh refl))

touch_keeps : (o : Option Spot) (s : Scene) → All (Keeps s) (touch_at o s)
touch_keeps None s = no_field s
touch_keeps (Some p) s =
    scenes_if s (is_tracked s.shape p) (s ∷ []) (first_contents p s) (one_keeps s s refl)
    (contents_keep p s)

pub first_keeps : (place : Place) (s : Scene) → All (Keeps s) (touch_first place s)
first_keeps place s =
    scenes_if s (is_object (place_kind place)) (touch_at (spot_of s place) s) (s ∷ []) (touch_keeps (spot_of s place) s)
    (one_keeps s s refl)
