-- What a tracked slot of objects holds.
--   Holds           its place, and what it holds
use Rattle.std.proofs.Common.{◌≡◌, ◌≢◌, ℕ, ◌<◌, false, List, [], ◌∷◌, length, map, get_or, refl, sym}
use Rattle.std.proofs.Common.{ap, ◌∙◌, subst, arith, Option, Some, None}
use Rattle.std.specs.Prelude.{position}
use Rattle.std.proofs.lemmas.List.{get_or-map}
use Rattle.std.proofs.lemmas.List.Quantifiers.{position-Some}
use Rattle.std.proofs.lemmas.List.{length-map}
use Rattle.pungi_base.specs.declared.value.Value.{Value}
use Rattle.pungi_domain.specs.Vectors.{Vector}
use Rattle.pungi_world.specs.declared.content.Content.{Content}
use Rattle.pungi_world.specs.declared.content.Content.TheVariants as content
use Rattle.pungi_world.specs.declared.slot.Slot.{Slot}
use Rattle.pungi_code.specs.declared.place.Place.{Place}
use Rattle.pungi_shape.specs.declared.holding.Holding.{Holding}
use Rattle.pungi_shape.specs.declared.holding.Holding.TheVariants.{Dead, Unset, Null, Text, Known, Number, Token}
use Rattle.pungi_shape.specs.declared.tracked.Spot.{Spot}
use Rattle.pungi_shape.specs.declared.tracked.Tracked.{Tracked}
use Rattle.pungi_shape.specs.Cases.{leads}
use Rattle.pungi_shape.specs.Forms.{zero_form}
use Rattle.pungi_shape.specs.Scenes.{Scene, with_var}
use Rattle.pungi_shape.specs.Slots.{spot_of, is_spot, no_slot, tracked_at, place_of_slot, holding_in}
use Rattle.pungi_shape.specs.Slots.{slot_holding, load_of}
use Rattle.pungi_shape.specs.Described.{Naming, HoldsSo, slot_named}
use Rattle.pungi_shape.proofs.sound.Views.{View}
use Rattle.pungi_shape.proofs.sound.Shows.{IsScene, Shows, IsLiveIn, is_no_pointer, is_no_content, held_in}
use Rattle.pungi_shape.proofs.sound.Arrives.{IsTrackedSlot}
use Rattle.pungi_shape.proofs.sound.Atoms.{FindsSlot}
use Rattle.pungi_shape.proofs.sound.Finds.{tracked_at_place}
use Rattle.pungi_shape.proofs.sound.worlds.Places.{found, none_before}
use Rattle.pungi_shape.proofs.sound.Tests.{no_way}
use Rattle.pungi_shape.proofs.sound.Spots.{one_spot, spot_itself}

pub record IsHeldAt (names : Naming) (s : Scene) (place : Place) (p : Spot) (c : Content) : Type 0 where
  pub number_of : ℕ
  pub within : number_of < length s.shape.slots
  pub is_spot : (tracked_at s.shape number_of).spot ≡ p
  pub place_is : place_of_slot s.shape (spot_of s place) ≡ Some number_of
  pub held : slot_holding s place ≡ (tracked_at s.shape number_of).held
  pub so : HoldsSo names (slot_holding s place) c
  pub live : IsLiveIn s.balances (slot_holding s place)
  pub content : is_no_content (slot_holding s place) ≡ false

-- a spot that is tracked stands at its place
tracked_place : (rs : List Tracked) (p : Spot) (i : ℕ) → i < length rs → (get_or rs i no_slot).spot ≡ p
    → (o : Option ℕ) → position (λ (r : Tracked). is_spot r.spot p) rs ≡ o
    → (k : ℕ) × (position (λ (r : Tracked). is_spot r.spot p) rs ≡ Some k)
tracked_place rs p i lt e (Some k) f = (k, f)
tracked_place rs p i lt e None f =
    no_way (sym (none_before (λ (r : Tracked). is_spot r.spot p) rs no_slot f i lt) ∙ ap (λ q. is_spot q p) e
    ∙ spot_itself p)

module _ (ks : List ℕ) (n : ℕ) (names : Naming) (v : Vector) (s : Scene) (o : View) (is : IsScene ks n s)
    (shows : Shows names v None s o) (place : Place) (z : Slot) (finds : FindsSlot names s place z)
    (tracked : IsTrackedSlot s place) (c : Content) (found_is : found o.world z ≡ Some c) where
  abbrev p : Spot
  p = finds.spot

  abbrev rs : List Tracked
  rs = s.shape.slots

  pub held_at : IsHeldAt names s place p c
  held_at =
      let t = tracked_at_place s.shape p (tracked p finds.is_spot) in
      let at = tracked_place rs p t.0 t.1.0 t.1.1 (position (λ (r : Tracked). is_spot r.spot p) rs) refl in
      let i = at.0 in
      let f = position-Some (λ (r : Tracked). is_spot r.spot p) rs i no_slot at.1 in
      let here : place_of_slot s.shape (spot_of s place) ≡ Some i = ap (place_of_slot s.shape) finds.is_spot ∙ at.1 in
      let held : slot_holding s place ≡ (tracked_at s.shape i).held = ap (holding_in s.shape) here in
      let spot : (tracked_at s.shape i).spot ≡ p = one_spot (tracked_at s.shape i).spot p f.1 in
      let so = shows.slots i no_slot f.0 in
      let same : Some so.0 ≡ Some c = sym so.1 ∙ ap (λ q. found o.world (slot_named names q)) spot
      ∙ ap (found o.world) finds.is_slot ∙ found_is in
      let is_c : so.0 ≡ c = cc in
      let l = length-map rs held_in in
      let lt = f.0 in
      let in_helds : i < length (map held_in rs) = omega (arith, l, lt) in
      let at_held = get_or-map held_in rs i no_slot Dead f.0 in
      record {
        number_of = i;
        within = f.0;
        is_spot = spot;
        place_is = here;
        held = held;
        so = subst (λ h. HoldsSo names h c) (sym held)
            (subst (HoldsSo names (tracked_at s.shape i).held) is_c so.2);
        live = subst (IsLiveIn s.balances) (at_held ∙ sym held) (is.slots_live i Dead in_helds);
        content = ap is_no_content held ∙ ap is_no_content (sym at_held) ∙ is.no_numbers i Dead in_helds;
      }

-- what holds a value isn't unset
pub content_pointer : (names : Naming) (h : Holding) (x : Value) → is_no_content h ≡ false
    → HoldsSo names h (content.Holds x) → is_no_pointer h ≡ false
content_pointer names Unset x e so = absurd (let bad : content.Holds x ≡ content.Unset = so in cc)
content_pointer names Dead x e so = e
content_pointer names Null x e so = e
content_pointer names Text x e so = e
content_pointer names (Known n) x e so = e
content_pointer names Number x e so = e
content_pointer names (Token t) x e so = e

pub pointer_content : (h : Holding) → is_no_pointer h ≡ false → is_no_content h ≡ false
pointer_content Unset e = refl
pointer_content Dead e = e
pointer_content Null e = e
pointer_content Text e = e
pointer_content (Known n) e = e
pointer_content Number e = e
pointer_content (Token t) e = e

pub content_set : (h : Holding) → is_no_content h ≡ false → h ≢ Dead
content_set h e d = no_way (sym e ∙ ap is_no_content d)

pub pointer_loaded : (h : Holding) (x pc : ℕ) (s : Scene) → is_no_pointer h ≡ false
    → load_of x h pc s ≡ leads pc (with_var x h (zero_form s.width) s) ∷ []
pointer_loaded Dead x pc s e = no_way (sym e)
pointer_loaded Unset x pc s e = no_way (sym e)
pointer_loaded Null x pc s e = refl
pointer_loaded Text x pc s e = refl
pointer_loaded (Known n) x pc s e = no_way (sym e)
pointer_loaded Number x pc s e = no_way (sym e)
pointer_loaded (Token t) x pc s e = refl

pub pointer_set : (h : Holding) → is_no_pointer h ≡ false → h ≢ Dead
pointer_set h e d = no_way (sym e ∙ ap is_no_pointer d)
