-- What holds of the cases of loads and stores.
use Rattle.std.proofs.Common.{ℕ, ◌<◌, ◌≤◌, ◌^◌, Bool, true, false, ℤ, pos, negsuc, List, [], ◌∷◌, ◌++◌}
use Rattle.std.proofs.Common.{length, map, Option, None, Some, if◌then◌else◌, sym, subst, arith, lit≤}
use Rattle.std.specs.List.{All}
use Rattle.std.proofs.lemmas.Int.{ints}
use Rattle.std.proofs.lemmas.List.Elements.{All-append, All-cons, All-nil}
use Rattle.std.proofs.lemmas.List.{map-append}
use Rattle.pungi_base.specs.declared.names.Name.{Name}
use Rattle.pungi_code.specs.declared.atom.Atom.{Atom}
use Rattle.pungi_code.specs.declared.place.Place.{Place}
use Rattle.pungi_code.specs.declared.place.Place.TheVariants as places
use Rattle.pungi_code.specs.WellFormed.{is_integer, is_object, place_kind}
use Rattle.pungi_shape.specs.declared.holding.Holding.{Holding}
use Rattle.pungi_shape.specs.declared.holding.Holding.TheVariants.{Dead, Unset, Null, Text, Known, Number, Token}
use Rattle.pungi_shape.specs.declared.tracked.Spot.{Spot}
use Rattle.pungi_shape.specs.declared.tracked.Spot.TheVariants.{Global, Field}
use Rattle.pungi_shape.specs.declared.shape.Shape.{Shape}
use Rattle.pungi_shape.specs.Bounds.{IsBelow, IsPlain, IsHeld, IsScene}
use Rattle.pungi_shape.specs.Cases.{within, leads_to, passes_on, leads, frees}
use Rattle.pungi_shape.specs.Forms.{zero_form}
use Rattle.pungi_shape.specs.Scenes.{Scene, add_to_holding, holding_of, merge, new_token, with_token, with_var}
use Rattle.pungi_shape.specs.Slots.{find_field, find_slot, first_contents, holding_in, is_of_made, is_tracked}
use Rattle.pungi_shape.specs.Slots.{load_by_kind}
use Rattle.pungi_shape.specs.Slots.{load_cases, load_of, place_of_slot, same_objects, slot_holding, spot_of}
use Rattle.pungi_shape.specs.Slots.{field_spot, store_cases, store_object, touch_at, touch_first, track}
use Rattle.pungi_shape.proofs.AfterLemmas.{IsAfter, after-add, after-loose, after-merge, after-none, after-slot}
use Rattle.pungi_shape.proofs.AfterLemmas.{after-token}
use Rattle.pungi_shape.proofs.AfterLemmas.{after-track, held_at, new-below}
use Rattle.pungi_shape.proofs.BalanceLemmas.{add_to_holding-shape, zero_within}
use Rattle.pungi_shape.proofs.GoodCases.{AreGood, IsGoodCase, none_good, one_good, plain}
use Rattle.pungi_shape.proofs.GoodCases.{two_good, var_good, zero_width}
use Rattle.pungi_shape.proofs.TokenLemmas.{IsSpotBelow, holding_of-held}

pub on_good : (j : ℕ) (s t : Scene) → IsAfter j s t → j ≤ 2 ^ 20 → IsGoodCase s (passes_on 0 t)
on_good j s t k le = plain j s t None (within 0) k le

-- ---- which slot it is

merged_good : (s : Scene) (b : ℕ) (cs : List ℕ) → IsScene s → IsPlain s → b < length s.shape.made
    → All (IsGoodCase s) (map (passes_on 0) (map (λ c. merge b c s) cs))
merged_good s b [] k fresh hb = All-nil (IsGoodCase s)
merged_good s b (c ∷ cs) k fresh hb =
    All-cons (IsGoodCase s) (passes_on 0 (merge b c s)) (map (passes_on 0) (map (λ c. merge b c s) cs))
    (on_good 2 s (merge b c s) (after-merge 1 b c s s (after-none s k fresh) hb) (lit≤ tt))
    (merged_good s b cs k fresh hb)

pub unchanged_good : (s : Scene) → IsScene s → IsPlain s → AreGood s (map (passes_on 0) (s ∷ []))
unchanged_good s k fresh = one_good s (passes_on 0 s) (on_good 1 s s (after-none s k fresh) (lit≤ tt))

joined_good : (s : Scene) (ts us : List Scene) → AreGood s (map (passes_on 0) ts) → AreGood s (map (passes_on 0) us)
    → AreGood s (map (passes_on 0) (ts ++ us))
joined_good s ts us g h =
    subst (λ l. AreGood s l) (sym (map-append (passes_on 0) ts us))
    (All-append (IsGoodCase s) (map (passes_on 0) ts) (map (passes_on 0) us) g h)

find_field-good : (h : Holding) (tag field : Name) (s : Scene) → IsScene s → IsPlain s → IsHeld s h
    → AreGood s (map (passes_on 0) (find_field h tag field s))
find_field-good (Token b) tag field s k fresh held =
    joined_good s (map (λ c. merge b c s) (same_objects s.shape b tag field)) (s ∷ [])
    (merged_good s b (same_objects s.shape b tag field) k fresh held) (unchanged_good s k fresh)
find_field-good Dead tag field s k fresh held = none_good s
find_field-good Unset tag field s k fresh held = none_good s
find_field-good Null tag field s k fresh held = none_good s
find_field-good Text tag field s k fresh held = none_good s
find_field-good (Known m) tag field s k fresh held = none_good s
find_field-good Number tag field s k fresh held = none_good s

pub find_slot-good : (place : Place) (s : Scene) → IsScene s → IsPlain s
    → AreGood s (map (passes_on 0) (find_slot place s))
find_slot-good (places.Global n kind) s k fresh = unchanged_good s k fresh
find_slot-good (places.Field base tag field kind) s k fresh =
    find_field-good (holding_of s base) tag field s k fresh (holding_of-held s base k)

-- ---- the first touch

spot_held : (n : ℕ) (p : Spot) (m : ℕ) → n ≤ m → IsSpotBelow n p → IsSpotBelow m p
spot_held n (Global name) m le h = tt
spot_held n (Field b tag field) m le h = omega (arith, h, le)

chosen_good : (s : Scene) (b : Bool) (ts us : List Scene) → AreGood s (map (passes_on 0) ts)
    → AreGood s (map (passes_on 0) us) → AreGood s (map (passes_on 0) (if b then ts else us))
chosen_good s true ts us g h = g
chosen_good s false ts us g h = h

first_contents-good : (p : Spot) (s : Scene) → IsScene s → IsPlain s → IsSpotBelow (length s.shape.made) p
    → AreGood s (map (passes_on 0) (first_contents p s))
first_contents-good p s k fresh hp =
    let new = with_token (zero_form s.width) false s in
    let a = after-none s k fresh in
    let b : IsAfter 1 s new =
    after-token 1 (zero_form s.width) false s s a (zero_width s.width) (zero_within s.width 1) (λ c. c) in
    let below = new-below (zero_form s.width) false s in
    chosen_good s (is_of_made s.shape p) (track p Unset s ∷ [])
    (track p Null s ∷ track p (Token (new_token s)) new ∷ [])
    (one_good s (passes_on 0 (track p Unset s)) (on_good 1 s (track p Unset s)
    (after-track 1 p Unset s s a hp tt) (lit≤ tt)))
    (two_good s (passes_on 0 (track p Null s)) (passes_on 0 (track p (Token (new_token s)) new))
    (on_good 1 s (track p Null s) (after-track 1 p Null s s a hp tt) (lit≤ tt))
    (on_good 1 s (track p (Token (new_token s)) new)
    (after-track 1 p (Token (new_token s)) s new b
    (spot_held (length s.shape.made) p (length new.shape.made) (omega (arith, below)) hp) below)
    (lit≤ tt)))

IsSpotHeld : ℕ → Option Spot → Type 0
IsSpotHeld n None = Unit {0}
IsSpotHeld n (Some p) = IsSpotBelow n p

touch_at-good : (o : Option Spot) (s : Scene) → IsScene s → IsPlain s → IsSpotHeld (length s.shape.made) o
    → AreGood s (map (passes_on 0) (touch_at o s))
unfolding IsSpotHeld
touch_at-good None s k fresh h = none_good s
touch_at-good (Some p) s k fresh h =
    chosen_good s (is_tracked s.shape p) (s ∷ []) (first_contents p s) (unchanged_good s k fresh)
    (first_contents-good p s k fresh h)

field_held : (n : ℕ) (h : Holding) (tag field : Name) → IsBelow n h → IsSpotHeld n (field_spot h tag field)
unfolding IsSpotHeld
field_held n (Token t) tag field k = k
field_held n Dead tag field k = tt
field_held n Unset tag field k = tt
field_held n Null tag field k = tt
field_held n Text tag field k = tt
field_held n (Known m) tag field k = tt
field_held n Number tag field k = tt

place_held : (place : Place) (s : Scene) → IsScene s → IsSpotHeld (length s.shape.made) (spot_of s place)
unfolding IsSpotHeld
place_held (places.Global n kind) s k = tt
place_held (places.Field base tag field kind) s k =
    field_held (length s.shape.made) (holding_of s base) tag field (holding_of-held s base k)

pub touch_first-good : (place : Place) (s : Scene) → IsScene s → IsPlain s
    → AreGood s (map (passes_on 0) (touch_first place s))
touch_first-good place s k fresh =
    chosen_good s (is_object (place_kind place)) (touch_at (spot_of s place) s) (s ∷ [])
    (touch_at-good (spot_of s place) s k fresh (place_held place s k)) (unchanged_good s k fresh)

-- ---- loads and stores

holding_in_held : (s : Scene) (o : Option ℕ) → IsScene s → IsHeld s (holding_in s.shape o)
holding_in_held s None k = tt
holding_in_held s (Some i) k = held_at s i k

zero_good : (s : Scene) (x pc : ℕ) (h : Holding) (freed : Option ℕ) → IsScene s → IsPlain s → IsHeld s h
    → IsGoodCase s
    (record { guard = []; scene = with_var x h (zero_form s.width) s; freed = freed; onward = leads_to pc })
zero_good s x pc h freed k fresh held = var_good s x pc h (zero_form s.width) freed k fresh held (zero_width s.width)

load_of-good : (x : ℕ) (h : Holding) (pc : ℕ) (s : Scene) → IsScene s → IsPlain s → IsHeld s h
    → AreGood s (load_of x h pc s)
load_of-good x Unset pc s k fresh held = none_good s
load_of-good x Dead pc s k fresh held = none_good s
load_of-good x Null pc s k fresh held =
    one_good s (leads pc (with_var x Null (zero_form s.width) s)) (zero_good s x pc Null None k fresh held)
load_of-good x Text pc s k fresh held =
    one_good s (leads pc (with_var x Text (zero_form s.width) s)) (zero_good s x pc Text None k fresh held)
load_of-good x (Known m) pc s k fresh held =
    one_good s (leads pc (with_var x (Known m) (zero_form s.width) s)) (zero_good s x pc (Known m) None k fresh held)
load_of-good x Number pc s k fresh held =
    one_good s (leads pc (with_var x Number (zero_form s.width) s)) (zero_good s x pc Number None k fresh held)
load_of-good x (Token t) pc s k fresh held =
    one_good s (leads pc (with_var x (Token t) (zero_form s.width) s)) (zero_good s x pc (Token t) None k fresh held)

load_by_kind-good : (object integer : Bool) (x : ℕ) (place : Place) (pc : ℕ) (s : Scene) → IsScene s → IsPlain s
    → AreGood s (load_by_kind object integer x place pc s)
load_by_kind-good true integer x place pc s k fresh =
    load_of-good x (slot_holding s place) pc s k fresh
    (holding_in_held s (place_of_slot s.shape (spot_of s place)) k)
load_by_kind-good false true x place pc s k fresh =
    one_good s (frees x pc (with_var x Number (zero_form s.width) s)) (zero_good s x pc Number (Some x) k fresh tt)
load_by_kind-good false false x place pc s k fresh =
    two_good s (leads pc (with_var x Null (zero_form s.width) s)) (leads pc (with_var x Text (zero_form s.width) s))
    (zero_good s x pc Null None k fresh tt) (zero_good s x pc Text None k fresh tt)

pub load_cases-good : (x : ℕ) (place : Place) (pc : ℕ) (s : Scene) → IsScene s → IsPlain s
    → AreGood s (load_cases x place pc s)
load_cases-good x place pc s k fresh =
    load_by_kind-good (is_object (place_kind place)) (is_integer (place_kind place)) x place pc s k fresh

still_held : (h l : Holding) (n : ℤ) (s : Scene) → IsHeld s l → IsHeld (add_to_holding h n s) l
still_held h l n s held = subst (λ (p : Shape). IsBelow (length p.made) l) (sym (add_to_holding-shape h n s)) held

stored : (h : Holding) (place : Place) (s : Scene) → IsScene s → IsPlain s → IsHeld s h
    → IsAfter 3 s (store_object h place s)
stored h place s k fresh held =
    let out = add_to_holding (slot_holding s place) (pos 1) s in
    let a : IsAfter 2 s out = after-add 1 (slot_holding s place) (pos 1) s s (after-none s k fresh)
    (omega (arith, ints), omega (arith, ints)) in
    let b : IsAfter 3 s (add_to_holding h (negsuc 0) out) = after-add 2 h (negsuc 0) s out a
    (omega (arith, ints), omega (arith, ints)) in
    after-slot 3 h (place_of_slot s.shape (spot_of s place)) s (add_to_holding h (negsuc 0) out) b
    (still_held h h (negsuc 0) out (still_held (slot_holding s place) h (pos 1) s held))

either_scene : (s : Scene) (b : Bool) (t u : Scene) → IsAfter 3 s t → IsAfter 3 s u → IsAfter 3 s (if b then t else u)
either_scene s true t u g h = g
either_scene s false t u g h = h

pub store_cases-good : (place : Place) (a : Atom) (pc : ℕ) (s : Scene) → IsScene s → IsPlain s
    → AreGood s (store_cases place a pc s)
store_cases-good place a pc s k fresh =
    let t = if is_object (place_kind place) then store_object (holding_of s a) place s else s in
    one_good s (leads pc t) (plain 3 s t None (leads_to pc)
    (either_scene s (is_object (place_kind place)) (store_object (holding_of s a) place s) s
    (stored (holding_of s a) place s k fresh (holding_of-held s a k))
    (after-loose 1 3 s s (omega arith) (after-none s k fresh))) (lit≤ tt))
