-- What is held, and slots, where tokens have other numbers and objects.
use Rattle.std.proofs.Common.{◌≡◌, ℕ, zero, suc, List, [], ◌∷◌, map, get_or, true}
use Rattle.std.proofs.Common.{false, refl, sym, ap, ◌∙◌, subst, arith}
use Rattle.std.specs.List.{All, AllPairs}
use Rattle.std.proofs.lemmas.List.{get_or-map, length-map}
use Rattle.pungi_base.specs.declared.value.Value.TheVariants as value
use Rattle.pungi_world.specs.declared.content.Content.{Content}
use Rattle.pungi_world.specs.declared.content.Content.TheVariants as content
use Rattle.pungi_world.specs.declared.slot.Slot.TheVariants as slots
use Rattle.pungi_world.specs.declared.world.World.{World}
use Rattle.pungi_world.specs.Slots.{place_of}
use Rattle.pungi_shape.specs.declared.holding.Holding.{Holding}
use Rattle.pungi_shape.specs.declared.holding.Holding.TheVariants.{Dead, Unset, Null, Text, Known, Number, Token}
use Rattle.pungi_shape.specs.declared.tracked.Spot.{Spot}
use Rattle.pungi_shape.specs.declared.tracked.Spot.TheVariants.{Global, Field}
use Rattle.pungi_shape.specs.declared.tracked.Tracked.{Tracked}
use Rattle.pungi_shape.specs.Shapes.{is_number, rename_holding, rename_spot, rename_tracked}
use Rattle.pungi_shape.specs.Described.{Naming, HoldsSo, SlotHoldsSo, slot_named, content_in}
use Rattle.pungi_shape.proofs.sound.Shows.{is_no_pointer, is_no_content}

-- ---- lists

pub All_of_map : {X Y : Type 0} (P : Y → Type 0) (f : X → Y) (xs : List X) → All P (map f xs) → All (λ x. P (f x)) xs
All_of_map P f xs all k d lt =
    subst P (get_or-map f xs k d (f d) lt) (all k (f d) (let e = length-map xs f in omega (arith, e, lt)))

pub map_map : {X Y Z : Type 0} (f : Y → Z) (g : X → Y) (xs : List X) → map f (map g xs) ≡ map (λ x. f (g x)) xs
map_map f g [] = refl
map_map f g (x ∷ xs) = ap (λ z. f (g x) ∷ z) (map_map f g xs)

-- at a default that goes along
pub get_map : {X Y : Type 0} (f : X → Y) (xs : List X) (i : ℕ) (d : X) → get_or (map f xs) i (f d) ≡ f (get_or xs i d)
get_map f [] i d = refl
get_map f (x ∷ xs) zero d = refl
get_map f (x ∷ xs) (suc i) d = get_map f xs i d

pub AllPairs_map : {X Y : Type 0} (R : Y → Y → Type 0) (f : X → Y) (xs : List X) (d : X)
    → AllPairs (λ x y. R (f x) (f y)) xs → AllPairs R (map f xs)
AllPairs_map R f xs d all i j e lt in_j =
    let n = length-map xs f in
    let p = get_or-map f xs i d e (omega (arith, n, lt, in_j)) in
    let q = get_or-map f xs j d e (omega (arith, n, in_j)) in
    subst (λ z. R z (get_or (map f xs) j e)) (sym p)
    (subst (λ z. R (f (get_or xs i d)) z) (sym q) (all i j d lt (omega (arith, n, in_j))))

-- ---- what is held

pub holds_renamed : (names other : Naming) (g : ℕ → ℕ) (h : Holding) (c : Content)
    → ((t : ℕ) → h ≡ Token t → other (g t) ≡ names t) → HoldsSo names h c → HoldsSo other (rename_holding g h) c
holds_renamed names other g Dead c same is = tt
holds_renamed names other g Unset c same is = is
holds_renamed names other g Null c same is = is
holds_renamed names other g Text c same is = is
holds_renamed names other g (Known n) c same is = is
holds_renamed names other g Number c same is = is
holds_renamed names other g (Token t) c same is = is ∙ ap (λ o. content.Holds (value.Object o)) (sym (same t refl))

pub holds_named : (names other : Naming) (h : Holding) (c : Content)
    → ((t : ℕ) → h ≡ Token t → other t ≡ names t) → HoldsSo names h c → HoldsSo other h c
holds_named names other Dead c same is = tt
holds_named names other Unset c same is = is
holds_named names other Null c same is = is
holds_named names other Text c same is = is
holds_named names other (Known n) c same is = is
holds_named names other Number c same is = is
holds_named names other (Token t) c same is = is ∙ ap (λ o. content.Holds (value.Object o)) (sym (same t refl))

pub number_renamed : (g : ℕ → ℕ) (h : Holding) → is_number (rename_holding g h) ≡ is_number h
number_renamed g Dead = refl
number_renamed g Unset = refl
number_renamed g Null = refl
number_renamed g Text = refl
number_renamed g (Known n) = refl
number_renamed g Number = refl
number_renamed g (Token t) = refl

pub no_number_of : (h : Holding) → is_no_pointer h ≡ false → is_number h ≡ false
no_number_of Dead e = absurd (let bad : true ≡ false = e in cc)
no_number_of Unset e = absurd (let bad : true ≡ false = e in cc)
no_number_of Null e = refl
no_number_of Text e = refl
no_number_of (Known n) e = absurd (let bad : true ≡ false = e in cc)
no_number_of Number e = absurd (let bad : true ≡ false = e in cc)
no_number_of (Token t) e = refl

pub content_renamed : (g : ℕ → ℕ) (h : Holding) → is_no_content (rename_holding g h) ≡ is_no_content h
content_renamed g Dead = refl
content_renamed g Unset = refl
content_renamed g Null = refl
content_renamed g Text = refl
content_renamed g (Known n) = refl
content_renamed g Number = refl
content_renamed g (Token t) = refl

abbrev IsSomeToken : Holding → Type 0
IsSomeToken (Token u) = Unit {0}
IsSomeToken h = ⊥

pub token_not_dead : (t : ℕ) → Token t ≡ Dead → ⊥
token_not_dead t e = subst IsSomeToken e tt

pub dead_before : (g : ℕ → ℕ) (h : Holding) → rename_holding g h ≡ Dead → h ≡ Dead
dead_before g Dead e = refl
dead_before g Unset e = e
dead_before g Null e = e
dead_before g Text e = e
dead_before g (Known n) e = e
dead_before g Number e = e
dead_before g (Token t) e = absurd (token_not_dead (g t) e)

-- ---- slots

-- the object of a slot's token is the same
abbrev pub SameBase : Naming → Naming → (ℕ → ℕ) → Spot → Type 0
SameBase names other g (Global n) = Unit {0}
SameBase names other g (Field b tag field) = other (g b) ≡ names b

pub slot_renamed : (names other : Naming) (g : ℕ → ℕ) (p : Spot) → SameBase names other g p
    → slot_named other (rename_spot g p) ≡ slot_named names p
slot_renamed names other g (Global n) same = refl
slot_renamed names other g (Field b tag field) same = ap (λ o. slots.Field o tag field) same

pub slot_other : (names other : Naming) (p : Spot) → SameBase names other (λ t. t) p
    → slot_named other p ≡ slot_named names p
slot_other names other (Global n) same = refl
slot_other names other (Field b tag field) same = ap (λ o. slots.Field o tag field) same

pub tracked_renamed : (names other : Naming) (g : ℕ → ℕ) (w : World) (r : Tracked)
    → SameBase names other g r.spot → ((t : ℕ) → r.held ≡ Token t → other (g t) ≡ names t) → SlotHoldsSo names w r
    → SlotHoldsSo other w (rename_tracked g r)
tracked_renamed names other g w r base same is = (
  is.0,
  ap (λ q. content_in w (place_of w.slots q)) (slot_renamed names other g r.spot base) ∙ is.1,
  holds_renamed names other g r.held is.0 same is.2,
)

pub tracked_other : (names other : Naming) (w : World) (r : Tracked) → SameBase names other (λ t. t) r.spot
    → ((t : ℕ) → r.held ≡ Token t → other t ≡ names t) → SlotHoldsSo names w r → SlotHoldsSo other w r
tracked_other names other w r base same is = (
  is.0,
  ap (λ q. content_in w (place_of w.slots q)) (slot_other names other r.spot base) ∙ is.1,
  holds_named names other r.held is.0 same is.2,
)
