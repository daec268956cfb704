-- Tokens that are different objects for sure stand for different objects.
use Rattle.std.proofs.Common.{◌≡◌, ◌≢◌, ℕ, suc, ◌+◌, ◌<◌, List, [], ◌∷◌, length, map, get_or, Bool, true}
use Rattle.std.proofs.Common.{sym}
use Rattle.std.proofs.Common.{ap, ◌∙◌, subst, arith, ◌⊎◌, inl, inr, Option}
use Rattle.std.specs.Prelude.{◌==◌, ◌&&◌, ◌||◌}
use Rattle.std.specs.List.{AllPairs, IsAmong, list_any}
use Rattle.std.proofs.lemmas.Bool.{cases_lt, cases_eq}
use Rattle.std.proofs.lemmas.List.{length-map, get_or-map}
use Rattle.pungi_base.specs.declared.names.Name.{Name}
use Rattle.pungi_base.specs.declared.value.Value.TheVariants as value
use Rattle.pungi_domain.specs.Vectors.{Vector}
use Rattle.pungi_world.specs.declared.content.Content.{Content}
use Rattle.pungi_world.specs.declared.content.Content.TheVariants as content
use Rattle.pungi_world.specs.declared.slot.Slot.TheVariants as slots
use Rattle.pungi_shape.specs.declared.holding.Holding.{Holding}
use Rattle.pungi_shape.specs.declared.holding.Holding.TheVariants.{Dead, Unset, Null, Text, Known, Number, Token}
use Rattle.pungi_shape.specs.declared.tracked.Spot.{Spot}
use Rattle.pungi_shape.specs.declared.tracked.Spot.TheVariants.{Global, Field}
use Rattle.pungi_shape.specs.declared.tracked.Tracked.{Tracked}
use Rattle.pungi_shape.specs.Shapes.{is_token}
use Rattle.pungi_shape.specs.Scenes.{Scene, is_made}
use Rattle.pungi_shape.specs.Comparisons.{is_static, is_field_of, is_base, are_one_field, share_field, are_apart}
use Rattle.pungi_shape.specs.Described.{Naming, HoldsSo, slot_named}
use Rattle.pungi_shape.proofs.sound.Views.{View}
use Rattle.pungi_shape.proofs.sound.Shows.{IsScene, Shows, IsLive, AreApart, key_of, spot_in}
use Rattle.pungi_shape.proofs.sound.Members.{among_map, member}
use Rattle.pungi_shape.proofs.sound.Tests.{no_way, both_true, either_true, eqb_is, name_is}

-- ---- small words

-- some element passes a test, at a place
pub any_at : {X : Type 0} (p : X → Bool) (xs : List X) (d : X) → list_any p xs ≡ true
    → (i : ℕ) × ((i < length xs) × (p (get_or xs i d) ≡ true))
any_at p [] d e = no_way e
any_at p (x ∷ xs) d e = elim (either_true (p x) (list_any p xs) e) [
  | inl h ↦ (0, (omega arith, h))
  | inr h ↦ let r = any_at p xs d h in (r.0 + 1, (let lt = r.1.0 in omega (arith, lt), next x xs d r.0 (p) r.1.1))
]
  where
    next : {X : Type 0} (x : X) (xs : List X) (d : X) (i : ℕ) (p : X → Bool) → p (get_or xs i d) ≡ true
        → p (get_or (x ∷ xs) (i + 1) d) ≡ true
    next x xs d i p e = ap (λ (n : ℕ). p (get_or (x ∷ xs) n d)) (let q : i + 1 ≡ suc i = omega arith in q) ∙ e

-- two places of a list of which all pairs are apart
pub pairs_apart : {X : Type 0} (R : X → X → Type 0) (xs : List X) (d : X) → AllPairs R xs
    → ((x y : X) → R x y → R y x) → (i j : ℕ) → i < length xs → j < length xs
    → (i ≡ j) ⊎ R (get_or xs i d) (get_or xs j d)
pairs_apart R xs d all turn i j li lj = elim (cases_lt i j) [
  | inl lt ↦ inr (all i j d lt lj)
  | inr ge ↦ elim (cases_eq i j) [
    | inl e ↦ inl e
    | inr ne ↦ inr (turn (get_or xs j d) (get_or xs i d) (all j i d (omega (arith, ge, ne)) li))
  ]
]

token_is : (t : ℕ) (h : Holding) → is_token t h ≡ true → h ≡ Token t
token_is t Dead e = no_way e
token_is t Unset e = no_way e
token_is t Null e = no_way e
token_is t Text e = no_way e
token_is t (Known n) e = no_way e
token_is t Number e = no_way e
token_is t (Token u) e = ap Token (eqb_is u t e)

pub field_is : (t : ℕ) (p : Spot) → is_field_of t p ≡ true
    → (tag : Name) × ((field : Name) × (p ≡ Field t tag field))
field_is t (Global n) e = no_way e
field_is t (Field b tag field) e = (tag, (field, ap (λ z. Field z tag field) (eqb_is b t e)))

abbrev object_in : Content → ℕ
object_in (content.Holds (value.Object k)) = k
object_in c = 0

abbrev token_in : Holding → ℕ
token_in (Token t) = t
token_in h = 0

abbrev base_in : Spot → ℕ
base_in (Field b tag field) = b
base_in p = 0

turn_apart : (names : Naming) (p q : Spot) → AreApart names p q → AreApart names q p
turn_apart names p q ne e = ne (sym e)

abbrev no_tracked : Tracked
no_tracked = record { spot = Global (record { 0 = 0 }); held = Unset }

-- two tokens have a field of one tag and name, which are tracked
record SharedField (rs : List Tracked) (t u : ℕ) : Type 0 where
  pub first : ℕ
  pub second : ℕ
  pub in_first : first < length rs
  pub in_second : second < length rs
  pub tag : Name
  pub field : Name
  pub is_first : (get_or rs first no_tracked).spot ≡ Field t tag field
  pub is_second : (get_or rs second no_tracked).spot ≡ Field u tag field

shared_at : (rs : List Tracked) (t u i j : ℕ) → i < length rs → j < length rs
    → is_field_of t (get_or rs i no_tracked).spot ≡ true → is_field_of u (get_or rs j no_tracked).spot ≡ true
    → are_one_field (get_or rs i no_tracked).spot (get_or rs j no_tracked).spot ≡ true → SharedField rs t u
shared_at rs t u i j in_i in_j e f one =
    let a = field_is t (get_or rs i no_tracked).spot e in
    let b = field_is u (get_or rs j no_tracked).spot f in
    let same : are_one_field (Field t a.0 a.1.0) (Field u b.0 b.1.0) ≡ true = ap (λ z. are_one_field z
    (Field u b.0 b.1.0)) (sym a.1.1) ∙ ap (are_one_field (get_or rs i no_tracked).spot) (sym b.1.1) ∙ one in
    let names = both_true (a.0.0 == b.0.0) (a.1.0.0 == b.1.0.0) same in
    record {
      first = i;
      second = j;
      in_first = in_i;
      in_second = in_j;
      tag = b.0;
      field = b.1.0;
      is_first = a.1.1 ∙ ap (λ z. Field t z a.1.0) (name_is a.0 b.0 names.0)
          ∙ ap (λ z. Field t b.0 z) (name_is a.1.0 b.1.0 names.1);
      is_second = b.1.1;
    }

abbrev shares_with : ℕ → Tracked → Tracked → Bool
shares_with u q r = is_field_of u r.spot && are_one_field q.spot r.spot

shared_from : (rs : List Tracked) (t u i : ℕ) → i < length rs → is_field_of t (get_or rs i no_tracked).spot ≡ true
    → list_any (shares_with u (get_or rs i no_tracked)) rs ≡ true → SharedField rs t u
shared_from rs t u i in_i e f =
    let b = any_at (shares_with u (get_or rs i no_tracked)) rs no_tracked f in
    let more = both_true (is_field_of u (get_or rs b.0 no_tracked).spot)
    (are_one_field (get_or rs i no_tracked).spot (get_or rs b.0 no_tracked).spot) b.1.1 in
    shared_at rs t u i b.0 in_i b.1.0 e more.0 more.1

shared : (rs : List Tracked) (t u : ℕ)
    → list_any (λ (q : Tracked). is_field_of t q.spot && list_any (shares_with u q) rs) rs ≡ true → SharedField rs t u
shared rs t u e =
    let a = any_at (λ (q : Tracked). is_field_of t q.spot && list_any (shares_with u q) rs) rs no_tracked e in
    let two = both_true (is_field_of t (get_or rs a.0 no_tracked).spot)
    (list_any (shares_with u (get_or rs a.0 no_tracked)) rs) a.1.1 in
    shared_from rs t u a.0 a.1.0 two.0 two.1

module _ (ks : List ℕ) (n : ℕ) (names : Naming) (v : Vector) (free : Option ℕ) (s : Scene) (o : View)
    (is : IsScene ks n s) (shows : Shows names v free s o) where
  abbrev statics : List (ℕ × Holding)
  statics = s.shape.statics

  -- the object of a static token
  static_at : (t : ℕ) → is_static s.shape t ≡ true
      → (i : ℕ) × ((i < length statics) × (((get_or statics i (0, Unset)).1 ≡ Token t)
      × (names t ≡ (get_or statics i (0, Unset)).0)))
  static_at t e =
      let f = any_at (λ (k : ℕ × Holding). is_token t k.1) statics (0, Unset) e in
      let is_t = token_is t (get_or statics f.0 (0, Unset)).1 f.1.1 in
      let so = shows.statics f.0 (0, Unset) f.1.0 in
      let here : content.Holds (value.Object (get_or statics f.0 (0, Unset)).0)
      ≡ content.Holds (value.Object (names t)) = subst (λ h. HoldsSo names h
      (content.Holds (value.Object (get_or statics f.0 (0, Unset)).0))) is_t so in
      (f.0, (f.1.0, (is_t, sym (ap object_in here))))

  statics_apart : AllPairs (λ k l. k ≢ l) ks → (t u : ℕ) → t ≢ u → is_static s.shape t ≡ true
      → is_static s.shape u ≡ true → names t ≢ names u
  statics_apart distinct t u ne e f same =
      let a = static_at t e in
      let b = static_at u f in
      let keys : AllPairs (λ k l. k ≢ l) (map key_of statics) = subst (AllPairs (λ k l. k ≢ l)) (sym is.static_keys)
      distinct in
      let long : length (map key_of statics) ≡ length statics = length-map statics key_of in
      let la = a.1.0 in
      let lb = b.1.0 in
      elim (pairs_apart (λ k l. k ≢ l) (map key_of statics) 0 keys (λ k l h g. h (sym g)) a.0 b.0
      (omega (arith, long, la)) (omega (arith, long, lb))) [
        | inl i ↦ ne (ap token_in (sym a.1.1.0 ∙ ap (λ (k : ℕ). (get_or statics k (0, Unset)).1) i ∙ b.1.1.0))
        | inr apart ↦ apart (get_or-map key_of statics a.0 (0, Unset) 0 la ∙ sym a.1.1.1 ∙ same ∙ b.1.1.1
            ∙ sym (get_or-map key_of statics b.0 (0, Unset) 0 lb))
      ]

  fields_apart : (t u : ℕ) → t ≢ u → share_field s.shape t u ≡ true → names t ≢ names u
  fields_apart t u ne e same =
      let rs = s.shape.slots in
      let h = shared rs t u e in
      let here : slot_named names (get_or rs h.first no_tracked).spot
      ≡ slot_named names (get_or rs h.second no_tracked).spot = ap (slot_named names) h.is_first
      ∙ ap (λ z. slots.Field z h.tag h.field) same ∙ ap (slot_named names) (sym h.is_second) in
      let long : length (map spot_in rs) ≡ length rs = length-map rs spot_in in
      let la = h.in_first in
      let lb = h.in_second in
      let none : Spot = Global (record { 0 = 0 }) in
      elim (pairs_apart (AreApart names) (map spot_in rs) none shows.apart (turn_apart names) h.first h.second
      (omega (arith, long, la)) (omega (arith, long, lb))) [
        | inl i ↦ ne (ap base_in (sym h.is_first ∙ ap (λ (k : ℕ). (get_or rs k no_tracked).spot) i ∙ h.is_second))
        | inr apart ↦ apart (ap (slot_named names) (get_or-map spot_in rs h.first no_tracked none la) ∙ here
            ∙ ap (slot_named names) (sym (get_or-map spot_in rs h.second no_tracked none lb)))
      ]

  -- a token that is the base of a tracked slot
  base_among : (u : ℕ) → is_base s.shape u ≡ true
      → (tag : Name) × ((field : Name) × IsAmong (map spot_in s.shape.slots) (Field u tag field))
  base_among u e =
      let f = any_at (λ (r : Tracked). is_field_of u r.spot) s.shape.slots no_tracked e in
      let q = field_is u (get_or s.shape.slots f.0 no_tracked).spot f.1.1 in (
        q.0,
        (
          q.1.0,
          subst (IsAmong (map spot_in s.shape.slots)) q.1.1
              (among_map spot_in s.shape.slots (get_or s.shape.slots f.0 no_tracked)
              (member s.shape.slots f.0 no_tracked f.1.0)),
        ),
      )

  -- a made object is another than each other made one, and than that of each tracked slot
  made_apart : (t u : ℕ) → t ≢ u → IsLive s.balances t → IsLive s.balances u
      → (is_made s.shape t && (is_made s.shape u || is_base s.shape u)) ≡ true → names t ≢ names u
  made_apart t u ne live_t live_u e =
      let two = both_true (is_made s.shape t) (is_made s.shape u || is_base s.shape u) e in
      elim (either_true (is_made s.shape u) (is_base s.shape u) two.1) [
        | inl m ↦ shows.marks.two t u live_t live_u ne two.0 m
        | inr b ↦ let q = base_among u b in shows.marks.base t u q.0 q.1.0 live_t ne two.0 q.1.1
      ]

  pub apart_differ : AllPairs (λ k l. k ≢ l) ks → (t u : ℕ) → t ≢ u → IsLive s.balances t → IsLive s.balances u
      → are_apart s.shape t u ≡ true → names t ≢ names u
  apart_differ distinct t u ne live_t live_u e =
      elim (either_true (is_static s.shape t && is_static s.shape u) _ e) [
        | inl h ↦
            let two = both_true (is_static s.shape t) (is_static s.shape u) h in
            statics_apart distinct t u ne two.0 two.1
        | inr h ↦ elim (either_true (is_made s.shape t && (is_made s.shape u || is_base s.shape u)) _ h) [
          | inl m ↦ made_apart t u ne live_t live_u m
          | inr k ↦ elim (either_true (is_made s.shape u && is_base s.shape t) (share_field s.shape t u) k) [
            | inl m ↦
                let two = both_true (is_made s.shape u) (is_base s.shape t) m in
                let q = base_among t two.1 in
                λ same. shows.marks.base u t q.0 q.1.0 live_u (λ g. ne (sym g)) two.0 q.1.1 (sym same)
            | inr f ↦ fields_apart t u ne f
          ]
        ]
      ]
