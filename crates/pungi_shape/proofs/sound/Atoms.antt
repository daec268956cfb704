-- Atoms that are read: what they are, and the slot that a place is.
--   IsObjectAt names s o a t, FindsSlot    an atom is an object; the slot of a place
use Rattle.std.proofs.Common.{◌≡◌, ◌≢◌, ℕ, ℤ, List, [], ◌∷◌, length, map, Bool, true}
use Rattle.std.proofs.Common.{false, refl, sym, ap, ◌∙◌, subst, arith, Some, None, cond}
use Rattle.std.specs.Prelude.{◌==◌}
use Rattle.std.specs.List.{All, IsAmong}
use Rattle.std.specs.Map.{lookup}
use Rattle.std.proofs.lemmas.List.Elements.{All-head, All-tail}
use Rattle.pungi_base.specs.declared.names.Name.{Name}
use Rattle.pungi_base.specs.declared.value.Value.TheVariants as value
use Rattle.pungi_api.specs.declared.param.Param.{Param}
use Rattle.pungi_domain.specs.Vectors.{Vector}
use Rattle.pungi_world.specs.declared.content.Content.{Content}
use Rattle.pungi_world.specs.declared.content.Content.TheVariants as content
use Rattle.pungi_world.specs.declared.slot.Slot.{Slot}
use Rattle.pungi_world.specs.declared.slot.Slot.TheVariants as slots
use Rattle.pungi_code.specs.declared.atom.Atom.{Atom}
use Rattle.pungi_code.specs.declared.atom.Atom.TheVariants as atom
use Rattle.pungi_code.specs.declared.place.Place.{Place}
use Rattle.pungi_code.specs.declared.place.Place.TheVariants as places
use Rattle.pungi_code.specs.Perform.{field_of, slot_of}
use Rattle.pungi_code.specs.Registers.{content_of}
use Rattle.pungi_shape.specs.declared.holding.Holding.{Holding}
use Rattle.pungi_shape.specs.declared.holding.Holding.TheVariants.{Dead, Unset, Null, Text, Known, Number, Token}
use Rattle.pungi_shape.specs.declared.tracked.Spot.{Spot}
use Rattle.pungi_shape.specs.declared.tracked.Spot.TheVariants.{Global, Field}
use Rattle.pungi_shape.specs.Cases.{holds_something, is_set, are_set}
use Rattle.pungi_code.specs.WellFormed.{atoms_in}
use Rattle.pungi_shape.specs.Named.{static_in}
use Rattle.pungi_shape.specs.Parts.{vars_in, vars_in_place}
use Rattle.pungi_shape.specs.Scenes.{Scene, holding_at, holding_of, or_unset}
use Rattle.pungi_shape.specs.Shapes.{holding_of_static}
use Rattle.pungi_shape.specs.Slots.{spot_of, field_spot}
use Rattle.pungi_shape.specs.Described.{Naming, HoldsSo, slot_named}
use Rattle.pungi_shape.proofs.sound.Views.{View, names_slot}
use Rattle.pungi_shape.proofs.sound.Shows.{IsScene, Shows, IsLive, IsLiveIn, IsBaseIn, IsTokenHeld}
use Rattle.pungi_shape.proofs.sound.SceneVars.{atom_holds, atom_live}
use Rattle.pungi_shape.proofs.sound.SceneBalances.{is_in_range}
use Rattle.pungi_shape.proofs.sound.Tests.{no_way, both_true, both_are, eqb_self}

-- ---- atoms that are set

pub not_dead : (h : Holding) → holds_something h ≡ true → h ≢ Dead
not_dead h e d = no_way (sym (ap holds_something d) ∙ e)

number_not_dead : (b : Bool) (n : ℤ) → cond b (Known n) Number ≢ Dead
number_not_dead true n e = cc
number_not_dead false n e = cc

static_not_dead : (es : List (ℕ × Holding)) (k : ℕ) → All IsTokenHeld (map holding_of_static es)
    → or_unset (lookup (λ j. j == k) es) ≢ Dead
static_not_dead [] k all = λ e. cc
static_not_dead (x ∷ es) k all =
    by (x.0 == k) (All-head IsTokenHeld x.1 (map holding_of_static es) all)
    (static_not_dead es k (All-tail IsTokenHeld x.1 (map holding_of_static es) all))
  where
    by : (b : Bool) → IsTokenHeld x.1 → or_unset (lookup (λ j. j == k) es) ≢ Dead
        → or_unset (cond b (Some x.1) (lookup (λ j. j == k) es)) ≢ Dead
    by true is rest e = let bad : Token is.0 ≡ Dead = sym is.1 ∙ e in cc
    by false is rest e = rest e

pub atom_set : (ks : List ℕ) (n : ℕ) (s : Scene) (a : Atom) → IsScene ks n s → are_set s (vars_in a) ≡ true
    → holding_of s a ≢ Dead
atom_set ks n s (atom.Var x) is e = not_dead (holding_at s x.0) (both_true (is_set s x.0) true e).0
atom_set ks n s (atom.Int i) is e = number_not_dead _ i
atom_set ks n s atom.Null is e = λ h. cc
atom_set ks n s atom.Text is e = λ h. cc
atom_set ks n s (atom.Static k) is e = static_not_dead s.shape.statics k is.static_tokens

-- ---- what is held, by its value

pub token_of : (names : Naming) (h : Holding) (k : ℕ) → h ≢ Dead → HoldsSo names h (content.Holds (value.Object k))
    → (t : ℕ) × ((h ≡ Token t) × (names t ≡ k))
token_of names Dead k set so = absurd (set refl)
token_of names Unset k set so = absurd cc
token_of names Null k set so = absurd (let e : value.Object k ≡ value.Null = cc in cc)
token_of names Text k set so = absurd (let e : value.Object k ≡ value.Text = cc in cc)
token_of names (Known n) k set so = absurd (let e : value.Object k ≡ value.Int n = cc in cc)
token_of names Number k set so = absurd (let e : value.Object k ≡ value.Int so.0 = let f = so.1 in cc in cc)
token_of names (Token t) k set so =
    (t, (refl, (let e : value.Object k ≡ value.Object (names t) = cc in let f : k ≡ names t = cc in sym f)))

pub null_of : (names : Naming) (h : Holding) → h ≢ Dead → HoldsSo names h (content.Holds value.Null) → h ≡ Null
null_of names Dead set so = absurd (set refl)
null_of names Unset set so = absurd cc
null_of names Null set so = refl
null_of names Text set so = absurd (let e : value.Null ≡ value.Text = cc in cc)
null_of names (Known n) set so = absurd (let e : value.Null ≡ value.Int n = cc in cc)
null_of names Number set so = absurd (let e : value.Null ≡ value.Int so.0 = let f = so.1 in cc in cc)
null_of names (Token t) set so = absurd (let e : value.Null ≡ value.Object (names t) = cc in cc)

-- ---- the slot of a place

pub record FindsSlot (names : Naming) (s : Scene) (place : Place) (z : Slot) : Type 0 where
  pub spot : Spot
  pub is_spot : spot_of s place ≡ Some spot
  pub is_slot : slot_named names spot ≡ z
  pub named : names_slot place z ≡ true
  pub based : IsBaseIn (length s.shape.made) spot

-- a slot of a field, by its base
pub record FieldAt (vars : List Content) (base : Atom) (tag field : Name) (z : Slot) : Type 0 where
  pub object : ℕ
  pub holds : content_of base vars ≡ content.Holds (value.Object object)
  pub is_slot : z ≡ slots.Field object tag field

field_by : (c : Content) (tag field : Name) (kind k : Param) (z : Slot) → field_of c tag field kind ≡ Some (z, k)
    → (o : ℕ) × ((c ≡ content.Holds (value.Object o)) × (z ≡ slots.Field o tag field))
field_by content.Unset tag field kind k z e = absurd cc
field_by (content.Holds value.Null) tag field kind k z e = absurd cc
field_by (content.Holds (value.Object o)) tag field kind k z e =
    let p : Slot × Param = (slots.Field o tag field, kind) in
    let q : Slot × Param = (z, k) in
    let same : p ≡ q = cc in
    (o, (refl, ap (λ (r : Slot × Param). r.0) (sym same)))
field_by (content.Holds (value.Int n)) tag field kind k z e = absurd cc
field_by (content.Holds value.Text) tag field kind k z e = absurd cc

pub field_at : (vars : List Content) (base : Atom) (tag field : Name) (kind k : Param) (z : Slot)
    → slot_of (places.Field base tag field kind) vars ≡ Some (z, k) → FieldAt vars base tag field z
field_at vars base tag field kind k z e =
    let f = field_by (content_of base vars) tag field kind k z e in
    record { object = f.0; holds = f.1.0; is_slot = f.1.1 }

pub global_at : (vars : List Content) (n : Name) (kind k : Param) (z : Slot)
    → slot_of (places.Global n kind) vars ≡ Some (z, k) → z ≡ slots.Global n
global_at vars n kind k z e =
    let p : Slot × Param = (slots.Global n, kind) in
    let q : Slot × Param = (z, k) in
    let same : p ≡ q = cc in
    ap (λ (r : Slot × Param). r.0) (sym same)

-- a place names its slot
pub named_slot : (place : Place) (vars : List Content) (z : Slot) (k : Param) → slot_of place vars ≡ Some (z, k)
    → names_slot place z ≡ true
named_slot (places.Global m kind) vars z k e =
    ap (names_slot (places.Global m kind)) (global_at vars m kind k z e) ∙ eqb_self m.0
named_slot (places.Field base tag field kind) vars z k e =
    ap (names_slot (places.Field base tag field kind)) (field_at vars base tag field kind k z e).is_slot
    ∙ both_are (tag.0 == tag.0) (field.0 == field.0) (eqb_self tag.0) (eqb_self field.0)

module _ (ks : List ℕ) (n : ℕ) (names : Naming) (v : Vector) (s : Scene) (o : View) (is : IsScene ks n s)
    (shows : Shows names v None s o) where
  -- an atom that is an object has a token
  pub record HasToken (a : Atom) (k : ℕ) : Type 0 where
    pub token : ℕ
    pub holds : holding_of s a ≡ Token token
    pub object : names token ≡ k
    pub live : IsLive s.balances token

  pub has_token : (a : Atom) (k : ℕ) → All (IsAmong ks) (static_in a) → are_set s (vars_in a) ≡ true
      → content_of a o.vars ≡ content.Holds (value.Object k) → HasToken a k
  has_token a k named set e =
      let so = subst (HoldsSo names (holding_of s a)) e (atom_holds ks n names v s o a is shows named) in
      let t = token_of names (holding_of s a) k (atom_set ks n s a is set) so in
      record {
        token = t.0;
        holds = t.1.0;
        object = t.1.1;
        live = subst (IsLiveIn s.balances) t.1.0 (atom_live ks n s a is);
      }

  pub finds_slot : (place : Place) (z : Slot) (k : Param) → ((a : Atom) → IsAmong (atoms_in place) a
      → All (IsAmong ks) (static_in a)) → are_set s (vars_in_place place) ≡ true
      → slot_of place o.vars ≡ Some (z, k) → FindsSlot names s place z
  finds_slot (places.Global m kind) z k named set e =
      let f = global_at o.vars m kind k z e in
      record {
        spot = Global m;
        is_spot = refl;
        is_slot = sym f;
        named = ap (names_slot (places.Global m kind)) f ∙ eqb_self m.0;
        based = tt;
      }
  finds_slot (places.Field base tag field kind) z k named set e =
      let f = field_at o.vars base tag field kind k z e in
      let t = has_token base f.object (named base (0, (omega arith, refl))) set f.holds in
      record {
        spot = Field t.token tag field;
        is_spot = ap (λ h. field_spot h tag field) t.holds;
        is_slot = ap (λ b. slots.Field b tag field) t.object ∙ sym f.is_slot;
        named = ap (names_slot (places.Field base tag field kind)) f.is_slot
            ∙ both_are (tag.0 == tag.0) (field.0 == field.0) (eqb_self tag.0) (eqb_self field.0);
        based = let lt = is_in_range s.balances t.token t.live in let l = is.balances in omega (arith, lt, l);
      }
