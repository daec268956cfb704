-- What instructions name, where a scene arrives.
use Rattle.std.proofs.Common.{◌≡◌, ℕ, zero, suc, ℤ, pos, negsuc, List, [], ◌∷◌, ◌++◌, map}
use Rattle.std.proofs.Common.{get_or, Bool, true, false, refl, sym, ap, ◌∙◌, subst, arith, cond}
use Rattle.std.specs.Prelude.{◌==◌, ◌||◌, Option, Some, None}
use Rattle.std.specs.List.{All}
use Rattle.std.specs.Map.{lookup}
use Rattle.std.proofs.lemmas.List.Elements.{All-head, All-map}
use Rattle.pungi_base.specs.declared.names.Name.{Name}
use Rattle.pungi_world.specs.Choices.{is_between}
use Rattle.pungi_code.specs.declared.atom.Atom.{Atom}
use Rattle.pungi_code.specs.declared.atom.Atom.TheVariants as atom
use Rattle.pungi_code.specs.declared.code.Code.{Code}
use Rattle.pungi_code.specs.declared.place.Place.{Place}
use Rattle.pungi_code.specs.declared.place.Place.TheVariants as places
use Rattle.pungi_shape.specs.declared.holding.Holding.{Holding}
use Rattle.pungi_shape.specs.declared.holding.Holding.TheVariants.{Dead, Unset, Null, Text, Known, Number, Token}
use Rattle.pungi_shape.specs.declared.point.Point.{Point}
use Rattle.pungi_shape.specs.declared.tracked.Spot.{Spot}
use Rattle.pungi_shape.specs.declared.tracked.Spot.TheVariants.{Global, Field}
use Rattle.pungi_shape.specs.Shapes.{is_token, rename_holding, rename_spot, rename_tracked, tokens_in, distinct}
use Rattle.pungi_shape.specs.Shapes.{before_slots, holding_of_static}
use Rattle.pungi_shape.specs.Parts.{vars_in, vars_in_place}
use Rattle.pungi_shape.specs.Liveness.{is_holder}
use Rattle.pungi_shape.specs.Scenes.{Scene, scene_of, holding_of, or_unset}
use Rattle.pungi_shape.specs.Arrivals.{trim, anchors, holds_token, is_kept_spot, place_in, renumber, kept_shape}
use Rattle.pungi_shape.specs.Arrivals.{slots_in_order}
use Rattle.pungi_shape.specs.Slots.{field_spot, spot_of, is_spot, is_tracked}
use Rattle.pungi_shape.specs.Described.{Naming, slot_named}
use Rattle.pungi_shape.proofs.sound.Shows.{spot_in}
use Rattle.pungi_shape.proofs.sound.Stands.{renamed}
use Rattle.pungi_shape.proofs.sound.Renames.{All_of_map, get_map, slot_renamed}
use Rattle.pungi_shape.proofs.sound.SceneMerges.{renamed_spots}
use Rattle.pungi_shape.proofs.sound.Kept.{trim_kept, all_in_order}
use Rattle.pungi_shape.proofs.sound.ArrivedScene.{KeptTokens, IsBaseAmong, base_kept}
use Rattle.pungi_shape.proofs.sound.ArrivedScene.{bases_kept, before_among}
use Rattle.pungi_shape.proofs.sound.ArrivedShows.{base_is}
use Rattle.pungi_shape.proofs.sound.Spots.{one_spot, spot_itself, any_map, any_weaker, still_tracked}
use Rattle.pungi_shape.proofs.sound.Tests.{true_or, or_true, none_some}
use Rattle.std.proofs.Common.{eq-eqb}

-- ---- atoms

known_renamed : (g : ℕ → ℕ) (b : Bool) (n : ℤ) → cond b (Known n) Number ≡ rename_holding g (cond b (Known n) Number)
known_renamed g true n = refl
known_renamed g false n = refl

pub static_renamed : (g : ℕ → ℕ) (k : ℕ) (es : List (ℕ × Holding))
    → or_unset (lookup (λ j. j == k) (map (λ e. (e.0, rename_holding g e.1)) es))
    ≡ rename_holding g (or_unset (lookup (λ j. j == k) es))
static_renamed g k [] = refl
static_renamed g k (e ∷ es) = at (e.0 == k) (static_renamed g k es)
  where
    at : (b : Bool) → or_unset (lookup (λ j. j == k) (map (λ x. (x.0, rename_holding g x.1)) es))
        ≡ rename_holding g (or_unset (lookup (λ j. j == k) es))
        → or_unset (cond b (Some (rename_holding g e.1)) (lookup (λ j. j == k) (map (λ x. (x.0, rename_holding g x.1))
        es))) ≡ rename_holding g (or_unset (cond b (Some e.1) (lookup (λ j. j == k) es)))
    at true rest = refl
    at false rest = rest

pub atom_arrived : (code : Code) (p : Point) (s : Scene) (a : Atom)
    → All (λ x. is_holder code p x ≡ true) (vars_in a)
    → holding_of (scene_of (renumber (kept_shape code p s))) a
    ≡ rename_holding (place_in (KeptTokens code p s)) (holding_of s a)
atom_arrived code p s (atom.Var x) live =
    get_map (rename_holding (place_in (KeptTokens code p s))) (kept_shape code p s).vars x.0 Unset
    ∙ ap (rename_holding (place_in (KeptTokens code p s))) (trim_kept code p 0 s.shape.vars x.0 x.0 (omega arith)
    (All-head (λ y. is_holder code p y ≡ true) x.0 [] live))
atom_arrived code p s (atom.Int n) live = known_renamed (place_in (KeptTokens code p s))
    (is_between (negsuc 0) (pos 1) n)
    n
atom_arrived code p s atom.Null live = refl
atom_arrived code p s atom.Text live = refl
atom_arrived code p s (atom.Static k) live = static_renamed (place_in (KeptTokens code p s)) k s.shape.statics

-- ---- anchors

holds_right : (hs ks : List Holding) (t : ℕ) → holds_token ks t ≡ true → holds_token (hs ++ ks) t ≡ true
holds_right [] ks t e = e
holds_right (h ∷ hs) ks t e = or_true (is_token t h) (holds_token (hs ++ ks) t) (holds_right hs ks t e)

this_token : (h : Holding) (t : ℕ) → h ≡ Token t → is_token t h ≡ true
this_token h t e = ap (is_token t) e ∙ eq-eqb t t refl

unset_no_token : (t : ℕ) → Unset ≡ Token t → ⊥
unset_no_token t e = absurd (grind (arith, e))

holds_at : (hs ks : List Holding) (x t : ℕ) → get_or hs x Unset ≡ Token t → holds_token (hs ++ ks) t ≡ true
holds_at [] ks x t e = absurd (unset_no_token t e)
holds_at (h ∷ hs) ks zero t e = true_or (is_token t h) (holds_token (hs ++ ks) t) (this_token h t e)
holds_at (h ∷ hs) ks (suc x) t e = or_true (is_token t h) (holds_token (hs ++ ks) t) (holds_at hs ks x t e)

holds_static : (k t : ℕ) (es : List (ℕ × Holding)) → or_unset (lookup (λ j. j == k) es) ≡ Token t
    → holds_token (map holding_of_static es) t ≡ true
holds_static k t [] e = absurd (unset_no_token t e)
holds_static k t (x ∷ es) e = at (x.0 == k) e (holds_static k t es)
  where
    at : (b : Bool) → or_unset (cond b (Some x.1) (lookup (λ j. j == k) es)) ≡ Token t
        → (or_unset (lookup (λ j. j == k) es) ≡ Token t → holds_token (map holding_of_static es) t ≡ true)
        → (is_token t x.1 || holds_token (map holding_of_static es) t) ≡ true
    at true h rest = true_or (is_token t x.1) (holds_token (map holding_of_static es) t) (this_token x.1 t h)
    at false h rest = or_true (is_token t x.1) (holds_token (map holding_of_static es) t) (rest h)

known_no_token : (b : Bool) (n : ℤ) (t : ℕ) → cond b (Known n) Number ≡ Token t → ⊥
known_no_token true n t e = absurd (grind (arith, e))
known_no_token false n t e = absurd (grind (arith, e))

null_no_token : (t : ℕ) → Null ≡ Token t → ⊥
null_no_token t e = absurd (grind (arith, e))

text_no_token : (t : ℕ) → Text ≡ Token t → ⊥
text_no_token t e = absurd (grind (arith, e))

pub atom_anchored : (code : Code) (p : Point) (s : Scene) (a : Atom) (t : ℕ)
    → All (λ x. is_holder code p x ≡ true) (vars_in a) → holding_of s a ≡ Token t
    → holds_token (anchors (trim code p s.shape)) t ≡ true
atom_anchored code p s (atom.Var x) t live e =
    let s' = trim code p s.shape in
    holds_right s'.entry (s'.vars ++ map holding_of_static s'.statics) t
    (holds_at s'.vars (map holding_of_static s'.statics) x.0 t (trim_kept code p 0 s.shape.vars x.0 x.0 (omega arith)
    (All-head (λ y. is_holder code p y ≡ true) x.0 [] live) ∙ e))
atom_anchored code p s (atom.Int n) t live e = absurd (known_no_token (is_between (negsuc 0) (pos 1) n) n t e)
atom_anchored code p s atom.Null t live e = absurd (null_no_token t e)
atom_anchored code p s atom.Text t live e = absurd (text_no_token t e)
atom_anchored code p s (atom.Static k) t live e =
    let s' = trim code p s.shape in
    holds_right s'.entry (s'.vars ++ map holding_of_static s'.statics) t
    (holds_right s'.vars (map holding_of_static s'.statics) t (holds_static k t s'.statics e))

-- ---- the slot that an instruction names

pub record SpotArrived (code : Code) (p : Point) (s : Scene) (place : Place) (q : Spot) : Type 0 where
  pub spot : Spot
  pub before : spot_of s place ≡ Some spot
  pub after : q ≡ rename_spot (place_in (KeptTokens code p s)) spot
  pub anchored : is_kept_spot (anchors (trim code p s.shape)) spot ≡ true

abbrev spot_or : Spot → Option Spot → Spot
spot_or d None = d
spot_or d (Some q) = q

field_arrived : (code : Code) (p : Point) (s : Scene) (base : Atom) (tag field : Name) (h : Holding) (q : Spot)
    → All (λ x. is_holder code p x ≡ true) (vars_in base) → holding_of s base ≡ h
    → field_spot (rename_holding (place_in (KeptTokens code p s)) h) tag field ≡ Some q
    → (b : Spot) × (field_spot h tag field ≡ Some b) × (q ≡ rename_spot (place_in (KeptTokens code p s)) b)
    × (is_kept_spot (anchors (trim code p s.shape)) b ≡ true)
field_arrived code p s base tag field Dead q live is e = absurd (none_some q e)
field_arrived code p s base tag field Unset q live is e = absurd (none_some q e)
field_arrived code p s base tag field Null q live is e = absurd (none_some q e)
field_arrived code p s base tag field Text q live is e = absurd (none_some q e)
field_arrived code p s base tag field (Known n) q live is e = absurd (none_some q e)
field_arrived code p s base tag field Number q live is e = absurd (none_some q e)
field_arrived code p s base tag field (Token b) q live is e =
    (Field b tag field, refl, sym (ap (spot_or q) e), atom_anchored code p s base b live is)

pub spot_arrived : (code : Code) (p : Point) (s : Scene) (place : Place) (q : Spot)
    → All (λ x. is_holder code p x ≡ true) (vars_in_place place)
    → spot_of (scene_of (renumber (kept_shape code p s))) place ≡ Some q → SpotArrived code p s place q
spot_arrived code p s (places.Global n kind) q live e = record {
  spot = Global n;
  before = refl;
  after = sym (ap (spot_or q) e);
  anchored = refl;
}
spot_arrived code p s (places.Field base tag field kind) q live e =
    let r = field_arrived code p s base tag field (holding_of s base) q live refl
    (ap (λ h. field_spot h tag field) (sym (atom_arrived code p s base live)) ∙ e) in
    record { spot = r.0; before = r.1; after = r.2; anchored = r.3 }

-- ---- carried along

abbrev pub SoleAmong : Naming → Spot → List Spot → Type 0
SoleAmong names p qs = All (λ q. slot_named names q ≡ slot_named names p → q ≡ p) qs

abbrev SoleSpot : Naming → List ℕ → Spot → Spot → Type 0
SoleSpot names ts p q = IsBaseAmong ts q × (slot_named names q ≡ slot_named names p → q ≡ p)

pub sole_after : (code : Code) (p : Point) (s : Scene) (names : Naming) (place : Place) (q : Spot)
    → SpotArrived code p s place q
    → ((r : Spot) → spot_of s place ≡ Some r → SoleAmong names r (map spot_in s.shape.slots))
    → SoleAmong (renamed names (KeptTokens code p s)) q (map spot_in (renumber (kept_shape code p s)).slots)
sole_after code p s names place q arrived sole =
    let ts = KeptTokens code p s in
    let g = place_in ts in
    let kept = kept_shape code p s in
    let r = arrived.spot in
    let in_r = base_kept code p s r arrived.anchored in
    let bases = bases_kept code p s in
    let soles = All-map (λ z. slot_named names z ≡ slot_named names r → z ≡ r) spot_in kept.slots (all_in_order
    (λ z. slot_named names z.spot ≡ slot_named names r → z.spot ≡ r) (trim code p s.shape) (All_of_map
    (λ z. slot_named names z ≡ slot_named names r → z ≡ r) spot_in s.shape.slots (sole r arrived.before))) in
    renamed_spots (SoleSpot names ts r) (λ z. slot_named (renamed names ts) z ≡ slot_named (renamed names ts) q → z ≡ q)
    g (λ z is same. ap (rename_spot g) (is.1 (sym (slot_renamed names (renamed names ts) g z (base_is names ts z is.0))
    ∙ same ∙ ap (slot_named (renamed names ts)) arrived.after
    ∙ slot_renamed names (renamed names ts) g r (base_is names ts r in_r))) ∙ sym arrived.after)
    kept.slots (λ k d lt. (bases k d lt, soles k d lt))

pub tracked_after : (code : Code) (p : Point) (s : Scene) (place : Place) (q : Spot) → SpotArrived code p s place q
    → ((r : Spot) → spot_of s place ≡ Some r → is_tracked s.shape r ≡ true)
    → is_tracked (renumber (kept_shape code p s)) q ≡ true
tracked_after code p s place q arrived tracked =
    let t = trim code p s.shape in
    let r = arrived.spot in
    let g = place_in (KeptTokens code p s) in
    let some = still_tracked t (distinct (tokens_in (before_slots t))) r refl (before_among t) arrived.anchored
    (tracked r arrived.before) in
    any_map (λ z. is_spot z.spot q) (rename_tracked g) (slots_in_order t) (any_weaker (λ z. is_spot z.spot r)
    (λ z. is_spot (rename_spot g z.spot) q) (λ z e. subst (λ y. is_spot y q ≡ true)
    (arrived.after ∙ sym (ap (rename_spot g) (one_spot z.spot r e))) (spot_itself q)) (slots_in_order t) some)
