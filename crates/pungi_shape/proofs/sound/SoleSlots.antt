-- The first part of a load and a store: some case shows what is held, and no other tracked slot is the slot of the
-- place.
--   Sole            such a case
use Rattle.std.proofs.Common.{◌≡◌, ◌≢◌, ℕ, ◌<◌, Bool, true, false, ◌&&◌, ◌||◌, not, List, []}
use Rattle.std.proofs.Common.{◌∷◌, ◌++◌, length, map, get_or, refl, sym, ap, ◌∙◌, subst, arith, inl, inr, Option, Some}
use Rattle.std.proofs.Common.{None}
use Rattle.std.specs.Prelude.{◌==◌}
use Rattle.std.specs.List.{All, IsAmong, range_with_len}
use Rattle.std.proofs.lemmas.Bool.{cases_eq}
use Rattle.std.proofs.lemmas.List.{length-map, get_or-map, get_or-set_other}
use Rattle.std.proofs.lemmas.List.FromFn.{length-range_with_len}
use Rattle.pungi_base.specs.declared.names.Name.{Name}
use Rattle.pungi_api.specs.declared.param.Param.{Param}
use Rattle.pungi_domain.specs.Vectors.{Vector}
use Rattle.pungi_world.specs.declared.slot.Slot.{Slot}
use Rattle.pungi_world.specs.declared.slot.Slot.TheVariants as slots
use Rattle.pungi_code.specs.declared.atom.Atom.{Atom}
use Rattle.pungi_code.specs.declared.code.Code.{Code}
use Rattle.pungi_code.specs.declared.instr.Instr.{Instr}
use Rattle.pungi_code.specs.declared.place.Place.{Place}
use Rattle.pungi_code.specs.declared.place.Place.TheVariants as places
use Rattle.pungi_code.specs.Perform.{slot_of}
use Rattle.pungi_shape.specs.declared.holding.Holding.TheVariants.{Unset, Token}
use Rattle.pungi_shape.specs.declared.shape.Shape.{Shape}
use Rattle.pungi_shape.specs.declared.tracked.Spot.{Spot}
use Rattle.pungi_shape.specs.declared.tracked.Spot.TheVariants.{Global, Field}
use Rattle.pungi_shape.specs.Cases.{within, passes_on, are_set}
use Rattle.pungi_shape.specs.Comparisons.{are_apart}
use Rattle.pungi_shape.specs.Forms.{unit, plus}
use Rattle.pungi_code.specs.WellFormed.{atoms_in}
use Rattle.pungi_shape.specs.Named.{static_in}
use Rattle.pungi_shape.specs.Parts.{vars_in_place}
use Rattle.pungi_shape.specs.Liveness.{is_among}
use Rattle.pungi_shape.specs.Scenes.{Scene, scene_of, holding_of, redirect, is_made, balance_at, merge}
use Rattle.pungi_shape.specs.Scenes.{after_entry}
use Rattle.pungi_shape.specs.Shapes.{rename_holding, rename_spot, rename_tracked, width_of}
use Rattle.pungi_shape.specs.Slots.{field_spot, spot_of, is_tracked, may_be, same_objects, find_field, find_slot}
use Rattle.pungi_shape.specs.Steps.{part_cases}
use Rattle.pungi_shape.specs.Edges.{point_of}
use Rattle.pungi_shape.specs.Described.{Naming, slot_named}
use Rattle.pungi_shape.proofs.sound.Views.{View, IsObjectSpot, names_spot}
use Rattle.pungi_shape.proofs.sound.Shows.{Shows, IsLive, AreApart, spot_in, IsBaseIn}
use Rattle.pungi_shape.proofs.sound.Flow.{Claim, IsCode}
use Rattle.pungi_shape.proofs.sound.Stands.{StandsAs, done_writes}
use Rattle.pungi_shape.proofs.sound.Arrives.{IsSoleSlot, IsAloneSlot}
use Rattle.pungi_shape.proofs.sound.Renames.{get_map, dead_before}
use Rattle.pungi_shape.proofs.sound.SceneMerges.{merge_scene, merge_shows, renamed_spots, spots_of_renamed}
use Rattle.pungi_shape.proofs.sound.SceneBalances.{is_in_range}
use Rattle.pungi_shape.proofs.sound.Apart.{pairs_apart}
use Rattle.pungi_shape.proofs.sound.Apart.{apart_differ}
use Rattle.pungi_shape.proofs.sound.Atoms.{has_token, field_at}
use Rattle.pungi_shape.proofs.sound.ArrivedMarks.{tracked_among}
use Rattle.pungi_shape.proofs.sound.Marks.{redirect_first, redirect_second, redirect_names, not_second, live_before}
use Rattle.pungi_shape.proofs.sound.Parts.{Chosen}
use Rattle.pungi_shape.proofs.sound.Simple.{no_guard}
use Rattle.pungi_shape.proofs.sound.Finds.{merged_atom, some_same, among_filter}
use Rattle.pungi_shape.proofs.sound.Finds.{filter_among, in_range, range_below, tracked_by, tracked_at_place}
use Rattle.pungi_shape.proofs.sound.Finds.{tag_in, field_in, object_in, name_in, not_both, no_tracked}
use Rattle.pungi_shape.proofs.sound.Members.{first_among, among_left, among_right, among_map, among_mapped}
use Rattle.pungi_shape.proofs.sound.Members.{all_among}
use Rattle.pungi_shape.proofs.sound.Tests.{no_way, both_true, both_are, either_true, or_true, eqb_self, eqb_not}

-- ---- tokens of a place

pub place_live : (s : Shape) (t : ℕ) → t < length s.made → IsLive (scene_of s).balances t
place_live s t lt =
    let w = width_of s in
    let l = length-range_with_len (after_entry s) (length s.made) in (
      unit w (get_or (range_with_len (after_entry s) (length s.made)) t 0),
      get_or-map (λ i. Some (unit w i)) (range_with_len (after_entry s) (length s.made)) t 0 None
          (omega (arith, l, lt)),
    )

-- ---- the kinds of slots don't depend on bases

names_renamed : (g : ℕ → ℕ) (place : Place) (p : Spot) → names_spot place (rename_spot g p) ≡ names_spot place p
names_renamed g (places.Global n k) (Global m) = refl
names_renamed g (places.Global n k) (Field b t f) = refl
names_renamed g (places.Field base tag field k) (Global m) = refl
names_renamed g (places.Field base tag field k) (Field b t f) = refl

pub kind_renamed : (code : Code) (g : ℕ → ℕ) (p : Spot) → IsObjectSpot code p → IsObjectSpot code (rename_spot g p)
kind_renamed code g p h pc line place there is e = h pc line place there is (sym (names_renamed g place p) ∙ e)

-- ---- slots by their names

global_sole : (names : Naming) (m : Name) (q : Spot) → slot_named names q ≡ slots.Global m → q ≡ Global m
global_sole names m (Global n) e = ap Global (ap name_in e)
global_sole names m (Field b t f) e = absurd (not_both m (names b) t f (sym e))

no_field : {X : Type 0} (m : Name) (b : ℕ) (tag field : Name)
    → (let A : Type 0 = Option Spot in let x : A = Some (Global m) in let y : A = Some (Field b tag field) in x ≡ y) → X
no_field m b tag field e = absurd cc

pub record SameField (names : Naming) (q : Spot) (o : ℕ) (tag field : Name) : Type 0 where
  pub base : ℕ
  pub is_field : q ≡ Field base tag field
  pub object : names base ≡ o

same_field : (names : Naming) (q : Spot) (o : ℕ) (tag field : Name) → slot_named names q ≡ slots.Field o tag field
    → SameField names q o tag field
same_field names (Global n) o tag field e = absurd (not_both n o tag field e)
same_field names (Field b t f) o tag field e = record {
  base = b;
  is_field = ap (λ z. Field b z f) (ap tag_in e) ∙ ap (λ z. Field b tag z) (ap field_in e);
  object = ap object_in e;
}

some_spot : (p q : Spot) → (let A : Type 0 = Option Spot in let x : A = Some p in let y : A = Some q in x ≡ y) → p ≡ q
some_spot p q e = cc

abbrev pub IsSole : Naming → Scene → Spot → Type 0
IsSole names t p = All (λ q. slot_named names q ≡ slot_named names p → q ≡ p) (map spot_in t.shape.slots)

pub sole_by : (names : Naming) (t : Scene) (place : Place) (p : Spot) → spot_of t place ≡ Some p → IsSole names t p
    → IsSoleSlot names t place
sole_by names t place p e all q f = subst (IsSole names t) (some_spot p q (sym e ∙ f)) all

-- no made object but that of the base is the base's
abbrev pub IsAlone : Naming → Scene → ℕ → Type 0
IsAlone names t b =
    (u : ℕ) → IsLive t.balances u → is_made t.shape u ≡ true → u ≢ b → names u ≢ names b

abbrev base_or : Option Spot → ℕ
base_or (Some (Field b tag field)) = b
base_or p = 0

pub alone_by : (names : Naming) (t : Scene) (place : Place) (b : ℕ) (tag field : Name)
    → spot_of t place ≡ Some (Field b tag field) → IsAlone names t b → IsAloneSlot names t place
alone_by names t place b tag field e all c x y f = subst (IsAlone names t) (ap base_or (sym e ∙ f)) all

pub record Sole (code : Code) (ks : List ℕ) (i : Instr) (pc : ℕ) (place : Place) (s : Shape) (v : Vector) (o : View)
    : Type 0 where
  pub chosen : Chosen code ks i pc 0 0 s v o (within 0)
  pub sole : IsSoleSlot chosen.names chosen.chosen.scene place
  pub alone : IsAloneSlot chosen.names chosen.chosen.scene place

module _ (code : Code) (ks : List ℕ) (claim : Claim) (is_code : IsCode code ks claim) (pc : ℕ) (i : Instr)
    (place : Place)
    (s : Shape) (names : Naming) (v : Vector) (o : View)
    (stands : StandsAs code ks claim (point_of pc 0 0) s names v o)
    (parts : part_cases i pc 0 0 (scene_of s) ≡ map (passes_on 0) (find_slot place (scene_of s)))
    (unwritten : done_writes i 0 ≡ []) where
  abbrev S : Scene
  S = scene_of s

  there_in : (t : Scene) → IsAmong (find_slot place S) t → IsAmong (part_cases i pc 0 0 S) (passes_on 0 t)
  there_in t there = subst (λ cs. IsAmong cs (passes_on 0 t)) (sym parts)
      (among_map (passes_on 0) (find_slot place S) t there)

  not_written : (x : ℕ) → is_among (done_writes i 0) x ≡ false
  not_written x = ap (λ ws. is_among ws x) unwritten

  as_it_is : IsAmong (find_slot place S) S → IsSoleSlot names S place → IsAloneSlot names S place
      → Sole code ks i pc place s v o
  as_it_is there sole alone = record {
    chosen = record {
      chosen = passes_on 0 S;
      names = names;
      is_there = there_in S there;
      onward = refl;
      frees = tt;
      guard = no_guard v;
      width = refl;
      scene = stands.scene;
      deads = λ x e. (e, not_written x);
      kinds = stands.kinds;
      shows = stands.shows;
    };
    sole = sole;
    alone = alone;
  }

  -- two tokens are one
  merged : (b c : ℕ) → b ≢ c → IsLive S.balances b → IsLive S.balances c → names b ≡ names c
      → IsAmong (find_slot place S) (merge b c S)
      → (Shows names v None (merge b c S) o → IsSoleSlot names (merge b c S) place)
      → (Shows names v None (merge b c S) o → IsAloneSlot names (merge b c S) place)
      → Sole code ks i pc place s v o
  merged b c ne live_b live_c same there sole alone =
      let n = length code.vars in
      let shows = merge_shows ks n names v None S o b c stands.scene stands.shows live_b live_c ne same in
      record {
        chosen = record {
          chosen = passes_on 0 (merge b c S);
          names = names;
          is_there = there_in (merge b c S) there;
          onward = refl;
          frees = tt;
          guard = no_guard v;
          width = refl;
          scene = merge_scene ks n S b c stands.scene live_b live_c ne;
          deads = λ x e. (
            dead_before (redirect b c) (get_or s.vars x Unset)
                (sym (get_map (rename_holding (redirect b c)) s.vars x Unset) ∙ e),
            not_written x,
          );
          kinds = renamed_spots (IsObjectSpot code) (IsObjectSpot code) (redirect b c)
              (kind_renamed code (redirect b c))
              s.slots stands.kinds;
          shows = shows;
        };
        sole = sole shows;
        alone = alone shows;
      }

  -- ---- fields

  module _ (b : ℕ) (base : Atom) (tag field : Name) (kind : Param) (is_field : place ≡ places.Field base tag field kind)
      (holds : holding_of S base ≡ Token b) (live : IsLive S.balances b) where
    finds : find_slot place S ≡ map (λ c. merge b c S) (same_objects s b tag field) ++ S ∷ []
    finds = ap (λ p. find_slot p S) is_field ∙ ap (λ h. find_field h tag field S) holds

    spot : spot_of S place ≡ Some (Field b tag field)
    spot = ap (λ p. spot_of S p) is_field ∙ ap (λ h. field_spot h tag field) holds

    -- a token of the same object that may have the slot is a candidate
    may_be_one : (c : ℕ) → c < length s.made → names c ≡ names b → c ≢ b
        → (is_tracked s (Field c tag field) || is_made s c) ≡ true → IsAmong (same_objects s b tag field) c
    may_be_one c lt same ne some =
        among_filter (may_be s b tag field) (range_with_len 0 (length s.made)) c (in_range (length s.made) c lt)
        (both_are (not (c == b)) ((is_tracked s (Field c tag field) || is_made s c) && not (are_apart s b c))
        (ap not (eqb_not c b ne))
        (both_are (is_tracked s (Field c tag field) || is_made s c) (not (are_apart s b c)) some
        (not_apart (are_apart s b c) refl)))
      where
        not_apart : (r : Bool) → are_apart s b c ≡ r → not r ≡ true
        not_apart true e = absurd (apart_differ ks (length code.vars) names v None S o stands.scene stands.shows
            is_code.distinct b c (λ h. ne (sym h)) live (place_live s c lt) e (sym same))
        not_apart false e = refl

    -- a slot that is the same one has a base among the candidates
    candidate : (k : ℕ) (d : Spot) → k < length (map spot_in s.slots) → (c : ℕ)
        → get_or (map spot_in s.slots) k d ≡ Field c tag field → names c ≡ names b → c ≢ b
        → IsAmong (same_objects s b tag field) c
    candidate k d lt c e same ne =
        let l = length-map s.slots spot_in in
        let base_in : c < length s.made = subst (IsBaseIn (length s.made)) e (stands.scene.bases k d lt) in
        let tracked = tracked_by s (Field c tag field) k d (omega (arith, l, lt)) e in
        may_be_one c base_in same ne (ap (λ t. t || is_made s c) tracked)

    -- so is a made object that is the same
    made_candidate : (c : ℕ) → IsLive S.balances c → is_made s c ≡ true → names c ≡ names b → c ≢ b
        → IsAmong (same_objects s b tag field) c
    made_candidate c live_c made same ne =
        let count = stands.scene.balances in
        let lt = is_in_range S.balances c live_c in
        may_be_one c (omega (arith, count, lt)) same ne (or_true (is_tracked s (Field c tag field)) (is_made s c) made)

    none_sole : ((c : ℕ) → IsAmong (same_objects s b tag field) c → names c ≢ names b)
        → IsSole names S (Field b tag field)
    none_sole none k d lt same =
        let q = get_or (map spot_in s.slots) k d in
        let f = same_field names q (names b) tag field same in
        elim (cases_eq f.base b) [
          | inl e ↦ f.is_field ∙ ap (λ z. Field z tag field) e
          | inr ne ↦ absurd (none f.base (candidate k d lt f.base f.is_field f.object ne) f.object)
        ]

    none_alone : ((c : ℕ) → IsAmong (same_objects s b tag field) c → names c ≢ names b) → IsAlone names S b
    none_alone none u live_u made ne same = none u (made_candidate u live_u made same ne) same

    new_spot : (c : ℕ) → spot_of (merge b c S) place ≡ Some (Field b tag field)
    new_spot c =
        ap (λ p. spot_of (merge b c S) p) is_field
        ∙ ap (λ h. field_spot h tag field) (merged_atom b c S base ∙ ap (rename_holding (redirect b c)) holds
        ∙ ap Token (redirect_first b c))

    -- the other token is made, and so no tracked slot of another token is the slot
    made_sole : (c : ℕ) → IsLive S.balances c → is_made s c ≡ true → names c ≡ names b
        → IsSoleSlot names (merge b c S) place
    made_sole c live_c made same =
        let g = redirect b c in
        let rs = map (rename_tracked g) s.slots in
        sole_by names (merge b c S) place (Field b tag field) (new_spot c)
        (all_among (λ q. slot_named names q ≡ slot_named names (Field b tag field) → q ≡ Field b tag field)
        (map spot_in rs) (λ q there e.
        let old = among_mapped (rename_spot g) (map spot_in s.slots) q
        (subst (λ ps. IsAmong ps q) (spots_of_renamed g s.slots) there) in
        old.1.1 ∙ one old.0 old.1.0 (ap (slot_named names) (sym old.1.1) ∙ e)))
      where
        one : (q : Spot) → IsAmong (map spot_in s.slots) q
            → slot_named names (rename_spot (redirect b c) q) ≡ slot_named names (Field b tag field)
            → rename_spot (redirect b c) q ≡ Field b tag field
        one (Global n) there e = absurd (not_both n (names b) tag field e)
        one (Field d x y) there e =
            let f = same_field names (rename_spot (redirect b c) (Field d x y)) (names b) tag field e in
            let is_tag : x ≡ tag = ap tag_in e in
            let is_name : y ≡ field = ap field_in e in
            let same_d : names d ≡ names c = sym (redirect_names names b c d (sym same)) ∙ ap object_in e
            ∙ sym same in
            elim (cases_eq d c) [
              | inl h ↦ ap (λ z. Field z x y) (ap (redirect b c) h ∙ redirect_second b c)
                  ∙ ap (λ z. Field b z y) is_tag ∙ ap (λ z. Field b tag z) is_name
              | inr ne ↦ absurd (stands.shows.marks.base c d x y live_c (λ h. ne (sym h)) made there (sym same_d))
            ]

    -- a made object is another than both, but for them
    merged_alone : (c : ℕ) → IsLive S.balances c → names c ≡ names b
        → (is_tracked s (Field c tag field) || is_made s c) ≡ true → b ≢ c
        → Shows names v None (merge b c S) o → IsAloneSlot names (merge b c S) place
    merged_alone c live_c same some ne shows =
        alone_by names (merge b c S) place b tag field (new_spot c) (λ u live_u made other e.
        let old = unmerged u live_u other made in
        elim (either_true (is_tracked s (Field c tag field)) (is_made s c) some) [
          | inl t ↦ stands.shows.marks.base u c tag field old.0 old.1.1 old.1.0
              (tracked_among s.slots (Field c tag field) t) (e ∙ sym same)
          | inr m ↦ stands.shows.marks.two u c old.0 live_c old.1.1 old.1.0 m (e ∙ sym same)
        ])
      where
        unmerged : (u : ℕ) → IsLive (merge b c S).balances u → u ≢ b → is_made (merge b c S).shape u ≡ true
            → IsLive S.balances u × ((is_made s u ≡ true) × (u ≢ c))
        unmerged u live_u other made = (
          live_before names S.balances s.made (map spot_in s.slots) o.world o.fields b c
              (plus (balance_at S b) (balance_at S c)) stands.shows.marks live live_c (sym same)
              (let lt = is_in_range S.balances b live in let count = stands.scene.balances in omega (
                arith,
                lt,
                count,
              )) u
              live_u,
          (
            sym (get_or-set_other s.made b u (is_made s b || is_made s c) false other) ∙ made,
            not_second names S.balances s.made (map spot_in s.slots) o.world o.fields b c
                (plus (balance_at S b) (balance_at S c)) stands.shows.marks live live_c (sym same)
                (let lt = is_in_range S.balances b live in let count = stands.scene.balances in omega (
                  arith,
                  lt,
                  count,
                ))
                u live_u,
          ),
        )

    merged_sole : (c : ℕ) → is_tracked s (Field c tag field) ≡ true → Shows names v None (merge b c S) o
        → IsSoleSlot names (merge b c S) place
    merged_sole c tracked shows =
        let g = redirect b c in
        let at = tracked_at_place s (Field c tag field) tracked in
        let rs = map (rename_tracked g) s.slots in
        let spots = map spot_in rs in
        let long_r : length rs ≡ length s.slots = length-map s.slots (rename_tracked g) in
        let long : length spots ≡ length rs = length-map rs spot_in in
        let in_s = at.1.0 in
        let in_spots : at.0 < length spots = omega (arith, long, long_r, in_s) in
        let here = λ (d : Spot). get_or-map spot_in rs at.0 (rename_tracked g no_tracked) d
        (omega (arith, long_r, in_s))
        ∙ ap spot_in (get_or-map (rename_tracked g) s.slots at.0 no_tracked (rename_tracked g no_tracked) in_s)
        ∙ ap (rename_spot g) at.1.1 ∙ ap (λ z. Field z tag field) (redirect_second b c) in
        sole_by names (merge b c S) place (Field b tag field) (new_spot c) (λ k d lt same.
        elim (pairs_apart (AreApart names) spots d shows.apart (λ p q h e. h (sym e)) k at.0 lt in_spots) [
          | inl e ↦ ap (λ (n : ℕ). get_or spots n d) e ∙ here d
          | inr apart ↦ absurd (apart (same ∙ ap (slot_named names) (sym (here d))))
        ])

    pub field_found : Sole code ks i pc place s v o
    field_found = elim (some_same names (names b) (same_objects s b tag field)) [
      | inl f ↦
          let c = f.0 in
          let m = filter_among (may_be s b tag field) (range_with_len 0 (length s.made)) c f.1.0 in
          let in_made = range_below (length s.made) c m.0 in
          let one = both_true (not (c == b)) ((is_tracked s (Field c tag field) || is_made s c)
          && not (are_apart s b c)) m.1 in
          let two = both_true (is_tracked s (Field c tag field) || is_made s c) (not (are_apart s b c)) one.1 in
          let ne : b ≢ c = λ e. no_way (ap not (sym (eqb_self c) ∙ ap (λ z. c == z) (sym e)) ∙ one.0) in
          let live_c = place_live s c in_made in
          let sole : Shows names v None (merge b c S) o → IsSoleSlot names (merge b c S) place = elim
          (either_true (is_tracked s (Field c tag field)) (is_made s c) two.0) [
            | inl t ↦ merged_sole c t
            | inr m ↦ λ shows. made_sole c live_c m f.1.1
          ] in
          merged b c ne live live_c (sym f.1.1)
          (subst (λ ts. IsAmong ts (merge b c S)) (sym finds)
          (among_left (map (λ z. merge b z S) (same_objects s b tag field)) (S ∷ []) (merge b c S)
          (among_map (λ z. merge b z S) (same_objects s b tag field) c f.1.0)))
          sole (merged_alone c live_c f.1.1 two.0 ne)
      | inr none ↦ as_it_is
          (subst (λ ts. IsAmong ts S) (sym finds)
          (among_right (map (λ z. merge b z S) (same_objects s b tag field)) (S ∷ []) S (first_among S [])))
          (sole_by names S place (Field b tag field) spot (none_sole none))
          (alone_by names S place b tag field spot (none_alone none))
    ]

  pub slot_found : (z : Slot) (k : Param) → ((a : Atom) → IsAmong (atoms_in place) a → All (IsAmong ks) (static_in a))
      → are_set S (vars_in_place place) ≡ true → slot_of place o.vars ≡ Some (z, k) → Sole code ks i pc place s v o
  slot_found z k named set e = by place refl
    where
      by : (p : Place) → place ≡ p → Sole code ks i pc place s v o
      by (places.Global m kind) f =
          as_it_is (subst (λ p. IsAmong (find_slot p S) S) (sym f) (first_among S []))
          (sole_by names S place (Global m) (ap (λ p. spot_of S p) f)
          (λ j d lt same. global_sole names m (get_or (map spot_in s.slots) j d) same))
          (λ b x y g. no_field m b x y (sym (ap (λ p. spot_of S p) f) ∙ g))
      by (places.Field base tag field kind) f =
          let at = field_at o.vars base tag field kind k z (ap (λ p. slot_of p o.vars) (sym f) ∙ e) in
          let t = has_token ks (length code.vars) names v S o stands.scene stands.shows base at.object
          (named base (subst (λ p. IsAmong (atoms_in p) base) (sym f) (first_among base [])))
          (subst (λ p. are_set S (vars_in_place p) ≡ true) f set) at.holds in
          field_found t.token base tag field kind f t.holds t.live
