-- The second part of a load and a store: the slot is touched, and tracked from then on if it is one of objects.
--   Tracks          some case shows what is held then
--   after_touch     what is held then
use Rattle.std.proofs.Common.{◌≡◌, ℕ, ◌+◌, ◌<◌, ◌≤◌, ℤ, pos, ◌+ℤ◌, Bool, true, false, cond, ◌||◌}
use Rattle.std.proofs.Common.{List, [], ◌∷◌, length, length-append, map, get_or, refl, sym, ap, ◌∙◌, subst, arith}
use Rattle.std.proofs.Common.{Some, None, ◌⊎◌, inl, inr, ◌++◌}
use Rattle.std.proofs.lemmas.Bool.{cases_eq}
use Rattle.pungi_base.specs.declared.names.Name.{Name}
use Rattle.pungi_world.specs.Slots.{is_same, place_of, slot_at}
use Rattle.std.specs.Prelude.{◌==◌, nat_lt}
use Rattle.std.specs.List.{All, IsAmong, list_any}
use Rattle.std.specs.Map.{lookup}
use Rattle.std.proofs.lemmas.Int.{ints}
use Rattle.std.proofs.lemmas.Bool.Decides.{nat_tests}
use Rattle.std.proofs.lemmas.List.{length-map, map_push}
use Rattle.std.proofs.lemmas.List.Elements.{All-push}
use Rattle.std.proofs.lemmas.List.Folds.{list_any-append}
use Rattle.pungi_base.specs.declared.value.Value.{Value}
use Rattle.pungi_base.specs.declared.value.Value.TheVariants as value
use Rattle.pungi_api.specs.declared.param.Param.{Param}
use Rattle.pungi_api.specs.declared.param.Param.TheVariants as param
use Rattle.pungi_domain.specs.Vectors.{Vector, dot}
use Rattle.pungi_world.specs.declared.content.Content.TheVariants as content
use Rattle.pungi_world.specs.declared.slot.Slot.{Slot}
use Rattle.pungi_world.specs.declared.slot.Slot.TheVariants as slots
use Rattle.pungi_world.specs.declared.world.World.{World}
use Rattle.pungi_code.specs.declared.atom.Atom.{Atom}
use Rattle.pungi_code.specs.declared.atom.Atom.TheVariants as atom
use Rattle.pungi_code.specs.declared.code.Code.{Code}
use Rattle.pungi_code.specs.declared.instr.Instr.{Instr}
use Rattle.pungi_code.specs.declared.place.Place.{Place}
use Rattle.pungi_code.specs.declared.place.Place.TheVariants as places
use Rattle.pungi_code.specs.WellFormed.{is_object, place_kind, AgreeOnKinds}
use Rattle.pungi_shape.specs.declared.holding.Holding.{Holding}
use Rattle.pungi_shape.specs.declared.holding.Holding.TheVariants.{Unset, Null, Token}
use Rattle.pungi_shape.specs.declared.shape.Shape.{Shape}
use Rattle.pungi_shape.specs.declared.tracked.Spot.{Spot}
use Rattle.pungi_shape.specs.declared.tracked.Spot.TheVariants.{Global, Field}
use Rattle.pungi_shape.specs.declared.tracked.Tracked.{Tracked}
use Rattle.pungi_shape.specs.Cases.{within, passes_on}
use Rattle.pungi_shape.specs.Forms.{zero_form}
use Rattle.pungi_shape.specs.Liveness.{is_among}
use Rattle.pungi_shape.specs.Scenes.{Scene, scene_of, holding_of, or_unset, is_made, with_token, new_token}
use Rattle.pungi_shape.specs.Shapes.{width_of}
use Rattle.pungi_shape.specs.Slots.{field_spot, spot_of, is_spot, is_tracked, track, is_of_made, first_contents}
use Rattle.pungi_shape.specs.Slots.{touch_at}
use Rattle.pungi_shape.specs.Slots.{touch_first}
use Rattle.pungi_shape.specs.Steps.{part_cases}
use Rattle.pungi_shape.specs.Edges.{point_of}
use Rattle.pungi_shape.specs.Described.{Naming, slot_named}
use Rattle.pungi_shape.proofs.sound.Views.{View, IsObjectSpot, IsHeldSo, suits, names_slot, names_spot, holds_objects}
use Rattle.pungi_shape.proofs.sound.Shows.{Marks, Shows, IsLive, IsBaseIn, AreApart, spot_in}
use Rattle.pungi_shape.proofs.sound.FormValues.{length_zero, dot_zero}
use Rattle.pungi_shape.proofs.sound.Flow.{Claim, IsCode}
use Rattle.pungi_shape.proofs.sound.Stands.{StandsAs, done_writes}
use Rattle.pungi_shape.proofs.sound.Arrives.{IsSoleSlot, IsAloneSlot, IsTrackedSlot}
use Rattle.pungi_shape.proofs.sound.SceneSteps.{named, with_token_scene, with_token_shows, new_token_live, track_scene}
use Rattle.pungi_shape.proofs.sound.SceneSteps.{track_shows}
use Rattle.pungi_shape.proofs.sound.ArrivedMarks.{tracked_among}
use Rattle.pungi_shape.proofs.sound.Marks.{marks_less, marks_push, marks_named, marks_token}
use Rattle.pungi_shape.proofs.sound.SceneBalances.{is_in_range, named_others, named_new}
use Rattle.pungi_shape.proofs.sound.SceneWords.{with_fields}
use Rattle.pungi_shape.proofs.sound.Atoms.{FindsSlot}
use Rattle.pungi_shape.proofs.sound.Parts.{Chosen, grows_shows}
use Rattle.pungi_shape.proofs.sound.Simple.{no_guard}
use Rattle.pungi_shape.proofs.sound.Finds.{tracked_by, tag_in, field_in, object_in, not_both}
use Rattle.pungi_shape.proofs.sound.worlds.Places.{found, found_at, same_is, same_self}
use Rattle.pungi_shape.proofs.sound.worlds.SlotKinds.{KindOf, one_kind, field_place}
use Rattle.pungi_shape.proofs.sound.worlds.Touches.{Grown}
use Rattle.pungi_shape.proofs.sound.Members.{first_among, later_among, among_map, among_append, among_left, among_right}
use Rattle.pungi_shape.proofs.sound.Members.{of_all, one_of, nothing_in}
use Rattle.pungi_shape.proofs.sound.Tests.{no_way, eqb_self, eqb_not}
use Rattle.pungi_shape.proofs.sound.Spots.{spot_itself}

-- ---- what a slot of objects holds

lt_is : (k n : ℕ) → nat_lt k n ≡ true → k < n
lt_is k n e = grind (arith, nat_tests)

object_kind : (k : Param) → is_object k ≡ true → k ≡ param.ObjectOrNull
object_kind param.Object e = no_way e
object_kind param.ObjectOrNull e = refl
object_kind param.Text e = no_way e
object_kind param.TextOrNull e = no_way e
object_kind param.Int e = no_way e
object_kind param.Long e = no_way e
object_kind param.Size e = no_way e
object_kind param.ModuleDef e = no_way e

pub data IsPointer (n : ℕ) (x : Value) : Type 0 where
  is_null : x ≡ value.Null → IsPointer n x
  is_one : (k : ℕ) → k < n → x ≡ value.Object k → IsPointer n x

pointer_is : (n : ℕ) (x : Value) → suits n param.ObjectOrNull x ≡ true → IsPointer n x
pointer_is n value.Null e = is_null refl
pointer_is n (value.Object k) e = is_one k (lt_is k n e) refl
pointer_is n (value.Int i) e = no_way e
pointer_is n value.Text e = no_way e

pub object_suits : (n : ℕ) (k : Param) (x : Value) → is_object k ≡ true → suits n k x ≡ true → IsPointer n x
object_suits n k x e f = pointer_is n x (subst (λ q. suits n q x ≡ true) (object_kind k e) f)

-- ---- the slot of a place depends on variables and static objects alone

pub atom_same : (t u : Scene) → t.shape.vars ≡ u.shape.vars → t.shape.statics ≡ u.shape.statics → (a : Atom)
    → holding_of t a ≡ holding_of u a
atom_same t u e f (atom.Var x) = ap (λ (hs : List Holding). get_or hs x.0 Unset) e
atom_same t u e f (atom.Int n) = refl
atom_same t u e f atom.Null = refl
atom_same t u e f atom.Text = refl
atom_same t u e f (atom.Static k) = ap (λ (es : List (ℕ × Holding)). or_unset (lookup (λ j. j == k) es)) f

pub spot_same : (t u : Scene) → t.shape.vars ≡ u.shape.vars → t.shape.statics ≡ u.shape.statics → (place : Place)
    → spot_of t place ≡ spot_of u place
spot_same t u e f (places.Global n kind) = refl
spot_same t u e f (places.Field base tag field kind) = ap (λ h. field_spot h tag field) (atom_same t u e f base)

-- ---- kinds

pub named_spot : (names : Naming) (place : Place) (p : Spot) → names_slot place
    (slot_named names p) ≡ names_spot place p
named_spot names (places.Global n k) (Global m) = refl
named_spot names (places.Global n k) (Field b t f) = refl
named_spot names (places.Field base tag field k) (Global m) = refl
named_spot names (places.Field base tag field k) (Field b t f) = refl

pub object_spot : (code : Code) (names : Naming) (place : Place) (p : Spot) (z : Slot) → AgreeOnKinds code code
    → KindOf code place → slot_named names p ≡ z → names_slot place z ≡ true → is_object (place_kind place) ≡ true
    → IsObjectSpot code p
object_spot code names place p z agree of e named object pc line q there is names_q =
    ap is_object (sym (one_kind code code place q z agree of (record {
      pc = pc;
      line = line;
      is_there = there;
      place_is = is;
    }) named (ap (names_slot q) (sym e) ∙ named_spot names q p ∙ names_q))) ∙ object

-- ---- one more token keeps the names of slots

base_named : (names : Naming) (n k : ℕ) (p : Spot) → IsBaseIn n p → slot_named (named names n k) p ≡ slot_named names p
base_named names n k (Global m) h = refl
base_named names n k (Field b tag field) h =
    ap (λ (r : Bool). slots.Field (cond r k (names b)) tag field) (eqb_not b n (λ e. absurd (omega (arith, e, h))))

abbrev pub after_touch : View → World → (ℕ → ℤ) → View
after_touch o w d = record o { world = w; debts = d }

pub record Tracks (code : Code) (ks : List ℕ) (i : Instr) (pc : ℕ) (place : Place) (s : Shape) (v : Vector) (o : View)
    : Type 0 where
  pub chosen : Chosen code ks i pc 1 0 s v o (within 0)
  pub tracked : is_object (place_kind place) ≡ true → IsTrackedSlot chosen.chosen.scene place

no_change : (d e : ℤ) (b : Bool) (z : ℤ) → d ≡ e → z ≡ pos 0 → d ≡ e +ℤ cond b z (pos 0)
no_change d e true z f g = omega (arith, ints, f, g)
no_change d e false z f g = omega (arith, ints, f)

module _ (code : Code) (ks : List ℕ) (claim : Claim) (is_code : IsCode code ks claim) (pc : ℕ) (i : Instr)
    (place : Place)
    (of : KindOf code place) (s : Shape) (names : Naming) (v : Vector) (o : View)
    (stands : StandsAs code ks claim (point_of pc 1 0) s names v o)
    (parts : part_cases i pc 1 0 (scene_of s) ≡ map (passes_on 0) (touch_first place (scene_of s)))
    (unwritten : done_writes i 1 ≡ []) (z : Slot) (finds : FindsSlot names (scene_of s) place z)
    (sole : IsSoleSlot names (scene_of s) place) (alone : IsAloneSlot names (scene_of s) place)
    (fields : o.fields ≡ holds_objects code) (w : World) (d : ℕ → ℤ) (j : ℕ) (grown : Grown o.world w z j)
    (made_holds : is_object (place_kind place) ≡ true → is_of_made s finds.spot ≡ true
    → is_tracked s finds.spot ≡ false → (slot_at w j).held ≡ content.Unset)
    (other_holds : is_object (place_kind place) ≡ true → is_of_made s finds.spot ≡ false
    → IsHeldSo (length w.accounts) (place_kind place) (slot_at w j).held)
    (debts : (k : ℕ) → d k ≡ o.debts k) where
  abbrev S : Scene
  S = scene_of s

  abbrev n : ℕ
  n = length code.vars

  abbrev O : View
  O = after_touch o w d

  abbrev p : Spot
  p = finds.spot

  not_written : (x : ℕ) → is_among (done_writes i 1) x ≡ false
  not_written x = ap (λ ws. is_among ws x) unwritten

  there_in : (t : Scene) → IsAmong (touch_first place S) t → IsAmong (part_cases i pc 1 0 S) (passes_on 0 t)
  there_in t there = subst (λ cs. IsAmong cs (passes_on 0 t)) (sym parts)
      (among_map (passes_on 0) (touch_first place S) t there)

  abbrev ps : List Spot
  ps = map spot_in s.slots

  abbrev W : View
  W = with_fields (λ t f. false) O

  marks : Marks names S.balances s.made ps o.world o.fields
  marks = stands.shows.marks

  -- what is shown but for the fields of made objects
  grown_shows : Shows names v None S W
  grown_shows = grows_shows names v None S o w d stands.shows grown.stays grown.accounts debts (λ t f. false)
      (marks_less names S.balances s.made ps o.world w o.fields grown.made marks)

  -- of the fields of made objects just this slot may be touched for the first time
  touched_or : (t : ℕ) (tag field : Name) (k : ℕ) → IsLive S.balances t → is_made s t ≡ true
      → o.fields tag field ≡ true → place_of w.slots (slots.Field (names t) tag field) ≡ Some k
      → IsAmong ps (Field t tag field) ⊎ (z ≡ slots.Field (names t) tag field)
  touched_or t tag field k live made is at = by (is_same z q) refl
    where
      q : Slot
      q = slots.Field (names t) tag field

      by : (b : Bool) → is_same z q ≡ b → IsAmong ps (Field t tag field) ⊎ (z ≡ q)
      by true e = inr (same_is z q e)
      by false e =
          let old = grown.others q k
          (λ h. no_way (sym e ∙ ap (λ y. is_same y q) h ∙ same_self q)) at in
          inl (marks.touched t tag field old.0 live made is old.1)

  -- then it is tracked by the very name of the object
  same_spot : (t : ℕ) (tag field : Name) → IsLive S.balances t → is_made s t ≡ true
      → z ≡ slots.Field (names t) tag field → p ≡ Field t tag field
  same_spot t tag field live made e = by p refl
    where
      by : (q : Spot) → p ≡ q → q ≡ Field t tag field
      by (Global m) f = absurd (not_both m (names t) tag field
          (ap (slot_named names) (sym f) ∙ finds.is_slot ∙ e))
      by (Field b x y) f =
          let h : slots.Field (names b) x y ≡ slots.Field (names t) tag field = ap (slot_named names) (sym f)
          ∙ finds.is_slot ∙ e in
          elim (cases_eq t b) [
            | inl same ↦ ap (λ u. Field u x y) (sym same) ∙ ap (λ u. Field t u y) (ap tag_in h)
                ∙ ap (λ u. Field t tag u) (ap field_in h)
            | inr ne ↦ absurd (alone b x y (finds.is_spot ∙ ap Some f) t live made ne (sym (ap object_in h)))
          ]

  as_it_is : IsAmong (touch_first place S) S → (is_object (place_kind place) ≡ true → IsTrackedSlot S place)
      → ((t : ℕ) (tag field : Name) → IsLive S.balances t → is_made s t ≡ true → o.fields tag field ≡ true
      → z ≡ slots.Field (names t) tag field → IsAmong ps (Field t tag field))
      → Tracks code ks i pc place s v O
  as_it_is there tracked here = record {
    chosen = record {
      chosen = passes_on 0 S;
      names = names;
      is_there = there_in S there;
      onward = refl;
      frees = tt;
      guard = no_guard v;
      width = refl;
      scene = stands.scene;
      deads = λ x e. (e, not_written x);
      kinds = stands.kinds;
      shows = grows_shows names v None S o w d stands.shows grown.stays grown.accounts debts o.fields (record {
        made = λ t live m. grown.made (names t) (marks.made t live m);
        two = marks.two;
        base = marks.base;
        touched = λ t tag field k live m is at. elim (touched_or t tag field k live m is at) [
          | inl old ↦ old
          | inr e ↦ here t tag field live m is e
        ];
      });
    };
    tracked = tracked;
  }

  -- the new slot is tracked
  module _ (object : is_object (place_kind place) ≡ true) (untracked : is_tracked s p ≡ false) where
    apart_from : (k : ℕ) (e : Spot) → k < length (map spot_in s.slots)
        → AreApart names (get_or (map spot_in s.slots) k e) p
    apart_from k e lt same =
        let l = length-map s.slots spot_in in
        no_way (sym untracked ∙ tracked_by s p k e (omega (arith, l, lt)) (sole p finds.is_spot k e lt same))

    kinds_with : (h : Holding) → All (IsObjectSpot code) (map spot_in (track p h S).shape.slots)
    kinds_with h =
        let r : Tracked = record { spot = p; held = h } in
        subst (All (IsObjectSpot code)) (sym (map_push spot_in s.slots r))
        (All-push (IsObjectSpot code) (map spot_in s.slots) p stands.kinds
        (object_spot code names place p z (is_code.kinds code is_code.own) of finds.is_slot finds.named object))

    -- in a scene with the same variables and static objects
    tracked_in : (t : Scene) (h : Holding) → t.shape.vars ≡ s.vars → t.shape.statics ≡ s.statics
        → IsTrackedSlot (track p h t) place
    tracked_in t h e f q is_q =
        let same : Some p ≡ Some q = sym finds.is_spot ∙ sym (spot_same (track p h t) S e f place) ∙ is_q in
        let is_p : p ≡ q = cc in
        let r : Tracked = record { spot = p; held = h } in
        list_any-append (λ (x : Tracked). is_spot x.spot q) t.shape.slots (r ∷ [])
        ∙ last (list_any (λ (x : Tracked). is_spot x.spot q) t.shape.slots)
        (ap (is_spot p) (sym is_p) ∙ spot_itself p)
      where
        last : (b : Bool) → is_spot p q ≡ true → (b || (is_spot p q || false)) ≡ true
        last true e = refl
        last false e = ap (λ c. c || false) e

    -- what the marks say once it is tracked
    marks_after : Marks names S.balances s.made (ps ++ p ∷ []) w o.fields
    marks_after = marks_push names S.balances s.made ps p o.world w o.fields o.fields marks grown.made
        (λ t b tag field e live ne m. alone b tag field (finds.is_spot ∙ ap Some e) t live m ne)
        (λ t tag field k live m is at. elim (touched_or t tag field k live m is at) [
          | inl old ↦ among_left ps (p ∷ []) (Field t tag field) old
          | inr e ↦ subst (IsAmong (ps ++ p ∷ [])) (same_spot t tag field live m e)
              (among_right ps (p ∷ []) p (first_among p []))
        ])

    abbrev T : Scene
    T = with_token (zero_form (width_of s)) false S

    abbrev N : Scene
    N = track p Null S

    abbrev U : Scene
    U = track p (Token (new_token S)) T

    abbrev E : Scene
    E = track p Unset S

    choices : (b : Bool) → is_of_made s p ≡ b → touch_first place S ≡ cond b (E ∷ []) (N ∷ U ∷ [])
    choices b made =
        ap (λ b. cond b (touch_at (spot_of S place) S) (S ∷ [])) object
        ∙ ap (λ q. touch_at q S) finds.is_spot
        ∙ ap (λ b. cond b (S ∷ []) (first_contents p S)) untracked
        ∙ ap (λ b. cond b (E ∷ []) (N ∷ U ∷ [])) made

    found_z : found w z ≡ Some (slot_at w j).held
    found_z = found_at w z j grown.place

    -- a field of a made object held nothing
    holds_unset : is_of_made s p ≡ true → Tracks code ks i pc place s v O
    holds_unset made = record {
      chosen = record {
        chosen = passes_on 0 E;
        names = names;
        is_there = there_in E (subst (λ ts. IsAmong ts E) (sym (choices true made)) (first_among E []));
        onward = refl;
        frees = tt;
        guard = no_guard v;
        width = refl;
        scene = track_scene ks n S p Unset stands.scene finds.based tt refl;
        deads = λ x f. (f, not_written x);
        kinds = kinds_with Unset;
        shows = track_shows names v None S W p Unset grown_shows
            (content.Unset, ap (found w) finds.is_slot ∙ found_z ∙ ap Some (made_holds object made untracked), refl)
            apart_from o.fields marks_after;
      };
      tracked = λ f. tracked_in S Unset refl refl;
    }

    module _ (unmade : is_of_made s p ≡ false) where
      held : IsHeldSo (length w.accounts) (place_kind place) (slot_at w j).held
      held = other_holds object unmade

      found_value : found w z ≡ Some (content.Holds held.value)
      found_value = found_z ∙ ap Some held.holds

      holds_null : held.value ≡ value.Null → Tracks code ks i pc place s v O
      holds_null e = record {
        chosen = record {
          chosen = passes_on 0 N;
          names = names;
          is_there = there_in N (subst (λ ts. IsAmong ts N) (sym (choices false unmade)) (first_among N (U ∷ [])));
          onward = refl;
          frees = tt;
          guard = no_guard v;
          width = refl;
          scene = track_scene ks n S p Null stands.scene finds.based tt refl;
          deads = λ x f. (f, not_written x);
          kinds = kinds_with Null;
          shows = track_shows names v None S W p Null grown_shows (
            content.Holds value.Null,
            ap (found w) finds.is_slot ∙ found_value ∙ ap (λ y. Some (content.Holds y)) e,
            refl,
          ) apart_from o.fields marks_after;
        };
        tracked = λ f. tracked_in S Null refl refl;
      }

      holds_object : (k : ℕ) → k < length w.accounts → held.value ≡ value.Object k
          → Tracks code ks i pc place s v O
      holds_object k lt e =
          let t = new_token S in
          let names' = named names t k in
          let zero_width = length_zero (width_of s) in
          let zero = zero_form (width_of s) in
          let scene_t = with_token_scene ks n S zero false stands.scene zero_width in
          let shows_t = with_token_shows ks n names v None S W d zero false k stands.scene grown_shows zero_width lt
          (λ y. no_change (d y) (d y) (k == y) (dot zero v) refl (dot_zero (width_of s) v)) (λ b. no_way b) in
          let qs = ps ++ p ∷ [] in
          let below = base_below in
          let marks_t = marks_token names' S.balances s.made qs w o.fields zero false k
          (marks_named names names' S.balances s.made qs w o.fields
          (λ u live. named_others names t k u (let in_u = is_in_range S.balances u live in
          let count = stands.scene.balances in omega (arith, in_u, count)))
          (λ u tag field there. named_others names t k u (below u tag field there)) marks_after)
          stands.scene.balances below (named_new names t k) (λ b. no_way b) in
          let more : length T.shape.made ≡ length s.made + 1 = length-append s.made (false ∷ []) in
          let slot_is : slot_named names' p ≡ z = base_named names t k p finds.based ∙ finds.is_slot in
          let is_k : names' t ≡ k = ap (λ (b : Bool). cond b k (names t)) (eqb_self t) in
          record {
            chosen = record {
              chosen = passes_on 0 U;
              names = names';
              is_there = there_in U (subst (λ ts. IsAmong ts U) (sym (choices false unmade))
                  (later_among N (U ∷ []) U (first_among U [])));
              onward = refl;
              frees = tt;
              guard = no_guard v;
              width = refl;
              scene = track_scene ks n T p (Token t) scene_t (base_more (length s.made) (length T.shape.made) p
                  (omega (arith, more))
                  finds.based) (new_token_live ks n S zero false stands.scene) refl;
              deads = λ x f. (f, not_written x);
              kinds = kinds_with (Token t);
              shows = track_shows names' v None T W p (Token t) shows_t (
                content.Holds (value.Object k),
                ap (found w) slot_is ∙ found_value ∙ ap (λ y. Some (content.Holds y)) e,
                ap (λ y. content.Holds (value.Object y)) (sym is_k),
              )
                  (λ y f in_y same. apart_from y f in_y
                  (sym (base_named names t k (get_or (map spot_in s.slots) y f) (stands.scene.bases y f in_y)) ∙ same
                  ∙ base_named names t k p finds.based)) o.fields marks_t;
            };
            tracked = λ f. tracked_in T (Token t) refl refl;
          }
        where
          base_more : (a b : ℕ) (q : Spot) → a ≤ b → IsBaseIn a q → IsBaseIn b q
          base_more a b (Global m) le h = tt
          base_more a b (Field c tag field) le h = omega (arith, le, h)

          base_below : (u : ℕ) (tag field : Name) → IsAmong (ps ++ p ∷ []) (Field u tag field) → u < length s.made
          base_below u tag field there = elim (among_append ps (p ∷ []) (Field u tag field) there) [
            | inl old ↦ of_all (IsBaseIn (length s.made)) ps (Field u tag field) stands.scene.bases old
            | inr new ↦ elim (one_of p [] (Field u tag field) new) [
              | inl e ↦ subst (IsBaseIn (length s.made)) (sym e) finds.based
              | inr rest ↦ absurd (nothing_in (Field u tag field) rest)
            ]
          ]

      tracks_value : Tracks code ks i pc place s v O
      tracks_value = elim (object_suits (length w.accounts) (place_kind place) held.value object held.suits_kind) [
        | is_null e ↦ holds_null e
        | is_one k lt e ↦ holds_object k lt e
      ]

    tracks_new : Tracks code ks i pc place s v O
    tracks_new = by (is_of_made s p) refl
      where
        by : (b : Bool) → is_of_made s p ≡ b → Tracks code ks i pc place s v O
        by true e = holds_unset e
        by false e = tracks_value e

  not_object : is_object (place_kind place) ≡ false → Tracks code ks i pc place s v O
  not_object e =
      as_it_is (subst (λ b. IsAmong (cond b (touch_at (spot_of S place) S) (S ∷ [])) S) (sym e) (first_among S []))
      (λ f. no_way (sym e ∙ f))
      (λ t tag field live made is same.
      let q = field_place code tag field (ap (λ f. f tag field) (sym fields) ∙ is) in
      no_way (sym e ∙ ap is_object (one_kind code code place q.place z (is_code.kinds code is_code.own)
      of q.of finds.named
      (ap (names_slot q.place) same ∙ q.named (names t))) ∙ q.object))

  tracked_already : is_object (place_kind place) ≡ true → is_tracked s p ≡ true → Tracks code ks i pc place s v O
  tracked_already object tracked =
      let here : touch_first place S ≡ S ∷ [] = ap (λ b. cond b (touch_at (spot_of S place) S) (S ∷ [])) object
      ∙ ap (λ q. touch_at q S) finds.is_spot ∙ ap (λ b. cond b (S ∷ []) (first_contents p S)) tracked in
      as_it_is (subst (λ ts. IsAmong ts S) (sym here) (first_among S []))
      (λ f q is_q. let same : Some p ≡ Some q = sym finds.is_spot ∙ is_q in let is_p : p ≡ q = cc in
      ap (is_tracked s) (sym is_p) ∙ tracked)
      (λ t tag field live made is same. subst (IsAmong ps) (same_spot t tag field live made same)
      (tracked_among s.slots p tracked))

  pub slot_touched : Tracks code ks i pc place s v O
  slot_touched = by (is_object (place_kind place)) (is_tracked s p) refl refl
    where
      by : (b c : Bool) → is_object (place_kind place) ≡ b → is_tracked s p ≡ c → Tracks code ks i pc place s v O
      by false c e f = not_object e
      by true true e f = tracked_already e f
      by true false e f = tracks_new e f
