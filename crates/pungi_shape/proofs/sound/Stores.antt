-- Stores keep to the program.
use Rattle.std.proofs.Common.{◌≡◌, ◌≢◌, ℕ, ◌+◌, ◌<◌, ℤ, pos, negsuc, ◌+ℤ◌, ◌-ℤ◌, Bool, true, false, cond}
use Rattle.std.proofs.Common.{List, [], ◌∷◌, ◌++◌, length, map, get_or, refl, sym, ap, ◌∙◌, subst, arith, inl, inr}
use Rattle.std.proofs.Common.{Some, None, ◌⊎◌, ◌≤◌, ◌||◌}
use Rattle.std.specs.Prelude.{nat_lt}
use Rattle.std.specs.List.{All, IsAmong}
use Rattle.std.proofs.Math.Seq.{map-set_same}
use Rattle.std.proofs.lemmas.Int.{ints}
use Rattle.std.proofs.lemmas.List.{get_or-map, length-map}
use Rattle.pungi_base.specs.declared.pos.Pos.{Pos}
use Rattle.pungi_base.specs.declared.value.Value.{Value}
use Rattle.pungi_base.specs.declared.value.Value.TheVariants as value
use Rattle.pungi_api.specs.declared.param.Param.{Param}
use Rattle.pungi_domain.specs.Vectors.{Vector}
use Rattle.pungi_world.specs.declared.content.Content.{Content}
use Rattle.pungi_world.specs.declared.content.Content.TheVariants as content
use Rattle.pungi_world.specs.declared.slot.Slot.{Slot}
use Rattle.pungi_world.specs.declared.world.World.{World}
use Rattle.pungi_world.specs.Escapes.{is_this_object, holds_object}
use Rattle.pungi_world.specs.Slots.{slot_at, put_at, place_of}
use Rattle.pungi_code.specs.declared.atom.Atom.{Atom}
use Rattle.pungi_code.specs.declared.code.Code.{Code}
use Rattle.pungi_code.specs.declared.instr.Instr.TheVariants.{Store}
use Rattle.pungi_code.specs.declared.place.Place.{Place}
use Rattle.pungi_code.specs.Registers.{Regs, content_of, choices_left}
use Rattle.pungi_code.specs.WellFormed.{is_object, is_text, is_place, place_kind, atom_is, place_of as place_in}
use Rattle.pungi_shape.specs.declared.holding.Holding.{Holding}
use Rattle.pungi_shape.specs.declared.holding.Holding.TheVariants as held
use Rattle.pungi_shape.specs.declared.shape.Shape.{Shape}
use Rattle.pungi_shape.specs.declared.tracked.Tracked.{Tracked}
use Rattle.pungi_shape.specs.Cases.{leads_to, leads, are_set}
use Rattle.pungi_code.specs.WellFormed.{atoms_in}
use Rattle.pungi_shape.specs.Named.{static_in}
use Rattle.pungi_shape.specs.Parts.{maps, vars_in, vars_in_place, following}
use Rattle.pungi_shape.specs.Scenes.{Scene, scene_of, holding_of, add_to_holding}
use Rattle.pungi_shape.specs.Slots.{tracked_at, no_slot, slot_holding, put_slot, store_object}
use Rattle.pungi_shape.specs.Slots.{store_cases}
use Rattle.pungi_shape.specs.Edges.{point_of}
use Rattle.pungi_shape.specs.Described.{Naming, HoldsSo, SlotHoldsSo, slot_named, debt}
use Rattle.pungi_shape.proofs.sound.Views.{view_of, holds_objects, IsObjectSpot, IsHeldSo, suits, names_slot}
use Rattle.pungi_shape.proofs.sound.Views.{names_spot}
use Rattle.pungi_shape.proofs.sound.Marks.{Reaches, marks_world}
use Rattle.pungi_shape.proofs.sound.Shows.{IsScene, Shows, IsLiveIn, AreApart, is_no_pointer, spot_in}
use Rattle.pungi_shape.proofs.sound.Flow.{Claim, Flow, IsCode}
use Rattle.pungi_shape.proofs.sound.Stands.{StandsAs, Steps}
use Rattle.pungi_shape.proofs.sound.Arrives.{IsTrackedSlot}
use Rattle.pungi_shape.proofs.sound.Moves.{leads_on}
use Rattle.pungi_shape.proofs.sound.SceneSteps.{with_debts, with_world, counted, counted_value, debts_show, add_scene}
use Rattle.pungi_shape.proofs.sound.SceneSteps.{add_shows, put_slot_scene, put_slot_shows, atom_holds, atom_live}
use Rattle.pungi_shape.proofs.sound.Liveness.{IsRead}
use Rattle.pungi_shape.proofs.sound.Kinds.{atom_suits}
use Rattle.pungi_shape.proofs.sound.Apart.{pairs_apart}
use Rattle.pungi_shape.proofs.sound.Atoms.{FindsSlot, named_slot, atom_set, token_of, null_of}
use Rattle.pungi_shape.proofs.sound.Parts.{Chosen, case_covers, slots_show}
use Rattle.pungi_shape.proofs.sound.Simple.{no_guard, instr_is, sound_at, atom_read}
use Rattle.pungi_shape.proofs.sound.Simple.{statics_named}
use Rattle.pungi_shape.proofs.sound.Accesses.{IsAsNull, at_slot, moved, slot_there, suits_content, suited_more}
use Rattle.pungi_shape.proofs.sound.TrackedSlots.{IsHeldAt, held_at, content_set, pointer_content}
use Rattle.pungi_shape.proofs.sound.FirstTouches.{IsPointer, is_null, is_one, object_suits, atom_same, named_spot}
use Rattle.pungi_shape.proofs.sound.Loads.{place_read, place_slot_kind}
use Rattle.pungi_shape.proofs.sound.worlds.Debts.{part, debt_stored}
use Rattle.pungi_shape.proofs.sound.worlds.Places.{found, found_at, placed, put_found, put_here, put_other, put_place}
use Rattle.pungi_shape.proofs.sound.worlds.Places.{put_twice}
use Rattle.pungi_shape.proofs.sound.worlds.SlotKinds.{KindOf, suit_put, there_put}
use Rattle.pungi_shape.proofs.sound.worlds.Touches.{Touched, touched}
use Rattle.pungi_shape.proofs.sound.StoreRuns.{store_ran, set_right, store_access}
use Rattle.pungi_shape.proofs.sound.Members.{first_among, among_append}
use Rattle.pungi_shape.proofs.sound.Tests.{no_way, both_true}

-- ---- small facts

pub add_shape : (g : Holding) (by : ℤ) (t : Scene) → (add_to_holding g by t).shape ≡ t.shape
add_shape held.Dead by t = refl
add_shape held.Unset by t = refl
add_shape held.Null by t = refl
add_shape held.Text by t = refl
add_shape (held.Known n) by t = refl
add_shape held.Number by t = refl
add_shape (held.Token u) by t = refl

pub add_width : (g : Holding) (by : ℤ) (t : Scene) → (add_to_holding g by t).width ≡ t.width
add_width held.Dead by t = refl
add_width held.Unset by t = refl
add_width held.Null by t = refl
add_width held.Text by t = refl
add_width (held.Known n) by t = refl
add_width held.Number by t = refl
add_width (held.Token u) by t = refl

no_object : (n : ℕ) (k : Param) (y : Value) (o : ℕ) → is_object k ≡ false → suits n k y ≡ true
    → is_this_object y o ≡ false
no_object n k value.Null o e f = refl
no_object n k (value.Object b) o e f = no_way (sym e ∙ (both_true (is_object k) (nat_lt b n) f).0)
no_object n k (value.Int i) o e f = refl
no_object n k value.Text o e f = refl

pointer_held : (names : Naming) (n : ℕ) (h : Holding) (y : Value) → h ≢ held.Dead → HoldsSo names h (content.Holds y)
    → IsPointer n y → is_no_pointer h ≡ false
pointer_held names n h y set so (is_null e) =
    ap is_no_pointer (null_of names h set (subst (λ b. HoldsSo names h (content.Holds b)) e so))
pointer_held names n h y set so (is_one k lt e) =
    let t = token_of names h k set (subst (λ b. HoldsSo names h (content.Holds b)) e so) in
    ap is_no_pointer t.1.0

-- what the slot held: nothing, or a value of its kind
abbrev IsOld : ℕ → Param → Content → Type 0
IsOld n k c = (c ≡ content.Unset) ⊎ IsHeldSo n k c

old_plain : (n : ℕ) (k : Param) (c : Content) (o : ℕ) → is_object k ≡ false → IsOld n k c
    → part (holds_object c o) (pos 1) ≡ pos 0
old_plain n k c o e (inl h) = ap (λ d. part (holds_object d o) (pos 1)) h
old_plain n k c o e (inr h) = ap (λ d. part (holds_object d o) (pos 1)) h.holds
    ∙ ap (λ b. part b (pos 1)) (no_object n k h.value o e h.suits_kind)

unset_value : {X : Type 0} (x : Value) → content.Unset ≡ content.Holds x → X
unset_value x e = absurd cc

counted_content : (names : Naming) (h : Holding) (c : Content) (n : ℤ) (k : ℕ) → h ≢ held.Dead → HoldsSo names h c
    → counted names h n k ≡ cond (holds_object c k) n (pos 0)
counted_content names h (content.Holds x) n k set so = counted_value names h x n k set so
counted_content names held.Dead content.Unset n k set so = absurd (set refl)
counted_content names held.Unset content.Unset n k set so = refl
counted_content names held.Null content.Unset n k set so = unset_value value.Null so
counted_content names held.Text content.Unset n k set so = unset_value value.Text so
counted_content names (held.Known i) content.Unset n k set so = unset_value (value.Int i) so
counted_content names held.Number content.Unset n k set so = unset_value (value.Int so.0) so.1
counted_content names (held.Token t) content.Unset n k set so = unset_value (value.Object (names t)) so

part_is : (b c : Bool) (z : ℤ) → b ≡ c → part b z ≡ cond c z (pos 0)
part_is b c z e = ap (λ r. part r z) e

changes_by : (d e c f g h a b : ℤ) → d ≡ (e +ℤ f) +ℤ g → f ≡ a → g ≡ b → h ≡ ((e -ℤ c) +ℤ a) +ℤ b → d -ℤ c ≡ h
changes_by d e c f g h a b i j k l = omega (arith, ints, i, j, k, l)

stays_level : (d e f g : ℤ) → d ≡ (e +ℤ f) +ℤ g → f ≡ pos 0 → g ≡ pos 0 → d ≡ e
stays_level d e f g i j k = omega (arith, ints, i, j, k)

module _ (code : Code) (ks : List ℕ) (claim : Claim) (is_code : IsCode code ks claim) (place : Place) (a : Atom)
    (pc : ℕ)
    (of : KindOf code place) (m : Regs) (us : List Pos) (s : Shape) (names : Naming) (v : Vector)
    (stands : StandsAs code ks claim (point_of pc 2 0) s names v (view_of code claim.origin m)) (z : Slot)
    (finds : FindsSlot names (scene_of s) place z)
    (tracked : is_object (place_kind place) ≡ true → IsTrackedSlot (scene_of s) place) (j : ℕ)
    (place_is : place_of m.world.slots z ≡ Some j) (old : Content) (is_old : (slot_at m.world j).held ≡ old)
    (was : IsOld (length m.world.accounts) (place_kind place) old) (y : Value)
    (suit : suits (length m.world.accounts) (place_kind place) y ≡ true) (is_y : content_of a m.vars ≡ content.Holds y)
    (named : All (IsAmong ks) (static_in a)) (set : are_set (scene_of s) (vars_in a) ≡ true) where
  abbrev S : Scene
  S = scene_of s

  abbrev n : ℕ
  n = length code.vars

  abbrev u : World
  u = m.world

  abbrev w : World
  w = put_at u j y

  abbrev r : Regs
  r = moved m w us

  abbrev After : Type 0
  After = Chosen code ks (Store place a) pc 2 0 s v (view_of code claim.origin r) (leads_to (pc + 1))

  -- debts since the entry
  abbrev owed : World → ℕ → ℤ
  owed x k = debt x k -ℤ claim.origin.debts k

  within : j < length u.slots
  within = (placed u z j place_is).0

  found_old : found u z ≡ Some old
  found_old = found_at u z j place_is ∙ ap Some is_old

  found_new : found w z ≡ Some (content.Holds y)
  found_new = put_found u j y z place_is

  reaches : Reaches u w
  reaches q k at = (k, sym (put_place u j y q) ∙ at)

  -- ---- a slot that isn't one of objects

  -- a tracked slot is another one
  other_slot : is_object (place_kind place) ≡ false → (k : ℕ) (d : Tracked) → k < length s.slots
      → z ≢ slot_named names (get_or s.slots k d).spot
  other_slot plain k d lt e =
      let l = length-map s.slots spot_in in
      let q = (get_or s.slots k d).spot in
      let is_object_spot = subst (IsObjectSpot code) (get_or-map spot_in s.slots k d q lt)
      (stands.kinds k q (omega (arith, l, lt))) in
      let names_q : names_spot place q ≡ true = sym (named_spot names place q) ∙ ap (names_slot place) (sym e)
      ∙ finds.named in
      no_way (sym plain ∙ is_object_spot of.pc of.line place of.is_there of.place_is names_q)

  plain_debts : is_object (place_kind place) ≡ false → (k : ℕ) → owed w k ≡ owed u k
  plain_debts plain k =
      let nn = length u.accounts in
      ap (λ d. d -ℤ claim.origin.debts k) (stays_level (debt w k) (debt u k)
      (part (holds_object (slot_at u j).held k) (pos 1)) (part (is_this_object y k) (negsuc 0))
      (debt_stored u j y k within)
      (ap (λ c. part (holds_object c k) (pos 1)) is_old ∙ old_plain nn (place_kind place) old k plain was)
      (ap (λ b. part b (negsuc 0)) (no_object nn (place_kind place) y k plain suit)))

  of_plain : is_object (place_kind place) ≡ false → After
  of_plain plain =
      let c = leads (pc + 1) S in
      let cases : store_cases place a (pc + 1) S ≡ c ∷ [] = ap (λ b. leads (pc + 1) (cond b
      (store_object (holding_of S a) place S) S) ∷ []) plain in
      record {
        chosen = c;
        names = names;
        is_there = subst (λ cs. IsAmong cs c) (sym cases) (first_among c []);
        onward = refl;
        frees = tt;
        guard = no_guard v;
        width = refl;
        scene = stands.scene;
        deads = λ x d. (d, refl);
        kinds = stands.kinds;
        shows = slots_show names v None S (view_of code claim.origin m) w (owed w) stands.shows
            (λ k d lt. let h = stands.shows.slots k d lt in (
              h.0,
              put_other u j y z (slot_named names (get_or s.slots k d).spot) place_is (other_slot plain k d lt) ∙ h.1,
              h.2,
            )) (omega arith) (plain_debts plain) (holds_objects code)
            (marks_world names S.balances s.made (map spot_in s.slots) u w (holds_objects code) (λ k g. g) reaches
            stands.shows.marks);
      }

  -- ---- a slot of objects

  module _ (object : is_object (place_kind place) ≡ true) where
    abbrev h : Holding
    h = holding_of S a

    abbrev g : Holding
    g = slot_holding S place

    abbrev S1 : Scene
    S1 = add_to_holding g (pos 1) S

    abbrev S2 : Scene
    S2 = add_to_holding h (negsuc 0) S1

    at : IsHeldAt names S place finds.spot old
    at = held_at ks n names v S (view_of code claim.origin m) stands.scene stands.shows place z finds (tracked object)
        old found_old

    abbrev i : ℕ
    i = at.number_of

    abbrev S3 : Scene
    S3 = put_slot h (Some i) S2

    h_set : h ≢ held.Dead
    h_set = atom_set ks n S a stands.scene set

    h_so : HoldsSo names h (content.Holds y)
    h_so = subst (HoldsSo names h) is_y
        (atom_holds ks n names v S (view_of code claim.origin m) a stands.scene stands.shows named)

    h_pointer : is_no_pointer h ≡ false
    h_pointer = pointer_held names (length u.accounts) h y h_set h_so
        (object_suits (length u.accounts) (place_kind place) y object suit)

    abbrev d1 : ℕ → ℤ
    d1 k = owed u k +ℤ counted names g (pos 1) k

    abbrev d2 : ℕ → ℤ
    d2 k = d1 k +ℤ counted names h (negsuc 0) k

    scene1 : IsScene ks n S1
    scene1 = add_scene ks n S g (pos 1) stands.scene at.live

    shows1 : Shows names v None S1 (with_debts d1 (view_of code claim.origin m))
    shows1 = add_shows ks n names v None S (view_of code claim.origin m) d1 g (pos 1) stands.scene stands.shows at.live
        (λ k. refl)

    shape1 : S1.shape ≡ s
    shape1 = add_shape g (pos 1) S

    shape2 : S2.shape ≡ s
    shape2 = add_shape h (negsuc 0) S1 ∙ shape1

    h_live : IsLiveIn S1.balances h
    h_live = subst (IsLiveIn S1.balances) (atom_same S1 S (ap (λ (t : Shape). t.vars) shape1)
        (ap (λ (t : Shape). t.statics) shape1) a) (atom_live ks n S1 a scene1)

    scene2 : IsScene ks n S2
    scene2 = add_scene ks n S1 h (negsuc 0) scene1 h_live

    shows2 : Shows names v None S2 (with_debts d2 (view_of code claim.origin m))
    shows2 = add_shows ks n names v None S1 (with_debts d1 (view_of code claim.origin m)) d2 h (negsuc 0) scene1 shows1
        h_live (λ
        k. refl)

    live2 : IsLiveIn S2.balances h
    live2 = subst (IsLiveIn S2.balances) (atom_same S2 S (ap (λ (t : Shape). t.vars) shape2)
        (ap (λ (t : Shape). t.statics) shape2) a) (atom_live ks n S2 a scene2)

    in2 : i < length S2.shape.slots
    in2 = subst (λ (t : Shape). i < length t.slots) (sym shape2) at.within

    -- another tracked slot is another slot
    others_apart : (k : ℕ) → k < length s.slots → k ≢ i → z ≢ slot_named names (tracked_at s k).spot
    others_apart k lt ne e =
        let l = length-map s.slots spot_in in
        let none = finds.spot in
        let in_i = at.within in
        let here = get_or-map spot_in s.slots i no_slot none at.within in
        let there = get_or-map spot_in s.slots k no_slot none lt in
        elim (pairs_apart (AreApart names) (map spot_in s.slots) none stands.shows.apart (λ p q f e. f (sym e)) k i
        (omega (arith, l, lt)) (omega (arith, l, in_i))) [
          | inl same ↦ ne same
          | inr apart ↦ apart (ap (slot_named names) there ∙ sym e ∙ sym finds.is_slot
              ∙ ap (slot_named names) (sym at.is_spot) ∙ ap (slot_named names) (sym here))
        ]

    others : (k : ℕ) → k < length S2.shape.slots → k ≢ i → SlotHoldsSo names w (tracked_at S2.shape k)
    others k lt ne =
        let in_s : k < length s.slots = subst (λ (t : Shape). k < length t.slots) shape2 lt in
        let so = stands.shows.slots k no_slot in_s in
        subst (λ (t : Shape). SlotHoldsSo names w (tracked_at t k)) (sym shape2) (
          so.0,
          put_other u j y z (slot_named names (tracked_at s k).spot) place_is (others_apart k in_s ne) ∙ so.1,
          so.2,
        )

    here : SlotHoldsSo names w (record (tracked_at S2.shape i) { held = h })
    here = subst (λ (t : Shape). SlotHoldsSo names w (record (tracked_at t i) { held = h })) (sym shape2) (
      content.Holds y,
      ap (found w) (ap (slot_named names) at.is_spot ∙ finds.is_slot) ∙ found_new,
      h_so,
    )

    debts : (k : ℕ) → owed w k ≡ d2 k
    debts k =
        let g_set = content_set g at.content in
        changes_by (debt w k) (debt u k) (claim.origin.debts k) (part (holds_object (slot_at u j).held k) (pos 1))
        (part (is_this_object y k) (negsuc 0)) (d2 k) (counted names g (pos 1) k) (counted names h (negsuc 0) k)
        (debt_stored u j y k within)
        (part_is (holds_object (slot_at u j).held k) (holds_object old k) (pos 1) (ap (λ c. holds_object c k) is_old)
        ∙ sym (counted_content names g old (pos 1) k g_set at.so))
        (part_is (is_this_object y k) (is_this_object y k) (negsuc 0) refl
        ∙ sym (counted_value names h y (negsuc 0) k h_set h_so)) refl

    shows3 : Shows names v None S3 (view_of code claim.origin r)
    shows3 = debts_show names v None S3 (with_world w (with_debts d2 (view_of code claim.origin m))) (owed w)
        (put_slot_shows names v None S2 (with_debts d2 (view_of code claim.origin m)) w i h shows2 in2 (omega arith)
        others here
        (λ k b. b) reaches) debts

    spots3 : map spot_in S3.shape.slots ≡ map spot_in s.slots
    spots3 = map-set_same spot_in S2.shape.slots i (record (tracked_at S2.shape i) { held = h }) no_slot refl
        ∙ ap (λ (t : Shape). map spot_in t.slots) shape2

    of_object : After
    of_object =
        let c = leads (pc + 1) S3 in
        let cases : store_cases place a (pc + 1) S ≡ c ∷ [] = ap
        (λ b. leads (pc + 1) (cond b (store_object h place S) S)
        ∷ []) object ∙ ap (λ o. leads (pc + 1) (put_slot h o S2) ∷ []) at.place_is in
        record {
          chosen = c;
          names = names;
          is_there = subst (λ cs. IsAmong cs c) (sym cases) (first_among c []);
          onward = refl;
          frees = tt;
          guard = no_guard v;
          width = add_width h (negsuc 0) S1 ∙ add_width g (pos 1) S;
          scene = put_slot_scene ks n S2 i h scene2 in2 live2 (pointer_content h h_pointer);
          deads = λ x d. (ap (λ (t : Shape). get_or t.vars x held.Unset) (sym shape2) ∙ d, refl);
          kinds = subst (All (IsObjectSpot code)) (sym spots3) stands.kinds;
          shows = shows3;
        }

  pub store_shown : After
  store_shown = by (is_object (place_kind place)) refl
    where
      by : (b : Bool) → is_object (place_kind place) ≡ b → After
      by true e = of_object e
      by false e = of_plain e

-- ---- the whole store

-- the world that is seen before a store, and after it
record IsSeen (file : Code → Type 0) (place : Place) (z : Slot) (before w seen : World) (j : ℕ) (y : Value)
    : Type 0 where
  pub accounts : length before.accounts ≤ length seen.accounts
  pub same_accounts : length seen.accounts ≡ length w.accounts
  pub standing : place_of seen.slots z ≡ Some j
  pub was : IsOld (length seen.accounts) (place_kind place) (slot_at seen j).held
  pub stored : put_at seen j y ≡ put_at w j y

seen_is : (file : Code → Type 0) (place : Place) (z : Slot) (before w seen : World) (j : ℕ)
    → Touched file before w z (place_kind place) j
    → (seen ≡ w) ⊎ IsAsNull place w seen j → (y : Value)
    → IsSeen file place z before w seen j y
seen_is file place z before w seen j t (inl e) y =
    subst (λ s. IsSeen file place z before w s j y) (sym e) (record {
      accounts = t.grown.accounts;
      same_accounts = refl;
      standing = t.grown.place;
      was = elim t.held [ inl h ↦ inr h | inr h ↦ inl h.unset ];
      stored = refl;
    })
seen_is file place z before w seen j t (inr e) y =
    let lt = (placed w z j t.grown.place).0 in
    subst (λ s. IsSeen file place z before w s j y) (sym e.world) (record {
      accounts = t.grown.accounts;
      same_accounts = refl;
      standing = put_place w j value.Null z ∙ t.grown.place;
      was = inr (record {
        value = value.Null;
        holds = put_here w j value.Null lt;
        suits_kind = ap (λ b. b || is_text (place_kind place)) e.object;
      });
      stored = put_twice w j value.Null y lt;
    })

pub steps_store : (code : Code) (ks : List ℕ) (claim : Claim) → IsCode code ks claim → Flow code ks claim
    → (place : Place)
    (a : Atom) → Steps code ks claim (Store place a)
steps_store code ks claim is_code flow place a choices p next pc line m w v q used there same runs e =
    let i = Store place a in
    let kind = place_kind place in
    let rs = vars_in_place place ++ vars_in a in
    let ran = store_ran choices place a p next pc m w v q used e in
    let z = ran.slot in
    let u = ran.world in
    let us = ran.used_now in
    let j = ran.touch_of.place in
    let y = ran.value_of in
    let sound = both_true (is_place code.vars place kind) (atom_is code.vars kind a)
    (sound_at code ks claim is_code pc line i there same) in
    let slot_kind = place_slot_kind code.vars place kind sound.0 in
    let read : (x : ℕ) → IsAmong rs x → IsRead (view_of code claim.origin m) x = λ x h. elim
    (among_append (vars_in_place place) (vars_in a) x h) [
      | inl l ↦ place_read (view_of code claim.origin m) place z kind ran.is_slot x l
      | inr l ↦ atom_read (view_of code claim.origin m) a (y, ran.is_value) x l
    ] in
    let of : KindOf code place = record {
      pc = pc;
      line = line;
      is_there = there;
      place_is = ap place_in same;
    } in
    let access = store_access place a in
    let z_there = slot_there code ks claim is_code flow i place rs access pc line m there same runs z kind ran.is_slot
    read slot_kind in
    let t = touched code claim.file is_code.own is_code.kinds place of z (named_slot place m.vars z kind ran.is_slot)
    slot_kind m.world
    runs.typed.slots runs.typed.there z_there (choices_left choices m) ran.touch_of u ran.touch_is in
    let at = at_slot code ks claim is_code flow i place rs access pc line m there same runs z kind ran.is_slot read
    slot_kind u us j t in
    let b = seen_is claim.file place z m.world u at.seen j t at.is_seen y in
    let n = moved m at.seen us in
    let suited = λ (x : ℕ). suits_content (length m.world.accounts) (length at.seen.accounts) _ _ b.accounts
    (runs.typed.vars x) in
    let named = statics_named code ks claim is_code pc line i there same a (first_among a (atoms_in place)) in
    let S = scene_of at.shape in
    let suit = atom_suits code ks (length code.vars) at.names at.vector None S (view_of code claim.origin n) suited
    at.stands.scene
    at.stands.shows a kind y named sound.1 ran.is_value in
    let set = set_right S (vars_in_place place) (vars_in a) at.set in
    let after = store_shown code ks claim is_code place a pc of n us at.shape at.names at.vector at.stands z at.finds
    at.tracked j b.standing (slot_at at.seen j).held refl b.was y suit ran.is_value named set in
    let r = moved n (put_at at.seen j y) us in
    let is_i = instr_is code pc line i there same in
    let lands = leads_on code ks claim flow (point_of pc 2 0) at.shape at.names at.vector (view_of code claim.origin n)
    (view_of code claim.origin r) (pc + 1)
    at.stands (case_covers code ks i pc 2 0 at.shape at.vector (view_of code claim.origin r) (leads_to (pc + 1)) is_i
    at.set after)
    (sym (ap maps is_i)) (subst (λ k. IsAmong (following pc k) (pc + 1)) (sym is_i) (first_among (pc + 1) [])) in
    let last = moved m (put_at u j y) us in
    let suit_u : suits (length u.accounts) kind y ≡ true = subst (λ k. suits k kind y ≡ true) b.same_accounts suit in
    let z_placed = placed u z j t.grown.place in
    record {
      pc = pc + 1;
      regs = last;
      runs = record {
        shape = lands.shape;
        names = lands.names;
        vector = lands.vector;
        typed = record {
          count = runs.typed.count;
          vars = suited_more claim.file code claim.origin m u us runs.typed t.grown.accounts;
          slots = λ c in_file. suit_put code c (is_code.kinds c in_file) place of z
              (named_slot place m.vars z kind ran.is_slot) u j y z_placed.0 z_placed.1 suit_u (t.suit c in_file);
          there = there_put u j y t.there;
          grown = let more = t.grown.accounts in let before = runs.typed.grown in omega (arith, more, before);
        };
        stands = subst (λ (e : World). StandsAs code ks claim (point_of (pc + 1) 0 0) lands.shape lands.names
            lands.vector (view_of code claim.origin (moved m e us))) b.stored lands.stands;
      };
      ends = ran.ends;
    }
