-- Slots that are tracked and written, and what a return forgets.
use Rattle.std.proofs.Common.{◌≡◌, ◌≢◌, ℕ, ◌<◌, ◌≤◌, List, [], ◌∷◌, ◌++◌, length, map, get_or, Bool, true}
use Rattle.std.proofs.Common.{false, refl, sym, ap, ◌∙◌, subst, arith, inl, inr}
use Rattle.std.specs.Prelude.{slice_set, Option, Some, None}
use Rattle.std.specs.List.{All, AllPairs}
use Rattle.pungi_base.specs.declared.names.Name.{Name}
use Rattle.std.proofs.Math.Seq.{map-set_same}
use Rattle.std.proofs.lemmas.Bool.{cases_eq}
use Rattle.std.proofs.lemmas.List.{get_or-set_same, get_or-set_other, length-set, length-map, map_push, map-set}
use Rattle.std.proofs.lemmas.List.{get_or_default}
use Rattle.std.proofs.lemmas.List.Elements.{All-set, All-map, All-push, All-nil}
use Rattle.std.proofs.lemmas.List.Quantifiers.{all_pairs_push}
use Rattle.pungi_base.specs.declared.value.Value.TheVariants as value
use Rattle.pungi_domain.specs.Vectors.{Vector, dot}
use Rattle.pungi_world.specs.declared.content.Content.{Content}
use Rattle.pungi_world.specs.declared.content.Content.TheVariants as content
use Rattle.pungi_world.specs.declared.world.World.{World}
use Rattle.pungi_world.specs.World.{account_of}
use Rattle.pungi_shape.specs.declared.holding.Holding.{Holding}
use Rattle.pungi_shape.specs.declared.holding.Holding.TheVariants.{Unset}
use Rattle.pungi_shape.specs.declared.tracked.Spot.{Spot}
use Rattle.pungi_shape.specs.declared.tracked.Tracked.{Tracked}
use Rattle.pungi_shape.specs.Forms.{Form}
use Rattle.pungi_shape.specs.Shapes.{is_number}
use Rattle.pungi_shape.specs.Scenes.{Scene}
use Rattle.pungi_shape.specs.Slots.{track, put_slot, tracked_at, no_slot}
use Rattle.pungi_shape.specs.Steps.{forget}
use Rattle.pungi_shape.specs.Described.{Naming, HoldsSo, SlotHoldsSo}
use Rattle.pungi_shape.proofs.sound.Views.{View}
use Rattle.pungi_shape.proofs.sound.Shows.{IsScene, Marks, Shows, IsLiveIn, IsBaseIn, AreApart, spot_in, held_in}
use Rattle.pungi_shape.proofs.sound.Shows.{is_no_content}
use Rattle.pungi_shape.proofs.sound.Renames.{get_map}
use Rattle.pungi_shape.proofs.sound.Marks.{Reaches, marks_world, marks_empty}
use Rattle.pungi_shape.proofs.sound.SceneWords.{with_world, with_fields}

-- ---- tracked

held_push : (rs : List Tracked) (r : Tracked) → map held_in (rs ++ r ∷ []) ≡ map held_in rs ++ r.held ∷ []
held_push rs r = map_push held_in rs r

spot_push : (rs : List Tracked) (r : Tracked) → map spot_in (rs ++ r ∷ []) ≡ map spot_in rs ++ r.spot ∷ []
spot_push rs r = map_push spot_in rs r

pub track_scene : (ks : List ℕ) (n : ℕ) (s : Scene) (p : Spot) (h : Holding) → IsScene ks n s
    → IsBaseIn (length s.shape.made) p → IsLiveIn s.balances h → is_no_content h ≡ false → IsScene ks n (track p h s)
track_scene ks n s p h is base live number =
    let r : Tracked = record { spot = p; held = h } in
    record {
      wide = is.wide;
      vars = is.vars;
      forms = is.forms;
      widths = is.widths;
      returned_width = is.returned_width;
      entry_forms = is.entry_forms;
      entry_widths = is.entry_widths;
      balances = is.balances;
      balance_widths = is.balance_widths;
      entry_live = is.entry_live;
      vars_live = is.vars_live;
      statics_live = is.statics_live;
      returned_live = is.returned_live;
      slots_live = subst (All (IsLiveIn s.balances)) (sym (held_push s.shape.slots r))
          (All-push (IsLiveIn s.balances) (map held_in s.shape.slots) h is.slots_live live);
      bases = subst (All (IsBaseIn (length s.shape.made))) (sym (spot_push s.shape.slots r))
          (All-push (IsBaseIn (length s.shape.made)) (map spot_in s.shape.slots) p is.bases base);
      no_numbers = subst (All (λ k. is_no_content k ≡ false)) (sym (held_push s.shape.slots r))
          (All-push (λ k. is_no_content k ≡ false) (map held_in s.shape.slots) h is.no_numbers number);
      static_keys = is.static_keys;
      static_tokens = is.static_tokens;
    }

pub track_shows : (names : Naming) (v : Vector) (free : Option ℕ) (s : Scene) (o : View) (p : Spot) (h : Holding)
    → Shows names v free s o → SlotHoldsSo names o.world (record { spot = p; held = h })
    → All (λ q. AreApart names q p) (map spot_in s.shape.slots) → (fields : Name → Name → Bool)
    → Marks names s.balances s.shape.made (map spot_in s.shape.slots ++ p ∷ []) o.world fields
    → Shows names v free (track p h s) (with_fields fields o)
track_shows names v free s o p h shows holds apart fields marks =
    let r : Tracked = record { spot = p; held = h } in
    record {
      leading = shows.leading;
      vars = shows.vars;
      numbers = shows.numbers;
      returned = shows.returned;
      returned_number = shows.returned_number;
      statics = shows.statics;
      slots = All-push (SlotHoldsSo names o.world) s.shape.slots r shows.slots holds;
      apart = subst (AllPairs (AreApart names)) (sym (spot_push s.shape.slots r))
          (all_pairs_push (AreApart names) (map spot_in s.shape.slots) p shows.apart (λ k d lt. apart k d lt));
      objects = shows.objects;
      entry = shows.entry;
      entry_alive = shows.entry_alive;
      entry_count = shows.entry_count;
      entry_numbers = shows.entry_numbers;
      balances = shows.balances;
      marks = subst (λ ps. Marks names s.balances s.shape.made ps o.world fields) (sym (spot_push s.shape.slots r))
          marks;
    }

-- ---- written

abbrev Written : Scene → ℕ → Holding → Tracked
Written s i h = record (tracked_at s.shape i) { held = h }

spot_written : (s : Scene) (i : ℕ) (h : Holding)
    → map spot_in (slice_set s.shape.slots i (Written s i h)) ≡ map spot_in s.shape.slots
spot_written s i h = map-set_same spot_in s.shape.slots i (Written s i h) no_slot refl

held_written : (s : Scene) (i : ℕ) (h : Holding)
    → map held_in (slice_set s.shape.slots i (Written s i h)) ≡ slice_set (map held_in s.shape.slots) i h
held_written s i h = map-set held_in s.shape.slots i (Written s i h)

pub put_slot_scene : (ks : List ℕ) (n : ℕ) (s : Scene) (i : ℕ) (h : Holding) → IsScene ks n s → i < length s.shape.slots
    → IsLiveIn s.balances h → is_no_content h ≡ false → IsScene ks n (put_slot h (Some i) s)
put_slot_scene ks n s i h is lt live number = record {
  wide = is.wide;
  vars = is.vars;
  forms = is.forms;
  widths = is.widths;
  returned_width = is.returned_width;
  entry_forms = is.entry_forms;
  entry_widths = is.entry_widths;
  balances = is.balances;
  balance_widths = is.balance_widths;
  entry_live = is.entry_live;
  vars_live = is.vars_live;
  statics_live = is.statics_live;
  returned_live = is.returned_live;
  slots_live = subst (All (IsLiveIn s.balances)) (sym (held_written s i h))
      (All-set (IsLiveIn s.balances) (map held_in s.shape.slots) i h live is.slots_live);
  bases = subst (All (IsBaseIn (length s.shape.made))) (sym (spot_written s i h)) is.bases;
  no_numbers = subst (All (λ k. is_no_content k ≡ false)) (sym (held_written s i h))
      (All-set (λ k. is_no_content k ≡ false) (map held_in s.shape.slots) i h number is.no_numbers);
  static_keys = is.static_keys;
  static_tokens = is.static_tokens;
}

pub put_slot_shows : (names : Naming) (v : Vector) (free : Option ℕ) (s : Scene) (o : View) (w : World) (i : ℕ)
    (h : Holding) → Shows names v free s o → i < length s.shape.slots → length o.world.accounts ≤ length w.accounts
    → ((j : ℕ) → j < length s.shape.slots → j ≢ i → SlotHoldsSo names w (tracked_at s.shape j))
    → SlotHoldsSo names w (record (tracked_at s.shape i) { held = h })
    → ((k : ℕ) → (account_of o.world k).made ≡ true → (account_of w k).made ≡ true) → Reaches o.world w
    → Shows names v free (put_slot h (Some i) s) (with_world w o)
put_slot_shows names v free s o w i h shows lt more others here still back = record {
  leading = shows.leading;
  vars = shows.vars;
  numbers = shows.numbers;
  returned = shows.returned;
  returned_number = shows.returned_number;
  statics = shows.statics;
  slots = λ k d in_k. elim (cases_eq k i) [
    | inl e ↦ subst (SlotHoldsSo names w) (sym (ap (λ z. get_or (slice_set s.shape.slots i (Written s i h)) z d) e
        ∙ get_or-set_same s.shape.slots i (Written s i h) d lt)) here
    | inr ne ↦
        let in_slots : k < length s.shape.slots = let n = length-set s.shape.slots i (Written s i h) in omega
        (arith, n, in_k) in
        subst (SlotHoldsSo names w) (sym (get_or-set_other s.shape.slots i k (Written s i h) d ne
        ∙ get_or_default s.shape.slots k d no_slot in_slots)) (others k in_slots ne)
  ];
  apart = subst (AllPairs (AreApart names)) (sym (spot_written s i h)) shows.apart;
  objects = λ t live. let g = shows.objects t live in omega (arith, g, more);
  entry = shows.entry;
  entry_alive = shows.entry_alive;
  entry_count = shows.entry_count;
  entry_numbers = shows.entry_numbers;
  balances = shows.balances;
  marks = subst (λ ps. Marks names s.balances s.shape.made ps w o.fields) (sym (spot_written s i h))
      (marks_world names s.balances s.shape.made (map spot_in s.shape.slots) o.world w o.fields still back shows.marks);
}

-- ---- a return

unset_everywhere : (hs : List Holding) (x : ℕ) → get_or (map (λ (h : Holding). Unset) hs) x Unset ≡ Unset
unset_everywhere hs x = get_map (λ (h : Holding). Unset) hs x Unset

pub forget_scene : (ks : List ℕ) (n : ℕ) (s : Scene) (h : Holding) (f : Form) → IsScene ks n s → length f ≡ s.width
    → IsLiveIn s.balances h → IsScene ks n (forget h f s)
forget_scene ks n s h f is wide live = record {
  wide = is.wide;
  vars = length-map s.shape.vars (λ (k : Holding). Unset) ∙ is.vars;
  forms = is.forms ∙ sym (length-map s.shape.vars (λ (k : Holding). Unset));
  widths = is.widths;
  returned_width = wide;
  entry_forms = is.entry_forms;
  entry_widths = is.entry_widths;
  balances = is.balances;
  balance_widths = is.balance_widths;
  entry_live = is.entry_live;
  vars_live = All-map (IsLiveIn s.balances) (λ (k : Holding). Unset) s.shape.vars (λ k d lt. tt);
  statics_live = is.statics_live;
  returned_live = live;
  slots_live = All-nil (IsLiveIn s.balances);
  bases = All-nil (IsBaseIn (length s.shape.made));
  no_numbers = All-nil (λ k. is_no_content k ≡ false);
  static_keys = is.static_keys;
  static_tokens = is.static_tokens;
}

unset_no_number : is_number Unset ≡ true → ⊥
unset_no_number e = absurd (grind (arith, e))

pub forget_shows : (names : Naming) (v : Vector) (free : Option ℕ) (s : Scene) (o : View) (h : Holding) (f : Form)
    (c : Content) → Shows names v free s o → HoldsSo names h c
    → (is_number h ≡ true → c ≡ content.Holds (value.Int (dot f v)))
    → Shows names v None (forget h f s) (record o { vars = []; returned = c; fields = λ t g. false })
forget_shows names v free s o h f c shows holds number = record {
  leading = shows.leading;
  vars = λ x. subst (λ k. HoldsSo names k content.Unset) (sym (unset_everywhere s.shape.vars x)) refl;
  numbers = λ x e other. absurd (unset_no_number (sym (ap is_number (unset_everywhere s.shape.vars x)) ∙ e));
  returned = holds;
  returned_number = number;
  statics = shows.statics;
  slots = All-nil (SlotHoldsSo names o.world);
  apart = λ i j d lt in_j. absurd (omega (arith, in_j));
  objects = shows.objects;
  entry = shows.entry;
  entry_alive = shows.entry_alive;
  entry_count = shows.entry_count;
  entry_numbers = shows.entry_numbers;
  balances = shows.balances;
  marks = marks_empty names s.balances s.shape.made (map spot_in s.shape.slots) o.world o.fields shows.marks;
}
