-- Two tokens of one object become one.
use Rattle.std.proofs.Common.{◌≡◌, ◌≢◌, ℕ, ◌<◌, List}
use Rattle.std.proofs.Common.{length, map, get_or, false, sym, ap, ◌∙◌, subst, arith, inl, inr}
use Rattle.std.specs.Prelude.{slice_set, ◌||◌, Option, Some, None}
use Rattle.std.specs.List.{All, AllPairs}
use Rattle.std.proofs.lemmas.Int.{ints}
use Rattle.std.proofs.lemmas.Bool.{cases_eq}
use Rattle.std.proofs.lemmas.List.{get_or-set_same, get_or-set_other, length-set, length-map}
use Rattle.std.proofs.lemmas.List.Elements.{All-set, All-map, All-weaker}
use Rattle.pungi_base.specs.declared.value.Value.TheVariants as value
use Rattle.pungi_domain.specs.Vectors.{Vector}
use Rattle.pungi_world.specs.declared.content.Content.TheVariants as content
use Rattle.pungi_meaning.specs.Work.{content_at}
use Rattle.pungi_shape.specs.declared.holding.Holding.{Holding}
use Rattle.pungi_shape.specs.declared.holding.Holding.TheVariants.{Dead, Unset, Null, Text, Known, Number, Token}
use Rattle.pungi_shape.specs.declared.tracked.Spot.{Spot}
use Rattle.pungi_shape.specs.declared.tracked.Spot.TheVariants.{Global, Field}
use Rattle.pungi_shape.specs.declared.tracked.Tracked.{Tracked}
use Rattle.pungi_shape.specs.Forms.{Form, plus}
use Rattle.pungi_shape.specs.Shapes.{is_number, rename_holding, rename_spot, rename_tracked, holding_of_static}
use Rattle.pungi_shape.specs.Scenes.{Scene, holding_at, balance_at, redirect, is_made, merge}
use Rattle.pungi_shape.specs.Slots.{no_slot}
use Rattle.pungi_shape.specs.Described.{Naming, HoldsSo, SlotHoldsSo}
use Rattle.pungi_shape.proofs.sound.Views.{View}
use Rattle.pungi_shape.proofs.sound.Shows.{IsScene, Marks, Shows, HasWidthIf, IsLive, IsLiveIn, IsBaseIn, AreApart}
use Rattle.pungi_shape.proofs.sound.Shows.{IsTokenHeld, is_no_content, key_of, argument, share, total}
use Rattle.pungi_shape.proofs.sound.Shows.{spot_in, held_in}
use Rattle.pungi_shape.proofs.sound.FormValues.{length_plus}
use Rattle.pungi_shape.proofs.sound.Marks.{redirect_cases, redirect_names, marks_merged}
use Rattle.pungi_shape.proofs.sound.Renames.{All_of_map, AllPairs_map, map_map, get_map, SameBase, holds_renamed}
use Rattle.pungi_shape.proofs.sound.Renames.{dead_before, number_renamed, content_renamed, tracked_renamed}
use Rattle.pungi_shape.proofs.sound.Renames.{slot_renamed}
use Rattle.pungi_shape.proofs.sound.Totals.{total_set, grown, share_same}
use Rattle.pungi_shape.proofs.sound.SceneVars.{NamesStatic}
use Rattle.pungi_shape.proofs.sound.SceneBalances.{is_in_range, form_live, width_live}

-- ---- tokens that are redirected

abbrev Merged : List (Option Form) → ℕ → ℕ → Form → List (Option Form)
Merged bs t u f = slice_set (slice_set bs t (Some f)) u None

live_t : (bs : List (Option Form)) (t u : ℕ) (f : Form) → t < length bs → t ≢ u → IsLive (Merged bs t u f) t
live_t bs t u f lt ne =
    (f, get_or-set_other (slice_set bs t (Some f)) u t None None ne ∙ get_or-set_same bs t (Some f) None lt)

live_other : (bs : List (Option Form)) (t u : ℕ) (f : Form) (v : ℕ) → t < length bs → t ≢ u → v ≢ u → IsLive bs v
    → IsLive (Merged bs t u f) v
live_other bs t u f v lt ne other live = elim (cases_eq v t) [
  | inl e ↦ subst (IsLive (Merged bs t u f)) (sym e) (live_t bs t u f lt ne)
  | inr apart ↦ (
    live.0,
    get_or-set_other (slice_set bs t (Some f)) u v None None other
        ∙ get_or-set_other bs t v (Some f) None apart ∙ live.1,
  )
]

live_redirected : (bs : List (Option Form)) (t u : ℕ) (f : Form) (v : ℕ) → t < length bs → t ≢ u → IsLive bs v
    → IsLive (Merged bs t u f) (redirect t u v)
live_redirected bs t u f v lt ne live = redirect_cases t u v (IsLive (Merged bs t u f)) (λ e. live_t bs t u f lt ne)
    (λ other. live_other bs t u f v lt ne other live)

live_in_redirected : (bs : List (Option Form)) (t u : ℕ) (f : Form) (h : Holding) → t < length bs → t ≢ u
    → IsLiveIn bs h → IsLiveIn (Merged bs t u f) (rename_holding (redirect t u) h)
live_in_redirected bs t u f Dead lt ne live = tt
live_in_redirected bs t u f Unset lt ne live = tt
live_in_redirected bs t u f Null lt ne live = tt
live_in_redirected bs t u f Text lt ne live = tt
live_in_redirected bs t u f (Known n) lt ne live = tt
live_in_redirected bs t u f Number lt ne live = tt
live_in_redirected bs t u f (Token v) lt ne live = live_redirected bs t u f v lt ne live

base_redirected : (n t u : ℕ) (p : Spot) → t < n → IsBaseIn n p → IsBaseIn n (rename_spot (redirect t u) p)
base_redirected n t u (Global m) lt is = tt
base_redirected n t u (Field b tag field) lt is = redirect_cases t u b (λ z. z < n) (λ e. lt) (λ ne. is)

-- ---- lists of renamed holders and slots

-- each renamed holder is as it should be
pub renamed_holders : (P Q : Holding → Type 0) (g : ℕ → ℕ) → ((h : Holding) → P h → Q (rename_holding g h))
    → (hs : List Holding) → All P hs → All Q (map (rename_holding g) hs)
renamed_holders P Q g step hs all = All-map Q (rename_holding g) hs
    (All-weaker P (λ h. Q (rename_holding g h)) step hs all)

pub renamed_statics : (P Q : Holding → Type 0) (g : ℕ → ℕ) → ((h : Holding) → P h → Q (rename_holding g h))
    → (es : List (ℕ × Holding)) → All P (map holding_of_static es)
    → All Q (map holding_of_static (map (λ k. (k.0, rename_holding g k.1)) es))
renamed_statics P Q g step es all =
    All-map Q holding_of_static (map (λ k. (k.0, rename_holding g k.1)) es)
    (All-map (λ k. Q (holding_of_static k)) (λ k. (k.0, rename_holding g k.1)) es
    (All-weaker (λ k. P (holding_of_static k)) (λ k. Q (rename_holding g k.1)) (λ k is. step k.1 is) es
    (All_of_map P holding_of_static es all)))

pub renamed_helds : (P Q : Holding → Type 0) (g : ℕ → ℕ) → ((h : Holding) → P h → Q (rename_holding g h))
    → (rs : List Tracked) → All P (map held_in rs) → All Q (map held_in (map (rename_tracked g) rs))
renamed_helds P Q g step rs all =
    All-map Q held_in (map (rename_tracked g) rs)
    (All-map (λ r. Q (held_in r)) (rename_tracked g) rs
    (All-weaker (λ r. P (held_in r)) (λ r. Q (rename_holding g r.held)) (λ r is. step r.held is) rs
    (All_of_map P held_in rs all)))

pub renamed_spots : (P Q : Spot → Type 0) (g : ℕ → ℕ) → ((p : Spot) → P p → Q (rename_spot g p))
    → (rs : List Tracked) → All P (map spot_in rs) → All Q (map spot_in (map (rename_tracked g) rs))
renamed_spots P Q g step rs all =
    All-map Q spot_in (map (rename_tracked g) rs)
    (All-map (λ r. Q (spot_in r)) (rename_tracked g) rs
    (All-weaker (λ r. P (spot_in r)) (λ r. Q (rename_spot g r.spot)) (λ r is. step r.spot is) rs
    (All_of_map P spot_in rs all)))

pub spots_of_renamed : (g : ℕ → ℕ) (rs : List Tracked)
    → map spot_in (map (rename_tracked g) rs) ≡ map (rename_spot g) (map spot_in rs)
spots_of_renamed g rs = map_map spot_in (rename_tracked g) rs
    ∙ sym (map_map (rename_spot g) spot_in rs)

pub keys_of_renamed : (g : ℕ → ℕ) (es : List (ℕ × Holding))
    → map key_of (map (λ k. (k.0, rename_holding g k.1)) es) ≡ map key_of es
keys_of_renamed g es = map_map key_of (λ k. (k.0, rename_holding g k.1)) es

pub token_stays : (g : ℕ → ℕ) (h : Holding) → IsTokenHeld h → IsTokenHeld (rename_holding g h)
token_stays g h is = (g is.0, ap (rename_holding g) is.1)

pub no_number_stays : (g : ℕ → ℕ) (h : Holding) → is_no_content h ≡ false → is_no_content (rename_holding g h) ≡ false
no_number_stays g h is = content_renamed g h ∙ is

-- ---- the merge

pub merge_scene : (ks : List ℕ) (n : ℕ) (s : Scene) (t u : ℕ) → IsScene ks n s → IsLive s.balances t
    → IsLive s.balances u → t ≢ u → IsScene ks n (merge t u s)
merge_scene ks n s t u is live_here live_there ne =
    let g = redirect t u in
    let f = plus (balance_at s t) (balance_at s u) in
    let lt = is_in_range s.balances t live_here in
    let form_t = form_live s.width s.balances t live_here.0 live_here.1 in
    let form_u = form_live s.width s.balances u live_there.0 live_there.1 in
    let width_t = width_live s.width s.balances t live_here.0 is.balance_widths live_here.1 in
    let width_u = width_live s.width s.balances u live_there.0 is.balance_widths live_there.1 in
    let wide : length f ≡ s.width = length_plus (balance_at s t) (balance_at s u)
    (ap length form_t ∙ width_t ∙ sym width_u ∙ ap length (sym form_u)) ∙ ap length form_t ∙ width_t in
    let step = λ (h : Holding) (l : IsLiveIn s.balances h). live_in_redirected s.balances t u f h lt ne l in
    let made = is_made s.shape t || is_made s.shape u in
    let count = is.balances in
    let in_made : t < length s.shape.made = omega (arith, count, lt) in
    record {
      wide = is.wide;
      vars = length-map s.shape.vars (rename_holding g) ∙ is.vars;
      forms = is.forms ∙ sym (length-map s.shape.vars (rename_holding g));
      widths = is.widths;
      returned_width = is.returned_width;
      entry_forms = is.entry_forms ∙ sym (length-map s.shape.entry (rename_holding g));
      entry_widths = is.entry_widths;
      balances = length-set (slice_set s.balances t (Some f)) u None ∙ length-set s.balances t (Some f) ∙ is.balances
          ∙ sym (length-set s.shape.made t made);
      balance_widths = All-set (HasWidthIf s.width) (slice_set s.balances t (Some f)) u None tt
          (All-set (HasWidthIf s.width) s.balances t (Some f) wide is.balance_widths);
      entry_live = renamed_holders (IsLiveIn s.balances) (IsLiveIn (Merged s.balances t u f)) g step s.shape.entry
          is.entry_live;
      vars_live = renamed_holders (IsLiveIn s.balances) (IsLiveIn (Merged s.balances t u f)) g step s.shape.vars
          is.vars_live;
      statics_live = renamed_statics (IsLiveIn s.balances) (IsLiveIn (Merged s.balances t u f)) g step s.shape.statics
          is.statics_live;
      returned_live = step s.shape.returned is.returned_live;
      slots_live = renamed_helds (IsLiveIn s.balances) (IsLiveIn (Merged s.balances t u f)) g step s.shape.slots
          is.slots_live;
      bases = subst (λ m. All (IsBaseIn m) (map spot_in (map (rename_tracked g) s.shape.slots)))
          (sym (length-set s.shape.made t made))
          (renamed_spots (IsBaseIn (length s.shape.made)) (IsBaseIn (length s.shape.made)) g
          (λ p b. base_redirected (length s.shape.made) t u p in_made b) s.shape.slots is.bases);
      no_numbers = renamed_helds (λ h. is_no_content h ≡ false) (λ h. is_no_content h ≡ false) g (no_number_stays g)
          s.shape.slots is.no_numbers;
      static_keys = keys_of_renamed g s.shape.statics ∙ is.static_keys;
      static_tokens = renamed_statics IsTokenHeld IsTokenHeld g (token_stays g) s.shape.statics is.static_tokens;
    }

merged_total : (names : Naming) (v : Vector) (bs : List (Option Form)) (t u k : ℕ) (f g : Form) → t ≢ u
    → get_or bs t None ≡ Some f → get_or bs u None ≡ Some g → length f ≡ length g → t < length bs → u < length bs
    → names t ≡ names u → total names (Merged bs t u (plus f g)) v k ≡ total names bs v k
merged_total names v bs t u k f g ne is_f is_g wide in_t in_u same =
    let one = slice_set bs t (Some (plus f g)) in
    let p = grown names bs v k t f g in_t is_f wide in
    let q = total_set names one v k u None (let n = length-set bs t (Some (plus f g)) in omega (arith, n, in_u)) in
    let r : share names v k u (get_or one u None) ≡ share names v k u (Some g) = ap (share names v k u)
    (get_or-set_other bs t u (Some (plus f g)) None (λ e. ne (sym e)) ∙ is_g) in
    let e = share_same names v k t u g same in
    omega (arith, ints, p, q, r, e)

same_base : (names : Naming) (t u : ℕ) → names t ≡ names u → (p : Spot)
    → SameBase names names (redirect t u) p
same_base names t u e (Global m) = tt
same_base names t u e (Field b tag field) = redirect_names names t u b e

apart_merged : (names : Naming) (t u : ℕ) → names t ≡ names u → (p q : Spot) → AreApart names p q
    → AreApart names (rename_spot (redirect t u) p) (rename_spot (redirect t u) q)
apart_merged names t u e p q apart same = apart (sym (slot_renamed names names (redirect t u) p
    (same_base names t u e p)) ∙ same ∙ slot_renamed names names (redirect t u) q (same_base names t u e q))

live_unmerged : (bs : List (Option Form)) (t u : ℕ) (f : Form) (v : ℕ) (P : ℕ → Type 0) → (v ≡ t → P v) → (v ≡ u → P v)
    → (IsLive bs v → P v) → IsLive (Merged bs t u f) v → P v
live_unmerged bs t u f v P at_t at_u at live = elim (cases_eq v u) [
  | inl e ↦ at_u e
  | inr apart ↦ elim (cases_eq v t) [
    | inl e ↦ at_t e
    | inr other ↦ at (
      live.0,
      sym (get_or-set_other bs t v (Some f) None other)
          ∙ sym (get_or-set_other (slice_set bs t (Some f)) u v None None apart) ∙ live.1,
    )
  ]
]

pub merge_shows : (ks : List ℕ) (n : ℕ) (names : Naming) (v : Vector) (free : Option ℕ) (s : Scene) (o : View)
    (t u : ℕ) → IsScene ks n s → Shows names v free s o → IsLive s.balances t → IsLive s.balances u → t ≢ u
    → names t ≡ names u → Shows names v free (merge t u s) o
merge_shows ks n names v free s o t u is shows live_here live_there ne same =
    let g = redirect t u in
    let f = plus (balance_at s t) (balance_at s u) in
    let form_t = form_live s.width s.balances t live_here.0 live_here.1 in
    let form_u = form_live s.width s.balances u live_there.0 live_there.1 in
    let width_t = width_live s.width s.balances t live_here.0 is.balance_widths live_here.1 in
    let width_u = width_live s.width s.balances u live_there.0 is.balance_widths live_there.1 in
    let at = λ (x : ℕ). get_map (rename_holding g) s.shape.vars x Unset in
    let at_entry = λ (x : ℕ). get_map (rename_holding g) s.shape.entry x Unset in
    let renames = λ (w : ℕ). redirect_names names t u w same in
    record {
      leading = shows.leading;
      vars = λ x. subst (λ h. HoldsSo names h (content_at o.vars x)) (sym (at x))
          (holds_renamed names names g (holding_at s x) (content_at o.vars x) (λ w e. renames w) (shows.vars x));
      numbers = λ x e other. shows.numbers x (sym (number_renamed g (holding_at s x)) ∙ ap is_number (sym (at x)) ∙ e)
          other;
      returned = holds_renamed names names g s.shape.returned o.returned (λ w e. renames w) shows.returned;
      returned_number = λ e. shows.returned_number (sym (number_renamed g s.shape.returned) ∙ e);
      statics = All-map (NamesStatic names) (λ k. (k.0, rename_holding g k.1)) s.shape.statics
          (All-weaker (NamesStatic names) (λ k. NamesStatic names (k.0, rename_holding g k.1))
          (λ k h. holds_renamed names names g k.1 (content.Holds (value.Object k.0)) (λ w e. renames w) h)
          s.shape.statics shows.statics);
      slots = All-map (SlotHoldsSo names o.world) (rename_tracked g) s.shape.slots
          (All-weaker (SlotHoldsSo names o.world) (λ r. SlotHoldsSo names o.world (rename_tracked g r))
          (λ r h. tracked_renamed names names g o.world r (same_base names t u same r.spot) (λ w e. renames w) h)
          s.shape.slots shows.slots);
      apart = subst (λ ps. AllPairs (AreApart names) ps) (sym (spots_of_renamed g s.shape.slots))
          (AllPairs_map (AreApart names) (rename_spot g) (map spot_in s.shape.slots) no_slot.spot
          (λ i j d lt in_j. apart_merged names t u same _ _ (shows.apart i j d lt in_j)));
      objects = λ w live. live_unmerged s.balances t u f w (λ z. names z < length o.world.accounts)
          (λ e. subst (λ z. names z < length o.world.accounts) (sym e) (shows.objects t live_here))
          (λ e. subst (λ z. names z < length o.world.accounts) (sym e) (shows.objects u live_there))
          (shows.objects w) live;
      entry = λ x. subst (λ h. HoldsSo names h (argument o.entry x)) (sym (at_entry x))
          (holds_renamed names names g (get_or s.shape.entry x Unset) (argument o.entry x) (λ w e. renames w)
          (shows.entry x));
      entry_alive = λ x e. shows.entry_alive x (dead_before g (get_or s.shape.entry x Unset) (sym (at_entry x) ∙ e));
      entry_count = length-map s.shape.entry (rename_holding g) ∙ shows.entry_count;
      entry_numbers = λ x e. shows.entry_numbers x (sym (number_renamed g (get_or s.shape.entry x Unset))
          ∙ ap is_number (sym (at_entry x)) ∙ e);
      balances = λ k. shows.balances k ∙ sym (ap (λ z. total names
          (Merged s.balances t u (plus z (balance_at s u))) v k)
          form_t ∙ ap (λ z. total names (Merged s.balances t u (plus live_here.0 z)) v k) form_u
          ∙ merged_total names v s.balances t u k live_here.0 live_there.0 ne live_here.1 live_there.1
          (width_t ∙ sym width_u) (is_in_range s.balances t live_here) (is_in_range s.balances u live_there) same);
      marks = subst (λ ps. Marks names (Merged s.balances t u f) (slice_set s.shape.made t
          (is_made s.shape t || is_made s.shape u)) ps o.world o.fields) (sym (spots_of_renamed g s.shape.slots))
          (marks_merged names s.balances s.shape.made (map spot_in s.shape.slots) o.world o.fields t u f shows.marks
          live_here live_there same (let lt = is_in_range s.balances t live_here in let count = is.balances in
          omega (arith, lt, count)));
    }
