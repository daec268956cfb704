-- Worlds, debts, balances and tokens that change.
use Rattle.std.proofs.Common.{◌≡◌, ◌≢◌, ℕ, zero, suc, ◌<◌, ◌≤◌, ℤ, pos, ◌+ℤ◌, List, [], ◌∷◌, ◌++◌}
use Rattle.std.proofs.Common.{length, map, get_or, Bool, true, refl, sym, ap, ◌∙◌, subst, arith, inl, inr, cond}
use Rattle.std.proofs.Common.{length-append}
use Rattle.std.specs.Prelude.{slice_set, ◌==◌, Option, Some, None}
use Rattle.std.specs.List.{All, IsAmong}
use Rattle.pungi_base.specs.declared.names.Name.{Name}
use Rattle.std.proofs.lemmas.Int.{ints}
use Rattle.std.proofs.lemmas.Bool.{cases_eq}
use Rattle.std.proofs.lemmas.Bool.Decides.{eqb_tells}
use Rattle.std.proofs.lemmas.List.{get_or-set_same, get_or-set_other, length-set, get_or_append_left}
use Rattle.std.proofs.lemmas.List.{get_or_push}
use Rattle.std.proofs.lemmas.List.Elements.{All-set, All-get_or, All-weaker, All-push}
use Rattle.pungi_base.specs.declared.value.Value.{Value}
use Rattle.pungi_base.specs.declared.value.Value.TheVariants as value
use Rattle.pungi_domain.specs.Vectors.{Vector, dot}
use Rattle.pungi_world.specs.declared.content.Content.{Content}
use Rattle.pungi_world.specs.declared.content.Content.TheVariants as content
use Rattle.pungi_world.specs.Escapes.{is_this_object}
use Rattle.pungi_shape.specs.declared.holding.Holding.{Holding}
use Rattle.pungi_shape.specs.declared.holding.Holding.TheVariants.{Dead, Unset, Null, Text, Known, Number, Token}
use Rattle.pungi_shape.specs.declared.tracked.Spot.{Spot}
use Rattle.pungi_shape.specs.declared.tracked.Spot.TheVariants.{Global, Field}
use Rattle.pungi_shape.specs.Forms.{Form, plus, constant}
use Rattle.pungi_shape.specs.Shapes.{holding_of_static}
use Rattle.pungi_shape.specs.Scenes.{Scene, holding_at, balance_at, form_or, add_form, add_to_holding, with_token}
use Rattle.pungi_shape.specs.Scenes.{new_token}
use Rattle.pungi_shape.specs.Described.{Naming, HoldsSo}
use Rattle.pungi_shape.proofs.sound.Views.{View}
use Rattle.pungi_shape.proofs.sound.Shows.{IsScene, Shows, HasWidthIf, IsLive, IsLiveIn, IsBaseIn, AreApart}
use Rattle.pungi_shape.proofs.sound.Shows.{total, spot_in, held_in}
use Rattle.pungi_shape.proofs.sound.FormValues.{length_constant, length_plus, dot_constant}
use Rattle.pungi_shape.proofs.sound.Renames.{All_of_map, SameBase, holds_named, tracked_other}
use Rattle.pungi_shape.proofs.sound.Renames.{slot_other}
use Rattle.pungi_shape.proofs.sound.Totals.{total_push, total_named, grown}
use Rattle.pungi_shape.proofs.sound.Marks.{IsNewest, marks_live, marks_named, marks_token}
use Rattle.pungi_shape.proofs.sound.Members.{of_all}
use Rattle.pungi_shape.proofs.sound.SceneVars.{get_live}
use Rattle.pungi_shape.proofs.sound.SceneWords.{with_debts, counted, named}

-- ---- worlds and debts

abbrev value_in : Content → Value
value_in content.Unset = value.Null
value_in (content.Holds x) = x

pub one_value : (x y : Value) → content.Holds x ≡ content.Holds y → x ≡ y
one_value x y e = ap value_in e

pub set_is_unset : (x : Value) → content.Holds x ≡ content.Unset → ⊥
set_is_unset x e = absurd (grind (arith, e))

pub counted_value : (names : Naming) (h : Holding) (x : Value) (n : ℤ) (k : ℕ) → h ≢ Dead
    → HoldsSo names h (content.Holds x) → counted names h n k ≡ cond (is_this_object x k) n (pos 0)
counted_value names Dead x n k ne is = absurd (ne refl)
counted_value names Unset x n k ne is = absurd (set_is_unset x is)
counted_value names Null x n k ne is =
    ap (λ z. cond (is_this_object z k) n (pos 0)) (sym (one_value x value.Null is))
counted_value names Text x n k ne is =
    ap (λ z. cond (is_this_object z k) n (pos 0)) (sym (one_value x value.Text is))
counted_value names (Known m) x n k ne is =
    ap (λ z. cond (is_this_object z k) n (pos 0)) (sym (one_value x (value.Int m) is))
counted_value names Number x n k ne is =
    ap (λ z. cond (is_this_object z k) n (pos 0)) (sym (one_value x (value.Int is.0) is.1))
counted_value names (Token t) x n k ne is =
    ap (λ z. cond (is_this_object z k) n (pos 0)) (sym (one_value x (value.Object (names t)) is))

pub debts_show : (names : Naming) (v : Vector) (free : Option ℕ) (s : Scene) (o : View) (d : ℕ → ℤ)
    → Shows names v free s o → ((k : ℕ) → d k ≡ o.debts k) → Shows names v free s (with_debts d o)
debts_show names v free s o d shows same = record {
  leading = shows.leading;
  vars = shows.vars;
  numbers = shows.numbers;
  returned = shows.returned;
  returned_number = shows.returned_number;
  statics = shows.statics;
  slots = shows.slots;
  apart = shows.apart;
  objects = shows.objects;
  entry = shows.entry;
  entry_alive = shows.entry_alive;
  entry_count = shows.entry_count;
  entry_numbers = shows.entry_numbers;
  balances = λ k. same k ∙ shows.balances k;
  marks = shows.marks;
}

-- ---- balances

live_in_range : (bs : List (Option Form)) (t : ℕ) (f : Form) → get_or bs t None ≡ Some f → t < length bs
live_in_range [] t f e = absurd (grind (arith, e))
live_in_range (b ∷ bs) zero f e = omega arith
live_in_range (b ∷ bs) (suc t) f e = let h = live_in_range bs t f e in omega (arith, h)

pub is_in_range : (bs : List (Option Form)) (t : ℕ) → IsLive bs t → t < length bs
is_in_range bs t live = live_in_range bs t live.0 live.1

-- a live balance is replaced by another
pub live_set : (bs : List (Option Form)) (t : ℕ) (f : Form) (u : ℕ) → t < length bs → IsLive bs u
    → IsLive (slice_set bs t (Some f)) u
live_set bs t f u lt live = elim (cases_eq u t) [
  | inl e ↦ (f, ap (λ z. get_or (slice_set bs t (Some f)) z None) e ∙ get_or-set_same bs t (Some f) None lt)
  | inr ne ↦ (live.0, get_or-set_other bs t u (Some f) None ne ∙ live.1)
]

pub live_in_set : (bs : List (Option Form)) (t : ℕ) (f : Form) (h : Holding) → t < length bs → IsLiveIn bs h
    → IsLiveIn (slice_set bs t (Some f)) h
live_in_set bs t f Dead lt live = tt
live_in_set bs t f Unset lt live = tt
live_in_set bs t f Null lt live = tt
live_in_set bs t f Text lt live = tt
live_in_set bs t f (Known n) lt live = tt
live_in_set bs t f Number lt live = tt
live_in_set bs t f (Token u) lt live = live_set bs t f u lt live

live_before : (bs : List (Option Form)) (t : ℕ) (f : Form) (u : ℕ) → IsLive bs t → IsLive (slice_set bs t (Some f)) u
    → IsLive bs u
live_before bs t f u live now = elim (cases_eq u t) [
  | inl e ↦ subst (IsLive bs) (sym e) live
  | inr ne ↦ (now.0, sym (get_or-set_other bs t u (Some f) None ne) ∙ now.1)
]

pub form_live : (w : ℕ) (bs : List (Option Form)) (t : ℕ) (f : Form) → get_or bs t None ≡ Some f
    → form_or w (get_or bs t None) ≡ f
form_live w bs t f e = ap (form_or w) e

pub width_live : (w : ℕ) (bs : List (Option Form)) (t : ℕ) (f : Form) → All (HasWidthIf w) bs
    → get_or bs t None ≡ Some f → length f ≡ w
width_live w bs t f all e =
    subst (HasWidthIf w) e (All-get_or (HasWidthIf w) bs t None (live_in_range bs t f e) all)

pub add_form_scene : (ks : List ℕ) (n : ℕ) (s : Scene) (t : ℕ) (f : Form) → IsScene ks n s → IsLive s.balances t
    → length f ≡ s.width → IsScene ks n (add_form t f s)
add_form_scene ks n s t f is live wide =
    let now = plus (balance_at s t) f in
    let lt = is_in_range s.balances t live in
    let is_form = form_live s.width s.balances t live.0 live.1 in
    let width = width_live s.width s.balances t live.0 is.balance_widths live.1 in
    let wide_now : length now ≡ s.width = length_plus (balance_at s t) f
    (ap length is_form ∙ width ∙ sym wide) ∙ ap length is_form ∙ width in
    let kept = λ (hs : List Holding) (all : All (IsLiveIn s.balances) hs). All-weaker (IsLiveIn s.balances)
    (IsLiveIn (slice_set s.balances t (Some now))) (λ h l. live_in_set s.balances t now h lt l) hs all in
    record {
      wide = is.wide;
      vars = is.vars;
      forms = is.forms;
      widths = is.widths;
      returned_width = is.returned_width;
      entry_forms = is.entry_forms;
      entry_widths = is.entry_widths;
      balances = length-set s.balances t (Some now) ∙ is.balances;
      balance_widths = All-set (HasWidthIf s.width) s.balances t (Some now) wide_now is.balance_widths;
      entry_live = kept s.shape.entry is.entry_live;
      vars_live = kept s.shape.vars is.vars_live;
      statics_live = kept (map holding_of_static s.shape.statics) is.statics_live;
      returned_live = live_in_set s.balances t now s.shape.returned lt is.returned_live;
      slots_live = kept (map held_in s.shape.slots) is.slots_live;
      bases = is.bases;
      no_numbers = is.no_numbers;
      static_keys = is.static_keys;
      static_tokens = is.static_tokens;
    }

pub add_scene : (ks : List ℕ) (n : ℕ) (s : Scene) (h : Holding) (by : ℤ) → IsScene ks n s → IsLiveIn s.balances h
    → IsScene ks n (add_to_holding h by s)
add_scene ks n s Dead by is live = is
add_scene ks n s Unset by is live = is
add_scene ks n s Null by is live = is
add_scene ks n s Text by is live = is
add_scene ks n s (Known m) by is live = is
add_scene ks n s Number by is live = is
add_scene ks n s (Token t) by is live =
    add_form_scene ks n s t (constant s.width by) is live (length_constant s.width by)

pub add_form_shows : (ks : List ℕ) (n : ℕ) (names : Naming) (v : Vector) (free : Option ℕ) (s : Scene) (o : View)
    (d : ℕ → ℤ) (t : ℕ) (f : Form) → IsScene ks n s → Shows names v free s o → IsLive s.balances t
    → length f ≡ s.width → ((k : ℕ) → d k ≡ o.debts k +ℤ cond (names t == k) (dot f v) (pos 0))
    → Shows names v free (add_form t f s) (with_debts d o)
add_form_shows ks n names v free s o d t f is shows live wide debts =
    let lt = is_in_range s.balances t live in
    let is_form = form_live s.width s.balances t live.0 live.1 in
    let width = width_live s.width s.balances t live.0 is.balance_widths live.1 in
    let sum = λ (k : ℕ). ap (λ g. total names (slice_set s.balances t (Some (plus g f))) v k) is_form
    ∙ grown names s.balances v k t live.0 f lt live.1 (width ∙ sym wide) in
    record {
      leading = shows.leading;
      vars = shows.vars;
      numbers = shows.numbers;
      returned = shows.returned;
      returned_number = shows.returned_number;
      statics = shows.statics;
      slots = shows.slots;
      apart = shows.apart;
      objects = λ u now. shows.objects u (live_before s.balances t (plus (balance_at s t) f) u live now);
      entry = shows.entry;
      entry_alive = shows.entry_alive;
      entry_count = shows.entry_count;
      entry_numbers = shows.entry_numbers;
      balances = λ k. debts k ∙ ap (λ z. z +ℤ cond (names t == k) (dot f v) (pos 0)) (shows.balances k) ∙ sym (sum k);
      marks = marks_live names s.balances (slice_set s.balances t (Some (plus (balance_at s t) f))) s.shape.made
          (map spot_in s.shape.slots) o.world o.fields
          (λ u now. live_before s.balances t (plus (balance_at s t) f) u live now) shows.marks;
    }

pub add_shows : (ks : List ℕ) (n : ℕ) (names : Naming) (v : Vector) (free : Option ℕ) (s : Scene) (o : View)
    (d : ℕ → ℤ) (h : Holding) (by : ℤ) → IsScene ks n s → Shows names v free s o → IsLiveIn s.balances h
    → ((k : ℕ) → d k ≡ o.debts k +ℤ counted names h by k)
    → Shows names v free (add_to_holding h by s) (with_debts d o)
add_shows ks n names v free s o d (Token t) by is shows live debts =
    let number = dot_constant s.width by v is.wide shows.leading in
    add_form_shows ks n names v free s o d t (constant s.width by) is shows live (length_constant s.width by)
    (λ k. debts k ∙ ap (λ z. o.debts k +ℤ cond (names t == k) z (pos 0)) (sym number))
add_shows ks n names v free s o d Dead by is shows live debts =
    debts_show names v free s o d shows (λ k. let e = debts k in omega (arith, ints, e))
add_shows ks n names v free s o d Unset by is shows live debts =
    debts_show names v free s o d shows (λ k. let e = debts k in omega (arith, ints, e))
add_shows ks n names v free s o d Null by is shows live debts =
    debts_show names v free s o d shows (λ k. let e = debts k in omega (arith, ints, e))
add_shows ks n names v free s o d Text by is shows live debts =
    debts_show names v free s o d shows (λ k. let e = debts k in omega (arith, ints, e))
add_shows ks n names v free s o d (Known m) by is shows live debts =
    debts_show names v free s o d shows (λ k. let e = debts k in omega (arith, ints, e))
add_shows ks n names v free s o d Number by is shows live debts =
    debts_show names v free s o d shows (λ k. let e = debts k in omega (arith, ints, e))

-- ---- tokens

live_more : (bs : List (Option Form)) (b : Option Form) (t : ℕ) → IsLive bs t → IsLive (bs ++ b ∷ []) t
live_more bs b t live =
    (live.0, get_or_append_left bs (b ∷ []) None t (is_in_range bs t live) ∙ live.1)

live_in_more : (bs : List (Option Form)) (b : Option Form) (h : Holding) → IsLiveIn bs h → IsLiveIn (bs ++ b ∷ []) h
live_in_more bs b Dead live = tt
live_in_more bs b Unset live = tt
live_in_more bs b Null live = tt
live_in_more bs b Text live = tt
live_in_more bs b (Known n) live = tt
live_in_more bs b Number live = tt
live_in_more bs b (Token t) live = live_more bs b t live

base_more : (n m : ℕ) → n ≤ m → (p : Spot) → IsBaseIn n p → IsBaseIn m p
base_more n m le (Global g) is = tt
base_more n m le (Field b tag field) is = omega (arith, le, is)

pub with_token_scene : (ks : List ℕ) (n : ℕ) (s : Scene) (f : Form) (made : Bool) → IsScene ks n s
    → length f ≡ s.width → IsScene ks n (with_token f made s)
with_token_scene ks n s f made is wide =
    let kept = λ (hs : List Holding) (all : All (IsLiveIn s.balances) hs). All-weaker (IsLiveIn s.balances)
    (IsLiveIn (s.balances ++ Some f ∷ [])) (λ h l. live_in_more s.balances (Some f) h l) hs all in
    let p = length-append s.shape.made (made ∷ []) in
    let q = length-append s.balances (Some f ∷ []) in
    let e = is.balances in
    record {
      wide = is.wide;
      vars = is.vars;
      forms = is.forms;
      widths = is.widths;
      returned_width = is.returned_width;
      entry_forms = is.entry_forms;
      entry_widths = is.entry_widths;
      balances = omega (arith, p, q, e);
      balance_widths = All-push (HasWidthIf s.width) s.balances (Some f) is.balance_widths wide;
      entry_live = kept s.shape.entry is.entry_live;
      vars_live = kept s.shape.vars is.vars_live;
      statics_live = kept (map holding_of_static s.shape.statics) is.statics_live;
      returned_live = live_in_more s.balances (Some f) s.shape.returned is.returned_live;
      slots_live = kept (map held_in s.shape.slots) is.slots_live;
      bases = All-weaker (IsBaseIn (length s.shape.made)) (IsBaseIn (length (s.shape.made ++ made ∷ [])))
          (base_more (length s.shape.made) (length (s.shape.made ++ made ∷ [])) (omega (arith, p)))
          (map spot_in s.shape.slots) is.bases;
      no_numbers = is.no_numbers;
      static_keys = is.static_keys;
      static_tokens = is.static_tokens;
    }

pub new_token_live : (ks : List ℕ) (n : ℕ) (s : Scene) (f : Form) (made : Bool) → IsScene ks n s
    → IsLive (with_token f made s).balances (new_token s)
new_token_live ks n s f made is = (f, get_or_push s.balances (Some f) None (length s.shape.made) is.balances)

-- tokens that are there stand for the same objects
abbrev Agree : ℕ → Naming → Naming → Type 0
Agree n names other = (t : ℕ) → t < n → other t ≡ names t

held_agree : (bs : List (Option Form)) (names other : Naming) (h : Holding) (c : Content)
    → Agree (length bs) names other
    → IsLiveIn bs h → HoldsSo names h c → HoldsSo other h c
held_agree bs names other h c agree live is = holds_named names other h c (λ t e. agree t
    (is_in_range bs t (subst (IsLiveIn bs) e live))) is

base_agree : (n : ℕ) (names other : Naming) (p : Spot) → Agree n names other → IsBaseIn n p
    → SameBase names other (λ t. t) p
base_agree n names other (Global m) agree is = tt
base_agree n names other (Field b tag field) agree is = agree b is

apart_agree : (n : ℕ) (names other : Naming) (p q : Spot) → Agree n names other → IsBaseIn n p → IsBaseIn n q
    → AreApart names p q → AreApart other p q
apart_agree n names other p q agree in_p in_q apart e =
    apart (sym (slot_other names other p (base_agree n names other p agree in_p)) ∙ e
    ∙ slot_other names other q (base_agree n names other q agree in_q))

names_show : (ks : List ℕ) (n : ℕ) (names other : Naming) (v : Vector) (free : Option ℕ) (s : Scene) (o : View)
    → IsScene ks n s → Shows names v free s o → Agree (length s.shape.made) names other → Shows other v free s o
names_show ks n names other v free s o is shows agree =
    let alike : Agree (length s.balances) names other = λ t lt. agree t (let e = is.balances in omega (arith, e, lt)) in
    let statics = All_of_map (IsLiveIn s.balances) holding_of_static s.shape.statics is.statics_live in
    let helds = All_of_map (IsLiveIn s.balances) held_in s.shape.slots is.slots_live in
    let bases = All_of_map (IsBaseIn (length s.shape.made)) spot_in s.shape.slots is.bases in
    record {
      leading = shows.leading;
      vars = λ x. held_agree s.balances names other (holding_at s x) _ alike
          (get_live s.balances s.shape.vars x is.vars_live) (shows.vars x);
      numbers = shows.numbers;
      returned = held_agree s.balances names other s.shape.returned o.returned alike is.returned_live shows.returned;
      returned_number = shows.returned_number;
      statics = λ k d lt. held_agree s.balances names other _ _ alike (statics k d lt) (shows.statics k d lt);
      slots = λ k d lt. tracked_other names other o.world (get_or s.shape.slots k d)
          (base_agree (length s.shape.made) names other _ agree (bases k d lt))
          (λ t e. alike t (is_in_range s.balances t (subst (IsLiveIn s.balances) e (helds k d lt))))
          (shows.slots k d lt);
      apart = λ i j d lt in_j. apart_agree (length s.shape.made) names other _ _ agree
          (is.bases i d (omega (arith, lt, in_j))) (is.bases j d in_j) (shows.apart i j d lt in_j);
      objects = λ t live. subst (λ z. z < length o.world.accounts) (sym (alike t (is_in_range s.balances t live)))
          (shows.objects t live);
      entry = λ x. held_agree s.balances names other (get_or s.shape.entry x Unset) _ alike
          (get_live s.balances s.shape.entry x is.entry_live) (shows.entry x);
      entry_alive = shows.entry_alive;
      entry_count = shows.entry_count;
      entry_numbers = shows.entry_numbers;
      balances = λ k. shows.balances k ∙ sym (total_named names other s.balances v k alike);
      marks = marks_named names other s.balances s.shape.made (map spot_in s.shape.slots) o.world o.fields
          (λ t live. alike t (is_in_range s.balances t live))
          (λ u tag field there. agree u (of_all (IsBaseIn (length s.shape.made)) (map spot_in s.shape.slots)
          (Field u tag field) is.bases there)) shows.marks;
    }

pub named_others : (names : Naming) (n k : ℕ) → Agree n names (named names n k)
named_others names n k t lt = elim (eqb_tells t n) [
  | inl e ↦ absurd (let z = e.1 in omega (arith, z, lt))
  | inr e ↦ ap (λ b. cond b k (names t)) e.0
]

pub named_new : (names : Naming) (n k : ℕ) → named names n k n ≡ k
named_new names n k = elim (eqb_tells n n) [
  | inl e ↦ ap (λ b. cond b k (names n)) e.0
  | inr e ↦ absurd (e.1 refl)
]

live_or_new : (bs : List (Option Form)) (b : Option Form) (t : ℕ) → t ≢ length bs → IsLive (bs ++ b ∷ []) t
    → IsLive bs t
live_or_new bs b t ne live =
    let n = length-append bs (b ∷ []) in
    let lt = is_in_range (bs ++ b ∷ []) t live in
    (live.0, sym (get_or_append_left bs (b ∷ []) None t (omega (arith, n, lt, ne))) ∙ live.1)

pub with_token_shows : (ks : List ℕ) (n : ℕ) (names : Naming) (v : Vector) (free : Option ℕ) (s : Scene) (o : View)
    (d : ℕ → ℤ) (f : Form) (made : Bool) (object : ℕ) → IsScene ks n s → Shows names v free s o
    → length f ≡ s.width → object < length o.world.accounts
    → ((k : ℕ) → d k ≡ o.debts k +ℤ cond (object == k) (dot f v) (pos 0))
    → (made ≡ true → IsNewest names s.balances (map spot_in s.shape.slots) o.world object)
    → Shows (named names (new_token s) object) v free (with_token f made s) (with_debts d o)
with_token_shows ks n names v free s o d f made object is shows wide there debts newest =
    let m = new_token s in
    let after = named names m object in
    let as_before = names_show ks n names after v free s o is shows (named_others names m object) in
    let count : length s.balances ≡ m = is.balances in
    let new : after (length s.balances) ≡ object = ap after count ∙ named_new names m object in
    record {
      leading = as_before.leading;
      vars = as_before.vars;
      numbers = as_before.numbers;
      returned = as_before.returned;
      returned_number = as_before.returned_number;
      statics = as_before.statics;
      slots = as_before.slots;
      apart = as_before.apart;
      objects = λ t live. elim (cases_eq t (length s.balances)) [
        | inl e ↦ subst (λ z. z < length o.world.accounts) (sym (ap after e ∙ new)) there
        | inr ne ↦ as_before.objects t (live_or_new s.balances (Some f) t ne live)
      ];
      entry = as_before.entry;
      entry_alive = as_before.entry_alive;
      entry_count = as_before.entry_count;
      entry_numbers = as_before.entry_numbers;
      balances = λ k. debts k ∙ ap (λ z. z +ℤ cond (object == k) (dot f v) (pos 0)) (as_before.balances k)
          ∙ ap (λ z. total after s.balances v k +ℤ cond (z == k) (dot f v) (pos 0)) (sym new)
          ∙ sym (total_push after s.balances v k (Some f));
      marks = marks_token after s.balances s.shape.made (map spot_in s.shape.slots) o.world o.fields f made object
          as_before.marks is.balances base_below (named_new names m object) newest_after;
    }
  where
    after_is : (t : ℕ) → t < length s.shape.made → named names (new_token s) object t ≡ names t
    after_is t lt = named_others names (new_token s) object t lt

    base_below : (u : ℕ) (tag field : Name) → IsAmong (map spot_in s.shape.slots) (Field u tag field)
        → u < length s.shape.made
    base_below u tag field there = of_all (IsBaseIn (length s.shape.made)) (map spot_in s.shape.slots)
        (Field u tag field) is.bases there

    newest_after : made ≡ true
        → IsNewest (named names (new_token s) object) s.balances (map spot_in s.shape.slots) o.world object
    newest_after e =
        let h = newest e in
        record {
          marked = h.marked;
          others = λ t live same. h.others t live (sym (after_is t (let lt = is_in_range s.balances t live in
              let count = is.balances in omega (arith, lt, count))) ∙ same);
          bases = λ u tag field at same. h.bases u tag field at (sym (after_is u (base_below u tag field at)) ∙ same);
          untouched = h.untouched;
        }
