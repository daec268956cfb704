-- A scene over the coordinates of its shape shows the same over more of them.
--   AreSame w v z           two vectors agree below w
use Rattle.std.proofs.Common.{◌≡◌, ℕ, zero, suc, ◌+◌, ◌<◌, ◌≤◌, ℤ, pos, List, [], ◌∷◌, length, map, get_or, take}
use Rattle.std.proofs.Common.{true, refl, sym, ap, ◌∙◌, arith, cond, Some, None}
use Rattle.std.specs.Prelude.{◌==◌}
use Rattle.std.specs.List.{All, range_with_len}
use Rattle.std.proofs.lemmas.Int.{ints}
use Rattle.std.proofs.lemmas.List.Elements.{All-map, All-weaker}
use Rattle.std.proofs.lemmas.List.FromFn.{length-map-range_with_len, get_or-map-range_with_len}
use Rattle.pungi_base.specs.declared.value.Value.TheVariants as value
use Rattle.pungi_domain.specs.Vectors.{Vector, dot}
use Rattle.pungi_world.specs.declared.content.Content.TheVariants as content
use Rattle.pungi_shape.specs.declared.holding.Holding.{Holding}
use Rattle.pungi_shape.specs.declared.holding.Holding.TheVariants.{Dead, Unset, Null, Text, Known, Number, Token}
use Rattle.pungi_shape.specs.declared.shape.Shape.{Shape}
use Rattle.pungi_shape.specs.Forms.{unit, zero_form, one_if}
use Rattle.pungi_shape.specs.Shapes.{is_number, holding_of_static, count_of_numbers, width_of}
use Rattle.pungi_shape.specs.Scenes.{scene_of, scene_over, number_forms, token_forms}
use Rattle.pungi_shape.specs.Scenes.{after_vars, after_returned, after_entry}
use Rattle.pungi_shape.specs.Described.{Naming}
use Rattle.pungi_shape.proofs.sound.Views.{View}
use Rattle.pungi_shape.proofs.sound.Shows.{IsScene, Shows, HasWidthIf, IsLive, IsLiveIn, held_in, spot_in, total_from}
use Rattle.pungi_shape.proofs.sound.FormValues.{dot_unit, length_unit}
use Rattle.pungi_shape.proofs.sound.Coordinates.{count_cons, length_forms, widths_forms, number_form_width}
use Rattle.pungi_shape.proofs.sound.SceneBalances.{is_in_range}
use Rattle.pungi_shape.proofs.sound.Marks.{marks_live}
use Rattle.pungi_shape.proofs.sound.Vectors.{form_of_number, fewer_than_all}

abbrev pub AreSame : ℕ → Vector → Vector → Type 0
AreSame w v z = (i : ℕ) → i < w → z i ≡ v i

-- ---- tokens

pub live_over : (w x a b n t : ℕ) → IsLive (token_forms w a n) t → IsLive (token_forms x b n) t
live_over w x a b n t live =
    let lt = is_in_range (token_forms w a n) t live in
    let long = length-map-range_with_len (λ i. Some (unit w i)) a n in
    (unit x (b + t), get_or-map-range_with_len (λ i. Some (unit x i)) b n t (b + t) None (omega (arith, lt, long)) refl)

live_in_over : (w x a b n : ℕ) (h : Holding) → IsLiveIn (token_forms w a n) h → IsLiveIn (token_forms x b n) h
live_in_over w x a b n Dead live = tt
live_in_over w x a b n Unset live = tt
live_in_over w x a b n Null live = tt
live_in_over w x a b n Text live = tt
live_in_over w x a b n (Known m) live = tt
live_in_over w x a b n Number live = tt
live_in_over w x a b n (Token t) live = live_over w x a b n t live

pub wider_scene : (ks : List ℕ) (n : ℕ) (s : Shape) (x : ℕ) → width_of s ≤ x → IsScene ks n (scene_of s)
    → IsScene ks n (scene_over x s)
wider_scene ks n s x le is =
    let w = width_of s in
    let a = after_entry s in
    let m = length s.made in
    let kept = λ (hs : List Holding) (all : All (IsLiveIn (token_forms w a m)) hs). All-weaker
    (IsLiveIn (token_forms w a m)) (IsLiveIn (token_forms x a m)) (λ h l. live_in_over w x a a m h l) hs all in
    record {
      wide = let l = is.wide in omega (arith, l, le);
      vars = is.vars;
      forms = length_forms x 1 s.vars;
      widths = widths_forms x 1 s.vars;
      returned_width = number_form_width x (after_vars s) s.returned;
      entry_forms = length_forms x (after_returned s) s.entry;
      entry_widths = widths_forms x (after_returned s) s.entry;
      balances = length-map-range_with_len (λ i. Some (unit x i)) a m;
      balance_widths = All-map (HasWidthIf x) (λ i. Some (unit x i)) (range_with_len a m) (λ i d lt. length_unit x _);
      entry_live = kept s.entry is.entry_live;
      vars_live = kept s.vars is.vars_live;
      statics_live = kept (map holding_of_static s.statics) is.statics_live;
      returned_live = live_in_over w x a a m s.returned is.returned_live;
      slots_live = kept (map held_in s.slots) is.slots_live;
      bases = is.bases;
      no_numbers = is.no_numbers;
      static_keys = is.static_keys;
      static_tokens = is.static_tokens;
    }

-- ---- what its forms are worth

-- the form of a number among several
pub number_among : (w k : ℕ) (hs : List Holding) (x : ℕ) → is_number (get_or hs x Unset) ≡ true
    → get_or (number_forms w k hs) x [] ≡ unit w (k + count_of_numbers (take x hs))
number_among w k [] x e = absurd (grind (arith, e))
number_among w k (h ∷ hs) zero e = ap (λ b. cond b (unit w k) (zero_form w)) e ∙ ap (unit w) (omega arith)
number_among w k (h ∷ hs) (suc x) e =
    let c = count_cons h (take x hs) in
    number_among w (k + one_if (is_number h)) hs x e ∙ ap (unit w) (omega (arith, c))

unit_wider : (w x i : ℕ) (v z : Vector) → AreSame w v z → w ≤ x → i < w → dot (unit w i) v ≡ dot (unit x i) z
unit_wider w x i v z same le lt =
    dot_unit w i v lt ∙ sym (same i lt) ∙ sym (dot_unit x i z (omega (arith, lt, le)))

total_wider : (names : Naming) (v z : Vector) (k w x t a n : ℕ) → AreSame w v z → w ≤ x → a + n ≤ w
    → total_from t names (token_forms w a n) v k ≡ total_from t names (token_forms x a n) z k
total_wider names v z k w x t a zero same le fits = refl
total_wider names v z k w x t a (suc n) same le fits =
    let here : cond (names t == k) (dot (unit w a) v) (pos 0) ≡ cond (names t == k) (dot (unit x a) z) (pos 0) =
    ap (λ y. cond (names t == k) y (pos 0)) (unit_wider w x a v z same le (omega (arith, fits)))
    in
    let rest = total_wider names v z k w x (suc t) (a + 1) n same le (omega (arith, fits)) in
    omega (arith, ints, here, rest)

pub wider_shows : (ks : List ℕ) (n : ℕ) (names : Naming) (v z : Vector) (s : Shape) (o : View) (x : ℕ)
    → IsScene ks n (scene_of s) → after_entry s + length s.made ≤ width_of s → width_of s ≤ x
    → AreSame (width_of s) v z → Shows names v None (scene_of s) o → Shows names z None (scene_over x s) o
wider_shows ks n names v z s o x is fits le same shows =
    let w = width_of s in
    let a = after_entry s in
    let m = length s.made in
    record {
      leading = same 0 is.wide ∙ shows.leading;
      vars = shows.vars;
      numbers = λ y e other.
          let many = fewer_than_all s.vars y e in
          let i = 1 + count_of_numbers (take y s.vars) in
          shows.numbers y e other ∙ ap (λ (f : ℤ). content.Holds (value.Int f))
          (ap (λ f. dot f v) (form_of_number w 1 s.vars y e)
          ∙ unit_wider w x i v z same le (omega (arith, many, fits))
          ∙ ap (λ f. dot f z) (sym (form_of_number x 1 s.vars y e)));
      returned = shows.returned;
      returned_number = λ e.
          let one : one_if (is_number s.returned) ≡ 1 = ap one_if e in
          shows.returned_number e ∙ ap (λ (f : ℤ). content.Holds (value.Int f))
          (ap (λ b. dot (cond b (unit w (after_vars s)) (zero_form w)) v) e
          ∙ unit_wider w x (after_vars s) v z same le (omega (arith, one, fits))
          ∙ ap (λ b. dot (cond b (unit x (after_vars s)) (zero_form x)) z) (sym e));
      statics = shows.statics;
      slots = shows.slots;
      apart = shows.apart;
      objects = λ t live. shows.objects t (live_over x w a a m t live);
      entry = shows.entry;
      entry_alive = shows.entry_alive;
      entry_count = shows.entry_count;
      entry_numbers = λ y e.
          let many = fewer_than_all s.entry y e in
          let b = after_returned s in
          let i = b + count_of_numbers (take y s.entry) in
          shows.entry_numbers y e ∙ ap (λ (f : ℤ). content.Holds (value.Int f))
          (ap (λ f. dot f v) (number_among w b s.entry y e)
          ∙ unit_wider w x i v z same le (omega (arith, many, fits))
          ∙ ap (λ f. dot f z) (sym (number_among x b s.entry y e)));
      balances = λ k. shows.balances k ∙ total_wider names v z k w x 0 a m same le fits;
      marks = marks_live names (token_forms w a m) (token_forms x a m) s.made (map spot_in s.slots) o.world o.fields
          (λ t live. live_over x w a a m t live) shows.marks;
    }
