-- What is shown at vectors that agree, and where a variable gets any number.
use Rattle.std.proofs.Common.{◌≡◌, ◌≢◌, ℕ, zero, suc, ◌+◌, ◌<◌, ◌≤◌, ℤ, pos, List, [], ◌∷◌, length}
use Rattle.std.proofs.Common.{get_or, take, true, false, refl, sym, ap, ◌∙◌, subst, arith, inl, inr, cond}
use Rattle.std.specs.Prelude.{◌==◌, ◌⊎◌, Option, Some, None}
use Rattle.std.specs.List.{All}
use Rattle.std.proofs.lemmas.Int.{ints}
use Rattle.std.proofs.lemmas.Bool.{cases_eq}
use Rattle.std.proofs.lemmas.Bool.Decides.{eqb_tells}
use Rattle.std.proofs.lemmas.List.{get_or_default, get_or_past}
use Rattle.std.proofs.lemmas.List.Elements.{All-head, All-tail}
use Rattle.std.proofs.lemmas.List.FromFn.{get_or-map-range_with_len, length-map-range_with_len}
use Rattle.pungi_base.specs.declared.value.Value.TheVariants as value
use Rattle.pungi_domain.specs.Vectors.{Vector, dot}
use Rattle.pungi_world.specs.declared.content.Content.{Content}
use Rattle.pungi_world.specs.declared.content.Content.TheVariants as content
use Rattle.pungi_meaning.specs.Work.{content_at}
use Rattle.pungi_code.specs.declared.code.Code.{Code}
use Rattle.pungi_shape.specs.declared.holding.Holding.{Holding}
use Rattle.pungi_shape.specs.declared.holding.Holding.TheVariants.{Dead, Unset, Null, Text, Known, Number, Token}
use Rattle.pungi_shape.specs.declared.point.Point.{Point}
use Rattle.pungi_shape.specs.declared.shape.Shape.{Shape}
use Rattle.pungi_shape.specs.Forms.{Form, unit, zero_form, one_if}
use Rattle.pungi_shape.specs.Shapes.{is_number, count_of_numbers, width_of}
use Rattle.pungi_shape.specs.Liveness.{is_holder}
use Rattle.pungi_shape.specs.Scenes.{Scene, scene_of, holding_at, form_at, number_forms, after_entry, token_forms}
use Rattle.pungi_shape.specs.Scenes.{after_vars, after_returned, number_form}
use Rattle.pungi_shape.specs.Edges.{coordinate_of}
use Rattle.pungi_shape.specs.Described.{Naming, HoldsSo}
use Rattle.pungi_shape.proofs.sound.Views.{View}
use Rattle.pungi_shape.proofs.sound.Shows.{IsScene, Shows, HasWidth, HasWidthIf, share, total_from}
use Rattle.pungi_shape.proofs.sound.FormValues.{dot_same, dot_unit}
use Rattle.pungi_shape.proofs.sound.SceneVars.{get_width}
use Rattle.pungi_shape.proofs.sound.Coordinates.{count_cons, length_forms, number_inside}
use Rattle.pungi_shape.proofs.sound.Kept.{Trimmed}

-- ---- vectors that agree

share_dots : (names : Naming) (u v : Vector) (o t : ℕ) (b : Option Form)
    → ((f : Form) → b ≡ Some f → dot f u ≡ dot f v) → share names u o t b ≡ share names v o t b
share_dots names u v o t None same = refl
share_dots names u v o t (Some f) same = ap (λ z. cond (names t == o) z (pos 0)) (same f refl)

total_dots : (j : ℕ) (names : Naming) (u v : Vector) (bs : List (Option Form)) (o : ℕ)
    → ((i : ℕ) (f : Form) → get_or bs i None ≡ Some f → dot f u ≡ dot f v)
    → total_from j names bs u o ≡ total_from j names bs v o
total_dots j names u v [] o same = refl
total_dots j names u v (b ∷ bs) o same =
    let p = share_dots names u v o j b (same 0) in
    let q = total_dots (suc j) names u v bs o (λ i f e. same (suc i) f e) in
    omega (arith, ints, p, q)

width_at_place : (w : ℕ) (bs : List (Option Form)) (i : ℕ) (f : Form) → All (HasWidthIf w) bs
    → get_or bs i None ≡ Some f → length f ≡ w
width_at_place w [] i f all e = absurd (grind (arith, e))
width_at_place w (b ∷ bs) zero f all e = subst (HasWidthIf w) e (All-head (HasWidthIf w) b bs all)
width_at_place w (b ∷ bs) (suc i) f all e = width_at_place w bs i f (All-tail (HasWidthIf w) b bs all) e

dots_at : (w : ℕ) (u v : Vector) (fs : List Form) (x : ℕ) → All (HasWidth w) fs → ((i : ℕ) → i < w → u i ≡ v i)
    → dot (get_or fs x []) u ≡ dot (get_or fs x []) v
dots_at w u v [] x all same = refl
dots_at w u v (f ∷ fs) zero all same =
    let e : length f ≡ w = All-head (HasWidth w) f fs all in dot_same f u v (λ i lt. same i (omega (arith, e, lt)))
dots_at w u v (f ∷ fs) (suc x) all same = dots_at w u v fs x (All-tail (HasWidth w) f fs all) same

pub shows_same : (ks : List ℕ) (n : ℕ) (names : Naming) (u v : Vector) (free : Option ℕ) (s : Scene) (o : View)
    → IsScene ks n s → ((i : ℕ) → i < s.width → u i ≡ v i) → Shows names u free s o → Shows names v free s o
shows_same ks n names u v free s o is same shows =
    let alike = λ (f : Form) (e : length f ≡ s.width). dot_same f u v (λ i lt. same i (omega (arith, e, lt))) in
    record {
      leading = sym (same 0 is.wide) ∙ shows.leading;
      vars = shows.vars;
      numbers = λ x e other. shows.numbers x e other ∙ ap (λ z. content.Holds (value.Int z))
          (alike (form_at s x) (get_width s.width s.vars x is.widths));
      returned = shows.returned;
      returned_number = λ e. shows.returned_number e ∙ ap (λ z. content.Holds (value.Int z))
          (alike s.returned is.returned_width);
      statics = shows.statics;
      slots = shows.slots;
      apart = shows.apart;
      objects = shows.objects;
      marks = shows.marks;
      entry = shows.entry;
      entry_alive = shows.entry_alive;
      entry_count = shows.entry_count;
      entry_numbers = λ x e. shows.entry_numbers x e ∙ ap (λ z. content.Holds (value.Int z))
          (dots_at s.width u v s.entry x is.entry_widths same);
      balances = λ k. shows.balances k ∙ total_dots 0 names u v s.balances k (λ i f e. alike f
          (width_at_place s.width s.balances i f is.balance_widths e));
    }

-- ---- a variable that holds no number

abbrev or_zero : Option ℕ → ℕ
or_zero None = 0
or_zero (Some z) = z

some_injective : (x y : ℕ) → Some x ≡ Some y → x ≡ y
some_injective x y e = ap or_zero e

true_false : true ≡ false → ⊥
true_false e = absurd (grind (arith, e))

pub shows_all : (names : Naming) (v : Vector) (x : ℕ) (s : Scene) (o : View) → is_number (holding_at s x) ≡ false
    → Shows names v (Some x) s o → Shows names v None s o
shows_all names v x s o none shows = record {
  leading = shows.leading;
  vars = shows.vars;
  numbers = λ y e other. shows.numbers y e (λ same. true_false (sym e ∙ ap (λ z. is_number (holding_at s z))
      (sym (some_injective x y same)) ∙ none));
  returned = shows.returned;
  returned_number = shows.returned_number;
  statics = shows.statics;
  slots = shows.slots;
  apart = shows.apart;
  objects = shows.objects;
  marks = shows.marks;
  entry = shows.entry;
  entry_alive = shows.entry_alive;
  entry_count = shows.entry_count;
  entry_numbers = shows.entry_numbers;
  balances = shows.balances;
}

-- a variable that is no holder holds no number
pub no_holder : (code : Code) (p : Point) (n : ℕ) (hs : List Holding) (x m : ℕ) → n + x ≡ m
    → is_holder code p m ≡ false → is_number (get_or (Trimmed code p n hs) x Unset) ≡ false
no_holder code p n [] x m e out = refl
no_holder code p n (h ∷ hs) zero m e out =
    ap (λ b. is_number (cond b h Dead)) (ap (is_holder code p) (let z : n ≡ m = omega (arith, e) in z) ∙ out)
no_holder code p n (h ∷ hs) (suc x) m e out = no_holder code p (n + 1) hs x m (omega (arith, e)) out

-- ---- a coordinate that gets any number

pub form_of_number : (w k : ℕ) (hs : List Holding) (x : ℕ) → is_number (get_or hs x Unset) ≡ true
    → get_or (number_forms w k hs) x (zero_form w) ≡ unit w (k + count_of_numbers (take x hs))
form_of_number w k [] x e = absurd (grind (arith, e))
form_of_number w k (h ∷ hs) zero e =
    ap (λ b. cond b (unit w k) (zero_form w)) e ∙ ap (unit w) (omega arith)
form_of_number w k (h ∷ hs) (suc x) e =
    let c = count_cons h (take x hs) in
    form_of_number w (k + one_if (is_number h)) hs x e ∙ ap (unit w) (omega (arith, c))

pub entry_form_of_number : (w k : ℕ) (hs : List Holding) (x : ℕ) → is_number (get_or hs x Unset) ≡ true
    → get_or (number_forms w k hs) x [] ≡ unit w (k + count_of_numbers (take x hs))
entry_form_of_number w k hs x e =
    get_or_default (number_forms w k hs) x [] (zero_form w) (let l = length_forms w k hs in
    let i = number_inside hs x e in omega (arith, l, i)) ∙ form_of_number w k hs x e

-- numbers before one of two places
pub fewer_before : (hs : List Holding) (x y : ℕ) → x < y → is_number (get_or hs x Unset) ≡ true
    → count_of_numbers (take x hs) < count_of_numbers (take y hs)
fewer_before [] x y lt e = absurd (grind (arith, e))
fewer_before (h ∷ hs) x zero lt e = absurd (omega (arith, lt))
fewer_before (h ∷ hs) zero (suc y) lt e =
    let c = count_cons h (take y hs) in let o : one_if (is_number h) ≡ 1 = ap one_if e in omega (arith, c, o)
fewer_before (h ∷ hs) (suc x) (suc y) lt e =
    let a = count_cons h (take x hs) in
    let b = count_cons h (take y hs) in
    let r = fewer_before hs x y (omega (arith, lt)) e in
    omega (arith, a, b, r)

pub fewer_than_all : (hs : List Holding) (x : ℕ) → is_number (get_or hs x Unset) ≡ true
    → count_of_numbers (take x hs) < count_of_numbers hs
fewer_than_all [] x e = absurd (grind (arith, e))
fewer_than_all (h ∷ hs) zero e =
    let c = count_cons h hs in let o : one_if (is_number h) ≡ 1 = ap one_if e in omega (arith, c, o)
fewer_than_all (h ∷ hs) (suc x) e =
    let a = count_cons h (take x hs) in
    let b = count_cons h hs in
    let r = fewer_than_all hs x e in
    omega (arith, a, b, r)

pub number_content : (names : Naming) (h : Holding) (c : Content) → is_number h ≡ true → HoldsSo names h c
    → (n : ℤ) × (c ≡ content.Holds (value.Int n))
number_content names (Known n) c e holds = (n, holds)
number_content names Number c e holds = holds
number_content names Dead c e holds = absurd (grind (arith, e))
number_content names Unset c e holds = absurd (grind (arith, e))
number_content names Null c e holds = absurd (grind (arith, e))
number_content names Text c e holds = absurd (grind (arith, e))
number_content names (Token t) c e holds = absurd (grind (arith, e))

abbrev pub put_number : Vector → ℕ → ℤ → Vector
put_number u c n i = cond (i == c) n (u i)

put_here : (u : Vector) (c : ℕ) (n : ℤ) → put_number u c n c ≡ n
put_here u c n = elim (eqb_tells c c) [
  | inl h ↦ ap (λ b. cond b n (u c)) h.0
  | inr h ↦ absurd (h.1 refl)
]

pub put_other : (u : Vector) (c : ℕ) (n : ℤ) (i : ℕ) → i ≢ c → put_number u c n i ≡ u i
put_other u c n i ne = elim (eqb_tells i c) [
  | inl h ↦ absurd (ne h.1)
  | inr h ↦ ap (λ b. cond b n (u i)) h.0
]

unit_stays : (w d c : ℕ) (u : Vector) (n : ℤ) (f : Form) → f ≡ unit w d → d < w → d ≢ c
    → dot f u ≡ dot f (put_number u c n)
unit_stays w d c u n f form lt ne =
    ap (λ g. dot g u) form ∙ dot_unit w d u lt ∙ sym (put_other u c n d ne)
    ∙ sym (dot_unit w d (put_number u c n) lt) ∙ ap (λ g. dot g (put_number u c n)) (sym form)

apart_coordinates : (hs : List Holding) (x y : ℕ) → y ≢ x → is_number (get_or hs x Unset) ≡ true
    → is_number (get_or hs y Unset) ≡ true → 1 + count_of_numbers (take y hs) ≢ 1 + count_of_numbers (take x hs)
apart_coordinates hs x y ne at_x at_y e = elim (in_order x y ne) [
  | inl lt ↦ absurd (let f = fewer_before hs x y lt at_x in omega (arith, f, e))
  | inr lt ↦ absurd (let f = fewer_before hs y x lt at_y in omega (arith, f, e))
]
  where
    in_order : (a b : ℕ) → b ≢ a → (a < b) ⊎ (b < a)
    in_order a b apart = grind (arith, apart)

abbrev or_none : Option Form → Form
or_none None = []
or_none (Some g) = g

token_form_is : (w k n i : ℕ) (f : Form) → get_or (token_forms w k n) i None ≡ Some f
    → (i < n) × (f ≡ unit w (k + i))
token_form_is w k n i f e = elim (below i n) [
  | inl lt ↦ (
    lt,
    form_in f (unit w (k + i)) (sym e ∙ get_or-map-range_with_len (λ j. Some (unit w j)) k n i (k + i) None
        lt refl),
  )
  | inr le ↦ absurd (none_some f (sym (get_or_past (token_forms w k n) i None
      (let l = length-map-range_with_len (λ j. Some (unit w j)) k n in omega (arith, l, le))) ∙ e))
]
  where
    below : (a b : ℕ) → (a < b) ⊎ (b ≤ a)
    below a b = grind arith

    none_some : (g : Form) → None ≡ Some g → ⊥
    none_some g h = absurd (grind (arith, h))

    form_in : (g h : Form) → Some g ≡ Some h → g ≡ h
    form_in g h e = ap or_none e

-- the number of the variable is put at its coordinate
pub shows_number : (ks : List ℕ) (n : ℕ) (names : Naming) (u : Vector) (x : ℕ) (s : Shape) (o : View) (number : ℤ)
    → IsScene ks n (scene_of s) → after_entry s + length s.made ≤ width_of s
    → is_number (get_or s.vars x Unset) ≡ true → content_at o.vars x ≡ content.Holds (value.Int number)
    → Shows names u (Some x) (scene_of s) o
    → Shows names (put_number u (coordinate_of s x) number) None (scene_of s) o
shows_number ks n names u x s o number is wide at_x known shows =
    let c = coordinate_of s x in
    let v = put_number u c number in
    let w = width_of s in
    let few = fewer_than_all s.vars x at_x in
    record {
      leading = put_other u c number 0 (λ e. absurd (omega (arith, e))) ∙ shows.leading;
      vars = shows.vars;
      numbers = λ y e other. elim (cases_eq y x) [
        | inl same ↦
            let there : dot (form_at (scene_of s) x) v ≡ number =
            ap (λ f. dot f v) (form_of_number w 1 s.vars x at_x)
            ∙ dot_unit w c v (omega (arith, few, wide)) ∙ put_here u c number
            in
            subst (λ z. content_at o.vars z ≡ content.Holds (value.Int (dot (form_at (scene_of s) z) v))) (sym same)
            (known ∙ ap (λ z. content.Holds (value.Int z)) (sym there))
        | inr ne ↦
            let d = 1 + count_of_numbers (take y s.vars) in
            let many = fewer_than_all s.vars y e in
            let form = form_of_number w 1 s.vars y e in
            let there : dot (form_at (scene_of s) y) v ≡ dot (form_at (scene_of s) y) u =
            ap (λ f. dot f v) form ∙ dot_unit w d v (omega (arith, many, wide))
            ∙ put_other u c number d (apart_coordinates s.vars x y ne at_x e)
            ∙ sym (dot_unit w d u (omega (arith, many, wide))) ∙ ap (λ f. dot f u) (sym form)
            in
            shows.numbers y e (λ same. ne (sym (some_injective x y same)))
            ∙ ap (λ z. content.Holds (value.Int z)) (sym there)
      ];
      returned = shows.returned;
      returned_number = λ e.
          let d = after_vars s in
          let one : one_if (is_number s.returned) ≡ 1 = ap one_if e in
          shows.returned_number e ∙ ap (λ z. content.Holds (value.Int z)) (unit_stays w d c u number
          (number_form w d s.returned) (ap (λ b. cond b (unit w d) (zero_form w)) e) (omega (arith, one, wide))
          (λ same. absurd (omega (arith, same, few))));
      statics = shows.statics;
      slots = shows.slots;
      apart = shows.apart;
      objects = shows.objects;
      marks = shows.marks;
      entry = shows.entry;
      entry_alive = shows.entry_alive;
      entry_count = shows.entry_count;
      entry_numbers = λ y e.
          let d = after_returned s + count_of_numbers (take y s.entry) in
          let many = fewer_than_all s.entry y e in
          shows.entry_numbers y e ∙ ap (λ z. content.Holds (value.Int z)) (unit_stays w d c u number
          (get_or (number_forms w (after_returned s) s.entry) y [])
          (entry_form_of_number w (after_returned s) s.entry y e) (omega (arith, many, wide))
          (λ same. absurd (omega (arith, same, few))));
      balances = λ k. shows.balances k ∙ total_dots 0 names u v (scene_of s).balances k (λ i f e.
          let t = token_form_is w (after_entry s) (length s.made) i f e in
          let lt = t.0 in
          ap (λ g. dot g u) t.1 ∙ dot_unit w (after_entry s + i) u (omega (arith, lt, wide))
          ∙ sym (put_other u c number (after_entry s + i) (λ same. absurd (omega (arith, same, few))))
          ∙ sym (dot_unit w (after_entry s + i) v (omega (arith, lt, wide))) ∙ ap (λ g. dot g v) (sym t.1));
    }
