-- The values that a call passes, seen by its caller and by the called function.
use Rattle.std.proofs.Common.{◌≡◌, ◌≢◌, ℕ, suc, ◌+◌, ◌<◌, ◌≤◌, ℤ, pos, ◌-ℤ◌, Bool, true, false, cond, List, []}
use Rattle.std.proofs.Common.{◌∷◌, ◌++◌, length, map, get_or, refl, sym, ap, ◌∙◌, subst, arith, Some, None}
use Rattle.std.specs.List.{All, IsAmong, list_all, zip}
use Rattle.std.proofs.lemmas.Bool.{false≢true}
use Rattle.std.proofs.lemmas.Int.{ints}
use Rattle.std.proofs.lemmas.List.Elements.{All-nil, All-cons, All-head, All-tail, All-append}
use Rattle.pungi_base.specs.declared.value.Value.{Value}
use Rattle.pungi_base.specs.declared.value.Value.TheVariants as value
use Rattle.pungi_domain.specs.Vectors.{Vector, dot}
use Rattle.pungi_world.specs.declared.content.Content.{Content}
use Rattle.pungi_world.specs.declared.content.Content.TheVariants as content
use Rattle.pungi_meaning.specs.Work.{content_at}
use Rattle.pungi_code.specs.declared.atom.Atom.{Atom}
use Rattle.pungi_code.specs.Registers.{content_of, all_values}
use Rattle.pungi_shape.specs.declared.holding.Holding.{Holding}
use Rattle.pungi_shape.specs.declared.holding.Holding.TheVariants.{Dead, Unset, Null, Text, Known, Number, Token}
use Rattle.pungi_shape.specs.Forms.{unit, zero_form, minus, one_if}
use Rattle.pungi_shape.specs.Shapes.{is_number, count_of_numbers}
use Rattle.pungi_shape.specs.Scenes.{Scene, holding_of, form_of, number_form, number_forms}
use Rattle.pungi_shape.specs.Exits.{is_alike, are_alike, with_static, number_agrees, numbers_agree, beside}
use Rattle.pungi_shape.specs.Named.{static_in}
use Rattle.pungi_shape.specs.Parts.{vars_in, vars_in_all}
use Rattle.pungi_shape.specs.Described.{Naming, HoldsSo}
use Rattle.pungi_shape.proofs.sound.Views.{View}
use Rattle.pungi_shape.proofs.sound.Shows.{IsScene, Shows, key_of}
use Rattle.pungi_shape.proofs.sound.Flow.{AreZero}
use Rattle.pungi_shape.proofs.sound.FormValues.{dot_minus, dot_unit, length_unit}
use Rattle.pungi_shape.proofs.sound.Coordinates.{count_cons}
use Rattle.pungi_shape.proofs.sound.SceneVars.{NamesStatic, atom_number, atom_width}
use Rattle.pungi_shape.proofs.sound.Atoms.{token_of, null_of}
use Rattle.pungi_shape.proofs.sound.ApiArguments.{HeldSo, ArgumentsSo, values_are}
use Rattle.pungi_shape.proofs.sound.Joins.{StandsSo}
use Rattle.pungi_shape.proofs.sound.Members.{first_among, later_among}
use Rattle.pungi_shape.proofs.sound.Tests.{both_true, both_are}

abbrev pub passed : List Value → ℕ → Content
passed vs x = content_at (map content.Holds vs) x

-- ---- what is held, by its value

pub text_of : (names : Naming) (h : Holding) → h ≢ Dead → HoldsSo names h (content.Holds value.Text) → h ≡ Text
text_of names Dead set so = absurd (set refl)
text_of names Unset set so = absurd cc
text_of names Null set so = absurd (let e : value.Text ≡ value.Null = cc in cc)
text_of names Text set so = refl
text_of names (Known n) set so = absurd (let e : value.Text ≡ value.Int n = cc in cc)
text_of names Number set so = absurd (let e : value.Text ≡ value.Int so.0 = let f = so.1 in cc in cc)
text_of names (Token t) set so = absurd (let e : value.Text ≡ value.Object (names t) = cc in cc)

pub number_of : (names : Naming) (h : Holding) (i : ℤ) → h ≢ Dead → HoldsSo names h (content.Holds (value.Int i))
    → is_number h ≡ true
number_of names Dead i set so = absurd (set refl)
number_of names Unset i set so = absurd cc
number_of names Null i set so = absurd (let e : value.Int i ≡ value.Null = cc in cc)
number_of names Text i set so = absurd (let e : value.Int i ≡ value.Text = cc in cc)
number_of names (Known n) i set so = refl
number_of names Number i set so = refl
number_of names (Token t) i set so = absurd (let e : value.Int i ≡ value.Object (names t) = cc in cc)

-- ---- they are alike

alike_numbers : (h g : Holding) → is_number h ≡ true → is_number g ≡ true → is_alike h g ≡ true
alike_numbers (Known n) g e f = f
alike_numbers Number g e f = f
alike_numbers Dead g e f = absurd (false≢true e)
alike_numbers Unset g e f = absurd (false≢true e)
alike_numbers Null g e f = absurd (false≢true e)
alike_numbers Text g e f = absurd (false≢true e)
alike_numbers (Token t) g e f = absurd (false≢true e)

alike_one : (others names : Naming) (h g : Holding) (x : Value) → h ≢ Dead → HoldsSo others h (content.Holds x)
    → g ≢ Dead → HoldsSo names g (content.Holds x) → is_alike h g ≡ true
alike_one others names h g value.Null alive so set held =
    ap (λ k. is_alike k g) (null_of others h alive so) ∙ ap (is_alike Null) (null_of names g set held)
alike_one others names h g value.Text alive so set held =
    ap (λ k. is_alike k g) (text_of others h alive so) ∙ ap (is_alike Text) (text_of names g set held)
alike_one others names h g (value.Object o) alive so set held =
    let t = token_of others h o alive so in
    let u = token_of names g o set held in
    ap (λ k. is_alike k g) t.1.0 ∙ ap (is_alike (Token t.0)) u.1.0
alike_one others names h g (value.Int i) alive so set held =
    alike_numbers h g (number_of others h i alive so) (number_of names g i set held)

pub alike_all : (others names : Naming) (hs gs : List Holding) (vs : List Value) → length hs ≡ length vs
    → ArgumentsSo names gs vs → ((x : ℕ) → HoldsSo others (get_or hs x Unset) (passed vs x))
    → ((x : ℕ) → get_or hs x Unset ≢ Dead) → are_alike hs gs ≡ true
alike_all others names [] [] [] count so held alive = refl
alike_all others names [] (g ∷ gs) [] count so held alive = absurd so
alike_all others names [] gs (x ∷ vs) count so held alive = absurd (omega (arith, count))
alike_all others names (h ∷ hs) gs [] count so held alive = absurd (omega (arith, count))
alike_all others names (h ∷ hs) [] (x ∷ vs) count so held alive = absurd so
alike_all others names (h ∷ hs) (g ∷ gs) (x ∷ vs) count so held alive =
    both_are (is_alike h g) (are_alike hs gs) (alike_one others names h g x (alive 0) (held 0) so.0.set so.0.so)
    (alike_all others names hs gs vs (omega (arith, count)) so.1 (λ i. held (suc i)) (λ i. alive (suc i)))

-- ---- what stands for what

both_set : (set : ℕ → Bool) (xs ys : List ℕ) → list_all set (xs ++ ys) ≡ true
    → (list_all set xs ≡ true) × (list_all set ys ≡ true)
both_set set [] ys e = (refl, e)
both_set set (x ∷ xs) ys e =
    let two = both_true (set x) (list_all set (xs ++ ys)) e in
    let rest = both_set set xs ys two.1 in
    (both_are (set x) (list_all set xs) two.0 rest.0, rest.1)

pub arguments_stand : (ks : List ℕ) (set : ℕ → Bool) (others : Naming) (vars : List Content) (hs : List Holding)
    (as' : List Atom) (vs : List Value) → all_values as' vars ≡ Some vs
    → ((a : Atom) → IsAmong as' a → All (IsAmong ks) (static_in a)) → list_all set (vars_in_all as') ≡ true
    → ((x : ℕ) → HoldsSo others (get_or hs x Unset) (passed vs x)) → All (StandsSo ks set others vars) (zip hs as')
arguments_stand ks set others vars [] as' vs e named all held = All-nil (StandsSo ks set others vars)
arguments_stand ks set others vars (h ∷ hs) [] vs e named all held = All-nil (StandsSo ks set others vars)
arguments_stand ks set others vars (h ∷ hs) (a ∷ as') vs e named all held =
    let r = values_are a as' vars vs e in
    let sets = both_set set (vars_in a) (vars_in_all as') all in
    let all_held = subst (λ l. (x : ℕ) → HoldsSo others (get_or (h ∷ hs) x Unset) (passed l x)) r.all held in
    All-cons (StandsSo ks set others vars) (h, a) (zip hs as') (record {
      so = subst (HoldsSo others h) (sym r.is_first) (all_held 0);
      named = named a (first_among a as');
      are_set = sets.0;
    }) (arguments_stand ks set others vars hs as' r.rest r.are_rest (λ b at. named b (later_among a as' b at)) sets.1
    (λ x. all_held (suc x)))

pub statics_stand : (ks : List ℕ) (set : ℕ → Bool) (others : Naming) (vars : List Content) (es : List (ℕ × Holding))
    → All (NamesStatic others) es → All (IsAmong ks) (map key_of es)
    → All (StandsSo ks set others vars) (map with_static es)
statics_stand ks set others vars [] named among = All-nil (StandsSo ks set others vars)
statics_stand ks set others vars (x ∷ es) named among =
    All-cons (StandsSo ks set others vars) (with_static x) (map with_static es) (record {
      so = All-head (NamesStatic others) x es named;
      named = All-cons (IsAmong ks) x.0 [] (All-head (IsAmong ks) x.0 (map key_of es) among) (All-nil (IsAmong ks));
      are_set = refl;
    }) (statics_stand ks set others vars es (All-tail (NamesStatic others) x es named)
    (All-tail (IsAmong ks) x.0 (map key_of es) among))

-- ---- their numbers agree

level : (a b x y : ℤ) → a ≡ x → b ≡ y → x ≡ y → a -ℤ b ≡ pos 0
level a b x y e f g = omega (arith, ints, e, f, g)

int_is : (i j : ℤ) → content.Holds (value.Int i) ≡ content.Holds (value.Int j) → i ≡ j
int_is i j e = cc

module _ (ks : List ℕ) (n : ℕ) (names others : Naming) (z u : Vector) (s : Scene) (o : View) (is : IsScene ks n s)
    (shows : Shows names z None s o) (w y : ℕ) (narrow : w + y ≤ s.width)
    (second : (i : ℕ) → i < y → z (w + i) ≡ u i) where
  agrees_one : (j : ℕ) (h : Holding) (a : Atom) (x : Value) (b : Bool) → is_number h ≡ b → j + one_if b ≤ y
      → HeldSo names (holding_of s a) x → content_of a o.vars ≡ content.Holds x
      → (is_number h ≡ true → content.Holds x ≡ content.Holds (value.Int (dot (number_form y j h) u)))
      → AreZero (cond b (minus (number_form s.width (w + j) h) (form_of s a) ∷ []) []) z
  agrees_one j h a x false kind fits held is_content number = All-nil (λ f. dot f z ≡ pos 0)
  agrees_one j h a x true kind fits held is_content number =
      let g = form_of s a in
      let i = dot (number_form y j h) u in
      let f = number_form s.width (w + j) h in
      let form : f ≡ unit s.width (w + j) = ap (λ c. cond c (unit s.width (w + j)) (zero_form s.width)) kind in
      let here = number kind in
      let there : content_of a o.vars ≡ content.Holds (value.Int i) = is_content ∙ here in
      let known = number_of names (holding_of s a) i held.set (subst (HoldsSo names (holding_of s a)) here held.so) in
      let worth = int_is (dot g z) i (sym (atom_number ks n names z s o a is shows known) ∙ there) in
      let first : dot f z ≡ u j =
      ap (λ k. dot k z) form ∙ dot_unit s.width (w + j) z (omega (arith, fits, narrow)) ∙ second j (omega (arith, fits))
      in
      let last : i ≡ u j =
      ap (λ c. dot (cond c (unit y j) (zero_form y)) u) kind ∙ dot_unit y j u (omega (arith, fits))
      in
      All-cons (λ k. dot k z ≡ pos 0) (minus f g) [] (dot_minus f g z (ap length form
      ∙ length_unit s.width (w + j) ∙ sym (atom_width ks n s a is))
      ∙ level (dot f z) (dot g z) (u j) i first worth (sym last)) (All-nil (λ k. dot k z ≡ pos 0))

  pub agrees_all : (j : ℕ) (hs : List Holding) (as' : List Atom) (vs : List Value) → all_values as' o.vars ≡ Some vs
      → ArgumentsSo names (map (holding_of s) as') vs → j + count_of_numbers hs ≤ y
      → ((x : ℕ) → is_number (get_or hs x Unset) ≡ true
      → passed vs x ≡ content.Holds (value.Int (dot (get_or (number_forms y j hs) x []) u)))
      → AreZero (numbers_agree s (beside hs (number_forms s.width (w + j) hs) as')) z
  agrees_all j [] as' vs e so fits numbers = All-nil (λ f. dot f z ≡ pos 0)
  agrees_all j (h ∷ hs) [] vs e so fits numbers = All-nil (λ f. dot f z ≡ pos 0)
  agrees_all j (h ∷ hs) (a ∷ as') vs e so fits numbers =
      let r = values_are a as' o.vars vs e in
      let both = subst (ArgumentsSo names (map (holding_of s) (a ∷ as'))) r.all so in
      let all = subst (λ l. (x : ℕ) → is_number (get_or (h ∷ hs) x Unset) ≡ true
      → passed l x ≡ content.Holds (value.Int (dot (get_or (number_forms y j (h ∷ hs)) x []) u))) r.all numbers in
      let c = count_cons h hs in
      let k = one_if (is_number h) in
      let moved : (w + j) + k ≡ w + (j + k) = omega arith in
      let rest = agrees_all (j + k) hs as' r.rest r.are_rest both.1 (omega (arith, c, fits)) (λ x. all (suc x)) in
      All-append (λ f. dot f z ≡ pos 0) (number_agrees s h (number_form s.width (w + j) h) a)
      (numbers_agree s (beside hs (number_forms s.width ((w + j) + k) hs) as'))
      (agrees_one j h a r.first (is_number h) refl (omega (arith, c, fits)) both.0 r.is_first (all 0))
      (subst (λ m. AreZero (numbers_agree s (beside hs (number_forms s.width m hs) as')) z) (sym moved) rest)
