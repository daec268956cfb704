-- The values of the tokens of a state where all that may differ differs, and the run that has them.
use Rattle.std.proofs.Common.{◌≡◌, ℕ, zero, suc, ◌+◌, ◌<◌, ◌≤◌, List, [], ◌∷◌, ◌++◌, length, get_or, refl, sym, ap, ◌∙◌}
use Rattle.std.proofs.Common.{true, arith, map, min, ℤ, pos, negsuc}
use Rattle.std.specs.Prelude.{drop, take}
use Rattle.std.specs.List.{range_with_len}
use Rattle.std.proofs.lemmas.List.{append_assoc, append-nil, length-drop, drop-map}
use Rattle.std.proofs.Math.ListN.{length-map}
use Rattle.pungi_base.specs.declared.choice.Choice.{Choice}
use Rattle.pungi_base.specs.declared.entry.Entry.{Entry}
use Rattle.pungi_base.specs.declared.value.Value.{Value}
use Rattle.pungi_base.specs.declared.value.Value.TheVariants as value
use Rattle.pungi_world.specs.Choices.{value_of}
use Rattle.pungi_symbol.specs.declared.states.mark.Mark.{Mark}
use Rattle.pungi_symbol.specs.declared.states.mark.Mark.TheVariants.{Pointer, TextPointer, IsNull, IsObject, IsText}
use Rattle.pungi_symbol.specs.declared.states.mark.Mark.TheVariants.{IsNumber, IsConverted, Integer}
use Rattle.pungi_symbol.specs.declared.states.state.State.{State}
use Rattle.pungi_symbol.specs.states.Terms.{value_at}
use Rattle.pungi_symbol.specs.states.Known.{count}
use Rattle.pungi_symbol.specs.answers.SymbolicState.{class_of, is_among}
use Rattle.pungi_symbol.specs.runs.Fits.{IsSound}
use Rattle.pungi_symbol.specs.runs.Paths.{own_value, own_values, canon, values_of, AreApart}
use Rattle.pungi_symbol.specs.runs.Paths.{object_number, own_numbers}
use Rattle.pungi_symbol.specs.runs.Paths.{conversion_of, number_choice, choice_of, choices_of, own_choices}
use Rattle.pungi_symbol.proofs.questions.Arguments.{drop_here}
use Rattle.pungi_symbol.proofs.runs.MadeObjects.{number_of_other, numbers_part, earlier_not}

-- ---- one token after another

none_own : (ms : List Mark) (cs : List ℕ) (ns : List ℤ) → min (min (length ms) (length cs)) (length ns) ≡ 0
    → own_values ms cs ns ≡ []
none_own [] cs ns e = refl
none_own (m ∷ ms) [] ns e = refl
none_own (m ∷ ms) (c ∷ cs) [] e = refl
none_own (m ∷ ms) (c ∷ cs) (n ∷ ns) e = absurd (omega (arith, e))

-- f gives the number of the object of a class
module _ (f : ℕ → ℕ) (ms : List Mark) (cs : List ℕ) (ns : List ℤ) where
  abbrev Left : ℕ → List Value
  Left i = own_values (drop i ms) (map f (drop i cs)) (drop i ns)

  pub own_step : (so_far : List Value) (i : ℕ) (m : Mark) (c : ℕ) (z : ℤ) → i < length ms → i < length cs
      → i < length ns → (so_far ++ own_value (get_or ms i m) (f (get_or cs i c)) (get_or ns i z) ∷ []) ++ Left (i + 1)
      ≡ so_far ++ Left i
  own_step so_far i m c z h g k =
      append_assoc so_far (own_value (get_or ms i m) (f (get_or cs i c)) (get_or ns i z) ∷ []) (Left (i + 1))
      ∙ sym (ap (λ l. so_far ++ own_values l (map f (drop i cs)) (drop i ns)) (drop_here ms i m h)
      ∙ ap (λ l. so_far ++ own_values (get_or ms i m ∷ drop (i + 1) ms) (map f l) (drop i ns)) (drop_here cs i c g)
      ∙ ap (λ l. so_far ++ own_values (get_or ms i m ∷ drop (i + 1) ms) (f (get_or cs i c) ∷ map f (drop (i + 1) cs)) l)
      (drop_here ns i z k))

  pub own_end : (so_far : List Value) (n : ℕ) → n ≡ min (min (length ms) (length cs)) (length ns)
      → so_far ++ Left n ≡ so_far
  own_end so_far n e =
      let a = length-drop n ms in
      let b = length-drop n cs in
      let c = length-drop n ns in
      let d = length-map (drop n cs) f in
      ap (λ l. so_far ++ l) (none_own (drop n ms) (map f (drop n cs)) (drop n ns) (omega (arith, a, b, c, d, e)))
      ∙ append-nil so_far

-- ---- the run of these values

conversion_back : (n : ℤ) → value_of (conversion_of n) ≡ value.Int n
conversion_back (pos k) = refl
conversion_back (negsuc k) = refl

number_back : (m : Mark) (n : ℤ) → value_of (number_choice m n) ≡ value.Int n
number_back Pointer n = refl
number_back TextPointer n = refl
number_back IsNull n = refl
number_back IsObject n = refl
number_back IsText n = refl
number_back (IsNumber m) n = refl
number_back (IsConverted m) n = conversion_back n
number_back (Integer r) n = refl

pub choice_back : (m : Mark) (v : Value) → value_of (choice_of m v) ≡ v
choice_back m value.Null = refl
choice_back m (value.Object k) = refl
choice_back m (value.Int n) = number_back m n
choice_back m value.Text = refl

choices_back : (ms : List Mark) (vs : List Value) → length vs ≤ length ms → map value_of (choices_of ms vs) ≡ vs
choices_back [] [] le = refl
choices_back [] (v ∷ vs) le = absurd (omega (arith, le))
choices_back (m ∷ ms) [] le = refl
choices_back (m ∷ ms) (v ∷ vs) le =
    ap (λ x. x ∷ map value_of (choices_of ms vs)) (choice_back m v)
    ∙ ap (λ l. v ∷ l) (choices_back ms vs (omega (arith, le)))

pub choices_long : (ms : List Mark) (vs : List Value) → length (choices_of ms vs) ≡ min (length ms) (length vs)
choices_long [] vs = omega arith
choices_long (m ∷ ms) [] = omega arith
choices_long (m ∷ ms) (v ∷ vs) = let e = choices_long ms vs in omega (arith, e)

pub choice_at : (ms : List Mark) (vs : List Value) (t : ℕ) (d : Choice) → t < length ms → t < length vs
    → get_or (choices_of ms vs) t d ≡ choice_of (get_or ms t IsNull) (value_at vs t)
choice_at [] vs t d h g = absurd (omega (arith, h))
choice_at (m ∷ ms) [] t d h g = absurd (omega (arith, g))
choice_at (m ∷ ms) (v ∷ vs) zero d h g = refl
choice_at (m ∷ ms) (v ∷ vs) (suc t) d h g = choice_at ms vs t d (omega (arith, h)) (omega (arith, g))

-- the choices of tokens from one on
choices_after : (n : ℕ) (ms : List Mark) (vs : List Value)
    → choices_of (drop n ms) (drop n vs) ≡ drop n (choices_of ms vs)
choices_after zero ms vs = refl
choices_after (suc n) [] vs = refl
choices_after (suc n) (m ∷ ms) [] = none (drop n ms)
  where
    none : (l : List Mark) → choices_of l [] ≡ []
    none [] = refl
    none (x ∷ l) = refl
choices_after (suc n) (m ∷ ms) (v ∷ vs) = choices_after n ms vs

pub choices_came : (n a : ℕ) (ms : List Mark) (vs : List Value)
    → choices_of (drop n (drop a ms)) (drop n (drop a vs)) ≡ drop n (drop a (choices_of ms vs))
choices_came n a ms vs = choices_after n (drop a ms) (drop a vs) ∙ ap (drop n) (choices_after a ms vs)

module _ (ms : List Mark) (vs : List Value) where
  pub choices_step : (so_far : List Choice) (i : ℕ) (m : Mark) (v : Value) → i < length ms → i < length vs
      → (so_far ++ choice_of (get_or ms i m) (get_or vs i v) ∷ []) ++ choices_of (drop (i + 1) ms) (drop (i + 1) vs)
      ≡ so_far ++ choices_of (drop i ms) (drop i vs)
  choices_step so_far i m v h g =
      append_assoc so_far (choice_of (get_or ms i m) (get_or vs i v) ∷ [])
      (choices_of (drop (i + 1) ms) (drop (i + 1) vs))
      ∙ sym (ap (λ l. so_far ++ choices_of l (drop i vs)) (drop_here ms i m h)
      ∙ ap (λ l. so_far ++ choices_of (get_or ms i m ∷ drop (i + 1) ms) l) (drop_here vs i v g))

  no_choices : (ms : List Mark) (vs : List Value) → min (length ms) (length vs) ≡ 0 → choices_of ms vs ≡ []
  no_choices [] vs e = refl
  no_choices (m ∷ ms) [] e = refl
  no_choices (m ∷ ms) (v ∷ vs) e = absurd (omega (arith, e))

  pub choices_end : (so_far : List Choice) (n : ℕ) → n ≡ min (length ms) (length vs)
      → so_far ++ choices_of (drop n ms) (drop n vs) ≡ so_far
  choices_end so_far n e =
      let a = length-drop n ms in
      let b = length-drop n vs in
      ap (λ l. so_far ++ l) (no_choices (drop n ms) (drop n vs) (omega (arith, a, b, e))) ∙ append-nil so_far

own_short : (ms : List Mark) (cs : List ℕ) (ns : List ℤ) → length (own_values ms cs ns) ≤ length ms
own_short [] cs ns = omega arith
own_short (m ∷ ms) [] ns = omega arith
own_short (m ∷ ms) (c ∷ cs) [] = omega arith
own_short (m ∷ ms) (c ∷ cs) (n ∷ ns) = let le = own_short ms cs ns in omega (arith, le)

parts : {X : Type 0} (n : ℕ) (xs : List X) → take n xs ++ drop n xs ≡ xs
parts zero xs = refl
parts (suc n) [] = refl
parts (suc n) (x ∷ xs) = ap (λ l. x ∷ l) (parts n xs)

-- the static objects come first, by their numbers
statics_first : (ms : List Mark) (cs : List ℕ) (ns : List ℤ) (a n : ℕ) → n ≤ length ms → n ≤ length cs → n ≤ length ns
    → ((t : ℕ) → t < n → get_or ms t IsNull ≡ IsObject) → ((t : ℕ) → t < n → get_or cs t 0 ≡ a + t)
    → take n (own_values ms cs ns) ≡ map value.Object (range_with_len a n)
statics_first ms cs ns a zero h g f objects own = refl
statics_first [] cs ns a (suc n) h g f objects own = absurd (omega (arith, h))
statics_first (m ∷ ms) [] ns a (suc n) h g f objects own = absurd (omega (arith, g))
statics_first (m ∷ ms) (c ∷ cs) [] a (suc n) h g f objects own = absurd (omega (arith, f))
statics_first (m ∷ ms) (c ∷ cs) (i ∷ ns) a (suc n) h g f objects own =
    let first : c ≡ a = let e : c ≡ a + 0 = own zero (omega arith) in omega (arith, e) in
    let here : own_value m c i ≡ value.Object a = ap (λ k. own_value k c i) (objects zero (omega arith))
    ∙ ap value.Object first in
    let rest = statics_first ms cs ns (a + 1) n (omega (arith, h)) (omega (arith, g)) (omega (arith, f))
    (λ t l. objects (suc t) (omega (arith, l))) (λ t l. let e : get_or cs t 0
    ≡ a + suc t = own (suc t) (omega (arith, l)) in omega (arith, e)) in
    ap (λ v. v ∷ take n (own_values ms cs ns)) here ∙ ap (λ l. value.Object a ∷ l) rest

-- the numbers of the tokens of a state
pub own_number_at : (s : State) (t : ℕ) → t < length s.classes
    → get_or (own_numbers s) t 0 ≡ object_number (count s.known) s.known.made (class_of s.classes t)
own_number_at s t lt = mapped (object_number (count s.known) s.known.made) s.classes t lt
  where
    mapped : (f : ℕ → ℕ) (cs : List ℕ) (t : ℕ) → t < length cs → get_or (map f cs) t 0 ≡ f (get_or cs t 0)
    mapped f [] t lt = absurd (omega (arith, lt))
    mapped f (c ∷ cs) zero lt = refl
    mapped f (c ∷ cs) (suc t) lt = mapped f cs t (omega (arith, lt))

pub own_numbers_long : (s : State) → length (own_numbers s) ≡ length s.classes
own_numbers_long s = length-map s.classes (object_number (count s.known) s.known.made)

module _ (s : State) (sound : IsSound s) (late : (m : ℕ) → is_among s.known.made m ≡ true → s.statics ≤ m)
    (ns : List ℤ) (long : length ns ≡ count s.known) where
  -- a static object has its own number
  static_number : (t : ℕ) → t < s.statics → get_or (own_numbers s) t 0 ≡ 0 + t
  static_number t l =
      let e = sound.notes.classes_long in
      let h = sound.notes.statics in
      own_number_at s t (omega (arith, l, e, h))
      ∙ ap (object_number (count s.known) s.known.made) (sound.notes.class_static t l)
      ∙ number_of_other (count s.known) s.known.made t (earlier_not s.known.made s.statics t late l) ∙ (omega arith)

  own_statics : take s.statics (canon s ns) ≡ map value.Object (range_with_len 0 s.statics)
  own_statics = statics_first s.known.marks (own_numbers s) ns 0 s.statics sound.notes.statics
      (let e = sound.notes.classes_long in let f = own_numbers_long s in let h = sound.notes.statics in omega
      (arith, e, f, h))
      (let h = sound.notes.statics in omega (arith, long, h))
      sound.notes.static_objects static_number

  came_back : (n : ℕ) → map value_of (drop n (drop s.statics (own_choices s ns))) ≡ drop n (drop s.statics (canon s ns))
  came_back n =
      sym (drop-map value_of n (drop s.statics (own_choices s ns)))
      ∙ ap (drop n) (sym (drop-map value_of s.statics (own_choices s ns)))
      ∙ ap (λ l. drop n (drop s.statics l))
      (choices_back s.known.marks (canon s ns) (own_short s.known.marks (own_numbers s) ns))

  -- the run that is made of these values has them
  pub run_values : (entry : Entry) (choices : List Choice) (n : ℕ)
      → entry.args ≡ take n (drop s.statics (canon s ns))
      → choices ≡ drop n (drop s.statics (own_choices s ns))
      → values_of s.statics entry choices ≡ canon s ns
  run_values entry choices n args chosen =
      let came = drop s.statics (canon s ns) in
      ap (λ l. map value.Object (range_with_len 0 s.statics) ++ (l ++ map value_of choices)) args
      ∙ ap (λ l. map value.Object (range_with_len 0 s.statics) ++ (take n came ++ map value_of l)) chosen
      ∙ ap (λ l. map value.Object (range_with_len 0 s.statics) ++ (take n came ++ l)) (came_back n)
      ∙ ap (λ l. map value.Object (range_with_len 0 s.statics) ++ l) (parts n came)
      ∙ ap (λ l. l ++ came) (sym own_statics)
      ∙ parts s.statics (canon s ns)

-- ---- tokens that weren't merged are different objects

own_class : (m : Mark) (c : ℕ) (n : ℤ) (o : ℕ) → own_value m c n ≡ value.Object o → o ≡ c
own_class Pointer c n o e = let same : value.Object c ≡ value.Object o = e in cc
own_class TextPointer c n o e = absurd (let bad : value.Text ≡ value.Object o = e in cc)
own_class IsNull c n o e = absurd (let bad : value.Null ≡ value.Object o = e in cc)
own_class IsObject c n o e = let same : value.Object c ≡ value.Object o = e in cc
own_class IsText c n o e = absurd (let bad : value.Text ≡ value.Object o = e in cc)
own_class (IsNumber m) c n o e = absurd (let bad : value.Int m ≡ value.Object o = e in cc)
own_class (IsConverted m) c n o e = absurd (let bad : value.Int m ≡ value.Object o = e in cc)
own_class (Integer r) c n o e = absurd (let bad : value.Int n ≡ value.Object o = e in cc)

own_past : (t o : ℕ) → value_at [] t ≡ value.Object o → ⊥
own_past zero o e = let bad : value.Null ≡ value.Object o = e in cc
own_past (suc t) o e = let bad : value.Null ≡ value.Object o = e in cc

own_at : (ms : List Mark) (cs : List ℕ) (ns : List ℤ) (t o : ℕ) → value_at (own_values ms cs ns) t ≡ value.Object o
    → o ≡ get_or cs t 0
own_at [] cs ns t o e = absurd (own_past t o e)
own_at (m ∷ ms) [] ns t o e = absurd (own_past t o e)
own_at (m ∷ ms) (c ∷ cs) [] t o e = absurd (own_past t o e)
own_at (m ∷ ms) (c ∷ cs) (n ∷ ns) zero o e = own_class m c n o e
own_at (m ∷ ms) (c ∷ cs) (n ∷ ns) (suc t) o e = own_at ms cs ns t o e

module _ (s : State) (sound : IsSound s) where
  -- the object of a token has the number of its class
  pub own_object : (ns : List ℤ) (t o : ℕ) → t < count s.known → value_at (canon s ns) t ≡ value.Object o
      → o ≡ object_number (count s.known) s.known.made (class_of s.classes t)
  own_object ns t o lt e =
      let long = sound.notes.classes_long in
      own_at s.known.marks (own_numbers s) ns t o e ∙ own_number_at s t (omega (arith, lt, long))

  -- different classes have different numbers
  pub class_by_number : (t u : ℕ) → t < count s.known → u < count s.known
      → object_number (count s.known) s.known.made (class_of s.classes t)
      ≡ object_number (count s.known) s.known.made (class_of s.classes u) → class_of s.classes t ≡ class_of s.classes u
  class_by_number t u h g e =
      let a = sound.notes.class_older t h in
      let b = sound.notes.class_older u g in
      numbers_part (count s.known) s.known.made (class_of s.classes t) (class_of s.classes u) (omega (arith, a, h))
      (omega (arith, b, g)) e

  pub own_apart : (ns : List ℤ) → AreApart s (canon s ns)
  own_apart ns t u o h g e d = class_by_number t u h g (sym (own_object ns t o h e) ∙ own_object ns u o g d)
