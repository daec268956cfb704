-- Forms that are 0 where numbers agree: they are stored, and what is left of them gives all.
use Rattle.std.proofs.Common.{◌≡◌, ◌∙◌, ℕ, ◌+◌, ◌<◌, ◌≤◌, true, ℤ, pos, negsuc, ◌+ℤ◌, ◌*ℤ◌, List, [], ◌∷◌}
use Rattle.std.proofs.Common.{◌++◌, length, get_or, drop, cond, refl, sym, ap, subst, arith, lit<, append_assoc}
use Rattle.std.specs.Prelude.{IfSome, unsigned_abs}
use Rattle.std.specs.List.{list_all}
use Rattle.std.proofs.lemmas.Int.{ints, unsigned_abs-mul}
use Rattle.std.proofs.lemmas.List.{drop_all, drop_more}
use Rattle.std.proofs.lemmas.List.Sums.{AllPass-from_list_all, sum_by-cons, sum_by-drop_more}
use Rattle.pungi_code.specs.declared.atom.Atom.{Atom}
use Rattle.pungi_shape.specs.declared.holding.Holding.{Holding}
use Rattle.pungi_shape.specs.Bounds.{IsPlain, IsScene, has_opposite}
use Rattle.pungi_shape.specs.Exits.{beside, number_agrees, numbers_agree}
use Rattle.pungi_shape.specs.Forms.{Form, IsFactor, IsStorable, minus, one_if, times, unit}
use Rattle.pungi_shape.specs.Leaving.{size}
use Rattle.pungi_shape.specs.Numbers.{constant_of}
use Rattle.pungi_shape.specs.Scenes.{Scene, form_of, number_form, number_forms}
use Rattle.pungi_shape.specs.Shapes.{count_of_numbers, is_number}
use Rattle.pungi_shape.proofs.FormBounds.{coordinate-parts, form_of-width, lead, length-times, length-unit}
use Rattle.pungi_shape.proofs.FormBounds.{opposite-parts, parts-storable, plus-parts}
use Rattle.pungi_shape.proofs.NumberLemmas.{constant-opposite, opposite-factor}
use Rattle.pungi_shape.proofs.SceneLemmas.{unit-coordinate}
use Rattle.pungi_shape.proofs.WeightLemmas.{size-plus, size-storable, size-unit}

-- ---- the leading coordinates

abs_opposite : (z : ℤ) → unsigned_abs (negsuc 0 *ℤ z) ≡ unsigned_abs z
abs_opposite z = unsigned_abs-mul (negsuc 0) z ∙ omega arith

size_opposite : (f : Form) → size (times (negsuc 0) f) ≡ size f
size_opposite [] = refl
size_opposite (c ∷ f) =
    let h = size_opposite f in
    omega (
      arith,
      h,
      abs_opposite c,
      sum_by-cons unsigned_abs c f,
      sum_by-cons unsigned_abs (negsuc 0 *ℤ c) (times (negsuc 0) f),
    )

pub unit-opposite : (w k : ℕ) → IsStorable (times (negsuc 0) (unit w k))
unit-opposite w k =
    size-storable (times (negsuc 0) (unit w k))
    (let e = size_opposite (unit w k) in let h = size-unit w k in omega (arith, e, h))

pub leading-storable : (w k : ℕ) → IsStorable (minus (unit w k) (unit w 0))
leading-storable w k =
    let o = times (negsuc 0) (unit w 0) in
    size-storable (minus (unit w k) (unit w 0))
    (let p = size-plus (unit w k) o in
    let e = size_opposite (unit w 0) in
    let h = size-unit w k in
    let l = size-unit w 0 in
    omega (arith, p, e, h, l))

-- ---- a number and an argument

atom_factor : (a : Atom) → has_opposite a ≡ true → IfSome (constant_of a) (λ n. IsFactor n)
    → IsFactor (negsuc 0 *ℤ lead a)
atom_factor a h k = opposite-factor (constant_of a) (constant-opposite a h k)

pub argument-opposite : (s : Scene) (a : Atom) → IsPlain s → has_opposite a ≡ true
    → IfSome (constant_of a) (λ n. IsFactor n) → IsStorable (times (negsuc 0) (form_of s a))
argument-opposite s a plain h k =
    parts-storable (negsuc 0 *ℤ lead a) 1 (times (negsuc 0) (form_of s a)) (opposite-parts s a plain)
    (atom_factor a h k) (lit< tt)

zero_plus : (z : ℤ) → IsFactor z → IsFactor (pos 0 +ℤ z)
zero_plus z h = subst (λ (n : ℤ). IsFactor n) (omega (arith, ints)) h

pub argument-storable : (s : Scene) (k : ℕ) (a : Atom) → IsScene s → IsPlain s → 0 < k → has_opposite a ≡ true
    → IfSome (constant_of a) (λ n. IsFactor n) → IsStorable (minus (unit s.width k) (form_of s a))
argument-storable s k a is plain lt h f =
    let z = negsuc 0 *ℤ lead a in
    let o = times (negsuc 0) (form_of s a) in
    parts-storable (pos 0 +ℤ z) 2 (minus (unit s.width k) (form_of s a))
    (plus-parts (pos 0) z 1 1 (unit s.width k) o
    (length-unit s.width k ∙ sym (length-times (negsuc 0) (form_of s a) ∙ form_of-width s a is))
    (coordinate-parts (unit s.width k) (unit-coordinate s.width k lt)) (opposite-parts s a plain))
    (zero_plus z (atom_factor a h f)) (lit< tt)

-- ---- those of all numbers

abbrev pub agree_from : Scene → ℕ → List Holding → List Atom → List Form
agree_from s k hs as' = numbers_agree s (beside hs (number_forms s.width k hs) as')

pub agree_turn : (s : Scene) (k i : ℕ) (hs : List Holding) (as' : List Atom) (c : Holding) (d : Atom) → i < length hs
    → i < length as'
    → agree_from s k (drop i hs) (drop i as')
    ≡ number_agrees s (get_or hs i c) (number_form s.width k (get_or hs i c)) (get_or as' i d)
    ++ agree_from s (k + one_if (is_number (get_or hs i c))) (drop (i + 1) hs) (drop (i + 1) as')
agree_turn s k i hs as' c d lt lu = rw (drop_more hs i c lt, drop_more as' i d lu) refl

-- the arguments have ended
pub agree_end : (s : Scene) (k i : ℕ) (hs : List Holding) (as' : List Atom) → length as' ≤ i
    → agree_from s k hs (drop i as') ≡ []
agree_end s k i hs as' le = rw (drop_all i as' le) (none hs (number_forms s.width k hs))
  where
    none : (hs : List Holding) (fs : List Form) → numbers_agree s (beside hs fs []) ≡ []
    none [] fs = refl
    none (h ∷ hs) [] = refl
    none (h ∷ hs) (f ∷ fs) = refl

pub count_turn : (hs : List Holding) (i : ℕ) (c : Holding) → i < length hs
    → count_of_numbers (drop i hs) ≡ one_if (is_number (get_or hs i c)) + count_of_numbers (drop (i + 1) hs)
count_turn hs i c lt = sum_by-drop_more (λ h. cond (is_number h) 1 0) hs i c lt

pub opposite_at : (as' : List Atom) (i : ℕ) (d : Atom) → list_all has_opposite as' ≡ true → i < length as'
    → has_opposite (get_or as' i d) ≡ true
opposite_at as' i d all lt = AllPass-from_list_all has_opposite as' all i d lt

-- ---- a turn

pub agree_step : (s : Scene) (k m i : ℕ) (hs : List Holding) (as' : List Atom) (c : Holding) (d : Atom)
    (old new all : List Form) → i < length hs → i < length as' → m ≡ one_if (is_number (get_or hs i c))
    → new ≡ old ++ number_agrees s (get_or hs i c) (number_form s.width k (get_or hs i c)) (get_or as' i d)
    → old ++ agree_from s k (drop i hs) (drop i as') ≡ all
    → new ++ agree_from s (k + m) (drop (i + 1) hs) (drop (i + 1) as') ≡ all
agree_step s k m i hs as' c d old new all lt lu n e rest =
    let one = number_agrees s (get_or hs i c) (number_form s.width k (get_or hs i c)) (get_or as' i d) in
    ap (λ (l : List Form). l ++ agree_from s (k + m) (drop (i + 1) hs) (drop (i + 1) as')) e
    ∙ ap (λ (j : ℕ). (old ++ one) ++ agree_from s (k + j) (drop (i + 1) hs) (drop (i + 1) as')) n
    ∙ append_assoc old one
    (agree_from s (k + one_if (is_number (get_or hs i c))) (drop (i + 1) hs) (drop (i + 1) as'))
    ∙ ap (λ (l : List Form). old ++ l) (sym (agree_turn s k i hs as' c d lt lu)) ∙ rest

pub agree_skip : (s : Scene) (k j i : ℕ) (hs : List Holding) (as' : List Atom) (old new all : List Form)
    → length as' ≤ i → new ≡ old → old ++ agree_from s k (drop i hs) (drop i as') ≡ all
    → new ++ agree_from s j (drop (i + 1) hs) (drop (i + 1) as') ≡ all
agree_skip s k j i hs as' old new all le e rest =
    ap (λ (l : List Form). l ++ agree_from s j (drop (i + 1) hs) (drop (i + 1) as')) e
    ∙ ap (λ (l : List Form). old ++ l) (agree_end s j (i + 1) (drop (i + 1) hs) as' (omega (arith, le))
    ∙ sym (agree_end s k i (drop i hs) as' le)) ∙ rest

pub count_step : (hs : List Holding) (k m i n : ℕ) (c : Holding) → i < length hs
    → m ≡ one_if (is_number (get_or hs i c)) → k + count_of_numbers (drop i hs) ≡ n
    → k + m + count_of_numbers (drop (i + 1) hs) ≡ n
count_step hs k m i n c lt e rest =
    let t = count_turn hs i c lt in
    let x = one_if (is_number (get_or hs i c)) in
    go x (count_of_numbers (drop i hs)) (count_of_numbers (drop (i + 1) hs)) e t rest
  where
    go : (x a b : ℕ) → m ≡ x → a ≡ x + b → k + a ≡ n → k + m + b ≡ n
    go x a b e t rest = omega arith
