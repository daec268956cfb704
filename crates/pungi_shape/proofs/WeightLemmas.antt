-- The balances of a scene, weighed together: they stay light where balances are added up or change by a coordinate.
--   weigh w o               the size of a balance, over w coordinates
--   Grows n s t             a scene that comes of s: it fits, over the same coordinates and with as many tokens, and
--                           its balances together weigh at most n more
use Rattle.std.proofs.Common.{◌≡◌, ◌≢◌, ◌∙◌, ℕ, zero, suc, ◌+◌, ◌^◌, ◌<◌, ◌≤◌, ◌==◌, Bool, true, false, ℤ, pos, ◌+ℤ◌}
use Rattle.std.proofs.Common.{List, [], ◌∷◌, length, map, get_or, Option, None, Some, if◌then◌else◌, refl, ap}
use Rattle.std.proofs.Common.{arith, inl, inr}
use Rattle.std.specs.Prelude.{◌||◌, unsigned_abs, slice_set}
use Rattle.std.specs.List.{range_with_len, sum_by}
use Rattle.std.proofs.lemmas.Int.{ints}
use Rattle.std.proofs.lemmas.Bool.{cases_lt}
use Rattle.std.proofs.lemmas.List.{get_or-set_other, set_past}
use Rattle.std.proofs.lemmas.List.Elements.{All-from_get_or}
use Rattle.std.proofs.lemmas.List.Folds.{sum_by-replicate}
use Rattle.std.proofs.lemmas.List.Sums.{get_or-le-sum_by, sum_by-cons, sum_by-set}
use Rattle.std.proofs.Math.ListN.{get_or-eq_default, length-set}
use Rattle.pungi_domain.specs.Vectors.{at}
use Rattle.pungi_shape.specs.Bounds.{HasWidth, IsScene}
use Rattle.pungi_shape.specs.Forms.{Form, IsFactor, IsStorable, plus, unit, zero_form}
use Rattle.pungi_shape.specs.Leaving.{IsLight, size, weight}
use Rattle.pungi_shape.specs.Scenes.{Scene, add_form, balance_at, form_or, is_made, merge}
use Rattle.pungi_shape.proofs.AfterLemmas.{merge_scene}
use Rattle.pungi_shape.proofs.BalanceLemmas.{add_form-scene}

-- ---- sizes

abs-plus : (a b : ℤ) → unsigned_abs (a +ℤ b) ≤ unsigned_abs a + unsigned_abs b
abs-plus a b = omega (arith, ints)

pub size-plus : (f g : Form) → size (plus f g) ≤ size f + size g
size-plus [] g = omega arith
size-plus (a ∷ f) [] = omega arith
size-plus (a ∷ f) (b ∷ g) =
    let h = size-plus f g in
    omega (
      arith,
      h,
      abs-plus a b,
      sum_by-cons unsigned_abs (a +ℤ b) (plus f g),
      sum_by-cons unsigned_abs a f,
      sum_by-cons unsigned_abs b g,
    )

size-zero : (w : ℕ) → size (zero_form w) ≡ 0
size-zero w = sum_by-replicate unsigned_abs w (pos 0) ∙ omega arith

factor_from : (z : ℤ) → unsigned_abs z < 2 ^ 63 → IsFactor z
factor_from z lt = (omega (arith, ints, lt), omega (arith, ints, lt))

pub size-storable : (f : Form) → size f < 2 ^ 63 → IsStorable f
size-storable f small = All-from_get_or (λ (z : ℤ). IsFactor z) f (pos 0) each
  where
    each : (i : ℕ) → i < length f → IsFactor (at f i)
    each i lt =
        factor_from (at f i) (let h = get_or-le-sum_by unsigned_abs f i (pos 0) lt in omega (arith, h, small))

-- at most one coefficient of a coordinate is 1
size_past : (k a n : ℕ) → k < a → size (map (λ i. if i == k then pos 1 else pos 0) (range_with_len a n)) ≡ 0
size_past k a zero lt = refl
size_past k a (suc n) lt =
    let ne : (a == k) ≡ false = grind (arith, lt) in
    let h = size_past k (a + 1) n (omega (arith, lt)) in
    sum_by-cons unsigned_abs (if a == k then pos 1 else pos 0)
    (map (λ i. if i == k then pos 1 else pos 0) (range_with_len (a + 1) n)) ∙ rw ne (omega (arith, h))

size_from : (k a n : ℕ) → size (map (λ i. if i == k then pos 1 else pos 0) (range_with_len a n)) ≤ 1
size_from k a zero = omega arith
size_from k a (suc n) = go (a == k) refl (size_from k (a + 1) n)
  where
    rest : Form
    rest = map (λ i. if i == k then pos 1 else pos 0) (range_with_len (a + 1) n)

    go : (b : Bool) → (a == k) ≡ b → size rest ≤ 1
        → size (map (λ i. if i == k then pos 1 else pos 0) (range_with_len a (suc n))) ≤ 1
    go true e le =
        let same : a ≡ k = grind (arith, e) in
        let h : size rest ≡ 0 = size_past k (a + 1) n (omega (arith, same)) in
        let c = sum_by-cons unsigned_abs (pos 1) rest in
        rw e (omega (arith, h, c))
    go false e le =
        let c = sum_by-cons unsigned_abs (pos 0) rest in
        rw e (omega (arith, le, c))

pub size-unit : (w k : ℕ) → size (unit w k) ≤ 1
size-unit w k = size_from k 0 w

-- ---- weights

abbrev pub weigh : ℕ → Option Form → ℕ
weigh w o = size (form_or w o)

set_weight : (w : ℕ) (bs : List (Option Form)) (t : ℕ) (o : Option Form)
    → sum_by (weigh w) (slice_set bs t o) + weigh w (get_or bs t None) ≤ sum_by (weigh w) bs + weigh w o
set_weight w bs t o = elim (cases_lt t (length bs)) [
  | inl lt ↦ (let h = sum_by-set (weigh w) bs t o None lt in omega (arith, h))
  | inr le ↦
      let same : slice_set bs t o ≡ bs = set_past bs t o le in
      let none : weigh w (get_or bs t None) ≡ 0 =
      ap (weigh w) (get_or-eq_default bs None le) ∙ size-zero w in
      let e = ap (sum_by (weigh w)) same in
      omega (arith, e, none)
]

pub balance_at-light : (s : Scene) (t : ℕ) → size (balance_at s t) ≤ weight s
balance_at-light s t = elim (cases_lt t (length s.balances)) [
  | inl lt ↦ get_or-le-sum_by (weigh s.width) s.balances t None lt
  | inr le ↦
      let none : size (balance_at s t) ≡ 0 =
      ap (weigh s.width) (get_or-eq_default s.balances None le) ∙ size-zero s.width in
      omega (arith, none)
]

-- ---- what is stored

pub merge-storable : (s : Scene) (t u : ℕ) → IsLight s → IsStorable (plus (balance_at s t) (balance_at s u))
merge-storable s t u light =
    let p = size-plus (balance_at s t) (balance_at s u) in
    let a = balance_at-light s t in
    let b = balance_at-light s u in
    size-storable (plus (balance_at s t) (balance_at s u)) (omega (arith, p, a, b, light))

pub add-storable : (s : Scene) (t : ℕ) (f : Form) → IsLight s → size f ≤ 1
    → IsStorable (plus (balance_at s t) f)
add-storable s t f light small =
    let p = size-plus (balance_at s t) f in
    let a = balance_at-light s t in
    size-storable (plus (balance_at s t) f) (omega (arith, p, a, small, light))

-- ---- scenes that come of others

pub record Grows (n : ℕ) (s t : Scene) : Type 0 where
  pub scene : IsScene t
  pub width : t.width ≡ s.width
  pub made : length t.shape.made ≡ length s.shape.made
  pub light : weight t ≤ weight s + n

pub grows-none : (s : Scene) → IsScene s → Grows 0 s s
grows-none s h = record { scene = h; width = refl; made = refl; light = omega arith }

pub grows-loose : (m n : ℕ) (s t : Scene) → m ≤ n → Grows m s t → Grows n s t
grows-loose m n s t le h = record {
  scene = h.scene;
  width = h.width;
  made = h.made;
  light = (let a = h.light in omega (arith, a, le));
}

pub grows-then : (m n : ℕ) (s t u : Scene) → Grows m s t → Grows n t u → Grows (m + n) s u
grows-then m n s t u h k = record {
  scene = k.scene;
  width = k.width ∙ h.width;
  made = k.made ∙ h.made;
  light = (let a = h.light in let b = k.light in omega (arith, a, b));
}

pub grows-add : (t : ℕ) (f : Form) (s : Scene) → IsScene s → HasWidth s.width f → size f ≤ 1
    → Grows 1 s (add_form t f s)
grows-add t f s h w small = record {
  scene = add_form-scene s t f h w;
  width = refl;
  made = refl;
  light = (
      let a = set_weight s.width s.balances t (Some (plus (balance_at s t) f)) in
      let p = size-plus (balance_at s t) f in
      omega (arith, a, p, small)
      );
}

pub grows-merge : (t u : ℕ) (s : Scene) → IsScene s → t < length s.shape.made → (t == u) ≡ false
    → Grows 0 s (merge t u s)
grows-merge t u s h lt apart =
    let sum = plus (balance_at s t) (balance_at s u) in
    let ne : u ≢ t = λ e. (let f : (t == u) ≡ true = grind (arith, e) in cc) in
    record {
      scene = merge_scene t u s h lt;
      width = refl;
      made = length-set s.shape.made t (is_made s.shape t || is_made s.shape u);
      light = (
          let a = set_weight s.width s.balances t (Some sum) in
          let b = set_weight s.width (slice_set s.balances t (Some sum)) u None in
          let other = ap (weigh s.width) (get_or-set_other s.balances t u (Some sum) None ne) in
          let p = size-plus (balance_at s t) (balance_at s u) in
          let z = size-zero s.width in
          omega (arith, a, b, other, p, z)
          );
    }
