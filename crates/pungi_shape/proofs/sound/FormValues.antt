-- What forms are at a vector.
use Rattle.std.proofs.Common.{◌≡◌, ℕ, zero, suc, ◌+◌, ◌<◌, ℤ, pos, negsuc, ◌+ℤ◌, ◌*ℤ◌, ◌-ℤ◌, List, [], ◌∷◌, ◌++◌}
use Rattle.std.proofs.Common.{length, get_or, map, Bool, true, false, refl, sym, ap, ◌∙◌, arith, inl, inr, cond}
use Rattle.std.specs.Prelude.{◌==◌}
use Rattle.std.specs.Ordering.{int_eq}
use Rattle.std.specs.List.{range_with_len}
use Rattle.std.proofs.lemmas.Int.{ints}
use Rattle.std.proofs.lemmas.Bool.Decides.{eqb_tells, Decides-int_eq}
use Rattle.std.proofs.lemmas.List.{length-map, length-replicate}
use Rattle.pungi_domain.specs.Ring.{add_mul, mul_add, mul_assoc}
use Rattle.pungi_domain.specs.Vectors.{Vector, dot, row_sum, image}
use Rattle.pungi_shape.specs.Forms.{Form, zero_form, unit, plus, times, minus, constant, factors_from, factors}

-- ---- widths

pub length_zero : (w : ℕ) → length (zero_form w) ≡ w
length_zero w = length-replicate w (pos 0)

pub length_times : (n : ℤ) (f : Form) → length (times n f) ≡ length f
length_times n f = length-map f (λ c. n *ℤ c)

pub length_plus : (f g : Form) → length f ≡ length g → length (plus f g) ≡ length f
length_plus [] g e = refl
length_plus (a ∷ f) [] e = sym e
length_plus (a ∷ f) (b ∷ g) e = ap suc (length_plus f g (omega (arith, e)))

length_range : (a n : ℕ) → length (range_with_len a n) ≡ n
length_range a zero = refl
length_range a (suc n) = ap suc (length_range (a + 1) n)

pub length_unit : (w k : ℕ) → length (unit w k) ≡ w
length_unit w k = length-map (range_with_len 0 w) _ ∙ length_range 0 w

pub length_constant : (w : ℕ) (n : ℤ) → length (constant w n) ≡ w
length_constant w n = length_times n (unit w 0) ∙ length_unit w 0

pub length_minus : (f g : Form) → length f ≡ length g → length (minus f g) ≡ length f
length_minus f g e = length_plus f (times (negsuc 0) g) (e ∙ sym (length_times (negsuc 0) g))

-- ---- values

pub dot_zero : (w : ℕ) (v : Vector) → dot (zero_form w) v ≡ pos 0
dot_zero zero v = refl
dot_zero (suc w) v = let e = dot_zero w (λ i. v (suc i)) in omega (arith, ints, e)

pub dot_plus : (f g : Form) (v : Vector) → length f ≡ length g → dot (plus f g) v ≡ dot f v +ℤ dot g v
dot_plus [] [] v e = refl
dot_plus [] (b ∷ g) v e = absurd (omega (arith, e))
dot_plus (a ∷ f) [] v e = absurd (omega (arith, e))
dot_plus (a ∷ f) (b ∷ g) v e =
    let h = dot_plus f g (λ i. v (suc i)) (omega (arith, e)) in let k = add_mul a b (v 0) in omega (arith, ints, h, k)

times_zero : (n : ℤ) → n *ℤ pos 0 ≡ pos 0
times_zero n = grind (arith, ints)

pub dot_times : (n : ℤ) (f : Form) (v : Vector) → dot (times n f) v ≡ n *ℤ dot f v
dot_times n [] v = sym (times_zero n)
dot_times n (a ∷ f) v =
    let h = dot_times n f (λ i. v (suc i)) in
    let k = mul_assoc n a (v 0) in
    let l = mul_add n (a *ℤ v 0) (dot f (λ i. v (suc i))) in
    omega (arith, ints, h, k, l)

times_less : (x : ℤ) → negsuc 0 *ℤ x ≡ pos 0 -ℤ x
times_less x = grind (arith, ints)

pub dot_minus : (f g : Form) (v : Vector) → length f ≡ length g → dot (minus f g) v ≡ dot f v -ℤ dot g v
dot_minus f g v e =
    let h = dot_plus f (times (negsuc 0) g) v (e ∙ sym (length_times (negsuc 0) g)) in
    let k = dot_times (negsuc 0) g v in
    let l = times_less (dot g v) in
    omega (arith, ints, h, k, l)

-- ---- coordinates

times_one : (x : ℤ) → pos 1 *ℤ x ≡ x
times_one x = grind (arith, ints)

zero_times : (x : ℤ) → pos 0 *ℤ x ≡ pos 0
zero_times x = grind (arith, ints)

dot_past : (k a w : ℕ) (v : Vector) → k < a → dot (map (λ i. cond (i == k) (pos 1) (pos 0))
    (range_with_len a w)) v ≡ pos 0
dot_past k a zero v lt = refl
dot_past k a (suc w) v lt =
    let h = dot_past k (a + 1) w (λ i. v (suc i)) (omega (arith, lt)) in
    elim (eqb_tells a k) [
      | inl e ↦ absurd (let z = e.1 in omega (arith, lt, z))
      | inr e ↦ ap (λ b. (cond b (pos 1) (pos 0) *ℤ v 0) +ℤ dot
          (map (λ i. cond (i == k) (pos 1) (pos 0)) (range_with_len (a + 1) w)) (λ i. v (suc i))) e.0
          ∙ (let z = zero_times (v 0) in omega (arith, ints, h, z))
    ]

dot_mark : (k a w j : ℕ) (v : Vector) → a + j ≡ k → j < w → dot
    (map (λ i. cond (i == k) (pos 1) (pos 0)) (range_with_len a w)) v ≡ v j
dot_mark k a zero j v e lt = absurd (omega (arith, lt))
dot_mark k a (suc w) zero v e lt =
    let h = dot_past k (a + 1) w (λ i. v (suc i)) (omega (arith, e)) in
    elim (eqb_tells a k) [
      | inl t ↦ ap (λ b. (cond b (pos 1) (pos 0) *ℤ v 0) +ℤ dot
          (map (λ i. cond (i == k) (pos 1) (pos 0)) (range_with_len (a + 1) w)) (λ i. v (suc i))) t.0
          ∙ (let z = times_one (v 0) in omega (arith, ints, h, z))
      | inr t ↦ absurd (let z = t.1 in omega (arith, e, z))
    ]
dot_mark k a (suc w) (suc j) v e lt =
    let h = dot_mark k (a + 1) w j (λ i. v (suc i)) (omega (arith, e)) (omega (arith, lt)) in
    elim (eqb_tells a k) [
      | inl t ↦ absurd (let z = t.1 in omega (arith, e, z))
      | inr t ↦ ap (λ b. (cond b (pos 1) (pos 0) *ℤ v 0) +ℤ dot
          (map (λ i. cond (i == k) (pos 1) (pos 0)) (range_with_len (a + 1) w)) (λ i. v (suc i))) t.0
          ∙ (let z = zero_times (v 0) in omega (arith, ints, h, z))
    ]

pub dot_unit : (w k : ℕ) (v : Vector) → k < w → dot (unit w k) v ≡ v k
dot_unit w k v lt = dot_mark k 0 w k v (omega arith) lt

one_is : (n x : ℤ) → x ≡ pos 1 → n *ℤ x ≡ n
one_is n x e = ap (λ z. n *ℤ z) e ∙ grind (arith, ints)

pub dot_constant : (w : ℕ) (n : ℤ) (v : Vector) → 0 < w → v 0 ≡ pos 1 → dot (constant w n) v ≡ n
dot_constant w n v lt e = dot_times n (unit w 0) v ∙ ap (λ z. n *ℤ z) (dot_unit w 0 v lt) ∙ one_is n (v 0) e

-- ---- vectors that agree

pub dot_same : (f : Form) (u v : Vector) → ((i : ℕ) → i < length f → u i ≡ v i) → dot f u ≡ dot f v
dot_same [] u v same = refl
dot_same (a ∷ f) u v same =
    ap (λ z. (a *ℤ z) +ℤ dot f (λ i. u (suc i))) (same 0 (omega arith))
    ∙ ap (λ z. (a *ℤ v 0) +ℤ z) (dot_same f (λ i. u (suc i)) (λ i. v (suc i))
    (λ i lt. same (suc i) (omega (arith, lt))))

-- ---- rows of a matrix

row_sum-append : (r s : List (ℕ × ℤ)) (v : Vector) → row_sum (r ++ s) v ≡ row_sum r v +ℤ row_sum s v
row_sum-append [] s v = omega (arith, ints)
row_sum-append (p ∷ r) s v = let h = row_sum-append r s v in omega (arith, ints, h)

one_factor : (b : Bool) (k : ℕ) (c x : ℤ) (v : Vector) → (b ≡ true → c ≡ pos 0) → v k ≡ x
    → row_sum (cond b [] ((k, c) ∷ [])) v ≡ c *ℤ x
one_factor true k c x v is e = sym (ap (λ z. z *ℤ x) (is refl) ∙ zero_times x)
one_factor false k c x v is e = ap (λ z. (c *ℤ z) +ℤ pos 0) e ∙ (omega (arith, ints))

factors_sum : (k : ℕ) (f : Form) (v u : Vector) → ((i : ℕ) → v (k + i) ≡ u i) → row_sum (factors_from k f) v ≡ dot f u
factors_sum k [] v u same = refl
factors_sum k (c ∷ f) v u same =
    let here = one_factor (int_eq c (pos 0)) k c (u 0) v (λ t. (Decides-int_eq c (pos 0)).0 t)
    (ap v (omega arith) ∙ same 0) in
    let rest = factors_sum (k + 1) f v (λ i. u (suc i)) (λ i. ap v (omega arith) ∙ same (suc i)) in
    row_sum-append (cond (int_eq c (pos 0)) [] ((k, c) ∷ [])) (factors_from (k + 1) f) v
    ∙ (omega (arith, ints, here, rest))

pub dot_factors : (f : Form) (v : Vector) → row_sum (factors f) v ≡ dot f v
dot_factors f v = factors_sum 0 f v v (λ i. ap v (omega arith))

pub dot_image : (rows : List Form) (v : Vector) (i : ℕ) → image (map factors rows) v i ≡ dot (get_or rows i []) v
dot_image [] v i = refl
dot_image (f ∷ rows) v zero = dot_factors f v
dot_image (f ∷ rows) v (suc i) = dot_image rows v i
