-- Forms, by the coefficients that are stored.
use Rattle.std.proofs.Common.{◌≡◌, ◌∙◌, ℕ, suc, ◌==◌, ◌<◌, ◌≤◌, ℤ, pos, ◌+ℤ◌, ◌*ℤ◌, Bool, true, false, List, [], ◌∷◌}
use Rattle.std.proofs.Common.{length, refl, sym, ap, arith, inl, inr, if◌then◌else◌}
use Rattle.std.proofs.lemmas.Int.{ints}
use Rattle.std.proofs.lemmas.List.Elements.{All-cons, All-nil}
use Rattle.std.specs.List.{range_with_len}
use Rattle.std.specs.Ordering.{int_eq}
use Rattle.pungi_domain.specs.Ring.{mul_zero}
use Rattle.pungi_shape.specs.Forms.{Form, zero_form, unit, plus, times, constant, factors, coefficient, dense}
use Rattle.pungi_shape.specs.Forms.{factor_at, IsFactor, IsSparse, IsStorable, IsSum, scale}
use Rattle.pungi_shape.proofs.FactorLemmas.{All-map_range, coefficient-past, coefficient-scale, factor_sum}
use Rattle.pungi_shape.proofs.FactorLemmas.{factors-dense, length-map_range, lt_or_ge, map_range_same, not_zero_from}
use Rattle.pungi_shape.proofs.FactorLemmas.{plus-map_range, replicate-map_range, times-map}

-- ---- forms that are stored

pub dense-zero : (w : ℕ) → dense w [] ≡ zero_form w
dense-zero w = replicate-map_range 0 w

pub length-dense : (w : ℕ) (fs : List (ℕ × ℤ)) → length (dense w fs) ≡ w
length-dense w fs = length-map_range (coefficient fs) 0 w

pub dense_same : (w : ℕ) (fs gs : List (ℕ × ℤ)) → ((k : ℕ) → k < w → coefficient fs k ≡ coefficient gs k)
    → dense w fs ≡ dense w gs
dense_same w fs gs h = map_range_same (coefficient fs) (coefficient gs) 0 w (λ k low high. h k (omega (arith, high)))

pub dense-sum : (w : ℕ) (fs gs hs : List (ℕ × ℤ)) → IsSum fs gs hs → dense w hs ≡ plus (dense w fs) (dense w gs)
dense-sum w fs gs hs h =
    map_range_same (coefficient hs) (λ k. coefficient fs k +ℤ coefficient gs k) 0 w (λ k low high. h.sums k)
    ∙ sym (plus-map_range (coefficient fs) (coefficient gs) 0 w)

pub dense-scale : (n : ℤ) (w : ℕ) (fs : List (ℕ × ℤ)) → dense w (scale n fs) ≡ times n (dense w fs)
dense-scale n w fs =
    map_range_same (coefficient (scale n fs)) (λ k. n *ℤ coefficient fs k) 0 w (λ k low high. coefficient-scale n fs k)
    ∙ sym (times-map n (coefficient fs) (range_with_len 0 w))

pub sum_sparse : (w : ℕ) (fs gs hs : List (ℕ × ℤ)) → IsSparse w fs → IsSparse w gs → IsSum fs gs hs → IsSparse w hs
sum_sparse w fs gs hs f g h = record { sorted = h.sorted; below = h.below w f.below g.below }

pub factors-sparse : (w : ℕ) (fs : List (ℕ × ℤ)) → IsSparse w fs → factors (dense w fs) ≡ fs
factors-sparse w fs h = factors-dense fs 0 w h.sorted (λ i d lt. let b = h.below i d lt in omega (arith, b))

-- what is stored of a sum may be stored at each coordinate
pub sum_storable : (w : ℕ) (fs gs : List (ℕ × ℤ)) → IsSparse w fs → IsSparse w gs
    → IsStorable (plus (dense w fs) (dense w gs)) → (k : ℕ) → IsFactor (coefficient fs k +ℤ coefficient gs k)
sum_storable w fs gs f g h k =
    elim (lt_or_ge k w) [
      | inl lt ↦ All-map_range IsFactor (λ i. coefficient fs i +ℤ coefficient gs i) 0 w k
          (rw plus-map_range at h) (omega arith) (omega (arith, lt))
      | inr ge ↦ rw (coefficient-past fs w k f.below ge, coefficient-past gs w k g.below ge)
          (omega (arith, ints), omega (arith, ints))
    ]

pub scale_storable : (n : ℤ) (w : ℕ) (fs : List (ℕ × ℤ)) → IsSparse w fs → IsStorable (times n (dense w fs))
    → (k : ℕ) → IsFactor (n *ℤ coefficient fs k)
scale_storable n w fs f h k =
    elim (lt_or_ge k w) [
      | inl lt ↦ All-map_range IsFactor (λ i. n *ℤ coefficient fs i) 0 w k
          (rw times-map at h) (omega arith) (omega (arith, lt))
      | inr ge ↦ rw (coefficient-past fs w k f.below ge, mul_zero n) (omega (arith, ints), omega (arith, ints))
    ]

pub dense-unit : (w k : ℕ) → dense w ((k, pos 1) ∷ []) ≡ unit w k
dense-unit w k =
    map_range_same (coefficient ((k, pos 1) ∷ [])) (λ i. if i == k then pos 1 else pos 0) 0 w
    (λ i low high. omega (arith, ints))

unit_past : (w k : ℕ) → w ≤ k → dense w [] ≡ unit w k
unit_past w k h =
    map_range_same (coefficient []) (λ i. if i == k then pos 1 else pos 0) 0 w
    (λ i low high. let ne : (i == k) ≡ false = grind (arith, h, high) in rw ne refl)

pub multiple_there : (w k : ℕ) (n : ℤ) → dense w (factor_at k n) ≡ times n (unit w k)
multiple_there w k n =
    map_range_same (coefficient (factor_at k n)) (λ i. n *ℤ (if i == k then pos 1 else pos 0)) 0 w
    (λ i low high. factor_sum [] k n i ∙ pick (i == k))
    ∙ sym (times-map n (λ i. if i == k then pos 1 else pos 0) (range_with_len 0 w))
  where
    pick : (b : Bool) → pos 0 +ℤ (if b then n else pos 0) ≡ n *ℤ (if b then pos 1 else pos 0)
    pick true = omega (arith, ints)
    pick false = (let z = mul_zero n in omega (arith, ints, z))

-- there is no such coordinate
pub multiple_past : (w k : ℕ) (n : ℤ) → w ≤ k → zero_form w ≡ times n (unit w k)
multiple_past w k n ge =
    sym (dense-zero w)
    ∙ map_range_same (coefficient []) (λ i. n *ℤ (if i == k then pos 1 else pos 0)) 0 w
    (λ i low high. let ne : (i == k) ≡ false = grind (arith, ge, high) in
    let z = mul_zero n in rw ne (omega (arith, ints, z)))
    ∙ sym (times-map n (λ i. if i == k then pos 1 else pos 0) (range_with_len 0 w))

pub times_one : (w k : ℕ) → times (pos 1) (unit w k) ≡ unit w k
times_one w k =
    times-map (pos 1) (λ i. if i == k then pos 1 else pos 0) (range_with_len 0 w)
    ∙ map_range_same (λ i. pos 1 *ℤ (if i == k then pos 1 else pos 0)) (λ i. if i == k then pos 1 else pos 0) 0 w
    (λ i low high. pick (i == k))
  where
    pick : (b : Bool) → pos 1 *ℤ (if b then pos 1 else pos 0) ≡ (if b then pos 1 else pos 0)
    pick true = omega (arith, ints)
    pick false = omega (arith, ints)

pub one_sparse : (w k : ℕ) (n : ℤ) → k < w → IsFactor n → IsSparse w (factor_at k n)
one_sparse w k n lt is = go (int_eq n (pos 0)) refl
  where
    go : (b : Bool) → int_eq n (pos 0) ≡ b → IsSparse w (factor_at k n)
    go true e = rw e (record { sorted = tt; below = All-nil (λ p. p.0 < w) })
    go false e = rw e (record {
      sorted = (omega arith, not_zero_from n e, is, tt);
      below = All-cons (λ p. p.0 < w) (k, n) [] lt (All-nil (λ p. p.0 < w));
    })

pub none_sparse : (w : ℕ) → IsSparse w []
none_sparse w = record { sorted = tt; below = All-nil (λ p. p.0 < w) }

-- ---- what forms stand for

same_width : (w v : ℕ) (fs gs : List (ℕ × ℤ)) (f g : Form) → dense w fs ≡ f → dense v gs ≡ g → length f ≡ length g
    → v ≡ w
same_width w v fs gs f g a b e = (let p = length-dense w fs in let q = length-dense v gs in
    let x : length f ≡ w = rw (← a) p in let y : length g ≡ v = rw (← b) q in omega (arith, e, x, y))

pub plus_storable : (w v : ℕ) (fs gs : List (ℕ × ℤ)) (f g : Form) → dense w fs ≡ f → dense v gs ≡ g
    → length f ≡ length g → IsSparse w fs → IsSparse v gs → IsStorable (plus f g)
    → (k : ℕ) → IsFactor (coefficient fs k +ℤ coefficient gs k)
plus_storable w v fs gs f g a b e p q h =
    let s = same_width w v fs gs f g a b e in
    let q2 : IsSparse w gs = rw s at q in
    let b2 : dense w gs ≡ g = rw s at b in
    sum_storable w fs gs p q2 (rw (a, b2) h)

pub plus_dense : (w v : ℕ) (fs gs hs : List (ℕ × ℤ)) (f g : Form) → dense w fs ≡ f → dense v gs ≡ g
    → length f ≡ length g → IsSum fs gs hs → dense w hs ≡ plus f g
plus_dense w v fs gs hs f g a b e h =
    let s = same_width w v fs gs f g a b e in
    let b2 : dense w gs ≡ g = rw s at b in
    rw (← a, ← b2) (dense-sum w fs gs hs h)

pub plus_sparse : (w v : ℕ) (fs gs hs : List (ℕ × ℤ)) (f g : Form) → dense w fs ≡ f → dense v gs ≡ g
    → length f ≡ length g → IsSparse w fs → IsSparse v gs → IsSum fs gs hs → IsSparse w hs
plus_sparse w v fs gs hs f g a b e p q h =
    let s = same_width w v fs gs f g a b e in
    let q2 : IsSparse w gs = rw s at q in
    sum_sparse w fs gs hs p q2 h

pub times_storable : (n : ℤ) (w : ℕ) (fs : List (ℕ × ℤ)) (f : Form) → dense w fs ≡ f → IsSparse w fs
    → IsStorable (times n f) → (k : ℕ) → IsFactor (n *ℤ coefficient fs k)
times_storable n w fs f a p h = scale_storable n w fs p (rw a h)

pub times_dense : (n : ℤ) (w : ℕ) (fs hs : List (ℕ × ℤ)) (f : Form) → dense w fs ≡ f → hs ≡ scale n fs
    → dense w hs ≡ times n f
times_dense n w fs hs f a e = rw (e, ← a) (dense-scale n w fs)

-- 0 times a form
pub times_none : (w : ℕ) (fs : List (ℕ × ℤ)) (f : Form) → dense w fs ≡ f → zero_form w ≡ times (pos 0) f
times_none w fs f a =
    rw (← a, times-map (pos 0) (coefficient fs) (range_with_len 0 w)) (sym (replicate-map_range 0 w)
    ∙ map_range_same (λ k. pos 0) (λ k. pos 0 *ℤ coefficient fs k) 0 w (λ k low high. omega (arith, ints)))

-- ---- whether a form is a coordinate

pub is_unit_yes : (w k : ℕ) (fs : List (ℕ × ℤ)) (f : Form) → dense w fs ≡ f → fs ≡ (k, pos 1) ∷ []
    → f ≡ unit (length f) k
is_unit_yes w k fs f a e =
    let l : length f ≡ w = rw (← a) (length-dense w fs) in
    rw l (rw (← a, e) (dense-unit w k))

pub is_unit_past : (w k : ℕ) (fs : List (ℕ × ℤ)) (f : Form) → dense w fs ≡ f → w ≤ k → fs ≡ [] → f ≡ unit (length f) k
is_unit_past w k fs f a ge e =
    let l : length f ≡ w = rw (← a) (length-dense w fs) in
    rw l (rw (← a, e) (unit_past w k ge))

pub is_unit_one : (w k : ℕ) (fs : List (ℕ × ℤ)) (f : Form) → dense w fs ≡ f → IsSparse w fs → k < w
    → f ≡ unit (length f) k → fs ≡ (k, pos 1) ∷ []
is_unit_one w k fs f a p lt u =
    let l : length f ≡ w = rw (← a) (length-dense w fs) in
    let e : dense w fs ≡ dense w ((k, pos 1) ∷ []) = a ∙ (rw l at u) ∙ sym (dense-unit w k) in
    sym (factors-sparse w fs p) ∙ ap factors e
    ∙ factors-sparse w ((k, pos 1) ∷ []) (one_sparse w k (pos 1) lt (omega (arith, ints), omega (arith, ints)))

pub is_unit_none : (w k : ℕ) (fs : List (ℕ × ℤ)) (f : Form) → dense w fs ≡ f → IsSparse w fs → w ≤ k
    → f ≡ unit (length f) k → fs ≡ []
is_unit_none w k fs f a p ge u =
    let l : length f ≡ w = rw (← a) (length-dense w fs) in
    let e : dense w fs ≡ dense w [] = a ∙ (rw l at u) ∙ sym (unit_past w k ge) in
    sym (factors-sparse w fs p) ∙ ap factors e ∙ factors-sparse w [] (none_sparse w)

pub no_factors : (fs : List (ℕ × ℤ)) (b : Bool) → b ≡ (length fs == 0) → b ≡ true → fs ≡ []
no_factors [] b e t = refl
no_factors (p ∷ fs) b e t = (let f : (suc (length fs) == 0) ≡ false = grind arith in cc)

pub are_no_factors : (fs : List (ℕ × ℤ)) (b : Bool) → b ≡ (length fs == 0) → fs ≡ [] → b ≡ true
are_no_factors fs b e n = rw (e, n) refl

pub length-constant : (w : ℕ) (n : ℤ) → length (constant w n) ≡ w
length-constant w n =
    ap length (times-map n (λ i. if i == 0 then pos 1 else pos 0) (range_with_len 0 w))
    ∙ length-map_range (λ i. n *ℤ (if i == 0 then pos 1 else pos 0)) 0 w
