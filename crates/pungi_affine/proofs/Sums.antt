-- Sums of a span and vectors.
use Rattle.std.proofs.Common.{◌≡◌, ◌∙◌, ℕ, zero, suc, ◌<◌, ◌⊎◌, inl, inr, ℤ, pos, ◌+ℤ◌, ◌*ℤ◌, List, [], ◌∷◌, ◌++◌}
use Rattle.std.proofs.Common.{length, slice_index_or, ap, arith}
use Rattle.std.proofs.lemmas.Int.{ints}
use Rattle.pungi_domain.specs.Vectors.{Vector, Vectors, dot}
use Rattle.pungi_domain.specs.Spans.{Plus, LargeSum, LargeSums}
use Rattle.pungi_domain.specs.Ring.{mul_zero, product_zero}
use Rattle.pungi_affine.specs.Spans.{SameMembers}
use Rattle.pungi_affine.specs.Sums.{Sums}
use Rattle.pungi_affine.proofs.Reduced.{zero_mul}
use Rattle.pungi_affine.proofs.Dots.{dot_same, dot_sum}
use Rattle.pungi_affine.proofs.Members.{same_self, plus_same, SameVectors}

pub sums_same : (w : ℕ) (S T : Vectors) → SameMembers S T → (us vs : List Vector) → SameVectors w us vs
    → SameMembers (Sums w S us) (Sums w T vs)
sums_same w S T s [] [] e = s
sums_same w S T s [] (v ∷ vs) e = absurd e
sums_same w S T s (u ∷ us) [] e = absurd e
sums_same w S T s (u ∷ us) (v ∷ vs) e = sums_same w (Plus w S u) (Plus w T v) (plus_same w S T s u v e.0) us vs e.1

plus_kept : (w : ℕ) (S : Vectors) (v x : Vector) → S x → Plus w S v x
plus_kept w S v x h =
    record {
      times = pos 1;
      not_zero = λ e. absurd (omega (arith, ints, e));
      part = x;
      part_in = h;
      factor = pos 0;
      exact = λ i lt. let z = zero_mul (v i) in omega (arith, ints, z);
    }

pub sums_kept : (w : ℕ) (S : Vectors) (vs : List Vector) (x : Vector) → S x → Sums w S vs x
sums_kept w S [] x h = h
sums_kept w S (v ∷ vs) x h = sums_kept w (Plus w S v) vs x (plus_kept w S v x h)

pub plus_has : (w : ℕ) (S : Vectors) (v : Vector) → S (λ i. pos 0) → Plus w S v v
plus_has w S v h =
    record {
      times = pos 1;
      not_zero = λ e. absurd (omega (arith, ints, e));
      part = λ i. pos 0;
      part_in = h;
      factor
          = pos 1;
      exact = λ i lt. omega (arith, ints);
    }

pub sums_has : (w : ℕ) (S : Vectors) (vs : List Vector) (k : ℕ) (d : Vector) → S (λ i. pos 0) → k < length vs
    → Sums w S vs (slice_index_or vs k d)
sums_has w S [] k d h lt = absurd (omega arith)
sums_has w S (v ∷ vs) zero d h lt = sums_kept w (Plus w S v) vs v (plus_has w S v h)
sums_has w S (v ∷ vs) (suc k) d h lt =
    sums_has w (Plus w S v) vs k d (plus_kept w S v (λ i. pos 0) h) (omega (arith, lt))

-- an equation that S and the vector meet is met by their sums
pub plus_meets : (w : ℕ) (S : Vectors) (v : Vector) (e : List ℤ) → length e ≡ w
    → ((x : Vector) → S x → dot e x ≡ pos 0) → dot e v ≡ pos 0 → (x : Vector) → Plus w S v x → dot e x ≡ pos 0
plus_meets w S v e len h z x p =
    let a = dot_sum e p.times (pos 0) x x in
    let b = dot_sum e (pos 1) p.factor p.part v in
    let c = dot_same e (λ i. (p.times *ℤ x i) +ℤ (pos 0 *ℤ x i)) (λ i. (pos 1 *ℤ p.part i) +ℤ (p.factor *ℤ v i))
    (λ i lt. let f = p.exact i (omega (arith, len, lt)) in let y = zero_mul (x i) in omega (arith, ints, f, y)) in
    let d = h p.part p.part_in in
    let f : p.factor *ℤ dot e v ≡ pos 0 = ap (λ u. p.factor *ℤ u) z ∙ mul_zero p.factor in
    let y = zero_mul (dot e x) in
    let g : p.times *ℤ dot e x ≡ pos 0 = omega (arith, ints, a, b, c, d, f, y) in
    elim (product_zero p.times (dot e x) g) [ inl n ↦ absurd (p.not_zero n) | inr n ↦ n ]

pub sums_meet : (w : ℕ) (S : Vectors) (vs : List Vector) (e : List ℤ) → length e ≡ w
    → ((x : Vector) → S x → dot e x ≡ pos 0)
    → ((k : ℕ) → k < length vs → dot e (slice_index_or vs k (λ _. pos 0)) ≡ pos 0) → (x : Vector) → Sums w S vs x
    → dot e x ≡ pos 0
sums_meet w S [] e len h all x m = h x m
sums_meet w S (v ∷ vs) e len h all x m =
    sums_meet w (Plus w S v) vs e len (plus_meets w S v e len h (all 0 (omega arith)))
    (λ k lt. all (suc k) (omega (arith, lt))) x m

-- one more vector
pub sums_more : (w : ℕ) (S : Vectors) (us : List Vector) (v : Vector)
    → SameMembers (Plus w (Sums w S us) v) (Sums w S (us ++ v ∷ []))
sums_more w S [] v = same_self (Plus w S v)
sums_more w S (u ∷ us) v = sums_more w (Plus w S u) us v

pub large_more : (w : ℕ) (S : Vectors) (us : List Vector) (v : Vector) (r : List ℤ) → LargeSums w S (us ++ v ∷ []) r
    → LargeSums w S us r ⊎ LargeSum w (Sums w S us) v r
large_more w S [] v r (inl h) = inr h
large_more w S [] v r (inr h) = absurd h
large_more w S (u ∷ us) v r (inl h) = inl (inl h)
large_more w S (u ∷ us) v r (inr h) = elim (large_more w (Plus w S u) us v r h) [ inl a ↦ inl (inr a) | inr a ↦ inr a ]

-- an addition on the way that is large makes the whole large
pub large_on : (w : ℕ) (S : Vectors) (us : List Vector) (v : Vector) (vs : List Vector) (r : List ℤ)
    → LargeSum w (Sums w S us) v r → LargeSums w S (us ++ v ∷ vs) r
large_on w S [] v vs r h = inl h
large_on w S (u ∷ us) v vs r h = inr (large_on w (Plus w S u) us v vs r h)
