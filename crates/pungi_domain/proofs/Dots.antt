-- Sums of coefficients times coordinates.
use Rattle.std.proofs.Common.{◌≡◌, ℕ, zero, suc, ◌+◌, ◌<◌, ℤ, pos, ◌+ℤ◌, ◌*ℤ◌, List, [], ◌∷◌, length, take, refl, ap}
use Rattle.std.proofs.Common.{arith}
use Rattle.std.proofs.lemmas.Int.{ints}
use Rattle.pungi_domain.specs.Vectors.{Vector, at, dot, row_sum}
use Rattle.pungi_domain.specs.Constants.{pair_at}
use Rattle.pungi_domain.specs.Ring.{mul_add, mul_swap, mul_zero}

-- one more coordinate
pub dot_more : (e : List ℤ) (v : Vector) (i : ℕ) → i < length e
    → dot (take (i + 1) e) v ≡ dot (take i e) v +ℤ (at e i *ℤ v i)
dot_more [] v i lt = absurd (omega arith)
dot_more (c ∷ e) v zero lt = omega (arith, ints)
dot_more (c ∷ e) v (suc i) lt =
    (let n : suc i + 1 ≡ suc (i + 1) = omega arith in rw n (let h = dot_more e (λ k. v (suc k)) i
    (omega (arith, lt)) in omega (arith, ints, h)))

pub dot_same : (e : List ℤ) (u v : Vector) → ((i : ℕ) → i < length e → u i ≡ v i) → dot e u ≡ dot e v
dot_same [] u v h = refl
dot_same (c ∷ e) u v h =
    let a : c *ℤ u 0 ≡ c *ℤ v 0 = ap (λ z. c *ℤ z) (h 0 (omega arith)) in
    let b = dot_same e (λ i. u (suc i)) (λ i. v (suc i)) (λ i lt. h (suc i) (omega (arith, lt))) in
    omega (arith, ints, a, b)

pub dot_sum : (e : List ℤ) (a b : ℤ) (u v : Vector)
    → dot e (λ i. (a *ℤ u i) +ℤ (b *ℤ v i)) ≡ (a *ℤ dot e u) +ℤ (b *ℤ dot e v)
dot_sum [] a b u v = (let p = mul_zero a in let q = mul_zero b in omega (arith, ints, p, q))
dot_sum (c ∷ e) a b u v =
    let h = dot_sum e a b (λ i. u (suc i)) (λ i. v (suc i)) in
    let f = mul_add c (a *ℤ u 0) (b *ℤ v 0) in
    let p = mul_swap c a (u 0) in
    let q = mul_swap c b (v 0) in
    let s = mul_add a (c *ℤ u 0) (dot e (λ i. u (suc i))) in
    let t = mul_add b (c *ℤ v 0) (dot e (λ i. v (suc i))) in
    omega (arith, ints, h, f, p, q, s, t)

pub dot_none : (e : List ℤ) (v : Vector) → ((i : ℕ) → i < length e → at e i *ℤ v i ≡ pos 0) → dot e v ≡ pos 0
dot_none [] v h = refl
dot_none (c ∷ e) v h =
    let a : c *ℤ v 0 ≡ pos 0 = h 0 (omega arith) in
    let b = dot_none e (λ i. v (suc i)) (λ i lt. h (suc i) (omega (arith, lt))) in
    omega (arith, ints, a, b)

pub dot_one : (e : List ℤ) (v : Vector) (p : ℕ) → p < length e
    → ((i : ℕ) → i < length e → (i ≡ p → ⊥) → at e i *ℤ v i ≡ pos 0) → dot e v ≡ at e p *ℤ v p
dot_one [] v p lt h = absurd (omega arith)
dot_one (c ∷ e) v zero lt h =
    let b = dot_none e (λ i. v (suc i)) (λ i i_lt. h (suc i) (omega (arith, i_lt)) (λ s. absurd (omega (arith, s)))) in
    omega (arith, ints, b)
dot_one (c ∷ e) v (suc p) lt h =
    let a : c *ℤ v 0 ≡ pos 0 = h 0 (omega arith) (λ s. absurd (omega (arith, s))) in
    let b = dot_one e (λ i. v (suc i)) p (omega (arith, lt)) (λ i i_lt ne. h (suc i) (omega (arith, i_lt))
    (λ s. ne (omega (arith, s)))) in
    omega (arith, ints, a, b)

pub row_sum_more : (row : List (ℕ × ℤ)) (v : Vector) (k : ℕ) → k < length row
    → row_sum (take (k + 1) row) v ≡ row_sum (take k row) v +ℤ ((pair_at row k).1 *ℤ v (pair_at row k).0)
row_sum_more [] v k lt = absurd (omega arith)
row_sum_more (p ∷ row) v zero lt = omega (arith, ints)
row_sum_more (p ∷ row) v (suc k) lt =
    (let n : suc k + 1 ≡ suc (k + 1) = omega arith in rw n (let h = row_sum_more row v k (omega (arith, lt)) in
    omega (arith, ints, h)))
