-- Sums of coefficients times coordinates.
use Rattle.std.proofs.Common.{inl, inr, ◌≡◌, ◌∙◌, ◌≤◌, ℕ, zero, suc, ◌+◌, ◌*◌, ◌<◌, ◌^◌, ℤ, pos, ◌+ℤ◌, ◌*ℤ◌, List, []}
use Rattle.std.proofs.Common.{◌∷◌, length, take, refl, sym, ap, subst, arith}
use Rattle.std.proofs.lemmas.Int.{ints}
use Rattle.std.specs.List.{All}
use Rattle.std.proofs.lemmas.List.Elements.{All-drop}
use Rattle.pungi_domain.specs.Vectors.{Vector, at, dot, IsWithin}
use Rattle.pungi_affine.specs.Spans.{comb, InSpan}
use Rattle.pungi_domain.specs.Ring.{mul_comm, mul_add, mul_swap, mul_zero, product_zero}

-- one more coordinate
pub dot_more : (e : List ℤ) (v : Vector) (i : ℕ) → i < length e
    → dot (take (i + 1) e) v ≡ dot (take i e) v +ℤ (at e i *ℤ v i)
dot_more [] v i lt = absurd (omega arith)
dot_more (c ∷ e) v zero lt = omega (arith, ints)
dot_more (c ∷ e) v (suc i) lt =
    (let n : suc i + 1 ≡ suc (i + 1) = omega arith in rw n (let h = dot_more e (λ k. v (suc k)) i
    (omega (arith, lt)) in omega (arith, ints, h)))

pub dot_same : (e : List ℤ) (u v : Vector) → ((i : ℕ) → i < length e → u i ≡ v i) → dot e u ≡ dot e v
dot_same [] u v h = refl
dot_same (c ∷ e) u v h =
    let a : c *ℤ u 0 ≡ c *ℤ v 0 = ap (λ z. c *ℤ z) (h 0 (omega arith)) in
    let b = dot_same e (λ i. u (suc i)) (λ i. v (suc i)) (λ i lt. h (suc i) (omega (arith, lt))) in
    omega (arith, ints, a, b)

pub dot_sum : (e : List ℤ) (a b : ℤ) (u v : Vector)
    → dot e (λ i. (a *ℤ u i) +ℤ (b *ℤ v i)) ≡ (a *ℤ dot e u) +ℤ (b *ℤ dot e v)
dot_sum [] a b u v = (let p = mul_zero a in let q = mul_zero b in omega (arith, ints, p, q))
dot_sum (c ∷ e) a b u v =
    let h = dot_sum e a b (λ i. u (suc i)) (λ i. v (suc i)) in
    let f = mul_add c (a *ℤ u 0) (b *ℤ v 0) in
    let p = mul_swap c a (u 0) in
    let q = mul_swap c b (v 0) in
    let s = mul_add a (c *ℤ u 0) (dot e (λ i. u (suc i))) in
    let t = mul_add b (c *ℤ v 0) (dot e (λ i. v (suc i))) in
    omega (arith, ints, h, f, p, q, s, t)

zero_mul : (a : ℤ) → pos 0 *ℤ a ≡ pos 0
zero_mul a = mul_comm (pos 0) a ∙ mul_zero a

pub dot_zero : (es : List ℤ) → dot es (λ i. pos 0) ≡ pos 0
dot_zero [] = refl
dot_zero (e ∷ es) = (let h = dot_zero es in let z = mul_zero e in omega (arith, ints, h, z))

dot_comb : (es cs : List ℤ) (vs : List (List ℤ)) → All (λ v. dot es (at v) ≡ pos 0) vs → dot es (comb cs vs) ≡ pos 0
dot_comb es [] vs h = dot_zero es
dot_comb es (c ∷ cs) [] h = dot_zero es
dot_comb es (c ∷ cs) (v ∷ vs) h =
    let a = dot_sum es c (pos 1) (at v) (comb cs vs) in
    let b = dot_same es (comb (c ∷ cs) (v ∷ vs)) (λ i. (c *ℤ at v i) +ℤ (pos 1 *ℤ comb cs vs i))
    (λ i lt. omega (arith, ints)) in
    let x : c *ℤ dot es (at v) ≡ pos 0 = ap (λ z. c *ℤ z) (h 0 [] (omega arith)) ∙ mul_zero c in
    let y = dot_comb es cs vs (All-drop (λ z. dot es (at z) ≡ pos 0) 1 (v ∷ vs) h) in
    omega (arith, ints, a, b, x, y)

-- an equation that all rows meet is met by each member
pub member_meets : (w : ℕ) (es : List ℤ) (vs : List (List ℤ)) (v : ℕ → ℤ) → length es ≤ w
    → All (λ x. dot es (at x) ≡ pos 0) vs → InSpan w vs v → dot es v ≡ pos 0
member_meets w es vs v le h p =
    let a = dot_sum es p.times (pos 0) v v in
    let b = dot_same es (λ i. (p.times *ℤ v i) +ℤ (pos 0 *ℤ v i)) (comb p.factors vs)
    (λ i lt. let e = p.exact i (omega (arith, le, lt)) in let z = zero_mul (v i) in omega (arith, ints, e, z)) in
    let c = dot_comb es p.factors vs h in
    let z = zero_mul (dot es v) in
    let e : p.times *ℤ dot es v ≡ pos 0 = omega (arith, ints, a, b, c, z) in
    elim (product_zero p.times (dot es v) e) [ inl y ↦ absurd (p.not_zero y) | inr y ↦ y ]

-- one more coordinate, of which only the leading one has a large coefficient
tight_sum : (e : List ℤ) (v : Vector) (i : ℕ) (sum term : ℤ) → sum ≡ dot (take i e) v
    → IsWithin (2 ^ 94 + i * 2 ^ 51) sum → IsWithin (2 ^ 94) term → (0 < i → IsWithin (2 ^ 51) term)
    → IsWithin (2 ^ 94 + (i + 1) * 2 ^ 51) (sum +ℤ term)
tight_sum e v zero sum term is s t n =
    (let a = t.0 in omega (arith, ints, is, a), let b = t.1 in omega (arith, ints, is, b))
tight_sum e v (suc i) sum term is s t n = (
  let a = s.0 in let b = (n (omega arith)).0 in omega (arith, ints, a, b),
  let a = s.1 in let b
      = (n (omega arith)).1 in omega (arith, ints, a, b),
)

pub tight_more : (e : List ℤ) (v : Vector) (i : ℕ) (sum term z : ℤ) → sum ≡ dot (take i e) v
    → IsWithin (2 ^ 94 + i * 2 ^ 51) sum → IsWithin (2 ^ 94) term → (0 < i → IsWithin (2 ^ 51) term)
    → z ≡ sum +ℤ term → IsWithin (2 ^ 94 + (i + 1) * 2 ^ 51) z
tight_more e v i sum term z is s t n same =
    subst (λ (y : ℤ). IsWithin (2 ^ 94 + (i + 1) * 2 ^ 51) y) (sym same) (tight_sum e v i sum term is s t n)
