-- The laws of products of whole numbers.
--   mul_comm a b, mul_assoc a b c, mul_swap a b c    the order and the grouping of factors
--   add_mul, mul_add, sub_mul, mul_sub a b c         a product with a sum or a difference
--   mul_zero a                                       a product with 0
--   product_zero a b h                               a product is 0 only where a factor is
--   cancel c a b ne h                                a factor other than 0 may be left out on both sides
use Rattle.std.proofs.Common.{◌≡◌, ◌∙◌, ℕ, zero, suc, ◌+◌, ◌*◌, ◌⊎◌, inl, inr, ℤ, pos, negsuc, ◌+ℤ◌, ◌-ℤ◌, ◌*ℤ◌, refl}
use Rattle.std.proofs.Common.{sym, ap, arith}
use Rattle.std.proofs.lemmas.Int.{ints, unsigned_abs-mul}
use Rattle.std.specs.Int.RustNames.{unsigned_abs}
use borrow.Author.Differences.{up, down}

sum_parts : (a b : ℤ) → up (a +ℤ b) + (down a + down b) ≡ down (a +ℤ b) + (up a + up b)
sum_parts a b = omega (arith, ints)

product_parts : (a b : ℤ) → up (a *ℤ b) + (up a * down b + down a * up b)
    ≡ down (a *ℤ b) + (up a * up b + down a * down b)
product_parts a b = omega (arith, ints)

pub mul_comm : (a b : ℤ) → a *ℤ b ≡ b *ℤ a
mul_comm a b = omega (arith, ints)

pub add_mul : (a b c : ℤ) → (a +ℤ b) *ℤ c ≡ (a *ℤ c) +ℤ (b *ℤ c)
add_mul a b c =
    let e = sum_parts a b in
    let f : (up (a +ℤ b) + (down a + down b)) * up c ≡ (down (a +ℤ b) + (up a + up b)) * up c = ap (λ n. n * up c) e in
    let g : (up (a +ℤ b) + (down a + down b)) * down c
    ≡ (down (a +ℤ b) + (up a + up b)) * down c = ap (λ n. n * down c) e in
    omega (arith, ints, f, g)

pub mul_assoc : (a b c : ℤ) → (a *ℤ b) *ℤ c ≡ a *ℤ (b *ℤ c)
mul_assoc a b c =
    let e = product_parts a b in
    let f : (up (a *ℤ b) + (up a * down b + down a * up b)) * up c
    ≡ (down (a *ℤ b) + (up a * up b + down a * down b)) * up c = ap (λ n. n * up c) e in
    let g : (up (a *ℤ b) + (up a * down b + down a * up b)) * down c
    ≡ (down (a *ℤ b) + (up a * up b + down a * down b)) * down c = ap (λ n. n * down c) e in
    let h = product_parts b c in
    let j : up a * (up (b *ℤ c) + (up b * down c + down b * up c))
    ≡ up a * (down (b *ℤ c) + (up b * up c + down b * down c)) = ap (λ n. up a * n) h in
    let k : down a * (up (b *ℤ c) + (up b * down c + down b * up c))
    ≡ down a * (down (b *ℤ c) + (up b * up c + down b * down c)) = ap (λ n. down a * n) h in
    omega (arith, ints, f, g, j, k)

pub mul_add : (a b c : ℤ) → a *ℤ (b +ℤ c) ≡ (a *ℤ b) +ℤ (a *ℤ c)
mul_add a b c =
    mul_comm a (b +ℤ c) ∙ add_mul b c a ∙ (let e = mul_comm b a in let f = mul_comm c a in omega
    (arith, ints, e, f))

pub sub_mul : (a b c : ℤ) → (a -ℤ b) *ℤ c ≡ (a *ℤ c) -ℤ (b *ℤ c)
sub_mul a b c =
    let e = add_mul (a -ℤ b) b c in
    let f : ((a -ℤ b) +ℤ b) *ℤ c ≡ a *ℤ c = ap (λ z. z *ℤ c) (omega (arith, ints)) in
    omega (arith, ints, e, f)

pub mul_sub : (a b c : ℤ) → a *ℤ (b -ℤ c) ≡ (a *ℤ b) -ℤ (a *ℤ c)
mul_sub a b c =
    let e = sub_mul b c a in let f = mul_comm a (b -ℤ c) in let g = mul_comm b a in let h = mul_comm c a in omega
    (arith, ints, e, f, g, h)

-- a (b c) = b (a c)
pub mul_swap : (a b c : ℤ) → a *ℤ (b *ℤ c) ≡ b *ℤ (a *ℤ c)
mul_swap a b c = sym (mul_assoc a b c) ∙ ap (λ z. z *ℤ c) (mul_comm a b) ∙ mul_assoc b a c

pub mul_zero : (a : ℤ) → a *ℤ pos 0 ≡ pos 0
mul_zero a = omega (arith, ints)

abs_zero : (a : ℤ) → unsigned_abs a ≡ 0 → a ≡ pos 0
abs_zero (pos n) h = ap pos h
abs_zero (negsuc n) h = absurd (omega (arith, h))

-- no zero divisors
pub product_zero : (a b : ℤ) → a *ℤ b ≡ pos 0 → (a ≡ pos 0) ⊎ (b ≡ pos 0)
product_zero a b h =
    let e : unsigned_abs a * unsigned_abs b ≡ 0 = sym (unsigned_abs-mul a b) ∙ ap unsigned_abs h in
    go (unsigned_abs a) (unsigned_abs b) refl refl e
  where
    go : (m n : ℕ) → unsigned_abs a ≡ m → unsigned_abs b ≡ n → unsigned_abs a * unsigned_abs b ≡ 0
        → (a ≡ pos 0) ⊎ (b ≡ pos 0)
    go zero n p q e = inl (abs_zero a p)
    go (suc m) zero p q e = inr (abs_zero b q)
    go (suc m) (suc n) p q e = let f : suc m * suc n ≡ 0 = rw (p, q) at e in absurd (grind (arith, f))

-- a factor that isn't 0 cancels
pub cancel : (c a b : ℤ) → (c ≡ pos 0 → ⊥) → c *ℤ a ≡ c *ℤ b → a ≡ b
cancel c a b ne h =
    let e : c *ℤ (a -ℤ b) ≡ pos 0 = (let f = mul_sub c a b in omega (arith, ints, f, h)) in
    elim (product_zero c (a -ℤ b) e) [ inl z ↦ absurd (ne z) | inr z ↦ omega (arith, ints, z) ]
