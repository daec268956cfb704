-- How large products are.
use Rattle.std.proofs.Common.{ℕ, ◌*◌, ◌<◌, ◌≤◌, ◌^◌, ℤ, pos, negsuc, ◌*ℤ◌, arith}
use Rattle.std.proofs.lemmas.Int.{ints, unsigned_abs-mul}
use Rattle.std.specs.Int.RustNames.{unsigned_abs}
use mir.Syntax.{w64, w128}
use mir.Val.{SFits}
use Rattle.pungi_domain.specs.Vectors.{IsWithin}
use Rattle.pungi_affine.specs.Forms.{IsBox}
use Rattle.pungi_affine.specs.Parts.{IsLong}

pub abs_bound : (k : ℕ) (z : ℤ) → IsWithin k z → unsigned_abs z ≤ k
abs_bound k (pos n) h = (let a = h.0 in omega (arith, ints, a))
abs_bound k (negsuc n) h = (let b = h.1 in omega (arith, ints, b))

pub bound_abs : (k : ℕ) (z : ℤ) → unsigned_abs z ≤ k → IsWithin k z
bound_abs k (pos n) h = (omega (arith, ints, h), omega (arith, ints, h))
bound_abs k (negsuc n) h = (omega (arith, ints, h), omega (arith, ints, h))

product_abs : (a b : ℤ) (m n : ℕ) → unsigned_abs a ≤ m → unsigned_abs b ≤ n → unsigned_abs (a *ℤ b) ≤ m * n
product_abs a b m n p q = rw (unsigned_abs-mul a b) (grind (arith, p, q))

pub product_within : (a b : ℤ) (m n : ℕ) → IsWithin m a → IsWithin n b → IsWithin (m * n) (a *ℤ b)
product_within a b m n p q = bound_abs (m * n) (a *ℤ b) (product_abs a b m n (abs_bound m a p) (abs_bound n b q))

pub number_within : (a : ℤ) → SFits w64 a → IsWithin (2 ^ 63) a
number_within a h = (omega (arith, ints, h), omega (arith, ints, h))

pub wide : (a : ℤ) → SFits w64 a → SFits w128 a
wide a h = grind (arith, ints, h)

pub within_fits : (a : ℤ) → IsWithin (2 ^ 94) a → SFits w128 a
within_fits a h = grind (arith, ints, h)

pub long_fits : (z : ℤ) → IsLong z → SFits w128 z
long_fits z h = grind (arith, ints, h)

pub fits_of : (n : ℕ) (z : ℤ) → n < 2 ^ 127 → IsWithin n z → SFits w128 z
fits_of n z lt h = (let a = h.0 in let b = h.1 in grind (arith, ints, lt, a, b))

pub box_fits : (z : ℤ) → IsBox z → SFits w64 z
box_fits z h = (let a = h.0 in let b = h.1 in grind (arith, ints, a, b))
