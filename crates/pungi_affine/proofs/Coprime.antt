-- Divisors of whole numbers, and numbers from which the common divisor was taken: they have none.
use Rattle.std.proofs.Common.{◌≡◌, ◌∙◌, ℕ, zero, suc, ◌*◌, ◌/◌, ◌<◌, ◌≤◌, ℤ, pos, negsuc, neg_ℤ, ◌*ℤ◌, ◌≤ℤ◌, ◌<ℤ◌, List}
use Rattle.std.proofs.Common.{length, subst, sym, ap, arith}
use Rattle.std.proofs.lemmas.Int.{ints, unsigned_abs-mul}
use Rattle.std.proofs.lemmas.List.{get_or_default}
use Rattle.std.specs.Int.RustNames.{unsigned_abs}
use Rattle.std.proofs.Math.Nat.{dvd-mul_right, div-add-mod}
use Rattle.std.proofs.lemmas.Nat.Gcd.{mod-eq-zero_of_dvd, le_of_dvd}
use lib.IntN.{pos-*ℤ-negsuc}
use Prim.Native.Nat.{◌∣◌}
use Rattle.pungi_domain.specs.Vectors.{at}
use Rattle.pungi_domain.specs.Spans.{Divides}
use Rattle.pungi_domain.specs.Ring.{mul_comm, mul_assoc, mul_swap, cancel}
use Rattle.pungi_affine.specs.Divisors.{IsContent, IsDivisor}

pub divides_abs : (m x : ℤ) → Divides m x → unsigned_abs m ∣ unsigned_abs x
divides_abs m x h =
    subst (λ (n : ℕ). unsigned_abs m ∣ n) (sym (ap unsigned_abs h.is ∙ unsigned_abs-mul m h.by))
    (dvd-mul_right (unsigned_abs m) (unsigned_abs h.by))

-- the signs, by cases
signed : (m x : ℤ) (c : ℕ) → unsigned_abs x ≡ unsigned_abs m * c → Divides m x
signed (pos a) (pos b) c e = record { by = pos c; is = omega (arith, ints, e) }
signed (pos a) (negsuc b) zero e = absurd (omega (arith, e))
signed (pos a) (negsuc b) (suc c) e =
    record {
      by = negsuc c;
      is = (let h : pos a *ℤ negsuc c
          ≡ neg_ℤ (pos (a * suc c)) = pos-*ℤ-negsuc a c in omega (arith, ints, e, h));
    }
signed (negsuc a) (pos b) zero e = record { by = pos 0; is = omega (arith, ints, e) }
signed (negsuc a) (pos b) (suc c) e = record { by = negsuc c; is = omega (arith, ints, e) }
signed (negsuc a) (negsuc b) c e = record { by = pos c; is = omega (arith, ints, e) }

pub abs_divides : (m x : ℤ) → unsigned_abs m ∣ unsigned_abs x → Divides m x
abs_divides m x h =
    signed m x (unsigned_abs x / unsigned_abs m) (let e = mod-eq-zero_of_dvd (unsigned_abs m) h in let f
    = div-add-mod (unsigned_abs x) (unsigned_abs m) in omega (arith, e, f))

pub unit_divides : (m x e : ℤ) → (Divides m (e *ℤ x)) → unsigned_abs m ∣ (unsigned_abs e * unsigned_abs x)
unit_divides m x e h = subst (λ (n : ℕ). unsigned_abs m ∣ n) (unsigned_abs-mul e x) (divides_abs m (e *ℤ x) h)

pub divides_unit : (m x e : ℤ) → unsigned_abs m ∣ (unsigned_abs e * unsigned_abs x) → Divides m (e *ℤ x)
divides_unit m x e h = abs_divides m (e *ℤ x) (subst (λ (n : ℕ). unsigned_abs m ∣ n) (sym (unsigned_abs-mul e x)) h)

-- the common divisor of a list, as a whole number
pub content_divisor : (xs : List ℤ) (n : ℕ) → IsContent xs n → IsDivisor xs (pos n)
content_divisor xs n h = record {
  divides = λ i lt. abs_divides (pos n) (at xs i) (h.divides i (pos 0) lt);
  combines = λ m e all. divides_unit m (pos n) e (h.combines (unsigned_abs m) (unsigned_abs e)
      (λ k d lt. subst (λ (x : ℤ). unsigned_abs m ∣ (unsigned_abs e * unsigned_abs x))
      (get_or_default xs k (pos 0) d lt) (unit_divides m (at xs k) e (all k lt))));
}

-- a divisor of a number above 0 is above 0 and not above it
pub divisor_bounds : (n : ℕ) (z : ℤ) → pos 0 <ℤ z → n ∣ unsigned_abs z → (0 < n) × (pos n ≤ℤ z)
divisor_bounds n z gt d =
    (zero_out n (unsigned_abs z) d (abs_positive z gt), abs_le n z gt (le_of_dvd (abs_positive z gt) d))
  where
    abs_positive : (z : ℤ) → pos 0 <ℤ z → 0 < unsigned_abs z
    abs_positive (pos k) p = omega (arith, ints, p)
    abs_positive (negsuc k) p = omega arith

    abs_le : (k : ℕ) (z : ℤ) → pos 0 <ℤ z → k ≤ unsigned_abs z → pos k ≤ℤ z
    abs_le k (pos m) p l = omega (arith, ints, l)
    abs_le k (negsuc m) p l = absurd (omega (arith, ints, p))

    zero_out : (k m : ℕ) → k ∣ m → 0 < m → 0 < k
    zero_out zero m e p = absurd (let f = mod-eq-zero_of_dvd zero e in let g = div-add-mod m zero in omega
        (arith, p, f, g))
    zero_out (suc k) m e p = omega arith

pub content_positive : (xs : List ℤ) (n i : ℕ) → IsContent xs n → i < length xs → pos 0 <ℤ at xs i
    → (0 < n) × (pos n ≤ℤ at xs i)
content_positive xs n i h lt gt = divisor_bounds n (at xs i) gt (h.divides i (pos 0) lt)

-- what divides the e-folds of the quotients divides e
pub quotients_coprime : (g : ℤ) → pos 0 <ℤ g → (m e x y : ℤ) → x ≡ g *ℤ y → Divides m (e *ℤ y)
    → Divides (m *ℤ g) (e *ℤ x)
quotients_coprime g gt m e x y is h = record {
  by = h.by;
  is = ap (λ z. e *ℤ z) is ∙ mul_swap e g y ∙ ap (λ z. g *ℤ z) h.is ∙ sym (mul_assoc g m h.by)
      ∙ ap (λ z. z *ℤ h.by) (mul_comm g m);
}

pub divisor_out : (g m e : ℤ) → pos 0 <ℤ g → Divides (m *ℤ g) (e *ℤ g) → Divides m e
divisor_out g m e gt h = record {
  by = h.by;
  is = cancel g e (m *ℤ h.by) (λ z. absurd (omega (arith, ints, gt, z)))
      (mul_comm g e ∙ h.is ∙ ap (λ z. z *ℤ h.by) (mul_comm m g) ∙ mul_assoc g m h.by);
}
