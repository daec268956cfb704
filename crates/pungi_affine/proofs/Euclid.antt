-- Euclid's step.
use Rattle.std.proofs.Common.{◌≡◌, ℕ, ◌+◌, ◌*◌, ◌/◌, ◌%◌, ◌<◌, subst, sym, ap, arith, ◌∙◌, ℤ, pos, List, [], length}
use Rattle.std.proofs.Common.{take, slice_index_or}
use Rattle.std.proofs.lemmas.Grind.{common_steps}
use Rattle.std.proofs.lemmas.List.Elements.{All-more}
use Rattle.std.specs.Int.RustNames.{unsigned_abs}
use Rattle.std.proofs.Math.Nat.{one-dvd, dvd-add, dvd-add_iff_right, dvd-mul_right_of_dvd, mul_assoc}
use Rattle.std.proofs.lemmas.Nat.Gcd.{dvd-zero, dvd_trans}
use Prim.Native.Nat.{◌∣◌}
use Rattle.pungi_affine.specs.Divisors.{IsCommon, IsContent}

parts : (x y : ℕ) → 0 < y → y * (x / y) + x % y ≡ x
parts x y h = omega arith

pub step_back : (g x y : ℕ) → 0 < y → g ∣ y → g ∣ (x % y) → g ∣ x
step_back g x y gt h k = subst (λ (z : ℕ). g ∣ z) (parts x y gt) (dvd-add g (dvd-mul_right_of_dvd g h (x / y)) k)

pub step_on : (m e x y : ℕ) → 0 < y → m ∣ (e * x) → m ∣ (e * y) → m ∣ (e * (x % y))
step_on m e x y gt h k =
    let q : m ∣ (e * (y * (x / y))) = subst (λ (z : ℕ). m ∣ z) (mul_assoc e y (x / y))
    (dvd-mul_right_of_dvd m k (x / y)) in
    let s : e * x ≡ e * (y * (x / y)) + e * (x % y) = (let p : e * (y * (x / y) + x % y)
    ≡ e * x = ap (λ z. e * z) (parts x y gt) in omega (arith, p)) in
    (dvd-add_iff_right m q).1 (subst (λ (z : ℕ). m ∣ z) s h)

pub content_none : IsContent [] 0
content_none =
    record {
      divides = λ k d lt. absurd (omega arith);
      combines = λ m e h. subst (λ (z : ℕ). m ∣ z) (omega arith)
          (dvd-zero m);
    }

-- where the divisor of the first numbers is 1, so is that of all
pub content_one : (xs : List ℤ) (i : ℕ) → IsContent (take i xs) 1 → IsContent xs 1
content_one xs i c = record {
  divides = λ k d lt. one-dvd (unsigned_abs (slice_index_or xs k d));
  combines = λ m e h. c.combines m e (λ k f k_lt. subst (λ (y : ℤ). m ∣ (e * unsigned_abs y)) (front k f k_lt)
      (h k f (more k k_lt)));
}
  where
    more : (k : ℕ) → k < length (take i xs) → k < length xs
    more k k_lt = grind (arith, common_steps)

    front : (k : ℕ) (f : ℤ) → k < length (take i xs) → slice_index_or xs k f ≡ slice_index_or (take i xs) k f
    front k f k_lt = grind (arith, common_steps)

pub content_more : (xs : List ℤ) (i g n : ℕ) (x : ℤ) → i < length xs → x ≡ slice_index_or xs i (pos 0)
    → IsContent (take i xs) g → IsCommon g (unsigned_abs x) n → IsContent (take (i + 1) xs) n
content_more xs i g n x lt is c d = record {
  divides = All-more (λ y. n ∣ unsigned_abs y) xs i (pos 0) lt (λ k e k_lt. dvd_trans n d.left (c.divides k e k_lt))
      (subst (λ (y : ℤ). n ∣ unsigned_abs y) is d.right);
  combines = λ m e h. d.combines m e
      (c.combines m e (λ k f k_lt. subst (λ (y : ℤ). m ∣ (e * unsigned_abs y)) (front k f k_lt) (h k f (more k k_lt))))
      (subst (λ (y : ℤ). m ∣ (e * unsigned_abs y)) (last ∙ sym is) (h i (pos 0) here));
}
  where
    more : (k : ℕ) → k < length (take i xs) → k < length (take (i + 1) xs)
    more k k_lt = grind (arith, common_steps)

    here : i < length (take (i + 1) xs)
    here = grind (arith, common_steps)

    front : (k : ℕ) (f : ℤ) → k < length (take i xs)
        → slice_index_or (take (i + 1) xs) k f ≡ slice_index_or (take i xs) k f
    front k f k_lt = grind (arith, common_steps)

    last : slice_index_or (take (i + 1) xs) i (pos 0) ≡ slice_index_or xs i (pos 0)
    last = grind (arith, common_steps)
