-- The laws that the members of a value of the domain of constants keep.
--   flat_same   only the coordinates below the width count
--   flat_zero   the vector 0 is a member
--   flat_sum    members are closed under sums and whole multiples
use Rattle.std.proofs.Common.{◌≡◌, ◌∙◌, ℕ, ◌<◌, ℤ, pos, ◌+ℤ◌, ◌*ℤ◌, List, Option, None, Some, refl, sym, ap, arith}
use Rattle.std.proofs.lemmas.Int.{ints}
use Rattle.pungi_domain.specs.Vectors.{Vector}
use Rattle.pungi_domain.specs.Flat.{FlatState, FlatMember, MeetsAll, IsConstant, constant_at}
use Rattle.pungi_domain.specs.Ring.{mul_zero, mul_add, mul_swap}

constant_same : (o : Option ℤ) (l l' x x' : ℤ) → l' ≡ l → x' ≡ x → IsConstant o l x → IsConstant o l' x'
constant_same None l l' x x' e f h = h
constant_same (Some c) l l' x x' e f h = f ∙ h ∙ ap (λ z. c *ℤ z) (sym e)

constant_zero : (o : Option ℤ) → IsConstant o (pos 0) (pos 0)
constant_zero None = tt
constant_zero (Some c) = sym (mul_zero c)

constant_sum : (o : Option ℤ) (a b l m x y : ℤ) → IsConstant o l x → IsConstant o m y
    → IsConstant o ((a *ℤ l) +ℤ (b *ℤ m)) ((a *ℤ x) +ℤ (b *ℤ y))
constant_sum None a b l m x y h k = h
constant_sum (Some c) a b l m x y h k =
    let e : a *ℤ x ≡ c *ℤ (a *ℤ l) = ap (λ z. a *ℤ z) h ∙ mul_swap a c l in
    let f : b *ℤ y ≡ c *ℤ (b *ℤ m) = ap (λ z. b *ℤ z) k ∙ mul_swap b c m in
    let g = mul_add c (a *ℤ l) (b *ℤ m) in
    omega (arith, ints, e, f, g)

pub flat_zero : (s : FlatState) → FlatMember s (λ _. pos 0)
flat_zero s = go s.constants
  where
    go : (o : Option (List (Option ℤ))) → MeetsAll s.width o (λ _. pos 0)
    go None = λ i lt. refl
    go (Some cs) = λ i lt. constant_zero (constant_at cs i)

pub flat_sum : (s : FlatState) (a b : ℤ) (u v : Vector) → FlatMember s u → FlatMember s v
    → FlatMember s (λ i. (a *ℤ u i) +ℤ (b *ℤ v i))
flat_sum s a b u v = go s.constants
  where
    go : (o : Option (List (Option ℤ))) → MeetsAll s.width o u → MeetsAll s.width o v
        → MeetsAll s.width o (λ i. (a *ℤ u i) +ℤ (b *ℤ v i))
    go None p q = λ i lt.
        let e : a *ℤ u i ≡ pos 0 = ap (λ z. a *ℤ z) (p i lt) ∙ mul_zero a in
        let f : b *ℤ v i ≡ pos 0 = ap (λ z. b *ℤ z) (q i lt) ∙ mul_zero b in
        omega (arith, ints, e, f)
    go (Some cs) p q = λ i lt. constant_sum (constant_at cs i) a b (u 0) (v 0) (u i) (v i) (p i lt) (q i lt)

pub flat_same : (s : FlatState) (u v : Vector) → ((i : ℕ) → i < s.width → v i ≡ u i) → FlatMember s u → FlatMember s v
flat_same s u v e = go s.constants
  where
    go : (o : Option (List (Option ℤ))) → MeetsAll s.width o u → MeetsAll s.width o v
    go None p = λ i lt. e i lt ∙ p i lt
    go (Some cs) p = λ i lt. constant_same (constant_at cs i) (u 0) (v 0) (u i) (v i) (e 0 (omega (arith, lt)))
        (e i lt) (p i lt)
