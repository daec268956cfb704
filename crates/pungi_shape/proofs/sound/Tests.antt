-- Small facts on tests, numbers and names.
use Rattle.std.proofs.Common.{◌≡◌, ◌≢◌, ◌⊎◌, inl, inr, ℕ, ◌<◌, ◌≤◌, Bool, true, false, refl, sym, ap, ◌∙◌, arith}
use Rattle.std.proofs.Common.{Some, None}
use Rattle.std.specs.Prelude.{◌==◌, ◌&&◌, ◌||◌, nat_lt, nat_le}
use Rattle.std.proofs.lemmas.Bool.Decides.{eqb_tells, nat_tests}
use Rattle.pungi_base.specs.declared.names.Name.{Name}

-- ---- tests

pub no_way : {X : Type 0} → false ≡ true → X
no_way e = absurd (let bad : false ≡ true = e in cc)

pub both_true : (a b : Bool) → (a && b) ≡ true → (a ≡ true) × (b ≡ true)
both_true true b e = (refl, e)
both_true false b e = no_way e

pub both_are : (a b : Bool) → a ≡ true → b ≡ true → (a && b) ≡ true
both_are a b e f = ap (λ z. z && b) e ∙ f

pub either_true : (a b : Bool) → (a || b) ≡ true → (a ≡ true) ⊎ (b ≡ true)
either_true true b e = inl refl
either_true false b e = inr e

pub true_or : (a b : Bool) → a ≡ true → (a || b) ≡ true
true_or a b e = ap (λ z. z || b) e

pub or_true : (a b : Bool) → b ≡ true → (a || b) ≡ true
or_true true b e = refl
or_true false b e = e

pub or_false : (a b : Bool) → (a || b) ≡ false → (a ≡ false) × (b ≡ false)
or_false true b e = no_way (sym e)
or_false false b e = (refl, e)

-- ---- numbers

pub eqb_is : (a b : ℕ) → (a == b) ≡ true → a ≡ b
eqb_is a b e = elim (eqb_tells a b) [
  | inl h ↦ h.1
  | inr h ↦ no_way (sym h.0 ∙ e)
]

pub eqb_self : (a : ℕ) → (a == a) ≡ true
eqb_self a = elim (eqb_tells a a) [
  | inl h ↦ h.0
  | inr h ↦ absurd (h.1 refl)
]

pub eqb_not : (a b : ℕ) → a ≢ b → (a == b) ≡ false
eqb_not a b ne = elim (eqb_tells a b) [
  | inl h ↦ absurd (ne h.1)
  | inr h ↦ h.0
]

pub lt_true : (a b : ℕ) → a < b → nat_lt a b ≡ true
lt_true a b lt = grind (arith, nat_tests)

pub le_is : (a b : ℕ) → nat_le a b ≡ true → a ≤ b
le_is a b e = grind (arith, nat_tests)

-- ---- names and options

pub one_name : (m n : Name) → m.0 ≡ n.0 → m ≡ n
one_name m n e = ap (λ z. let name : Name = record { 0 = z } in name) e

pub name_is : (m n : Name) → (m.0 == n.0) ≡ true → m ≡ n
name_is m n e = one_name m n (eqb_is m.0 n.0 e)

pub none_some : {X : Type 0} (x : X) → None ≡ Some x → ⊥
none_some x e = absurd (grind (arith, e))
