-- Sums over the tokens that stand for an object: of what is due at an exit, and of the balances that are so.
--   due_from names k g t n  the sum of a number g of each of n tokens from t on that stands for the object k
use Rattle.std.proofs.Common.{◌≡◌, ℕ, zero, suc, ◌+◌, ◌<◌, ◌≤◌, ℤ, pos, ◌+ℤ◌, ◌-ℤ◌, Bool, true, false, cond}
use Rattle.std.proofs.Common.{List, [], ◌∷◌, refl, sym, ap, ◌∙◌, arith, inl, inr}
use Rattle.std.specs.Prelude.{◌==◌, if◌then◌else◌}
use Rattle.std.specs.List.{count_by}
use Rattle.std.proofs.lemmas.Int.{ints}
use Rattle.std.proofs.lemmas.Bool.Decides.{eqb_tells}
use Rattle.std.proofs.lemmas.List.Sums.{sum_by-cons}
use Rattle.pungi_domain.specs.Vectors.{Vector, dot}
use Rattle.pungi_shape.specs.declared.holding.Holding.{Holding}
use Rattle.pungi_shape.specs.declared.holding.Holding.TheVariants.{Dead, Unset, Null, Text, Known, Number, Token}
use Rattle.pungi_shape.specs.Forms.{unit, one_if}
use Rattle.pungi_shape.specs.Shapes.{is_token}
use Rattle.pungi_shape.specs.Scenes.{token_forms}
use Rattle.pungi_shape.specs.Described.{Naming}
use Rattle.pungi_shape.proofs.sound.Shows.{stands_for, total_from}
use Rattle.pungi_shape.proofs.sound.Tests.{eqb_not}

abbrev pub due_from : Naming → ℕ → (ℕ → ℤ) → ℕ → ℕ → ℤ
due_from names k g t zero = pos 0
due_from names k g t (suc n) = (if names t == k then g t else pos 0) +ℤ due_from names k g (suc t) n

-- ---- sums

if_zero : (b : Bool) (x : ℤ) → x ≡ pos 0 → cond b x (pos 0) ≡ pos 0
if_zero true x e = e
if_zero false x e = refl

no_due : (names : Naming) (k : ℕ) (g : ℕ → ℤ) (t n : ℕ) → ((u : ℕ) → t ≤ u → g u ≡ pos 0)
    → due_from names k g t n ≡ pos 0
no_due names k g t zero none = refl
no_due names k g t (suc n) none =
    let first = if_zero (names t == k) (g t) (none t (omega arith)) in
    let rest = no_due names k g (suc t) n (λ u le. none u (omega (arith, le))) in
    omega (arith, ints, first, rest)

same_due : (names : Naming) (k : ℕ) (f g : ℕ → ℤ) (t n : ℕ) → ((u : ℕ) → f u ≡ g u)
    → due_from names k f t n ≡ due_from names k g t n
same_due names k f g t zero same = refl
same_due names k f g t (suc n) same =
    let first = ap (λ z. cond (names t == k) z (pos 0)) (same t) in
    let rest = same_due names k f g (suc t) n same in
    omega (arith, ints, first, rest)

plus_due : (names : Naming) (k : ℕ) (f g : ℕ → ℤ) (t n : ℕ)
    → due_from names k (λ u. f u +ℤ g u) t n ≡ due_from names k f t n +ℤ due_from names k g t n
plus_due names k f g t zero = omega (arith, ints)
plus_due names k f g t (suc n) =
    let first = both (names t == k) (f t) (g t) in
    let rest = plus_due names k f g (suc t) n in
    omega (arith, ints, first, rest)
  where
    both : (b : Bool) (x y : ℤ) → cond b (x +ℤ y) (pos 0) ≡ cond b x (pos 0) +ℤ cond b y (pos 0)
    both true x y = refl
    both false x y = omega (arith, ints)

pub less_due : (names : Naming) (k : ℕ) (f g : ℕ → ℤ) (t n : ℕ)
    → due_from names k (λ u. f u -ℤ g u) t n ≡ due_from names k f t n -ℤ due_from names k g t n
less_due names k f g t zero = omega (arith, ints)
less_due names k f g t (suc n) =
    let first = both (names t == k) (f t) (g t) in
    let rest = less_due names k f g (suc t) n in
    omega (arith, ints, first, rest)
  where
    both : (b : Bool) (x y : ℤ) → cond b (x -ℤ y) (pos 0) ≡ cond b x (pos 0) -ℤ cond b y (pos 0)
    both true x y = refl
    both false x y = omega (arith, ints)

-- ---- what is held once counts once

token_due : (names : Naming) (k j t n : ℕ) → t ≤ j → j < t + n
    → due_from names k (λ u. pos (one_if (j == u))) t n ≡ pos (one_if (names j == k))
token_due names k j t zero le lt = absurd (omega (arith, le, lt))
token_due names k j t (suc n) le lt = elim (eqb_tells j t) [
  | inl e ↦
      let same = e.1 in
      let first : cond (names t == k) (pos (one_if (j == t))) (pos 0) ≡ pos (one_if (names j == k)) =
      ap (λ b. cond (names t == k) (pos (one_if b)) (pos 0)) e.0 ∙ one_so (names t == k)
      ∙ ap (λ (i : ℕ). pos (one_if (names i == k))) (sym same) in
      let rest = no_due names k (λ u. pos (one_if (j == u))) (suc t) n
      (λ u above. ap (λ b. pos (one_if b)) (eqb_not j u (λ here. absurd (omega (arith, same, here, above))))) in
      omega (arith, ints, first, rest)
  | inr e ↦
      let ne = e.1 in
      let first = ap (λ b. cond (names t == k) (pos (one_if b)) (pos 0)) e.0 ∙ if_zero (names t == k) (pos 0) refl in
      let rest = token_due names k j (suc t) n (omega (arith, le, ne)) (omega (arith, lt)) in
      omega (arith, ints, first, rest)
]
  where
    one_so : (b : Bool) → cond b (pos 1) (pos 0) ≡ pos (one_if b)
    one_so true = refl
    one_so false = refl

pub holding_due : (names : Naming) (k n : ℕ) (h : Holding) → ((j : ℕ) → h ≡ Token j → j < n)
    → due_from names k (λ u. pos (one_if (is_token u h))) 0 n ≡ pos (one_if (stands_for names h k))
holding_due names k n Dead below = no_due names k (λ u. pos 0) 0 n (λ u le. refl)
holding_due names k n Unset below = no_due names k (λ u. pos 0) 0 n (λ u le. refl)
holding_due names k n Null below = no_due names k (λ u. pos 0) 0 n (λ u le. refl)
holding_due names k n Text below = no_due names k (λ u. pos 0) 0 n (λ u le. refl)
holding_due names k n (Known i) below = no_due names k (λ u. pos 0) 0 n (λ u le. refl)
holding_due names k n Number below = no_due names k (λ u. pos 0) 0 n (λ u le. refl)
holding_due names k n (Token j) below =
    let lt = below j refl in
    token_due names k j 0 n (omega arith) (omega (arith, lt))

-- what several hold counts as often as it is held
pub count_due : (names : Naming) (k n : ℕ) (f : ℕ → Holding) (q : ℕ → Bool) (ps : List ℕ)
    → ((p : ℕ) → stands_for names (f p) k ≡ q p) → ((p j : ℕ) → f p ≡ Token j → j < n)
    → due_from names k (λ u. pos (count_by (λ p. is_token u (f p)) ps)) 0 n ≡ pos (count_by q ps)
count_due names k n f q [] so below = no_due names k (λ u. pos 0) 0 n (λ u le. refl)
count_due names k n f q (p ∷ ps) so below =
    let one = λ (u : ℕ). pos (one_if (is_token u (f p))) in
    let others = λ (u : ℕ). pos (count_by (λ r. is_token u (f r)) ps) in
    let all = λ (u : ℕ). pos (count_by (λ r. is_token u (f r)) (p ∷ ps)) in
    let split = same_due names k all (λ u. one u +ℤ others u) 0 n
    (λ u. sum_so _ _ _ (sum_by-cons (λ r. cond (is_token u (f r)) 1 0) p ps)) in
    let parts = plus_due names k one others 0 n in
    let first = holding_due names k n (f p) (below p) ∙ ap (λ b. pos (one_if b)) (so p) in
    let rest = count_due names k n f q ps so below in
    let both = sum_so (count_by q (p ∷ ps)) (one_if (q p)) (count_by q ps) (sum_by-cons (λ r. cond (q r) 1 0) p ps) in
    split ∙ parts ∙ add_so _ _ _ _ _ first rest (sym both)
  where
    sum_so : (m a b : ℕ) → m ≡ a + b → pos m ≡ pos a +ℤ pos b
    sum_so m a b e = omega (arith, ints, e)

    add_so : (x y a b c : ℤ) → x ≡ a → y ≡ b → a +ℤ b ≡ c → x +ℤ y ≡ c
    add_so x y a b c e f g = omega (arith, ints, e, f, g)

-- ---- the sum of balances

same_if : (a b : ℕ) (x y : ℤ) → (a ≡ b → x ≡ y) → cond (a == b) x (pos 0) ≡ cond (a == b) y (pos 0)
same_if a b x y same = elim (eqb_tells a b) [
  | inl e ↦ ap (λ z. cond (a == b) z (pos 0)) (same e.1)
  | inr e ↦ ap (λ c. cond c x (pos 0)) e.0 ∙ sym (ap (λ c. cond c y (pos 0)) e.0)
]

-- the balances of tokens that stand for the object are these numbers
pub total_due : (names : Naming) (v : Vector) (w t a n k : ℕ) (g : ℕ → ℤ)
    → ((i : ℕ) → i < n → names (t + i) ≡ k → dot (unit w (a + i)) v ≡ g (t + i))
    → total_from t names (token_forms w a n) v k ≡ due_from names k g t n
total_due names v w t a zero k g so = refl
total_due names v w t a (suc n) k g so =
    let here : t ≡ t + 0 = omega arith in
    let first = same_if (names t) k (dot (unit w a) v) (g t)
    (λ e. ap (λ (j : ℕ). dot (unit w j) v) (omega arith) ∙ so 0 (omega arith) (ap names (sym here) ∙ e)
    ∙ ap g (sym here)) in
    let rest = total_due names v w (suc t) (a + 1) n k g
    (λ i lt e. let next : suc t + i ≡ t + suc i = omega arith in
    ap (λ (j : ℕ). dot (unit w j) v) (omega arith) ∙ so (suc i) (omega (arith, lt)) (ap names (sym next) ∙ e)
    ∙ ap g (sym next)) in
    omega (arith, ints, first, rest)
