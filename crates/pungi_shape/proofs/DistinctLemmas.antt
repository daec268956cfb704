-- Numbers, each once, and their places; those of tokens that are held.
--   IsIn ts t               a number stands at its place
--   TellsApart g xs         a map takes no two members to one
use Rattle.std.proofs.Common.{◌≡◌, ◌≢◌, ℕ, suc, ◌+◌, ◌<◌, List, [], ◌∷◌, length, map, get_or, Bool, true}
use Rattle.std.proofs.Common.{false, refl, sym, ap, ◌∙◌, subst, arith, inl, inr, cond, eq-eqb}
use Rattle.std.specs.Prelude.{◌==◌, ◌||◌, not}
use Rattle.std.specs.List.{All, filter}
use Rattle.std.proofs.lemmas.Bool.Decides.{eqb_tells}
use Rattle.std.proofs.lemmas.List.Elements.{All-cons, All-nil}
use Rattle.pungi_shape.specs.declared.holding.Holding.{Holding}
use Rattle.pungi_shape.specs.declared.holding.Holding.TheVariants.{Dead, Unset, Null, Text, Known, Number, Token}
use Rattle.pungi_shape.specs.Shapes.{distinct, tokens_in, rename_holding}
use Rattle.pungi_shape.specs.Liveness.{is_among}
use Rattle.pungi_shape.specs.Arrivals.{holds_token, place_in}

abbrev pub IsIn : List ℕ → ℕ → Type 0
IsIn ts t = (place_in ts t < length ts) × (get_or ts (place_in ts t) 0 ≡ t)

-- ---- tests

true_or : (a b : Bool) → a ≡ true → (a || b) ≡ true
true_or a b e = ap (λ z. z || b) e

or_true : (a b : Bool) → b ≡ true → (a || b) ≡ true
or_true true b e = refl
or_true false b e = e

eqb_is : (a b : ℕ) → (a == b) ≡ true → a ≡ b
eqb_is a b e = elim (eqb_tells a b) [
  | inl h ↦ h.1
  | inr h ↦ absurd (let bad : false ≡ true = sym h.0 ∙ e in cc)
]

eqb_not : (a b : ℕ) → a ≢ b → (a == b) ≡ false
eqb_not a b ne = elim (eqb_tells a b) [
  | inl h ↦ absurd (ne h.1)
  | inr h ↦ h.0
]

-- ---- members

pub all_among : (xs : List ℕ) → All (λ t. is_among xs t ≡ true) xs
all_among [] = All-nil (λ t. is_among [] t ≡ true)
all_among (x ∷ xs) = All-cons (λ t. is_among (x ∷ xs) t ≡ true) x xs
    (true_or (x == x) (is_among xs x) (eq-eqb x x refl))
    (λ k d lt. or_true (x == get_or xs k d) (is_among xs (get_or xs k d)) (all_among xs k d lt))

pub among_filter : (x t : ℕ) (l : List ℕ) → x ≢ t → is_among (filter (λ u. not (u == x)) l) t ≡ is_among l t
among_filter x t [] ne = refl
among_filter x t (u ∷ l) ne = elim (eqb_tells u x) [
  | inl h ↦ ap (λ b. is_among (cond (not b) (u ∷ filter (λ w. not (w == x)) l) (filter (λ w. not (w == x)) l)) t) h.0
      ∙ among_filter x t l ne
      ∙ sym (ap (λ b. b || is_among l t) (eqb_not u t (λ e. ne (sym h.1 ∙ e))))
  | inr h ↦ ap (λ b. is_among (cond (not b) (u ∷ filter (λ w. not (w == x)) l) (filter (λ w. not (w == x)) l)) t) h.0
      ∙ ap (λ z. (u == t) || z) (among_filter x t l ne)
]

pub among_distinct : (xs : List ℕ) (t : ℕ) → is_among (distinct xs) t ≡ is_among xs t
among_distinct [] t = refl
among_distinct (x ∷ xs) t = elim (eqb_tells x t) [
  | inl h ↦ ap (λ b. b || is_among (filter (λ u. not (u == x)) (distinct xs)) t) h.0
      ∙ sym (ap (λ b. b || is_among xs t) h.0)
  | inr h ↦ ap (λ z. (x == t) || z) (among_filter x t (distinct xs) h.1 ∙ among_distinct xs t)
]

-- ---- places

one_more : (i : ℕ) → 1 + i ≡ suc i
one_more i = omega arith

pub is_in : (ts : List ℕ) (t : ℕ) → is_among ts t ≡ true → IsIn ts t
is_in [] t e = absurd (grind (arith, e))
is_in (u ∷ ts) t e = at (u == t) refl (is_in ts t) e
  where
    at : (b : Bool) → (u == t) ≡ b → (is_among ts t ≡ true → IsIn ts t) → (b || is_among ts t) ≡ true → IsIn (u ∷ ts) t
    at true is rest h = subst (λ c. (cond (not c) (1 + place_in ts t) 0 < length (u ∷ ts))
        × (get_or (u ∷ ts) (cond (not c) (1 + place_in ts t) 0) 0 ≡ t)) (sym is) (omega arith, eqb_is u t is)
    at false is rest h =
        let r = rest h in
        subst (λ c. (cond (not c) (1 + place_in ts t) 0 < length (u ∷ ts))
        × (get_or (u ∷ ts) (cond (not c) (1 + place_in ts t) 0) 0 ≡ t)) (sym is)
        (let a = r.0 in omega (arith, a), ap (λ i. get_or (u ∷ ts) i 0) (one_more (place_in ts t)) ∙ r.1)

pub one_place : (ts : List ℕ) (t u : ℕ) → IsIn ts t → IsIn ts u → place_in ts t ≡ place_in ts u → t ≡ u
one_place ts t u a b e = sym a.1 ∙ ap (λ i. get_or ts i 0) e ∙ b.1

-- ---- a map that tells members apart

abbrev pub TellsApart : (ℕ → ℕ) → List ℕ → Type 0
TellsApart g xs = (t u : ℕ) → is_among xs t ≡ true → is_among xs u ≡ true → g t ≡ g u → t ≡ u

filter_map : (g : ℕ → ℕ) (x : ℕ) (l : List ℕ) → ((u : ℕ) → is_among l u ≡ true → g u ≡ g x → u ≡ x)
    → filter (λ u. not (u == g x)) (map g l) ≡ map g (filter (λ u. not (u == x)) l)
filter_map g x [] tells = refl
filter_map g x (u ∷ l) tells =
    let rest : filter (λ w. not (w == g x)) (map g l) ≡ map g (filter (λ w. not (w == x)) l) = filter_map g x l
    (λ w is e. tells w (or_true (u == w) (is_among l w) is) e) in
    elim (eqb_tells u x) [
      | inl h ↦ ap (λ b. cond (not b) (g u ∷ filter (λ w. not (w == g x)) (map g l))
          (filter (λ w. not (w == g x)) (map g l)))
          (eq-eqb (g u) (g x) (ap g h.1)) ∙ rest
          ∙ sym (ap (λ b. map g (cond (not b) (u ∷ filter (λ w. not (w == x)) l) (filter (λ w. not (w == x)) l))) h.0)
      | inr h ↦ ap (λ b. cond (not b) (g u ∷ filter (λ w. not (w == g x)) (map g l))
          (filter (λ w. not (w == g x)) (map g l)))
          (eqb_not (g u) (g x) (λ e. h.1 (tells u (true_or (u == u) (is_among l u) (eq-eqb u u refl)) e)))
          ∙ ap (λ z. g u ∷ z) rest
          ∙ sym (ap (λ b. map g (cond (not b) (u ∷ filter (λ w. not (w == x)) l) (filter (λ w. not (w == x)) l))) h.0)
    ]

pub distinct_map : (g : ℕ → ℕ) (xs : List ℕ) → TellsApart g xs → distinct (map g xs) ≡ map g (distinct xs)
distinct_map g [] tells = refl
distinct_map g (x ∷ xs) tells =
    ap (λ z. g x ∷ filter (λ u. not (u == g x)) z) (distinct_map g xs (λ t u a b e. tells t u
    (or_true (x == t) (is_among xs t) a) (or_true (x == u) (is_among xs u) b) e))
    ∙ ap (λ z. g x ∷ z) (filter_map g x (distinct xs) (λ u is e. tells u x
    (or_true (x == u) (is_among xs u) (sym (among_distinct xs u) ∙ is))
    (true_or (x == x) (is_among xs x) (eq-eqb x x refl))
    e))

-- ---- tokens that are held

pub holds_is : (t : ℕ) (hs : List Holding) → holds_token hs t ≡ is_among (tokens_in hs) t
holds_is t [] = refl
holds_is t (Dead ∷ hs) = holds_is t hs
holds_is t (Unset ∷ hs) = holds_is t hs
holds_is t (Null ∷ hs) = holds_is t hs
holds_is t (Text ∷ hs) = holds_is t hs
holds_is t (Known n ∷ hs) = holds_is t hs
holds_is t (Number ∷ hs) = holds_is t hs
holds_is t (Token u ∷ hs) = ap (λ b. (u == t) || b) (holds_is t hs)

pub tokens_renamed : (g : ℕ → ℕ) (hs : List Holding) → tokens_in (map (rename_holding g) hs) ≡ map g (tokens_in hs)
tokens_renamed g [] = refl
tokens_renamed g (Dead ∷ hs) = tokens_renamed g hs
tokens_renamed g (Unset ∷ hs) = tokens_renamed g hs
tokens_renamed g (Null ∷ hs) = tokens_renamed g hs
tokens_renamed g (Text ∷ hs) = tokens_renamed g hs
tokens_renamed g (Known n ∷ hs) = tokens_renamed g hs
tokens_renamed g (Number ∷ hs) = tokens_renamed g hs
tokens_renamed g (Token t ∷ hs) = ap (λ ts. g t ∷ ts) (tokens_renamed g hs)
