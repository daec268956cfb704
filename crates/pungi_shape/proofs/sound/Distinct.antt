-- Numbers, each once, and their places.
--   Once xs                 no number stands twice
--   IsIn ts t               a number stands at its place
use Rattle.std.proofs.Common.{◌≡◌, ◌≢◌, ℕ, zero, suc, ◌+◌, ◌<◌, List, [], ◌∷◌, ◌++◌, length, map, get_or, Bool, true}
use Rattle.std.proofs.Common.{false, refl, sym, ap, ◌∙◌, subst, arith, inl, inr, cond}
use Rattle.std.specs.Prelude.{◌==◌, ◌||◌, not}
use Rattle.std.specs.List.{All, filter}
use Rattle.std.proofs.lemmas.Bool.Decides.{eqb_tells}
use Rattle.std.proofs.lemmas.List.Elements.{All-cons, All-nil, All-head, All-tail, All-append}
use Rattle.pungi_shape.specs.declared.holding.Holding.{Holding}
use Rattle.pungi_shape.specs.declared.holding.Holding.TheVariants.{Dead, Unset, Null, Text, Known, Number, Token}
use Rattle.pungi_shape.specs.Shapes.{distinct, token_in, tokens_in, rename_holding}
use Rattle.pungi_shape.specs.Liveness.{is_among}
use Rattle.pungi_shape.specs.Arrivals.{place_in}
use Rattle.pungi_shape.proofs.sound.Tests.{eqb_self, true_or, or_true, eqb_is, eqb_not}
use Rattle.std.proofs.Common.{eq-eqb}

abbrev pub Once : List ℕ → Type 0
Once [] = Unit {0}
Once (x ∷ xs) = (is_among xs x ≡ false) × Once xs

abbrev pub IsIn : List ℕ → ℕ → Type 0
IsIn ts t = (place_in ts t < length ts) × (get_or ts (place_in ts t) 0 ≡ t)

-- ---- members

pub among_append_right : (xs ys : List ℕ) (t : ℕ) → is_among ys t ≡ true → is_among (xs ++ ys) t ≡ true
among_append_right [] ys t e = e
among_append_right (x ∷ xs) ys t e = or_true (x == t) (is_among (xs ++ ys) t) (among_append_right xs ys t e)

-- each member passes
pub All_among : (P : ℕ → Type 0) (xs : List ℕ) (t : ℕ) → All P xs → is_among xs t ≡ true → P t
All_among P [] t all e = absurd (grind (arith, e))
All_among P (x ∷ xs) t all e = elim (eqb_tells x t) [
  | inl h ↦ subst P h.1 (All-head P x xs all)
  | inr h ↦ All_among P xs t (All-tail P x xs all) (subst (λ b. (b || is_among xs t) ≡ true) h.0 e)
]

-- ---- filters

among_filter : (x t : ℕ) (l : List ℕ) → x ≢ t → is_among (filter (λ u. not (u == x)) l) t ≡ is_among l t
among_filter x t [] ne = refl
among_filter x t (u ∷ l) ne = elim (eqb_tells u x) [
  | inl h ↦ ap (λ b. is_among (cond (not b) (u ∷ filter (λ w. not (w == x)) l) (filter (λ w. not (w == x)) l)) t) h.0
      ∙ among_filter x t l ne
      ∙ sym (ap (λ b. b || is_among l t) (not_same u (λ e. ne (sym h.1 ∙ e))))
  | inr h ↦ ap (λ b. is_among (cond (not b) (u ∷ filter (λ w. not (w == x)) l) (filter (λ w. not (w == x)) l)) t) h.0
      ∙ ap (λ z. (u == t) || z) (among_filter x t l ne)
]
  where
    not_same : (w : ℕ) → w ≢ t → (w == t) ≡ false
    not_same w apart = elim (eqb_tells w t) [ inl h ↦ absurd (apart h.1) | inr h ↦ h.0 ]

pub among_distinct : (xs : List ℕ) (t : ℕ) → is_among (distinct xs) t ≡ is_among xs t
among_distinct [] t = refl
among_distinct (x ∷ xs) t = elim (eqb_tells x t) [
  | inl h ↦ ap (λ b. b || is_among (filter (λ u. not (u == x)) (distinct xs)) t) h.0
      ∙ sym (ap (λ b. b || is_among xs t) h.0)
  | inr h ↦ ap (λ z. (x == t) || z) (among_filter x t (distinct xs) h.1 ∙ among_distinct xs t)
]

pub All_filter : (P : ℕ → Type 0) (p : ℕ → Bool) (xs : List ℕ) → All P xs → All P (filter p xs)
All_filter P p [] all = All-nil P
All_filter P p (x ∷ xs) all = at (p x) (All_filter P p xs (All-tail P x xs all))
  where
    at : (b : Bool) → All P (filter p xs) → All P (cond b (x ∷ filter p xs) (filter p xs))
    at true rest = All-cons P x (filter p xs) (All-head P x xs all) rest
    at false rest = rest

pub All_distinct : (P : ℕ → Type 0) (xs : List ℕ) → All P xs → All P (distinct xs)
All_distinct P [] all = All-nil P
All_distinct P (x ∷ xs) all = All-cons P x (filter (λ u. not (u == x)) (distinct xs)) (All-head P x xs all)
    (All_filter P (λ u. not (u == x)) (distinct xs) (All_distinct P xs (All-tail P x xs all)))

-- ---- each once

gone : (x : ℕ) (l : List ℕ) → is_among (filter (λ u. not (u == x)) l) x ≡ false
gone x [] = refl
gone x (u ∷ l) = elim (eqb_tells u x) [
  | inl h ↦ ap (λ b. is_among (cond (not b) (u ∷ filter (λ w. not (w == x)) l) (filter (λ w. not (w == x)) l)) x) h.0
      ∙ gone x l
  | inr h ↦ ap (λ b. is_among (cond (not b) (u ∷ filter (λ w. not (w == x)) l) (filter (λ w. not (w == x)) l)) x) h.0
      ∙ ap (λ b. b || is_among (filter (λ w. not (w == x)) l) x) h.0 ∙ gone x l
]

fewer : (p : ℕ → Bool) (l : List ℕ) (t : ℕ) → is_among l t ≡ false → is_among (filter p l) t ≡ false
fewer p [] t e = refl
fewer p (u ∷ l) t e = at (p u) (fewer p l t (right (u == t) (is_among l t) e))
  where
    right : (a b : Bool) → (a || b) ≡ false → b ≡ false
    right true b h = absurd (grind (arith, h))
    right false b h = h

    left : (a b : Bool) → (a || b) ≡ false → a ≡ false
    left true b h = h
    left false b h = refl

    at : (b : Bool) → is_among (filter p l) t ≡ false → is_among (cond b (u ∷ filter p l) (filter p l)) t ≡ false
    at true rest = ap (λ z. z || is_among (filter p l) t) (left (u == t) (is_among l t) e) ∙ rest
    at false rest = rest

once_filter : (p : ℕ → Bool) (l : List ℕ) → Once l → Once (filter p l)
once_filter p [] once = tt
once_filter p (x ∷ l) once = at (p x) (once_filter p l once.1)
  where
    at : (b : Bool) → Once (filter p l) → Once (cond b (x ∷ filter p l) (filter p l))
    at true rest = (fewer p l x once.0, rest)
    at false rest = rest

pub once_distinct : (xs : List ℕ) → Once (distinct xs)
once_distinct [] = tt
once_distinct (x ∷ xs) = (gone x (distinct xs), once_filter (λ u. not (u == x)) (distinct xs) (once_distinct xs))

-- ---- places

one_more : (i : ℕ) → 1 + i ≡ suc i
one_more i = omega arith

pub is_in : (ts : List ℕ) (t : ℕ) → is_among ts t ≡ true → IsIn ts t
is_in [] t e = absurd (grind (arith, e))
is_in (u ∷ ts) t e = at (u == t) refl (is_in ts t) e
  where
    at : (b : Bool) → (u == t) ≡ b → (is_among ts t ≡ true → IsIn ts t) → (b || is_among ts t) ≡ true → IsIn (u ∷ ts) t
    at true is rest h = subst (λ c. (cond (not c) (1 + place_in ts t) 0 < length (u ∷ ts))
        × (get_or (u ∷ ts) (cond (not c) (1 + place_in ts t) 0) 0 ≡ t)) (sym is) (omega arith, eqb_is u t is)
    at false is rest h =
        let r = rest h in
        subst (λ c. (cond (not c) (1 + place_in ts t) 0 < length (u ∷ ts))
        × (get_or (u ∷ ts) (cond (not c) (1 + place_in ts t) 0) 0 ≡ t)) (sym is)
        (let a = r.0 in omega (arith, a), ap (λ i. get_or (u ∷ ts) i 0) (one_more (place_in ts t)) ∙ r.1)

pub one_place : (ts : List ℕ) (t u : ℕ) → IsIn ts t → IsIn ts u → place_in ts t ≡ place_in ts u → t ≡ u
one_place ts t u a b e = sym a.1 ∙ ap (λ i. get_or ts i 0) e ∙ b.1

is_at : (ts : List ℕ) (i : ℕ) → i < length ts → is_among ts (get_or ts i 0) ≡ true
is_at [] i lt = absurd (omega (arith, lt))
is_at (u ∷ ts) zero lt = true_or (u == u) (is_among ts u) (eqb_self u)
is_at (u ∷ ts) (suc i) lt = or_true (u == get_or ts i 0) (is_among ts (get_or ts i 0)) (is_at ts i (omega (arith, lt)))

-- where no number stands twice, each stands at its place
pub once_at : (ts : List ℕ) (i : ℕ) → Once ts → i < length ts → place_in ts (get_or ts i 0) ≡ i
once_at [] i once lt = absurd (omega (arith, lt))
once_at (u ∷ ts) zero once lt = ap (λ c. cond (not c) (1 + place_in ts u) 0) (eqb_self u)
once_at (u ∷ ts) (suc i) once lt =
    let t = get_or ts i 0 in
    let within : i < length ts = omega (arith, lt) in
    let rest = once_at ts i once.1 within in
    elim (eqb_tells u t) [
      | inl h ↦ absurd (let bad : false ≡ true = sym once.0 ∙ ap (is_among ts) h.1 ∙ is_at ts i within in cc)
      | inr h ↦ ap (λ c. cond (not c) (1 + place_in ts t) 0) h.0 ∙ (omega (arith, rest))
    ]

-- ---- tokens that are held

abbrev pub IsHeldAmong : List ℕ → Holding → Type 0
IsHeldAmong xs (Token t) = is_among xs t ≡ true
IsHeldAmong xs h = Unit {0}

held_more : (xs ys : List ℕ) (h : Holding) → IsHeldAmong ys h → IsHeldAmong (xs ++ ys) h
held_more xs ys Dead is = tt
held_more xs ys Unset is = tt
held_more xs ys Null is = tt
held_more xs ys Text is = tt
held_more xs ys (Known n) is = tt
held_more xs ys Number is = tt
held_more xs ys (Token t) is = among_append_right xs ys t is

held_first : (h : Holding) (xs : List ℕ) → IsHeldAmong (token_in h ++ xs) h
held_first Dead xs = tt
held_first Unset xs = tt
held_first Null xs = tt
held_first Text xs = tt
held_first (Known n) xs = tt
held_first Number xs = tt
held_first (Token t) xs = true_or (t == t) (is_among xs t) (eq-eqb t t refl)

pub all_held : (hs : List Holding) → All (IsHeldAmong (tokens_in hs)) hs
all_held [] = All-nil (IsHeldAmong [])
all_held (h ∷ hs) = All-cons (IsHeldAmong (token_in h ++ tokens_in hs)) h hs (held_first h (tokens_in hs))
    (λ k d lt. held_more (token_in h) (tokens_in hs) (get_or hs k d) (all_held hs k d lt))

held_distinct : (xs : List ℕ) (h : Holding) → IsHeldAmong xs h → IsHeldAmong (distinct xs) h
held_distinct xs Dead is = tt
held_distinct xs Unset is = tt
held_distinct xs Null is = tt
held_distinct xs Text is = tt
held_distinct xs (Known n) is = tt
held_distinct xs Number is = tt
held_distinct xs (Token t) is = among_distinct xs t ∙ is

pub held_once : (hs : List Holding) → All (IsHeldAmong (distinct (tokens_in hs))) hs
held_once hs k d lt = held_distinct (tokens_in hs) (get_or hs k d) (all_held hs k d lt)

-- what holds of each held token holds of each
pub All_tokens : (P : ℕ → Type 0) (Q : Holding → Type 0) → ((t : ℕ) → Q (Token t) → P t) → (hs : List Holding)
    → All Q hs
    → All P (tokens_in hs)
All_tokens P Q step [] all = All-nil P
All_tokens P Q step (h ∷ hs) all =
    All-append P (token_in h) (tokens_in hs) (at h (All-head Q h hs all)) (All_tokens P Q step hs (All-tail Q h hs all))
  where
    at : (k : Holding) → Q k → All P (token_in k)
    at Dead q = All-nil P
    at Unset q = All-nil P
    at Null q = All-nil P
    at Text q = All-nil P
    at (Known n) q = All-nil P
    at Number q = All-nil P
    at (Token t) q = All-cons P t [] (step t q) (All-nil P)

-- ---- numbered anew

pub tokens_renamed : (g : ℕ → ℕ) (hs : List Holding) → tokens_in (map (rename_holding g) hs) ≡ map g (tokens_in hs)
tokens_renamed g [] = refl
tokens_renamed g (Dead ∷ hs) = tokens_renamed g hs
tokens_renamed g (Unset ∷ hs) = tokens_renamed g hs
tokens_renamed g (Null ∷ hs) = tokens_renamed g hs
tokens_renamed g (Text ∷ hs) = tokens_renamed g hs
tokens_renamed g (Known n ∷ hs) = tokens_renamed g hs
tokens_renamed g (Number ∷ hs) = tokens_renamed g hs
tokens_renamed g (Token t ∷ hs) = ap (λ ts. g t ∷ ts) (tokens_renamed g hs)

-- a map that tells the members apart
abbrev pub TellsApart : (ℕ → ℕ) → List ℕ → Type 0
TellsApart g xs = (t u : ℕ) → is_among xs t ≡ true → is_among xs u ≡ true → g t ≡ g u → t ≡ u

filter_map : (g : ℕ → ℕ) (x : ℕ) (l : List ℕ) → ((u : ℕ) → is_among l u ≡ true → g u ≡ g x → u ≡ x)
    → filter (λ u. not (u == g x)) (map g l) ≡ map g (filter (λ u. not (u == x)) l)
filter_map g x [] tells = refl
filter_map g x (u ∷ l) tells =
    let rest : filter (λ w. not (w == g x)) (map g l) ≡ map g (filter (λ w. not (w == x)) l) = filter_map g x l
    (λ w is e. tells w (or_true (u == w) (is_among l w) is) e) in
    elim (eqb_tells u x) [
      | inl h ↦ ap (λ b. cond (not b) (g u ∷ filter (λ w. not (w == g x)) (map g l))
          (filter (λ w. not (w == g x)) (map g l)))
          (eq-eqb (g u) (g x) (ap g h.1)) ∙ rest
          ∙ sym (ap (λ b. map g (cond (not b) (u ∷ filter (λ w. not (w == x)) l) (filter (λ w. not (w == x)) l))) h.0)
      | inr h ↦ ap (λ b. cond (not b) (g u ∷ filter (λ w. not (w == g x)) (map g l))
          (filter (λ w. not (w == g x)) (map g l)))
          (eqb_not (g u) (g x) (λ e. h.1 (tells u (true_or (u == u) (is_among l u) (eq-eqb u u refl)) e)))
          ∙ ap (λ z. g u ∷ z) rest
          ∙ sym (ap (λ b. map g (cond (not b) (u ∷ filter (λ w. not (w == x)) l) (filter (λ w. not (w == x)) l))) h.0)
    ]

pub distinct_map : (g : ℕ → ℕ) (xs : List ℕ) → TellsApart g xs → distinct (map g xs) ≡ map g (distinct xs)
distinct_map g [] tells = refl
distinct_map g (x ∷ xs) tells =
    ap (λ z. g x ∷ filter (λ u. not (u == g x)) z) (distinct_map g xs (λ t u a b e. tells t u
    (or_true (x == t) (is_among xs t) a) (or_true (x == u) (is_among xs u) b) e))
    ∙ ap (λ z. g x ∷ z) (filter_map g x (distinct xs) (λ u is e. tells u x
    (or_true (x == u) (is_among xs u) (sym (among_distinct xs u) ∙ is))
    (true_or (x == x) (is_among xs x) (eq-eqb x x refl))
    e))
