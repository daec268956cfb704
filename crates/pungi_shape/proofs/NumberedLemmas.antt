-- New numbers of tokens.
use Rattle.std.proofs.Common.{◌≡◌, ◌∙◌, ℕ, zero, suc, ◌+◌, ◌<◌, ◌≤◌, ◌==◌, ◌⊎◌, inl, inr, Bool, true, false, not, ◌||◌}
use Rattle.std.proofs.Common.{Option, Some, None, List, [], ◌∷◌, ◌++◌, length, get_or, replicate, refl, sym, ap}
use Rattle.std.proofs.Common.{arith}
use Rattle.std.proofs.Common.{if◌then◌else◌, append-nil, append_assoc}
use Rattle.std.proofs.Math.ListN.{set}
use Rattle.std.specs.List.{All, filter}
use Rattle.std.proofs.lemmas.Grind.{flat_map-append}
use Rattle.std.proofs.lemmas.List.Elements.{All-head, All-tail, filter-append}
use Rattle.pungi_shape.specs.declared.holding.Holding.{Holding}
use Rattle.pungi_shape.specs.declared.numbering.Numbering.{Numbering}
use Rattle.pungi_shape.specs.Arrivals.{place_in}
use Rattle.pungi_shape.specs.Liveness.{is_among}
use Rattle.pungi_shape.specs.Numbered.{mark, mark_all, no_numbers, number_by, number_token, number_tokens}
use Rattle.pungi_shape.specs.Shapes.{distinct, token_in, tokens_in}

pub number_tokens-append : (ts us : List ℕ) (m : Numbering)
    → number_tokens (ts ++ us) m ≡ number_tokens us (number_tokens ts m)
number_tokens-append [] us m = refl
number_tokens-append (t ∷ ts) us m = number_tokens-append ts us (number_token t m)

pub number_tokens_more : (h : Holding) (hs : List Holding) (m : Numbering)
    → number_tokens (tokens_in (h ∷ hs)) m ≡ number_tokens (tokens_in hs) (number_tokens (token_in h) m)
number_tokens_more h hs m = number_tokens-append (token_in h) (tokens_in hs) m

pub tokens_in-append : (hs ks : List Holding) → tokens_in (hs ++ ks) ≡ tokens_in hs ++ tokens_in ks
tokens_in-append hs ks = flat_map-append token_in hs ks

pub mark_all-append : (hs ks : List Holding) (marks : List Bool)
    → mark_all (hs ++ ks) marks ≡ mark_all ks (mark_all hs marks)
mark_all-append [] ks marks = refl
mark_all-append (h ∷ hs) ks marks = mark_all-append hs ks (mark h marks)

-- ---- members

among_push : (ts : List ℕ) (t u : ℕ) → is_among (ts ++ t ∷ []) u ≡ (is_among ts u || (t == u))
among_push [] t u = go (t == u)
  where
    go : (b : Bool) → (b || false) ≡ (false || b)
    go true = refl
    go false = refl
among_push (v ∷ ts) t u = rw (among_push ts t u) (assoc (v == u) (is_among ts u) (t == u))
  where
    assoc : (a b c : Bool) → (a || (b || c)) ≡ ((a || b) || c)
    assoc true b c = refl
    assoc false b c = refl

-- one more is there already, or comes last
pub distinct_push : (ts : List ℕ) (t : ℕ)
    → distinct (ts ++ t ∷ []) ≡ (if is_among ts t then distinct ts else distinct ts ++ t ∷ [])
distinct_push [] t = refl
distinct_push (u ∷ ts) t = go (is_among ts t) refl (u == t) refl (distinct_push ts t)
  where
    go : (a : Bool) → is_among ts t ≡ a → (b : Bool) → (u == t) ≡ b
        → distinct (ts ++ t ∷ []) ≡ (if is_among ts t then distinct ts else distinct ts ++ t ∷ [])
        → distinct (u ∷ (ts ++ t ∷ []))
        ≡ (if is_among (u ∷ ts) t then distinct (u ∷ ts) else distinct (u ∷ ts) ++ t ∷ [])
    go true e true f h = rw f (let g = rw e at h in rw g refl)
    go true e false f h = rw (f, e) (let g = rw e at h in rw g refl)
    go false e true f h =
        let s : (t == u) ≡ true = grind (arith, f) in
        let g = rw e at h in
        rw f (rw (g, filter-append (λ v. not (v == u)) (distinct ts) (t ∷ []), s) (rw append-nil refl))
    go false e false f h =
        let s : (t == u) ≡ false = grind (arith, f) in
        let g = rw e at h in
        rw (f, e) (rw (g, filter-append (λ v. not (v == u)) (distinct ts) (t ∷ []), s) refl)

among_filter : (ts : List ℕ) (u t : ℕ) → (u == t) ≡ false → is_among (filter (λ v. not (v == u)) ts) t ≡ is_among ts t
among_filter [] u t e = refl
among_filter (v ∷ ts) u t e = go (v == u) refl (among_filter ts u t e)
  where
    go : (b : Bool) → (v == u) ≡ b → is_among (filter (λ w. not (w == u)) ts) t ≡ is_among ts t
        → is_among (filter (λ w. not (w == u)) (v ∷ ts)) t ≡ is_among (v ∷ ts) t
    go true f h = (let s : (v == t) ≡ false = grind (arith, f, e) in rw (f, s) h)
    go false f h = rw f (ap (λ b. (v == t) || b) h)

pub among_distinct : (ts : List ℕ) (t : ℕ) → is_among (distinct ts) t ≡ is_among ts t
among_distinct [] t = refl
among_distinct (u ∷ ts) t = go (u == t) refl (among_distinct ts t)
  where
    go : (b : Bool) → (u == t) ≡ b → is_among (distinct ts) t ≡ is_among ts t
        → is_among (distinct (u ∷ ts)) t ≡ is_among (u ∷ ts) t
    go true f h = rw f refl
    go false f h = rw f (among_filter (distinct ts) u t f ∙ h)

-- ---- places

place_there : (xs ys : List ℕ) (t : ℕ) → is_among xs t ≡ true → place_in (xs ++ ys) t ≡ place_in xs t
place_there [] ys t h = cc
place_there (x ∷ xs) ys t h = go (x == t) refl (place_there xs ys t)
  where
    go : (b : Bool) → (x == t) ≡ b → (is_among xs t ≡ true → place_in (xs ++ ys) t ≡ place_in xs t)
        → place_in ((x ∷ xs) ++ ys) t ≡ place_in (x ∷ xs) t
    go true e more = rw e refl
    go false e more = (let g = rw e at h in rw (e, more g) refl)

place_past : (xs ys : List ℕ) (t : ℕ) → is_among xs t ≡ false → place_in (xs ++ ys) t ≡ length xs + place_in ys t
place_past [] ys t h = omega arith
place_past (x ∷ xs) ys t h = go (x == t) refl (place_past xs ys t)
  where
    go : (b : Bool) → (x == t) ≡ b → (is_among xs t ≡ false → place_in (xs ++ ys) t ≡ length xs + place_in ys t)
        → place_in ((x ∷ xs) ++ ys) t ≡ length (x ∷ xs) + place_in ys t
    go true e more = (let g = rw e at h in cc)
    go false e more = (let g = rw e at h in let p = more g in rw e (omega (arith, p)))

pub place_none : (xs : List ℕ) (t : ℕ) → is_among xs t ≡ false → place_in xs t ≡ length xs
place_none xs t h = (let p = place_past xs [] t h in let e = append-nil xs in let q = rw e at p in omega (arith, q))

-- ---- numbers

abbrev pub number_in : List ℕ → ℕ → Option ℕ
number_in ts t = if is_among ts t then Some (place_in (distinct ts) t) else None

pub record IsNumbering (n : ℕ) (ts : List ℕ) (m : Numbering) : Type 0 where
  pub tokens : m.tokens ≡ distinct ts
  pub count : length m.numbers ≡ n
  pub numbers : (t : ℕ) → t < n → get_or m.numbers t None ≡ number_in ts t

abbrev none_list : ℕ → List (Option ℕ)
none_list n = replicate n None

none_at : (n t : ℕ) → get_or (none_list n) t None ≡ None
none_at zero t = refl
none_at (suc n) zero = refl
none_at (suc n) (suc t) = none_at n t

none_count : (n : ℕ) → length (none_list n) ≡ n
none_count zero = refl
none_count (suc n) = (let h = none_count n in omega (arith, h))

numbering_none : (n : ℕ) → IsNumbering n [] (no_numbers n)
numbering_none n = record { tokens = refl; count = none_count n; numbers = λ t lt. none_at n t }

-- what was there keeps its number
number_stays : (ts : List ℕ) (t u : ℕ) → (t == u) ≡ false → number_in (ts ++ t ∷ []) u ≡ number_in ts u
number_stays ts t u e = go (is_among ts u) refl (is_among ts t) refl
  where
    go : (a : Bool) → is_among ts u ≡ a → (b : Bool) → is_among ts t ≡ b → number_in (ts ++ t ∷ []) u ≡ number_in ts u
    go true f true g = rw (among_push ts t u, f, distinct_push ts t, g) refl
    go true f false g =
        let d : is_among (distinct ts) u ≡ true = among_distinct ts u ∙ f in
        rw (among_push ts t u, f, distinct_push ts t, g, place_there (distinct ts) (t ∷ []) u d) refl
    go false f b g = rw (among_push ts t u, f, e) refl

number_again : (ts : List ℕ) (t u : ℕ) → is_among ts t ≡ true → number_in (ts ++ t ∷ []) u ≡ number_in ts u
number_again ts t u h = go (t == u) refl
  where
    go : (b : Bool) → (t == u) ≡ b → number_in (ts ++ t ∷ []) u ≡ number_in ts u
    go false e = number_stays ts t u e
    go true e =
        let s : t ≡ u = grind (arith, e) in
        let g : is_among ts u ≡ true = rw (← s) h in
        rw (among_push ts t u, g, distinct_push ts t, h) refl

number_new : (ts : List ℕ) (t : ℕ) → is_among ts t ≡ false → number_in (ts ++ t ∷ []) t ≡ Some (length (distinct ts))
number_new ts t h =
    let s : (t == t) ≡ true = grind arith in
    let d : is_among (distinct ts) t ≡ false = among_distinct ts t ∙ h in
    let p : place_in (distinct ts ++ t ∷ []) t ≡ length (distinct ts) =
    (let q = place_past (distinct ts) (t ∷ []) t d in let z : place_in (t ∷ []) t ≡ 0 = rw s refl in
    omega (arith, q, z)) in
    rw (among_push ts t t, h, s, distinct_push ts t, h) (ap Some p)

get_or_set : (xs : List (Option ℕ)) (i q : ℕ) (x : Option ℕ) → i < length xs
    → get_or (set xs i x) q None ≡ (if i == q then x else get_or xs q None)
get_or_set [] i q x lt = absurd (omega arith)
get_or_set (y ∷ xs) zero zero x lt = refl
get_or_set (y ∷ xs) zero (suc q) x lt = (let s : (0 == suc q) ≡ false = grind arith in rw s refl)
get_or_set (y ∷ xs) (suc i) zero x lt = (let s : (suc i == 0) ≡ false = grind arith in rw s refl)
get_or_set (y ∷ xs) (suc i) (suc q) x lt =
    let s : (suc i == suc q) ≡ (i == q) = grind arith in rw s (get_or_set xs i q x (omega (arith, lt)))

length_set : (xs : List (Option ℕ)) (i : ℕ) (x : Option ℕ) → length (set xs i x) ≡ length xs
length_set [] i x = refl
length_set (y ∷ xs) zero x = refl
length_set (y ∷ xs) (suc i) x = (let h = length_set xs i x in omega (arith, h))

numbering_push : (n : ℕ) (ts : List ℕ) (t : ℕ) (m : Numbering) → IsNumbering n ts m → t < n
    → IsNumbering n (ts ++ t ∷ []) (number_token t m)
numbering_push n ts t m h lt = go (is_among ts t) refl
  where
    go : (a : Bool) → is_among ts t ≡ a → IsNumbering n (ts ++ t ∷ []) (number_token t m)
    go true e =
        let g : get_or m.numbers t None ≡ Some (place_in (distinct ts) t) = h.numbers t lt ∙ rw e refl in
        rw g (record {
          tokens = h.tokens ∙ sym (distinct_push ts t ∙ rw e refl);
          count = h.count;
          numbers = λ u l. h.numbers u l ∙ sym (number_again ts t u e);
        })
    go false e =
        let g : get_or m.numbers t None ≡ None = h.numbers t lt ∙ rw e refl in
        let there : t < length m.numbers = omega (arith, h.count, lt) in
        rw g (record {
          tokens = ap (λ us. us ++ t ∷ []) h.tokens ∙ sym (distinct_push ts t ∙ rw e refl);
          count = length_set m.numbers t (Some (length m.tokens)) ∙ h.count;
          numbers = λ u l. get_or_set m.numbers t u (Some (length m.tokens)) there ∙ pick (t == u) refl e l;
        })
      where
        pick : {u : ℕ} (b : Bool) → (t == u) ≡ b → is_among ts t ≡ false → u < n
            → (if t == u then Some (length m.tokens) else get_or m.numbers u None) ≡ number_in (ts ++ t ∷ []) u
        pick {u} true f e l =
            let s : u ≡ t = grind (arith, f) in
            rw (f, s) (ap Some (ap length h.tokens) ∙ sym (number_new ts t e))
        pick {u} false f e l = rw f (h.numbers u l ∙ sym (number_stays ts t u f))

numbering_from : (n : ℕ) (ts us : List ℕ) (m : Numbering) → IsNumbering n ts m → All (λ t. t < n) us
    → IsNumbering n (ts ++ us) (number_tokens us m)
numbering_from n ts [] m h below = rw append-nil h
numbering_from n ts (u ∷ us) m h below =
    let lt = All-head (λ t. t < n) u us below in
    let g = numbering_from n (ts ++ u ∷ []) us (number_token u m) (numbering_push n ts u m h lt)
    (All-tail (λ t. t < n) u us below) in
    rw (append_assoc ts (u ∷ []) us) at g

pub numbering_of : (n : ℕ) (ts : List ℕ) → All (λ t. t < n) ts → IsNumbering n ts (number_tokens ts (no_numbers n))
numbering_of n ts below = numbering_from n [] ts (no_numbers n) (numbering_none n) below

-- ---- the number of each token

among_below : (n : ℕ) (ts : List ℕ) (t : ℕ) → All (λ u. u < n) ts → n ≤ t → is_among ts t ≡ false
among_below n [] t below le = refl
among_below n (u ∷ ts) t below le =
    let lt = All-head (λ v. v < n) u ts below in
    let s : (u == t) ≡ false = grind (arith, lt, le) in
    rw s (among_below n ts t (All-tail (λ v. v < n) u ts below) le)

get_or_none : (xs : List (Option ℕ)) (i : ℕ) → length xs ≤ i → get_or xs i None ≡ None
get_or_none [] i h = refl
get_or_none (x ∷ xs) zero h = absurd (omega (arith, h))
get_or_none (x ∷ xs) (suc i) h = get_or_none xs i (omega (arith, h))

below_or_past : (m n : ℕ) → (m < n) ⊎ (n ≤ m)
below_or_past m zero = inr (omega arith)
below_or_past zero (suc n) = inl (omega arith)
below_or_past (suc m) (suc n) =
    elim (below_or_past m n) [ inl h ↦ inl (omega (arith, h)) | inr h ↦ inr (omega (arith, h)) ]

pub number_is_place : (n : ℕ) (ts : List ℕ) (m : Numbering) → IsNumbering n ts m → All (λ t. t < n) ts → (t : ℕ)
    → number_by m t ≡ place_in (distinct ts) t
number_is_place n ts m h below t = go (is_among ts t) refl
  where
    none : is_among ts t ≡ false → get_or m.numbers t None ≡ None
    none e = elim (below_or_past t n) [
      | inl lt ↦ h.numbers t lt ∙ rw e refl
      | inr ge ↦ get_or_none m.numbers t (omega (arith, h.count, ge))
    ]

    go : (a : Bool) → is_among ts t ≡ a → number_by m t ≡ place_in (distinct ts) t
    go true e = elim (below_or_past t n) [
      | inl lt ↦ rw (h.numbers t lt, e) refl
      | inr ge ↦ let f = among_below n ts t below ge in absurd (let g : true ≡ false = sym e ∙ f in cc)
    ]
    go false e =
        rw (none e) (ap length h.tokens ∙ sym (place_none (distinct ts) t (among_distinct ts t ∙ e)))
