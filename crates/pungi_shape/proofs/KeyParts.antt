-- Holdings and slots are read off the numbers of a shape one by one.
--   read_holding ns, read_spot ns    the holding, the spot that such numbers begin with, and the numbers after it
--   CountsTokens hs rs m    as many marks as there are tokens
use Rattle.std.proofs.Common.{◌≡◌, ◌∙◌, refl, sym, ap, arith, ℕ, ◌+◌, ◌-◌, ◌≤◌, ◌==◌, nat_lt, pos, negsuc}
use Rattle.std.proofs.Common.{Bool, true, false, cond, not, List, [], ◌∷◌, ◌++◌, length, map, get_or, drop}
use Rattle.std.proofs.Common.{append_assoc, append-nil}
use Rattle.std.specs.List.{filter, flat_map}
use Rattle.std.proofs.lemmas.Bool.{cond_above}
use Rattle.std.proofs.lemmas.Grind.{flat_map-append}
use Rattle.std.proofs.lemmas.List.{length-append, length-map}
use Rattle.pungi_shape.specs.declared.holding.Holding.{Holding}
use Rattle.pungi_shape.specs.declared.holding.Holding.TheVariants.{Dead, Unset, Null, Text, Known, Number, Token}
use Rattle.pungi_shape.specs.declared.tracked.Spot.{Spot}
use Rattle.pungi_shape.specs.declared.tracked.Spot.TheVariants.{Global, Field}
use Rattle.pungi_shape.specs.declared.tracked.Tracked.{Tracked}
use Rattle.pungi_shape.specs.Forms.{one_if}
use Rattle.pungi_shape.specs.Shapes.{distinct, holding_of_slot, numbers_of_holding, numbers_of_spot}
use Rattle.pungi_shape.specs.Shapes.{numbers_of_tracked, token_in, tokens_in}

-- ---- holdings

abbrev read_known : List ℕ → Holding × List ℕ
read_known [] = (Dead, [])
read_known (s ∷ []) = (Dead, [])
read_known (s ∷ n ∷ ns) = cond (s == 0) (Known (negsuc n), ns) (Known (pos n), ns)

abbrev read_small : ℕ → List ℕ → Holding × List ℕ
read_small n ns =
    cond (n == 0) (Unset, ns) (cond (n == 1) (Null, ns) (cond (n == 2) (Text, ns)
    (cond (n == 3) (read_known ns) (cond (n == 6) (Number, ns) (Dead, ns)))))

abbrev read_holding : List ℕ → Holding × List ℕ
read_holding [] = (Dead, [])
read_holding (n ∷ ns) = cond (nat_lt n 8) (read_small n ns) (Token (n - 8), ns)

read-token : (t : ℕ) (ns : List ℕ)
    → cond (nat_lt (8 + t) 8) (read_small (8 + t) ns) (Token ((8 + t) - 8), ns) ≡ (Token t, ns)
read-token t ns =
    let less : (8 + t) - 8 ≡ t = omega arith in
    sym (cond_above (8 + t) 8 (read_small (8 + t) ns) (Token ((8 + t) - 8), ns) (Token ((8 + t) - 8), ns)
    (omega arith) refl)
    ∙ ap (λ u. (let r : Holding × List ℕ = (Token u, ns) in r)) less

reads-holding : (h : Holding) (ns : List ℕ) → read_holding (numbers_of_holding h ++ ns) ≡ (h, ns)
reads-holding Dead ns = refl
reads-holding Unset ns = refl
reads-holding Null ns = refl
reads-holding Text ns = refl
reads-holding (Known (negsuc n)) ns = refl
reads-holding (Known (pos n)) ns = refl
reads-holding Number ns = refl
reads-holding (Token t) ns = read-token t ns

abbrev Both : {A : Type 0} → A → A → List ℕ → List ℕ → Type 0
Both x y ms ns = (x ≡ y) × (ms ≡ ns)

holding-apart : (h g : Holding) (ms ns : List ℕ) → numbers_of_holding h ++ ms ≡ numbers_of_holding g ++ ns
    → Both h g ms ns
holding-apart h g ms ns e =
    let both : ◌≡◌ {A = Holding × List ℕ} (h, ms) (g, ns) =
    sym (reads-holding h ms) ∙ ap read_holding e ∙ reads-holding g ns in
    (ap (λ p. p.0) both, ap (λ p. p.1) both)

pub holdings-apart : (hs gs : List Holding) (ms ns : List ℕ) → length hs ≡ length gs
    → flat_map numbers_of_holding hs ++ ms ≡ flat_map numbers_of_holding gs ++ ns → (hs ≡ gs) × (ms ≡ ns)
holdings-apart [] [] ms ns long e = (refl, e)
holdings-apart [] (g ∷ gs) ms ns long e = absurd (omega (arith, long))
holdings-apart (h ∷ hs) [] ms ns long e = absurd (omega (arith, long))
holdings-apart (h ∷ hs) (g ∷ gs) ms ns long e =
    let one = holding-apart h g (flat_map numbers_of_holding hs ++ ms) (flat_map numbers_of_holding gs ++ ns)
    (sym (append_assoc (numbers_of_holding h) (flat_map numbers_of_holding hs) ms) ∙ e
    ∙ append_assoc (numbers_of_holding g) (flat_map numbers_of_holding gs) ns) in
    let rest = holdings-apart hs gs ms ns (omega (arith, long)) one.1 in
    (ap (λ x. x ∷ hs) one.0 ∙ ap (λ l. g ∷ l) rest.0, rest.1)

-- ---- slots

abbrev read_spot : List ℕ → Spot × List ℕ
read_spot [] = (Global (record { 0 = 0 }), [])
read_spot (k ∷ []) = (Global (record { 0 = 0 }), [])
read_spot (k ∷ b ∷ ns) =
    cond (k == 0) (Global (record { 0 = b }), ns)
    (Field b (record { 0 = get_or ns 0 0 }) (record { 0 = get_or ns 1 0 }), drop 2 ns)

reads-spot : (p : Spot) (ns : List ℕ) → read_spot (numbers_of_spot p ++ ns) ≡ (p, ns)
reads-spot (Global name) ns = refl
reads-spot (Field b tag field) ns = refl

spot-apart : (p q : Spot) (ms ns : List ℕ) → numbers_of_spot p ++ ms ≡ numbers_of_spot q ++ ns → Both p q ms ns
spot-apart p q ms ns e =
    let both : ◌≡◌ {A = Spot × List ℕ} (p, ms) (q, ns) =
    sym (reads-spot p ms) ∙ ap read_spot e ∙ reads-spot q ns in
    (ap (λ p. p.0) both, ap (λ p. p.1) both)

tracked-apart : (r s : Tracked) (ms ns : List ℕ) → numbers_of_tracked r ++ ms ≡ numbers_of_tracked s ++ ns
    → Both r s ms ns
tracked-apart r s ms ns e =
    let spots = spot-apart r.spot s.spot (numbers_of_holding r.held ++ ms) (numbers_of_holding s.held ++ ns)
    (sym (append_assoc (numbers_of_spot r.spot) (numbers_of_holding r.held) ms) ∙ e
    ∙ append_assoc (numbers_of_spot s.spot) (numbers_of_holding s.held) ns) in
    let held = holding-apart r.held s.held ms ns spots.1 in (
      ap (λ p. (let t : Tracked = record { spot = p; held = r.held } in t)) spots.0
          ∙ ap (λ h. (let t : Tracked = record { spot = s.spot; held = h } in t)) held.0,
      held.1,
    )

-- ---- marks

marks-back : (m : List Bool) → map (λ n. not (n == 0)) (map one_if m) ≡ m
marks-back [] = refl
marks-back (true ∷ m) = ap (λ l. true ∷ l) (marks-back m)
marks-back (false ∷ m) = ap (λ l. false ∷ l) (marks-back m)

marks-apart : (m n : List Bool) → map one_if m ≡ map one_if n → m ≡ n
marks-apart m n e = sym (marks-back m) ∙ ap (map (λ k. not (k == 0))) e ∙ marks-back n

-- ---- slots, and then marks

pub filter-append : (p : ℕ → Bool) (xs ys : List ℕ) → filter p (xs ++ ys) ≡ filter p xs ++ filter p ys
filter-append p [] ys = refl
filter-append p (x ∷ xs) ys = at (p x) (filter-append p xs ys)
  where
    at : (b : Bool) → filter p (xs ++ ys) ≡ filter p xs ++ filter p ys
        → cond b (x ∷ filter p (xs ++ ys)) (filter p (xs ++ ys)) ≡ cond b (x ∷ filter p xs) (filter p xs) ++ filter p ys
    at true rest = ap (λ l. x ∷ l) rest
    at false rest = rest

distinct-prefix : (xs ys : List ℕ) → (rest : List ℕ) × (distinct (xs ++ ys) ≡ distinct xs ++ rest)
distinct-prefix [] ys = (distinct ys, refl)
distinct-prefix (x ∷ xs) ys =
    let later = distinct-prefix xs ys in (
      filter (λ u. not (u == x)) later.0,
      ap (λ l. x ∷ filter (λ u. not (u == x)) l) later.1
          ∙ ap (λ l. x ∷ l) (filter-append (λ u. not (u == x)) (distinct xs) later.0),
    )

pub tokens-append : (hs gs : List Holding) → tokens_in (hs ++ gs) ≡ tokens_in hs ++ tokens_in gs
tokens-append hs gs = flat_map-append token_in hs gs

-- more holders have no fewer tokens
more-tokens : (hs gs : List Holding) → length (distinct (tokens_in hs)) ≤ length (distinct (tokens_in (hs ++ gs)))
more-tokens hs gs =
    let more = distinct-prefix (tokens_in hs) (tokens_in gs) in
    let long : length (distinct (tokens_in (hs ++ gs))) ≡ length (distinct (tokens_in hs)) + length more.0 =
    ap (λ l. length (distinct l)) (tokens-append hs gs) ∙ ap length more.1
    ∙ length-append (distinct (tokens_in hs)) more.0 in
    omega (arith, long)

abbrev pub CountsTokens : List Holding → List Tracked → List Bool → Type 0
CountsTokens hs rs m = length m ≡ length (distinct (tokens_in (hs ++ map holding_of_slot rs)))

some-numbers : (r : Tracked) → 1 ≤ length (numbers_of_tracked r)
some-numbers r = at r.spot r.held
  where
    at : (p : Spot) (h : Holding) → 1 ≤ length (numbers_of_spot p ++ numbers_of_holding h)
    at (Global name) h = omega arith
    at (Field b tag field) h = omega arith

-- where one list goes on with slots, the other doesn't end
no-end : (hs : List Holding) (r : Tracked) (rs : List Tracked) (m n : List Bool) → CountsTokens hs [] m
    → CountsTokens hs (r ∷ rs) n → map one_if m ≡ flat_map numbers_of_tracked (r ∷ rs) ++ map one_if n → ⊥
no-end hs r rs m n few many e =
    let fewer = more-tokens hs (map holding_of_slot (r ∷ rs)) in
    let base : length m ≡ length (distinct (tokens_in hs)) =
    few ∙ ap (λ l. length (distinct (tokens_in l))) (append-nil hs) in
    let some = some-numbers r in
    let first : length (map one_if m) ≡ length m = length-map m one_if in
    let last : length (map one_if n) ≡ length n = length-map n one_if in
    let all : length (map one_if m)
    ≡ length (numbers_of_tracked r ++ flat_map numbers_of_tracked rs) + length (map one_if n) =
    ap length e ∙ length-append (numbers_of_tracked r ++ flat_map numbers_of_tracked rs) (map one_if n) in
    let slot : length (numbers_of_tracked r ++ flat_map numbers_of_tracked rs)
    ≡ length (numbers_of_tracked r) + length (flat_map numbers_of_tracked rs) =
    length-append (numbers_of_tracked r) (flat_map numbers_of_tracked rs) in
    omega (arith, fewer, base, many, some, first, last, all, slot)

pub slots-apart : (hs : List Holding) (rs ss : List Tracked) (m n : List Bool) → CountsTokens hs rs m
    → CountsTokens hs ss n
    → flat_map numbers_of_tracked rs ++ map one_if m ≡ flat_map numbers_of_tracked ss ++ map one_if n
    → (rs ≡ ss) × (m ≡ n)
slots-apart hs [] [] m n c d e = (refl, marks-apart m n e)
slots-apart hs [] (s ∷ ss) m n c d e = absurd (no-end hs s ss m n c d e)
slots-apart hs (r ∷ rs) [] m n c d e = absurd (no-end hs r rs n m d c (sym e))
slots-apart hs (r ∷ rs) (s ∷ ss) m n c d e =
    let one = tracked-apart r s (flat_map numbers_of_tracked rs ++ map one_if m)
    (flat_map numbers_of_tracked ss ++ map one_if n)
    (sym (append_assoc (numbers_of_tracked r) (flat_map numbers_of_tracked rs) (map one_if m)) ∙ e
    ∙ append_assoc (numbers_of_tracked s) (flat_map numbers_of_tracked ss) (map one_if n)) in
    let these : CountsTokens (hs ++ s.held ∷ []) rs m =
    c ∙ ap (λ x. length (distinct (tokens_in (hs ++ x ∷ map holding_of_slot rs)))) (ap (λ t. t.held) one.0)
    ∙ ap (λ l. length (distinct (tokens_in l))) (sym (append_assoc hs (s.held ∷ []) (map holding_of_slot rs))) in
    let those : CountsTokens (hs ++ s.held ∷ []) ss n =
    d ∙ ap (λ l. length (distinct (tokens_in l))) (sym (append_assoc hs (s.held ∷ []) (map holding_of_slot ss))) in
    let rest = slots-apart (hs ++ s.held ∷ []) rs ss m n these those one.1 in
    (ap (λ x. x ∷ rs) one.0 ∙ ap (λ l. s ∷ l) rest.0, rest.1)
