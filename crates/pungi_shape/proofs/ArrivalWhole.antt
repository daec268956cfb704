-- The shape that is kept of a scene, and its tokens.
use Rattle.std.proofs.Common.{◌≡◌, ◌∙◌, ℕ, ◌+◌, ◌<◌, ◌≤◌, ◌==◌, Bool, true, false, not, ◌&&◌, List, []}
use Rattle.std.proofs.Common.{◌∷◌}
use Rattle.std.proofs.Common.{◌++◌, length, map, replicate, get_or, refl, sym, ap, arith}
use Rattle.std.specs.List.{All, enumerate_from, filter, list_any}
use Rattle.std.proofs.lemmas.List.Elements.{All-append, All-cons, All-filter, All-head, All-nil, All-tail}
use Rattle.std.proofs.lemmas.Map.Steps.{length-le_from_distinct_below}
use Rattle.std.specs.List.{AllByRecursion, IsDistinct}
use Rattle.std.specs.Prelude.{eqb}
use Rattle.std.specs.FinMap.{put}
use Rattle.std.specs.Ordering.{nat_cmp}
use Rattle.std.specs.declared.cmp.Ordering.{Ordering}
use Rattle.std.specs.declared.cmp.Ordering.TheVariants.{Less, Equal, Greater}
use Rattle.std.specs.Cmp.Lexicographic.{slice_cmp}
use Rattle.pungi_code.specs.declared.code.Code.{Code}
use Rattle.pungi_shape.specs.declared.holding.Holding.{Holding}
use Rattle.pungi_shape.specs.declared.point.Point.{Point}
use Rattle.pungi_shape.specs.declared.shape.Shape.{Shape}
use Rattle.pungi_shape.specs.declared.tracked.Tracked.{Tracked}
use Rattle.pungi_shape.specs.Arrivals.{anchors, is_kept, place_in, put_slots, settle_slots, slot_key, slots_in_order}
use Rattle.pungi_shape.specs.Arrivals.{drop_of, holds_token, renumber, trim}
use Rattle.pungi_shape.specs.Forms.{Form}
use Rattle.pungi_shape.specs.Scenes.{is_made}
use Rattle.std.specs.List.{flat_map, zip}
use Rattle.std.proofs.Common.{Option}
use Rattle.pungi_shape.specs.Bounds.{AreTokens, base_in, bases_in}
use Rattle.pungi_shape.specs.Liveness.{is_holder}
use Rattle.pungi_shape.specs.Numbered.{dropped, kept_by, made_by, mark_all, no_numbers, number_by, number_tokens}
use Rattle.pungi_shape.specs.Numbered.{put_spots}
use Rattle.pungi_shape.specs.Shapes.{before_slots, distinct, holders, holding_of_slot, holding_of_static, rename}
use Rattle.pungi_shape.specs.Shapes.{token_in}
use Rattle.pungi_shape.specs.Shapes.{tokens_in}
use Rattle.pungi_shape.proofs.ArrivalEnds.{drops_are, filter_same, kept_is, key_is, marks_are, spots_are}
use Rattle.pungi_shape.proofs.KeptLemmas.{holder_or_dead}
use Rattle.pungi_shape.proofs.NumberedLemmas.{number_is_place, number_tokens-append, numbering_of}
use Rattle.pungi_shape.proofs.NumberedLemmas.{tokens_in-append}

-- ---- parts of lists

pub all_left : {X : Type 0} (P : X → Type 0) (xs ys : List X) → All P (xs ++ ys) → All P xs
all_left P [] ys h = All-nil P
all_left P (x ∷ xs) ys h =
    All-cons P x xs (All-head P x (xs ++ ys) h) (all_left P xs ys (All-tail P x (xs ++ ys) h))

pub all_right : {X : Type 0} (P : X → Type 0) (xs ys : List X) → All P (xs ++ ys) → All P ys
all_right P [] ys h = h
all_right P (x ∷ xs) ys h = all_right P xs ys (All-tail P x (xs ++ ys) h)

-- ---- where less is held

fewer_tokens : (code : Code) (p : Point) (n k : ℕ) (vs : List Holding) → All (λ t. t < n) (tokens_in vs)
    → All (λ t. t < n) (tokens_in (map (holder_or_dead code p) (enumerate_from k vs)))
fewer_tokens code p n k [] h = All-nil (λ t. t < n)
fewer_tokens code p n k (v ∷ vs) h =
    let rest = fewer_tokens code p n (k + 1) vs (all_right (λ t. t < n) (token_in v) (tokens_in vs) h) in
    let here = all_left (λ t. t < n) (token_in v) (tokens_in vs) h in
    go (is_holder code p k) refl rest here
  where
    go : (b : Bool) → is_holder code p k ≡ b
        → All (λ t. t < n) (tokens_in (map (holder_or_dead code p) (enumerate_from (k + 1) vs)))
        → All (λ t. t < n) (token_in v)
        → All (λ t. t < n) (tokens_in (map (holder_or_dead code p) (enumerate_from k (v ∷ vs))))
    go true e rest here =
        rw e (All-append (λ t. t < n) (token_in v) (tokens_in (map (holder_or_dead code p) (enumerate_from (k + 1) vs)))
        here rest)
    go false e rest here = rw e rest

-- ---- how many tokens there are

place_within : (ts : List ℕ) (t : ℕ) → place_in ts t ≤ length ts
place_within [] t = omega arith
place_within (u ∷ ts) t = go (u == t) refl (place_within ts t)
  where
    go : (b : Bool) → (u == t) ≡ b → place_in ts t ≤ length ts → place_in (u ∷ ts) t ≤ length (u ∷ ts)
    go true e h = rw e (omega arith)
    go false e h = rw e (omega (arith, h))

abbrev pub Below : ℕ → List ℕ → Type 0
Below n ts = All (λ t. t < n) ts

below_filter : (n : ℕ) (p : ℕ → Bool) (ts : List ℕ) → Below n ts → Below n (filter p ts)
below_filter n p ts h = All-filter p (λ t. t < n) ts h

below_distinct : (n : ℕ) (ts : List ℕ) → Below n ts → Below n (distinct ts)
below_distinct n [] h = All-nil (λ t. t < n)
below_distinct n (t ∷ ts) h =
    All-cons (λ t. t < n) t (filter (λ u. not (u == t)) (distinct ts)) (All-head (λ t. t < n) t ts h)
    (below_filter n (λ u. not (u == t)) (distinct ts) (below_distinct n ts (All-tail (λ t. t < n) t ts h)))

member_below : (n : ℕ) (ts : List ℕ) → Below n ts → (q : ℕ) → list_any (eqb q) ts ≡ true → q < n
member_below n [] h q t = absurd (let g : false ≡ true = t in cc)
member_below n (u ∷ ts) h q t = go (eqb q u) refl (member_below n ts (All-tail (λ t. t < n) u ts h) q)
  where
    go : (b : Bool) → eqb q u ≡ b → (list_any (eqb q) ts ≡ true → q < n) → q < n
    go true e more =
        let s : q ≡ u = grind (arith, e) in let lt = All-head (λ t. t < n) u ts h in omega (arith, s, lt)
    go false e more = more (rw e at t)

others_differ : (t : ℕ) (us : List ℕ) → AllByRecursion (λ y. eqb t y ≡ false) (filter (λ u. not (u == t)) us)
others_differ t [] = tt
others_differ t (u ∷ us) = go (u == t) refl (others_differ t us)
  where
    go : (b : Bool) → (u == t) ≡ b → AllByRecursion (λ y. eqb t y ≡ false) (filter (λ u. not (u == t)) us)
        → AllByRecursion (λ y. eqb t y ≡ false) (filter (λ u. not (u == t)) (u ∷ us))
    go true e h = rw e h
    go false e h = rw e (grind (arith, e), h)

differ_filter : (p : ℕ → Bool) (t : ℕ) (us : List ℕ) → AllByRecursion (λ y. eqb t y ≡ false) us
    → AllByRecursion (λ y. eqb t y ≡ false) (filter p us)
differ_filter p t [] h = tt
differ_filter p t (u ∷ us) h = go (p u) refl (differ_filter p t us h.1)
  where
    go : (b : Bool) → p u ≡ b → AllByRecursion (λ y. eqb t y ≡ false) (filter p us)
        → AllByRecursion (λ y. eqb t y ≡ false) (filter p (u ∷ us))
    go true e g = rw e (h.0, g)
    go false e g = rw e g

distinct_filter : (p : ℕ → Bool) (us : List ℕ) → IsDistinct eqb us → IsDistinct eqb (filter p us)
unfolding IsDistinct
distinct_filter p [] h = tt
distinct_filter p (u ∷ us) h = go (p u) refl (distinct_filter p us h.1)
  where
    go : (b : Bool) → p u ≡ b → IsDistinct eqb (filter p us) → IsDistinct eqb (filter p (u ∷ us))
    go true e g = rw e (differ_filter p u us h.0, g)
    go false e g = rw e g

are_distinct : (ts : List ℕ) → IsDistinct eqb (distinct ts)
unfolding IsDistinct
are_distinct [] = tt
are_distinct (t ∷ ts) =
    (others_differ t (distinct ts), distinct_filter (λ u. not (u == t)) (distinct ts) (are_distinct ts))

-- no more tokens are held than there are
pub tokens_few : (n : ℕ) (ts : List ℕ) → Below n ts → length (distinct ts) ≤ n
tokens_few n ts h =
    length-le_from_distinct_below (distinct ts) n (are_distinct ts) (member_below n (distinct ts) (below_distinct n ts
    h))

pub number_few : (n : ℕ) (ts : List ℕ) → Below n ts → (t : ℕ) → number_by (number_tokens ts (no_numbers n)) t ≤ n
number_few n ts h t =
    let e = number_is_place n ts (number_tokens ts (no_numbers n)) (numbering_of n ts h) h t in
    let a = place_within (distinct ts) t in
    let b = tokens_few n ts h in
    omega (arith, e, a, b)

-- ---- slots

pub kept_slots : (s : Shape) (n : ℕ) → All (λ r. All (λ t. t < n) (base_in r.spot)) s.slots
    → filter (λ r. kept_by (mark_all (anchors s) (replicate n false)) r.spot) s.slots ≡ filter (is_kept s) s.slots
kept_slots s n h = filter_same (λ r. kept_by (mark_all (anchors s) (replicate n false)) r.spot) (is_kept s) s.slots
    (go s.slots h)
  where
    go : (rs : List Tracked) → All (λ r. All (λ t. t < n) (base_in r.spot)) rs
        → All (λ r. kept_by (mark_all (anchors s) (replicate n false)) r.spot ≡ is_kept s r) rs
    go [] h = All-nil (λ r. kept_by (mark_all (anchors s) (replicate n false)) r.spot ≡ is_kept s r)
    go (r ∷ rs) h =
        All-cons (λ r. kept_by (mark_all (anchors s) (replicate n false)) r.spot ≡ is_kept s r) r rs
        (kept_is (anchors s) n r.spot (All-head (λ r. All (λ t. t < n) (base_in r.spot)) r rs h))
        (go rs (All-tail (λ r. All (λ t. t < n) (base_in r.spot)) r rs h))

pub slot_bases : (n : ℕ) (rs : List Tracked) → All (λ t. t < n) (bases_in rs)
    → All (λ r. All (λ t. t < n) (base_in r.spot)) rs
slot_bases n [] h = All-nil (λ r. All (λ t. t < n) (base_in r.spot))
slot_bases n (r ∷ rs) h =
    All-cons (λ r. All (λ t. t < n) (base_in r.spot)) r rs (all_left (λ t. t < n) (base_in r.spot) (bases_in rs) h)
    (slot_bases n rs (all_right (λ t. t < n) (base_in r.spot) (bases_in rs) h))

-- the slots that are kept, in order
pub settled : (s : Shape) (n : ℕ) → AreTokens n s
    → put_spots (number_tokens (tokens_in (before_slots s)) (no_numbers n))
    (filter (λ r. kept_by (mark_all (anchors s) (replicate n false)) r.spot) s.slots) ≡ slots_in_order s
settled s n h =
    let ts = tokens_in (before_slots s) in
    let m = number_tokens ts (no_numbers n) in
    let all = all_left (λ t. t < n) (tokens_in (holders s)) (bases_in s.slots) h in
    let bases = all_right (λ t. t < n) (tokens_in (holders s)) (bases_in s.slots) h in
    let e = tokens_in-append (before_slots s) (map holding_of_slot s.slots) in
    let below : All (λ t. t < n) ts = all_left (λ t. t < n) ts (tokens_in (map holding_of_slot s.slots)) (rw e at all)
    in
    let keys = key_is n s m (λ t. number_is_place n ts m (numbering_of n ts below) below t) in
    ap (λ rs. put_spots m rs) (kept_slots s n (slot_bases n s.slots bases))
    ∙ (spots_are s m keys (filter (is_kept s) s.slots)).0

-- ---- other token numbers

pub funext : {X Y : Type 0} (f g : X → Y) → ((x : X) → f x ≡ g x) → f ≡ g
funext f g h = λ i x. h x i

-- ---- tokens of the shape that is kept

split_holders : (e v k : List Holding) (r : Holding) (l : List Holding)
    → tokens_in ((e ++ (v ++ (k ++ r ∷ []))) ++ l)
    ≡ (tokens_in e ++ (tokens_in v ++ (tokens_in k ++ tokens_in (r ∷ [])))) ++ tokens_in l
split_holders e v k r l =
    rw (
      tokens_in-append (e ++ (v ++ (k ++ r ∷ []))) l,
      tokens_in-append e (v ++ (k ++ r ∷ [])),
      tokens_in-append v (k ++ r ∷ []),
      tokens_in-append k (r ∷ []),
    ) refl

pub trim_tokens : (code : Code) (p : Point) (n : ℕ) (s : Shape) → AreTokens n s → AreTokens n (trim code p s)
trim_tokens code p n s h =
    let P : ℕ → Type 0 = λ t. t < n in
    let k = map holding_of_static s.statics in
    let l = map holding_of_slot s.slots in
    let all = all_left P (tokens_in (holders s)) (bases_in s.slots) h in
    let bases = all_right P (tokens_in (holders s)) (bases_in s.slots) h in
    let parts = rw (split_holders s.entry s.vars k s.returned l) at all in
    let before = all_left P (tokens_in s.entry ++ (tokens_in s.vars ++ (tokens_in k ++ tokens_in (s.returned ∷ []))))
    (tokens_in l) parts in
    let slots = all_right P (tokens_in s.entry ++ (tokens_in s.vars ++ (tokens_in k ++ tokens_in (s.returned ∷ []))))
    (tokens_in l) parts in
    let entry = all_left P (tokens_in s.entry) (tokens_in s.vars ++ (tokens_in k ++ tokens_in (s.returned ∷ [])))
    before in
    let later = all_right P (tokens_in s.entry) (tokens_in s.vars ++ (tokens_in k ++ tokens_in (s.returned ∷ [])))
    before in
    let vars = all_left P (tokens_in s.vars) (tokens_in k ++ tokens_in (s.returned ∷ [])) later in
    let last = all_right P (tokens_in s.vars) (tokens_in k ++ tokens_in (s.returned ∷ [])) later in
    let fewer = fewer_tokens code p n 0 s.vars vars in
    let vs = map (holder_or_dead code p) (enumerate_from 0 s.vars) in
    let now = All-append P (tokens_in s.entry ++ (tokens_in vs ++ (tokens_in k ++ tokens_in (s.returned ∷ []))))
    (tokens_in l) (All-append P (tokens_in s.entry) (tokens_in vs ++ (tokens_in k ++ tokens_in (s.returned ∷ [])))
    entry (All-append P (tokens_in vs) (tokens_in k ++ tokens_in (s.returned ∷ [])) fewer last)) slots in
    All-append P (tokens_in (holders (trim code p s))) (bases_in s.slots)
    (rw (split_holders s.entry vs k s.returned l) now) bases

pub before_below : (n : ℕ) (s : Shape) → AreTokens n s → Below n (tokens_in (before_slots s))
before_below n s h =
    let all = all_left (λ t. t < n) (tokens_in (holders s)) (bases_in s.slots) h in
    let e = tokens_in-append (before_slots s) (map holding_of_slot s.slots) in
    all_left (λ t. t < n) (tokens_in (before_slots s)) (tokens_in (map holding_of_slot s.slots)) (rw e at all)

-- ---- the shape that is kept

held_by_put : (n : ℕ) (s : Shape) (r : Tracked) (es : List (List ℕ × Tracked))
    → All (λ t. t < n) (token_in r.held) → All (λ t. t < n) (tokens_in (map holding_of_slot (map (λ e. e.1) es)))
    → All (λ t. t < n) (tokens_in (map holding_of_slot (map (λ e. e.1) (put (slice_cmp nat_cmp) (slot_key s r) r es))))
held_by_put n s r [] h g = All-append (λ t. t < n) (token_in r.held) [] h (All-nil (λ t. t < n))
held_by_put n s r (e ∷ es) h g =
    let here = all_left (λ t. t < n) (token_in e.1.held) (tokens_in (map holding_of_slot (map (λ e. e.1) es))) g in
    let rest = all_right (λ t. t < n) (token_in e.1.held) (tokens_in (map holding_of_slot (map (λ e. e.1) es))) g in
    go (slice_cmp nat_cmp (slot_key s r) e.0) refl here rest (held_by_put n s r es h rest)
  where
    go : (o : Ordering) → slice_cmp nat_cmp (slot_key s r) e.0 ≡ o → All (λ t. t < n) (token_in e.1.held)
        → All (λ t. t < n) (tokens_in (map holding_of_slot (map (λ e. e.1) es)))
        → All (λ t. t < n) (tokens_in (map holding_of_slot (map (λ e. e.1) (put (slice_cmp nat_cmp) (slot_key s r) r
        es))))
        → All (λ t. t < n)
        (tokens_in (map holding_of_slot (map (λ e. e.1) (put (slice_cmp nat_cmp) (slot_key s r) r (e ∷ es)))))
    go Less o here rest more =
        rw o (All-append (λ t. t < n) (token_in r.held) (tokens_in (map holding_of_slot (map (λ e. e.1) (e ∷ es)))) h g)
    go Equal o here rest more =
        rw o (All-append (λ t. t < n) (token_in r.held) (tokens_in (map holding_of_slot (map (λ e. e.1) es))) h rest)
    go Greater o here rest more =
        rw o (All-append (λ t. t < n) (token_in e.1.held)
        (tokens_in (map holding_of_slot (map (λ e. e.1) (put (slice_cmp nat_cmp) (slot_key s r) r es)))) here more)

held_by_slots : (n : ℕ) (s : Shape) (rs : List Tracked) → All (λ t. t < n) (tokens_in (map holding_of_slot rs))
    → All (λ t. t < n) (tokens_in (map holding_of_slot (map (λ e. e.1) (put_slots s rs))))
held_by_slots n s [] h = All-nil (λ t. t < n)
held_by_slots n s (r ∷ rs) h =
    held_by_put n s r (put_slots s rs)
    (all_left (λ t. t < n) (token_in r.held) (tokens_in (map holding_of_slot rs)) h)
    (held_by_slots n s rs (all_right (λ t. t < n) (token_in r.held) (tokens_in (map holding_of_slot rs)) h))

held_by_kept : (n : ℕ) (p : Tracked → Bool) (rs : List Tracked) → All (λ t. t < n) (tokens_in (map holding_of_slot rs))
    → All (λ t. t < n) (tokens_in (map holding_of_slot (filter p rs)))
held_by_kept n p [] h = All-nil (λ t. t < n)
held_by_kept n p (r ∷ rs) h =
    go (p r) refl (all_left (λ t. t < n) (token_in r.held) (tokens_in (map holding_of_slot rs)) h)
    (held_by_kept n p rs (all_right (λ t. t < n) (token_in r.held) (tokens_in (map holding_of_slot rs)) h))
  where
    go : (b : Bool) → p r ≡ b → All (λ t. t < n) (token_in r.held)
        → All (λ t. t < n) (tokens_in (map holding_of_slot (filter p rs)))
        → All (λ t. t < n) (tokens_in (map holding_of_slot (filter p (r ∷ rs))))
    go true e here rest =
        rw e (All-append (λ t. t < n) (token_in r.held) (tokens_in (map holding_of_slot (filter p rs))) here rest)
    go false e here rest = rw e rest

pub settled_tokens : (n : ℕ) (s : Shape) → AreTokens n s → Below n (tokens_in (holders (settle_slots s)))
settled_tokens n s h =
    let all = all_left (λ t. t < n) (tokens_in (holders s)) (bases_in s.slots) h in
    let e = tokens_in-append (before_slots s) (map holding_of_slot s.slots) in
    let parts = rw e at all in
    let before = all_left (λ t. t < n) (tokens_in (before_slots s)) (tokens_in (map holding_of_slot s.slots)) parts in
    let slots = all_right (λ t. t < n) (tokens_in (before_slots s)) (tokens_in (map holding_of_slot s.slots)) parts in
    let held = held_by_slots n s (filter (is_kept s) s.slots) (held_by_kept n (is_kept s) s.slots slots) in
    rw (tokens_in-append (before_slots s) (map holding_of_slot (slots_in_order s))) (All-append (λ t. t < n)
    (tokens_in (before_slots s)) (tokens_in (map holding_of_slot (slots_in_order s))) before held)

-- all tokens in order: first those before the slots, then those of the slots that are kept
pub numbering_of_all : (n : ℕ) (s : Shape)
    → number_tokens (tokens_in (map holding_of_slot (slots_in_order s)))
    (number_tokens (tokens_in (before_slots s)) (no_numbers n))
    ≡ number_tokens (tokens_in (holders (settle_slots s))) (no_numbers n)
numbering_of_all n s =
    sym (number_tokens-append (tokens_in (before_slots s)) (tokens_in (map holding_of_slot (slots_in_order s)))
    (no_numbers n))
    ∙ ap (λ ts. number_tokens ts (no_numbers n)) (sym (tokens_in-append (before_slots s)
    (map holding_of_slot (slots_in_order s))))

-- ---- other numbers

pub trim_length : (code : Code) (p : Point) (s : Shape) → length (trim code p s).vars ≡ length s.vars
trim_length code p s = go 0 s.vars
  where
    go : (k : ℕ) (vs : List Holding) → length (map (holder_or_dead code p) (enumerate_from k vs)) ≡ length vs
    go k [] = refl
    go k (v ∷ vs) = (let h = go (k + 1) vs in omega (arith, h))

map_all : (n : ℕ) (f g : ℕ → Bool) (ts : List ℕ) → Below n ts → ((t : ℕ) → t < n → f t ≡ g t) → map f ts ≡ map g ts
map_all n f g [] h e = refl
map_all n f g (t ∷ ts) h e =
    rw (e t (All-head (λ u. u < n) t ts h), map_all n f g ts (All-tail (λ u. u < n) t ts h) e) refl

pub renumbered : (n : ℕ) (s : Shape) → Below n (tokens_in (holders s))
    → record (rename (number_by (number_tokens (tokens_in (holders s)) (no_numbers n))) s) {
      made = map (made_by s.made (mark_all (anchors s) (replicate n false)))
          (number_tokens (tokens_in (holders s)) (no_numbers n)).tokens;
    } ≡ renumber s
renumbered n s h =
    let ts = tokens_in (holders s) in
    let m = number_tokens ts (no_numbers n) in
    let is = numbering_of n ts h in
    let same = funext (number_by m) (place_in (distinct ts)) (λ t. number_is_place n ts m is h t) in
    let made = map_all n (made_by s.made (mark_all (anchors s) (replicate n false)))
    (λ t. is_made s t && holds_token (anchors s) t) (distinct ts) (below_distinct n ts h)
    (λ t lt. ap (λ b. get_or s.made t false && b) (marks_are (anchors s) n t lt)) in
    ap (λ us. record (rename (number_by m) s) {
      made = map (made_by s.made (mark_all (anchors s) (replicate n false))) us;
    }) is.tokens
    ∙ ap (λ us. record (rename (number_by m) s) { made = us }) made
    ∙ ap (λ g. record (rename g s) { made = map (λ t. is_made s t && holds_token (anchors s) t) (distinct ts) }) same

pub all_drops : (n : ℕ) (ts : List ℕ) (bs : List (Option Form)) → Below n ts → length bs ≡ n
    → flat_map (λ (e : Option ℕ × Option Form). dropped e.0 e.1)
    (zip (number_tokens ts (no_numbers n)).numbers bs)
    ≡ flat_map (λ (e : ℕ × Option Form). drop_of (distinct ts) e.0 e.1) (enumerate_from 0 bs)
all_drops n ts bs h l =
    let is = numbering_of n ts h in
    drops_are ts 0 (number_tokens ts (no_numbers n)).numbers bs (omega (arith, is.count, l))
    (λ i lt. let z : 0 + i ≡ i = omega arith in rw z (is.numbers i (omega (arith, is.count, lt))))
