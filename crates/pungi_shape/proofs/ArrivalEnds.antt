-- What a scene arrives at, as a whole.
use Rattle.std.proofs.Common.{◌≡◌, ◌∙◌, ℕ, zero, suc, ◌+◌, ◌<◌, ◌==◌, Bool, true, false, ◌||◌, Option, Some}
use Rattle.std.proofs.Common.{None}
use Rattle.std.proofs.Common.{List, [], ◌∷◌, length, map, get_or, replicate, refl, sym, ap, arith, if◌then◌else◌}
use Rattle.std.proofs.Math.ListN.{set}
use Rattle.std.specs.List.{All, enumerate_from, filter, flat_map, zip}
use Rattle.std.specs.Ordering.{nat_cmp}
use Rattle.std.specs.declared.cmp.Ordering.{Ordering}
use Rattle.std.specs.declared.cmp.Ordering.TheVariants.{Less, Equal, Greater}
use Rattle.std.specs.Cmp.Lexicographic.{slice_cmp}
use Rattle.std.specs.FinMap.{nat_cmp-IsAntisymmetric, put, slice_cmp-IsAntisymmetric}
use Rattle.std.proofs.lemmas.List.Elements.{All-head, All-tail}
use Rattle.pungi_shape.specs.declared.holding.Holding.{Holding}
use Rattle.pungi_shape.specs.declared.holding.Holding.TheVariants.{Dead, Unset, Null, Text, Known, Number, Token}
use Rattle.pungi_shape.specs.declared.numbering.Numbering.{Numbering}
use Rattle.pungi_shape.specs.declared.shape.Shape.{Shape}
use Rattle.pungi_shape.specs.declared.tracked.Spot.{Spot}
use Rattle.pungi_shape.specs.declared.tracked.Spot.TheVariants.{Global, Field}
use Rattle.pungi_shape.specs.declared.tracked.Tracked.{Tracked}
use Rattle.pungi_shape.specs.Arrivals.{drop_of, holds_token, is_kept_spot, place_in, put_slots}
use Rattle.pungi_shape.specs.Arrivals.{slot_key}
use Rattle.pungi_shape.specs.Bounds.{base_in}
use Rattle.pungi_shape.specs.Forms.{Form}
use Rattle.pungi_shape.specs.Liveness.{is_among}
use Rattle.pungi_shape.specs.Numbered.{dropped, kept_by, key_by, mark, mark_all, number_by, put_spot, put_spots}
use Rattle.pungi_shape.specs.Shapes.{before_slots, distinct, is_token, tokens_in}
use Rattle.pungi_shape.proofs.NumberedLemmas.{among_distinct, number_in}

-- ---- marks

set_mark : (marks : List Bool) (i q : ℕ) → q < length marks
    → get_or (set marks i true) q false ≡ (get_or marks q false || (i == q))
set_mark [] i q lt = absurd (omega arith)
set_mark (y ∷ ys) zero zero lt = go y
  where
    go : (b : Bool) → true ≡ (b || true)
    go true = refl
    go false = refl
set_mark (y ∷ ys) zero (suc q) lt = (let s : (0 == suc q) ≡ false = grind arith in rw s (none (get_or ys q false)))
  where
    none : (b : Bool) → b ≡ (b || false)
    none true = refl
    none false = refl
set_mark (y ∷ ys) (suc i) zero lt = (let s : (suc i == 0) ≡ false = grind arith in rw s (none y))
  where
    none : (b : Bool) → b ≡ (b || false)
    none true = refl
    none false = refl
set_mark (y ∷ ys) (suc i) (suc q) lt =
    let s : (suc i == suc q) ≡ (i == q) = grind arith in rw s (set_mark ys i q (omega (arith, lt)))

set_marks : (marks : List Bool) (i : ℕ) → length (set marks i true) ≡ length marks
set_marks [] i = refl
set_marks (y ∷ ys) zero = refl
set_marks (y ∷ ys) (suc i) = (let h = set_marks ys i in omega (arith, h))

or_false : (b : Bool) → b ≡ (b || false)
or_false true = refl
or_false false = refl

mark_length : (h : Holding) (marks : List Bool) → length (mark h marks) ≡ length marks
mark_length (Token t) marks = set_marks marks t
mark_length Dead marks = refl
mark_length Unset marks = refl
mark_length Null marks = refl
mark_length Text marks = refl
mark_length (Known n) marks = refl
mark_length Number marks = refl

mark_at : (h : Holding) (marks : List Bool) (t : ℕ) → t < length marks
    → get_or (mark h marks) t false ≡ (get_or marks t false || is_token t h)
mark_at (Token u) marks t lt = set_mark marks u t lt
mark_at Dead marks t lt = or_false (get_or marks t false)
mark_at Unset marks t lt = or_false (get_or marks t false)
mark_at Null marks t lt = or_false (get_or marks t false)
mark_at Text marks t lt = or_false (get_or marks t false)
mark_at (Known n) marks t lt = or_false (get_or marks t false)
mark_at Number marks t lt = or_false (get_or marks t false)

or_assoc : (a b c : Bool) → ((a || b) || c) ≡ (a || (b || c))
or_assoc true b c = refl
or_assoc false b c = refl

pub mark_all_length : (hs : List Holding) (marks : List Bool) → length (mark_all hs marks) ≡ length marks
mark_all_length [] marks = refl
mark_all_length (h ∷ hs) marks = mark_all_length hs (mark h marks) ∙ mark_length h marks

mark_all_at : (hs : List Holding) (marks : List Bool) (t : ℕ) → t < length marks
    → get_or (mark_all hs marks) t false ≡ (get_or marks t false || holds_token hs t)
mark_all_at [] marks t lt = or_false (get_or marks t false)
mark_all_at (h ∷ hs) marks t lt =
    let n = mark_length h marks in
    let e = mark_all_at hs (mark h marks) t (omega (arith, n, lt)) in
    e ∙ ap (λ b. b || holds_token hs t) (mark_at h marks t lt)
    ∙ or_assoc (get_or marks t false) (is_token t h) (holds_token hs t)

no_mark : (n t : ℕ) → get_or (replicate n false) t false ≡ false
no_mark zero t = refl
no_mark (suc n) zero = refl
no_mark (suc n) (suc t) = no_mark n t

no_marks_length : (n : ℕ) → length (replicate n false) ≡ n
no_marks_length zero = refl
no_marks_length (suc n) = (let h = no_marks_length n in omega (arith, h))

pub marks_are : (hs : List Holding) (n t : ℕ) → t < n
    → get_or (mark_all hs (replicate n false)) t false ≡ holds_token hs t
marks_are hs n t lt =
    let l = no_marks_length n in
    mark_all_at hs (replicate n false) t (omega (arith, l, lt)) ∙ ap (λ b. b || holds_token hs t) (no_mark n t)

-- ---- kept slots

pub kept_is : (hs : List Holding) (n : ℕ) (p : Spot) → All (λ t. t < n) (base_in p)
    → kept_by (mark_all hs (replicate n false)) p ≡ is_kept_spot hs p
kept_is hs n (Global m) below = refl
kept_is hs n (Field b tag field) below = marks_are hs n b (All-head (λ t. t < n) b [] below)

pub filter_same : {X : Type 0} (f g : X → Bool) (xs : List X) → All (λ x. f x ≡ g x) xs → filter f xs ≡ filter g xs
filter_same f g [] h = refl
filter_same f g (x ∷ xs) h =
    let e = All-head (λ y. f y ≡ g y) x xs h in
    let r = filter_same f g xs (All-tail (λ y. f y ≡ g y) x xs h) in
    rw (e, r) refl

-- ---- slots in order

pub key_is : (n : ℕ) (s : Shape) (m : Numbering) → ((t : ℕ) → number_by m t
    ≡ place_in (distinct (tokens_in (before_slots s))) t)
    → (r : Tracked) → key_by m r.spot ≡ slot_key s r
key_is n s m h r = go r.spot
  where
    go : (p : Spot) → key_by m p ≡ slot_key s (record { spot = p; held = r.held })
    go (Global k) = refl
    go (Field b tag field) = rw (h b) refl

abbrev HaveKeys : Shape → List (List ℕ × Tracked) → Type 0
HaveKeys s [] = Unit {0}
HaveKeys s (e ∷ es) = (e.0 ≡ slot_key s e.1) × HaveKeys s es

put_slots_is : (s : Shape) (m : Numbering) → ((r : Tracked) → key_by m r.spot ≡ slot_key s r) → (r : Tracked)
    → (es : List (List ℕ × Tracked)) → HaveKeys s es
    → (put_spot m r (map (λ e. e.1) es) ≡ map (λ e. e.1) (put (slice_cmp nat_cmp) (slot_key s r) r es))
    × HaveKeys s (put (slice_cmp nat_cmp) (slot_key s r) r es)
put_slots_is s m k r [] h = (refl, (refl, tt))
put_slots_is s m k r (e ∷ es) h =
    go (slice_cmp nat_cmp (slot_key s r) e.0) refl (put_slots_is s m k r es h.1)
  where
    same : slice_cmp nat_cmp (key_by m r.spot) (key_by m e.1.spot) ≡ slice_cmp nat_cmp (slot_key s r) e.0
    same = rw (k r, k e.1, h.0) refl

    go : (o : Ordering) → slice_cmp nat_cmp (slot_key s r) e.0 ≡ o
        → (put_spot m r (map (λ e. e.1) es) ≡ map (λ e. e.1) (put (slice_cmp nat_cmp) (slot_key s r) r es))
        × HaveKeys s (put (slice_cmp nat_cmp) (slot_key s r) r es)
        → (put_spot m r (map (λ e. e.1) (e ∷ es)) ≡ map (λ e. e.1) (put (slice_cmp nat_cmp) (slot_key s r) r (e ∷ es)))
        × HaveKeys s (put (slice_cmp nat_cmp) (slot_key s r) r (e ∷ es))
    go Less o more = rw (same, o) (refl, (refl, (h.0, h.1)))
    go Equal o more =
        let q : slot_key s r ≡ e.0 = slice_cmp-IsAntisymmetric nat_cmp-IsAntisymmetric (slot_key s r) e.0 o in
        rw (same, o) (refl, (sym q, h.1))
    go Greater o more = rw (same, o) (ap (λ rs. e.1 ∷ rs) more.0, (h.0, more.1))

pub spots_are : (s : Shape) (m : Numbering) → ((r : Tracked) → key_by m r.spot ≡ slot_key s r) → (rs : List Tracked)
    → (put_spots m rs ≡ map (λ e. e.1) (put_slots s rs)) × HaveKeys s (put_slots s rs)
spots_are s m k [] = (refl, tt)
spots_are s m k (r ∷ rs) =
    let h = spots_are s m k rs in
    let p = put_slots_is s m k r (put_slots s rs) h.1 in
    (ap (λ qs. put_spot m r qs) h.0 ∙ p.0, p.1)

-- ---- dropped balances

dropped_is : (ts : List ℕ) (i : ℕ) (b : Option Form) → dropped (number_in ts i) b ≡ drop_of (distinct ts) i b
dropped_is ts i None = go (is_among ts i)
  where
    go : (a : Bool) → dropped (if a then Some (place_in (distinct ts) i) else None) None ≡ []
    go true = refl
    go false = refl
dropped_is ts i (Some f) = rw (among_distinct ts i) (go (is_among ts i))
  where
    go : (a : Bool) → dropped (if a then Some (place_in (distinct ts) i) else None) (Some f)
        ≡ (if a then [] else f ∷ [])
    go true = refl
    go false = refl

pub drops_are : (ts : List ℕ) (k : ℕ) (ns : List (Option ℕ)) (bs : List (Option Form)) → length ns ≡ length bs
    → ((i : ℕ) → i < length ns → get_or ns i None ≡ number_in ts (k + i))
    → flat_map (λ (e : Option ℕ × Option Form). dropped e.0 e.1) (zip ns bs)
    ≡ flat_map (λ (e : ℕ × Option Form). drop_of (distinct ts) e.0 e.1) (enumerate_from k bs)
drops_are ts k [] [] l h = refl
drops_are ts k [] (b ∷ bs) l h = absurd (omega (arith, l))
drops_are ts k (n ∷ ns) [] l h = absurd (omega (arith, l))
drops_are ts k (n ∷ ns) (b ∷ bs) l h =
    let z : k + 0 ≡ k = omega arith in
    let e : n ≡ number_in ts k = rw z at (h 0 (omega arith)) in
    let more = drops_are ts (k + 1) ns bs (omega (arith, l)) (λ i lt.
    let s : k + suc i ≡ (k + 1) + i = omega arith in rw s at (h (suc i) (omega (arith, lt)))) in
    rw (e, dropped_is ts k b, more) refl
