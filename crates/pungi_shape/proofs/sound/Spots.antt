-- Slots by name: which two are one, and that those that are kept stay.
use Rattle.std.proofs.Common.{◌≡◌, ℕ, List, [], ◌∷◌, map, get_or, Bool, true}
use Rattle.std.proofs.Common.{false, refl, sym, ap, ◌∙◌, subst, arith, inl, inr, cond}
use Rattle.std.specs.Prelude.{◌==◌, ◌||◌, ◌&&◌, ◌⊎◌}
use Rattle.std.specs.List.{All, filter, list_any}
use Rattle.std.specs.FinMap.{put}
use Rattle.std.specs.FinMap.Entries.{by_order}
use Rattle.std.specs.Ordering.{nat_cmp, is_eq}
use Rattle.std.specs.Cmp.Lexicographic.{slice_cmp}
use Rattle.std.specs.declared.cmp.Ordering.{Ordering}
use Rattle.std.specs.declared.cmp.Ordering.TheVariants.{Less, Equal, Greater}
use Rattle.std.proofs.lemmas.Map.Text.{is_eq-slice_cmp}
use Rattle.std.proofs.lemmas.Slice.Eq.{bytes_eq-Decides}
use Rattle.std.proofs.lemmas.List.Elements.{All-cons, All-nil, All-head, All-tail}
use Rattle.pungi_shape.specs.declared.tracked.Spot.{Spot}
use Rattle.pungi_shape.specs.declared.tracked.Spot.TheVariants.{Global, Field}
use Rattle.pungi_shape.specs.declared.tracked.Tracked.{Tracked}
use Rattle.pungi_shape.specs.declared.shape.Shape.{Shape}
use Rattle.pungi_shape.specs.Shapes.{rename_spot, numbers_of_spot, before_slots, distinct, tokens_in}
use Rattle.pungi_shape.specs.Arrivals.{is_kept, is_kept_spot, anchors, place_in, slot_key, put_slots, slots_in_order}
use Rattle.pungi_shape.specs.Slots.{is_spot}
use Rattle.pungi_shape.proofs.sound.Distinct.{is_in, one_place}
use Rattle.pungi_shape.proofs.sound.Kept.{Entry, All_passes}
use Rattle.pungi_shape.proofs.sound.ArrivedScene.{IsBaseAmong}
use Rattle.pungi_shape.proofs.sound.Tests.{both_true, true_or, or_true, eqb_is, one_name}
use Rattle.std.proofs.Common.{eq-eqb}

-- ---- names

and_true : (a b : Bool) → a ≡ true → b ≡ true → (a && b) ≡ true
and_true a b e f = ap (λ z. z && b) e ∙ f

pub one_spot : (p q : Spot) → is_spot p q ≡ true → p ≡ q
one_spot (Global m) (Global n) e = ap Global (one_name m n (eqb_is m.0 n.0 e))
one_spot (Global m) (Field d struct name) e = absurd (grind (arith, e))
one_spot (Field b tag field) (Global n) e = absurd (grind (arith, e))
one_spot (Field b tag field) (Field d struct name) e =
    let h = both_true (b == d) ((tag.0 == struct.0) && (field.0 == name.0)) e in
    let k = both_true (tag.0 == struct.0) (field.0 == name.0) h.1 in
    ap (λ z. Field z tag field) (eqb_is b d h.0)
    ∙ ap (λ z. Field d z field) (one_name tag struct (eqb_is tag.0 struct.0 k.0))
    ∙ ap (λ z. Field d struct z) (one_name field name (eqb_is field.0 name.0 k.1))

pub spot_itself : (p : Spot) → is_spot p p ≡ true
spot_itself (Global n) = eq-eqb n.0 n.0 refl
spot_itself (Field b tag field) = and_true (b == b) ((tag.0 == tag.0) && (field.0 == field.0)) (eq-eqb b b refl)
    (and_true (tag.0 == tag.0) (field.0 == field.0) (eq-eqb tag.0 tag.0 refl) (eq-eqb field.0 field.0 refl))

-- ---- keys

number_at : ℕ → List ℕ → ℕ
number_at i ns = get_or ns i 0

pub key_tells : (ts : List ℕ) (p q : Spot) → IsBaseAmong ts p → IsBaseAmong ts q
    → numbers_of_spot (rename_spot (place_in ts) p) ≡ numbers_of_spot (rename_spot (place_in ts) q) → p ≡ q
key_tells ts (Global m) (Global n) in_p in_q e = ap Global (one_name m n (ap (λ l. get_or l 1 0) e))
key_tells ts (Global m) (Field d struct name) in_p in_q e =
    absurd (let z : 0 ≡ 1 = ap (λ l. get_or l 0 0) e in omega (arith, z))
key_tells ts (Field b tag field) (Global n) in_p in_q e =
    absurd (let z : 1 ≡ 0 = ap (λ l. get_or l 0 0) e in omega (arith, z))
key_tells ts (Field b tag field) (Field d struct name) in_p in_q e =
    ap (λ z. Field z tag field) (one_place ts b d (is_in ts b in_p) (is_in ts d in_q) (ap (λ l. get_or l 1 0) e))
    ∙ ap (λ z. Field d z field) (one_name tag struct (ap (λ l. get_or l 2 0) e))
    ∙ ap (λ z. Field d struct z) (one_name field name (ap (λ l. get_or l 3 0) e))

one_list : (xs ys : List ℕ) → slice_cmp nat_cmp xs ys ≡ Equal → xs ≡ ys
one_list xs ys e = (bytes_eq-Decides xs ys).0 (sym (is_eq-slice_cmp xs ys) ∙ ap is_eq e)

-- ---- some slot passes

pub any_map : {X Y : Type 0} (p : Y → Bool) (f : X → Y) (xs : List X) → list_any (λ x. p (f x)) xs ≡ true
    → list_any p (map f xs) ≡ true
any_map p f [] e = e
any_map p f (x ∷ xs) e = at (p (f x)) refl e (any_map p f xs)
  where
    at : (b : Bool) → p (f x) ≡ b → (b || list_any (λ z. p (f z)) xs) ≡ true
        → (list_any (λ z. p (f z)) xs ≡ true → list_any p (map f xs) ≡ true) → (p (f x) || list_any p (map f xs)) ≡ true
    at true is h rest = true_or (p (f x)) (list_any p (map f xs)) is
    at false is h rest = or_true (p (f x)) (list_any p (map f xs)) (rest h)

pub any_weaker : {X : Type 0} (p q : X → Bool) → ((x : X) → p x ≡ true → q x ≡ true) → (xs : List X)
    → list_any p xs ≡ true → list_any q xs ≡ true
any_weaker p q step [] e = absurd (grind (arith, e))
any_weaker p q step (x ∷ xs) e = at (p x) refl e (any_weaker p q step xs)
  where
    at : (b : Bool) → p x ≡ b → (b || list_any p xs) ≡ true → (list_any p xs ≡ true → list_any q xs ≡ true)
        → (q x || list_any q xs) ≡ true
    at true is h rest = true_or (q x) (list_any q xs) (step x is)
    at false is h rest = or_true (q x) (list_any q xs) (rest h)

any_filter : (p kept : Tracked → Bool) → ((r : Tracked) → p r ≡ true → kept r ≡ true) → (rs : List Tracked)
    → list_any p rs ≡ true → list_any p (filter kept rs) ≡ true
any_filter p kept step [] e = absurd (grind (arith, e))
any_filter p kept step (r ∷ rs) e = at (p r) refl e (any_filter p kept step rs)
  where
    more : (b : Bool) → list_any p (filter kept rs) ≡ true
        → list_any p (cond b (r ∷ filter kept rs) (filter kept rs)) ≡ true
    more true h = or_true (p r) (list_any p (filter kept rs)) h
    more false h = h

    at : (b : Bool) → p r ≡ b → (b || list_any p rs) ≡ true
        → (list_any p rs ≡ true → list_any p (filter kept rs) ≡ true)
        → list_any p (cond (kept r) (r ∷ filter kept rs) (filter kept rs)) ≡ true
    at true is h rest = ap (λ b. list_any p (cond b (r ∷ filter kept rs) (filter kept rs))) (step r is)
        ∙ true_or (p r) (list_any p (filter kept rs)) is
    at false is h rest = more (kept r) (rest h)

-- each entry stands under the key of its slot
abbrev IsKeyed : Shape → (Tracked → Bool) → Entry → Type 0
IsKeyed s kept e = (e.0 ≡ slot_key s e.1) × (kept e.1 ≡ true)

keyed_put : (s : Shape) (kept : Tracked → Bool) (r : Tracked) (es : List Entry) → kept r ≡ true
    → All (IsKeyed s kept) es → All (IsKeyed s kept) (put (slice_cmp nat_cmp) (slot_key s r) r es)
keyed_put s kept r [] is all = All-cons (IsKeyed s kept) (slot_key s r, r) [] (refl, is) all
keyed_put s kept r (e ∷ es) is all = at (slice_cmp nat_cmp (slot_key s r) e.0) refl
    (keyed_put s kept r es is (All-tail (IsKeyed s kept) e es all))
  where
    k : List ℕ
    k = slot_key s r

    at : (o : Ordering) → slice_cmp nat_cmp (slot_key s r) e.0 ≡ o
        → All (IsKeyed s kept) (put (slice_cmp nat_cmp) (slot_key s r) r es)
        → All (IsKeyed s kept) (by_order o ((slot_key s r, r) ∷ e ∷ es) ((e.0, r) ∷ es)
        (e ∷ put (slice_cmp nat_cmp) (slot_key s r) r es))
    at Less same rest = All-cons (IsKeyed s kept) (slot_key s r, r) (e ∷ es) (refl, is) all
    at Equal same rest = All-cons (IsKeyed s kept) (e.0, r) es (sym (one_list (slot_key s r) e.0 same), is)
        (All-tail (IsKeyed s kept) e es all)
    at Greater same rest = All-cons (IsKeyed s kept) e (put (slice_cmp nat_cmp) (slot_key s r) r es)
        (All-head (IsKeyed s kept) e es all) rest

-- what ties with a slot that passes passes
abbrev TiesPass : Shape → (Tracked → Bool) → (Tracked → Bool) → Type 0
TiesPass s kept p =
    (q r : Tracked) → kept q ≡ true → kept r ≡ true → slot_key s q ≡ slot_key s r → p q ≡ true → p r ≡ true

passes_put : (s : Shape) (kept p : Tracked → Bool) (r : Tracked) (es : List Entry) → TiesPass s kept p
    → kept r ≡ true → All (IsKeyed s kept) es → ((p r ≡ true) ⊎ (list_any (λ e. p e.1) es ≡ true))
    → list_any (λ e. p e.1) (put (slice_cmp nat_cmp) (slot_key s r) r es) ≡ true
passes_put s kept p r [] ties is all (inl h) = true_or (p r) false h
passes_put s kept p r [] ties is all (inr h) = absurd (grind (arith, h))
passes_put s kept p r (e ∷ es) ties is all some = at (slice_cmp nat_cmp (slot_key s r) e.0) refl some
    (passes_put s kept p r es ties is (All-tail (IsKeyed s kept) e es all))
  where
    test : Entry → Bool
    test x = p x.1

    key : IsKeyed s kept e
    key = All-head (IsKeyed s kept) e es all

    tie : slice_cmp nat_cmp (slot_key s r) e.0 ≡ Equal → p e.1 ≡ true → p r ≡ true
    tie same h = ties e.1 r key.1 is (sym key.0 ∙ sym (one_list (slot_key s r) e.0 same)) h

    equal : slice_cmp nat_cmp (slot_key s r) e.0 ≡ Equal → (b : Bool) → p e.1 ≡ b
        → (b || list_any (λ x. p x.1) es) ≡ true → (p r || list_any (λ x. p x.1) es) ≡ true
    equal same true here h = true_or (p r) (list_any (λ x. p x.1) es) (tie same here)
    equal same false here h = or_true (p r) (list_any (λ x. p x.1) es) h

    greater : (b : Bool) → p e.1 ≡ b → (b || list_any (λ x. p x.1) es) ≡ true
        → (list_any (λ x. p x.1) es ≡ true
        → list_any (λ x. p x.1) (put (slice_cmp nat_cmp) (slot_key s r) r es) ≡ true)
        → (p e.1 || list_any (λ x. p x.1) (put (slice_cmp nat_cmp) (slot_key s r) r es)) ≡ true
    greater true here h rest = true_or (p e.1) _ here
    greater false here h rest = or_true (p e.1) _ (rest h)

    at : (o : Ordering) → slice_cmp nat_cmp (slot_key s r) e.0 ≡ o
        → ((p r ≡ true) ⊎ ((p e.1 || list_any (λ x. p x.1) es) ≡ true))
        → (((p r ≡ true) ⊎ (list_any (λ x. p x.1) es ≡ true))
        → list_any (λ x. p x.1) (put (slice_cmp nat_cmp) (slot_key s r) r es) ≡ true)
        → list_any (λ x. p x.1) (by_order o ((slot_key s r, r) ∷ e ∷ es) ((e.0, r) ∷ es)
        (e ∷ put (slice_cmp nat_cmp) (slot_key s r) r es)) ≡ true
    at Less same (inl h) rest = true_or (p r) _ h
    at Less same (inr h) rest = or_true (p r) _ h
    at Equal same (inl h) rest = true_or (p r) _ h
    at Equal same (inr h) rest = equal same (p e.1) refl h
    at Greater same (inl h) rest = or_true (p e.1) _ (rest (inl h))
    at Greater same (inr h) rest = greater (p e.1) refl h (λ x. rest (inr x))

keyed_slots : (s : Shape) (kept : Tracked → Bool) (rs : List Tracked) → All (λ r. kept r ≡ true) rs
    → All (IsKeyed s kept) (put_slots s rs)
keyed_slots s kept [] all = All-nil (IsKeyed s kept)
keyed_slots s kept (r ∷ rs) all = keyed_put s kept r (put_slots s rs) (All-head (λ x. kept x ≡ true) r rs all)
    (keyed_slots s kept rs (All-tail (λ x. kept x ≡ true) r rs all))

passes_slots : (s : Shape) (kept p : Tracked → Bool) (rs : List Tracked) → TiesPass s kept p
    → All (λ r. kept r ≡ true) rs → list_any p rs ≡ true → list_any (λ e. p e.1) (put_slots s rs) ≡ true
passes_slots s kept p [] ties all e = absurd (grind (arith, e))
passes_slots s kept p (r ∷ rs) ties all e = passes_put s kept p r (put_slots s rs) ties
    (All-head (λ x. kept x ≡ true) r rs all) (keyed_slots s kept rs rest)
    (at (p r) refl e (passes_slots s kept p rs ties rest))
  where
    rest : All (λ x. kept x ≡ true) rs
    rest = All-tail (λ x. kept x ≡ true) r rs all

    at : (b : Bool) → p r ≡ b → (b || list_any p rs) ≡ true
        → (list_any p rs ≡ true → list_any (λ x. p x.1) (put_slots s rs) ≡ true)
        → (p r ≡ true) ⊎ (list_any (λ x. p x.1) (put_slots s rs) ≡ true)
    at true is h more = inl is
    at false is h more = inr (more h)

-- a slot that is tracked, and kept, is tracked after that
pub still_tracked : (s : Shape) (ts : List ℕ) (p : Spot) → ts ≡ distinct (tokens_in (before_slots s))
    → ((q : Spot) → is_kept_spot (anchors s) q ≡ true → IsBaseAmong ts q) → is_kept_spot (anchors s) p ≡ true
    → list_any (λ r. is_spot r.spot p) s.slots ≡ true
    → list_any (λ r. is_spot r.spot p) (slots_in_order s) ≡ true
still_tracked s ts p is among kept some =
    let test = λ (r : Tracked). is_spot r.spot p in
    let rs = filter (is_kept s) s.slots in
    let ties : TiesPass s (is_kept s) test = λ q r kept_q kept_r same passes. subst (λ z. is_spot z p ≡ true)
    (key_tells ts q.spot r.spot (among q.spot kept_q) (among r.spot kept_r)
    (subst (λ us. numbers_of_spot (rename_spot (place_in us) q.spot) ≡ numbers_of_spot
    (rename_spot (place_in us) r.spot))
    (sym is) same)) passes in
    any_map test (λ e. e.1) (put_slots s rs) (passes_slots s (is_kept s) test rs ties
    (All_passes (λ r. is_kept s r ≡ true) (is_kept s) s.slots (λ r e. e))
    (any_filter test (is_kept s) (λ r e. subst (λ z. is_kept_spot (anchors s) z ≡ true)
    (sym (one_spot r.spot p e)) kept)
    s.slots some))
