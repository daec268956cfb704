-- Lists that follow successors, and rings.
use Rattle.std.proofs.Common.{◌≡◌, ◌∙◌, ℕ, zero, suc, ◌+◌, ◌<◌, ◌≤◌, ◌⊎◌, inl, inr, ◌==◌, Bool, true, false, List, []}
use Rattle.std.proofs.Common.{◌∷◌, ◌++◌, length, slice_index, refl, sym, ap, arith, subst}
use Rattle.std.specs.Prelude.{if◌then◌else◌}
use Rattle.std.proofs.lemmas.Bool.{cases_eq}
use Rattle.std.proofs.lemmas.Bool.Decides.{nat_tests}
use Rattle.pungi_links.specs.Ring.{Stands, NoRepeat, Leads, IsRing, AreRings, IsPartition}

-- membership

pub stands_left : (x : ℕ) (xs ys : List ℕ) → Stands x xs → Stands x (xs ++ ys)
stands_left x [] ys h = absurd h
stands_left x (y ∷ xs) ys (inl e) = inl e
stands_left x (y ∷ xs) ys (inr h) = inr (stands_left x xs ys h)

pub stands_right : (x : ℕ) (xs ys : List ℕ) → Stands x ys → Stands x (xs ++ ys)
stands_right x [] ys h = h
stands_right x (y ∷ xs) ys h = inr (stands_right x xs ys h)

pub stands_cases : (x : ℕ) (xs ys : List ℕ) → Stands x (xs ++ ys) → Stands x xs ⊎ Stands x ys
stands_cases x [] ys h = inr h
stands_cases x (y ∷ xs) ys (inl e) = inl (inl e)
stands_cases x (y ∷ xs) ys (inr h) = elim (stands_cases x xs ys h) [ inl l ↦ inl (inr l) | inr r ↦ inr r ]

pub stands_or_not : (x : ℕ) (xs : List ℕ) → Stands x xs ⊎ (Stands x xs → ⊥)
stands_or_not x [] = inr (λ h. h)
stands_or_not x (y ∷ ys) = elim (cases_eq x y) [
  | inl e ↦ inl (inl e)
  | inr ne ↦ elim (stands_or_not x ys) [
    | inl h ↦ inl (inr h)
    | inr no_more ↦ inr
        (λ h. elim h [ inl e ↦ ne e | inr m ↦ no_more m ])
  ]
]

-- no repeat

pub distinct_left : (xs ys : List ℕ) → NoRepeat (xs ++ ys) → NoRepeat xs
distinct_left [] ys d = tt
distinct_left (x ∷ xs) ys d = (λ h. d.0 (stands_left x xs ys h), distinct_left xs ys d.1)

pub distinct_right : (xs ys : List ℕ) → NoRepeat (xs ++ ys) → NoRepeat ys
distinct_right [] ys d = d
distinct_right (x ∷ xs) ys d = distinct_right xs ys d.1

pub distinct_apart : (xs ys : List ℕ) (x : ℕ) → NoRepeat (xs ++ ys) → Stands x xs → Stands x ys → ⊥
distinct_apart [] ys x d h k = h
distinct_apart (y ∷ xs) ys x d (inl e) k = d.0 (stands_right y xs ys (rw (← e) k))
distinct_apart (y ∷ xs) ys x d (inr h) k = distinct_apart xs ys x d.1 h k

pub distinct_append : (xs ys : List ℕ) → NoRepeat xs → NoRepeat ys → ((x : ℕ) → Stands x xs → Stands x ys → ⊥)
    → NoRepeat (xs ++ ys)
distinct_append [] ys d e apart = e
distinct_append (x ∷ xs) ys d e apart = (
  λ h. elim (stands_cases x xs ys h) [ inl l ↦ d.0 l | inr r ↦ apart x (inl refl) r ],
  distinct_append xs ys d.1 e (λ y h k. apart y (inr h) k),
)

-- distinct numbers below n are at most n

take_away : ℕ → List ℕ → List ℕ
take_away n [] = []
take_away n (x ∷ xs) = if x == n then xs else x ∷ take_away n xs

less_one : (n : ℕ) (xs : List ℕ) → length xs ≤ length (take_away n xs) + 1
unfolding take_away
less_one n [] = omega arith
less_one n (x ∷ xs) = go (x == n) refl (less_one n xs)
  where
    go : (b : Bool) → (x == n) ≡ b → length xs ≤ length (take_away n xs) + 1
        → length (x ∷ xs) ≤ length (take_away n (x ∷ xs)) + 1
    go true e h = rw e (omega arith)
    go false e h = rw e (omega (arith, h))

stands_before : (n y : ℕ) (xs : List ℕ) → Stands y (take_away n xs) → Stands y xs
unfolding take_away
stands_before n y [] h = h
stands_before n y (x ∷ xs) h = go (x == n) refl h (stands_before n y xs)
  where
    go : (b : Bool) → (x == n) ≡ b → Stands y (take_away n (x ∷ xs)) → (Stands y (take_away n xs) → Stands y xs)
        → Stands y (x ∷ xs)
    go true e h rec = inr (rw e at h)
    go false e h rec = let k : (y ≡ x) ⊎ Stands y (take_away n xs) = rw e at h in elim k
        [ inl f ↦ inl f | inr m ↦ inr (rec m) ]

taken_distinct : (n : ℕ) (xs : List ℕ) → NoRepeat xs → NoRepeat (take_away n xs)
unfolding take_away
taken_distinct n [] d = tt
taken_distinct n (x ∷ xs) d = go (x == n) refl (taken_distinct n xs d.1)
  where
    go : (b : Bool) → (x == n) ≡ b → NoRepeat (take_away n xs) → NoRepeat (take_away n (x ∷ xs))
    go true e rec = rw e d.1
    go false e rec = rw e (λ h. d.0 (stands_before n x xs h), rec)

taken_below : (n y : ℕ) (xs : List ℕ) → NoRepeat xs → Stands y (take_away n xs) → y ≡ n → ⊥
unfolding take_away
taken_below n y [] d h is = h
taken_below n y (x ∷ xs) d h is = go (x == n) refl h (λ m. taken_below n y xs d.1 m is)
  where
    go : (b : Bool) → (x == n) ≡ b → Stands y (take_away n (x ∷ xs)) → (Stands y (take_away n xs) → ⊥) → ⊥
    go true e h rec = let k : Stands y xs = rw e at h in let f : x ≡ n = grind (arith, nat_tests) in let P : ℕ
        → Type 0 = λ z. Stands z xs in d.0 (subst P (is ∙ sym f) k)
    go false e h rec =
        let k : (y ≡ x) ⊎ Stands y (take_away n xs) = rw e at h in
        let ne : x ≡ n → ⊥ = grind (arith, nat_tests) in
        elim k [ inl f ↦ ne (sym f ∙ is) | inr m ↦ rec m ]

pub at_most : (n : ℕ) (xs : List ℕ) → NoRepeat xs → ((x : ℕ) → Stands x xs → x < n) → length xs ≤ n
at_most zero [] d below = omega arith
at_most zero (x ∷ xs) d below = let h = below x (inl refl) in absurd (omega (arith, h))
at_most (suc n) xs d below =
    let rest = at_most n (take_away n xs) (taken_distinct n xs d) (λ y h. let a = below y (stands_before n y xs h)
    in let ne : y ≡ n → ⊥ = taken_below n y xs d h in omega (arith, a, ne)) in
    let more = less_one n xs in
    omega (arith, rest, more)

-- leading

pub leads_append : (next : List ℕ) (a : ℕ) (xs : List ℕ) (b : ℕ) (ys : List ℕ) (c : ℕ) → Leads next a xs b
    → Leads next b ys c → Leads next a (xs ++ ys) c
leads_append next a [] b ys c l m = rw l m
leads_append next a (x ∷ xs) b ys c l m = (l.0, leads_append next (slice_index next a) xs b ys c l.1 m)

-- where the second part begins
pub leads_split : (next : List ℕ) (a : ℕ) (xs : List ℕ) (y : ℕ) (ys : List ℕ) (c : ℕ)
    → Leads next a (xs ++ y ∷ ys) c → Leads next a xs y × Leads next y (y ∷ ys) c
leads_split next a [] y ys c l = (sym l.0, (refl, rw (l.0) l.1))
leads_split next a (x ∷ xs) y ys c l = let r = leads_split next (slice_index next a) xs y ys c l.1 in ((l.0, r.0), r.1)

pub leads_same : (next next' : List ℕ) (a : ℕ) (xs : List ℕ) (b : ℕ)
    → ((x : ℕ) → Stands x xs → slice_index next' x ≡ slice_index next x) → Leads next a xs b → Leads next' a xs b
leads_same next next' a [] b same l = l
leads_same next next' a (x ∷ xs) b same l =
    let e : slice_index next' a ≡ slice_index next a = rw (l.0) at (same x (inl refl)) in
    (l.0, rw e (leads_same next next' (slice_index next a) xs b (λ y h. same y (inr h)) l.1))

abbrev pub last_of : ℕ → List ℕ → ℕ
last_of x [] = x
last_of x (y ∷ ys) = last_of y ys

pub last_stands : (x : ℕ) (xs : List ℕ) → Stands (last_of x xs) (x ∷ xs)
last_stands x [] = inl refl
last_stands x (y ∷ ys) = inr (last_stands y ys)

pub last_leads : (next : List ℕ) (a x : ℕ) (xs : List ℕ) (b : ℕ) → Leads next a (x ∷ xs) b
    → slice_index next (last_of x xs) ≡ b
last_leads next a x [] b l = rw (l.0) (l.1)
last_leads next a x (y ∷ ys) b l = last_leads next (slice_index next a) y ys b l.1

-- the last one leads elsewhere
pub leads_turned : (next next' : List ℕ) (a x : ℕ) (xs : List ℕ) (b b' : ℕ) → NoRepeat (x ∷ xs)
    → ((y : ℕ) → Stands y (x ∷ xs) → (y ≡ last_of x xs → ⊥) → slice_index next' y ≡ slice_index next y)
    → slice_index next' (last_of x xs) ≡ b' → Leads next a (x ∷ xs) b → Leads next' a (x ∷ xs) b'
leads_turned next next' a x [] b b' d same turned l = (l.0, rw (← l.0) turned)
leads_turned next next' a x (y ∷ ys) b b' d same turned l =
    let P : ℕ → Type 0 = λ z. Stands z (y ∷ ys) in
    let ne : x ≡ last_of y ys → ⊥ = λ e. d.0 (subst P (sym e) (last_stands y ys)) in
    let e : slice_index next' a ≡ slice_index next a = rw (l.0) at (same x (inl refl) ne) in
    (l.0, rw e (leads_turned next next' (slice_index next a) y ys b b' d.1 (λ z h k. same z (inr h) k) turned l.1))

-- two ways to the same place
leads_unique : (next : List ℕ) (c : ℕ) (xs ys : List ℕ) (a : ℕ) → Leads next c xs a → Leads next c ys a
    → (Stands a xs → ⊥) → (Stands a ys → ⊥) → xs ≡ ys
leads_unique next c [] [] a l m out out' = refl
leads_unique next c [] (y ∷ ys) a l m out out' = absurd (out' (inl (sym l ∙ sym m.0)))
leads_unique next c (x ∷ xs) [] a l m out out' = absurd (out (inl (sym m ∙ sym l.0)))
leads_unique next c (x ∷ xs) (y ∷ ys) a l m out out' =
    let rest = leads_unique next (slice_index next c) xs ys a l.1 m.1 (λ h. out (inr h)) (λ h. out' (inr h)) in
    rw (l.0, m.0, rest) refl

-- rings

pub ring_unique : (next : List ℕ) (a : ℕ) (xs ys : List ℕ) → IsRing next a xs → IsRing next a ys → xs ≡ ys
ring_unique next a [] ys r s = let h = r.some in absurd (omega (arith, h))
ring_unique next a (x ∷ xs) [] r s = let h = s.some in absurd (omega (arith, h))
ring_unique next a (x ∷ xs) (y ∷ ys) r s =
    let rest = leads_unique next (slice_index next a) xs ys a r.leads.1 s.leads.1
    (λ h. r.distinct.0 (rw (r.leads.0) h)) (λ h. s.distinct.0 (rw (s.leads.0) h)) in
    rw (r.leads.0, s.leads.0, rest) refl

pub split_at : (c : ℕ) (xs : List ℕ) → Stands c xs → (us : List ℕ) × (vs : List ℕ) × (xs ≡ us ++ c ∷ vs)
split_at c [] h = absurd h
split_at c (x ∷ xs) (inl e) = ([], xs, rw e refl)
split_at c (x ∷ xs) (inr h) = let s = split_at c xs h in (x ∷ s.0, s.1, ap (λ l. x ∷ l) s.2)

-- a ring read from another of its members on
pub ring_from : (next : List ℕ) (a c : ℕ) (us vs : List ℕ) → IsRing next a (us ++ c ∷ vs)
    → IsRing next c ((c ∷ vs) ++ us)
ring_from next a c us vs r = record {
  leads = (let s = leads_split next a us c vs a r.leads in leads_append next c (c ∷ vs) a us c s.1 s.0);
  some = omega arith;
  distinct = distinct_append (c ∷ vs) us (distinct_right us (c ∷ vs) r.distinct)
      (distinct_left us (c ∷ vs) r.distinct) (λ x h k. distinct_apart us (c ∷ vs) x r.distinct k h);
  within = λ x h. r.within x (elim (stands_cases x (c ∷ vs) us h) [
    | inl l ↦ stands_right x us (c ∷ vs) l
    | inr m ↦
        stands_left x us (c ∷ vs) m
  ]);
}

-- another member has a ring of the same members
pub ring_of : (next : List ℕ) (a c : ℕ) (xs : List ℕ) → IsRing next a xs → Stands c xs
    → (ys : List ℕ) × IsRing next c ys × ((x : ℕ) → Stands x xs → Stands x ys)
    × ((x : ℕ) → Stands x ys → Stands x xs)
ring_of next a c xs r h =
    let s = split_at c xs h in
    let r' : IsRing next a (s.0 ++ c ∷ s.1) = rw (s.2) at r in
    let P : ℕ → List ℕ → Type 0 = λ x l. Stands x l in (
      (c ∷ s.1) ++ s.0,
      ring_from next a c s.0 s.1 r',
      λ x k. elim (stands_cases x s.0 (c ∷ s.1) (subst (P x) (s.2) k)) [
        | inl l ↦ stands_right x (c ∷ s.1) s.0 l
        | inr m ↦ stands_left x (c ∷ s.1) s.0 m
      ],
      λ x k. subst (P x) (sym (s.2)) (elim (stands_cases x (c ∷ s.1) s.0 k) [
        | inl l ↦ stands_right x s.0 (c ∷ s.1) l
        | inr m ↦ stands_left x s.0 (c ∷ s.1) m
      ]),
    )

pub ring_begins : (next : List ℕ) (a : ℕ) (xs : List ℕ) → IsRing next a xs → Stands a xs
ring_begins next a [] r = let h = r.some in absurd (omega (arith, h))
ring_begins next a (x ∷ xs) r = inl (sym (r.leads.0))

-- a member of one's ring has one in its own ring
pub ring_mutual : (next : List ℕ) (a c : ℕ) (xs zs : List ℕ) → IsRing next a xs → IsRing next c zs → Stands a zs
    → Stands c xs
ring_mutual next a c xs zs r s h =
    let t = ring_of next c a zs s h in
    let P : List ℕ → Type 0 = λ l. Stands c l in
    subst P (ring_unique next a t.0 xs t.1 r) (t.2 c (ring_begins next c zs s))

-- rings that have a member in common
pub ring_joint : (next : List ℕ) (a b z : ℕ) (xs ys : List ℕ) → IsRing next a xs → IsRing next b ys → Stands z xs
    → Stands z ys → Stands b xs
ring_joint next a b z xs ys r s h k = let t = ring_of next a z xs r h in t.3 b (ring_mutual next z b t.0 ys t.1 s k)

next_stands : (next : List ℕ) (b : ℕ) (ys : List ℕ) (d c : ℕ) → Leads next b ys d → Stands c ys
    → Stands (slice_index next c) ys ⊎ (slice_index next c ≡ d)
next_stands next b [] d c l h = absurd h
next_stands next b (y ∷ []) d c l (inl e) = inr (ap (slice_index next) (e ∙ l.0) ∙ l.1)
next_stands next b (y ∷ []) d c l (inr h) = absurd h
next_stands next b (y ∷ z ∷ zs) d c l (inl e) = inl (inr (inl (ap (slice_index next) (e ∙ l.0) ∙ sym l.1.0)))
next_stands next b (y ∷ z ∷ zs) d c l (inr h) =
    elim (next_stands next (slice_index next b) (z ∷ zs) d c l.1 h) [ inl m ↦ inl (inr m) | inr e ↦ inr e ]

-- the successor of a member is one
pub ring_next : (next : List ℕ) (a c : ℕ) (xs : List ℕ) → IsRing next a xs → Stands c xs
    → Stands (slice_index next c) xs
ring_next next a c xs r h =
    let P : ℕ → Type 0 = λ z. Stands z xs in elim (next_stands next a xs a c r.leads h)
    [ inl m ↦ m | inr e ↦ subst P (sym e) (ring_begins next a xs r) ]

-- a ring has at most as many members as there are
pub ring_short : (next : List ℕ) (a : ℕ) (xs : List ℕ) → IsRing next a xs → length xs ≤ length next
ring_short next a xs r = at_most (length next) xs r.distinct r.within

pub partition_of : (next : List ℕ) → AreRings next → IsPartition next
partition_of next rings = record {
  each = rings;
  one = ring_unique next;
  joint = λ a b x xs ys r s h k.
      let t = ring_of next a b xs r h in
      let P : List ℕ → Type 0 = λ z. Stands x z in
      subst P (ring_unique next b t.0 ys t.1 s) (t.2 x k);
}
