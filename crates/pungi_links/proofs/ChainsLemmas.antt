-- Changes of the links.
use Rattle.std.proofs.Common.{◌≡◌, ◌∙◌, ℕ, ◌<◌, ◌≤◌, inl, inr, List, [], ◌∷◌, ◌++◌, length, slice_index, slice_set}
use Rattle.std.proofs.Common.{refl, sym, ap, arith, subst, length-set, get_or-set_same, get_or-set_other, length-append}
use Rattle.std.proofs.Common.{◌^◌}
use Rattle.std.proofs.lemmas.Bool.{cases_eq, cases_lt}
use Rattle.pungi_links.specs.Ring.{Stands, Leads, IsRing, AreRings}
use Rattle.pungi_links.specs.Chains.{Linked, Extends, Alone, Splices, TakesOut, Copies}
use Rattle.pungi_links.proofs.RingLemmas.{stands_left, stands_right, stands_cases, stands_or_not, distinct_append}
use Rattle.pungi_links.proofs.RingLemmas.{leads_append, leads_same, leads_turned, last_of, last_stands, last_leads}
use Rattle.pungi_links.proofs.RingLemmas.{ring_begins, ring_of, ring_mutual, ring_joint, ring_next, partition_of}

-- two places are written
two_here : (xs : List ℕ) (i j v w : ℕ) → (i ≡ j → ⊥) → i < length xs
    → slice_index (slice_set (slice_set xs i v) j w) i ≡ v
two_here xs i j v w ne lt = get_or-set_other (slice_set xs i v) j i w 0 ne ∙ get_or-set_same xs i v 0 lt

two_there : (xs : List ℕ) (i j v w : ℕ) → j < length xs → slice_index (slice_set (slice_set xs i v) j w) j ≡ w
two_there xs i j v w lt = get_or-set_same (slice_set xs i v) j w 0 (rw (length-set xs i v) lt)

two_else : (xs : List ℕ) (i j v w u : ℕ) → (u ≡ i → ⊥) → (u ≡ j → ⊥)
    → slice_index (slice_set (slice_set xs i v) j w) u ≡ slice_index xs u
two_else xs i j v w u ni nj = get_or-set_other (slice_set xs i v) j u w 0 nj ∙ get_or-set_other xs i u v 0 ni

two_length : (xs : List ℕ) (i j v w : ℕ) → length (slice_set (slice_set xs i v) j w) ≡ length xs
two_length xs i j v w = length-set (slice_set xs i v) j w ∙ length-set xs i v

two_within : (xs : List ℕ) (i j v w n : ℕ) → v < n → w < n → i < length xs → j < length xs
    → ((u : ℕ) → u < n → slice_index xs u < n) → (u : ℕ) → u < n
    → slice_index (slice_set (slice_set xs i v) j w) u < n
two_within xs i j v w n v_lt w_lt i_lt j_lt h u lt = elim (cases_eq u j) [
  | inl e ↦ rw (e, two_there xs i j v w j_lt) w_lt
  | inr nj ↦ elim (cases_eq u i) [
    | inl e ↦ (let ne : i ≡ j → ⊥ = λ f. nj (e ∙ f) in rw (e, two_here xs i j v w ne i_lt) v_lt)
    | inr ni ↦ rw (two_else xs i j v w u ni nj) (h u lt)
  ]
]

module _ (next before : List ℕ) (l : Linked next before) where
  pub before_room : (a : ℕ) → a < length next → a < length before
  before_room a lt = rw (l.same) lt

  -- the one before is the last of the ring
  last_is : (a x : ℕ) (xs : List ℕ) → IsRing next a (x ∷ xs) → slice_index before a ≡ last_of x xs
  last_is a x xs r =
      let e : slice_index next (last_of x xs) ≡ a = last_leads next a x xs a r.leads in
      ap (slice_index before) (sym e) ∙ l.back (last_of x xs) (r.within (last_of x xs) (last_stands x xs))

  forth : (a : ℕ) → a < length next → slice_index next (slice_index before a) ≡ a
  forth a lt = go (l.rings a lt).0 (l.rings a lt).1
    where
      go : (xs : List ℕ) → IsRing next a xs → slice_index next (slice_index before a) ≡ a
      go [] r = let h = r.some in absurd (omega (arith, h))
      go (x ∷ xs) r = ap (slice_index next) (last_is a x xs r) ∙ last_leads next a x xs a r.leads

  -- a ring without a has not the one before a
  before_out : (a c : ℕ) (zs : List ℕ) → a < length next → IsRing next c zs → (Stands a zs → ⊥)
      → Stands (slice_index before a) zs → ⊥
  before_out a c zs lt r out h = let P : ℕ
      → Type 0 = λ z. Stands z zs in out (subst P (forth a lt) (ring_next next c (slice_index before a) zs r h))

  module _ (a b : ℕ) (a_lt : a < length next) (b_lt : b < length next) (apart : (xs : List ℕ) → IsRing next a xs
      → Stands b xs → ⊥) where
    abbrev spliced : List ℕ
    spliced = slice_set (slice_set next (slice_index before a) b) (slice_index before b) a

    abbrev back_spliced : List ℕ
    back_spliced = slice_set (slice_set before b (slice_index before a)) a (slice_index before b)

    len : length spliced ≡ length next
    len = two_length next (slice_index before a) (slice_index before b) b a

    not_same : a ≡ b → ⊥
    not_same e = let r = l.rings a a_lt in let P : ℕ
        → Type 0 = λ z. Stands z r.0 in apart r.0 r.1 (subst P e (ring_begins next a r.0 r.1))

    lasts_apart : slice_index before a ≡ slice_index before b → ⊥
    lasts_apart e = not_same (sym (forth a a_lt) ∙ ap (slice_index next) e ∙ forth b b_lt)

    at_last_a : slice_index spliced (slice_index before a) ≡ b
    at_last_a = two_here next (slice_index before a) (slice_index before b) b a lasts_apart (l.before_in a a_lt)

    at_last_b : slice_index spliced (slice_index before b) ≡ a
    at_last_b = two_there next (slice_index before a) (slice_index before b) b a (l.before_in b b_lt)

    elsewhere : (u : ℕ) → (u ≡ slice_index before a → ⊥) → (u ≡ slice_index before b → ⊥)
        → slice_index spliced u ≡ slice_index next u
    elsewhere u na nb = two_else next (slice_index before a) (slice_index before b) b a u na nb

    disjoint : (xs ys : List ℕ) → IsRing next a xs → IsRing next b ys → (z : ℕ) → Stands z xs → Stands z ys → ⊥
    disjoint xs ys r s z h k = apart xs r (ring_joint next a b z xs ys r s h k)

    lead_a : (xs ys : List ℕ) → IsRing next a xs → IsRing next b ys → Leads spliced a xs b
    lead_a [] ys r s = let h = r.some in absurd (omega (arith, h))
    lead_a (x ∷ xs) ys r s =
        let e : slice_index before a ≡ last_of x xs = last_is a x xs r in
        leads_turned next spliced a x xs a b r.distinct
        (λ z h ne. elsewhere z (λ f. ne (f ∙ e)) (λ f. before_out b a (x ∷ xs) b_lt r (apart (x ∷ xs) r)
        (let P : ℕ → Type 0 = λ z. Stands z (x ∷ xs) in subst P f h)))
        (rw (← e) at_last_a) r.leads

    lead_b : (xs ys : List ℕ) → IsRing next a xs → IsRing next b ys → Leads spliced b ys a
    lead_b xs [] r s = let h = s.some in absurd (omega (arith, h))
    lead_b xs (y ∷ ys) r s =
        let e : slice_index before b ≡ last_of y ys = last_is b y ys s in
        leads_turned next spliced b y ys b a s.distinct
        (λ z h ne. elsewhere z (λ f. before_out a b (y ∷ ys) a_lt s (λ k. disjoint xs (y ∷ ys) r s a
        (ring_begins next a xs r) k) (let P : ℕ → Type 0 = λ z. Stands z (y ∷ ys) in subst P f h))
        (λ f. ne (f ∙ e)))
        (rw (← e) at_last_b) s.leads

    pub splice_joined : (xs ys : List ℕ) → IsRing next a xs → IsRing next b ys → IsRing spliced a (xs ++ ys)
    splice_joined xs ys r s = record {
      leads = leads_append spliced a xs b ys a (lead_a xs ys r s) (lead_b xs ys r s);
      some = (let h = r.some in let e = length-append xs ys in omega (arith, h, e));
      distinct = distinct_append xs ys r.distinct s.distinct (disjoint xs ys r s);
      within = λ x h. rw len (elim (stands_cases x xs ys h) [ inl m ↦ r.within x m | inr m ↦ s.within x m ]);
    }

    pub splice_others : (c : ℕ) (zs : List ℕ) → IsRing next c zs → (Stands a zs → ⊥) → (Stands b zs → ⊥)
        → IsRing spliced c zs
    splice_others c zs r na nb = record {
      leads = leads_same next spliced c zs c (λ x h. let P : ℕ
          → Type 0 = λ z. Stands z zs in elsewhere x (λ e. before_out a c zs a_lt r na (subst P e h))
          (λ e. before_out b c zs b_lt r nb (subst P e h))) r.leads;
      some = r.some;
      distinct = r.distinct;
      within = λ x h. rw len (r.within x h);
    }

    pub splice_rings : AreRings spliced
    splice_rings c c_lt =
        let ra = l.rings a a_lt in
        let rb = l.rings b b_lt in
        let rc = l.rings c (rw len at c_lt) in
        let all : IsRing spliced a (ra.0 ++ rb.0) = splice_joined ra.0 rb.0 ra.1 rb.1 in
        elim (stands_or_not a rc.0) [
          | inl h ↦ (let t = ring_of spliced a c (ra.0 ++ rb.0) all (stands_left c ra.0 rb.0
              (ring_mutual next a c ra.0 rc.0 ra.1 rc.1 h)) in (t.0, t.1))
          | inr na ↦ elim (stands_or_not b rc.0) [
            | inl h ↦ (let t = ring_of spliced a c (ra.0 ++ rb.0) all (stands_right c ra.0 rb.0
                (ring_mutual next b c rb.0 rc.0 rb.1 rc.1 h)) in (t.0, t.1))
            | inr nb ↦ (rc.0, splice_others c rc.0 rc.1 na nb)
          ]
        ]

    splice_back : (i : ℕ) → i < length next → slice_index back_spliced (slice_index spliced i) ≡ i
    splice_back i lt = elim (cases_eq i (slice_index before a)) [
      | inl e ↦ rw (e, at_last_a) (two_here before b a (slice_index before a) (slice_index before b)
          (λ f. not_same (sym f)) (rw (l.same) b_lt))
      | inr na ↦ elim (cases_eq i (slice_index before b)) [
        | inl e ↦ rw (e, at_last_b) (two_there before b a (slice_index before a) (slice_index before b)
            (rw (l.same) a_lt))
        | inr nb ↦ rw (elsewhere i na nb) (
            two_else before b a (slice_index before a) (slice_index before b) (slice_index next i)
            (λ e. nb (sym (l.back i lt) ∙ ap (slice_index before) e)) (λ e. na (sym (l.back i lt)
            ∙ ap (slice_index before) e))
            ∙ l.back i lt
            )
      ]
    ]

    pub splice_linked : Linked spliced back_spliced
    splice_linked = record {
      small = rw len (l.small);
      same = two_length before b a (slice_index before a) (slice_index before b) ∙ l.same ∙ sym len;
      next_in = λ i lt. rw len (two_within next (slice_index before a) (slice_index before b) b a (length next) b_lt
          a_lt (l.before_in a a_lt) (l.before_in b b_lt) (l.next_in) i (rw len at lt));
      before_in = λ i lt. rw len (two_within before b a (slice_index before a) (slice_index before b) (length next)
          (l.before_in a a_lt) (l.before_in b b_lt) (rw (l.same) b_lt) (rw (l.same) a_lt) (l.before_in) i
          (rw len at lt));
      back = λ i lt. splice_back i (rw len at lt);
      rings = splice_rings;
    }

    pub splices : Splices next a b spliced
    splices = record {
      all = len;
      joined = splice_joined;
      others = splice_others;
      partition = partition_of spliced
          splice_rings;
    }

  module _ (a : ℕ) (a_lt : a < length next) where
    abbrev taken : List ℕ
    taken = slice_set (slice_set next (slice_index before a) (slice_index next a)) a a

    abbrev back_taken : List ℕ
    back_taken = slice_set (slice_set before (slice_index next a) (slice_index before a)) a a

    taken_len : length taken ≡ length next
    taken_len = two_length next (slice_index before a) a (slice_index next a) a

    at_a : slice_index taken a ≡ a
    at_a = two_there next (slice_index before a) a (slice_index next a) a a_lt

    away : (u : ℕ) → (u ≡ slice_index before a → ⊥) → (u ≡ a → ⊥) → slice_index taken u ≡ slice_index next u
    away u nb na = two_else next (slice_index before a) a (slice_index next a) a u nb na

    pub take_alone : IsRing taken a (a ∷ [])
    take_alone = record {
      leads = (refl, at_a);
      some = omega arith;
      distinct = ((λ h. h), tt);
      within = λ x h. elim h [ inl e ↦ rw (e, taken_len) a_lt | inr n ↦ absurd n ];
    }

    pub take_left : (x : ℕ) (xs : List ℕ) → IsRing next a (a ∷ x ∷ xs) → IsRing taken x (x ∷ xs)
    take_left x xs r = record {
      leads = leads;
      some = omega arith;
      distinct = r.distinct.1;
      within = λ y h. rw taken_len (r.within y (inr h));
    }
      where
        last : slice_index before a ≡ last_of x xs
        last = last_is a a (x ∷ xs) r

        apart : (slice_index before a ≡ a) → ⊥
        apart e = let P : ℕ → Type 0 = λ z. Stands z (x ∷ xs) in r.distinct.0 (subst P (sym last ∙ e)
            (last_stands x xs))

        turned : slice_index taken (last_of x xs) ≡ x
        turned = rw (← last) (two_here next (slice_index before a) a (slice_index next a) a apart
            (l.before_in a a_lt) ∙ sym r.leads.1.0)

        leads : Leads taken x (x ∷ xs) x
        leads =
            let h = leads_turned next taken (slice_index next a) x xs a x r.distinct.1
            (λ y h ne. away y (λ e. ne (e ∙ last)) (λ e. let P : ℕ
            → Type 0 = λ z. Stands z (x ∷ xs) in r.distinct.0 (subst P e h))) turned r.leads.1 in
            let Q : ℕ → Type 0 = λ z. Leads taken z (x ∷ xs) x in
            subst Q (sym r.leads.1.0) h

    pub take_others : (c : ℕ) (zs : List ℕ) → IsRing next c zs → (Stands a zs → ⊥) → IsRing taken c zs
    take_others c zs r na = record {
      leads = leads_same next taken c zs c (λ x h. let P : ℕ
          → Type 0 = λ z. Stands z zs in away x (λ e. before_out a c zs a_lt r na (subst P e h))
          (λ e. na (subst P e h))) r.leads;
      some = r.some;
      distinct = r.distinct;
      within = λ x h. rw taken_len (r.within x h);
    }

    pub take_rings : AreRings taken
    take_rings c c_lt =
        let ra = l.rings a a_lt in
        let rc = l.rings c (rw taken_len at c_lt) in
        elim (stands_or_not a rc.0) [
          | inl h ↦ within ra.0 ra.1 c (ring_mutual next a c ra.0 rc.0 ra.1 rc.1 h)
          | inr na ↦ (rc.0, take_others c rc.0 rc.1 na)
        ]
      where
        within : (xs : List ℕ) → IsRing next a xs → (c : ℕ) → Stands c xs → (ys : List ℕ) × IsRing taken c ys
        within [] r c h = absurd h
        within (x ∷ xs) r c (inl e) = let f : c ≡ a = e ∙ r.leads.0 in (a ∷ [], rw f take_alone)
        within (x ∷ []) r c (inr h) = absurd h
        within (x ∷ y ∷ ys) r c (inr h) =
            let r' : IsRing next a (a ∷ y ∷ ys) = rw (r.leads.0) at r in
            let t = ring_of taken y c (y ∷ ys) (take_left y ys r') h in (t.0, t.1)

    take_back : (i : ℕ) → i < length next → slice_index back_taken (slice_index taken i) ≡ i
    take_back i lt = elim (cases_eq i a) [
      | inl e ↦ rw (e, at_a) (two_there before (slice_index next a) a (slice_index before a) a (rw (l.same) a_lt))
      | inr na ↦ elim (cases_eq i (slice_index before a)) [
        | inl e ↦
            let apart : slice_index before a ≡ a → ⊥ = λ f. na (e ∙ f) in
            let right : slice_index next a ≡ a → ⊥ = λ f. apart (ap (slice_index before) (sym f) ∙ l.back a a_lt) in
            rw (e, two_here next (slice_index before a) a (slice_index next a) a apart (l.before_in a a_lt))
            (two_here before (slice_index next a) a (slice_index before a) a right (rw (l.same) (l.next_in a a_lt)))
        | inr nb ↦ rw (away i nb na) (
            two_else before (slice_index next a) a (slice_index before a) a (slice_index next i)
            (λ e. na (sym (l.back i lt) ∙ ap (slice_index before) e ∙ l.back a a_lt))
            (λ e. nb (sym (l.back i lt) ∙ ap (slice_index before) e))
            ∙ l.back i lt
            )
      ]
    ]

    pub take_linked : Linked taken back_taken
    take_linked = record {
      small = rw taken_len (l.small);
      same = two_length before (slice_index next a) a (slice_index before a) a ∙ l.same ∙ sym taken_len;
      next_in = λ i lt. rw taken_len (two_within next (slice_index before a) a (slice_index next a) a (length next)
          (l.next_in a a_lt) a_lt (l.before_in a a_lt) a_lt (l.next_in) i (rw taken_len at lt));
      before_in = λ i lt. rw taken_len (two_within before (slice_index next a) a (slice_index before a) a
          (length next) (l.before_in a a_lt) a_lt (rw (l.same) (l.next_in a a_lt)) (rw (l.same) a_lt) (l.before_in) i
          (rw taken_len at lt));
      back = λ i lt. take_back i (rw taken_len at lt);
      rings = take_rings;
    }

    pub takes_out : TakesOut next a taken
    takes_out = record {
      all = taken_len;
      alone = take_alone;
      left = take_left;
      others = take_others;
      partition
          = partition_of taken take_rings;
    }

-- links that each lead to themselves from some number on
self_ring : (next : List ℕ) (a : ℕ) → a < length next → slice_index next a ≡ a → IsRing next a (a ∷ [])
self_ring next a lt e = record {
  leads = (refl, e);
  some = omega arith;
  distinct = ((λ h. h), tt);
  within = λ x h. elim h [ inl f ↦ rw f lt | inr n ↦ absurd n ];
}

module _ (old old_before next before : List ℕ) (count : ℕ) (l : Linked old old_before) (few : count ≤ 2 ^ 32)
    (le : length old ≤ count)
    (n : Extends old count next) (p : Extends old_before count before) where
  copy_same : (a : ℕ) (xs : List ℕ) → IsRing old a xs → IsRing next a xs
  copy_same a xs r = record {
    leads = leads_same old next a xs a (λ x h. n.old x (r.within x h)) r.leads;
    some = r.some;
    distinct = r.distinct;
    within = λ x h. let e = n.all in let k = r.within x h in omega (arith, e, k, le);
  }

  copy_alone : (a : ℕ) → length old ≤ a → a < count → IsRing next a (a ∷ [])
  copy_alone a ge lt = self_ring next a (let e = n.all in omega (arith, e, lt)) (n.new a ge lt)

  copy_rings : AreRings next
  copy_rings a lt = elim (cases_lt a (length old)) [
    | inl h ↦ (let r = l.rings a h in (r.0, copy_same a r.0 r.1))
    | inr h ↦ (a ∷ [], copy_alone a h (let e = n.all in omega (arith, e, lt)))
  ]

  pub copy_linked : Linked next before
  copy_linked = record {
    small = (let e = n.all in omega (arith, e, few));
    same = p.all ∙ sym n.all;
    next_in = λ i lt. let e = n.all in elim (cases_lt i (length old)) [
      | inl h ↦ (let k = n.old i h in let m = l.next_in i h in omega (arith, k, m, e, le))
      | inr h ↦ (let k = n.new i h (omega (arith, e, lt)) in omega (arith, k, lt))
    ];
    before_in = λ i lt. let e = n.all in let s = l.same in elim (cases_lt i (length old)) [
      | inl h ↦ (let k = p.old i (omega (arith, s, h)) in let m = l.before_in i h in omega (arith, k, m, e, le))
      | inr h ↦ (let k = p.new i (omega (arith, s, h)) (omega (arith, e, lt)) in omega (arith, k, lt))
    ];
    back = λ i lt. let e = n.all in let s = l.same in elim (cases_lt i (length old)) [
      | inl h ↦ (let m = l.next_in i h in rw (n.old i h, p.old (slice_index old i) (omega (arith, s, m))) (l.back i h))
      | inr h ↦ (let k : i < count = omega (arith, e, lt) in rw (n.new i h k) (p.new i (omega (arith, s, h)) k))
    ];
    rings = copy_rings;
  }

  pub copies : Copies old count next
  copies = record { all = n.all; same = copy_same; alone = copy_alone; partition = partition_of next copy_rings }

pub none_linked : Linked [] []
none_linked = record {
  small = omega arith;
  same = refl;
  next_in = λ i lt. absurd (omega (arith, lt));
  before_in = λ i lt. absurd (omega (arith, lt));
  back = λ i lt. absurd (omega (arith, lt));
  rings = λ a lt. absurd (omega (arith, lt));
}

pub alone_all : (count : ℕ) (next : List ℕ) → Extends [] count next → Alone count next
alone_all count next n =
    let alone : (a : ℕ) → a < count → IsRing next a (a ∷ []) = λ a lt. self_ring next a
    (let e = n.all in omega (arith, e, lt)) (n.new a (omega arith) lt) in
    record {
      all = n.all;
      alone = alone;
      partition = partition_of next (λ a lt.
          (a ∷ [], alone a (let e = n.all in omega (arith, e, lt))));
    }
