-- A queue in a ring.
use Rattle.std.proofs.Common.{◌≡◌, ◌∙◌, ℕ, ◌+◌, ◌<◌, inl, inr, List, [], ◌∷◌, ◌++◌, length, slice_index, refl, sym}
use Rattle.std.proofs.Common.{arith, subst}
use Rattle.std.proofs.lemmas.Bool.{cases_eq}
use Rattle.pungi_links.specs.Ring.{Stands, IsRing}
use Rattle.pungi_links.specs.Chains.{Alone, Splices, TakesOut}
use Rattle.pungi_links.specs.Pending.{IsQueue, IsPending, listed}
use Rattle.pungi_links.proofs.RingLemmas.{stands_left, stands_right, stands_or_not, ring_of, ring_from, ring_unique}
use Rattle.pungi_links.proofs.WalkLemmas.{way_is}

pub queue_pending : (links : List ℕ) (end : ℕ) → IsQueue links end
    → IsPending (record { limit = end; list = listed links end })
queue_pending links end q = record {
  below = λ i h.
      let lt = q.ring.within i (inr h) in
      let e = q.all in
      let P : ℕ → Type 0 = λ z. Stands z (listed links end) in
      let ne : i ≡ end → ⊥ = λ f. q.ring.distinct.0 (subst P f h) in
      omega (arith, lt, e, ne);
  distinct = q.ring.distinct.1;
}

-- a ring from the end on is the queue
queue_of : (links : List ℕ) (end : ℕ) (xs : List ℕ) → length links ≡ end + 1 → IsRing links end (end ∷ xs)
    → ((i : ℕ) → i < end → (Stands i xs → ⊥) → IsRing links i (i ∷ [])) → IsQueue links end × (listed links end ≡ xs)
queue_of links end xs all r alone =
    let e : listed links end ≡ xs = way_is links end xs r in
    (record { all = all; ring = rw e r; alone = rw e alone }, e)

pub queue_empty : (links : List ℕ) (end : ℕ) → Alone (end + 1) links → IsQueue links end × (listed links end ≡ [])
queue_empty links end a =
    queue_of links end [] a.all (a.alone end (omega arith)) (λ i lt out. a.alone i (omega (arith, lt)))

module _ (links : List ℕ) (end : ℕ) (q : IsQueue links end) where
  linked_on : (i : ℕ) → Stands i (listed links end) → i < end → slice_index links i ≡ i → ⊥
  linked_on i h lt e =
      let t = ring_of links end i (end ∷ listed links end) q.ring (inr h) in
      let single : IsRing links i (i ∷ []) = record {
        leads = (refl, e);
        some = omega arith;
        distinct
            = ((λ n. n), tt);
        within = λ x k. elim k [
          | inl f ↦ rw f (let a = q.all in omega (arith, lt, a))
          | inr n ↦
              absurd n
        ];
      } in
      let P : List ℕ → Type 0 = λ z. Stands end z in
      let k : Stands end (i ∷ []) = subst P (ring_unique links i t.0 (i ∷ []) t.1 single) (t.2 end (inl refl)) in
      elim k [ inl f ↦ absurd (omega (arith, f, lt)) | inr n ↦ n ]

  -- a number that leads to another is in the list
  pub put_old : (i : ℕ) → i < end → (slice_index links i ≡ i → ⊥) → Stands i (listed links end)
  put_old i lt ne = elim (stands_or_not i (listed links end)) [
    | inl h ↦ h
    | inr out ↦ absurd
        (ne ((q.alone i lt out).leads.1))
  ]

  pub put_apart : (i : ℕ) → i < end → slice_index links i ≡ i → (xs : List ℕ) → IsRing links end xs → Stands i xs → ⊥
  put_apart i lt e xs r h =
      let P : List ℕ → Type 0 = λ z. Stands i z in
      let k : Stands i (end ∷ listed links end) = subst P (ring_unique links end xs (end ∷ listed links end) r
      q.ring) h in
      elim k [ inl f ↦ absurd (omega (arith, f, lt)) | inr m ↦ linked_on i m lt e ]

  pub put_new : (i : ℕ) (links' : List ℕ) → i < end → slice_index links i ≡ i → Splices links end i links'
      → (Stands i (listed links end) → ⊥) × (IsQueue links' end × (listed links' end ≡ listed links end ++ i ∷ []))
  put_new i links' lt e s =
      let out : Stands i (listed links end) → ⊥ = λ h. linked_on i h lt e in (
        out,
        queue_of links' end (listed links end ++ i ∷ []) (s.all
            ∙ q.all) (s.joined (end ∷ listed links end) (i ∷ []) q.ring (q.alone i lt out))
            (λ j j_lt j_out. s.others j (j ∷ []) (q.alone j j_lt (λ h. j_out (stands_left j (listed links end)
            (i ∷ []) h)))
            (λ h. elim h [ inl f ↦ absurd (omega (arith, f, j_lt)) | inr n ↦ n ])
            (λ h. elim h [ inl f ↦ j_out (stands_right j (listed links end) (i ∷ []) (inl (sym f))) | inr n ↦ n ])),
      )

  pub take_none : slice_index links end ≡ end → listed links end ≡ []
  take_none e = go (listed links end) q.ring
    where
      go : (xs : List ℕ) → IsRing links end (end ∷ xs) → xs ≡ []
      go [] r = refl
      go (x ∷ xs) r = absurd (r.distinct.0 (inl (sym (r.leads.1.0 ∙ e))))

  pub take_some : (links' : List ℕ) → (slice_index links end ≡ end → ⊥) → TakesOut links (slice_index links end) links'
      → IsQueue links' end × (listed links end ≡ slice_index links end ∷ listed links' end)
  take_some links' ne t = go (listed links end) q.ring q.alone
    where
      rotated : (x : ℕ) (xs : List ℕ) → IsRing links x (x ∷ (xs ++ end ∷ [])) → x ≡ slice_index links end
          → IsRing links' end (end ∷ xs)
      rotated x [] r e = t.left end [] (subst (λ (z : ℕ). IsRing links z (z ∷ end ∷ [])) e r)
      rotated x (y ∷ ys) r e =
          let s : IsRing links' y (y ∷ (ys ++ end ∷ [])) = t.left y (ys ++ end ∷ [])
          (subst (λ (z : ℕ). IsRing links z (z ∷ y ∷ (ys ++ end ∷ []))) e r) in
          ring_from links' y end (y ∷ ys) [] s

      go : (xs : List ℕ) → IsRing links end (end ∷ xs)
          → ((i : ℕ) → i < end → (Stands i xs → ⊥) → IsRing links i (i ∷ []))
          → IsQueue links' end × (xs ≡ slice_index links end ∷ listed links' end)
      go [] r alone = absurd (ne (r.leads.1))
      go (x ∷ xs) r alone =
          let e : x ≡ slice_index links end = r.leads.1.0 in
          let turned : IsRing links x (x ∷ (xs ++ end ∷ [])) = ring_from links end x (end ∷ []) xs r in
          let k = queue_of links' end xs (t.all ∙ q.all) (rotated x xs turned e)
          (λ j j_lt out. elim (cases_eq j x) [
            | inl f ↦ (let g : slice_index links end ≡ j = sym e
                ∙ sym f in subst (λ (z : ℕ). IsRing links' z (z ∷ [])) g t.alone)
            | inr nx ↦ t.others j (j ∷ []) (alone j j_lt (λ h. elim h [ inl f ↦ nx f | inr m ↦ out m ]))
                (λ h. elim h [ inl f ↦ nx (sym f ∙ sym e) | inr n ↦ n ])
          ]) in
          (k.0, rw (e, k.1) refl)
