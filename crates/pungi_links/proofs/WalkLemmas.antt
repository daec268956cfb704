-- Walks round a ring.
use Rattle.std.proofs.Common.{◌≡◌, ◌∙◌, ℕ, zero, suc, ◌<◌, ◌≤◌, inl, inr, ◌==◌, true, false, List, [], ◌∷◌, ◌++◌}
use Rattle.std.proofs.Common.{length, slice_index, refl, sym, arith, subst, append_assoc, append-nil, length-append}
use Rattle.std.proofs.lemmas.Bool.Decides.{nat_tests}
use Rattle.pungi_links.specs.Ring.{Stands, Leads, IsRing, AreRings, walk, way}
use Rattle.pungi_links.specs.Chains.{IsSame}
use Rattle.pungi_links.proofs.RingLemmas.{stands_left, stands_right, stands_cases, distinct_apart, ring_unique}
use Rattle.pungi_links.proofs.RingLemmas.{ring_begins, ring_short}

walk_is : (k : ℕ) (next : List ℕ) (c : ℕ) (xs : List ℕ) (a : ℕ) → length xs ≤ k → Leads next c xs a
    → (Stands a xs → ⊥) → walk k next c a ≡ xs
walk_is zero next c [] a le l out = refl
walk_is zero next c (x ∷ xs) a le l out = absurd (omega (arith, le))
walk_is (suc k) next c [] a le l out = let e : (c == a) ≡ true = grind (arith, nat_tests) in rw e refl
walk_is (suc k) next c (x ∷ xs) a le l out =
    let ne : c ≡ a → ⊥ = λ e. out (inl (sym (l.0 ∙ e))) in
    let e : (c == a) ≡ false = grind (arith, nat_tests) in
    let rest = walk_is k next (slice_index next c) xs a (omega (arith, le)) l.1 (λ h. out (inr h)) in
    rw (e, rest, l.0) refl

-- what comes after the first of a ring
pub way_is : (next : List ℕ) (a : ℕ) (xs : List ℕ) → IsRing next a (a ∷ xs) → way next (slice_index next a) a ≡ xs
way_is next a xs r =
    walk_is (length next) next (slice_index next a) xs a (let h = ring_short next a (a ∷ xs) r in omega (arith, h))
    r.leads.1 r.distinct.0

-- a walk from a on that has come as far as a member
pub record Walking (next : List ℕ) (a : ℕ) (front : List ℕ) (member : ℕ) : Type 0 where
  pub rest : List ℕ
  pub leads : Leads next member rest a
  pub ring : IsRing next a (front ++ rest)
  pub begun : Stands a front

pub walking_starts : (next : List ℕ) (a : ℕ) → AreRings next → a < length next
    → Walking next a (a ∷ []) (slice_index next a)
walking_starts next a rings lt = go (rings a lt).0 (rings a lt).1
  where
    go : (xs : List ℕ) → IsRing next a xs → Walking next a (a ∷ []) (slice_index next a)
    go [] r = let h = r.some in absurd (omega (arith, h))
    go (x ∷ xs) r = record { rest = xs; leads = r.leads.1; ring = rw (r.leads.0) at r; begun = inl refl }

pub walking_within : (next : List ℕ) (a : ℕ) (front : List ℕ) (member : ℕ) → Walking next a front member
    → member < length next
walking_within next a front member w = go w.rest w.leads w.ring
  where
    go : (rest : List ℕ) → Leads next member rest a → IsRing next a (front ++ rest) → member < length next
    go [] l r = rw l (r.within a (ring_begins next a (front ++ []) r))
    go (x ∷ xs) l r = rw (← l.0) (r.within x (stands_right x front (x ∷ xs) (inl refl)))

pub walking_goes : (next : List ℕ) (a : ℕ) (front : List ℕ) (member : ℕ) → Walking next a front member
    → (member ≡ a → ⊥)
    → Walking next a (front ++ member ∷ []) (slice_index next member)
    × (length (way next (slice_index next member) a) < length (way next member a))
walking_goes next a front member w ne = go w.rest w.leads w.ring
  where
    go : (rest : List ℕ) → Leads next member rest a → IsRing next a (front ++ rest)
        → Walking next a (front ++ member ∷ []) (slice_index next member)
        × (length (way next (slice_index next member) a) < length (way next member a))
    go [] l r = absurd (ne l)
    go (x ∷ xs) l r =
        let out : Stands a (x ∷ xs) → ⊥ = distinct_apart front (x ∷ xs) a r.distinct w.begun in
        let short : length (x ∷ xs) ≤ length next = (let h = ring_short next a (front ++ x ∷ xs) r in let e
        = length-append front (x ∷ xs) in omega (arith, h, e)) in
        let this : way next member a ≡ x ∷ xs = walk_is (length next) next member (x ∷ xs) a short l out in
        let that : way next (slice_index next member) a ≡ xs = walk_is (length next) next (slice_index next member)
        xs a (omega (arith, short)) l.1 (λ h. out (inr h)) in (
          record {
            rest = xs;
            leads = l.1;
            ring = rw append_assoc (rw (l.0) at r);
            begun = stands_left a front
                (member ∷ []) w.begun;
          },
          rw (this, that) (omega arith),
        )

pub walking_ends : (next : List ℕ) (a : ℕ) (front : List ℕ) → Walking next a front a → IsRing next a front
walking_ends next a front w = go w.rest w.leads w.ring
  where
    go : (rest : List ℕ) → Leads next a rest a → IsRing next a (front ++ rest) → IsRing next a front
    go [] l r = rw append-nil at r
    go (x ∷ xs) l r = absurd (distinct_apart front (x ∷ xs) a r.distinct w.begun (inl (sym (l.0))))

pub walking_on : (next : List ℕ) (a : ℕ) (front : List ℕ) (member : ℕ) → Walking next a front member
    → (member ≡ a → ⊥) → (xs : List ℕ) → IsRing next a xs → Stands member xs
walking_on next a front member w ne xs s = go w.rest w.leads w.ring
  where
    go : (rest : List ℕ) → Leads next member rest a → IsRing next a (front ++ rest) → Stands member xs
    go [] l r = absurd (ne l)
    go (y ∷ ys) l r =
        let P : List ℕ → Type 0 = λ z. Stands member z in
        subst P (ring_unique next a (front ++ y ∷ ys) xs r s) (stands_right member front (y ∷ ys) (inl (sym (l.0))))

-- a walk that has not met b
pub record Seeking (next : List ℕ) (a b member : ℕ) : Type 0 where
  pub front : List ℕ
  pub walking : Walking next a front member
  pub unmet : Stands b front → ⊥

pub seeking_starts : (next : List ℕ) (a b : ℕ) → AreRings next → a < length next → (a ≡ b → ⊥)
    → Seeking next a b (slice_index next a)
seeking_starts next a b rings lt ne =
    record {
      front = a ∷ [];
      walking = walking_starts next a rings lt;
      unmet = λ h. elim h
          [ inl e ↦ ne (sym e) | inr n ↦ n ];
    }

pub seeking_goes : (next : List ℕ) (a b member : ℕ) → Seeking next a b member → (member ≡ a → ⊥) → (member ≡ b → ⊥)
    → Seeking next a b (slice_index next member)
    × (length (way next (slice_index next member) a) < length (way next member a))
seeking_goes next a b member s na nb =
    let w = walking_goes next a s.front member s.walking na in (
      record {
        front = s.front ++ member ∷ [];
        walking = w.0;
        unmet = λ h. elim
            (stands_cases b s.front (member ∷ []) h) [
              | inl l ↦ s.unmet l
              | inr r ↦ elim r
                  [ inl e ↦ nb (sym e) | inr n ↦ n ]
            ];
      },
      w.1,
    )

pub same_itself : (next : List ℕ) (a b : ℕ) → a ≡ b → IsSame next a b true
same_itself next a b e xs r =
    let P : ℕ → Type 0 = λ z. Stands z xs in ((λ t. subst P e (ring_begins next a xs r)), (λ h. refl))

pub same_met : (next : List ℕ) (a b member : ℕ) → Seeking next a b member → (member ≡ a → ⊥) → member ≡ b
    → IsSame next a b true
same_met next a b member s na e xs r =
    let P : ℕ → Type 0 = λ z. Stands z xs in (
      (λ t. subst P e (walking_on next a s.front member s.walking na xs r)),
      (λ h. refl),
    )

pub same_unmet : (next : List ℕ) (a b : ℕ) → Seeking next a b a → IsSame next a b false
same_unmet next a b s xs r =
    let P : List ℕ → Type 0 = λ z. Stands b z in (
      (λ t. absurd cc),
      (λ h. absurd (s.unmet (subst P (ring_unique next a xs s.front r (walking_ends next a s.front s.walking)) h))),
    )
