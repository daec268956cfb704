-- Lists that are put in order: what compares as equal is one, and each of a list stands among those in order.
--   Ties R                  each compares as equal with itself
--   keys es                 what is in order, without what is beside it
--   Stands R ks k           one that compares as equal is a member
use Rattle.std.proofs.Common.{◌≡◌, ◌⊎◌, inl, inr, List, [], ◌∷◌, map, refl, ap, ◌∙◌, arith}
use Rattle.std.specs.List.{IsAmong}
use Rattle.std.specs.Ordering.{ordering_then}
use Rattle.std.specs.declared.cmp.Ordering.{Ordering}
use Rattle.std.specs.declared.cmp.Ordering.TheVariants.{Less, Equal, Greater}
use Rattle.std.specs.Cmp.Lexicographic.{slice_cmp}
use Rattle.std.specs.FinMap.{put}
use Rattle.std.specs.FinMap.Entries.{by_order}
use Rattle.pungi_shape.proofs.sound.Members.{nothing_in, first_among, later_among, one_of}

-- ---- comparisons

abbrev pub Ties : {K : Type 0} → (K → K → Ordering) → Type 0
Ties {K} R = (x : K) → R x x ≡ Equal

pub then_ties : (o p : Ordering) → o ≡ Equal → p ≡ Equal → ordering_then o p ≡ Equal
then_ties o p e f = ap (λ z. ordering_then z p) e ∙ f

pub ties_lists : {K : Type 0} (R : K → K → Ordering) → Ties R → Ties (slice_cmp R)
ties_lists R ties [] = refl
ties_lists R ties (x ∷ xs) = then_ties (R x x) (slice_cmp R xs xs) (ties x) (ties_lists R ties xs)

-- ---- lists in order

abbrev pub keys : {K : Type 0} → List (K × Unit {0}) → List K
keys es = map (λ e. e.0) es

abbrev pub Stands : {K : Type 0} → (K → K → Ordering) → List K → K → Type 0
Stands {K} R ks k = (d : K) × (IsAmong ks d × (R k d ≡ Equal))

module _ {K : Type 0} (R : K → K → Ordering) where
  put_at : Ties R → (k : K) (e : K × Unit {0}) (es : List (K × Unit {0})) (o : Ordering) → R k e.0 ≡ o
      → Stands R (keys (put R k tt es)) k
      → Stands R (keys (by_order o ((k, tt) ∷ e ∷ es) ((e.0, tt) ∷ es) (e ∷ put R k tt es))) k
  put_at ties k e es Less h rest = (k, (first_among k (e.0 ∷ keys es), ties k))
  put_at ties k e es Equal h rest = (e.0, (first_among e.0 (keys es), h))
  put_at ties k e es Greater h rest =
      (rest.0, (later_among e.0 (keys (put R k tt es)) rest.0 rest.1.0, rest.1.1))

  pub put_has : Ties R → (k : K) (es : List (K × Unit {0})) → Stands R (keys (put R k tt es)) k
  put_has ties k [] = (k, (first_among k [], ties k))
  put_has ties k (e ∷ es) = put_at ties k e es (R k e.0) refl (put_has ties k es)

  keeps_at : (k : K) (e : K × Unit {0}) (es : List (K × Unit {0})) (o : Ordering) (d : K)
      → IsAmong (e.0 ∷ keys es) d → (IsAmong (keys es) d → IsAmong (keys (put R k tt es)) d)
      → IsAmong (keys (by_order o ((k, tt) ∷ e ∷ es) ((e.0, tt) ∷ es) (e ∷ put R k tt es))) d
  keeps_at k e es Less d there rest = later_among k (e.0 ∷ keys es) d there
  keeps_at k e es Equal d there rest = there
  keeps_at k e es Greater d there rest = elim (one_of e.0 (keys es) d there) [
    | inl h ↦ (0, (omega arith, h))
    | inr later ↦ later_among e.0 (keys (put R k tt es)) d (rest later)
  ]

  pub put_keeps : (k : K) (es : List (K × Unit {0})) (d : K) → IsAmong (keys es) d
      → IsAmong (keys (put R k tt es)) d
  put_keeps k [] d there = absurd (nothing_in d there)
  put_keeps k (e ∷ es) d there = keeps_at k e es (R k e.0) d there (put_keeps k es d)

  only_at : (k : K) (e : K × Unit {0}) (es : List (K × Unit {0})) (o : Ordering) (d : K)
      → IsAmong (keys (by_order o ((k, tt) ∷ e ∷ es) ((e.0, tt) ∷ es) (e ∷ put R k tt es))) d
      → (IsAmong (keys (put R k tt es)) d → (d ≡ k) ⊎ IsAmong (keys es) d)
      → (d ≡ k) ⊎ IsAmong (e.0 ∷ keys es) d
  only_at k e es Less d there rest = one_of k (e.0 ∷ keys es) d there
  only_at k e es Equal d there rest = inr there
  only_at k e es Greater d there rest = elim (one_of e.0 (keys (put R k tt es)) d there) [
    | inl h ↦ inr (0, (omega arith, h))
    | inr later ↦ elim (rest later) [
      | inl h ↦ inl h
      | inr old ↦ inr (later_among e.0 (keys es) d old)
    ]
  ]

  pub put_only : (k : K) (es : List (K × Unit {0})) (d : K) → IsAmong (keys (put R k tt es)) d
      → (d ≡ k) ⊎ IsAmong (keys es) d
  put_only k [] d there = one_of k [] d there
  put_only k (e ∷ es) d there = only_at k e es (R k e.0) d there (put_only k es d)
