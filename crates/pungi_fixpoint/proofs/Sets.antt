-- The members of the values in a list, where one of them changes.
use Rattle.std.proofs.Common.{◌≡◌, ℕ, ◌⊎◌, inl, inr, List, Option, Some, None, refl, sym, subst, slice_get, slice_set}
use Rattle.std.proofs.lemmas.Bool.{cases_eq}
use Rattle.std.proofs.lemmas.Option.{slice_get_within}
use Rattle.pungi_domain.specs.Vectors.{Vector, Vectors}
use Rattle.pungi_fixpoint.specs.Solver.{members, sets}
use Rattle.pungi_fixpoint.proofs.Gets.{set_other, set_same}

pub set_there : {D : Type 0} (member : D → Vectors) (ds : List D) (k : ℕ) (x : D) → slice_get ds k ≡ Some x
    → (v : Vector) → member x v → sets member ds k v
set_there member ds k x e v m = subst (λ o. members member o v) (sym e) m

pub set_of : {D : Type 0} (member : D → Vectors) (ds : List D) (k : ℕ) (v : Vector) → sets member ds k v
    → (x : D) × (slice_get ds k ≡ Some x) × member x v
set_of {D} member ds k v = go (slice_get ds k)
  where
    go : (o : Option D) → members member o v → (x : D) × (o ≡ Some x) × member x v
    go None h = absurd h
    go (Some x) h = (x, refl, h)

pub set_changes : {D : Type 0} (member : D → Vectors) (ds : List D) (k j : ℕ) (x y : D) → slice_get ds k ≡ Some x
    → (v : Vector) → sets member (slice_set ds k y) j v → ((j ≡ k) × member y v) ⊎ sets member ds j v
set_changes member ds k j x y e v m =
    elim (cases_eq j k) [
      | inl here ↦ inl (
        here,
        subst (λ o. members member o v) (set_same ds k y (slice_get_within ds k x e))
            (subst (λ i. sets member (slice_set ds k y) i v) here m),
      )
      | inr other ↦ inr (subst (λ o. members member o v) (set_other ds k j y other) m)
    ]

pub set_grows : {D : Type 0} (member : D → Vectors) (ds : List D) (k j : ℕ) (x y : D) → slice_get ds k ≡ Some x
    → ((v : Vector) → member x v → member y v) → (v : Vector) → sets member ds j v
    → sets member (slice_set ds k y) j v
set_grows member ds k j x y e grows v m =
    elim (cases_eq j k) [
      | inl here ↦ subst (λ i. sets member (slice_set ds k y) i v) (sym here)
          (subst (λ o. members member o v) (sym (set_same ds k y (slice_get_within ds k x e)))
          (grows v (subst (λ o. members member o v) e (subst (λ i. sets member ds i v) here m))))
      | inr other ↦ subst (λ o. members member o v) (sym (set_other ds k j y other)) m
    ]
